-- The three plain systems: triangle, heptad and counter.
use Rattle.std.specs.Prelude.{◌≡◌, ℕ, zero, suc, ◌+◌, ◌-◌, ◌%◌, ◌<◌, ◌≤◌, max, Bool, true, false, cond, ◌&&◌, ◌||◌, ltb, List, [], ◌∷◌, length, Some, None, Option, ◌==◌, ◌≢◌, nat_eq, nat_lt, slice_index}
use Rattle.std.specs.List.{AllByRecursion, list_all}
use Rattle.std.specs.List.Sorted.{IsPermutation}
use Rattle.labels.specs.System.{System}

-- each entry beats all before it
abbrev pub Climbs : (ℕ → ℕ → Bool) → List ℕ → Type 0
Climbs beats l = (i j : ℕ) → i < j → j < length l → beats (slice_index l j) (slice_index l i) ≡ true

abbrev pub Distinct : List ℕ → Type 0
Distinct l = (i j : ℕ) → i < j → j < length l → slice_index l i ≢ slice_index l j

-- A chain: distinct labels below the count that can be put in an order in which each beats all before it.
pub record Chain (count : ℕ) (beats : ℕ → ℕ → Bool) (l : List ℕ) : Type 0 where
  pub labels : AllByRecursion (λ x. x < count) l
  pub distinct : Distinct l
  pub line : List ℕ
  pub same : IsPermutation l line
  pub climbs : Climbs beats line

pub record ShortChain (order count : ℕ) (beats : ℕ → ℕ → Bool) (l : List ℕ) : Type 0 where
  pub short : length l ≤ order
  pub chain : Chain count beats l

-- beats, where both are labels
abbrev pub bounded : ℕ → (ℕ → ℕ → Bool) → ℕ → ℕ → Bool
bounded count beats a b = nat_lt a count && nat_lt b count && beats a b

-- In a plain system beats holds only between labels, and the lawful lists are the chains of at most order entries.
abbrev pub plain : ℕ → ℕ → (ℕ → ℕ → Bool) → (List ℕ → Option ℕ) → Bool → System
plain order count beats choice endless = record {
  order = order;
  count = count;
  beats = bounded count beats;
  lawful = ShortChain order count (bounded count beats);
  choice = choice;
  endless = endless;
}

abbrev pub all_below : ℕ → List ℕ → Bool
all_below n l = list_all (λ x. nat_lt x n) l

-- whether l leaves room for one more, and holds only labels
abbrev pub takes_one_more : ℕ → ℕ → List ℕ → Bool
takes_one_more order count l = nat_lt (length l) order && all_below count l

-- whether x beats every entry
abbrev pub beats_all : (ℕ → ℕ → Bool) → ℕ → List ℕ → Bool
beats_all beats x l = list_all (beats x) l

-- Triangle: three labels in a ring, each beating the one before it.
abbrev pub next_in_ring : ℕ → ℕ
next_in_ring b = (b + 1) % 3

abbrev pub triangle_choice : List ℕ → Option ℕ
triangle_choice [] = Some 0
triangle_choice (b ∷ []) = cond (nat_lt b 3) (Some (next_in_ring b)) None
triangle_choice (b ∷ c ∷ l) = None

abbrev pub triangle : System
triangle = plain 2 3 (λ a b. nat_eq a (next_in_ring b)) triangle_choice true

-- Heptad: the Paley tournament on seven points. How far a is ahead of b, modulo 7, from 0 to 6:
abbrev pub ahead : ℕ → ℕ → ℕ
ahead a b = (a % 7 + 7 - b % 7) % 7

-- a beats b where that is 1, 2 or 4, the squares modulo 7
abbrev pub paley : ℕ → ℕ → Bool
paley a b = ahead a b == 1 || ahead a b == 2 || ahead a b == 4

-- the least of the n numbers from x on that beats every entry
abbrev pub least_from : (ℕ → ℕ → Bool) → List ℕ → ℕ → ℕ → Option ℕ
least_from beats l zero x = None
least_from beats l (suc n) x = cond (beats_all beats x l) (Some x) (least_from beats l n (x + 1))

abbrev pub heptad_choice : List ℕ → Option ℕ
heptad_choice l = cond (takes_one_more 3 7 l) (least_from (bounded 7 paley) l 7 0) None

abbrev pub heptad : System
heptad = plain 3 7 paley heptad_choice true

-- Counter: labels that rise up to a ceiling, and are then spent.
abbrev pub largest : List ℕ → ℕ
largest [] = 0
largest (x ∷ xs) = max x (largest xs)

-- one past the largest entry, if that is below the ceiling; 0 where nothing is listed
abbrev pub past : ℕ → List ℕ → Option ℕ
past ceiling [] = Some 0
past ceiling (x ∷ xs) = cond (nat_lt (largest (x ∷ xs) + 1) ceiling) (Some (largest (x ∷ xs) + 1)) None

abbrev pub counter_choice : ℕ → ℕ → List ℕ → Option ℕ
counter_choice order ceiling l = cond (takes_one_more order ceiling l) (past ceiling l) None

abbrev pub counter : ℕ → ℕ → System
counter order ceiling = plain order ceiling (λ a b. ltb b a) (counter_choice order ceiling) false
