-- How often a label stands in a list, and what that says of removals and of other orders.
use Rattle.std.proofs.Common.{◌≡◌, ℕ, zero, suc, ◌+◌, ◌-◌, ◌<◌, ◌≤◌, Bool, true, false, cond, eqb, List, [], ◌∷◌, ◌++◌, map, length, get_or, sum_by, filter, sym, refl, ap, ◌∙◌, subst, inl, inr, arith}
use Rattle.std.specs.List.{remove, AllByRecursion}
use Rattle.std.specs.List.Sorted.{IsPermutation}
use Rattle.std.proofs.lemmas.List.Sums.{sum_by-cons}
use Rattle.std.proofs.lemmas.List.Sorted.{sum_by-IsPermutation, length_permutation, IsPermutation-refl, IsPermutation-trans, IsPermutation-cons, IsPermutation-remove}
use Rattle.std.proofs.lemmas.List.{append-nil, length-append, length-map, get_or-map, get_or_default}
use Rattle.std.proofs.ByRecursion.{All-get_or, All-from_get_or}
use Rattle.std.proofs.lemmas.List.Edits.{get_or-remove_below, get_or-remove_above, length-remove, remove-append_right}
use Rattle.std.proofs.lemmas.Bool.{cases_eq, eq-eqb, ne_eqb, cond-true, cond-false, cases_lt}

abbrev pub one : ℕ → ℕ → ℕ
one y x = cond (eqb y x) 1 0

abbrev pub tally : ℕ → List ℕ → ℕ
tally x [] = 0
tally x (y ∷ ys) = one y x + tally x ys

pub one_same : (x : ℕ) → one x x ≡ 1
one_same x = cond-true (eqb x x) 1 0 (eq-eqb x x refl)

pub one_is : (y x : ℕ) → y ≡ x → one y x ≡ 1
one_is y x e = cond-true (eqb y x) 1 0 (eq-eqb y x e)

pub one_other : (y x : ℕ) → (y ≡ x → ⊥) → one y x ≡ 0
one_other y x n = cond-false (eqb y x) 1 0 (ne_eqb y x n)

pub one_le : (y x : ℕ) → one y x ≤ 1
one_le y x = elim (cases_eq y x) [ inl e ↦ omega (arith, one_is y x e) | inr n ↦ omega (arith, one_other y x n) ]

pub one_pos : (y x : ℕ) → 0 < one y x → y ≡ x
one_pos y x p = elim (cases_eq y x) [ inl e ↦ e | inr n ↦ let z : ◌≡◌ {A = ℕ} 0 1 = omega (arith, one_other y x n) in omega arith ]

pub tally_is_sum : (x : ℕ) (l : List ℕ) → tally x l ≡ sum_by (λ y. one y x) l
tally_is_sum x [] = refl
tally_is_sum x (y ∷ ys) = ap (λ n. one y x + n) (tally_is_sum x ys) ∙ sym (sum_by-cons (λ y. one y x) y ys)

pub tally_shuffled : (x : ℕ) (l m : List ℕ) → IsPermutation l m → tally x m ≡ tally x l
tally_shuffled x l m s = tally_is_sum x m ∙ sum_by-IsPermutation (λ y. one y x) l m s ∙ sym (tally_is_sum x l)

pub tally_append : (x : ℕ) (l m : List ℕ) → tally x (l ++ m) ≡ tally x l + tally x m
tally_append x [] m = omega arith
tally_append x (y ∷ ys) m = omega (arith, tally_append x ys m)

pub tally_removed : (x : ℕ) (l : List ℕ) (k : ℕ) → k < length l → tally x (remove l k) + one (get_or l k 0) x ≡ tally x l
tally_removed x [] k h = omega arith
tally_removed x (y ∷ ys) zero h = omega arith
tally_removed x (y ∷ ys) (suc k) h = omega (arith, tally_removed x ys k (omega arith))

pub tally_kept : (p : ℕ → Bool) (x : ℕ) (l : List ℕ) → tally x (filter p l) ≡ cond (p x) (tally x l) 0
tally_kept p x [] = elim (p x) as (λ b. ◌≡◌ {A = ℕ} 0 (cond b 0 0)) [ true ↦ refl | false ↦ refl ]
tally_kept p x (y ∷ ys) = let h = tally_kept p x ys in grind (arith, one_is y x, one_other y x)

pub place_of : (x : ℕ) (l : List ℕ) → 0 < tally x l → (k : ℕ) × (k < length l) × (get_or l k 0 ≡ x)
place_of x [] h = absurd (omega arith)
place_of x (y ∷ ys) h =
    elim (cases_eq y x) [
      | inl e ↦ (0, omega arith, e)
      | inr n ↦ let r = place_of x ys (omega (arith, one_other y x n)) in (suc r.0, omega (arith, r.1), r.2)
    ]

pub tally_at : (l : List ℕ) (k : ℕ) → k < length l → 0 < tally (get_or l k 0) l
tally_at [] k h = omega arith
tally_at (y ∷ ys) zero h = omega (arith, one_same y)
tally_at (y ∷ ys) (suc k) h = omega (arith, tally_at ys k (omega arith))

-- two places with one label
pub tally_two : (l : List ℕ) (j k : ℕ) → j < length l → k < length l → (j ≡ k → ⊥) → get_or l j 0 ≡ get_or l k 0 → 1 < tally (get_or l k 0) l
tally_two [] j k hj hk n e = omega arith
tally_two (y ∷ ys) zero zero hj hk n e = absurd (n refl)
tally_two (y ∷ ys) zero (suc k) hj hk n e = omega (arith, one_is y (get_or ys k 0) e, tally_at ys k (omega arith))
tally_two (y ∷ ys) (suc j) zero hj hk n e =
    let p : 0 < tally y ys = rw e at (tally_at ys j (omega arith)) in omega (arith, one_same y)
tally_two (y ∷ ys) (suc j) (suc k) hj hk n e =
    omega (arith, tally_two ys j k (omega arith) (omega arith) (λ q. n (ap suc q)) e)

-- a label that stands there at least twice stands at another place too
pub other_place : (l : List ℕ) (k : ℕ) → k < length l → 1 < tally (get_or l k 0) l → (j : ℕ) × (j < length l) × (j ≡ k → ⊥) × (get_or l j 0 ≡ get_or l k 0)
other_place l k h two =
    let x : ℕ = get_or l k 0 in
    let p = place_of x (remove l k) (omega (arith, tally_removed x l k h, one_same x)) in
    let len = length-remove l k h in
    elim (cases_lt p.0 k) [
      | inl lt ↦ (p.0, omega arith, omega arith, sym (get_or-remove_below l k 0 p.0 lt h) ∙ p.2)
      | inr ge ↦ (p.0 + 1, omega arith, omega arith, sym (get_or-remove_above l k 0 p.0 ge h) ∙ p.2)
    ]

abbrev pub Within : List ℕ → List ℕ → Type 0
Within m l = (x : ℕ) → tally x m ≤ tally x l

-- what is left of l beside a part of it
pub rest_of : (m l : List ℕ) → Within m l → (r : List ℕ) × IsPermutation l (m ++ r)
rest_of [] l w = (l, IsPermutation-refl l)
rest_of (x ∷ m) l w =
    let k = place_of x l (omega (arith, w x, one_same x)) in
    let left : List ℕ = remove l k.0 in
    -- the x at k brought to the front
    let p : IsPermutation l (x ∷ left) = IsPermutation-remove l k.0 x k.1 (sym k.2 ∙ get_or_default l k.0 0 x k.1) in
    let q = rest_of m left (λ y. omega (arith, w y, tally_shuffled y l (x ∷ left) p)) in
    (q.0, IsPermutation-trans _ _ _ p (IsPermutation-cons x left (m ++ q.0) q.1))

-- what is kept under removals and other orders is kept under every part
module _ (P : List ℕ → Type 0) (fewer : (l : List ℕ) (k : ℕ) → k < length l → P l → P (remove l k)) (moved : (l m : List ℕ) → IsPermutation l m → P l → P m) where
  front : (m r : List ℕ) → P (m ++ r) → P m
  front m [] p = rw append-nil at p
  front m (y ∷ r) p =
      let first : length m - length m ≡ 0 = omega arith in
      let e = remove-append_right m (y ∷ r) (length m) (length m) refl (omega arith) ∙ ap (λ k. m ++ remove (y ∷ r) k) first in
      front m r (subst P e (fewer (m ++ y ∷ r) (length m) (simp length-append (omega arith)) p))

  pub part_kept : (m l : List ℕ) → Within m l → P l → P m
  part_kept m l w p = let r = rest_of m l w in front m r.0 (moved l (m ++ r.0) r.1 p)

pub all_tally : (P : ℕ → Type 0) (l : List ℕ) (x : ℕ) → AllByRecursion P l → 0 < tally x l → P x
all_tally P l x all h = let p = place_of x l h in subst P p.2 (All-get_or P l p.0 0 p.1 all)

pub tally_all : (P : ℕ → Type 0) (l : List ℕ) → ((x : ℕ) → 0 < tally x l → P x) → AllByRecursion P l
tally_all P l each = All-from_get_or P l 0 (λ k h. each (get_or l k 0) (tally_at l k h))

pub nil_from_tally : (l : List ℕ) → ((x : ℕ) → tally x l ≡ 0) → l ≡ []
nil_from_tally [] none = refl
nil_from_tally (y ∷ ys) none = absurd (omega (arith, none y, one_same y))

pub tally_map : (f : ℕ → ℕ) (x : ℕ) (l : List ℕ) → 0 < tally x l → 0 < tally (f x) (map f l)
tally_map f x [] h = omega arith
tally_map f x (y ∷ ys) h =
    elim (cases_eq y x) [
      | inl e ↦ omega (arith, one_is (f y) (f x) (ap f e))
      | inr n ↦ omega (arith, tally_map f x ys (omega (arith, one_other y x n)))
    ]

pub tally_map_from : (f : ℕ → ℕ) (y : ℕ) (l : List ℕ) → 0 < tally y (map f l) → (x : ℕ) × (0 < tally x l) × (f x ≡ y)
tally_map_from f y l h =
    let p = place_of y (map f l) h in
    let lt : p.0 < length l = omega (arith, p.1, length-map l f) in
    (get_or l p.0 0, tally_at l p.0 lt, sym (get_or-map f l p.0 0 0 lt) ∙ p.2)

-- an equal tally is another order
pub shuffled_from_tally : (l m : List ℕ) → ((x : ℕ) → tally x m ≡ tally x l) → IsPermutation l m
shuffled_from_tally l m same =
    let r = rest_of m l (λ x. omega (arith, same x)) in
    let e : r.0 ≡ [] = nil_from_tally r.0 (λ x. omega (arith, same x, tally_shuffled x l (m ++ r.0) r.1, tally_append x m r.0)) in
    subst (λ z. IsPermutation l z) (ap (λ z. m ++ z) e ∙ append-nil m) r.1

pub within_length : (m l : List ℕ) → Within m l → length m ≤ length l
within_length m l w = let r = rest_of m l w in omega (arith, length_permutation l (m ++ r.0) r.1, length-append m r.0)
