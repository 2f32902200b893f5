-- What the plain systems' choices and the heptad's beats amount to, above the way in which they are computed.
use Rattle.std.specs.Prelude.{◌≡◌, ℕ, ◌+◌, ◌%◌, ◌<◌, ◌≤◌, true, ◌⊎◌, ◌↔◌, List, length, Some, None, Option, slice_index}
use Rattle.std.specs.List.{AllByRecursion}
use Rattle.labels.specs.System.{System}

-- x beats every entry
abbrev pub BeatsAll : System → List ℕ → ℕ → Type 0
BeatsAll s l x = AllByRecursion (λ y. s.beats x y ≡ true) l

-- l leaves room for one more and holds only labels, and x is the least label that beats every entry
pub record LeastChosen (s : System) (l : List ℕ) (x : ℕ) : Type 0 where
  pub room : length l < s.order
  pub labels : AllByRecursion (λ y. y < s.count) l
  pub label : x < s.count
  pub beats_all : BeatsAll s l x
  pub least : (z : ℕ) → z < x → BeatsAll s l z → ⊥

-- l has no room, holds a number that is no label, or no label beats every entry
pub data NothingChosen (s : System) (l : List ℕ) : Type 0 where
  no_room : s.order ≤ length l → NothingChosen s l
  no_label : (k : ℕ) → k < length l → s.count ≤ slice_index l k → NothingChosen s l
  no_winner : ((z : ℕ) → z < s.count → BeatsAll s l z → ⊥) → NothingChosen s l

-- The choice r for l is x exactly when x is the least label that beats every entry, and none exactly when nothing can be chosen.
pub record ChoosesLeast (s : System) (l : List ℕ) (r : Option ℕ) : Type 0 where
  pub label_exactly : (x : ℕ) → (r ≡ Some x) ↔ LeastChosen s l x
  pub none_exactly : (r ≡ None) ↔ NothingChosen s l

-- x is above every entry, and nothing smaller is
pub record JustAbove (l : List ℕ) (x : ℕ) : Type 0 where
  pub above : AllByRecursion (λ y. y < x) l
  pub least : (z : ℕ) → AllByRecursion (λ y. y < z) l → x ≤ z

-- m is listed, and no entry is larger
pub record IsLargest (l : List ℕ) (m : ℕ) : Type 0 where
  pub at_least : (k : ℕ) → k < length l → slice_index l k ≤ m
  pub listed : (k : ℕ) × (k < length l) × (slice_index l k ≡ m)

-- a and b are below 7, and a is 1, 2 or 4 ahead of b modulo 7
pub record AheadBySquare (a b : ℕ) : Type 0 where
  pub first_label : a < 7
  pub second_label : b < 7
  pub step : ℕ
  pub square : (step ≡ 1) ⊎ ((step ≡ 2) ⊎ (step ≡ 4))
  pub meets : (b + step) % 7 ≡ a % 7
