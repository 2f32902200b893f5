-- What a label system means, and the laws that its meaning shows.
use Rattle.std.specs.Prelude.{◌≡◌, ℕ, ◌^◌, ◌<◌, ◌≤◌, Bool, true, List, [], ◌∷◌, ◌++◌, length, Some, None, Option, ◌≢◌, slice_index}
use Rattle.std.specs.List.{remove, AllByRecursion}
use Rattle.std.specs.List.Sorted.{IsPermutation}

-- A label system gives labels, whole numbers, to parties that come and go. Of the labels held together each tells
-- newer from older by what it beats, though the same few labels are given again and again.
pub record System : Type 1 where
  -- how many parties may hold labels together
  pub order : ℕ
  -- the labels are the numbers below the count
  pub count : ℕ
  -- the first of two labels held together is the newer
  pub beats : ℕ → ℕ → Bool
  -- lists of labels that parties may come to hold together
  pub lawful : List ℕ → Type 0
  -- the label for a newcomer beside those who hold the listed labels, or none
  pub choice : List ℕ → Option ℕ
  -- whether a newcomer can always be given a label while fewer than order parties hold one
  pub endless : Bool

-- the label at place k of l beats the labels at all other places
pub record LeadsAt (beats : ℕ → ℕ → Bool) (l : List ℕ) (k : ℕ) : Type 0 where
  pub within : k < length l
  pub beats_others : (j : ℕ) → j < length l → (j ≢ k) → beats (slice_index l k) (slice_index l j) ≡ true

-- the ranges of the two numbers
pub record InRange (s : System) : Type 0 where
  pub order_at_most : s.order ≤ 20
  pub count_at_most : s.count ≤ 2 ^ 28

pub record Laws (s : System) : Type 0 where
  -- beats holds only between labels, and never both ways, so no label beats itself
  pub between_labels : (a b : ℕ) → s.beats a b ≡ true → (a < s.count) × (b < s.count)
  pub one_way : (a b : ℕ) → s.beats a b ≡ true → s.beats b a ≢ true
  -- the empty list is lawful, and so is a lawful list with one entry removed, or put into another order
  pub empty_lawful : s.lawful []
  pub removed_lawful : (l : List ℕ) (k : ℕ) → k < length l → s.lawful l → s.lawful (remove l k)
  pub reordered_lawful : (l m : List ℕ) → IsPermutation l m → s.lawful l → s.lawful m
  -- a lawful list has at most order entries, all of them labels; unless it is empty, one place leads all others
  pub lawful_short : (l : List ℕ) → s.lawful l → length l ≤ s.order
  pub lawful_labels : (l : List ℕ) → s.lawful l → AllByRecursion (λ x. x < s.count) l
  pub lawful_led : (l : List ℕ) → s.lawful l → 0 < length l → (k : ℕ) × LeadsAt s.beats l k
  -- what is chosen is a label; beside a lawful list it beats each entry, and the list with it added is lawful
  pub chosen_label : (l : List ℕ) (x : ℕ) → s.choice l ≡ Some x → x < s.count
  pub chosen_beats : (l : List ℕ) (x : ℕ) → s.choice l ≡ Some x → s.lawful l → AllByRecursion (λ y. s.beats x y ≡ true) l
  pub chosen_lawful : (l : List ℕ) (x : ℕ) → s.choice l ≡ Some x → s.lawful l → s.lawful (l ++ x ∷ [])
  -- nothing is chosen beside order or more entries; an endless system chooses beside every shorter lawful list
  pub full_none : (l : List ℕ) → s.order ≤ length l → s.choice l ≡ None
  pub endless_some : s.endless ≡ true → (l : List ℕ) → s.lawful l → length l < s.order → (x : ℕ) × (s.choice l ≡ Some x)
  -- order and count are within their ranges
  pub in_range : InRange s
