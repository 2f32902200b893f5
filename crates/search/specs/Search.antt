-- The head and the tail of a buffer of entries, over the list of what each entry tells: its label, or none.
use Rattle.std.specs.Prelude.{◌≡◌, ℕ, ◌+◌, ◌<◌, Bool, true, cond, ◌&&◌, ◌||◌, List, [], ◌∷◌, length, get_or, Some, None, Option, ◌==◌, ◌≢◌, slice_index_or}
use Rattle.labels.specs.System.{System}

-- whether the label a, which stands at place p, leads the label at every other place of ls; ls begins at place k
abbrev pub leads_rest : (ℕ → ℕ → Bool) → ℕ → ℕ → ℕ → List (Option ℕ) → Bool
leads_rest leads a p k [] = true
leads_rest leads a p k (None ∷ ls) = leads_rest leads a p (k + 1) ls
leads_rest leads a p k (Some b ∷ ls) = (k == p || leads a b) && leads_rest leads a p (k + 1) ls

-- the first place of ls, which begins at place k, whose label leads the label at every other place of all
abbrev pub first_leading : (ℕ → ℕ → Bool) → List (Option ℕ) → ℕ → List (Option ℕ) → Option ℕ
first_leading leads all k [] = None
first_leading leads all k (None ∷ ls) = first_leading leads all (k + 1) ls
first_leading leads all k (Some a ∷ ls) = cond (leads_rest leads a k 0 all) (Some k) (first_leading leads all (k + 1) ls)

abbrev pub leading_place : (ℕ → ℕ → Bool) → List (Option ℕ) → Option ℕ
leading_place leads ls = first_leading leads ls 0 ls

-- The head: the labelled place whose label beats that at every other labelled place, or none.
abbrev pub head_of : System → List (Option ℕ) → Option ℕ
head_of s ls = leading_place s.beats ls

-- The tail: the labelled place whose label is beaten by that at every other labelled place, or none.
abbrev pub tail_of : System → List (Option ℕ) → Option ℕ
tail_of s ls = leading_place (λ a b. s.beats b a) ls

-- place p is labelled, and its label leads the label at every other labelled place
pub record LeadsFrom (leads : ℕ → ℕ → Bool) (ls : List (Option ℕ)) (p : ℕ) : Type 0 where
  pub label : ℕ
  pub here : get_or ls p None ≡ Some label
  pub others : (q b : ℕ) → (q ≢ p) → slice_index_or ls q None ≡ Some b → leads label b ≡ true

-- What a search answers, in words: a place found is in the buffer, and leads; there is no other such place; and where
-- none is found there is none.
pub record Finds (leads : ℕ → ℕ → Bool) (ls : List (Option ℕ)) (r : Option ℕ) : Type 0 where
  pub found : (p : ℕ) → r ≡ Some p → LeadsFrom leads ls p
  pub within : (p : ℕ) → r ≡ Some p → p < length ls
  pub only : (p q : ℕ) → LeadsFrom leads ls p → LeadsFrom leads ls q → p ≡ q
  pub none_found : r ≡ None → (p : ℕ) → LeadsFrom leads ls p → ⊥

-- the labels of a buffer, in order
abbrev pub labels_in : List (Option ℕ) → List ℕ
labels_in [] = []
labels_in (None ∷ ls) = labels_in ls
labels_in (Some a ∷ ls) = a ∷ labels_in ls

-- over a lawful list of labels that is not empty, the search finds a place
abbrev pub FoundWhereLawful : System → List (Option ℕ) → Option ℕ → Type 0
FoundWhereLawful s ls r = s.lawful (labels_in ls) → 0 < length (labels_in ls) → r ≢ None
