-- Choices worked out by hand, as a table.
use Rattle.std.specs.Prelude.{◌≡◌, ℕ, Bool, true, false, List, [], ◌∷◌, Some, None, Option}
use Rattle.std.specs.List.{AllByRecursion}
use Rattle.labels.specs.System.{System}
use Rattle.labels.specs.Plain.{triangle, heptad, counter}
use Rattle.over.specs.Over.{over}

pub data Sample : Type 0 where
  one_triangle : Sample
  one_heptad : Sample
  two_triangles : Sample
  two_heptads : Sample
  small_counter : Sample
  too_deep : Sample

abbrev pub sample : Sample → System
sample one_triangle = triangle
sample one_heptad = heptad
sample two_triangles = over triangle triangle
sample two_heptads = over heptad heptad
sample small_counter = counter 3 10
sample too_deep = over triangle (counter 20 100)

pub data Case : Type 0 where
  beats_is : Sample → ℕ → ℕ → Bool → Case
  choice_is : Sample → List ℕ → Option ℕ → Case
  order_is : Sample → ℕ → Case

abbrev pub Holds : Case → Type 0
Holds (beats_is s a b r) = (sample s).beats a b ≡ r
Holds (choice_is s l r) = (sample s).choice l ≡ r
Holds (order_is s r) = (sample s).order ≡ r

abbrev pub by_hand : List Case
by_hand =
    beats_is one_triangle 0 2 true
    ∷ beats_is one_triangle 2 0 false
    ∷ choice_is one_triangle (2 ∷ []) (Some 0)
    ∷ beats_is one_heptad 0 3 true
    ∷ choice_is one_heptad (0 ∷ 1 ∷ []) (Some 2)
    ∷ choice_is one_heptad (6 ∷ []) (Some 0)
    ∷ choice_is one_heptad (0 ∷ 1 ∷ 2 ∷ []) None
    ∷ choice_is one_heptad (7 ∷ []) None
    ∷ choice_is two_triangles (0 ∷ 1 ∷ []) (Some 3)
    ∷ choice_is two_triangles (1 ∷ 3 ∷ []) (Some 4)
    ∷ choice_is two_triangles (6 ∷ 7 ∷ []) (Some 0)
    ∷ choice_is two_triangles (0 ∷ 1 ∷ 3 ∷ []) None
    ∷ choice_is two_heptads (0 ∷ 1 ∷ 2 ∷ []) (Some 7)
    ∷ choice_is two_heptads (0 ∷ 1 ∷ 2 ∷ 7 ∷ []) (Some 8)
    ∷ choice_is small_counter (5 ∷ 2 ∷ []) (Some 6)
    ∷ choice_is small_counter (9 ∷ []) None
    ∷ order_is too_deep 0
    ∷ []

abbrev pub Worked : Type 0
Worked = AllByRecursion Holds by_hand
