-- The candidate for the place that leads, and what the two passes of a search find.
use Rattle.std.specs.Prelude.{◌≡◌, ℕ, Bool, true, cond, ◌||◌, List, Some, None, Option, MatchOption, ◌==◌, slice_index_or}
use Rattle.search.specs.Search.{LeadsFrom}
use Rattle.search.specs.declared.search.Candidate.{Candidate}

-- a labelled place is the next candidate where there is none yet, or where its label leads the candidate's
abbrev pub next_best : (ℕ → ℕ → Bool) → ℕ → Option ℕ → Option Candidate → Option Candidate
next_best leads i None best = best
next_best leads i (Some a) None = Some (record { place = i; label = a })
next_best leads i (Some a) (Some c) = cond (leads a c.label) (Some (record { place = i; label = a })) (Some c)

-- whether a place is the candidate's own, has no label, or has one that the candidate's label leads
abbrev pub led_by : (ℕ → ℕ → Bool) → Candidate → ℕ → Option ℕ → Bool
led_by leads c q None = true
led_by leads c q (Some b) = q == c.place || leads c.label b

-- c is a labelled place, and no place but c's can lead
pub record OnlyCandidate (leads : ℕ → ℕ → Bool) (ls : List (Option ℕ)) (c : Candidate) : Type 0 where
  pub here : slice_index_or ls c.place None ≡ Some c.label
  pub only : (p : ℕ) → LeadsFrom leads ls p → p ≡ c.place

-- the one place that can lead, or none can
abbrev pub Narrows : (ℕ → ℕ → Bool) → List (Option ℕ) → Option Candidate → Type 0
Narrows leads ls r = MatchOption r ((p : ℕ) → LeadsFrom leads ls p → ⊥) (OnlyCandidate leads ls)

-- r is a place that leads, or none does
abbrev pub IsLeading : (ℕ → ℕ → Bool) → List (Option ℕ) → Option ℕ → Type 0
IsLeading leads ls r = MatchOption r ((p : ℕ) → LeadsFrom leads ls p → ⊥) (LeadsFrom leads ls)
