-- A rolling group: as many hold labels as the system's order allows, and in each round the one who has held a label
-- longest gives it back to make room for a newcomer. So beside a newcomer those still hold labels who came in the
-- order − 1 rounds before.
use Rattle.std.specs.Prelude.{◌≡◌, ℕ, zero, suc, ◌+◌, ◌-◌, ◌<◌, true, List, [], ◌∷◌, ◌++◌, length, drop, Some, None, Option, slice_index}
use Rattle.labels.specs.System.{System}

-- the last n entries
abbrev pub latest : ℕ → List ℕ → List ℕ
latest n l = drop (length l - n) l

abbrev pub added : List ℕ → Option ℕ → List ℕ
added l None = l
added l (Some x) = l ++ x ∷ []

-- the labels given in the first n rounds, oldest first; a round in which there is no choice gives none
abbrev pub rolled : System → ℕ → List ℕ
rolled s zero = []
rolled s (suc n) = added (rolled s n) (s.choice (latest (s.order - 1) (rolled s n)))

-- what the labels given in n rounds are, and what holds of them in every system
pub record Rolled (s : System) (n : ℕ) (given : List ℕ) : Type 0 where
  pub by_choice : given ≡ rolled s n
  -- each label beats all that are held when it is given
  pub newer_beats : (i j : ℕ) → i < j → j < length given → j < i + s.order → s.beats (slice_index given j) (slice_index given i) ≡ true
  -- an endless system gives a label in every round
  pub never_spent : s.endless ≡ true → 0 < s.order → length given ≡ n
