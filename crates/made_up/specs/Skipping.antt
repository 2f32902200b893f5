-- A system for tests, whose choice depends on the order of the list: a counter of order 3 and ceiling 100 that skips a
-- label where the first listed label is odd.
use Rattle.std.specs.Prelude.{ℕ, ◌+◌, ◌%◌, max, false, cond, ◌&&◌, ltb, List, [], ◌∷◌, Some, None, Option, nat_lt}
use Rattle.labels.specs.System.{System}
use Rattle.labels.specs.Plain.{plain}

abbrev pub past : ℕ → ℕ → Option ℕ
past a b = cond (nat_lt (max a b + 1 + a % 2) 100) (Some (max a b + 1 + a % 2)) None

abbrev pub skipping_choice : List ℕ → Option ℕ
skipping_choice [] = Some 0
skipping_choice (a ∷ []) = cond (nat_lt a 100) (past a a) None
skipping_choice (a ∷ b ∷ []) = cond (nat_lt a 100 && nat_lt b 100) (past a b) None
skipping_choice (a ∷ b ∷ c ∷ l) = None

abbrev pub skipping : System
skipping = plain 3 100 (λ a b. ltb b a) skipping_choice false
