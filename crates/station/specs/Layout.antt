-- Rows laid out for a search, one for each seat, by rising seat.
use Rattle.std.specs.Prelude.{ℕ, ◌+◌, List, [], ◌∷◌}
use Rattle.station.specs.declared.row.Row.{Row}
use Rattle.station.specs.Table.{Table}

abbrev pub laid_out : {X : Type 0} → (ℕ → Row → X) → ℕ → Table → List X
laid_out make seat [] = []
laid_out make seat (row ∷ t) = make seat row ∷ laid_out make (seat + 1) t
