-- The piles that heads name, and their numbers.
use Rattle.std.specs.Prelude.{ℕ, cond, ◌==◌, Some, None, Ok, Err, Option, Result}
use Rattle.trace.specs.declared.fault.WordFault.{WordFault}
use Rattle.trace.specs.declared.pile.Pile.{Pile}
use Rattle.trace.specs.declared.pile.Pile.TheVariants.{One, Two, Three, Four}

abbrev pub pile_number : Pile → ℕ
pile_number One = 1
pile_number Two = 2
pile_number Three = 3
pile_number Four = 4

abbrev pub pile_numbered : ℕ → Option Pile
pile_numbered n = cond (n == 1) (Some One) (cond (n == 2) (Some Two) (cond (n == 3) (Some Three) (cond (n == 4) (Some Four) None)))

-- the number of the pile that was read, or the fault
abbrev pub numbers : Result Pile WordFault → Result ℕ WordFault
numbers (Ok pile) = Ok (pile_number pile)
numbers (Err fault) = Err fault
