-- When a counter is refused, and the numbers of the refusals.
use Rattle.std.specs.Prelude.{ℕ, ◌^◌, Bool, cond, ◌&&◌, Some, None, Option, nat_le}
use Rattle.plain.specs.declared.refusal.CounterRefusal.{CounterRefusal}
use Rattle.plain.specs.declared.refusal.CounterRefusal.TheVariants.{Order, Ceiling}

abbrev pub number : CounterRefusal → ℕ
number Order = 14
number Ceiling = 15

abbrev pub between : ℕ → ℕ → ℕ → Bool
between low high n = nat_le low n && nat_le n high

-- the first question that is answered no: is the order from 1 to 20, is the ceiling from 1 to 2^28?
abbrev pub counter_refusal : ℕ → ℕ → Option CounterRefusal
counter_refusal order ceiling =
    cond (between 1 20 order) (cond (between 1 (2 ^ 28) ceiling) None (Some Ceiling)) (Some Order)
