-- The number of each cause of a fault.
use Rattle.std.specs.Prelude.{ℕ}
use Rattle.station.specs.Numbers.{number}
use Rattle.trace.specs.Faults.{fault_number}
use Rattle.listing.specs.declared.fault.Cause.{Cause}
use Rattle.listing.specs.declared.fault.Cause.TheVariants.{Length, Word, Station}

abbrev pub cause_number : Cause → ℕ
cause_number Length = 16
cause_number (Word fault) = fault_number fault
cause_number (Station refusal) = number refusal.reason
