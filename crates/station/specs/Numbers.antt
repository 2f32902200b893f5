-- The number of each reason for a refusal.
use Rattle.std.specs.Prelude.{ℕ}
use Rattle.station.specs.declared.refusal.Reason.{Reason}
use Rattle.station.specs.declared.refusal.Reason.TheVariants.{AlreadyOpen, SeatCount, OrderTooSmall, NoSuchSeat, MapTooLarge, NotIdle, NotWaiting, NotHolding, StartTaken, NobodyWaits, NoWriting, NothingStands, NoLabelLeft}

abbrev pub number : Reason → ℕ
number AlreadyOpen = 1
number SeatCount = 2
number OrderTooSmall = 3
number NoSuchSeat = 4
number MapTooLarge = 5
number NotIdle = 6
number NotWaiting = 7
number NotHolding = 8
number StartTaken = 9
number NobodyWaits = 10
number NoWriting = 11
number NothingStands = 12
number NoLabelLeft = 13
