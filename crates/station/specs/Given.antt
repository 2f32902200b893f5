-- What a call asks for, or the refusal about a seat.
use Rattle.std.specs.Prelude.{ℕ, Bool, cond, Ok, Err, Option, Result, ok_or}
use Rattle.station.specs.declared.refusal.Reason.{Reason}
use Rattle.station.specs.declared.refusal.Refusal.{Refusal}

abbrev pub given : {X : Type 0} → Option X → Reason → ℕ → Result X Refusal
given o reason seat = ok_or o (record { reason = reason; seat = seat })

abbrev pub granted : {X : Type 0} → Bool → X → Reason → ℕ → Result X Refusal
granted holds x reason seat = cond holds (Ok x) (Err (record { reason = reason; seat = seat }))
