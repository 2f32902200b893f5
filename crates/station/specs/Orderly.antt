-- In which order a call's questions are asked, and what it leaves alone, whatever the system and the table.
use Rattle.std.specs.Prelude.{◌≡◌, ℕ, Bool, true, false, ◌&&◌, ◌⊎◌, List, [], ◌∷◌, length, Ok, Err, ◌==◌, nat_le}
use Rattle.labels.specs.System.{System}
use Rattle.station.specs.declared.call.Call.{Call}
use Rattle.station.specs.declared.call.Call.TheVariants.{Open, Join, Leave, Start, Finish, Write, Strike, Read, Earlier, Newer, Label}
use Rattle.station.specs.declared.answer.Answer.{Answer}
use Rattle.station.specs.declared.answer.Answer.TheVariants.{Done, Started, Reading, Verdict, Labelled}
use Rattle.station.specs.declared.refusal.Refusal.{Refusal}
use Rattle.station.specs.Table.{Table}
use Rattle.station.specs.Told.{row_at}
use Rattle.station.specs.Numbers.{number}
use Rattle.station.specs.Questions.{Asked, Reply}
use Rattle.station.specs.Facts.{Facts, questions_over}
use Rattle.station.specs.Rules.{questions}

-- whether a start went to this seat
abbrev pub starts : Answer → ℕ → Bool
starts Done seat = false
starts (Started x) seat = x.seat == seat
starts (Reading x) seat = false
starts (Verdict b) seat = false
starts (Labelled x) seat = false

-- whether an accepted call is on this seat: one that opens a station is on all of them
abbrev pub is_on : Call → Answer → ℕ → Bool
is_on (Open n) a seat = true
is_on (Join named) a seat = named == seat
is_on (Leave named) a seat = named == seat
is_on Start a seat = starts a seat
is_on (Finish named) a seat = named == seat
is_on (Write named map) a seat = named == seat
is_on (Strike named) a seat = named == seat
is_on Read a seat = false
is_on (Earlier first second) a seat = false
is_on (Newer first second) a seat = false
is_on (Label named) a seat = false

-- whether the numbers of questions never fall, from n on
abbrev pub rise_from : ℕ → List Asked → Bool
rise_from n [] = true
rise_from n (q ∷ qs) = nat_le n (number q.reason) && rise_from (number q.reason) qs

pub record Orderly (s : System) (before now : Table) (call : Call) (r : Reply) : Type 0 where
  -- the questions are asked by rising number, whatever the table and the facts
  pub asked : (t : Table) → rise_from 1 (questions s t call) ≡ true
  pub asked_over : (f : Facts) → rise_from 1 (questions_over f call) ≡ true
  -- a refusal leaves everything as it was
  pub refused : (e : Refusal) → r ≡ Err e → now ≡ before
  -- a call on one seat leaves every other row as it was
  pub others : (a : Answer) → r ≡ Ok a → (seat : ℕ) → is_on call a seat ≡ false → row_at now seat ≡ row_at before seat
  -- no call but an opening changes the number of seats
  pub seats : (length now ≡ length before) ⊎ ((n : ℕ) × (call ≡ Open n))
