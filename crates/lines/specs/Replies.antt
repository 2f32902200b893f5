-- The entry for a reply to a call.
use Rattle.std.specs.Prelude.{ℕ, Bool, None, Some, Ok, Err, Option, Result}
use Rattle.station.specs.declared.call.Call.{Call}
use Rattle.station.specs.declared.call.Call.TheVariants as call
use Rattle.station.specs.declared.answer.Answer.{Answer}
use Rattle.station.specs.declared.answer.Answer.TheVariants.{Done, Started, Reading, Verdict, Labelled}
use Rattle.station.specs.declared.answer.Started as started
use Rattle.station.specs.declared.answer.Reading as reading
use Rattle.station.specs.Numbers.{number}
use Rattle.station.specs.Questions.{Reply}
use Rattle.lines.specs.declared.entry.Entry.{Entry}
use Rattle.lines.specs.declared.entry.Entry.TheVariants.{Open, Join, Leave, Start, Finish, Write, Strike, Read, Earlier, Newer, Label}

-- Calls that a station accepts are answered in their own form. For any other answer the value is a refusal with
-- number 0, which no reason has: a reader would see that something is wrong.
abbrev pub misplaced : {X : Type 0} → Result X ℕ
misplaced = Err 0

-- what was found in an answer, if anything was
abbrev pub or_misplaced : {X : Type 0} → Option X → Result X ℕ
or_misplaced None = misplaced
or_misplaced (Some x) = Ok x

abbrev pub done_in : Answer → Result Unit ℕ
done_in Done = Ok tt
done_in (Started s) = misplaced
done_in (Reading r) = misplaced
done_in (Verdict b) = misplaced
done_in (Labelled x) = misplaced

abbrev pub started_in : Answer → Result started.Started ℕ
started_in Done = misplaced
started_in (Started s) = Ok s
started_in (Reading r) = misplaced
started_in (Verdict b) = misplaced
started_in (Labelled x) = misplaced

abbrev pub reading_in : Answer → Result reading.Reading ℕ
reading_in Done = misplaced
reading_in (Started s) = misplaced
reading_in (Reading r) = Ok r
reading_in (Verdict b) = misplaced
reading_in (Labelled x) = misplaced

abbrev pub verdict_in : Answer → Result Bool ℕ
verdict_in Done = misplaced
verdict_in (Started s) = misplaced
verdict_in (Reading r) = misplaced
verdict_in (Verdict b) = Ok b
verdict_in (Labelled x) = misplaced

abbrev pub label_in : Answer → Result ℕ ℕ
label_in Done = misplaced
label_in (Started s) = misplaced
label_in (Reading r) = misplaced
label_in (Verdict b) = misplaced
label_in (Labelled x) = Ok x

-- a refusal gives its number
abbrev pub outcome : {X : Type 0} → (Answer → Result X ℕ) → Reply → Result X ℕ
outcome read_off (Ok a) = read_off a
outcome read_off (Err e) = Err (number e.reason)

abbrev pub entry_for : Call → Reply → Entry
entry_for (call.Open seats) r = Open (outcome done_in r)
entry_for (call.Join seat) r = Join (outcome done_in r)
entry_for (call.Leave seat) r = Leave (outcome done_in r)
entry_for call.Start r = Start (outcome started_in r)
entry_for (call.Finish seat) r = Finish (outcome done_in r)
entry_for (call.Write seat map) r = Write (outcome done_in r)
entry_for (call.Strike seat) r = Strike (outcome done_in r)
entry_for call.Read r = Read (outcome reading_in r)
entry_for (call.Earlier first second) r = Earlier (outcome verdict_in r)
entry_for (call.Newer first second) r = Newer (outcome verdict_in r)
entry_for (call.Label seat) r = Label (outcome label_in r)
