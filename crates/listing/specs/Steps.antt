-- One word of a trace, put to a station.
use Rattle.std.specs.Prelude.{◌≡◌, ℕ, Bool, true, false, Some, None, Ok, Err, Option, Result}
use Rattle.labels.specs.System.{System}
use Rattle.station.specs.declared.call.Call.{Call}
use Rattle.station.specs.declared.answer.Answer.{Answer}
use Rattle.station.specs.Table.{Table}
use Rattle.station.specs.Questions.{Reply}
use Rattle.station.specs.Rules.{reply, next}
use Rattle.trace.specs.declared.fault.WordFault.TheVariants.{NotACall}
use Rattle.trace.specs.Faults.{fault_number}
use Rattle.trace.specs.Words.{call_of}
use Rattle.lines.specs.declared.entry.Entry.{Entry}
use Rattle.lines.specs.declared.entry.Entry.TheVariants.{Fault}
use Rattle.lines.specs.Replies.{entry_for}
use Rattle.listing.specs.declared.fault.Cause.{Cause}
use Rattle.listing.specs.declared.fault.Cause.TheVariants.{Length, Word, Station}
use Rattle.listing.specs.declared.fault.ReplayFault.{ReplayFault}
use Rattle.listing.specs.Faults.{cause_number}

-- a refusal, whole, as the cause of a fault
abbrev pub or_cause : Reply → Result Answer Cause
or_cause (Ok a) = Ok a
or_cause (Err e) = Err (Station e)

-- what comes of the call that a word holds, or of a word that holds none
abbrev pub answered : System → Table → Option Call → Result Answer Cause
answered s t None = Err (Word NotACall)
answered s t (Some call) = or_cause (reply s t call)

abbrev pub left : System → Table → Option Call → Table
left s t None = t
left s t (Some call) = next s t call

-- the index put beside the cause
abbrev pub placed : ℕ → Result Answer Cause → Result Answer ReplayFault
placed index (Ok a) = Ok a
placed index (Err cause) = Err (record { index = index; cause = cause })

-- a word with this index was put to a station
pub record Stepped (s : System) (before now : Table) (index word : ℕ) (r : Result Answer ReplayFault) : Type 0 where
  pub answers : r ≡ placed index (answered s before (call_of word))
  pub leaves : now ≡ left s before (call_of word)

-- the line for a word, by the call that it holds and what came of it
abbrev pub entry_of_cause : Call → Cause → Entry
entry_of_cause call Length = Fault (cause_number Length)
entry_of_cause call (Word fault) = Fault (fault_number fault)
entry_of_cause call (Station refusal) = entry_for call (Err refusal)

abbrev pub entry_from : Option Call → Result Answer ReplayFault → Entry
entry_from None outcome = Fault (fault_number NotACall)
entry_from (Some call) (Ok a) = entry_for call (Ok a)
entry_from (Some call) (Err fault) = entry_of_cause call fault.cause

-- a word that holds no call ends the run
abbrev pub cause_ends : Cause → Bool
cause_ends Length = true
cause_ends (Word fault) = true
cause_ends (Station refusal) = false

abbrev pub ends : Result Answer ReplayFault → Bool
ends (Ok a) = false
ends (Err fault) = cause_ends fault.cause

-- what the line for a word tells
abbrev pub entry_told : System → Table → Option Call → Entry
entry_told s t None = Fault (fault_number NotACall)
entry_told s t (Some call) = entry_for call (reply s t call)
