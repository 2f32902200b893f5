-- What holds at every step of every life of a station.
use Rattle.std.specs.Prelude.{◌≡◌, ℕ, ◌<◌, Bool, true, false, ◌⊎◌, List, [], ◌∷◌, length, Some, None, Ok, Option}
use Rattle.labels.specs.System.{System}
use Rattle.station.specs.declared.call.Call.{Call}
use Rattle.station.specs.declared.call.Call.TheVariants.{Open, Join, Leave, Start, Finish, Write, Strike, Read, Earlier, Newer, Label}
use Rattle.station.specs.declared.answer.Answer.TheVariants.{Labelled}
use Rattle.station.specs.declared.row.Line.{Line}
use Rattle.station.specs.declared.row.Line.TheVariants.{Idle, Waiting, Holding}
use Rattle.station.specs.declared.row.Writing.{Writing}
use Rattle.station.specs.declared.row.Row.{Row}
use Rattle.station.specs.Table.{Table, is_holding}
use Rattle.station.specs.Told.{row_at}
use Rattle.station.specs.Questions.{Reply}
use Rattle.lives.specs.History.{History, seats, holder, is_seat, Stay, Stays, line_change, register_change, everyone, others, waiting, standing}
use Rattle.lives.specs.Intervals.{Intervals}
use Rattle.lives.specs.Answers.{Right, RefusedWith}
use Rattle.lives.specs.Lives.{table_after, life, history, since_opening}

-- Of any two stays the later label beats the earlier, and the earlier does not beat the later. No two began together.
pub record InOrder (s : System) (stays : Stays) : Type 0 where
  pub later_beats : (a b : ℕ) (v w : Stay) → stays a ≡ Some v → stays b ≡ Some w → v.since < w.since → s.beats w.label v.label ≡ true
  pub earlier_loses : (a b : ℕ) (v w : Stay) → stays a ≡ Some v → stays b ≡ Some w → v.since < w.since → s.beats v.label w.label ≡ false
  pub apart : (a b : ℕ) (v w : Stay) → stays a ≡ Some v → stays b ≡ Some w → v.since ≡ w.since → a ≡ b

-- the labels of those who wait are in order, and so are those of the standing writings
pub record LabelsInOrder (s : System) (past : History) : Type 0 where
  pub line : InOrder s (waiting s past)
  pub register : InOrder s (standing s past)

-- At every step the labels are in order, and the reply was right.
abbrev pub Sound : System → History → Type 0
Sound s [] = LabelsInOrder s []
Sound s (m ∷ past) = Sound s past × Right s past m × LabelsInOrder s (m ∷ past)

-- the row that the history tells of a seat
abbrev pub line_told : Option Stay → Bool → Line
line_told (Some w) holds = Waiting w.label
line_told None true = Holding
line_told None false = Idle

abbrev pub map_written : Call → ℕ
map_written (Open n) = 0
map_written (Join seat) = 0
map_written (Leave seat) = 0
map_written Start = 0
map_written (Finish seat) = 0
map_written (Write seat map) = map
map_written (Strike seat) = 0
map_written Read = 0
map_written (Earlier first second) = 0
map_written (Newer first second) = 0
map_written (Label seat) = 0

abbrev pub writing_told : Option Stay → Option Writing
writing_told None = None
writing_told (Some w) = Some (record { label = w.label; map = map_written w.by })

abbrev pub row_told : System → History → ℕ → Row
row_told s past seat = record {
  line = line_told (waiting s past seat) (is_seat (holder past) seat);
  writing = writing_told (standing s past seat);
}

-- The table holds what the history tells: of each seat whether it waits and with which label, its writing and that
-- writing's label, and who holds the start, which is one seat at most.
pub record Shows (s : System) (t : Table) (past : History) : Type 0 where
  pub seats_told : length t ≡ seats past
  pub rows_told : (seat : ℕ) → row_at t seat ≡ row_told s past seat
  pub one_holder : (a b : ℕ) → is_holding (row_at t a) ≡ true → is_holding (row_at t b) ≡ true → a ≡ b

pub record EveryLife (s : System) : Type 0 where
  pub sound : (calls : List Call) → Sound s (history s calls)
  pub shown : (calls : List Call) → Shows s (table_after s [] calls) (history s calls)
  -- who waits and what stands are the intervals from their beginnings on, in every history
  pub waits_since : (past : History) → Intervals s line_change everyone past
  pub stands_since : (past : History) → Intervals s register_change others past

-- two replies that differ at most in the label that a label query tells
pub data Alike : Call → Reply → Reply → Type 0 where
  equal : {call : Call} {r : Reply} → Alike call r r
  labels : {seat x y : ℕ} → Alike (Label seat) (Ok (Labelled x)) (Ok (Labelled y))

-- the replies of two stations to the same calls are alike until one of them says that no label is left
pub data Agree : List Call → List Reply → List Reply → Type 0 where
  over : Agree [] [] []
  alike : {call : Call} {calls : List Call} {r q : Reply} {rs qs : List Reply} → Alike call r q → Agree calls rs qs → Agree (call ∷ calls) (r ∷ rs) (q ∷ qs)
  spent : {call : Call} {calls : List Call} {r q : Reply} {rs qs : List Reply} → RefusedWith 13 r ⊎ RefusedWith 13 q → Agree (call ∷ calls) (r ∷ rs) (q ∷ qs)

-- Two stations opened with equal seats and then given the same calls agree, whatever was called before.
abbrev pub LivesAgree : System → System → Type 0
LivesAgree s u =
    (one other calls : List Call) (n : ℕ) (rs qs : List Reply)
    → since_opening one (life s one) ≡ Some (record { seats = n; calls = calls; replies = rs })
    → since_opening other (life u other) ≡ Some (record { seats = n; calls = calls; replies = qs })
    → Agree calls rs qs

-- all that is promised to whoever runs stations over these two systems
pub record Promised (s u : System) : Type 0 where
  pub first : EveryLife s
  pub second : EveryLife u
  pub agree : LivesAgree s u
