-- The lives of a station: any calls on a new one, each answered by the rules.
use Rattle.std.specs.Prelude.{ℕ, List, [], ◌∷◌, Some, None, Option}
use Rattle.labels.specs.System.{System}
use Rattle.station.specs.declared.call.Call.{Call}
use Rattle.station.specs.Table.{Table}
use Rattle.station.specs.Questions.{Reply}
use Rattle.station.specs.Rules.{reply, next}
use Rattle.lives.specs.History.{History, Event, opened, joined, left, started, finished, written, struck, nothing, event_of}

-- the replies to calls on a station with this table, and the table that they leave; the oldest call comes first
abbrev pub replies : System → Table → List Call → List Reply
replies s t [] = []
replies s t (call ∷ later) = reply s t call ∷ replies s (next s t call) later

abbrev pub table_after : System → Table → List Call → Table
table_after s t [] = t
table_after s t (call ∷ later) = table_after s (next s t call) later

-- calls with their replies, put on record after what is past
abbrev pub recorded : History → List Call → List Reply → History
recorded past [] rs = past
recorded past (call ∷ calls) [] = past
recorded past (call ∷ calls) (r ∷ rs) = recorded (record { call = call; reply = r } ∷ past) calls rs

-- the replies of a life, and its history: a new station has no rows
abbrev pub life : System → List Call → List Reply
life s calls = replies s [] calls

abbrev pub history : System → List Call → History
history s calls = recorded [] calls (life s calls)

-- with how many seats a station was opened, and the calls and replies since then
pub record Opened : Type 0 where
  pub seats : ℕ
  pub calls : List Call
  pub replies : List Reply

abbrev pub or_opened : Event → List Call → List Reply → Option Opened → Option Opened
or_opened (opened n) calls rs later = Some (record { seats = n; calls = calls; replies = rs })
or_opened (joined seat) calls rs later = later
or_opened (left seat) calls rs later = later
or_opened (started seat) calls rs later = later
or_opened (finished seat) calls rs later = later
or_opened (written seat) calls rs later = later
or_opened (struck seat) calls rs later = later
or_opened nothing calls rs later = later

abbrev pub since_opening : List Call → List Reply → Option Opened
since_opening [] rs = None
since_opening (call ∷ calls) [] = None
since_opening (call ∷ calls) (r ∷ rs) = or_opened (event_of call r) calls rs (since_opening calls rs)
