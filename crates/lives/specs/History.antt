-- The history of a station: the calls made on it and their replies, the newest first. Who waits and what stands, since
-- when and with which label, is told from the calls, the replies and the system's choice. Nothing here knows a table.
use Rattle.std.specs.Prelude.{ℕ, zero, suc, Bool, false, cond, not, ◌&&◌, ◌||◌, List, [], ◌∷◌, map, length, is_some, Some, None, Ok, Err, Option, ◌==◌}
use Rattle.labels.specs.System.{System}
use Rattle.search.specs.Search.{labels_in}
use Rattle.station.specs.declared.call.Call.{Call}
use Rattle.station.specs.declared.call.Call.TheVariants.{Open, Join, Leave, Start, Finish, Write, Strike, Read, Earlier, Newer, Label}
use Rattle.station.specs.declared.answer.Answer.{Answer}
use Rattle.station.specs.declared.answer.Answer.TheVariants.{Done, Started, Reading, Verdict, Labelled}
use Rattle.station.specs.Questions.{Reply}
use Rattle.station.specs.Facts.{Facts}

pub record Moment : Type 0 where
  pub call : Call
  pub reply : Reply

abbrev pub History : Type 0
History = List Moment

-- what an accepted call brings about
pub data Event : Type 0 where
  opened : ℕ → Event
  joined : ℕ → Event
  left : ℕ → Event
  started : ℕ → Event
  finished : ℕ → Event
  written : ℕ → Event
  struck : ℕ → Event
  nothing : Event

abbrev pub start_event : Answer → Event
start_event Done = nothing
start_event (Started x) = started x.seat
start_event (Reading x) = nothing
start_event (Verdict b) = nothing
start_event (Labelled x) = nothing

abbrev pub accepted_event : Call → Answer → Event
accepted_event (Open n) a = opened n
accepted_event (Join seat) a = joined seat
accepted_event (Leave seat) a = left seat
accepted_event Start a = start_event a
accepted_event (Finish seat) a = finished seat
accepted_event (Write seat map) a = written seat
accepted_event (Strike seat) a = struck seat
accepted_event Read a = nothing
accepted_event (Earlier first second) a = nothing
accepted_event (Newer first second) a = nothing
accepted_event (Label seat) a = nothing

abbrev pub event_of : Call → Reply → Event
event_of call (Ok a) = accepted_event call a
event_of call (Err e) = nothing

abbrev pub event : Moment → Event
event m = event_of m.call m.reply

-- how many seats the station has: as many as it was opened with
abbrev pub seats_after : Event → ℕ → ℕ
seats_after (opened n) before = n
seats_after (joined seat) before = before
seats_after (left seat) before = before
seats_after (started seat) before = before
seats_after (finished seat) before = before
seats_after (written seat) before = before
seats_after (struck seat) before = before
seats_after nothing before = before

abbrev pub seats : History → ℕ
seats [] = 0
seats (m ∷ past) = seats_after (event m) (seats past)

-- who holds the start: the seat of the last accepted start that has not finished
abbrev pub holder_after : Event → Option ℕ → Option ℕ
holder_after (opened n) before = before
holder_after (joined seat) before = before
holder_after (left seat) before = before
holder_after (started seat) before = Some seat
holder_after (finished seat) before = None
holder_after (written seat) before = before
holder_after (struck seat) before = before
holder_after nothing before = before

abbrev pub holder : History → Option ℕ
holder [] = None
holder (m ∷ past) = holder_after (event m) (holder past)

-- A stay: a seat that waits, or a writing that stands. It has lasted since a moment (the first is number 0), began with a
-- call, and has a label.
pub record Stay : Type 0 where
  pub since : ℕ
  pub by : Call
  pub label : ℕ

-- the stay of each seat that has one
abbrev pub Stays : Type 0
Stays = ℕ → Option Stay

-- what an event is to a line of stays: one of them begins, or ends, or nothing
pub data Change : Type 0 where
  comes : ℕ → Change
  goes : ℕ → Change
  same : Change

-- a seat waits from an accepted join until its accepted leave or the start that goes to it
abbrev pub line_change : Event → Change
line_change (opened n) = same
line_change (joined seat) = comes seat
line_change (left seat) = goes seat
line_change (started seat) = goes seat
line_change (finished seat) = same
line_change (written seat) = same
line_change (struck seat) = same
line_change nothing = same

-- a writing stands from its acceptance until the seat's next accepted writing or strike
abbrev pub register_change : Event → Change
register_change (opened n) = same
register_change (joined seat) = same
register_change (left seat) = same
register_change (started seat) = same
register_change (finished seat) = same
register_change (written seat) = comes seat
register_change (struck seat) = goes seat
register_change nothing = same

abbrev pub stay_label : Option Stay → Option ℕ
stay_label None = None
stay_label (Some w) = Some w.label

-- n numbers from a first one on, and the seats by rising number
abbrev pub from : ℕ → ℕ → List ℕ
from first zero = []
from first (suc n) = first ∷ from (suc first) n

abbrev pub rising : ℕ → List ℕ
rising n = from 1 n

-- what n seats tell of their labels, by rising seat
abbrev pub entries : ℕ → Stays → List (Option ℕ)
entries n stays = map (λ seat. stay_label (stays seat)) (rising n)

abbrev pub labels_by_seat : ℕ → Stays → List ℕ
labels_by_seat n stays = labels_in (entries n stays)

abbrev pub with_stay : Stays → ℕ → Option Stay → Stays
with_stay before seat stay other = cond (seat == other) stay (before other)

abbrev pub begun : ℕ → Call → Option ℕ → Option Stay
begun since call None = None
begun since call (Some x) = Some (record { since = since; by = call; label = x })

-- beside whom a newcomer's label is chosen: in the line beside everyone, in the register beside the other seats
abbrev pub everyone : Stays → ℕ → Stays
everyone before seat = before

abbrev pub others : Stays → ℕ → Stays
others before seat = with_stay before seat None

abbrev pub stays_after : System → (Stays → ℕ → Stays) → ℕ → ℕ → Call → Change → Stays → Stays
stays_after s beside n since call (comes seat) before =
    with_stay before seat (begun since call (s.choice (labels_by_seat n (beside before seat))))
stays_after s beside n since call (goes seat) before = with_stay before seat None
stays_after s beside n since call same before = before

abbrev pub stays : System → (Event → Change) → (Stays → ℕ → Stays) → History → Stays
stays s change beside [] = λ seat. None
stays s change beside (m ∷ past) =
    stays_after s beside (seats past) (length past) m.call (change (event m)) (stays s change beside past)

-- who waits, and what stands
abbrev pub waiting : System → History → Stays
waiting s past = stays s line_change everyone past

abbrev pub standing : System → History → Stays
standing s past = stays s register_change others past

-- whether one of the listed seats has a stay
abbrev pub someone : Stays → List ℕ → Bool
someone stays [] = false
someone stays (seat ∷ rest) = is_some (stays seat) || someone stays rest

abbrev pub is_seat : Option ℕ → ℕ → Bool
is_seat None seat = false
is_seat (Some named) seat = named == seat

-- what the history tells of all that the questions are about
abbrev pub facts_told : System → History → Facts
facts_told s past = record {
  seats = seats past;
  order = s.order;
  idle = λ seat. not (is_some (waiting s past seat)) && not (is_seat (holder past) seat);
  waits = λ seat. is_some (waiting s past seat);
  holds = λ seat. is_seat (holder past) seat;
  stands = λ seat. is_some (standing s past seat);
  start_free = not (is_some (holder past));
  has_tail = someone (waiting s past) (rising (seats past));
  has_head = someone (standing s past) (rising (seats past));
  label_to_wait = is_some (s.choice (labels_by_seat (seats past) (waiting s past)));
  label_to_write = λ seat. is_some (s.choice (labels_by_seat (seats past) (others (standing s past) seat)));
}
