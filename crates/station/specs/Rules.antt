-- The rules of a station: what is asked of a call, what an accepted call answers, and what the table then holds.
use Rattle.std.specs.Prelude.{◌≡◌, ℕ, ◌+◌, ◌-◌, Bool, not, ◌&&◌, List, [], ◌∷◌, map, length, is_some, Some, None, Option, ◌==◌, nat_le, slice_index_or, slice_set}
use Rattle.std.specs.List.{list_any}
use Rattle.labels.specs.System.{System}
use Rattle.search.specs.Search.{head_of, tail_of, labels_in}
use Rattle.search.specs.declared.waiting_row.WaitingRow.{WaitingRow}
use Rattle.search.specs.declared.writing_row.WritingRow.{WritingRow}
use Rattle.station.specs.declared.call.Call.{Call}
use Rattle.station.specs.declared.call.Call.TheVariants.{Open, Join, Leave, Start, Finish, Write, Strike, Read, Earlier, Newer, Label}
use Rattle.station.specs.declared.answer.Answer.{Answer}
use Rattle.station.specs.declared.answer.Answer.TheVariants.{Done, Started, Reading, Verdict, Labelled}
use Rattle.station.specs.declared.refusal.Reason.TheVariants.{AlreadyOpen, SeatCount, OrderTooSmall, NoSuchSeat, MapTooLarge, NotIdle, NotWaiting, NotHolding, StartTaken, NobodyWaits, NoWriting, NothingStands, NoLabelLeft}
use Rattle.station.specs.declared.row.Line.TheVariants.{Idle, Waiting, Holding}
use Rattle.station.specs.declared.row.Writing.{Writing}
use Rattle.station.specs.declared.row.Row.{Row}
use Rattle.station.specs.Table.{Table, blank, opened_for, seated, row_of, with_line, with_writing, waiting_label, standing_label, is_idle, is_holding}
use Rattle.station.specs.Questions.{Asked, ask, first_no, Reply, replied, settled}

-- what the seats tell, by rising seat
abbrev pub waiting_entries : Table → List (Option ℕ)
waiting_entries t = map waiting_label t

abbrev pub standing_entries : Table → List (Option ℕ)
standing_entries t = map standing_label t

-- the rows that the searches look through
abbrev pub waiting_row : ℕ → Row → WaitingRow
waiting_row seat row = record { seat = seat; label = waiting_label row }

abbrev pub written_map : Option Writing → ℕ
written_map None = 0
written_map (Some w) = w.map

abbrev pub writing_row : ℕ → Row → WritingRow
writing_row seat row = record { seat = seat; label = standing_label row; map = written_map row.writing }

-- the row of the place that a search found
abbrev pub found_row : {X : Type 0} → (ℕ → Row → X) → Table → Option ℕ → Option X
found_row make t None = None
found_row make t (Some k) = Some (make (k + 1) (slice_index_or t k blank))

-- the row of the seat that the start goes to, and of the writing in force
abbrev pub line_tail : System → Table → Option WaitingRow
line_tail s t = found_row waiting_row t (tail_of s (waiting_entries t))

abbrev pub register_head : System → Table → Option WritingRow
register_head s t = found_row writing_row t (head_of s (standing_entries t))

-- the label for a seat that would wait, and for a seat's writing
abbrev pub waiting_choice : System → Table → Option ℕ
waiting_choice s t = s.choice (labels_in (waiting_entries t))

abbrev pub standing_choice : System → Table → ℕ → Option ℕ
standing_choice s t seat = s.choice (labels_in (slice_set (standing_entries t) (seat - 1) None))

abbrev pub some_holds : Table → Bool
some_holds t = list_any is_holding t

abbrev pub waits : Table → ℕ → Bool
waits t seat = is_some (waiting_label (row_of t seat))

abbrev pub stands : Table → ℕ → Bool
stands t seat = is_some (standing_label (row_of t seat))

-- the questions put to each call
abbrev pub questions : System → Table → Call → List Asked
questions s t (Open n) =
    ask (length t == 0) AlreadyOpen 0
    ∷ ask (nat_le 1 n && nat_le n 20) SeatCount 0
    ∷ ask (nat_le n s.order) OrderTooSmall 0
    ∷ []
questions s t (Join seat) =
    ask (seated t seat) NoSuchSeat seat
    ∷ ask (is_idle (row_of t seat)) NotIdle seat
    ∷ ask (is_some (waiting_choice s t)) NoLabelLeft seat
    ∷ []
questions s t (Leave seat) = ask (seated t seat) NoSuchSeat seat ∷ ask (waits t seat) NotWaiting seat ∷ []
questions s t Start = ask (not (some_holds t)) StartTaken 0 ∷ ask (is_some (line_tail s t)) NobodyWaits 0 ∷ []
questions s t (Finish seat) =
    ask (seated t seat) NoSuchSeat seat ∷ ask (is_holding (row_of t seat)) NotHolding seat ∷ []
questions s t (Write seat map) =
    ask (seated t seat) NoSuchSeat seat
    ∷ ask (nat_le map 65535) MapTooLarge seat
    ∷ ask (is_some (standing_choice s t seat)) NoLabelLeft seat
    ∷ []
questions s t (Strike seat) = ask (seated t seat) NoSuchSeat seat ∷ ask (stands t seat) NoWriting seat ∷ []
questions s t Read = ask (is_some (register_head s t)) NothingStands 0 ∷ []
questions s t (Earlier a b) =
    ask (seated t a) NoSuchSeat a
    ∷ ask (seated t b) NoSuchSeat b
    ∷ ask (waits t a) NotWaiting a
    ∷ ask (waits t b) NotWaiting b
    ∷ []
questions s t (Newer a b) =
    ask (seated t a) NoSuchSeat a
    ∷ ask (seated t b) NoSuchSeat b
    ∷ ask (stands t a) NoWriting a
    ∷ ask (stands t b) NoWriting b
    ∷ []
questions s t (Label seat) = ask (seated t seat) NoSuchSeat seat ∷ ask (stands t seat) NoWriting seat ∷ []

-- Where a question above is answered no, what follows is not asked for: the values for none are never used.
abbrev pub or_zero : Option ℕ → ℕ
or_zero None = 0
or_zero (Some x) = x

abbrev pub waiting_seat : Option WaitingRow → ℕ
waiting_seat None = 0
waiting_seat (Some row) = row.seat

abbrev pub writing_seat : Option WritingRow → ℕ
writing_seat None = 0
writing_seat (Some row) = row.seat

abbrev pub map_in_force : Option WritingRow → Option ℕ
map_in_force None = None
map_in_force (Some row) = Some row.map

abbrev pub label_beats : System → Option ℕ → Option ℕ → Bool
label_beats s a b = s.beats (or_zero a) (or_zero b)

-- what an accepted call answers
abbrev pub answer : System → Table → Call → Answer
answer s t (Open n) = Done
answer s t (Join seat) = Done
answer s t (Leave seat) = Done
answer s t Start = Started (record { seat = waiting_seat (line_tail s t); map = map_in_force (register_head s t) })
answer s t (Finish seat) = Done
answer s t (Write seat map) = Done
answer s t (Strike seat) = Done
answer s t Read = Reading (record { seat = writing_seat (register_head s t); map = or_zero (map_in_force (register_head s t)) })
answer s t (Earlier a b) = Verdict (label_beats s (waiting_label (row_of t b)) (waiting_label (row_of t a)))
answer s t (Newer a b) = Verdict (label_beats s (standing_label (row_of t a)) (standing_label (row_of t b)))
answer s t (Label seat) = Labelled (or_zero (standing_label (row_of t seat)))

-- the table after an accepted call
abbrev pub after : System → Table → Call → Table
after s t (Open n) = opened_for n
after s t (Join seat) = with_line t seat (Waiting (or_zero (waiting_choice s t)))
after s t (Leave seat) = with_line t seat Idle
after s t Start = with_line t (waiting_seat (line_tail s t)) Holding
after s t (Finish seat) = with_line t seat Idle
after s t (Write seat map) = with_writing t seat (Some (record { label = or_zero (standing_choice s t seat); map = map }))
after s t (Strike seat) = with_writing t seat None
after s t Read = t
after s t (Earlier a b) = t
after s t (Newer a b) = t
after s t (Label seat) = t

-- what a call answers, and what the table then holds
abbrev pub reply : System → Table → Call → Reply
reply s t call = replied (first_no (questions s t call)) (answer s t call)

abbrev pub next : System → Table → Call → Table
next s t call = settled (first_no (questions s t call)) t (after s t call)

-- a call ran by the rules
pub record Ran (s : System) (before now : Table) (call : Call) (r : Reply) : Type 0 where
  pub answers : r ≡ reply s before call
  pub leaves : now ≡ next s before call
