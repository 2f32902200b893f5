-- What a station with this table is asked about. A number that is no seat's has a blank row, and no writing of its own.
use Rattle.std.specs.Prelude.{ℕ, zero, suc, not, List, length, is_some, None, Option, slice_index_or, slice_set}
use Rattle.labels.specs.System.{System}
use Rattle.search.specs.Search.{labels_in}
use Rattle.station.specs.declared.row.Row.{Row}
use Rattle.station.specs.Table.{Table, blank, waiting_label, standing_label, is_idle, is_holding}
use Rattle.station.specs.Facts.{Facts}
use Rattle.station.specs.Rules.{some_holds, line_tail, register_head, waiting_choice, standing_entries}

-- the row of a seat
abbrev pub row_at : Table → ℕ → Row
row_at t zero = blank
row_at t (suc place) = slice_index_or t place blank

-- the writings beside a seat's own
abbrev pub entries_beside : Table → ℕ → List (Option ℕ)
entries_beside t zero = standing_entries t
entries_beside t (suc place) = slice_set (standing_entries t) place None

abbrev pub facts : System → Table → Facts
facts s t = record {
  seats = length t;
  order = s.order;
  idle = λ seat. is_idle (row_at t seat);
  waits = λ seat. is_some (waiting_label (row_at t seat));
  holds = λ seat. is_holding (row_at t seat);
  stands = λ seat. is_some (standing_label (row_at t seat));
  start_free = not (some_holds t);
  has_tail = is_some (line_tail s t);
  has_head = is_some (register_head s t);
  label_to_wait = is_some (waiting_choice s t);
  label_to_write = λ seat. is_some (s.choice (labels_in (entries_beside t seat)));
}
