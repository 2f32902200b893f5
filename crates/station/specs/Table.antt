-- The table of a station: the rows of its seats, by rising seat, counted from 1.
use Rattle.std.specs.Prelude.{ℕ, ◌-◌, Bool, true, false, ◌&&◌, List, length, replicate, Some, None, Option, nat_le, slice_index_or, slice_set}
use Rattle.station.specs.declared.row.Line.{Line}
use Rattle.station.specs.declared.row.Line.TheVariants.{Idle, Waiting, Holding}
use Rattle.station.specs.declared.row.Writing.{Writing}
use Rattle.station.specs.declared.row.Row.{Row}

abbrev pub Table : Type 0
Table = List Row

-- idle and without writing
abbrev pub blank : Row
blank = record { line = Idle; writing = None }

abbrev pub opened_for : ℕ → Table
opened_for n = replicate n blank

abbrev pub seated : Table → ℕ → Bool
seated t seat = nat_le 1 seat && nat_le seat (length t)

abbrev pub row_of : Table → ℕ → Row
row_of t seat = slice_index_or t (seat - 1) blank

abbrev pub with_row : Table → ℕ → Row → Table
with_row t seat row = slice_set t (seat - 1) row

abbrev pub with_line : Table → ℕ → Line → Table
with_line t seat line = with_row t seat (record { line = line; writing = (row_of t seat).writing })

abbrev pub with_writing : Table → ℕ → Option Writing → Table
with_writing t seat writing = with_row t seat (record { line = (row_of t seat).line; writing = writing })

abbrev pub line_label : Line → Option ℕ
line_label Idle = None
line_label (Waiting x) = Some x
line_label Holding = None

abbrev pub writing_label : Option Writing → Option ℕ
writing_label None = None
writing_label (Some w) = Some w.label

abbrev pub waiting_label : Row → Option ℕ
waiting_label row = line_label row.line

abbrev pub standing_label : Row → Option ℕ
standing_label row = writing_label row.writing

abbrev pub is_idle : Row → Bool
is_idle row = elim row.line [ Idle ↦ true | Waiting x ↦ false | Holding ↦ false ]

abbrev pub is_holding : Row → Bool
is_holding row = elim row.line [ Idle ↦ false | Waiting x ↦ false | Holding ↦ true ]
