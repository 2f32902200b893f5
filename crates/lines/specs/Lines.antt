-- The text of a line: its index, a name and a result, with one space between, and byte 10 at the end.
use Rattle.std.specs.Prelude.{ℕ, Bool, true, false, List, [], ◌∷◌, ◌++◌, Some, None, Ok, Err, codes, decimal, Option, Result}
use Rattle.station.specs.declared.answer.Started.{Started}
use Rattle.station.specs.declared.answer.Reading.{Reading}
use Rattle.lines.specs.declared.entry.Entry.{Entry}
use Rattle.lines.specs.declared.entry.Entry.TheVariants.{Open, Join, Leave, Start, Finish, Write, Strike, Read, Earlier, Newer, Label, Fault}
use Rattle.lines.specs.declared.entry.Line.{Line}

abbrev pub name_of : Entry → List ℕ
name_of (Open r) = codes "open"
name_of (Join r) = codes "join"
name_of (Leave r) = codes "leave"
name_of (Start r) = codes "start"
name_of (Finish r) = codes "finish"
name_of (Write r) = codes "write"
name_of (Strike r) = codes "strike"
name_of (Read r) = codes "read"
name_of (Earlier r) = codes "earlier"
name_of (Newer r) = codes "newer"
name_of (Label r) = codes "label"
name_of (Fault n) = codes "fault"

-- what an accepted call answers
abbrev pub map_text : Option ℕ → List ℕ
map_text None = codes "none"
map_text (Some n) = decimal n

abbrev pub started_text : Started → List ℕ
started_text s = decimal s.seat ++ (codes " map " ++ map_text s.map)

abbrev pub reading_text : Reading → List ℕ
reading_text r = decimal r.seat ++ (codes " " ++ decimal r.map)

abbrev pub verdict_text : Bool → List ℕ
verdict_text true = codes "yes"
verdict_text false = codes "no"

-- a refused call has the refusal's number in place of an answer
abbrev pub or_refused : {X : Type 0} → (X → List ℕ) → Result X ℕ → List ℕ
or_refused show (Ok x) = show x
or_refused show (Err n) = codes "refused " ++ decimal n

abbrev pub done_text : Result Unit ℕ → List ℕ
done_text r = or_refused (λ _. codes "ok") r

abbrev pub result_of : Entry → List ℕ
result_of (Open r) = done_text r
result_of (Join r) = done_text r
result_of (Leave r) = done_text r
result_of (Start r) = or_refused started_text r
result_of (Finish r) = done_text r
result_of (Write r) = done_text r
result_of (Strike r) = done_text r
result_of (Read r) = or_refused reading_text r
result_of (Earlier r) = or_refused verdict_text r
result_of (Newer r) = or_refused verdict_text r
result_of (Label r) = or_refused decimal r
result_of (Fault n) = decimal n

abbrev pub line_bytes : Line → List ℕ
line_bytes l = decimal l.index ++ (codes " " ++ (name_of l.entry ++ (codes " " ++ (result_of l.entry ++ (10 ∷ [])))))
