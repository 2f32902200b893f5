-- The rows tell what the seats tell, but for the writer's.
use Rattle.std.proofs.Common.{◌∙◌, ◌-◌, Option, List, ℕ, ap, map, set, refl, None}
use Rattle.std.proofs.lemmas.List.{map-set}
use Rattle.search.specs.Search.{labels_in}
use Rattle.search.specs.declared.writing_row.WritingRow.{WritingRow}
use Rattle.station.specs.Table.{blank, standing_label}
use Rattle.station.specs.Rules.{writing_row}
use Rattle.station.specs.View.{table}
use Rattle.station.proofs.Layouts.{entries_of}
use Rattle.station.proofs.station.Station.standing_choice.Goals as goal

pub returns : goal.returns
returns g c =
    let t = table c.args.self.now in
    let rows = c.laid_out-rows.result.items in
    let seat = c.args.seat - 1 in
    let choice_in = λ (ls : List (Option ℕ)). (g.S.LabelSystem.meaning c.args.self.now.system).choice (labels_in ls) in
    c.choice_beside.ensures
    ∙ ap (λ (l : List WritingRow). choice_in (map (λ (r : WritingRow). r.label) l)) c.leave_out.ensures
    ∙ ap choice_in (map-set (λ (r : WritingRow). r.label) rows seat (writing_row 0 blank) ∙ ap (λ (ls : List (Option ℕ)). set ls seat None) (entries_of writing_row (λ (r : WritingRow). r.label) standing_label (λ n row. refl) t rows c.laid_out-rows.ensures.rows))
