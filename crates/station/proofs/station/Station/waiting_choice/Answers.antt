-- The rows tell what the seats tell.
use Rattle.std.proofs.Common.{◌∙◌, ap, refl}
use Rattle.search.specs.Search.{labels_in}
use Rattle.search.specs.declared.waiting_row.WaitingRow.{WaitingRow}
use Rattle.station.specs.Table.{waiting_label}
use Rattle.station.specs.Rules.{waiting_row}
use Rattle.station.specs.View.{table}
use Rattle.station.proofs.Layouts.{entries_of}
use Rattle.station.proofs.station.Station.waiting_choice.Goals as goal

pub returns : goal.returns
returns g c =
    c.choice_beside.ensures ∙ ap (λ ls. (g.S.LabelSystem.meaning c.args.self.now.system).choice (labels_in ls)) (entries_of waiting_row (λ (r : WaitingRow). r.label) waiting_label (λ n row. refl) (table c.args.self.now) c.laid_out.result.items c.laid_out.ensures.rows)
