-- The defined choice is made by one of the three steps.
use Rattle.labels.proofs.Exact.{with_law}
use Rattle.over.specs.Steps.{ChoosesByStep}
use Rattle.over.proofs.ByStep.{chooses_by_step}
use Rattle.composition.proofs.composed.OverLabelSystem.choose.Goals as goal

pub returns : goal.returns
returns g c =
    let o = g.O.LabelSystem.meaning c.args.self.now.outer in
    let i = g.I.LabelSystem.meaning c.args.self.now.inner in
    with_law (ChoosesByStep o i c.args.labels.now) _ _ (chooses_by_step o i (g.met.O.LabelSystem.shows c.args.self.now.outer) (g.met.I.LabelSystem.shows c.args.self.now.inner) c.args.labels.now) c.by_parts.ensures
