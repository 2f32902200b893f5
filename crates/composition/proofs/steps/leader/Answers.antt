-- The first place that leads is the only one, and none leads where none was found.
use Rattle.std.proofs.Common.{false, Some, None, refl, arith, below_more}
use Rattle.std.proofs.lemmas.Bool.{both_ways}
use Rattle.labels.proofs.Chains.{once_from_distinct}
use Rattle.over.proofs.Leading.{leader_found}
use Rattle.composition.proofs.steps.leader.Goals as goal

pub returns-then-leads : goal.returns-then-leads
returns-then-leads g c =
    leader_found (g.S.LabelSystem.meaning c.args.system.now) (g.met.S.LabelSystem.shows c.args.system.now) c.args.parts.now (once_from_distinct c.args.parts.now c.requires) (Some _)
    (record { place = c.loop-place.place; leads = c.if-leads.ensures.0 refl; is = refl })

pub loop-place-preserved : goal.loop-place-preserved
loop-place-preserved g c = below_more _ _ c.loop-place.invariant (λ h. both_ways false refl (c.if-leads.ensures.1 h))

pub returns : goal.returns
returns g c =
    leader_found (g.S.LabelSystem.meaning c.args.system.now) (g.met.S.LabelSystem.shows c.args.system.now) c.args.parts.now (once_from_distinct c.args.parts.now c.requires) None
    (λ k h. c.loop-place.invariant k (omega (arith, h.within, c.loop-place-test.false)) h)
