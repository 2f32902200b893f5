-- Each turn puts one call more.
use Rattle.std.proofs.Common.{vec_items, ◌∙◌}
use Rattle.station.specs.View.{table}
use Rattle.runs.proofs.Turns.{served, all_served}
use Rattle.runs.proofs.serving.serve_all.Goals as goal

pub loop-call-preserved : goal.loop-call-preserved
loop-call-preserved g c = (
  served g.S.LabelSystem.meaning c.loop-call.station.system (table c.loop-call.station) (vec_items c.loop-call.given) _ c.args.calls.now c.loop-call.call-index c.loop-call.invariant.0 c.serve.new.self.system (table c.serve.new.self) (vec_items c.push.new.self) _ c.serve.result c.loop-call-test.true c.serve.ensures.system c.serve.ensures.ran c.in_ok-push.ensures.items,
  c.serve.ensures.system ∙ c.loop-call.invariant.1,
)

pub returns : goal.returns
returns g c = all_served g.S.LabelSystem.meaning c.loop-call.station.system (table c.loop-call.station) (vec_items c.loop-call.given) _ c.args.calls.now c.loop-call.call-index c.loop-call.invariant.0 c.loop-call-test.false
