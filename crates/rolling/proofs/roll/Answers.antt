-- Each turn of the loop is a round, and a round without a choice is the last to change anything.
use Rattle.std.proofs.Common.{◌≡◌, vec_items, ap, ◌∙◌, arith}
use Rattle.labels.specs.System.{System}
use Rattle.rolling.specs.Rolling.{rolled}
use Rattle.rolling.proofs.Rounds.{all_rounds, next_round, last_round}
use Rattle.rolling.proofs.roll.Goals as goal

pub returns-in_default : goal.returns-in_default
returns-in_default g c =
    let s : System = g.S.LabelSystem.meaning c.args.system.now in
    all_rounds s (g.met.S.LabelSystem.shows c.args.system.now) c.args.rounds (vec_items c.loop-round.given)
    (last_round s c.loop-round._round (vec_items c.loop-round.given) c.as_slice.result.now c.held_beside.result.now c.choose.result c.choose.ensures c.held_beside.ensures c.as_slice.ensures.value c.loop-round.invariant.0 c.args.rounds c.in_default.is c.loop-round.invariant.1)

pub loop-round-preserved : goal.loop-round-preserved
loop-round-preserved g c = (
  next_round (g.S.LabelSystem.meaning c.args.system.now) c.loop-round._round (vec_items c.loop-round.given) c.as_slice.result.now c.held_beside.result.now c.choose.result c.choose.ensures c.held_beside.ensures c.as_slice.ensures.value c.loop-round.invariant.0 c.in-Some.label (vec_items c.push.new.self) c.in-Some.is c.in_ok-push.ensures.items,
  omega (arith, c.loop-round-test.true),
)

pub returns : goal.returns
returns g c =
    let s : System = g.S.LabelSystem.meaning c.args.system.now in
    let all : c.loop-round._round ≡ c.args.rounds = omega (arith, c.loop-round.invariant.1, c.loop-round-test.false) in
    all_rounds s (g.met.S.LabelSystem.shows c.args.system.now) c.args.rounds (vec_items c.loop-round.given) (c.loop-round.invariant.0 ∙ ap (rolled s) all)
