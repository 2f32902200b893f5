-- Each turn lists one word more.
use Rattle.std.proofs.Common.{length, vec_items, ap, arith, sym, ◌∙◌}
use Rattle.station.specs.View.{table}
use Rattle.listing.proofs.Turns.{turned}
use Rattle.listing.proofs.playing.play_on.Goals as goal

pub loop-index-preserved : goal.loop-index-preserved
loop-index-preserved g c =
    let turn = c.in-Some.ensures.steps in
    let put = c.in_ok-list_word.ensures in (
      turned g.S.LabelSystem.meaning c.loop-index.station.system (table c.loop-index.station) c.in-Some.index c.in-Some.word (vec_items c.loop-index.out) c.loop-index.invariant.0 turn.0.0 turn.0.1 turn.1 (sym put.goes_on ∙ c.if-not-branch.false) put.line put.leaves put.system,
      put.system ∙ c.loop-index.invariant.1,
      omega (arith, ap length turn.1),
    )
