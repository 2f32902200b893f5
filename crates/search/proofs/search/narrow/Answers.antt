-- Each turn narrows the search to the next candidate, and the last has narrowed it to the one place that can lead.
use Rattle.std.proofs.Common.{map, arith}
use Rattle.std.proofs.lemmas.List.{length-map}
use Rattle.search.proofs.Passes.{next_turn, narrowed}
use Rattle.search.proofs.search.narrow.Goals as goal

pub loop-place-preserved : goal.loop-place-preserved
loop-place-preserved g c =
    next_turn (g.L.Leads.relation c.args.by.now) g.E.Entry.labelled c.args.entries.now c.loop-place.place _ _ c.loop-place-test.true c.index-entries-place.is c.label.ensures (g.met.L.Leads.one_way c.args.by.now) _ _ c.next_best-best.ensures c.loop-place.invariant

pub returns : goal.returns
returns g c =
    let f = g.E.Entry.labelled in
    let xs = c.args.entries.now in
    narrowed (g.L.Leads.relation c.args.by.now) (map f xs) c.loop-place.place c.loop-place.best (omega (arith, length-map xs f, c.loop-place-test.false)) c.loop-place.invariant
