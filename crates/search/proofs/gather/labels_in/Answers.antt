-- Each turn gathers a label, or passes an entry without one.
use Rattle.std.proofs.Common.{◌∙◌}
use Rattle.search.proofs.Gathers.{gathered, passed}
use Rattle.search.proofs.gather.labels_in.Goals as goal
use Rattle.search.proofs.gather.labels_in.Goals.{in-Some, in_default}

pub loop-entry-preserved : goal.loop-entry-preserved
loop-entry-preserved g c =
    let f = g.E.Entry.labelled in
    let xs = c.args.entries.now in
    elim c.match-label.branch [
      | in-Some w ↦ gathered f xs c.loop-entry.entry-index c.entry-item.result c.loop-entry-test.true c.entry-item.is c.label.result c.label.ensures c.loop-entry.found c.match-label.found c.loop-entry.invariant w.in-Some.label w.in-Some.is (w.found-is ∙ w.push.ensures)
      | in_default w ↦ passed f xs c.loop-entry.entry-index c.entry-item.result c.loop-entry-test.true c.entry-item.is c.label.result c.label.ensures c.loop-entry.found c.match-label.found c.loop-entry.invariant w.in_default.is w.found-is
    ]
