use Rattle.std.proofs.Common.{map}
use Rattle.search.proofs.Passes.{SoFar}
use Rattle.search.proofs.search.narrow.Given as goal

abbrev pub invariant-loop-place : goal.invariant-loop-place
invariant-loop-place g l = SoFar (g.L.Leads.relation l.by) (map g.E.Entry.labelled l.entries) l.place l.best
