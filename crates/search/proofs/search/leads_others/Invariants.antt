use Rattle.std.proofs.Common.{map}
use Rattle.search.proofs.Passes.{LedSoFar}
use Rattle.search.proofs.search.leads_others.Given as goal

abbrev pub invariant-loop-other : goal.invariant-loop-other
invariant-loop-other g l = LedSoFar (g.L.Leads.relation l.by) (map g.E.Entry.labelled l.entries) l.other l.found
