use Rattle.std.proofs.Common.{◌≡◌, map, take}
use Rattle.search.specs.Search.{labels_in}
use Rattle.search.proofs.gather.labels_in.Given as goal

abbrev pub invariant-loop-entry : goal.invariant-loop-entry
invariant-loop-entry g l = l.found ≡ take 20 (labels_in (map g.E.Entry.labelled (take l.entry-index l.entries)))
