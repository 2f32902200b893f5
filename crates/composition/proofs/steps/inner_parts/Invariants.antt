use Rattle.std.proofs.Common.{◌≡◌, take}
use Rattle.over.specs.Over.{under}
use Rattle.composition.proofs.steps.inner_parts.Given as goal

abbrev pub invariant-loop-label : goal.invariant-loop-label
invariant-loop-label l = l.group ≡ under l.width l.part (take l.label-index l.labels)
