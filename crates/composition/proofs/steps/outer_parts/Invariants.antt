use Rattle.std.proofs.Common.{◌≡◌, take}
use Rattle.over.specs.Over.{outer_parts}
use Rattle.composition.proofs.steps.outer_parts.Given as goal

abbrev pub invariant-loop-label : goal.invariant-loop-label
invariant-loop-label l = l.parts ≡ outer_parts l.width (take l.label-index l.labels)
