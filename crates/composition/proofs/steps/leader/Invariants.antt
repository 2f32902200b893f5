use Rattle.std.proofs.Common.{ℕ, ◌<◌}
use Rattle.labels.specs.System.{LeadsAt}
use Rattle.composition.proofs.steps.leader.Given as goal

abbrev pub invariant-loop-place : goal.invariant-loop-place
invariant-loop-place g l = (k : ℕ) → k < l.place → LeadsAt (g.S.LabelSystem.meaning l.system).beats l.parts k → ⊥
