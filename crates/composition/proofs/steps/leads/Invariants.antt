use Rattle.std.proofs.Common.{◌≡◌, ℕ, ◌<◌, true, get_or}
use Rattle.composition.proofs.steps.leads.Given as goal

abbrev pub invariant-loop-k : goal.invariant-loop-k
invariant-loop-k g l = (j : ℕ) → j < l.k → (j ≡ l.place → ⊥) → (g.S.LabelSystem.meaning l.system).beats (get_or l.parts l.place 0) (get_or l.parts j 0) ≡ true
