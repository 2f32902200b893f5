use Rattle.std.proofs.Common.{◌≡◌, ℕ, ◌<◌, true, get_or}
use Rattle.rolling.proofs.beats_all.Given as goal

abbrev pub invariant-loop-other : goal.invariant-loop-other
invariant-loop-other g l = (k : ℕ) → k < l.other-index → (g.S.LabelSystem.meaning l.system).beats l.label (get_or l.labels k 0) ≡ true
