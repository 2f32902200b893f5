use Rattle.std.proofs.Common.{◌≡◌, ◌≤◌, vec_items}
use Rattle.rolling.specs.Rolling.{rolled}
use Rattle.rolling.proofs.roll.Given as goal

abbrev pub invariant-loop-round : goal.invariant-loop-round
invariant-loop-round g l = (vec_items l.given ≡ rolled (g.S.LabelSystem.meaning l.system) l._round) × (l._round ≤ l.rounds)
