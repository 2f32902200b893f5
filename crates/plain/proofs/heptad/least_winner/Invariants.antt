use Rattle.std.proofs.Common.{◌≡◌, ◌-◌, true, take}
use Rattle.labels.specs.Plain.{least_from, beats_all}
use Rattle.labels.proofs.Heptad.{beats7}
use Rattle.plain.proofs.heptad.least_winner.Given as goal

-- no candidate so far beats every listed label
abbrev pub invariant-candidate : goal.invariant-candidate
invariant-candidate l = least_from beats7 l.labels (7 - l.x) l.x ≡ least_from beats7 l.labels 7 0

-- the candidate beats every label so far
abbrev pub invariant-loop-y : goal.invariant-loop-y
invariant-loop-y l = beats_all beats7 l.x (take l.y-index l.labels) ≡ true
