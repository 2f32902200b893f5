use Rattle.std.proofs.Common.{◌≡◌, ◌++◌, drop, vec_items}
use Rattle.station.specs.View.{table}
use Rattle.lives.specs.Lives.{replies}
use Rattle.runs.proofs.serving.serve_all.Given as goal

-- what is given so far and the replies still to come are the replies to all calls
abbrev pub invariant-loop-call : goal.invariant-loop-call
invariant-loop-call g l =
    (vec_items l.given ++ replies (g.S.LabelSystem.meaning l.station.system) (table l.station) (drop l.call-index l.calls) ≡ replies (g.S.LabelSystem.meaning l.initial.station.system) (table l.initial.station) l.calls)
    × (l.station.system ≡ l.initial.station.system)
