-- The promises hold over every system that shows the laws.
use Rattle.lives.proofs.Promised.{promised}
use Rattle.runs.proofs.runs.run.Goals as goal

pub returns : goal.returns
returns g c =
    let meaning = g.S.LabelSystem.meaning c.args.system in
    let laws = g.met.S.LabelSystem.shows c.args.system in
    record { replies = c.life_of.ensures; promised = promised meaning meaning laws laws }
