-- The promises hold over any two systems that show the laws.
use Rattle.lives.proofs.Promised.{promised}
use Rattle.runs.proofs.runs.run_both.Goals as goal

pub returns : goal.returns
returns g c = record {
  first = c.lives_of.ensures.first;
  second = c.lives_of.ensures.second;
  promised = promised (g.S.LabelSystem.meaning c.args.first) (g.U.LabelSystem.meaning c.args.second) (g.met.S.LabelSystem.shows c.args.first) (g.met.U.LabelSystem.shows c.args.second);
}
