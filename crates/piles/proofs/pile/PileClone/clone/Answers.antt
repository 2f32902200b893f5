-- The copy has the pile's system.
use Rattle.std.proofs.Common.{rules}
use Rattle.piles.proofs.Same.{same_pile}
use Rattle.piles.proofs.pile.PileClone.clone.Goals as goal

pub returns : goal.returns
returns g c = record { cases = same_pile _ c.args.self.now (search rules) }
