-- The promises hold over each pile.
use Rattle.over.specs.Piles.{pile_1, pile_2, pile_3, pile_4}
use Rattle.over.proofs.Piles.{pile_1_laws, pile_2_laws, pile_3_laws, pile_4_laws}
use Rattle.lives.proofs.Promised.{every_life}
use Rattle.listing.proofs.traces.listing.Goals as goal

pub returns : goal.returns
returns c = record {
  bytes = c.list.ensures;
  promised = record {
    over_1 = every_life pile_1 pile_1_laws;
    over_2 = every_life pile_2 pile_2_laws;
    over_3 = every_life pile_3 pile_3_laws;
    over_4 = every_life pile_4 pile_4_laws;
  };
}
