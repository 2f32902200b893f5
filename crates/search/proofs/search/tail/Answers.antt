-- What the search finds is the tail of the definition.
use Rattle.search.proofs.Tops.{tail_searched}
use Rattle.search.proofs.search.tail.Goals as goal

pub returns : goal.returns
returns g c =
    let h = tail_searched (g.S.LabelSystem.meaning c.args.system.now) (g.met.S.LabelSystem.shows c.args.system.now) _ _ c.leading.ensures in
    record { value = h.0; finds = h.1; lawful = h.2 }
