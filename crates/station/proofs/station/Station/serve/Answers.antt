-- What runs by the rules is orderly.
use Rattle.station.proofs.Orders.{orderly}
use Rattle.station.proofs.station.Station.serve.Goals as goal

pub returns-clause-orderly : goal.returns-clause-orderly
returns-clause-orderly g c = orderly _ _ _ _ _ c.dispatch.ensures.ran
