-- The rows are not more than are listed.
use Rattle.std.proofs.Common.{map, length, ap, arith}
use Rattle.std.proofs.lemmas.List.{length-map}
use Rattle.station.proofs.Layouts.{all_listed}
use Rattle.station.proofs.station.Station.choice_beside.Goals as goal

pub returns : goal.returns
returns g c =
    let listed = all_listed (map g.R.Entry.labelled c.args.rows.now.items) (omega (arith, length-map c.args.rows.now.items g.R.Entry.labelled, ap length c.deref.ensures.0)) in
    cc
