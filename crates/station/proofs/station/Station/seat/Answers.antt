-- The front of twenty blank rows is as many blank rows.
use Rattle.std.proofs.Common.{◌≡◌, ◌∙◌, ap, take, replicate, subst, rules}
use Rattle.std.proofs.lemmas.List.{take-replicate}
use Rattle.station.specs.declared.row.Row.{Row}
use Rattle.station.specs.Table.{blank}
use Rattle.station.proofs.station.Station.seat.Goals as goal

pub returns-clause-rows : goal.returns-clause-rows
returns-clause-rows g c =
    let default : c.default.result ≡ blank = search rules in
    let twenty : c.from-self.result.items ≡ replicate 20 blank = subst (λ (row : Row). c.from-self.result.items ≡ replicate 20 row) default c.from-self.ensures.0 in
    let wide : c.from.result ≡ c.args.seats = search rules in
    c.truncate.ensures.items ∙ ap (λ n. take n c.from-self.result.items) wide ∙ ap (take c.args.seats) twenty ∙ take-replicate c.args.seats 20 blank c.requires
