-- The row at the place found is that of the definition.
use Rattle.std.proofs.Common.{◌∙◌, ◌<◌, List, length, get_or, ap, sym, Some, arith}
use Rattle.station.specs.Table.{blank}
use Rattle.station.specs.Rules.{found_row}
use Rattle.station.specs.View.{table}
use Rattle.station.proofs.Layouts.{entries_of, laid_at, length_laid_out, seated_at}
use Rattle.station.proofs.station.Station.found.Goals as goal

pub returns-in_err-place-clause-value : goal.returns-in_err-place-clause-value
returns-in_err-place-clause-value g c =
    let t = table c.args.self.now in
    let entries = entries_of g.R.Laid.laid g.R.Entry.labelled g.R.Laid.label_of g.met.R.Laid.tells t c.deref.result.now (c.deref.ensures.0 ∙ c.requires) in
    let found = c.find.ensures.value ∙ ap (g.R.Laid.place_in (g.S.LabelSystem.meaning c.args.self.now.system)) entries in
    c.from_residual.ensures ∙ ap (found_row g.R.Laid.laid t) (sym c.in_err-place.was ∙ found)

pub returns : goal.returns
returns g c =
    let t = table c.args.self.now in
    let place = c.in_ok-place.place in
    let within : place < length t = omega (arith, c.in_ok-place.ensures.within, ap length c.deref.ensures.0, ap length c.requires, length_laid_out g.R.Laid.laid 1 t) in
    let read = c.index-deref-place.is ∙ ap (λ (l : List g.row.R.Denot). get_or l place c.index-deref-place.result) (c.deref-2.ensures.0 ∙ c.requires) ∙ laid_at g.R.Laid.laid 1 t place c.index-deref-place.result blank within in
    let entries = entries_of g.R.Laid.laid g.R.Entry.labelled g.R.Laid.label_of g.met.R.Laid.tells t c.deref.result.now (c.deref.ensures.0 ∙ c.requires) in
    let found = c.find.ensures.value ∙ ap (g.R.Laid.place_in (g.S.LabelSystem.meaning c.args.self.now.system)) entries in
    record { value = ap Some read ∙ ap (found_row g.R.Laid.laid t) (sym c.in_ok-place.was ∙ found); seated = (place, read, seated_at t place within) }
