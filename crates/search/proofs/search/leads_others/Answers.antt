-- The candidate's label fails to lead at the place at which the walk stops.
use Rattle.search.proofs.Passes.{not_led}
use Rattle.search.proofs.search.leads_others.Goals as goal

pub returns-then-not-is_led : goal.returns-then-not-is_led
returns-then-not-is_led g c =
    not_led (g.L.Leads.relation c.args.by.now) g.E.Entry.labelled c.args.entries.now c.loop-other.other _ _ c.loop-other-test.true c.index-entries-other.is c.label.ensures c.args.found c.requires c.if-not-is_led.ensures
