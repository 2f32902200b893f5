-- The scratch lists suffice, no divisor is 0, and joined labels fit, whatever lists the parts are chosen for.
use Rattle.std.proofs.Common.{◌≡◌, ℕ, List, true}
use Rattle.labels.specs.Plain.{takes_one_more}
use Rattle.over.specs.Over.{over_order, over_count}
use Rattle.over.proofs.Small.{Two, Begun, short_and_wide, chosen_small, grown_small}
use Rattle.composition.proofs.composed.Over.by_parts.Given as given
use Rattle.composition.proofs.composed.Over.by_parts.Goals as goal

abbrev two : (g : given.Over) → g.row.O.Denot → g.row.I.Denot → Two
two g a b = record { o = g.O.LabelSystem.meaning a; i = g.I.LabelSystem.meaning b; lo = g.met.O.LabelSystem.shows a; li = g.met.I.LabelSystem.shows b }

-- what is known of the list once it takes one more
known : (g : given.Over) (a : g.row.O.Denot) (b : g.row.I.Denot) {order count width : ℕ} (l : List ℕ) → order ≡ over_order (two g a b).o (two g a b).i → count ≡ over_count (two g a b).o (two g a b).i → width ≡ (two g a b).i.count → true ≡ takes_one_more order count l → Begun (two g a b) order count width l
known g a b l eo ec ew f = record { order_is = eo; count_is = ec; width_is = ew; free = f }

pub outer_parts-parts-requires : goal.outer_parts-parts-requires
outer_parts-parts-requires g c =
    short_and_wide (known g c.args.self.now.outer c.args.self.now.inner _ c.size.ensures.order c.size.ensures.count c.count-width.ensures c.if-not-takes_one_more.ensures) c.if-is_empty.ensures

pub inner_parts-group-requires : goal.inner_parts-group-requires
inner_parts-group-requires g c =
    short_and_wide (known g c.args.self.now.outer c.args.self.now.inner _ c.size.ensures.order c.size.ensures.count c.count-width.ensures c.if-not-takes_one_more.ensures) c.if-is_empty.ensures

pub joined-requires : goal.joined-requires
joined-requires g c =
    chosen_small (known g c.args.self.now.outer c.args.self.now.inner _ c.size.ensures.order c.size.ensures.count c.count-width.ensures c.if-not-takes_one_more.ensures) _ _ _ _ c.choose.ensures c.choose-then-is_empty.ensures

pub joined-requires-then-can_grow : goal.joined-requires-then-can_grow
joined-requires-then-can_grow g c =
    grown_small (known g c.args.self.now.outer c.args.self.now.inner _ c.size.ensures.order c.size.ensures.count c.count-width.ensures c.if-not-takes_one_more.ensures) c.in-Some.m _ _ _ _ c.in-Some.ensures c.as_slice.ensures.list c.outer_parts-parts.ensures.parts c.choose-then-can_grow.ensures

pub joined-requires-else-can_grow : goal.joined-requires-else-can_grow
joined-requires-else-can_grow g c =
    chosen_small (known g c.args.self.now.outer c.args.self.now.inner _ c.size.ensures.order c.size.ensures.count c.count-width.ensures c.if-not-takes_one_more.ensures) _ _ _ _ c.choose-else-can_grow.ensures c.choose-else-can_grow-2.ensures
