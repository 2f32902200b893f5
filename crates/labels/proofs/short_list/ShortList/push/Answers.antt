-- The places after the last number stay zeros, and a full list stays as it is.
use Rattle.std.proofs.Common.{rules, arith}
use Rattle.labels.proofs.Shorts.{full, rest_stays}
use Rattle.labels.proofs.short_list.ShortList.push.Goals as goal

pub invariant_of-self : goal.invariant_of-self
invariant_of-self c =
    let s = c.self.inside in
    let inside = c.self.invariant in
    (omega (arith, c.if-self-lt20.true), search (rules, inside.1), rest_stays s.items s.len _ inside.1 c.if-self-lt20.true inside.2)

pub returns-else-self-lt20 : goal.returns-else-self-lt20
returns-else-self-lt20 c =
    let s = c.self.inside in
    let stays = full s.items s.len c.args.number c.self.invariant.1 c.self.invariant.0 c.if-self-lt20.false in
    let seen = c.self.view_is in
    cc
