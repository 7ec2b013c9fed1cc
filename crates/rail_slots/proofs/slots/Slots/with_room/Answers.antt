use Rattle.std.proofs.Common.{◌≡◌, ◌+◌, suc, [], None, replicate, ap, ◌∙◌, arith}
use Rattle.rail_slots.proofs.Shown.{Used, empty_is}
use Rattle.rail_slots.proofs.slots.Slots.with_room.Goals.{In_ok-copies-2}
use Rattle.rail_slots.proofs.slots.Slots.with_room.Goals as goal

empty : (g : _) (c : In_ok-copies-2 g) → Used c.in_ok-copies.field-0.items c.in_ok-copies-2.field-0.items c.args.chains c.args.room (suc c.args.chains + c.args.room) (replicate c.args.chains [])
empty g c =
    let heads : c.in-Some.heads ≡ suc c.args.chains = omega (arith, c.in-Some.ensures.1) in
    empty_is c.args.chains c.args.room c.in_ok-copies.field-0.items c.in_ok-copies-2.field-0.items
    (c.in_ok-copies.ensures.rows ∙ ap (λ o. replicate c.in-Some.heads o) c.none.ensures ∙ ap (λ n. replicate n None) heads) (c.in_ok-copies-2.ensures.rows ∙ ap (λ n. replicate n None) heads)

pub invariant_of-result : goal.invariant_of-result
invariant_of-result g c =
    let used = empty g c in
    let fits : suc c.args.chains + c.args.room ≡ c.in-Some-checked_add.cells = omega (arith, c.in-Some.ensures.1, c.in-Some-checked_add.ensures.1) in
    record {
      sound = used.sound;
      links_fit = omega (arith, used.all_is, fits, c.in_ok-copies.ensures.room);
      items_fit = omega (arith, used.all_is, fits, c.in_ok-copies-2.ensures.room);
    }

pub returns-clause-chains : goal.returns-clause-chains
returns-clause-chains g c = (empty g c).is
