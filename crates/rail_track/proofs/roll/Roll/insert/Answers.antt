use Rattle.std.proofs.Common.{◌∙◌, sym, arith}
use Rattle.std.proofs.lemmas.Bool.{false≢true}
use Rattle.rail_track.proofs.Inserts.{inserted_keys, absent_key, on_ok}
use Rattle.rail_track.proofs.roll.Roll.insert.Goals as goal

pub shift_insert-requires-clause-below_len : goal.shift_insert-requires-clause-below_len
shift_insert-requires-clause-below_len g c =
    λ is. absurd (false≢true (sym (absent_key g.K.PartialEq.eq g.T.Keyed.key_of c.self.inside.keys.keys c.self.inside.items.items c.self.invariant c.args.item c.key.result c.key.ensures (rw c.self.view_is c.requires.fresh)) ∙ is))

pub invariant_of-self-2 : goal.invariant_of-self-2
invariant_of-self-2 g c =
    let items = c.self.inside.items.items in
    let room = on_ok c.reserve.result (sym c.is_err.ensures.value ∙ c.if-is_err.false) c.reserve.ensures.ok in
    let keys = on_ok c.shift_insert.result (sym c.is_err-2.ensures.value ∙ c.if-is_err-2.false) c.shift_insert.ensures.keys in
    let put = c.insert.ensures.succeeds (omega (arith, room)) in
    rw (c.insert.ensures.items, put, c.reserve.ensures.items)
    (keys ∙ inserted_keys g.K.PartialEq.eq g.T.Keyed.key_of c.self.inside.keys.keys items c.args.index c.self.invariant c.args.item c.key.result c.key.ensures (rw c.self.view_is c.requires.fresh))
