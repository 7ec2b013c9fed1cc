use Rattle.std.proofs.Common.{◌∙◌, sym}
use Rattle.rail_track.proofs.Rolls.{found_item, missing_item, kept_items, removed_items, removed_keys}
use Rattle.rail_track.proofs.roll.Roll.remove.Goals as goal

pub returns-in_err-index-clause-item : goal.returns-in_err-index-clause-item
returns-in_err-index-clause-item g c =
    let test = g.K.PartialEq.eq c.args.key.now in
    rw (c.from_residual.ensures, ← c.self.view_is) (missing_item test g.T.Keyed.key_of c.self.inside.keys.keys c.self.inside.items.items c.self.invariant (sym c.in_err-index.ensures.index))

pub returns-in_err-index-clause-rest : goal.returns-in_err-index-clause-rest
returns-in_err-index-clause-rest g c =
    let test = g.K.PartialEq.eq c.args.key.now in
    rw (← c.self.view_is) (kept_items test g.T.Keyed.key_of c.self.inside.keys.keys c.self.inside.items.items c.self.invariant (sym c.in_err-index.ensures.index))

pub invariant_of-self-2 : goal.invariant_of-self-2
invariant_of-self-2 g c =
    let test = g.K.PartialEq.eq c.args.key.now in
    rw (c.remove.ensures.items, removed_items test g.T.Keyed.key_of c.self.inside.keys.keys c.self.inside.items.items c.self.invariant c.in_ok-index.index (sym c.in_ok-index.ensures.index))
    (c.in_ok-index.ensures.keys ∙ removed_keys test g.T.Keyed.key_of c.self.inside.keys.keys c.self.inside.items.items c.self.invariant)

pub returns-clause-item : goal.returns-clause-item
returns-clause-item g c =
    let test = g.K.PartialEq.eq c.args.key.now in
    rw (← c.self.view_is) (found_item test g.T.Keyed.key_of c.self.inside.keys.keys c.self.inside.items.items c.self.invariant c.in_ok-index.index c.remove.result (sym c.in_ok-index.ensures.index) c.remove.ensures.value)

pub returns-clause-rest : goal.returns-clause-rest
returns-clause-rest g c =
    let test = g.K.PartialEq.eq c.args.key.now in
    rw (← c.self.view_is) (c.remove.ensures.items ∙ removed_items test g.T.Keyed.key_of c.self.inside.keys.keys c.self.inside.items.items c.self.invariant c.in_ok-index.index (sym c.in_ok-index.ensures.index))
