use Rattle.std.proofs.Common.{◌≡◌, ℕ, false, [], ◌∷◌, unwrap_or, ap, sym, ◌∙◌, arith, insert}
use Rattle.std.specs.List.{list_any}
use Rattle.std.specs.Map.{lookup}
use Rattle.std.proofs.lemmas.List.Sums.{count_by-le-length}
use Rattle.rail_base.specs.NameForms.{same_name}
use Rattle.rail_track.specs.KeyCounts.{times}
use Rattle.rail_track.proofs.CallerLemmas.{find-insert, on_ok, without-insert}
use Rattle.rail_routes.specs.declared.items.Turn.{Turn}
use Rattle.rail_routes.specs.Net.{Net, is_turn}
use Rattle.rail_routes.specs.SoundNetworks.{IsSoundNetwork}
use Rattle.rail_routes.proofs.Puts.{fresh_by_count}
use Rattle.rail_routes.proofs.Restorings.{own_turn}
use Rattle.rail_routes.proofs.Tables.{turn_uses-le}
use Rattle.rail_routes.proofs.network.Network.put_back_turn.Goals as goal

-- a turn with which a network is sound is between other posts than the others
fresh : (net : Net) (index : ℕ) (turn : Turn) → IsSoundNetwork (record net { turns = insert net.turns index turn }) → list_any (is_turn turn.arriving turn.leaving) net.turns ≡ false
fresh net index turn sound = fresh_by_count (is_turn turn.arriving turn.leaving) net.turns index turn 0 (own_turn turn) (omega (arith, sound.distinct.turns_by_posts turn.arriving turn.leaving))

pub insert-requires-clause-fresh : goal.insert-requires-clause-fresh
insert-requires-clause-fresh c =
    ap (λ (net : Net). list_any (is_turn c.args.turn.arriving c.args.turn.leaving) net.turns) c.self.view_is ∙ fresh c.args.self.now c.args.index c.args.turn c.requires.sound

pub count_each-requires-clause-fits : goal.count_each-requires-clause-fits
count_each-requires-clause-fits c = λ name.
    let kept : times same_name c.reserve.new.self name ≡ times same_name c.self.inside.turned name = ap (λ es. unwrap_or (lookup (same_name name) es) 0) c.reserve.ensures.entries in
    omega (arith, kept, c.self.invariant.turned name, c.self.invariant.sound.distinct.few_turns, turn_uses-le name c.self.inside.turns, count_by-le-length (same_name name) (c.args.turn.arriving ∷ c.args.turn.leaving ∷ []))

pub returns-clause-found : goal.returns-clause-found
returns-clause-found c =
    let turn = c.args.turn in
    let test = is_turn turn.arriving turn.leaving in
    let new = ap (λ (net : Net). list_any test net.turns) c.self.view_is ∙ fresh c.args.self.now c.args.index turn c.requires.sound in
    let put = on_ok c.insert.result (sym c.is_err.ensures.value ∙ c.if-is_err.false) c.insert.ensures.ok in
    rw put (find-insert test c.self.inside.turns c.args.index turn new (own_turn turn))

pub returns-clause-back : goal.returns-clause-back
returns-clause-back c =
    let turn = c.args.turn in
    let test = is_turn turn.arriving turn.leaving in
    let new = ap (λ (net : Net). list_any test net.turns) c.self.view_is ∙ fresh c.args.self.now c.args.index turn c.requires.sound in
    let put = on_ok c.insert.result (sym c.is_err.ensures.value ∙ c.if-is_err.false) c.insert.ensures.ok in
    rw put (without-insert test c.self.inside.turns c.args.index turn new (own_turn turn) ∙ ap (λ (net : Net). net.turns) c.self.view_is)
