use Rattle.std.proofs.Common.{◌≡◌, [], ◌∷◌, unwrap_or, count_by, ap, sym, ◌∙◌, arith}
use Rattle.std.specs.Map.{lookup}
use Rattle.std.proofs.lemmas.List.Sums.{count_by-le-length, sum_by_push}
use Rattle.rail_base.specs.NameForms.{same_name}
use Rattle.rail_track.specs.KeyCounts.{times}
use Rattle.rail_routes.proofs.Tables.{turn_uses-le}
use Rattle.rail_routes.specs.declared.items.Turn.{Turn}
use Rattle.rail_routes.specs.Net.{Net}
use Rattle.rail_routes.specs.TurnRules.{turn_refusal}
use Rattle.rail_routes.specs.NetworkFields.{lists_of}
use Rattle.rail_routes.proofs.WayChanges.{sound_with_turn}
use Rattle.std.specs.List.{list_any}
use Rattle.rail_routes.specs.Net.{is_turn}
use Rattle.rail_routes.proofs.Restorings.{found_last, fresh_turn, own_turn, without_last}
use Rattle.rail_routes.proofs.network.Network.add_turn.Goals as goal

pub count_each-requires-clause-fits : goal.count_each-requires-clause-fits
count_each-requires-clause-fits c = λ name.
    let kept : times same_name c.reserve.new.self name ≡ times same_name c.self.inside.turned name = ap (λ es. unwrap_or (lookup (same_name name) es) 0) c.reserve.ensures.entries in
    omega (arith, kept, c.self.invariant.turned name, c.self.invariant.sound.distinct.few_turns, turn_uses-le name c.self.inside.turns, count_by-le-length (same_name name) (c.args.turn.arriving ∷ c.args.turn.leaving ∷ []))

pub invariant_of-self-2 : goal.invariant_of-self-2
invariant_of-self-2 c =
    let is = c.self.invariant in
    let turn = c.args.turn in
    rw c.in_ok-push.ensures.ok record {
      sound = sound_with_turn (lists_of c.self.inside) turn is.sound (ap (λ (net : Net). turn_refusal net turn) c.self.view_is ∙ sym c.in_default.ensures);
      claimed = is.claimed;
      turned = λ name.
          let kept : times same_name c.reserve.new.self name ≡ times same_name c.self.inside.turned name = ap (λ es. unwrap_or (lookup (same_name name) es) 0) c.reserve.ensures.entries in
          omega (arith, kept, is.turned name, c.count_each.ensures.counted name, sum_by_push (λ (t : Turn). count_by (same_name name) (t.arriving ∷ t.leaving ∷ [])) c.self.inside.turns turn);
      routed = is.routed;
    }

pub returns-clause-sound : goal.returns-clause-sound
returns-clause-sound c = rw c.in_ok-push.ensures.ok (sound_with_turn (lists_of c.self.inside) c.args.turn c.self.invariant.sound (ap (λ (net : Net). turn_refusal net c.args.turn) c.self.view_is ∙ sym c.in_default.ensures))

pub returns-clause-found : goal.returns-clause-found
returns-clause-found c =
    let test = is_turn c.args.turn.arriving c.args.turn.leaving in
    let fresh = ap (λ (net : Net). list_any test net.turns) c.self.view_is ∙ fresh_turn c.args.self.now c.args.turn (sym c.in_default.ensures) in
    rw c.in_ok-push.ensures.ok (found_last test c.self.inside.turns c.args.turn fresh (own_turn c.args.turn))

pub returns-clause-back : goal.returns-clause-back
returns-clause-back c =
    let test = is_turn c.args.turn.arriving c.args.turn.leaving in
    let fresh = ap (λ (net : Net). list_any test net.turns) c.self.view_is ∙ fresh_turn c.args.self.now c.args.turn (sym c.in_default.ensures) in
    rw c.in_ok-push.ensures.ok (without_last test c.self.inside.turns c.args.turn fresh (own_turn c.args.turn) ∙ ap (λ (net : Net). net.turns) c.self.view_is)
