use Rattle.std.proofs.Common.{[], ◌∷◌, count_by, ◌∙◌, sym, arith}
use Rattle.rail_base.specs.NameForms.{same_name}
use Rattle.rail_track.proofs.CallerLemmas.{without-absent}
use Rattle.rail_routes.specs.declared.items.Turn.{Turn}
use Rattle.rail_routes.specs.Net.{is_turn}
use Rattle.rail_routes.proofs.Uses.{sum_by-without}
use Rattle.rail_routes.specs.NetworkFields.{lists_of}
use Rattle.rail_routes.proofs.WayChanges.{sound_without_turn}
use Rattle.std.proofs.Common.{ap}
use Rattle.rail_track.proofs.CallerLemmas.{same_from_name}
use Rattle.rail_routes.specs.Net.{Net}
use Rattle.rail_routes.proofs.Lists.{both_true, find_true}
use Rattle.rail_routes.proofs.Restorings.{stood_of}
use Rattle.rail_routes.proofs.network.Network.remove_turn.Goals as goal

pub invariant_of-self : goal.invariant_of-self
invariant_of-self c = rw (c.remove.ensures.rest ∙ without-absent (is_turn c.args.arriving c.args.leaving) c.self.inside.turns (sym c.in_default.ensures.item)) c.self.invariant

pub returns-in_default-clause-unchanged : goal.returns-in_default-clause-unchanged
returns-in_default-clause-unchanged c = rw (c.remove.ensures.rest ∙ without-absent (is_turn c.args.arriving c.args.leaving) c.self.inside.turns (sym c.in_default.ensures.item)) c.self.view_is

pub discount_each-requires : goal.discount_each-requires
discount_each-requires c = record {
  counted = λ name.
      omega (arith, c.self.invariant.turned name, sum_by-without (is_turn c.args.arriving c.args.leaving) (λ (turn : Turn). count_by (same_name name) (turn.arriving ∷ turn.leaving ∷ [])) c.self.inside.turns c.in-Some.turn (sym c.in-Some.ensures.item));
}

pub invariant_of-self-2 : goal.invariant_of-self-2
invariant_of-self-2 c =
    let is = c.self.invariant in
    rw c.remove.ensures.rest record {
      sound = sound_without_turn (lists_of c.self.inside) (is_turn c.args.arriving c.args.leaving) is.sound;
      claimed = is.claimed;
      turned = λ name.
          omega (arith, is.turned name, c.discount_each.ensures.discounted name, sum_by-without (is_turn c.args.arriving c.args.leaving) (λ (turn : Turn). count_by (same_name name) (turn.arriving ∷ turn.leaving ∷ [])) c.self.inside.turns c.in-Some.turn (sym c.in-Some.ensures.item));
      routed = is.routed;
    }

pub returns-in_default-clause-sound : goal.returns-in_default-clause-sound
returns-in_default-clause-sound c = rw c.remove.ensures.rest (sound_without_turn (lists_of c.self.inside) (is_turn c.args.arriving c.args.leaving) c.self.invariant.sound)

pub returns-clause-sound : goal.returns-clause-sound
returns-clause-sound c = rw c.remove.ensures.rest (sound_without_turn (lists_of c.self.inside) (is_turn c.args.arriving c.args.leaving) c.self.invariant.sound)

pub returns-clause-arriving : goal.returns-clause-arriving
returns-clause-arriving c =
    let turn = c.in-Some.turn in
    let passes = both_true (same_name c.args.arriving turn.arriving) (same_name c.args.leaving turn.leaving) (find_true (is_turn c.args.arriving c.args.leaving) c.self.inside.turns turn (sym c.in-Some.ensures.item)) in
    sym (same_from_name c.args.arriving turn.arriving passes.0)

pub returns-clause-leaving : goal.returns-clause-leaving
returns-clause-leaving c =
    let turn = c.in-Some.turn in
    let passes = both_true (same_name c.args.arriving turn.arriving) (same_name c.args.leaving turn.leaving) (find_true (is_turn c.args.arriving c.args.leaving) c.self.inside.turns turn (sym c.in-Some.ensures.item)) in
    sym (same_from_name c.args.leaving turn.leaving passes.1)

pub returns-clause-stood : goal.returns-clause-stood
returns-clause-stood c =
    stood_of (is_turn c.args.arriving c.args.leaving) c.self.inside.turns c.args.self.now.turns _ c.in-Some.turn (sym c.in-Some.ensures.item) c.remove.ensures.rest (ap (λ (net : Net). net.turns) c.self.view_is)
