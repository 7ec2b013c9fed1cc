use Rattle.std.proofs.Common.{[], ◌∷◌, count_by, ◌∙◌, sym, arith}
use Rattle.rail_base.specs.NameForms.{same_name}
use Rattle.rail_track.proofs.CallerLemmas.{without-absent}
use Rattle.rail_routes.specs.declared.items.Route.{Route}
use Rattle.rail_routes.specs.Net.{is_route}
use Rattle.rail_routes.specs.Uses.{sections_of}
use Rattle.rail_routes.proofs.Uses.{sum_by-without}
use Rattle.rail_routes.specs.NetworkFields.{lists_of}
use Rattle.rail_routes.proofs.WayChanges.{sound_without_route}
use Rattle.std.proofs.Common.{ap}
use Rattle.rail_track.proofs.CallerLemmas.{same_from_name}
use Rattle.rail_routes.specs.Net.{Net}
use Rattle.rail_routes.proofs.Lists.{find_true}
use Rattle.rail_routes.proofs.Restorings.{stood_of}
use Rattle.rail_routes.proofs.network.Network.remove_route.Goals as goal

pub invariant_of-self : goal.invariant_of-self
invariant_of-self c = rw (c.remove.ensures.rest ∙ without-absent (is_route c.args.name) c.self.inside.routes (sym c.in_default.ensures.item)) c.self.invariant

pub returns-in_default-clause-unchanged : goal.returns-in_default-clause-unchanged
returns-in_default-clause-unchanged c = rw (c.remove.ensures.rest ∙ without-absent (is_route c.args.name) c.self.inside.routes (sym c.in_default.ensures.item)) c.self.view_is

pub discount_sections-requires : goal.discount_sections-requires
discount_sections-requires c = λ name.
    omega (arith, c.self.invariant.claimed name, sum_by-without (is_route c.args.name) (λ route. count_by (same_name name) (sections_of route)) c.self.inside.routes c.in-Some.route (sym c.in-Some.ensures.item))

pub discount_each-requires : goal.discount_each-requires
discount_each-requires c = record {
  counted = λ name.
      omega (arith, c.self.invariant.routed name, sum_by-without (is_route c.args.name) (λ (route : Route). count_by (same_name name) (route.from ∷ route.to ∷ [])) c.self.inside.routes c.in-Some.route (sym c.in-Some.ensures.item));
}

pub invariant_of-self-2 : goal.invariant_of-self-2
invariant_of-self-2 c =
    let is = c.self.invariant in
    rw c.remove.ensures.rest record {
      sound = sound_without_route (lists_of c.self.inside) (is_route c.args.name) is.sound;
      claimed = λ name.
          omega (arith, is.claimed name, c.discount_sections.ensures name, sum_by-without (is_route c.args.name) (λ route. count_by (same_name name) (sections_of route)) c.self.inside.routes c.in-Some.route (sym c.in-Some.ensures.item));
      turned = is.turned;
      routed = λ name.
          omega (arith, is.routed name, c.discount_each.ensures.discounted name, sum_by-without (is_route c.args.name) (λ (route : Route). count_by (same_name name) (route.from ∷ route.to ∷ [])) c.self.inside.routes c.in-Some.route (sym c.in-Some.ensures.item));
    }

pub returns-in_default-clause-sound : goal.returns-in_default-clause-sound
returns-in_default-clause-sound c = rw c.remove.ensures.rest (sound_without_route (lists_of c.self.inside) (is_route c.args.name) c.self.invariant.sound)

pub returns-clause-sound : goal.returns-clause-sound
returns-clause-sound c = rw c.remove.ensures.rest (sound_without_route (lists_of c.self.inside) (is_route c.args.name) c.self.invariant.sound)

pub returns-clause-named : goal.returns-clause-named
returns-clause-named c =
    let route = c.in-Some.route in
    sym (same_from_name c.args.name route.name (find_true (is_route c.args.name) c.self.inside.routes route (sym c.in-Some.ensures.item)))

pub returns-clause-stood : goal.returns-clause-stood
returns-clause-stood c =
    stood_of (is_route c.args.name) c.self.inside.routes c.args.self.now.routes _ c.in-Some.route (sym c.in-Some.ensures.item) c.remove.ensures.rest (ap (λ (net : Net). net.routes) c.self.view_is)
