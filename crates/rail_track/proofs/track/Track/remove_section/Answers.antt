use Rattle.std.proofs.Common.{ap, ◌∙◌, sym, arith, count_by}
use Rattle.std.proofs.lemmas.List.{map-id}
use Rattle.rail_base.specs.NameForms.{same_name}
use Rattle.rail_track.specs.Joints.{is_named}
use Rattle.rail_track.proofs.Withouts.{without-absent}
use Rattle.rail_track.proofs.Soundness.{IsSoundTrack-without, taken_out}
use Rattle.rail_track.proofs.track.Track.remove_section.Goals as goal

pub invariant_of-self : goal.invariant_of-self
invariant_of-self c =
    rw (c.remove.ensures.rest ∙ without-absent (is_named c.args.name) c.self.inside.sections (sym c.in_default.ensures.item)) c.self.invariant

pub returns-in_default-clause-unchanged : goal.returns-in_default-clause-unchanged
returns-in_default-clause-unchanged c =
    c.remove.ensures.rest ∙ without-absent (is_named c.args.name) c.self.inside.sections (sym c.in_default.ensures.item) ∙ c.self.view_is

pub discount_each-requires : goal.discount_each-requires
discount_each-requires c =
    let sections = c.self.inside.sections in
    let section = c.in-Some.section in
    rw c.as_slice.ensures record {
      counted = λ joint. omega (arith, ap (count_by (same_name joint)) (map-id section.joints), taken_out (is_named c.args.name) sections section c.self.invariant.sound (sym c.in-Some.ensures.item) joint, c.self.invariant.counted joint);
    }

pub invariant_of-self-2 : goal.invariant_of-self-2
invariant_of-self-2 c =
    let sections = c.self.inside.sections in
    let section = c.in-Some.section in
    rw c.remove.ensures.rest record {
      sound = IsSoundTrack-without (is_named c.args.name) sections c.self.invariant.sound;
      counted = λ joint. omega (
        arith,
        ap (count_by (same_name joint)) (map-id section.joints),
        taken_out (is_named c.args.name) sections section c.self.invariant.sound (sym c.in-Some.ensures.item) joint,
        c.self.invariant.counted joint,
        rw c.as_slice.ensures at (c.discount_each.ensures.discounted joint),
      );
    }

pub returns-in_default-clause-sound : goal.returns-in_default-clause-sound
returns-in_default-clause-sound c = rw c.remove.ensures.rest (IsSoundTrack-without (is_named c.args.name) c.self.inside.sections c.self.invariant.sound)

pub returns-clause-sound : goal.returns-clause-sound
returns-clause-sound c = rw c.remove.ensures.rest (IsSoundTrack-without (is_named c.args.name) c.self.inside.sections c.self.invariant.sound)
