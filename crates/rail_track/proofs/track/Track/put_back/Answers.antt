use Rattle.std.proofs.Common.{◌≡◌, ◌≤◌, List, ℕ, ◌+◌, ◌∙◌, ap, arith, insert, length, get_or, count_by, unwrap_or}
use Rattle.std.specs.Map.{lookup}
use Rattle.std.proofs.lemmas.List.{map-id}
use Rattle.std.proofs.lemmas.List.Edits.{get_or-insert_at}
use Rattle.rail_base.specs.NameForms.{same_name}
use Rattle.rail_track.specs.declared.section.Section.{Section}
use Rattle.rail_track.specs.KeyCounts.{times}
use Rattle.rail_track.specs.Joints.{has_joint, sections_at}
use Rattle.rail_track.specs.SoundTracks.{is_fit, have_one_name, IsSoundTrack}
use Rattle.rail_track.proofs.Tallies.{same_name-comm}
use Rattle.rail_track.proofs.Soundness.{counted_joints}
use Rattle.rail_track.proofs.Inserts.{fresh_from, count_by-insert, all_inserted}
use Rattle.rail_track.proofs.track.Track.put_back.Goals as goal

-- the number of sections at each joint, with the section back
put_in : (sections : List Section) (i : ℕ) (section : Section) → IsSoundTrack (insert sections i section) → (joint : List ℕ) → sections_at (insert sections i section) joint ≡ sections_at sections joint + count_by (same_name joint) section.joints
put_in sections i section sound joint =
    omega (arith, count_by-insert (has_joint joint) sections i section, counted_joints section joint (all_inserted is_fit sections i section sound.fit))

pub insert-requires-clause-fresh : goal.insert-requires-clause-fresh
insert-requires-clause-fresh c =
    rw c.self.view_is (fresh_from have_one_name (λ x y. same_name-comm x.name y.name) c.args.self.now c.args.index c.args.section c.requires.sound.distinct)

pub count_each-requires-clause-fits : goal.count_each-requires-clause-fits
count_each-requires-clause-fits c =
    let sections = c.self.inside.sections in
    let section = c.args.section in
    let sound : IsSoundTrack (insert sections c.args.index section) = rw c.self.view_is c.requires.sound in
    let within : c.args.index ≤ length sections = rw c.self.view_is c.requires.within in
    let there = ap (λ xs. get_or xs c.args.index c.index-as_slice-index.result) (c.as_slice-2.ensures ∙ c.in-Ok.ensures.ok) ∙ get_or-insert_at sections c.args.index section c.index-as_slice-index.result within in
    let joints : c.as_slice-3.result.now ≡ section.joints = c.as_slice-3.ensures ∙ ap (λ (s : Section). s.joints) there in
    rw joints (λ joint.
    let kept : times same_name c.reserve.new.self joint ≡ times same_name c.self.inside.uses joint = ap (λ es. unwrap_or (lookup (same_name joint) es) 0) c.reserve.ensures.entries in
    omega (arith, kept, ap (count_by (same_name joint)) (map-id section.joints), c.self.invariant.counted joint, put_in sections c.args.index section sound joint, sound.joined joint))

pub invariant_of-self-2 : goal.invariant_of-self-2
invariant_of-self-2 c =
    let sections = c.self.inside.sections in
    let section = c.args.section in
    let sound : IsSoundTrack (insert sections c.args.index section) = rw c.self.view_is c.requires.sound in
    let within : c.args.index ≤ length sections = rw c.self.view_is c.requires.within in
    let put = c.in-Ok.ensures.ok in
    let there = ap (λ xs. get_or xs c.args.index c.index-as_slice-index.result) (c.as_slice-2.ensures ∙ put) ∙ get_or-insert_at sections c.args.index section c.index-as_slice-index.result within in
    let joints : c.as_slice-3.result.now ≡ section.joints = c.as_slice-3.ensures ∙ ap (λ (s : Section). s.joints) there in
    rw put record {
      sound = sound;
      counted = λ joint.
          let kept : times same_name c.reserve.new.self joint ≡ times same_name c.self.inside.uses joint = ap (λ es. unwrap_or (lookup (same_name joint) es) 0) c.reserve.ensures.entries in
          omega (arith, rw joints at (c.count_each.ensures.counted joint), ap (count_by (same_name joint)) (map-id section.joints), kept, c.self.invariant.counted joint, put_in sections c.args.index section sound joint);
    }
