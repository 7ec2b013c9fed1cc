use Rattle.std.proofs.Common.{◌≡◌, ap, ◌∙◌, sym, refl, arith, [], ◌∷◌, ◌++◌, length, get_or, unwrap_or, count_by}
use Rattle.std.specs.Map.{lookup}
use Rattle.std.proofs.lemmas.List.{get_or_push, map-id}
use Rattle.rail_base.specs.NameForms.{same_name}
use Rattle.rail_track.specs.declared.section.Section.{Section}
use Rattle.rail_track.specs.KeyCounts.{times}
use Rattle.rail_track.specs.Joints.{is_full}
use Rattle.rail_track.specs.SectionRules.{section_refusal}
use Rattle.rail_track.proofs.Soundness.{accepted, IsSoundTrack-push, put_in, one_more, few_uses}
use Rattle.rail_track.proofs.track.Track.add_section.Goals as goal

pub invariant_of-self-2 : goal.invariant_of-self-2
invariant_of-self-2 c =
    let sections = c.self.inside.sections in
    let section = c.args.section in
    let is = accepted sections (is_full sections) section (ap (λ known. section_refusal known section) c.self.view_is ∙ sym c.in_default.ensures) in
    let added : c.push.new.self ≡ sections ++ section ∷ [] = c.in_ok-push.ensures.ok in
    let last = (λ i. get_or ((c.as_slice-2.ensures ∙ added) i) (length (c.as_slice-index.ensures i)) c.index-as_slice-index.result) ∙ get_or_push sections section c.index-as_slice-index.result (length sections) refl in
    let joints : c.as_slice-3.result.now ≡ section.joints = c.as_slice-3.ensures ∙ ap (λ (s : Section). s.joints) last in
    rw added record {
      sound = IsSoundTrack-push sections (is_full sections) section c.self.invariant.sound is (one_more sections);
      counted = λ joint.
          let kept : times same_name c.reserve.new.self joint ≡ times same_name c.self.inside.uses joint = ap (λ es. unwrap_or (lookup (same_name joint) es) 0) c.reserve.ensures.entries in
          omega (arith, rw joints at (c.count_each.ensures.counted joint), ap (count_by (same_name joint)) (map-id section.joints), kept, c.self.invariant.counted joint, put_in sections (is_full sections) section is joint);
    }

pub count_each-requires-clause-fits : goal.count_each-requires-clause-fits
count_each-requires-clause-fits c =
    let sections = c.self.inside.sections in
    let section = c.args.section in
    let is = accepted sections (is_full sections) section (ap (λ known. section_refusal known section) c.self.view_is ∙ sym c.in_default.ensures) in
    let last = (λ i. get_or ((c.as_slice-2.ensures ∙ c.in_ok-push.ensures.ok) i) (length (c.as_slice-index.ensures i)) c.index-as_slice-index.result) ∙ get_or_push sections section c.index-as_slice-index.result (length sections) refl in
    let joints : c.as_slice-3.result.now ≡ section.joints = c.as_slice-3.ensures ∙ ap (λ (s : Section). s.joints) last in
    rw joints (λ joint.
    let kept : times same_name c.reserve.new.self joint ≡ times same_name c.self.inside.uses joint = ap (λ es. unwrap_or (lookup (same_name joint) es) 0) c.reserve.ensures.entries in
    omega (arith, kept, ap (count_by (same_name joint)) (map-id section.joints), c.self.invariant.counted joint, few_uses sections (is_full sections) section c.self.invariant.sound is joint))

pub returns-clause-sound : goal.returns-clause-sound
returns-clause-sound c =
    let sections = c.self.inside.sections in
    let section = c.args.section in
    let is = accepted sections (is_full sections) section (ap (λ known. section_refusal known section) c.self.view_is ∙ sym c.in_default.ensures) in
    rw c.in_ok-push.ensures.ok (IsSoundTrack-push sections (is_full sections) section c.self.invariant.sound is (one_more sections))
