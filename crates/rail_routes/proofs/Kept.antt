-- What holds on some sections holds on others that have those in question.
use Rattle.std.proofs.Common.{◌≡◌, ℕ, Bool, true, false, not, ◌&&◌, ◌||◌, ◌==◌, List, [], ◌∷◌, Option, Some, None, refl, ap, ◌∙◌}
use Rattle.std.specs.List.{list_any}
use Rattle.std.specs.Option.{option_map_or}
use Rattle.rail_base.specs.NameForms.{same_name}
use Rattle.rail_track.specs.declared.section.Section.{Section}
use Rattle.rail_track.specs.Joints.{section_named, section_has, sections_at, has_joint}
use Rattle.rail_track.specs.Passages.{has_passage, passages, leads}
use Rattle.rail_routes.specs.declared.items.Post.{Post}
use Rattle.rail_routes.specs.declared.items.PostRole.{PostRole}
use Rattle.rail_routes.specs.declared.items.PostRole.TheVariants.{Portal, Signal, Board}
use Rattle.rail_routes.specs.declared.items.Step.{Step}
use Rattle.rail_routes.specs.PostRules.{stands_as, has_joint_ahead}
use Rattle.rail_routes.specs.RouteRules.{is_ahead_of, begins, goes_on, ends, leads_on, leads_from, is_beyond}
use Rattle.rail_routes.specs.SoundNetworks.{lead_to, lead_on, is_sound_path, is_sound_overlap, lead_between}
use Rattle.rail_routes.proofs.Lists.{both_false, last_kept}

-- a section of this name is still there
abbrev pub Keeps : List Section → List Section → List ℕ → Type 0
Keeps sections others name = (section : Section) → section_named name sections ≡ Some section → section_named name others ≡ Some section

test_kept : (f : Section → Bool) (o p : Option Section) → ((section : Section) → o ≡ Some section → p ≡ Some section) → option_map_or f o false ≡ true → option_map_or f p false ≡ true
test_kept f None p keeps holds = cc
test_kept f (Some section) p keeps holds = ap (λ q. option_map_or f q false) (keeps section refl) ∙ holds

middle_kept : (a b c d : Bool) → (b ≡ true → c ≡ true) → (a && b && d) ≡ true → (a && c && d) ≡ true
middle_kept true true c d keeps h = (λ i. keeps refl i && d) ∙ h
middle_kept true false c d keeps h = cc
middle_kept false b c d keeps h = cc

both_kept : (a b c d : Bool) → (a ≡ true → c ≡ true) → (b ≡ true → d ≡ true) → (a && b) ≡ true → (c && d) ≡ true
both_kept true true c d first second h = λ i. first refl i && second refl i
both_kept true false c d first second h = cc
both_kept false b c d first second h = cc

module _ (sections others : List Section) where
  pub has_kept : (name joint : List ℕ) → Keeps sections others name → section_has sections name joint ≡ true → section_has others name joint ≡ true
  has_kept name joint keeps = test_kept (has_joint joint) (section_named name sections) (section_named name others) keeps

  pub passage_kept : (name from to : List ℕ) → Keeps sections others name → has_passage sections name from to ≡ true → has_passage others name from to ≡ true
  passage_kept name from to keeps = test_kept (λ (section : Section). list_any (leads from to) (passages section.kind section.joints)) (section_named name sections) (section_named name others) keeps

  module _ (gone : Step → Bool) (keeps : (step : Step) → gone step ≡ false → Keeps sections others step.section) where
    lead_to_kept : (end : Post) (joint : List ℕ) (steps : List Step) → list_any gone steps ≡ false → lead_to sections end joint steps ≡ true → lead_to others end joint steps ≡ true
    lead_to_kept end joint [] none leads = refl
    lead_to_kept end joint (step ∷ rest) none leads =
        let n = both_false (gone step) (list_any gone rest) none in
        both_kept (leads_on sections end joint step rest) (lead_to sections end step.to rest) (leads_on others end joint step rest) (lead_to others end step.to rest)
        (middle_kept (same_name joint step.from) (has_passage sections step.section step.from step.to) (has_passage others step.section step.from step.to) (goes_on rest || ends end step) (passage_kept step.section step.from step.to (keeps step n.0)))
        (lead_to_kept end step.to rest n.1) leads

    ahead_kept : (role : PostRole) (post : Post) (step : Step) → gone step ≡ false → is_ahead_of role post sections step.section ≡ true → is_ahead_of role post others step.section ≡ true
    ahead_kept Portal post step stays ahead = has_kept step.section post.joint (keeps step stays) ahead
    ahead_kept Signal post step stays ahead = ahead
    ahead_kept Board post step stays ahead = cc

    begins_kept : (post : Post) (steps : List Step) → list_any gone steps ≡ false → begins post sections steps ≡ true → begins post others steps ≡ true
    begins_kept post [] none begin = cc
    begins_kept post (step ∷ rest) none begin = ahead_kept post.role post step (both_false (gone step) (list_any gone rest) none).0 begin

    lead_on_kept : (joint : List ℕ) (steps : List Step) → list_any gone steps ≡ false → lead_on sections joint steps ≡ true → lead_on others joint steps ≡ true
    lead_on_kept joint [] none leads = refl
    lead_on_kept joint (step ∷ rest) none leads =
        let n = both_false (gone step) (list_any gone rest) none in
        both_kept (leads_from sections joint step) (lead_on sections step.to rest) (leads_from others joint step) (lead_on others step.to rest)
        (last_kept (same_name joint step.from) (has_passage sections step.section step.from step.to) (has_passage others step.section step.from step.to) (passage_kept step.section step.from step.to (keeps step n.0)))
        (lead_on_kept step.to rest n.1) leads

    -- a way over sections that are still there
    pub way_kept : (begin end : Option Post) (steps overlap : List Step) → list_any gone steps ≡ false → list_any gone overlap ≡ false → lead_between sections begin end steps overlap ≡ true → lead_between others begin end steps overlap ≡ true
    way_kept (Some begin) (Some end) steps overlap none beyond leads =
        both_kept (is_sound_path sections begin end steps) (is_sound_overlap sections end overlap) (is_sound_path others begin end steps) (is_sound_overlap others end overlap)
        (both_kept (begins begin sections steps) (lead_to sections end begin.joint steps) (begins begin others steps) (lead_to others end begin.joint steps)
        (begins_kept begin steps none) (lead_to_kept end begin.joint steps none))
        (last_kept (not (is_beyond end.role overlap)) (lead_on sections end.joint overlap) (lead_on others end.joint overlap) (lead_on_kept end.joint overlap beyond))
        leads
    way_kept (Some begin) None steps overlap none beyond leads = cc
    way_kept None end steps overlap none beyond leads = cc

  ahead_has : (post : Post) → ((ahead : List ℕ) → section_has sections ahead post.joint ≡ true → section_has others ahead post.joint ≡ true) → has_joint_ahead sections post ≡ true → has_joint_ahead others post ≡ true
  ahead_has post has = by post.ahead
    where
      by : (ahead : Option (List ℕ)) → option_map_or (λ a. section_has sections a post.joint) ahead false ≡ true → option_map_or (λ a. section_has others a post.joint) ahead false ≡ true
      by None h = cc
      by (Some a) h = has a h

  -- a post whose joint is in as many sections, and in its section ahead, stands as before
  pub stands_same : (role : PostRole) (post : Post) → sections_at others post.joint ≡ sections_at sections post.joint
      → ((ahead : List ℕ) → section_has sections ahead post.joint ≡ true → section_has others ahead post.joint ≡ true)
      → stands_as role sections post ≡ true → stands_as role others post ≡ true
  stands_same Portal post same has stands = ap (λ n. n == 1) same ∙ stands
  stands_same Board post same has stands = ap (λ n. n == 1 || n == 2) same ∙ stands
  stands_same Signal post same has stands =
      both_kept (sections_at sections post.joint == 2) (has_joint_ahead sections post) (sections_at others post.joint == 2) (has_joint_ahead others post)
      (λ two. ap (λ n. n == 2) same ∙ two) (ahead_has post has) stands
