-- Sound tracks stay sound.
use Rattle.std.proofs.Common.{◌≡◌, ℕ, ◌+◌, ◌≤◌, ◌<◌, Bool, true, false, cond, not, nat_le, ◌&&◌, ◌||◌, ◌==◌, List, [], ◌∷◌, ◌++◌, length, count_by, Some, None, refl, ap, ◌∙◌, arith}
use Rattle.std.specs.List.{find, list_any}
use Rattle.std.proofs.lemmas.Bool.Decides.{nat_tests}
use Rattle.std.proofs.lemmas.List.{length_push}
use Rattle.std.proofs.lemmas.List.Folds.{list_all-append}
use Rattle.std.proofs.lemmas.List.Sums.{sum_by_push}
use Rattle.rail_base.specs.NameForms.{same_name}
use Rattle.rail_track.specs.declared.section.Section.{Section}
use Rattle.rail_track.specs.Lists.{without}
use Rattle.rail_track.specs.Joints.{is_named, has_joint, sections_at, is_full}
use Rattle.rail_base.specs.Limits.{is_from_one}
use Rattle.rail_track.specs.SectionRules.{stands_twice, joint_count, section_tests}
use Rattle.rail_base.specs.FirstRefusals.{first_failing}
use Rattle.rail_base.specs.declared.limits.TheConstants.{SECTIONS, SECTION_LENGTH, SPEED}
use Rattle.rail_base.specs.declared.refusals.Reason.TheVariants.{JointCrowded}
use Rattle.rail_track.specs.SoundTracks.{is_fit, have_one_name, IsSoundTrack}
use Rattle.rail_track.proofs.Tallies.{same_from_name, same_name-comm}
use Rattle.rail_base.proofs.CallerLemmas.{all_passed}
use Rattle.rail_track.proofs.Refusals.{none_fails}
use Rattle.rail_track.proofs.Withouts.{length-without-le, list_all-without, count_by-without-le, count_by-without, count_by_none, count_by_some, find_passes, are_distinct-without, are_distinct-push}

-- a test that no name passes is failed by each name that is there
pub fails_at : (fails : List ℕ → Bool) (joint : List ℕ) (joints : List (List ℕ)) → list_any fails joints ≡ false → list_any (same_name joint) joints ≡ true → fails joint ≡ false
fails_at fails joint [] none some = cc
fails_at fails joint (x ∷ xs) none some = by (fails x) (same_name joint x) refl refl (fails_at fails joint xs) none some
  where
    by : (b c : Bool) → fails x ≡ b → same_name joint x ≡ c → (list_any fails xs ≡ false → list_any (same_name joint) xs ≡ true → fails joint ≡ false) → (b || list_any fails xs) ≡ false → (c || list_any (same_name joint) xs) ≡ true → fails joint ≡ false
    by true c is same rest none some = cc
    by false true is same rest none some = ap fails (same_from_name joint x same) ∙ is
    by false false is same rest none some = rest none some

-- where no joint stands twice, each is counted once or not at all
pub counted_once : (joint : List ℕ) (joints : List (List ℕ)) → list_any (stands_twice joints) joints ≡ false → count_by (same_name joint) joints ≡ cond (list_any (same_name joint) joints) 1 0
counted_once joint joints none = by (list_any (same_name joint) joints) refl
  where
    by : (b : Bool) → list_any (same_name joint) joints ≡ b → count_by (same_name joint) joints ≡ cond b 1 0
    by false is = count_by_none (same_name joint) joints is
    by true is =
        let once : stands_twice joints joint ≡ false = fails_at (stands_twice joints) joint joints none is in
        let some = count_by_some (same_name joint) joints is in
        grind (arith, nat_tests)

fit_joints : (section : Section) → is_fit section ≡ true → list_any (stands_twice section.joints) section.joints ≡ false
fit_joints section fit = last _ _ fit
  where
    last : (b c : Bool) → (b && not c) ≡ true → c ≡ false
    last true true h = cc
    last true false h = refl
    last false c h = cc

-- the joints of a fit section are counted once each
pub counted_joints : (section : Section) (joint : List ℕ) → is_fit section ≡ true → count_by (same_name joint) section.joints ≡ cond (has_joint joint section) 1 0
counted_joints section joint fit = counted_once joint section.joints (fit_joints section fit)

-- a track without a section is sound
pub IsSoundTrack-without : (p : Section → Bool) (sections : List Section) → IsSoundTrack sections → IsSoundTrack (without p sections)
IsSoundTrack-without p sections sound = record {
  few = omega (arith, sound.few, length-without-le p sections);
  fit = list_all-without p is_fit sections sound.fit;
  distinct = are_distinct-without have_one_name p sections sound.distinct;
  joined = λ joint. omega (arith, sound.joined joint, count_by-without-le p (has_joint joint) sections);
}

-- the section that is taken out, with the number of sections at each joint
pub taken_out : (p : Section → Bool) (sections : List Section) (section : Section) → IsSoundTrack sections → find p sections ≡ Some section → (joint : List ℕ) → sections_at (without p sections) joint + count_by (same_name joint) section.joints ≡ sections_at sections joint
taken_out p sections section sound found joint =
    let fit = find_passes p is_fit sections section sound.fit found in
    omega (arith, counted_joints section joint fit, count_by-without p (has_joint joint) sections section found)

not_false : (b : Bool) → not b ≡ false → b ≡ true
not_false true h = refl
not_false false h = cc

neither : {X : Type 0} (p q : X → Bool) (xs : List X) → list_any (λ x. p x || q x) xs ≡ false → (list_any p xs ≡ false) × (list_any q xs ≡ false)
neither p q [] none = (refl, refl)
neither p q (x ∷ xs) none = by (p x) (q x) refl refl (neither p q xs) none
  where
    by : (b c : Bool) → p x ≡ b → q x ≡ c → (list_any (λ y. p y || q y) xs ≡ false → (list_any p xs ≡ false) × (list_any q xs ≡ false)) → ((b || c) || list_any (λ y. p y || q y) xs) ≡ false → (list_any p (x ∷ xs) ≡ false) × (list_any q (x ∷ xs) ≡ false)
    by false false pf qf rest h = let r = rest h in ((λ i. pf i || r.0 i), (λ i. qf i || r.1 i))
    by true c pf qf rest h = cc
    by false true pf qf rest h = cc

-- what the tests of an accepted section say of it
pub record IsAccepted (sections : List Section) (is_closed : List ℕ → Bool) (section : Section) : Type 0 where
  pub few : length sections < 512
  pub fit : is_fit section ≡ true
  pub fresh : list_any (is_named section.name) sections ≡ false
  pub roomy : list_any is_closed section.joints ≡ false

pub accepted : (sections : List Section) (is_closed : List ℕ → Bool) (section : Section) → first_failing (section_tests sections is_closed section) ≡ None → IsAccepted sections is_closed section
accepted sections is_closed section none =
    let a = all_passed (section_tests sections is_closed section) none in
    let b = a.1 in
    let c = b.1 in
    let d = c.1 in
    let e = d.1 in
    let joints = neither (stands_twice section.joints) is_closed section.joints (none_fails JointCrowded (λ joint. stands_twice section.joints joint || is_closed joint) 1 section.joints e.1) in
    let length_fits = not_false (is_from_one SECTION_LENGTH section.length) b.0 in
    let speed_fits = not_false (is_from_one SPEED section.speed) c.0 in
    let joints_fit = not_false (length section.joints == joint_count section.kind) d.0 in
    record {
      few = let room : nat_le SECTIONS (length sections) ≡ false = a.0 in grind (arith, nat_tests);
      fit = λ i. length_fits i && speed_fits i && joints_fit i && not (joints.0 i);
      fresh = e.0;
      roomy = joints.1;
    }

pub sections_at-push : (sections : List Section) (section : Section) (joint : List ℕ) → sections_at (sections ++ section ∷ []) joint ≡ sections_at sections joint + cond (has_joint joint section) 1 0
sections_at-push sections section joint = sum_by_push (λ s. cond (has_joint joint s) 1 0) sections section

-- a track with one more section is sound, where the section is accepted
pub IsSoundTrack-push : (sections : List Section) (is_closed : List ℕ → Bool) (section : Section) → IsSoundTrack sections → IsAccepted sections is_closed section
    → ((joint : List ℕ) → is_closed joint ≡ false → sections_at sections joint ≤ 1) → IsSoundTrack (sections ++ section ∷ [])
IsSoundTrack-push sections is_closed section sound is roomy = record {
  few = omega (arith, length_push sections section, is.few);
  fit = list_all-append is_fit sections (section ∷ []) ∙ (λ i. sound.fit i && (is.fit i && true));
  distinct = are_distinct-push have_one_name (λ x y. same_name-comm x.name y.name) sections section sound.distinct is.fresh;
  joined = λ joint. rw sections_at-push (by joint (has_joint joint section) refl);
}
  where
    by : (joint : List ℕ) (b : Bool) → has_joint joint section ≡ b → sections_at sections joint + cond b 1 0 ≤ 2
    by joint true has = omega (arith, roomy joint (fails_at is_closed joint section.joints is.roomy has))
    by joint false has = omega (arith, sound.joined joint)

-- the number of sections at each joint of an accepted section
pub put_in : (sections : List Section) (is_closed : List ℕ → Bool) (section : Section) → IsAccepted sections is_closed section → (joint : List ℕ) → sections_at (sections ++ section ∷ []) joint ≡ sections_at sections joint + count_by (same_name joint) section.joints
put_in sections is_closed section is joint = omega (arith, sections_at-push sections section joint, counted_joints section joint is.fit)

-- a joint that is not full is in one section at most
pub one_more : (sections : List Section) (joint : List ℕ) → is_full sections joint ≡ false → sections_at sections joint ≤ 1
one_more sections joint free = grind (arith, nat_tests)

-- a joint is counted three times at most, once an accepted section is beside the others
pub few_uses : (sections : List Section) (is_closed : List ℕ → Bool) (section : Section) → IsSoundTrack sections → IsAccepted sections is_closed section → (joint : List ℕ) → sections_at sections joint + count_by (same_name joint) section.joints ≤ 3
few_uses sections is_closed section sound is joint = by (has_joint joint section) (counted_joints section joint is.fit)
  where
    by : (b : Bool) → count_by (same_name joint) section.joints ≡ cond b 1 0 → sections_at sections joint + count_by (same_name joint) section.joints ≤ 3
    by true once = omega (arith, once, sound.joined joint)
    by false never = omega (arith, never, sound.joined joint)
