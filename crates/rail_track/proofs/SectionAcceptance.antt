-- The sections of a sound track are accepted one after the other, in their order.
use Rattle.std.proofs.Common.{◌≡◌, ℕ, ◌+◌, ◌≤◌, ◌==◌, nat_le, Bool, true, false, not, cond, ◌&&◌, ◌||◌, List, [], ◌∷◌, ◌++◌, length, count_by, nat_lt, None, refl, sym, ap, ◌∙◌, arith, length-append}
use Rattle.std.specs.List.{list_all, list_any}
use Rattle.std.proofs.lemmas.Bool.{and_parts}
use Rattle.std.proofs.lemmas.Bool.Decides.{nat_tests}
use Rattle.std.proofs.lemmas.List.Folds.{list_all-append}
use Rattle.std.proofs.lemmas.List.Sums.{sum_by-append}
use Rattle.rail_base.specs.FirstRefusals.{tests_over}
use Rattle.rail_base.specs.Limits.{is_from_one, most, Sections, SectionLength, Speed}
use Rattle.rail_base.specs.Lists.{are_distinct}
use Rattle.rail_base.specs.NameForms.{same_name}
use Rattle.rail_base.specs.declared.refusals.Reason.TheVariants.{JointCrowded}
use Rattle.rail_base.proofs.CallerLemmas.{AllPassed, none_failing}
use Rattle.rail_track.specs.declared.section.Section.{Section}
use Rattle.rail_track.specs.Joints.{is_named, has_joint, is_full}
use Rattle.rail_track.specs.NetFaults.{refused_where}
use Rattle.rail_track.specs.SectionRules.{joint_count, stands_twice, section_tests, section_refusal}
use Rattle.rail_track.specs.SoundTracks.{is_fit, have_one_name, IsSoundTrack}
use Rattle.rail_track.proofs.Tallies.{same_name-comm, same_name-self}
use Rattle.rail_track.proofs.Withouts.{count_by-cons, list_any-count_by}

-- an item of a list whose items are apart is apart from those before it
pub distinct_before : {X : Type 0} (alike : X → X → Bool) → ((x y : X) → alike x y ≡ alike y x) → (before : List X) (x : X) (after : List X) → are_distinct alike (before ++ x ∷ after) ≡ true → list_any (alike x) before ≡ false
distinct_before {X = X} alike both [] x after d = refl
distinct_before {X = X} alike both (y ∷ ys) x after d = by (list_any (alike y) (ys ++ x ∷ after)) refl (distinct_before alike both ys x after) d
  where
    there : (zs : List X) → list_any (alike y) (zs ++ x ∷ after) ≡ false → alike y x ≡ false
    there [] none = first (alike y x) none
      where
        first : (b : Bool) → (b || list_any (alike y) after) ≡ false → b ≡ false
        first true none = cc
        first false none = refl
    there (z ∷ zs) none = there zs (rest (alike y z) none)
      where
        rest : (b : Bool) → (b || list_any (alike y) (zs ++ x ∷ after)) ≡ false → list_any (alike y) (zs ++ x ∷ after) ≡ false
        rest true none = cc
        rest false none = none

    by : (b : Bool) → list_any (alike y) (ys ++ x ∷ after) ≡ b → (are_distinct alike (ys ++ x ∷ after) ≡ true → list_any (alike x) ys ≡ false) → (not b && are_distinct alike (ys ++ x ∷ after)) ≡ true → (alike x y || list_any (alike x) ys) ≡ false
    by true none rest d = cc
    by false none rest d = λ j. (both x y ∙ there ys none) j || rest d j

-- of the items of a list, one count and those before it
pub count_before : {X : Type 0} (p : X → Bool) (before : List X) (x : X) (after : List X) → p x ≡ true → count_by p before + 1 ≤ count_by p (before ++ x ∷ after)
count_before p before x after is =
    let here : cond (p x) 1 0 ≡ 1 = ap {B = ℕ} (λ b. cond b 1 0) is in
    omega (arith, sum_by-append (λ y. cond (p y) 1 0) before (x ∷ after), count_by-cons p x after, here)

-- no item before one that passes passes, where at most one does
pub none_before : {X : Type 0} (p : X → Bool) (before : List X) (x : X) (after : List X) → p x ≡ true → count_by p (before ++ x ∷ after) ≤ 1
    → list_any p before ≡ false
none_before p before x after is few =
    let more = count_before p before x after is in
    let none : nat_lt 0 (count_by p before) ≡ false = grind (arith, nat_tests) in
    list_any-count_by p before ∙ none

-- a test that fails at no joint that is there fails at none
none_there : (f : List ℕ → Bool) (joints : List (List ℕ)) → ((joint : List ℕ) → list_any (same_name joint) joints ≡ true → f joint ≡ false) → list_any f joints ≡ false
none_there f [] free = refl
none_there f (x ∷ xs) free = λ i. free x (here x) i || none_there f xs (λ joint is. free joint (more joint (same_name joint x) is)) i
  where
    here : (y : List ℕ) → (same_name y y || list_any (same_name y) xs) ≡ true
    here y = ap (λ b. b || list_any (same_name y) xs) (same_name-self y)

    more : (joint : List ℕ) (b : Bool) → list_any (same_name joint) xs ≡ true → (b || list_any (same_name joint) xs) ≡ true
    more joint true is = refl
    more joint false is = is

joints_pass : (twice full : List ℕ → Bool) (n : ℕ) (joints : List (List ℕ)) → list_any twice joints ≡ false → list_any full joints ≡ false
    → AllPassed (tests_over (λ step joint. refused_where JointCrowded step (twice joint || full joint)) n joints)
joints_pass twice full n [] a b = tt
joints_pass twice full n (x ∷ xs) a b = by (twice x) (full x) refl refl (joints_pass twice full (n + 1) xs) a b
  where
    by : (t f : Bool) → twice x ≡ t → full x ≡ f → (list_any twice xs ≡ false → list_any full xs ≡ false → AllPassed (tests_over (λ step joint. refused_where JointCrowded step (twice joint || full joint)) (n + 1) xs)) → (t || list_any twice xs) ≡ false → (f || list_any full xs) ≡ false → AllPassed (tests_over (λ step joint. refused_where JointCrowded step (twice joint || full joint)) n (x ∷ xs))
    by true f p q rest a b = cc
    by false true p q rest a b = cc
    by false false p q rest a b = ((λ i. p i || q i), rest a b)

not_true : (b : Bool) → not b ≡ true → b ≡ false
not_true true h = cc
not_true false h = refl

-- a section of a sound track is accepted after those before it
pub accepted_after : (before : List Section) (s : Section) (after : List Section) → IsSoundTrack (before ++ s ∷ after) → section_refusal before s ≡ None
accepted_after before s after sound =
    let size = length-append before (s ∷ after) in
    let all_fit = sym (list_all-append is_fit before (s ∷ after)) ∙ sound.fit in
    let (first_fit, rest_fit) = and_parts (list_all is_fit before) (list_all is_fit (s ∷ after)) all_fit in
    let (fit, after_fit) = and_parts (is_fit s) (list_all is_fit after) rest_fit in
    let (values, once) = and_parts _ (not (list_any (stands_twice s.joints) s.joints)) fit in
    let (numbers, many) = and_parts _ (length s.joints == joint_count s.kind) values in
    let (long, fast) = and_parts (is_from_one (most SectionLength) s.length) (is_from_one (most Speed) s.speed) numbers in
    let room : nat_le (most Sections) (length before) ≡ false = room_left before s after sound.few in
    let fresh : list_any (is_named s.name) before ≡ false = distinct_before have_one_name (λ x y. same_name-comm x.name y.name) before s after sound.distinct in
    let free : list_any (is_full before) s.joints ≡ false = none_there (is_full before) s.joints (λ joint is. not_full joint is) in
    none_failing (section_tests before (is_full before) s)
    (room, (ap not long, (ap not fast, (ap not many, (fresh, joints_pass (stands_twice s.joints) (is_full before) 1 s.joints (not_true _ once) free)))))
  where
    room_left : (xs : List Section) (x : Section) (ys : List Section) → length (xs ++ x ∷ ys) ≤ 512 → nat_le (most Sections) (length xs) ≡ false
    room_left xs x ys few = let size = length-append xs (x ∷ ys) in grind (arith, nat_tests)

    not_full : (joint : List ℕ) → has_joint joint s ≡ true → is_full before joint ≡ false
    not_full joint is = let few = sound.joined joint in let more = count_before (has_joint joint) before s after is in grind (arith, nat_tests)
