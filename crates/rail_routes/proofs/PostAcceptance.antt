-- The posts of a sound network are accepted one after the other, in their order.
use Rattle.std.proofs.Common.{◌≡◌, ℕ, ◌+◌, ◌<◌, ◌≤◌, ◌==◌, nat_le, nat_lt, Bool, true, false, not, ◌&&◌, ◌||◌, List, [], ◌∷◌, ◌++◌, length, count_by, Option, Some, None, is_some, refl, sym, ap, subst, ◌∙◌, arith, length-append}
use Rattle.std.specs.List.{list_all, list_any}
use Rattle.std.specs.Option.{option_map_or}
use Rattle.std.proofs.lemmas.Bool.{and_parts}
use Rattle.std.proofs.lemmas.Bool.Decides.{nat_tests}
use Rattle.std.proofs.lemmas.List.Folds.{list_all-append, list_any-append}
use Rattle.rail_base.specs.Limits.{is_from_one, most, Posts, SettingTime, WatchingTime, ApproachTime}
use Rattle.rail_base.specs.NameForms.{same_name}
use Rattle.rail_base.proofs.CallerLemmas.{none_failing}
use Rattle.rail_track.specs.declared.section.Section.{Section}
use Rattle.rail_track.specs.Joints.{is_named, has_joint, section_named, section_has, sections_at}
use Rattle.rail_track.proofs.CallerLemmas.{same_name-self, list_any-count_by, count_before}
use Rattle.rail_routes.specs.declared.items.Post.{Post}
use Rattle.rail_routes.specs.declared.items.PostRole.{PostRole}
use Rattle.rail_routes.specs.declared.items.PostRole.TheVariants.{Portal, Signal, Board}
use Rattle.rail_routes.specs.Net.{Net, posts, is_post, stands_at, guards, guards_at}
use Rattle.rail_routes.specs.PostRules.{is_formed, is_formed_as, has_times, stands_well, stands_as, has_joint_ahead, is_taken, is_taken_as, is_astray, post_tests, post_refusal}
use Rattle.rail_routes.specs.SoundNetworks.{IsSoundNetwork, same_role, is_timed, is_sound_post}
use Rattle.rail_routes.proofs.Uses.{list_any-find}
use Rattle.rail_routes.proofs.SectionChanges.{same_from_role}

times : (h a b c : Bool) → (not h || (a && b && c)) ≡ true → ((h && not a) ≡ false) × ((h && not b) ≡ false) × ((h && not c) ≡ false)
times false a b c t = (refl, refl, refl)
times true true true true t = (refl, refl, refl)
times true true true false t = cc
times true true false c t = cc
times true false b c t = cc

accepted_post : (net : Net) (post : Post) → nat_le (most Posts) (length net.portals + length net.signals + length net.boards) ≡ false → is_timed post ≡ true → list_any (is_post post.name) (posts net) ≡ false
    → is_astray net.sections post ≡ false → stands_well net.sections post ≡ true → is_taken net post ≡ false → post_refusal net post ≡ None
accepted_post net post room timed fresh astray well free =
    let t = times (has_times post.role) (is_from_one (most SettingTime) post.setting) (nat_le post.watching (most WatchingTime)) (nat_le post.approach (most ApproachTime)) timed in
    none_failing (post_tests net post) (room, (t.0, (t.1, (t.2, (fresh, (astray, ((λ i. not (well i) || free i), tt)))))))

none_counted : {X : Type 0} (p : X → Bool) (xs : List X) → count_by p xs ≤ 0 → list_any p xs ≡ false
none_counted p xs few = let none : nat_lt 0 (count_by p xs) ≡ false = grind (arith, nat_tests) in list_any-count_by p xs ∙ none

three : {X : Type 0} (p : X → Bool) (xs ys zs : List X) → list_any p xs ≡ false → list_any p ys ≡ false → list_any p zs ≡ false → list_any p (xs ++ ys ++ zs) ≡ false
three p xs ys zs a b c = list_any-append p (xs ++ ys) zs ∙ (λ i. (list_any-append p xs ys ∙ (λ j. a j || b j)) i || c i)

-- what a sound post says
record Fine (role : PostRole) (sections : List Section) (post : Post) : Type 0 where
  is : post.role ≡ role
  formed : is_formed_as role post ≡ true
  timed : is_timed post ≡ true
  well : stands_well sections post ≡ true

fine : (role : PostRole) (sections : List Section) (before : List Post) (post : Post) (after : List Post) → list_all (is_sound_post role sections) (before ++ post ∷ after) ≡ true → Fine role sections post
fine role sections before post after all =
    let (first, rest) = and_parts (list_all (is_sound_post role sections) before) (list_all (is_sound_post role sections) (post ∷ after)) (sym (list_all-append (is_sound_post role sections) before (post ∷ after)) ∙ all) in
    let (this, others) = and_parts (is_sound_post role sections post) (list_all (is_sound_post role sections) after) rest in
    let (most, well) = and_parts (same_role role post.role && is_formed post && is_timed post) (stands_well sections post) this in
    let (some, timed) = and_parts (same_role role post.role && is_formed post) (is_timed post) most in
    let (own, formed) = and_parts (same_role role post.role) (is_formed post) some in
    let is = same_from_role role post.role own in
    record { is = is; formed = ap (λ r. is_formed_as r post) (sym is) ∙ formed; timed = timed; well = well }

not_ahead : (sections : List Section) (o : Option (List ℕ)) → not (is_some o) ≡ true → option_map_or (λ ahead. not (list_any (is_named ahead) sections)) o false ≡ false
not_ahead sections None h = refl
not_ahead sections (Some a) h = cc

crowd : (n : ℕ) → n < 512 → nat_le (most Posts) n ≡ false
crowd n h = grind (arith, nat_tests)

module _ (net : Net) (sound : IsSoundNetwork net) (before : List Post) (post : Post) (after : List Post) where
  abbrev name : Post → Bool
  name = is_post post.name

  named : name post ≡ true
  named = same_name-self post.name

  stands : stands_at post.joint post ≡ true
  stands = same_name-self post.joint

  pub portal_after : net.portals ≡ before ++ post ∷ after → post_refusal (record net { portals = before; signals = []; boards = []; turns = []; routes = [] }) post ≡ None
  portal_after is =
      let f = fine Portal net.sections before post after (ap (list_all (is_sound_post Portal net.sections)) (sym is) ∙ sound.portals) in
      let so_far : Net = record net { portals = before; signals = []; boards = []; turns = []; routes = [] } in
      let size = length-append before (post ∷ after) in
      let names = count_before name before post after named in
      let places = count_before (stands_at post.joint) before post after stands in
      let one = subst (λ ps. count_by name ps + count_by name net.signals + count_by name net.boards ≤ 1) is (sound.distinct.posts_by_name post.name) in
      let end = subst (λ ps. count_by (stands_at post.joint) ps + count_by (stands_at post.joint) net.boards ≤ 1) is (sound.distinct.ends_by_joint post.joint) in
      let few = subst (λ ps. length ps + length net.signals + length net.boards ≤ 512) is sound.distinct.few_posts in
      let free : list_any (stands_at post.joint) before ≡ false = none_counted (stands_at post.joint) before (omega arith) in
      accepted_post so_far post (crowd _ (omega (arith, size, few))) f.timed
      (three name before [] [] (none_counted name before (omega arith)) refl refl)
      (not_ahead net.sections post.ahead f.formed) f.well
      (ap (λ r. is_taken_as r so_far post) f.is ∙ (λ i. free i || false))

  pub board_after : net.boards ≡ before ++ post ∷ after → post_refusal (record net { boards = before; turns = []; routes = [] }) post ≡ None
  board_after is =
      let f = fine Board net.sections before post after (ap (list_all (is_sound_post Board net.sections)) (sym is) ∙ sound.boards) in
      let so_far : Net = record net { boards = before; turns = []; routes = [] } in
      let size = length-append before (post ∷ after) in
      let names = count_before name before post after named in
      let places = count_before (stands_at post.joint) before post after stands in
      let one = subst (λ ps. count_by name net.portals + count_by name net.signals + count_by name ps ≤ 1) is (sound.distinct.posts_by_name post.name) in
      let end = subst (λ ps. count_by (stands_at post.joint) net.portals + count_by (stands_at post.joint) ps ≤ 1) is (sound.distinct.ends_by_joint post.joint) in
      let few = subst (λ ps. length net.portals + length net.signals + length ps ≤ 512) is sound.distinct.few_posts in
      let free : list_any (stands_at post.joint) before ≡ false = none_counted (stands_at post.joint) before (omega arith) in
      let clear : list_any (stands_at post.joint) net.portals ≡ false = none_counted (stands_at post.joint) net.portals (omega arith) in
      let (most, approach) = and_parts (not (is_some post.ahead) && post.setting == 0 && post.watching == 0) (post.approach == 0) f.formed in
      let (some, watching) = and_parts (not (is_some post.ahead) && post.setting == 0) (post.watching == 0) most in
      let (bare, setting) = and_parts (not (is_some post.ahead)) (post.setting == 0) some in
      accepted_post so_far post (crowd _ (omega (arith, size, few))) f.timed
      (three name net.portals net.signals before (none_counted name net.portals (omega arith)) (none_counted name net.signals (omega arith)) (none_counted name before (omega arith)))
      (not_ahead net.sections post.ahead bare) f.well
      (ap (λ r. is_taken_as r so_far post) f.is ∙ (λ i. clear i || free i))

  joint_known : (o : Option Section) → option_map_or (has_joint post.joint) o false ≡ true → is_some o ≡ true
  joint_known None h = cc
  joint_known (Some s) h = refl

  ahead_known : (o : Option (List ℕ)) → option_map_or (λ ahead. section_has net.sections ahead post.joint) o false ≡ true → option_map_or (λ ahead. not (list_any (is_named ahead) net.sections)) o false ≡ false
  ahead_known None h = refl
  ahead_known (Some a) h = ap not (list_any-find (is_named a) net.sections ∙ joint_known (section_named a net.sections) h)

  unguarded : (o : Option (List ℕ)) → post.ahead ≡ o → net.signals ≡ before ++ post ∷ after → option_map_or (λ ahead. list_any (guards_at post.joint ahead) before) o false ≡ false
  unguarded None at is = refl
  unguarded (Some a) at is =
      let guarding : guards a post ≡ true = ap (λ o. option_map_or (same_name a) o false) at ∙ same_name-self a in
      let there = count_before (guards_at post.joint a) before post after (λ i. stands i && guarding i) in
      let one = subst (λ ps. count_by (guards_at post.joint a) ps ≤ 1) is (sound.distinct.signals_by_place post.joint a) in
      none_counted (guards_at post.joint a) before (omega arith)

  pub signal_after : net.signals ≡ before ++ post ∷ after → post_refusal (record net { signals = before; boards = []; turns = []; routes = [] }) post ≡ None
  signal_after is =
      let f = fine Signal net.sections before post after (ap (list_all (is_sound_post Signal net.sections)) (sym is) ∙ sound.signals) in
      let so_far : Net = record net { signals = before; boards = []; turns = []; routes = [] } in
      let size = length-append before (post ∷ after) in
      let names = count_before name before post after named in
      let one = subst (λ ps. count_by name net.portals + count_by name ps + count_by name net.boards ≤ 1) is (sound.distinct.posts_by_name post.name) in
      let few = subst (λ ps. length net.portals + length ps + length net.boards ≤ 512) is sound.distinct.few_posts in
      let well : stands_as Signal net.sections post ≡ true = ap (λ r. stands_as r net.sections post) (sym f.is) ∙ f.well in
      let (two, ahead) = and_parts (sections_at net.sections post.joint == 2) (has_joint_ahead net.sections post) well in
      accepted_post so_far post (crowd _ (omega (arith, size, few))) f.timed
      (three name net.portals before [] (none_counted name net.portals (omega arith)) (none_counted name before (omega arith)) refl)
      (ahead_known post.ahead ahead) f.well
      (ap (λ r. is_taken_as r so_far post) f.is ∙ unguarded post.ahead refl is)
