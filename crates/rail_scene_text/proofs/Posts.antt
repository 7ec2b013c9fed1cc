-- The table of a post has its form and its values, and spells the post; the posts of a sound network pass in order.
use Rattle.std.proofs.Common.{◌≡◌, ℕ, ◌==◌, nat_le, true, not, ◌&&◌, ◌||◌, List, [], ◌∷◌, ◌++◌, Option, Some, None, is_some, unwrap_or, refl, sym, ap, ◌∙◌, arith}
use Rattle.std.specs.Option.{option_map_or}
use Rattle.std.proofs.lemmas.Bool.{and_parts}
use Rattle.std.proofs.lemmas.Bool.Decides.{nat_tests}
use Rattle.toml.specs.Data.{Data, table}
use Rattle.rail_base.specs.FirstRefusals.{first_failing}
use Rattle.rail_base.specs.Limits.{is_from_one, most, SettingTime, WatchingTime, ApproachTime}
use Rattle.rail_base.specs.NameForms.{is_name}
use Rattle.rail_base.proofs.CallerLemmas.{none_failing, all_passed}
use Rattle.rail_track.specs.declared.section.Section.{Section}
use Rattle.rail_routes.specs.declared.items.Post.{Post}
use Rattle.rail_routes.specs.declared.items.PostRole.{PostRole}
use Rattle.rail_routes.specs.declared.items.PostRole.TheVariants.{Portal, Signal, Board}
use Rattle.rail_routes.specs.Net.{Net}
use Rattle.rail_routes.specs.PostRules.{is_formed, is_formed_as, has_times, stands_well, post_tests}
use Rattle.rail_routes.specs.SoundNetworks.{IsSoundNetwork, same_role, is_timed, is_sound_post}
use Rattle.rail_routes.proofs.CallerLemmas.{same_from_role, portal_after, signal_after, board_after}
use Rattle.rail_scene.specs.declared.keys.KeyName.TheVariants as word
use Rattle.rail_scene.specs.declared.keys.ListPart.TheVariants as part
use Rattle.rail_scene.specs.declared.versions.Version.TheVariants.{Two}
use Rattle.rail_scene.specs.Entries.{portal_of, signal_of, board_of}
use Rattle.rail_scene.specs.Fields.{name_at, number_at}
use Rattle.rail_scene.specs.Forms.{form_tests}
use Rattle.rail_scene.specs.Keys.{key_of, keys_of}
use Rattle.rail_scene.specs.SceneItems.{SceneItems, item_tests, with_items}
use Rattle.rail_scene.specs.Values.{value_tests}
use Rattle.rail_scene_text.specs.Tables.{portal_members, board_members, post_members, with_ahead, post_data}
use Rattle.rail_scene_text.specs.FieldTypes.{is_typed_post}
use Rattle.rail_scene_text.proofs.Lists.{item_none}
use Rattle.rail_scene_text.proofs.Reading.{found, name_is, number_is, from_zero}

-- what a post of the role has in a scene with these sections
abbrev pub Good : PostRole → List Section → Post → Type 0
Good role sections post = (is_typed_post post ≡ true) × (is_sound_post role sections post ≡ true)

-- the names of a post
record Named (post : Post) : Type 0 where
  name : is_name post.name ≡ true
  joint : is_name post.joint ≡ true
  ahead : option_map_or is_name post.ahead true ≡ true

named : (post : Post) → is_typed_post post ≡ true → Named post
named post typed =
    let (both, ahead) = and_parts (is_name post.name && is_name post.joint) (option_map_or is_name post.ahead true) typed in
    let (name, joint) = and_parts (is_name post.name) (is_name post.joint) both in
    record { name = name; joint = joint; ahead = ahead }

-- what a post is by its role
record Formed (role : PostRole) (post : Post) : Type 0 where
  is : post.role ≡ role
  formed : is_formed_as role post ≡ true
  timed : is_timed post ≡ true

formed_as : (role : PostRole) (sections : List Section) (post : Post) → is_sound_post role sections post ≡ true → Formed role post
formed_as role sections post sound =
    let (most, well) = and_parts (same_role role post.role && is_formed post && is_timed post) (stands_well sections post) sound in
    let (some, timed) = and_parts (same_role role post.role && is_formed post) (is_timed post) most in
    let (own, formed) = and_parts (same_role role post.role) (is_formed post) some in
    let is = same_from_role role post.role own in
    record { is = is; formed = ap (λ r. is_formed_as r post) (sym is) ∙ formed; timed = timed }

-- the times of a post that has some
record Times (post : Post) : Type 0 where
  setting : is_from_one (most SettingTime) post.setting ≡ true
  watching : nat_le post.watching (most WatchingTime) ≡ true
  approach : nat_le post.approach (most ApproachTime) ≡ true

times : (post : Post) (role : PostRole) → has_times role ≡ true → post.role ≡ role → is_timed post ≡ true → Times post
times post role has is timed =
    let own : (not true || (is_from_one (most SettingTime) post.setting && nat_le post.watching (most WatchingTime) && nat_le post.approach (most ApproachTime))) ≡ true =
    (λ i. not ((sym has ∙ ap has_times (sym is)) i) || (is_from_one (most SettingTime) post.setting && nat_le post.watching (most WatchingTime) && nat_le post.approach (most ApproachTime))) ∙ timed in
    let (both, approach) = and_parts (is_from_one (most SettingTime) post.setting && nat_le post.watching (most WatchingTime)) (nat_le post.approach (most ApproachTime)) own in
    let (setting, watching) = and_parts (is_from_one (most SettingTime) post.setting) (nat_le post.watching (most WatchingTime)) both in
    record { setting = setting; watching = watching; approach = approach }

none_of : (o : Option (List ℕ)) → not (is_some o) ≡ true → o ≡ None
none_of None h = refl
none_of (Some a) h = cc

zero_of : (n : ℕ) → (n == 0) ≡ true → n ≡ 0
zero_of n h = grind (arith, nat_tests)

-- the tables by role
abbrev portal_data : Post → Data
portal_data post = table (portal_members post)

abbrev signal_data : List ℕ → Post → Data
signal_data ahead post = table (with_ahead (Some ahead) (portal_members post))

abbrev board_data : Post → Data
board_data post = table (board_members post)

module _ (post : Post) (role : PostRole) (is : post.role ≡ role) where
  data_as : (ahead : Option (List ℕ)) → post.ahead ≡ ahead → post_data post ≡ table (with_ahead ahead (post_members role post))
  data_as ahead at = λ i. table (with_ahead (at i) (post_members (is i) post))

-- portals
module _ (post : Post) (sections : List Section) (good : Good Portal sections post) where
  abbrev pn : Named post
  pn = named post good.0

  abbrev pf : Formed Portal post
  pf = formed_as Portal sections post good.1

  abbrev pt : Times post
  pt = times post Portal refl pf.is pf.timed

  portal_is : post_data post ≡ portal_data post
  portal_is = data_as post Portal pf.is None (none_of post.ahead pf.formed)

  pub portal_read : portal_of (post_data post) ≡ post
  portal_read = ap portal_of portal_is ∙ (λ i. record {
    name = unwrap_or (name_is post.name pn.name i) [];
    role = sym pf.is i;
    joint = unwrap_or (name_is post.joint pn.joint i) [];
    ahead = sym (none_of post.ahead pf.formed) i;
    setting = unwrap_or (number_is 1 (most SettingTime) 1 post.setting pt.setting i) 0;
    watching = unwrap_or (number_is 0 (most WatchingTime) 0 post.watching (from_zero (most WatchingTime) post.watching pt.watching) i) 0;
    approach = unwrap_or (number_is 0 (most ApproachTime) 0 post.approach (from_zero (most ApproachTime) post.approach pt.approach) i) 0;
  })

  pub portal_form : first_failing (form_tests (keys_of part.Portal Two) (post_data post)) ≡ None
  portal_form = ap (λ d. first_failing (form_tests (keys_of part.Portal Two) d)) portal_is

  pub portal_values : first_failing (value_tests 1 (keys_of part.Portal Two) (post_data post)) ≡ None
  portal_values =
      let d = portal_data post in
      ap (λ d. first_failing (value_tests 1 (keys_of part.Portal Two) d)) portal_is
      ∙ none_failing (value_tests 1 (keys_of part.Portal Two) d) (
        found (name_at (key_of word.Name) d) post.name (name_is post.name pn.name),
        (
          found (name_at (key_of word.Joint) d) post.joint (name_is post.joint pn.joint),
          (
            found (number_at (key_of word.Setting) d) post.setting (number_is 1 (most SettingTime) 1 post.setting pt.setting),
            (
              found (number_at (key_of word.Watching) d) post.watching (number_is 0 (most WatchingTime) 0 post.watching (from_zero (most WatchingTime) post.watching pt.watching)),
              (
                found (number_at (key_of word.Approach) d) post.approach (number_is 0 (most ApproachTime) 0 post.approach (from_zero (most ApproachTime) post.approach pt.approach)),
                tt,
              ),
            ),
          ),
        ),
      )

-- signals
module _ (post : Post) (sections : List Section) (good : Good Signal sections post) where
  abbrev sn : Named post
  sn = named post good.0

  abbrev sf : Formed Signal post
  sf = formed_as Signal sections post good.1

  abbrev st : Times post
  st = times post Signal refl sf.is sf.timed

  -- the section ahead, which is there
  abbrev ahead : List ℕ
  ahead = unwrap_or post.ahead []

  some_of : (o : Option (List ℕ)) → is_some o ≡ true → o ≡ Some (unwrap_or o [])
  some_of None h = cc
  some_of (Some a) h = refl

  at : post.ahead ≡ Some ahead
  at = some_of post.ahead sf.formed

  ahead_name : is_name ahead ≡ true
  ahead_name = ap (λ o. option_map_or is_name o true) (sym at) ∙ sn.ahead

  signal_is : post_data post ≡ signal_data ahead post
  signal_is = data_as post Signal sf.is (Some ahead) at

  pub signal_read : signal_of (post_data post) ≡ post
  signal_read = ap signal_of signal_is ∙ (λ i. record {
    name = unwrap_or (name_is post.name sn.name i) [];
    role = sym sf.is i;
    joint = unwrap_or (name_is post.joint sn.joint i) [];
    ahead = ((λ j. Some (unwrap_or (name_is ahead ahead_name j) [])) ∙ sym at) i;
    setting = unwrap_or (number_is 1 (most SettingTime) 1 post.setting st.setting i) 0;
    watching = unwrap_or (number_is 0 (most WatchingTime) 0 post.watching (from_zero (most WatchingTime) post.watching st.watching) i) 0;
    approach = unwrap_or (number_is 0 (most ApproachTime) 0 post.approach (from_zero (most ApproachTime) post.approach st.approach) i) 0;
  })

  pub signal_form : first_failing (form_tests (keys_of part.Signal Two) (post_data post)) ≡ None
  signal_form = ap (λ d. first_failing (form_tests (keys_of part.Signal Two) d)) signal_is

  pub signal_values : first_failing (value_tests 1 (keys_of part.Signal Two) (post_data post)) ≡ None
  signal_values =
      let d = signal_data ahead post in
      ap (λ d. first_failing (value_tests 1 (keys_of part.Signal Two) d)) signal_is
      ∙ none_failing (value_tests 1 (keys_of part.Signal Two) d) (
        found (name_at (key_of word.Name) d) post.name (name_is post.name sn.name),
        (
          found (name_at (key_of word.Joint) d) post.joint (name_is post.joint sn.joint),
          (
            found (name_at (key_of word.Ahead) d) ahead (name_is ahead ahead_name),
            (
              found (number_at (key_of word.Setting) d) post.setting (number_is 1 (most SettingTime) 1 post.setting st.setting),
              (
                found (number_at (key_of word.Watching) d) post.watching (number_is 0 (most WatchingTime) 0 post.watching (from_zero (most WatchingTime) post.watching st.watching)),
                (
                  found (number_at (key_of word.Approach) d) post.approach (number_is 0 (most ApproachTime) 0 post.approach (from_zero (most ApproachTime) post.approach st.approach)),
                  tt,
                ),
              ),
            ),
          ),
        ),
      )

-- boards
module _ (post : Post) (sections : List Section) (good : Good Board sections post) where
  abbrev bn : Named post
  bn = named post good.0

  abbrev bf : Formed Board post
  bf = formed_as Board sections post good.1

  -- a board names no section ahead, and has no times
  record Bare : Type 0 where
    ahead : not (is_some post.ahead) ≡ true
    setting : post.setting ≡ 0
    watching : post.watching ≡ 0
    approach : post.approach ≡ 0

  bare : Bare
  bare =
      let (most, approach) = and_parts (not (is_some post.ahead) && post.setting == 0 && post.watching == 0) (post.approach == 0) bf.formed in
      let (some, watching) = and_parts (not (is_some post.ahead) && post.setting == 0) (post.watching == 0) most in
      let (ahead, setting) = and_parts (not (is_some post.ahead)) (post.setting == 0) some in
      record { ahead = ahead; setting = zero_of post.setting setting; watching = zero_of post.watching watching; approach = zero_of post.approach approach }

  board_is : post_data post ≡ board_data post
  board_is = data_as post Board bf.is None (none_of post.ahead bare.ahead)

  pub board_read : board_of (post_data post) ≡ post
  board_read = ap board_of board_is ∙ (λ i. record {
    name = unwrap_or (name_is post.name bn.name i) [];
    role = sym bf.is i;
    joint = unwrap_or (name_is post.joint bn.joint i) [];
    ahead = sym (none_of post.ahead bare.ahead) i;
    setting = sym bare.setting i;
    watching = sym bare.watching i;
    approach = sym bare.approach i;
  })

  pub board_form : first_failing (form_tests (keys_of part.Board Two) (post_data post)) ≡ None
  board_form = ap (λ d. first_failing (form_tests (keys_of part.Board Two) d)) board_is

  pub board_values : first_failing (value_tests 1 (keys_of part.Board Two) (post_data post)) ≡ None
  board_values =
      let d = board_data post in
      ap (λ d. first_failing (value_tests 1 (keys_of part.Board Two) d)) board_is
      ∙ none_failing (value_tests 1 (keys_of part.Board Two) d) (
        found (name_at (key_of word.Name) d) post.name (name_is post.name bn.name),
        (found (name_at (key_of word.Joint) d) post.joint (name_is post.joint bn.joint), tt),
      )

-- in order
module _ (net : Net) (sound : IsSoundNetwork net) where
  -- a scene with the sections and these portals
  abbrev pub with_portals : List Post → SceneItems
  with_portals portals = record {
    network = record net { portals = portals; signals = []; boards = []; turns = []; routes = [] };
    kinds = [];
    trains = [];
  }

  -- a scene with the sections, the portals and these signals
  abbrev pub with_signals : List Post → SceneItems
  with_signals signals = record { network = record net { signals = signals; boards = []; turns = []; routes = [] }; kinds = []; trains = [] }

  -- a scene with the sections, the portals, the signals and these boards
  abbrev pub with_boards : List Post → SceneItems
  with_boards boards = record { network = record net { boards = boards; turns = []; routes = [] }; kinds = []; trains = [] }

  pub portal_passes : (before : List Post) (post : Post) (after : List Post) → net.portals ≡ before ++ post ∷ after → Good Portal net.sections post
      → first_failing (item_tests part.Portal Two (with_portals before) (post_data post)) ≡ None
  portal_passes before post after is good =
      let accepted = portal_after net sound before post after is in
      let so_far = (with_portals before).network in
      let room = all_passed (post_tests so_far post) accepted in
      item_none part.Portal Two (with_portals before) (post_data post) room.0 (portal_values post net.sections good)
      (ap (λ p. first_failing (post_tests so_far p)) (portal_read post net.sections good) ∙ accepted)

  pub portal_next : (before : List Post) (post : Post) → Good Portal net.sections post → with_items part.Portal Two (post_data post ∷ []) (with_portals before) ≡ with_portals (before ++ post ∷ [])
  portal_next before post good = ap (λ p. with_portals (before ++ p ∷ [])) (portal_read post net.sections good)

  pub signal_passes : (before : List Post) (post : Post) (after : List Post) → net.signals ≡ before ++ post ∷ after → Good Signal net.sections post
      → first_failing (item_tests part.Signal Two (with_signals before) (post_data post)) ≡ None
  signal_passes before post after is good =
      let accepted = signal_after net sound before post after is in
      let so_far = (with_signals before).network in
      let room = all_passed (post_tests so_far post) accepted in
      item_none part.Signal Two (with_signals before) (post_data post) room.0 (signal_values post net.sections good)
      (ap (λ p. first_failing (post_tests so_far p)) (signal_read post net.sections good) ∙ accepted)

  pub signal_next : (before : List Post) (post : Post) → Good Signal net.sections post → with_items part.Signal Two (post_data post ∷ []) (with_signals before) ≡ with_signals (before ++ post ∷ [])
  signal_next before post good = ap (λ p. with_signals (before ++ p ∷ [])) (signal_read post net.sections good)

  pub board_passes : (before : List Post) (post : Post) (after : List Post) → net.boards ≡ before ++ post ∷ after → Good Board net.sections post
      → first_failing (item_tests part.Board Two (with_boards before) (post_data post)) ≡ None
  board_passes before post after is good =
      let accepted = board_after net sound before post after is in
      let so_far = (with_boards before).network in
      let room = all_passed (post_tests so_far post) accepted in
      item_none part.Board Two (with_boards before) (post_data post) room.0 (board_values post net.sections good)
      (ap (λ p. first_failing (post_tests so_far p)) (board_read post net.sections good) ∙ accepted)

  pub board_next : (before : List Post) (post : Post) → Good Board net.sections post → with_items part.Board Two (post_data post ∷ []) (with_boards before) ≡ with_boards (before ++ post ∷ [])
  board_next before post good = ap (λ p. with_boards (before ++ p ∷ [])) (board_read post net.sections good)
