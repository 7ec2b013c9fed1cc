-- The root of a scene that is written: all forms and all values pass, and it spells the scene.
use Rattle.std.proofs.Common.{◌≡◌, true, not, List, [], ◌∷◌, ◌++◌, map, Some, None, unwrap_or, refl, ap, ◌∙◌}
use Rattle.std.specs.List.{list_all}
use Rattle.toml.specs.Data.{Data, table}
use Rattle.toml.specs.View.{items_of}
use Rattle.rail_base.specs.FirstRefusals.{first_failing}
use Rattle.rail_base.specs.Limits.{most, ReleaseTime, Depth, OverlapTime}
use Rattle.rail_base.specs.declared.refusals.Part.TheVariants.{Root}
use Rattle.rail_base.proofs.CallerLemmas.{none_failing}
use Rattle.rail_track.specs.SoundTracks.{is_fit}
use Rattle.rail_routes.specs.declared.items.PostRole.TheVariants as role
use Rattle.rail_routes.specs.Net.{Net}
use Rattle.rail_routes.specs.SoundNetworks.{IsSoundNetwork, is_sound_post, is_sound_turn, is_sound_route}
use Rattle.rail_scene.specs.declared.keys.KeyName.TheVariants as word
use Rattle.rail_scene.specs.declared.keys.ListPart.{ListPart}
use Rattle.rail_scene.specs.declared.keys.ListPart.TheVariants as part
use Rattle.rail_scene.specs.declared.scene.Scene.{Scene}
use Rattle.rail_scene.specs.declared.versions.Version.TheVariants.{Two}
use Rattle.rail_scene.specs.Entries.{section_of, portal_of, signal_of, board_of, turn_of, route_of, kind_of, train_of}
use Rattle.rail_scene.specs.Fields.{listed, elements_at, number_at, policy_at, bounded}
use Rattle.rail_scene.specs.Forms.{form_tests, is_table}
use Rattle.rail_scene.specs.Keys.{key_of, keys_of, list_key, list_parts, root_keys}
use Rattle.rail_scene.specs.Order.{located, list_forms, forms_of, scene_forms, list_values, values_of, lists_values, scene_values}
use Rattle.rail_scene.specs.SceneItems.{SceneItems, item_tests, with_items}
use Rattle.rail_scene.specs.Scenes.{IsScene, is_fit_kind, is_fit_train}
use Rattle.rail_scene.specs.SpelledScenes.{scene_of}
use Rattle.rail_scene.specs.Values.{value_tests}
use Rattle.rail_scene.proofs.CallerLemmas.{both_passed, located_none, values_none}
use Rattle.rail_scene_text.specs.Tables.{section_data, post_data, turn_data, route_data, kind_data, train_data, scene_members}
use Rattle.rail_scene_text.specs.FieldTypes.{IsTyped, is_typed_section, is_typed_post, is_typed_turn, is_typed_route, is_typed_kind, is_typed_train}
use Rattle.rail_scene_text.proofs.Lists as lists
use Rattle.rail_scene_text.proofs.Lists.{Each, each_both}
use Rattle.rail_scene_text.proofs.Reading.{listed_items, found, name_is, number_is, from_zero, up_to}
use Rattle.rail_scene_text.proofs.Sections as section
use Rattle.rail_scene_text.proofs.Posts as post
use Rattle.rail_scene_text.proofs.Ways as way
use Rattle.rail_scene_text.proofs.Trains as train
use Rattle.rail_scene_text.proofs.Trains.{OneTime}

-- the list of a part in a root: what holds of its items
module _ (p : ListPart) {X : Type 0} (f : X → Data) (G : X → Type 0) (xs : List X) (all : Each G xs) where
  pub tables : ((x : X) → is_table (f x) ≡ true) → list_all is_table (listed (items_of (map f xs))) ≡ true
  tables each = ap (list_all is_table) (listed_items (map f xs)) ∙ lists.are_tables p Two f G each xs

  pub formed : ((x : X) → G x → first_failing (form_tests (keys_of p Two) (f x)) ≡ None) → first_failing (list_forms p Two 1 (listed (items_of (map f xs)))) ≡ None
  formed each = ap (λ ds. first_failing (list_forms p Two 1 ds)) (listed_items (map f xs)) ∙ lists.forms_pass p Two f G each 1 xs all

  pub spelled : (read : Data → X) → ((x : X) → G x → read (f x) ≡ x) → map read (listed (items_of (map f xs))) ≡ xs
  spelled read each = ap (map read) (listed_items (map f xs)) ∙ lists.spelled p Two f G read each xs all

-- the lists that come behind one
abbrev after_kind : List ListPart
after_kind = part.Train ∷ []

abbrev after_route : List ListPart
after_route = part.Kind ∷ after_kind

abbrev after_turn : List ListPart
after_turn = part.Route ∷ after_route

abbrev after_board : List ListPart
after_board = part.Turn ∷ after_turn

abbrev after_signal : List ListPart
after_signal = part.Board ∷ after_board

abbrev after_portal : List ListPart
after_portal = part.Signal ∷ after_signal

abbrev after_section : List ListPart
after_section = part.Portal ∷ after_portal

-- the values of one list, and then those of the others
next_list : (root : Data) (p : ListPart) (parts : List ListPart) (items with : SceneItems) → first_failing (list_values p Two 1 items (elements_at (list_key p) root)) ≡ None
    → with_items p Two (elements_at (list_key p) root) items ≡ with → first_failing (values_of Two root with parts) ≡ None → first_failing (values_of Two root items (p ∷ parts)) ≡ None
next_list root p parts items with here is rest =
    both_passed (list_values p Two 1 items (elements_at (list_key p) root)) (values_of Two root (with_items p Two (elements_at (list_key p) root) items) parts)
    here (ap (λ items. first_failing (values_of Two root items parts)) is ∙ rest)

next_forms : (root : Data) (p : ListPart) (parts : List ListPart) → first_failing (list_forms p Two 1 (elements_at (list_key p) root)) ≡ None
    → first_failing (forms_of Two root parts) ≡ None → first_failing (forms_of Two root (p ∷ parts)) ≡ None
next_forms root p parts here rest = both_passed (list_forms p Two 1 (elements_at (list_key p) root)) (forms_of Two root parts) here rest

module _ (scene : Scene) (one : OneTime) (kept : IsScene scene) (typed : IsTyped scene) (sound : IsSoundNetwork scene.network) where
  abbrev net : Net
  net = scene.network

  abbrev pub root : Data
  root = table (scene_members scene)

  sections : Each section.Good net.sections
  sections = each_both is_typed_section is_fit net.sections typed.network.sections sound.distinct.track.fit

  portals : Each (post.Good role.Portal net.sections) net.portals
  portals = each_both is_typed_post (is_sound_post role.Portal net.sections) net.portals typed.network.portals sound.portals

  signals : Each (post.Good role.Signal net.sections) net.signals
  signals = each_both is_typed_post (is_sound_post role.Signal net.sections) net.signals typed.network.signals sound.signals

  boards : Each (post.Good role.Board net.sections) net.boards
  boards = each_both is_typed_post (is_sound_post role.Board net.sections) net.boards typed.network.boards sound.boards

  turns : Each (way.GoodTurn net) net.turns
  turns = each_both is_typed_turn (is_sound_turn net) net.turns typed.network.turns sound.turns

  routes : Each (way.GoodRoute net) net.routes
  routes = each_both is_typed_route (is_sound_route net) net.routes typed.network.routes sound.routes

  kinds : Each train.GoodKind scene.kinds
  kinds = each_both is_typed_kind is_fit_kind scene.kinds typed.kinds kept.kinds

  trains : Each train.GoodTrain scene.trains
  trains = each_both is_typed_train is_fit_train scene.trains typed.trains kept.trains

  own_form : first_failing (form_tests (root_keys Two) root) ≡ None
  own_form = none_failing (form_tests (root_keys Two) root) (
    refl,
    (
      refl,
      (
        refl,
        (
          refl,
          (
            refl,
            (
              refl,
              (
                refl,
                (
                  refl,
                  (
                    refl,
                    (
                      ap not (tables part.Section section_data section.Good net.sections sections (λ x. refl)),
                      (
                        refl,
                        (
                          ap not (tables part.Portal post_data (post.Good role.Portal net.sections) net.portals portals (λ x. refl)),
                          (
                            refl,
                            (
                              ap not (tables part.Signal post_data (post.Good role.Signal net.sections) net.signals signals (λ x. refl)),
                              (
                                refl,
                                (
                                  ap not (tables part.Board post_data (post.Good role.Board net.sections) net.boards boards (λ x. refl)),
                                  (
                                    refl,
                                    (
                                      ap not (tables part.Turn turn_data (way.GoodTurn net) net.turns turns (λ x. refl)),
                                      (
                                        refl,
                                        (
                                          ap not (tables part.Route route_data (way.GoodRoute net) net.routes routes (λ x. refl)),
                                          (
                                            refl,
                                            (
                                              ap not (tables part.Kind kind_data train.GoodKind scene.kinds kinds (λ x. refl)),
                                              (
                                                refl,
                                                (
                                                  ap not (tables part.Train train_data train.GoodTrain scene.trains trains (λ x. refl)),
                                                  (refl, (refl, (refl, tt))),
                                                ),
                                              ),
                                            ),
                                          ),
                                        ),
                                      ),
                                    ),
                                  ),
                                ),
                              ),
                            ),
                          ),
                        ),
                      ),
                    ),
                  ),
                ),
              ),
            ),
          ),
        ),
      ),
    ),
  )

  pub forms : first_failing (scene_forms Two root) ≡ None
  unfolding scene_forms
  forms = both_passed (located Root 0 (form_tests (root_keys Two) root)) (forms_of Two root list_parts) (located_none Root 0 (form_tests (root_keys Two) root) own_form)
      (next_forms root part.Section after_section (formed part.Section section_data section.Good net.sections sections section.section_form)
      (next_forms root part.Portal after_portal (formed part.Portal post_data (post.Good role.Portal net.sections) net.portals portals (λ x g. post.portal_form x net.sections g))
      (next_forms root part.Signal after_signal (formed part.Signal post_data (post.Good role.Signal net.sections) net.signals signals (λ x g. post.signal_form x net.sections g))
      (next_forms root part.Board after_board (formed part.Board post_data (post.Good role.Board net.sections) net.boards boards (λ x g. post.board_form x net.sections g))
      (next_forms root part.Turn after_turn (formed part.Turn turn_data (way.GoodTurn net) net.turns turns (λ x g. way.turn_form net x g))
      (next_forms root part.Route after_route (formed part.Route route_data (way.GoodRoute net) net.routes routes (λ x g. way.route_form net x g))
      (next_forms root part.Kind after_kind (formed part.Kind kind_data train.GoodKind scene.kinds kinds train.kind_form)
      (next_forms root part.Train [] (formed part.Train train_data train.GoodTrain scene.trains trains (λ x g. train.train_form one x g)) refl))))))))

  -- what the lists of the root spell
  sections_read : map section_of (elements_at (list_key part.Section) root) ≡ net.sections
  sections_read = spelled part.Section section_data section.Good net.sections sections section_of section.section_read

  portals_read : map portal_of (elements_at (list_key part.Portal) root) ≡ net.portals
  portals_read = spelled part.Portal post_data (post.Good role.Portal net.sections) net.portals portals portal_of (λ x g. post.portal_read x net.sections g)

  signals_read : map signal_of (elements_at (list_key part.Signal) root) ≡ net.signals
  signals_read = spelled part.Signal post_data (post.Good role.Signal net.sections) net.signals signals signal_of (λ x g. post.signal_read x net.sections g)

  boards_read : map board_of (elements_at (list_key part.Board) root) ≡ net.boards
  boards_read = spelled part.Board post_data (post.Good role.Board net.sections) net.boards boards board_of (λ x g. post.board_read x net.sections g)

  turns_read : map turn_of (elements_at (list_key part.Turn) root) ≡ net.turns
  turns_read = spelled part.Turn turn_data (way.GoodTurn net) net.turns turns turn_of (λ x g. way.turn_read net x g)

  routes_read : map (route_of Two) (elements_at (list_key part.Route) root) ≡ net.routes
  routes_read = spelled part.Route route_data (way.GoodRoute net) net.routes routes (route_of Two) (λ x g. way.route_read net x g)

  kinds_read : map kind_of (elements_at (list_key part.Kind) root) ≡ scene.kinds
  kinds_read = spelled part.Kind kind_data train.GoodKind scene.kinds kinds kind_of train.kind_read

  trains_read : map train_of (elements_at (list_key part.Train) root) ≡ scene.trains
  trains_read = spelled part.Train train_data train.GoodTrain scene.trains trains train_of (λ x g. train.train_read one x g)

  release_is : bounded (record { low = 0; high = most ReleaseTime; default = 0 }) scene.release ≡ Some scene.release
  release_is = number_is 0 (most ReleaseTime) 0 scene.release (from_zero (most ReleaseTime) scene.release (up_to (most ReleaseTime) scene.release kept.release))

  depth_is : bounded (record { low = 0; high = most Depth; default = 1 }) scene.depth ≡ Some scene.depth
  depth_is = number_is 0 (most Depth) 1 scene.depth (from_zero (most Depth) scene.depth (up_to (most Depth) scene.depth kept.depth))

  overlap_time_is : bounded (record { low = 0; high = most OverlapTime; default = 0 }) scene.overlap_time ≡ Some scene.overlap_time
  overlap_time_is = number_is 0 (most OverlapTime) 0 scene.overlap_time (from_zero (most OverlapTime) scene.overlap_time (up_to (most OverlapTime) scene.overlap_time kept.overlap_time))

  own_values : first_failing (value_tests 1 (root_keys Two) root) ≡ None
  own_values = none_failing (value_tests 1 (root_keys Two) root) (
    refl,
    (
      found (number_at (key_of word.Release) root) scene.release release_is,
      (
        found (number_at (key_of word.Depth) root) scene.depth depth_is,
        (
          found (policy_at (key_of word.Policy) root) scene.policy (name_is scene.policy typed.policy),
          (found (number_at (key_of word.OverlapTime) root) scene.overlap_time overlap_time_is, tt),
        ),
      ),
    ),
  )

  lists_pass : first_failing (lists_values Two root) ≡ None
  unfolding lists_values
  lists_pass =
      next_list root part.Section after_section (section.with_sections []) (section.with_sections net.sections)
      (listed_pass part.Section section_data section.Good section.with_sections net.sections sections (section.section_passes net sound) section.section_next)
      (ap section.with_sections sections_read)
      (next_list root part.Portal after_portal (post.with_portals net sound []) (post.with_portals net sound net.portals)
      (listed_pass part.Portal post_data (post.Good role.Portal net.sections) (post.with_portals net sound) net.portals portals (post.portal_passes net sound) (post.portal_next net sound))
      (ap (post.with_portals net sound) portals_read)
      (next_list root part.Signal after_signal (post.with_signals net sound []) (post.with_signals net sound net.signals)
      (listed_pass part.Signal post_data (post.Good role.Signal net.sections) (post.with_signals net sound) net.signals signals (post.signal_passes net sound) (post.signal_next net sound))
      (ap (post.with_signals net sound) signals_read)
      (next_list root part.Board after_board (post.with_boards net sound []) (post.with_boards net sound net.boards)
      (listed_pass part.Board post_data (post.Good role.Board net.sections) (post.with_boards net sound) net.boards boards (post.board_passes net sound) (post.board_next net sound))
      (ap (post.with_boards net sound) boards_read)
      (next_list root part.Turn after_turn (way.with_turns net sound []) (way.with_turns net sound net.turns)
      (listed_pass part.Turn turn_data (way.GoodTurn net) (way.with_turns net sound) net.turns turns (way.turn_passes net sound) (way.turn_next net sound))
      (ap (way.with_turns net sound) turns_read)
      (next_list root part.Route after_route (way.with_routes net sound []) (way.with_routes net sound net.routes)
      (listed_pass part.Route route_data (way.GoodRoute net) (way.with_routes net sound) net.routes routes (way.route_passes net sound) (way.route_next net sound))
      (ap (way.with_routes net sound) routes_read)
      (next_list root part.Kind after_kind (train.with_kinds net []) (train.with_kinds net scene.kinds)
      (listed_pass part.Kind kind_data train.GoodKind (train.with_kinds net) scene.kinds kinds (train.kind_passes net scene.kinds kept.few_kinds kept.kinds_apart) (train.kind_next net))
      (ap (train.with_kinds net) kinds_read)
      (next_list root part.Train [] (train.with_trains net scene.kinds one []) (train.with_trains net scene.kinds one scene.trains)
      (listed_pass part.Train train_data train.GoodTrain (train.with_trains net scene.kinds one) scene.trains trains (train.train_passes net scene.kinds one scene.trains kept.few_trains kept.trains_apart) (train.train_next net scene.kinds one))
      (ap (train.with_trains net scene.kinds one) trains_read) refl)))))))
    where
      listed_pass : (p : ListPart) {X : Type 0} (f : X → Data) (G : X → Type 0) (D : List X → SceneItems) (xs : List X) → Each G xs
          → ((before : List X) (x : X) (after : List X) → xs ≡ before ++ x ∷ after → G x → first_failing (item_tests p Two (D before) (f x)) ≡ None)
          → ((before : List X) (x : X) → G x → with_items p Two (f x ∷ []) (D before) ≡ D (before ++ x ∷ []))
          → first_failing (list_values p Two 1 (D []) (listed (items_of (map f xs)))) ≡ None
      listed_pass p f G D xs all passes next =
          ap (λ ds. first_failing (list_values p Two 1 (D []) ds)) (listed_items (map f xs)) ∙ lists.values_pass p Two f G D xs passes next 1 [] xs refl all

  pub values : first_failing (scene_values Two root) ≡ None
  values = values_none Two root own_values lists_pass

  pub spelled_is : scene_of Two root ≡ scene
  spelled_is = λ i. record {
    release = unwrap_or (release_is i) 0;
    depth = unwrap_or (depth_is i) 0;
    policy = unwrap_or (name_is scene.policy typed.policy i) [];
    overlap_time = unwrap_or (overlap_time_is i) 0;
    network = record {
      sections = sections_read i;
      portals = portals_read i;
      signals = signals_read i;
      boards = boards_read i;
      turns = turns_read i;
      routes = routes_read i;
    };
    kinds = kinds_read i;
    trains = trains_read i;
  }
