-- The tables of train kinds and trains have their forms and values, and spell them; those of a scene pass in order.
use Rattle.std.proofs.Common.{◌≡◌, ℕ, ◌≤◌, ◌<◌, nat_le, true, false, not, cond, ◌&&◌, List, [], ◌∷◌, ◌++◌, length, Some, None, inl, unwrap_or, refl, sym, ap, subst, ◌∙◌, arith, length-append}
use Rattle.std.specs.List.{list_all, list_any}
use Rattle.std.proofs.lemmas.Bool.{and_parts}
use Rattle.std.proofs.lemmas.Bool.Decides.{nat_tests}
use Rattle.rail_base.specs.Clock.{IsLenientTime, time_text}
use Rattle.rail_base.specs.FirstRefusals.{first_failing}
use Rattle.rail_base.specs.Limits.{is_from_one, most, Kinds, Trains, TrainLength, Speed, StartSupplement, StopSupplement, InputTime, ItineraryRoutes}
use Rattle.rail_base.specs.Lists.{are_distinct}
use Rattle.rail_base.specs.NameForms.{is_name}
use Rattle.rail_base.specs.declared.plant.TrainKind.{TrainKind}
use Rattle.rail_base.specs.declared.refusals.Reason.TheVariants.{WrongKind}
use Rattle.rail_base.proofs.CallerLemmas.{none_failing}
use Rattle.rail_track.specs.declared.section.NetFault.TheVariants.{Refused}
use Rattle.rail_track.proofs.CallerLemmas.{same_name-comm, distinct_before}
use Rattle.rail_routes.specs.Net.{Net}
use Rattle.rail_scene.specs.declared.keys.KeyName.TheVariants as word
use Rattle.rail_scene.specs.declared.keys.ListPart.TheVariants as part
use Rattle.rail_scene.specs.declared.scene.SceneTrain.{SceneTrain}
use Rattle.rail_scene.specs.declared.versions.Version.TheVariants.{Two}
use Rattle.rail_scene.specs.Entries.{kind_of, train_of}
use Rattle.rail_scene.specs.Fields.{name_at, number_at, time_at, time_up_to, elements_at}
use Rattle.rail_scene.specs.Forms.{form_tests}
use Rattle.rail_scene.specs.Keys.{key_of, keys_of}
use Rattle.rail_scene.specs.Rosters.{kind_tests, train_tests}
use Rattle.rail_scene.specs.SceneItems.{SceneItems, item_tests, with_items}
use Rattle.rail_scene.specs.Scenes.{is_fit_kind, is_fit_train, is_one_kind, is_one_train}
use Rattle.rail_scene.specs.Values.{value_tests}
use Rattle.rail_scene.proofs.CallerLemmas.{reads_some}
use Rattle.rail_scene_text.specs.Tables.{kind_data, train_data}
use Rattle.rail_scene_text.specs.FieldTypes.{is_typed_kind, is_typed_train}
use Rattle.rail_scene_text.proofs.Lists.{item_none}
use Rattle.rail_scene_text.proofs.Reading.{found, name_is, number_is, from_zero, names_listed, names_are, names_count, strings}

-- kinds
abbrev pub GoodKind : TrainKind → Type 0
GoodKind kind = (is_typed_kind kind ≡ true) × (is_fit_kind kind ≡ true)

module _ (kind : TrainKind) (good : GoodKind kind) where
  record KindParts : Type 0 where
    long : is_from_one (most TrainLength) kind.length ≡ true
    fast : is_from_one (most Speed) kind.speed ≡ true
    start : nat_le kind.start (most StartSupplement) ≡ true
    stop : nat_le kind.stop (most StopSupplement) ≡ true

  kind_parts : KindParts
  kind_parts =
      let (three, stop) = and_parts (is_from_one (most TrainLength) kind.length && is_from_one (most Speed) kind.speed && nat_le kind.start (most StartSupplement)) (nat_le kind.stop (most StopSupplement)) good.1 in
      let (two, start) = and_parts (is_from_one (most TrainLength) kind.length && is_from_one (most Speed) kind.speed) (nat_le kind.start (most StartSupplement)) three in
      let (long, fast) = and_parts (is_from_one (most TrainLength) kind.length) (is_from_one (most Speed) kind.speed) two in
      record { long = long; fast = fast; start = start; stop = stop }

  pub kind_read : kind_of (kind_data kind) ≡ kind
  kind_read = λ i. record {
    name = unwrap_or (name_is kind.name good.0 i) [];
    length = unwrap_or (number_is 1 (most TrainLength) 1 kind.length kind_parts.long i) 0;
    speed = unwrap_or (number_is 1 (most Speed) 1 kind.speed kind_parts.fast i) 0;
    start = unwrap_or (number_is 0 (most StartSupplement) 0 kind.start (from_zero (most StartSupplement) kind.start kind_parts.start) i) 0;
    stop = unwrap_or (number_is 0 (most StopSupplement) 0 kind.stop (from_zero (most StopSupplement) kind.stop kind_parts.stop) i) 0;
  }

  pub kind_form : first_failing (form_tests (keys_of part.Kind Two) (kind_data kind)) ≡ None
  kind_form = refl

  pub kind_values : first_failing (value_tests 1 (keys_of part.Kind Two) (kind_data kind)) ≡ None
  kind_values =
      let d = kind_data kind in
      none_failing (value_tests 1 (keys_of part.Kind Two) d) (
        found (name_at (key_of word.Name) d) kind.name (name_is kind.name good.0),
        (
          found (number_at (key_of word.TrainLength) d) kind.length (number_is 1 (most TrainLength) 1 kind.length kind_parts.long),
          (
            found (number_at (key_of word.Speed) d) kind.speed (number_is 1 (most Speed) 1 kind.speed kind_parts.fast),
            (
              found (number_at (key_of word.Start) d) kind.start (number_is 0 (most StartSupplement) 0 kind.start (from_zero (most StartSupplement) kind.start kind_parts.start)),
              (found (number_at (key_of word.Stop) d) kind.stop (number_is 0 (most StopSupplement) 0 kind.stop (from_zero (most StopSupplement) kind.stop kind_parts.stop)), tt),
            ),
          ),
        ),
      )

-- trains
abbrev pub GoodTrain : SceneTrain → Type 0
GoodTrain train = (is_typed_train train ≡ true) × (is_fit_train train ≡ true)

-- a text stands for one time
abbrev pub OneTime : Type 0
OneTime = (text : List ℕ) (a b : ℕ) → IsLenientTime text a → IsLenientTime text b → a ≡ b

time_read : OneTime → (t : ℕ) → nat_le t (most InputTime) ≡ true → time_up_to (most InputTime) (time_text t) ≡ Some t
time_read one t within =
    let le : t ≤ most InputTime = grind (arith, nat_tests) in
    reads_some (most InputTime) (omega arith) (time_text t) (one (time_text t)) t record { short = omega arith; spelled = inl refl } le

module _ (one : OneTime) (train : SceneTrain) (good : GoodTrain train) where
  record TrainParts : Type 0 where
    name : is_name train.name ≡ true
    kind : is_name train.kind ≡ true
    priority : nat_le train.priority 255 ≡ true
    routes : list_all is_name train.routes ≡ true
    entry : nat_le train.entry (most InputTime) ≡ true
    many : is_from_one (most ItineraryRoutes) (length train.routes) ≡ true

  train_parts : TrainParts
  train_parts =
      let (three, routes) = and_parts (is_name train.name && is_name train.kind && nat_le train.priority 255) (list_all is_name train.routes) good.0 in
      let (two, priority) = and_parts (is_name train.name && is_name train.kind) (nat_le train.priority 255) three in
      let (name, kind) = and_parts (is_name train.name) (is_name train.kind) two in
      let (entry, many) = and_parts (nat_le train.entry (most InputTime)) (is_from_one (most ItineraryRoutes) (length train.routes)) good.1 in
      record { name = name; kind = kind; priority = priority; routes = routes; entry = entry; many = many }

  pub train_read : train_of (train_data train) ≡ train
  train_read = λ i. record {
    name = unwrap_or (name_is train.name train_parts.name i) [];
    kind = unwrap_or (name_is train.kind train_parts.kind i) [];
    entry = unwrap_or (time_read one train.entry train_parts.entry i) 0;
    priority = unwrap_or (number_is 0 255 0 train.priority (from_zero 255 train.priority train_parts.priority) i) 0;
    routes = names_listed train.routes train_parts.routes i;
  }

  pub train_form : first_failing (form_tests (keys_of part.Train Two) (train_data train)) ≡ None
  train_form = ap (λ b. cond (not b) (Some (Refused WrongKind 5)) None) (strings train.routes)

  pub train_values : first_failing (value_tests 1 (keys_of part.Train Two) (train_data train)) ≡ None
  train_values =
      let d = train_data train in
      let counted : not (is_from_one (most ItineraryRoutes) (length (elements_at (key_of word.Routes) d))) ≡ false =
      ap (λ n. not (is_from_one (most ItineraryRoutes) n)) (names_count train.routes) ∙ ap not train_parts.many in
      none_failing (value_tests 1 (keys_of part.Train Two) d) (
        found (name_at (key_of word.Name) d) train.name (name_is train.name train_parts.name),
        (
          found (name_at (key_of word.TrainKind) d) train.kind (name_is train.kind train_parts.kind),
          (
            found (time_at (key_of word.Entry) d) train.entry (time_read one train.entry train_parts.entry),
            (
              found (number_at (key_of word.Priority) d) train.priority (number_is 0 255 0 train.priority (from_zero 255 train.priority train_parts.priority)),
              (counted, (ap not (names_are train.routes train_parts.routes), tt)),
            ),
          ),
        ),
      )

-- in order
room_before : {X : Type 0} (most : ℕ) (before : List X) (x : X) (after : List X) → length (before ++ x ∷ after) ≤ most → nat_le most (length before) ≡ false
room_before most before x after few =
    let size = length-append before (x ∷ after) in
    let less : length before < most = omega (arith, size, few) in
    grind (arith, nat_tests)

module _ (net : Net) where
  -- a scene with the network and these kinds
  abbrev pub with_kinds : List TrainKind → SceneItems
  with_kinds kinds = record { network = net; kinds = kinds; trains = [] }

  pub kind_passes : (kinds : List TrainKind) → length kinds ≤ most Kinds → are_distinct is_one_kind kinds ≡ true
      → (before : List TrainKind) (kind : TrainKind) (after : List TrainKind) → kinds ≡ before ++ kind ∷ after → GoodKind kind
      → first_failing (item_tests part.Kind Two (with_kinds before) (kind_data kind)) ≡ None
  kind_passes kinds few apart before kind after is good =
      let room = room_before (most Kinds) before kind after (subst (λ (ks : List TrainKind). length ks ≤ most Kinds) is few) in
      let fresh : list_any (is_one_kind kind) before ≡ false =
      distinct_before is_one_kind (λ (x y : TrainKind). same_name-comm x.name y.name) before kind after (ap (are_distinct is_one_kind) (sym is) ∙ apart) in
      item_none part.Kind Two (with_kinds before) (kind_data kind) room (kind_values kind good)
      (ap (λ k. first_failing (kind_tests before k)) (kind_read kind good) ∙ none_failing (kind_tests before kind) (fresh, tt))

  pub kind_next : (before : List TrainKind) (kind : TrainKind) → GoodKind kind → with_items part.Kind Two (kind_data kind ∷ []) (with_kinds before) ≡ with_kinds (before ++ kind ∷ [])
  kind_next before kind good = ap (λ k. with_kinds (before ++ k ∷ [])) (kind_read kind good)

  module _ (kinds : List TrainKind) (one : OneTime) where
    -- a scene with the network, the kinds and these trains
    abbrev pub with_trains : List SceneTrain → SceneItems
    with_trains trains = record { network = net; kinds = kinds; trains = trains }

    pub train_passes : (trains : List SceneTrain) → length trains ≤ most Trains → are_distinct is_one_train trains ≡ true
        → (before : List SceneTrain) (train : SceneTrain) (after : List SceneTrain) → trains ≡ before ++ train ∷ after → GoodTrain train
        → first_failing (item_tests part.Train Two (with_trains before) (train_data train)) ≡ None
    train_passes trains few apart before train after is good =
        let room = room_before (most Trains) before train after (subst (λ (ts : List SceneTrain). length ts ≤ most Trains) is few) in
        let fresh : list_any (is_one_train train) before ≡ false =
        distinct_before is_one_train (λ (x y : SceneTrain). same_name-comm x.name y.name) before train after (ap (are_distinct is_one_train) (sym is) ∙ apart) in
        item_none part.Train Two (with_trains before) (train_data train) room (train_values one train good)
        (ap (λ t. first_failing (train_tests before t)) (train_read one train good) ∙ none_failing (train_tests before train) (fresh, tt))

    pub train_next : (before : List SceneTrain) (train : SceneTrain) → GoodTrain train → with_items part.Train Two (train_data train ∷ []) (with_trains before) ≡ with_trains (before ++ train ∷ [])
    train_next before train good = ap (λ t. with_trains (before ++ t ∷ [])) (train_read one train good)
