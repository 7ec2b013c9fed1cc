-- A kind or a train more.
use Rattle.std.proofs.Common.{◌≡◌, ◌<◌, true, false, ◌&&◌, List, [], ◌∷◌, ◌++◌, length, ◌∙◌, arith}
use Rattle.std.specs.List.{list_any}
use Rattle.rail_base.specs.declared.limits.TheConstants.{KINDS, TRAINS}
use Rattle.rail_base.specs.declared.plant.TrainKind.{TrainKind}
use Rattle.rail_scene.specs.declared.scene.SceneTrain.{SceneTrain}
use Rattle.rail_scene.specs.Scenes.{is_fit_kind, is_fit_train, is_one_kind, is_one_train}
use Rattle.rail_scene.specs.Rosters.{AreKinds, AreTrains}
use Rattle.std.proofs.lemmas.List.{length_push}
use Rattle.std.proofs.lemmas.List.Folds.{list_all-append}
use Rattle.rail_track.proofs.CallerLemmas.{same_name-comm, are_distinct-push}

pub AreKinds-push : (kinds : List TrainKind) (kind : TrainKind) → AreKinds kinds → length kinds < KINDS → is_fit_kind kind ≡ true → list_any (is_one_kind kind) kinds ≡ false → AreKinds (kinds ++ kind ∷ [])
AreKinds-push kinds kind are few fit fresh = record {
  few = omega (arith, length_push kinds kind);
  fit = list_all-append is_fit_kind kinds (kind ∷ []) ∙ (λ i. are.fit i && (fit i && true));
  apart = are_distinct-push is_one_kind (λ x y. same_name-comm x.name y.name) kinds kind are.apart fresh;
}

pub AreTrains-push : (trains : List SceneTrain) (train : SceneTrain) → AreTrains trains → length trains < TRAINS → is_fit_train train ≡ true → list_any (is_one_train train) trains ≡ false → AreTrains (trains ++ train ∷ [])
AreTrains-push trains train are few fit fresh = record {
  few = omega (arith, length_push trains train);
  fit = list_all-append is_fit_train trains (train ∷ []) ∙ (λ i. are.fit i && (fit i && true));
  apart = are_distinct-push is_one_train (λ x y. same_name-comm x.name y.name) trains train are.apart fresh;
}
