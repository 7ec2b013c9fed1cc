-- A text whose table is that of a scene is accepted, and spells the scene.
use Rattle.std.proofs.Common.{◌≡◌, ℕ, cond, not, List, [], ◌∷◌, Option, Some, None, is_some, ap, ◌∙◌}
use Rattle.std.specs.Str.{IsUtf8}
use Rattle.toml.specs.Data.{Members}
use Rattle.toml.specs.Parse.{parse_document}
use Rattle.rail_base.specs.FirstRefusals.{first_failing}
use Rattle.rail_base.specs.declared.refusals.Part.TheVariants.{Bytes}
use Rattle.rail_base.specs.declared.refusals.Reason.TheVariants.{NotToml}
use Rattle.rail_routes.specs.SoundNetworks.{IsSoundNetwork}
use Rattle.rail_scene.specs.declared.scene.Scene.{Scene}
use Rattle.rail_scene.specs.Fields.{version_of}
use Rattle.rail_scene.specs.Order.{scene_refusal, scene_forms, scene_values, toml_test}
use Rattle.rail_scene.specs.Scenes.{IsScene}
use Rattle.rail_scene.specs.SpelledScenes.{document, root_of, scene_of, spelled_scene}
use Rattle.rail_scene.specs.Versions.{newest}
use Rattle.rail_scene.proofs.CallerLemmas.{document_some, root_is, none_refused}
use Rattle.rail_scene_text.specs.Tables.{scene_members}
use Rattle.rail_scene_text.specs.FieldTypes.{IsTyped}
use Rattle.rail_scene_text.proofs.Roots as of_root
use Rattle.rail_scene_text.proofs.Trains.{OneTime}

module _ (scene : Scene) (one : OneTime) (kept : IsScene scene) (typed : IsTyped scene) (sound : IsSoundNetwork scene.network)
    (text : List ℕ) (utf8 : IsUtf8 text) (read : parse_document text ≡ Some (scene_members scene)) where
  is_document : document text ≡ Some (scene_members scene)
  is_document = document_some text (scene_members scene) utf8 read

  is_root : root_of text ≡ of_root.root scene one kept typed sound
  is_root = root_is text (scene_members scene) is_document

  pub accepted : scene_refusal text ≡ None
  accepted =
      let toml : first_failing (toml_test text ∷ []) ≡ None =
      ap (λ (o : Option Members). cond (not (is_some o)) (Some record { reason = NotToml; part = Bytes; item = 0; step = 0 }) None) is_document in
      none_refused text toml
      (ap (λ r. first_failing (scene_forms (version_of r) r)) is_root ∙ of_root.forms scene one kept typed sound)
      (ap (λ r. first_failing (scene_values (version_of r) r)) is_root ∙ of_root.values scene one kept typed sound)

  pub same : spelled_scene text ≡ scene
  unfolding spelled_scene
  same = ap (λ r. scene_of (version_of r) r) is_root ∙ of_root.spelled_is scene one kept typed sound

  pub versioned : version_of (root_of text) ≡ newest
  versioned = ap version_of is_root
