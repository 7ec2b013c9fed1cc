-- The table of a section has its form and its values, and spells the section; the sections of a sound network pass in order.
use Rattle.std.proofs.Common.{◌≡◌, ◌==◌, true, false, not, cond, List, [], ◌∷◌, ◌++◌, length, Some, None, unwrap_or, refl, ap, ◌∙◌}
use Rattle.std.specs.List.{list_all, list_any}
use Rattle.std.specs.Option.{option_map_or}
use Rattle.std.proofs.lemmas.Bool.{and_parts}
use Rattle.rail_base.specs.FirstRefusals.{first_failing}
use Rattle.rail_base.specs.Limits.{is_from_one, most, SectionLength, Speed}
use Rattle.rail_base.specs.NameForms.{is_name}
use Rattle.rail_base.specs.declared.refusals.Reason.TheVariants.{WrongKind}
use Rattle.rail_base.proofs.CallerLemmas.{none_failing, all_passed}
use Rattle.rail_track.specs.declared.section.NetFault.TheVariants.{Refused}
use Rattle.rail_track.specs.declared.section.Section.{Section}
use Rattle.rail_track.specs.declared.section.SectionKind.{SectionKind}
use Rattle.rail_track.specs.declared.section.SectionKind.TheVariants.{Plain, Points, Crossing, Slip}
use Rattle.rail_track.specs.SectionRules.{joint_count, stands_twice, section_tests}
use Rattle.rail_track.specs.SoundTracks.{is_fit}
use Rattle.rail_routes.specs.Net.{Net}
use Rattle.rail_routes.specs.SectionRules.{is_closed_by}
use Rattle.rail_routes.specs.SoundNetworks.{IsSoundNetwork}
use Rattle.rail_routes.proofs.CallerLemmas.{section_after}
use Rattle.rail_scene.specs.declared.keys.KeyName.TheVariants as word
use Rattle.rail_scene.specs.declared.keys.ListPart.TheVariants as part
use Rattle.rail_scene.specs.declared.versions.Version.TheVariants.{Two}
use Rattle.rail_scene.specs.Entries.{section_of}
use Rattle.rail_scene.specs.Fields.{name_at, number_at, kind_at, elements_at, is_joint_count}
use Rattle.rail_scene.specs.Forms.{form_tests}
use Rattle.rail_scene.specs.Keys.{key_of, keys_of}
use Rattle.rail_scene.specs.SceneItems.{SceneItems, item_tests, with_items}
use Rattle.rail_scene.specs.Values.{value_tests}
use Rattle.rail_scene_text.specs.Tables.{section_data}
use Rattle.rail_scene_text.specs.FieldTypes.{is_typed_section}
use Rattle.rail_scene_text.proofs.Lists.{item_none}
use Rattle.rail_scene_text.proofs.Reading.{found, name_is, number_is, names_listed, names_are, names_count, strings}

-- what a section of a scene has
abbrev pub Good : Section → Type 0
Good s = (is_typed_section s ≡ true) × (is_fit s ≡ true)

-- the parts of it
record Parts (s : Section) : Type 0 where
  name : is_name s.name ≡ true
  joints : list_all is_name s.joints ≡ true
  long : is_from_one (most SectionLength) s.length ≡ true
  fast : is_from_one (most Speed) s.speed ≡ true
  many : (length s.joints == joint_count s.kind) ≡ true

parts : (s : Section) → Good s → Parts s
parts s good =
    let (name, joints) = and_parts (is_name s.name) (list_all is_name s.joints) good.0 in
    let (values, once) = and_parts _ (not (list_any (stands_twice s.joints) s.joints)) good.1 in
    let (numbers, many) = and_parts _ (length s.joints == joint_count s.kind) values in
    let (long, fast) = and_parts (is_from_one (most SectionLength) s.length) (is_from_one (most Speed) s.speed) numbers in
    record { name = name; joints = joints; long = long; fast = fast; many = many }

kind_read : (s : Section) → kind_at (key_of word.SectionKind) (section_data s) ≡ Some s.kind
kind_read s = by s.kind
  where
    by : (k : SectionKind) → kind_at (key_of word.SectionKind) (section_data (record s { kind = k })) ≡ Some k
    by Plain = refl
    by Points = refl
    by Crossing = refl
    by Slip = refl

pub section_read : (s : Section) → Good s → section_of (section_data s) ≡ s
section_read s good =
    let p = parts s good in
    λ i. record {
      name = unwrap_or (name_is s.name p.name i) [];
      kind = unwrap_or (kind_read s i) Plain;
      length = unwrap_or (number_is 1 (most SectionLength) 1 s.length p.long i) 0;
      speed = unwrap_or (number_is 1 (most Speed) 1 s.speed p.fast i) 0;
      joints = names_listed s.joints p.joints i;
    }

pub section_form : (s : Section) → Good s → first_failing (form_tests (keys_of part.Section Two) (section_data s)) ≡ None
section_form s good = ap (λ b. cond (not b) (Some (Refused WrongKind 5)) None) (strings s.joints)

pub section_values : (s : Section) → Good s → first_failing (value_tests 1 (keys_of part.Section Two) (section_data s)) ≡ None
section_values s good =
    let p = parts s good in
    let d = section_data s in
    let counted : not (is_joint_count d (length (elements_at (key_of word.Joints) d))) ≡ false =
    (λ i. not (option_map_or (λ kind. names_count s.joints i == joint_count kind) (kind_read s i) true)) ∙ ap not p.many in
    none_failing (value_tests 1 (keys_of part.Section Two) d) (
      found (name_at (key_of word.Name) d) s.name (name_is s.name p.name),
      (
        found (kind_at (key_of word.SectionKind) d) s.kind (kind_read s),
        (
          found (number_at (key_of word.SectionLength) d) s.length (number_is 1 (most SectionLength) 1 s.length p.long),
          (
            found (number_at (key_of word.Speed) d) s.speed (number_is 1 (most Speed) 1 s.speed p.fast),
            (counted, (ap not (names_are s.joints p.joints), tt)),
          ),
        ),
      ),
    )

-- a scene with these sections and nothing else
abbrev pub with_sections : List Section → SceneItems
with_sections sections = record {
  network = record { sections = sections; portals = []; signals = []; boards = []; turns = []; routes = [] };
  kinds = [];
  trains = [];
}

module _ (net : Net) (sound : IsSoundNetwork net) where
  pub section_passes : (before : List Section) (s : Section) (after : List Section) → net.sections ≡ before ++ s ∷ after → Good s
      → first_failing (item_tests part.Section Two (with_sections before) (section_data s)) ≡ None
  section_passes before s after is good =
      let accepted = section_after net before s after sound is in
      let room = all_passed (section_tests before (is_closed_by before []) s) accepted in
      item_none part.Section Two (with_sections before) (section_data s) room.0 (section_values s good)
      (ap (λ t. first_failing (section_tests before (is_closed_by before []) t)) (section_read s good) ∙ accepted)

pub section_next : (before : List Section) (s : Section) → Good s → with_items part.Section Two (section_data s ∷ []) (with_sections before) ≡ with_sections (before ++ s ∷ [])
section_next before s good = ap (λ t. with_sections (before ++ t ∷ [])) (section_read s good)
