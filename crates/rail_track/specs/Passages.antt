-- The passages of a section.
use Rattle.std.specs.Prelude.{ℕ, Bool, false, ◌&&◌, ◌||◌, List, [], ◌∷◌}
use Rattle.std.specs.List.{list_any}
use Rattle.std.specs.Option.{option_map_or}
use Rattle.rail_base.specs.NameForms.{same_name}
use Rattle.rail_track.specs.declared.section.SectionKind.{SectionKind}
use Rattle.rail_track.specs.declared.section.SectionKind.TheVariants.{Plain, Points, Crossing, Slip}
use Rattle.rail_track.specs.declared.section.Section.{Section}
use Rattle.rail_track.specs.Joints.{section_named}

-- the passages of a kind over these joints, each in one of its two directions
abbrev pub passages : SectionKind → List (List ℕ) → List (List ℕ × List ℕ)
passages Plain (p ∷ q ∷ []) = (p, q) ∷ []
passages Points (tip ∷ p ∷ q ∷ []) = (tip, p) ∷ (tip, q) ∷ []
passages Crossing (p ∷ q ∷ r ∷ s ∷ []) = (p, q) ∷ (r, s) ∷ []
passages Slip (p ∷ q ∷ r ∷ s ∷ []) = (p, q) ∷ (r, s) ∷ (p, s) ∷ (r, q) ∷ []
passages kind joints = []

-- a passage leads from the one joint to the other, either way
abbrev pub leads : List ℕ → List ℕ → List ℕ × List ℕ → Bool
leads from to passage = (same_name from passage.0 && same_name to passage.1) || (same_name from passage.1 && same_name to passage.0)

-- the section of this name has a passage from the one joint to the other
abbrev pub has_passage : List Section → List ℕ → List ℕ → List ℕ → Bool
has_passage sections name from to =
    option_map_or (λ section. list_any (leads from to) (passages section.kind section.joints)) (section_named name sections) false
