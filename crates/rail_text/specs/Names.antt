-- The names of sections and trains, by number.
use Rattle.std.specs.Prelude.{◌≡◌, ℕ, List, [], get_or, map}
use Rattle.rail_base.specs.declared.names.Names.{Names}
use Rattle.rail_base.specs.declared.plant.SectionRow.{SectionRow}
use Rattle.rail_base.specs.declared.plant.TrainRow.{TrainRow}
use Rattle.rail_rules.specs.Plant.{Plant}

-- the names of the sections and of the trains, in the order of their numbers
pub record NameLists : Type 0 where
  pub sections : List (List ℕ)
  pub trains : List (List ℕ)

-- the names of the sections and trains of a plant
abbrev pub names_of : Plant → NameLists
names_of plant = record {
  sections = map (λ (row : SectionRow). row.name) plant.tables.sections;
  trains = map (λ (row : TrainRow). row.name) plant.tables.trains;
}

-- the names that a table of names has
abbrev pub names_in : Names → NameLists
names_in names = record { sections = names.sections.keys; trains = names.trains.keys }

-- the name of a train, by its number
abbrev pub train_name : NameLists → ℕ → List ℕ
train_name names t = get_or names.trains t []

-- the name of a section, by its number
abbrev pub section_name : NameLists → ℕ → List ℕ
section_name names x = get_or names.sections x []

-- these are the names of the plant's sections and trains, in the order of their numbers
pub record HasNames (plant : Plant) (names : Names) : Type 0 where
  pub sections : names.sections.keys ≡ map (λ (row : SectionRow). row.name) plant.tables.sections
  pub trains : names.trains.keys ≡ map (λ (row : TrainRow). row.name) plant.tables.trains
