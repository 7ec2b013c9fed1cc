-- What rows have by the types of their fields.
use Rattle.std.specs.Prelude.{Bool, ◌&&◌, nat_le}
use Rattle.rail_base.specs.NameForms.{is_name}
use Rattle.rail_base.specs.declared.plant.SectionRow.{SectionRow}
use Rattle.rail_base.specs.declared.plant.TrainRow.{TrainRow}

-- a section has a name
abbrev pub is_named_row : SectionRow → Bool
is_named_row row = is_name row.name

-- a train has a name, and a priority of one byte
abbrev pub is_typed_row : TrainRow → Bool
is_typed_row row = is_name row.name && nat_le row.priority 255
