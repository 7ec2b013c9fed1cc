-- Rows that trains share, as contracts see them.
use Rattle.std.proofs.Common.{Global, List}
use Rattle.std.specs.declared.rc.Rc.{Rc}
use Rattle.rail_consequence.specs.declared.rows.PlaceSets.{PlaceSets}

-- a row that trains share
abbrev pub Shared : Type 0
Shared = Rc (List PlaceSets) Global

-- its sets
abbrev pub sets_of : Shared → List PlaceSets
sets_of row = row.value
