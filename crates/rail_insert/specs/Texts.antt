-- The text of an insertion.
use Rattle.std.specs.Prelude.{ℕ, suc, List, [], ◌∷◌, ◌++◌, length, flat_map, codes, decimal}
use Rattle.rail_base.specs.Clock.{time_text}
use Rattle.rail_insert.specs.declared.bars.Bar.{Bar}
use Rattle.rail_insert.specs.declared.bars.Owner.{Owner}
use Rattle.rail_insert.specs.declared.bars.Owner.TheVariants.{Train, Copy}
use Rattle.rail_insert.specs.declared.insertion.Placed.{Placed}
use Rattle.rail_rules.specs.Texts.{spaced}
use Rattle.rail_text.specs.Names.{NameLists, section_name, train_name}

-- a copy is spelled TRAIN+NUMBER
abbrev pub copy_word : NameLists → ℕ → ℕ → List ℕ
copy_word names train number = train_name names train ++ 43 ∷ decimal number

-- an owner is spelled as a train, or as a copy of the train that is inserted
abbrev pub owner_word : NameLists → ℕ → Owner → List ℕ
owner_word names train (Train owner) = train_name names owner
owner_word names train (Copy number) = copy_word names train number

-- the line of a bar: the begins that it excludes, by whom and where
abbrev pub bar_line : NameLists → ℕ → Bar → List ℕ
bar_line names train bar = spaced (codes "bar" ∷ time_text bar.from ∷ time_text bar.to
    ∷ owner_word names train bar.owner ∷ section_name names bar.section ∷ [])

-- the line of a copy: its name and its begin
abbrev pub path_line : NameLists → ℕ → ℕ → ℕ → List ℕ
path_line names train number begin = spaced (codes "path" ∷ copy_word names train number ∷ time_text begin ∷ [])

-- the last line: how many copies there are
abbrev pub paths_line : ℕ → List ℕ
paths_line count = spaced (codes "paths" ∷ decimal count ∷ [])

-- the lines of the copy with this number: those of its bars, and its own
abbrev pub copy_text : NameLists → ℕ → ℕ → Placed → List ℕ
copy_text names train number placed =
    flat_map (bar_line names train) placed.bars.items ++ path_line names train number placed.begin

-- the lines of copies that are numbered from this number on
abbrev pub copies_text : NameLists → ℕ → ℕ → List Placed → List ℕ
copies_text names train number [] = []
copies_text names train number (placed ∷ rest) = copy_text names train number placed ++ copies_text names train (suc number) rest

-- the text of an insertion
abbrev pub inserted_text : NameLists → ℕ → List Placed → List ℕ
inserted_text names train copies = copies_text names train 1 copies ++ paths_line (length copies)
