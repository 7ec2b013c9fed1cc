-- The lines of a history that are still to come.
use Rattle.std.specs.Prelude.{◌≡◌, ℕ, List, [], ◌∷◌, map, Option, None, Some}
use Rattle.rail_base.specs.declared.history.Entry.{Entry}
use Rattle.rail_rules.specs.Fronts.{Line}
use Rattle.rail_history.specs.declared.lines.Lines.{Lines}
use Rattle.rail_history.specs.HistoryLines.{lines_in}
use Rattle.rail_history.specs.Lines.{brought, line_of}
use Rattle.rail_history.specs.ListItems.{spelled_by}

-- the lines that are still to come
abbrev pub lines_left : Lines → List Line
lines_left lines = lines_in lines.entries.now (map spelled_by lines.lists.now)

-- the trains beside the entry at hand
abbrev pub beside : Lines → List ℕ
beside lines = lines.trains.items

-- the next line, and the lines behind it; the trains beside the entry are those of the line
pub record IsNextLine (old : Lines) (entry : Entry) (new : Lines) : Type 0 where
  pub brings : brought entry.what (beside new) ≡ beside new
  pub next : lines_left old ≡ line_of entry (beside new) ∷ lines_left new

-- the next line is given, or none is left now or later
abbrev pub GivesLine : Lines → Option Entry → Lines → Type 0
GivesLine old None new = (lines_left old ≡ []) × (lines_left new ≡ [])
GivesLine old (Some entry) new = IsNextLine old entry new
