-- How an editor is stored: its network, and of each edit only what takes it back.
use Rattle.std.specs.Prelude.{◌+◌, ◌≤◌, List, [], ◌∷◌, length, reverse}
use Rattle.rail_base.specs.Limits.{most, Edits}
use Rattle.rail_routes.specs.Net.{Net}
use Rattle.rail_edit.specs.declared.edit.Kept.{Kept}
use Rattle.rail_edit.specs.declared.editor.Editor.TheInside.{Inside}
use Rattle.rail_edit.specs.Inverses.{taken_back, Fits, edit_of}
use Rattle.rail_edit.specs.Editing.{Made, Editing, Stands}

-- the edits that led to this network, by what is kept of them, the last first
abbrev pub made_from : Net → List Kept → List Made
made_from net [] = []
made_from net (k ∷ ks) = record { before = taken_back k net; edit = edit_of k net } ∷ made_from (taken_back k net) ks

-- what is kept of each edit fits the network after it
abbrev pub AllFit : Net → List Kept → Type 0
AllFit net [] = Unit {0}
AllFit net (k ∷ ks) = Fits k net × AllFit (taken_back k net) ks

-- the editor as contracts see it
abbrev pub editing_of : Inside → Editing
editing_of a = record { network = a.network; made = made_from a.network (reverse a.done.items); undone = reverse a.undone.items }

-- the editor stands, what it keeps fits, and it keeps few enough edits
pub record IsEditorInside (a : Inside) : Type 0 where
  pub stands : Stands (editing_of a)
  pub fit : AllFit a.network (reverse a.done.items)
  pub few : length a.done.items + length a.undone.items ≤ most Edits
