-- An editor: its network, the edits that led to it, and the undone edits.
use Rattle.std.specs.Prelude.{◌≡◌, nat_le, cond, List, [], ◌∷◌, Option, Some, None, length}
use Rattle.rail_base.specs.Limits.{most, Edits}
use Rattle.rail_base.specs.declared.refusals.Reason.TheVariants.{TooMany}
use Rattle.rail_track.specs.declared.section.NetFault.{NetFault}
use Rattle.rail_track.specs.declared.section.NetFault.TheVariants.{Refused}
use Rattle.rail_routes.specs.Net.{Net}
use Rattle.rail_routes.specs.SoundNetworks.{IsSoundNetwork}
use Rattle.rail_edit.specs.declared.edit.Edit.{Edit}
use Rattle.rail_edit.specs.Edits.{edited, edit_refusal}

-- an edit that was made: the network before it, and the edit
pub record Made : Type 0 where
  pub before : Net
  pub edit : Edit

-- an editor: its network, the edits that are not undone, the last first, and the undone ones, the last undone first
pub record Editing : Type 0 where
  pub network : Net
  pub made : List Made
  pub undone : List Edit

-- an editor of the network, without edits
abbrev pub editing : Net → Editing
editing net = record { network = net; made = []; undone = [] }

-- the edit leads from the one sound network, which accepts it, to the other
pub record IsStep (before : Net) (edit : Edit) (after : Net) : Type 0 where
  pub sound : IsSoundNetwork before
  pub accepted : edit_refusal edit before ≡ None
  pub edited : after ≡ edited edit before

-- each edit leads from the network before it to the next, and the last one to this network
abbrev pub IsHistory : Net → List Made → Type 0
IsHistory net [] = Unit {0}
IsHistory net (m ∷ ms) = IsStep m.before m.edit net × IsHistory m.before ms

-- the network accepts these edits, one after the other, and stays sound
abbrev pub Accepts : Net → List Edit → Type 0
Accepts net [] = Unit {0}
Accepts net (e ∷ es) = (edit_refusal e net ≡ None) × IsSoundNetwork (edited e net) × Accepts (edited e net) es

-- an editor stands: its edits led to its network, and the undone ones can be made again
pub record Stands (e : Editing) : Type 0 where
  pub history : IsHistory e.network e.made
  pub again : Accepts e.network e.undone

-- why an editor refuses an edit: too many are kept, or the network refuses it
abbrev pub refusal : Edit → Editing → Option NetFault
refusal edit e = cond (nat_le (most Edits) (length e.made)) (Some (Refused TooMany 0)) (edit_refusal edit e.network)

-- the editor after an edit
abbrev pub after_edit : Edit → Editing → Editing
after_edit edit e = record { network = edited edit e.network; made = record { before = e.network; edit = edit } ∷ e.made; undone = [] }

-- the network before the last of these edits, which goes to the undone ones
abbrev pub undone_once : List Made → List Edit → Option Editing
undone_once [] es = None
undone_once (m ∷ ms) es = Some record { network = m.before; made = ms; undone = m.edit ∷ es }

-- the editor after the last edit is undone
abbrev pub after_undo : Editing → Option Editing
after_undo e = undone_once e.made e.undone

-- the network after the last undone edit, which goes to the edits
abbrev pub redone_once : Net → List Made → List Edit → Option Editing
redone_once net ms [] = None
redone_once net ms (e ∷ es) = Some record { network = edited e net; made = record { before = net; edit = e } ∷ ms; undone = es }

-- the editor after the last undone edit is made again
abbrev pub after_redo : Editing → Option Editing
after_redo e = redone_once e.network e.made e.undone

-- the network before the first of these edits
abbrev pub first_of : Net → List Made → Net
first_of net [] = net
first_of net (m ∷ ms) = first_of m.before ms

-- the network that an editor began with
abbrev pub first_network : Editing → Net
first_network e = first_of e.network e.made
