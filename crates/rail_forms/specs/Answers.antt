-- What a status says, and what the forms have in common.
use Rattle.std.specs.Prelude.{◌≡◌, ℕ, List, Option, Some, None}
use Rattle.rail_base.specs.declared.refusals.Refusal.{Refusal}
use Rattle.rail_base.specs.declared.refusals.Fault.{Fault}
use Rattle.rail_base.specs.declared.refusals.Fault.TheVariants as fault
use Rattle.rail_io.specs.Writes.{Adds, AddsPrefix}
use Rattle.rail_forms.specs.declared.status.Status.{Status}
use Rattle.rail_forms.specs.declared.status.Status.TheVariants.{Done, Usage, Refused, ReadFault, WriteFault, OutOfMemory, CheckedNo}

-- what the files of each name hold, where it is told
abbrev pub Told : Type 0
Told = List ℕ → Option (List ℕ)

-- what a status says: a refusal is the first one; where nothing is refused all is written, or a first part of it
-- where a write failed; a fault of reading and want of memory may stand in place of any answer
abbrev pub IsAnswer : Option Refusal → Type 0 → Type 0 → Status → Type 0
IsAnswer first whole part Done = (first ≡ None) × whole
IsAnswer first whole part Usage = ⊥
IsAnswer first whole part (Refused refusal) = first ≡ Some refusal
IsAnswer first whole part ReadFault = Unit {0}
IsAnswer first whole part WriteFault = (first ≡ None) × part
IsAnswer first whole part OutOfMemory = Unit {0}
IsAnswer first whole part (CheckedNo line law) = ⊥

-- what the first refusal of a part of the input decides, whatever the rest is: where it is one, nothing is written and
-- no other refusal is told
abbrev pub Decides : Option Refusal → Status → Type 0
Decides None status = Unit {0}
Decides (Some first) Done = ⊥
Decides (Some first) (Refused refusal) = refusal ≡ first
Decides (Some first) WriteFault = ⊥
Decides (Some first) (CheckedNo line law) = ⊥
Decides (Some first) status = Unit {0}

-- the same of a text, all of which is added, or a first part of it
abbrev pub IsTextAnswer : Option Refusal → List ℕ → Option (List ℕ) → Option (List ℕ) → Status → Type 0
IsTextAnswer first text before now status = IsAnswer first (Adds before now text) (AddsPrefix before now text) status

-- what a fault of reading an input ends with
abbrev pub status_of : Fault → Status
status_of (fault.Refused refusal) = Refused refusal
status_of fault.OutOfMemory = OutOfMemory
