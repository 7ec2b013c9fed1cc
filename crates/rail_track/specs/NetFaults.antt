-- Refusals of the items of a network.
use Rattle.std.specs.Prelude.{ℕ, Bool, Option, Some, None}
use Rattle.rail_base.specs.FirstRefusals.{IsFirstRefusal, Test}
use Rattle.rail_base.specs.declared.refusals.Reason.{Reason}
use Rattle.rail_track.specs.declared.section.NetFault.{NetFault}
use Rattle.rail_track.specs.declared.section.NetFault.TheVariants.{Refused, OutOfMemory}

-- a refusal for this reason at this step, wherever the last argument is true
abbrev pub refused_where : Reason → ℕ → Bool → Test NetFault
refused_where reason step fails = record { answer = Refused reason step; fails = fails }

-- the refusal that a fault is
abbrev pub refusal_in : NetFault → Option NetFault
refusal_in (Refused reason step) = Some (Refused reason step)
refusal_in OutOfMemory = None

-- a fault answers the first refusal
abbrev pub Answers : Option NetFault → NetFault → Type 0
Answers first fault = IsFirstRefusal first (refusal_in fault)
