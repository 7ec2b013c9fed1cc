-- Which turns are accepted.
use Rattle.std.specs.Prelude.{Bool, not, ◌&&◌, List, [], ◌∷◌, Option, length, nat_le}
use Rattle.std.specs.List.{list_any}
use Rattle.rail_base.specs.NameForms.{same_name}
use Rattle.rail_base.specs.Limits.{most, Turns, TurnTime}
use Rattle.rail_base.specs.declared.refusals.Reason.TheVariants.{TooMany, Range, Repeated, Unknown, PostPlace}
use Rattle.rail_track.specs.declared.section.NetFault.{NetFault}
use Rattle.rail_base.specs.FirstRefusals.{Test, first_failing}
use Rattle.rail_track.specs.NetFaults.{refused_where}
use Rattle.rail_routes.specs.declared.items.Turn.{Turn}
use Rattle.rail_routes.specs.Net.{Net, posts, is_post, is_turn}

-- a turn arrives at a signal or board and leaves from another post, which is a signal
abbrev pub turns_well : Net → Turn → Bool
turns_well net turn =
    not (list_any (is_post turn.arriving) net.portals)
    && list_any (is_post turn.leaving) net.signals
    && not (same_name turn.arriving turn.leaving)

-- the tests of a new turn, in their order
abbrev pub turn_tests : Net → Turn → List (Test NetFault)
turn_tests net turn =
    refused_where TooMany 0 (nat_le (most Turns) (length net.turns))
    ∷ refused_where Range 3 (not (nat_le turn.time (most TurnTime)))
    ∷ refused_where Repeated 1 (list_any (is_turn turn.arriving turn.leaving) net.turns)
    ∷ refused_where Unknown 1 (not (list_any (is_post turn.arriving) (posts net)))
    ∷ refused_where Unknown 2 (not (list_any (is_post turn.leaving) (posts net)))
    ∷ refused_where PostPlace 0 (not (turns_well net turn))
    ∷ []

-- why a new turn is refused
abbrev pub turn_refusal : Net → Turn → Option NetFault
turn_refusal net turn = first_failing (turn_tests net turn)
