-- The files of a run, one after another.
use Rattle.std.proofs.Common.{◌≡◌, ◌<◌, ◌≤◌, true, length, Option, None, Result, Ok, Err, IfErr, ap}
use Rattle.std.proofs.lemmas.Bool.{and_from, lt-ltb, le-leb}
use Rattle.rail_base.specs.Limits.{is_from_one, most, Commands, Policies}
use Rattle.rail_base.specs.declared.refusals.Refusal.{Refusal}
use Rattle.rail_rules.specs.Accepted.{are_commands_in_range, are_distinct_names, is_accepted, is_accepted_input}
use Rattle.rail_rules.specs.Numbers.{or_else}
use Rattle.rail_rules.specs.Orders.{Input}

-- where the first refusal is none, the second decides
pub behind_none : (first second : Option Refusal) → first ≡ None → or_else first second ≡ second
behind_none first second none = ap (λ refused. or_else refused second) none

-- an input that may be run
pub fine_input : (input : Input) → is_accepted input.plant ≡ true → length input.commands ≤ most Commands → are_commands_in_range input.plant 0 input.commands ≡ true
    → is_from_one (most Policies) (length input.deck) ≡ true → are_distinct_names input.deck ≡ true → input.force < length input.deck → is_accepted_input input ≡ true
fine_input input plant few commands policies distinct force =
    and_from _ _ (and_from _ _ (and_from _ _ (and_from _ _ (and_from _ _ plant (le-leb _ _ few)) commands) policies) distinct) (lt-ltb _ _ force)

-- what holds of each fault that answers so holds of the fault of a result
pub each_fault : {X E : Type 0} (result : Result X E) (P Q : E → Type 0) → ((fault : E) → P fault → Q fault) → IfErr result P → IfErr result Q
each_fault (Ok done) P Q each is = tt
each_fault (Err fault) P Q each is = each fault is
