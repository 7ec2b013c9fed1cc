use Rattle.std.proofs.Common.{◌≡◌, true, ◌&&◌, Some, List, ℕ, length, nat_le, le-leb, sym, ap, ◌∙◌, arith, option_and_then}
use Rattle.toml.specs.Data.{as_str}
use Rattle.toml.specs.View.{view}
use Rattle.rail_base.specs.declared.limits.TheConstants.{INPUT_TIME, ITINERARY_ROUTES}
use Rattle.rail_base.specs.Limits.{is_from_one}
use Rattle.rail_scene.specs.declared.keys.TheConstants.{ENTRY, TRAIN_KEYS}
use Rattle.rail_scene.specs.Fields.{text_at, time_at, time_up_to}
use Rattle.rail_scene.proofs.MemberWalk.{at_key}
use Rattle.rail_scene.proofs.Times.{time_within}
use Rattle.rail_scene.proofs.entries.train.Goals as goal

pub returns-clause-fit : goal.returns-clause-fit
returns-clause-fit c =
    let node = view c.args.table.now in
    let entry = c.in_ok-entry.entry in
    let entry_is : time_at ENTRY node ≡ Some entry = ap (λ value. option_and_then (time_up_to INPUT_TIME) (option_and_then as_str value)) (sym (at_key TRAIN_KEYS c.values_of.result node 2 c.index-values_of-2.result ENTRY (omega arith) c.values_of.ensures)) ∙ c.in_ok-entry.ensures in
    let early : nat_le entry INPUT_TIME ≡ true = le-leb entry INPUT_TIME (time_within INPUT_TIME entry (text_at ENTRY node) entry_is) in
    let few : is_from_one ITINERARY_ROUTES (length c.from_vec.result) ≡ true = ap (λ (names : List (List ℕ)). is_from_one ITINERARY_ROUTES (length names)) c.from_vec.ensures ∙ c.in_ok-routes.ensures.count in
    λ i. early i && few i
