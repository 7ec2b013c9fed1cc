use Rattle.std.proofs.Common.{List, Option, sym, ap, ◌∙◌, subst, map, arith}
use Rattle.std.proofs.lemmas.List.{length-map}
use Rattle.rail_base.specs.declared.plant.Call.{Call}
use Rattle.rail_rules.specs.RunHistories.{call_departure}
use Rattle.rail_plan.specs.CallTables.{AreCallsFor, call_at}
use Rattle.rail_plan.proofs.CallRows.{calls_in, none_called, room_for, none_made}
use Rattle.rail_plan.proofs.calls.Calls.new.Goals as goal

pub returns-clause-empty : goal.returns-clause-empty
returns-clause-empty c = c.in_ok-rows.ensures ∙ ap (map room_for) c.trains.ensures.rows

pub returns-clause-made : goal.returns-clause-made
returns-clause-made c =
    let P : List (List (Option Call)) → Type 0 = λ calls. AreCallsFor c.args.plant.now.tables calls in
    subst P (sym (returns-clause-empty c)) (none_made c.args.plant.now.tables)

pub returns-clause-free : goal.returns-clause-free
returns-clause-free c =
    λ t place. ap (λ calls. call_at calls t place) (returns-clause-empty c) ∙ none_called c.args.plant.now.tables t place

pub invariant_of-result : goal.invariant_of-result
invariant_of-result c = record {
  long = omega (arith, c.in_ok-lasts.ensures.len, c.len.ensures, length-map c.in_ok-rows.rows.items calls_in);
  none = λ t place behind. ap call_departure (returns-clause-free c t place);
}
