use Rattle.std.proofs.Common.{◌≡◌, ℕ, ◌<◌, ◌≤◌, true, List, [], Option, get_or, is_some, length, map, max, set, sym, ap, ◌∙◌, subst, arith}
use Rattle.std.proofs.Math.Nat.{le-max_left, le-max_right}
use Rattle.std.proofs.lemmas.Bool.{false≢true}
use Rattle.std.proofs.lemmas.Grind.{get_or_default_zero}
use Rattle.std.proofs.lemmas.List.{length-map}
use Rattle.rail_base.specs.declared.plant.Call.{Call}
use Rattle.rail_plan.specs.CallTables.{AreCallsFor, AreLasts, with_call}
use Rattle.rail_plan.proofs.CallRows.{calls_in, lasts_more, set_view, set_made}
use Rattle.rail_plan.proofs.calls.Calls.set.Goals as goal
use Rattle.rail_plan.proofs.calls.Calls.set.Goals.{then-is_some, else-is_some}

pub returns-clause-set : goal.returns-clause-set
returns-clause-set c =
    let rows = c.self.inside.rows.items in
    let train : c.from.result ≡ c.args.train = c.from.ensures ∙ c.train.view_is in
    let within : c.from.result < length rows = omega (arith, c.requires.train, train, ap length c.self.view_is, length-map rows calls_in) in
    set_view rows c.from.result c.args.train c.index_mut-row.result.now c.from-2.result c.args.place c.args.call train within c.index_mut-row.ensures.value c.from-2.ensures
    ∙ ap (λ calls. with_call calls c.args.train c.args.place c.args.call) c.self.view_is

pub returns-clause-made : goal.returns-clause-made
returns-clause-made c =
    λ tables made fine.
    let P : List (List (Option Call)) → Type 0 = λ calls. AreCallsFor tables calls in
    subst P (sym (returns-clause-set c)) (set_made tables c.args.self.now c.args.train c.args.place c.args.call made c.requires.train c.requires.first c.requires.last fine)

pub invariant_of-self : goal.invariant_of-self
invariant_of-self c =
    let rows = c.self.inside.rows.items in
    let lasts : List ℕ = c.self.inside.lasts.items in
    let calls : List (List (Option Call)) = map calls_in rows in
    let long : length calls ≡ length c.args.self.now = ap length c.self.view_is in
    let train : c.from.result ≡ c.args.train = c.from.ensures ∙ c.train.view_is in
    let third : c.from-3.result ≡ c.args.train = c.from-3.ensures ∙ c.train.view_is in
    let within : c.from.result < length rows = omega (arith, c.requires.train, train, long, length-map rows calls_in) in
    let seen = set_view rows c.from.result c.args.train c.index_mut-row.result.now c.from-2.result c.args.place c.args.call train within c.index_mut-row.ensures.value c.from-2.ensures in
    let last = c.max.result in
    let P : List (List (Option Call)) → Type 0 = λ v. AreLasts v (set lasts c.from-3.result last) in
    let Q : ℕ → Type 0 = λ k. AreLasts (with_call calls c.args.train c.args.place c.args.call) (set lasts k last) in
    let own = c.if-is_some.reached in
    let old = c.index_mut-last.result.now in
    let most : last ≡ max own old = c.max.ensures in
    let reached : is_some c.args.call.departure ≡ true → c.args.place ≤ last = λ some.
    elim c.if-is_some.branch [
      | then-is_some w ↦ omega (arith, most, w.reached-is, le-max_left own old)
      | else-is_some w ↦ absurd (false≢true (sym w.if-is_some.false ∙ c.is_some.ensures ∙ some))
    ] in
    let known : c.from-3.result < length lasts = omega (arith, third, c.requires.train, long, c.self.invariant.long) in
    let was : old ≡ get_or lasts c.from-3.result 0 = c.index_mut-last.ensures.value ∙ get_or_default_zero lasts c.from-3.result old known in
    let held : get_or lasts c.args.train 0 ≤ last = omega (arith, most, le-max_right own old, was, ap (λ k. get_or lasts k 0) third) in
    subst P (sym seen) (subst Q (sym third) (lasts_more calls lasts c.args.train c.args.place last c.args.call c.self.invariant (omega (arith, c.requires.train, long)) c.requires.first (omega (arith, c.requires.last, ap (λ (v : List (List (Option Call))). length (get_or v c.args.train [])) c.self.view_is)) held reached))
