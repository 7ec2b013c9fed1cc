use Rattle.std.proofs.Common.{◌≡◌, ℕ, ◌-◌, ◌<◌, ◌≤◌, None, List, get_or, length, ap, arith, sym, ◌∙◌}
use Rattle.std.proofs.lemmas.Grind.{get_or_default_zero}
use Rattle.std.proofs.lemmas.List.{length-map}
use Rattle.rail_rules.specs.RunHistories.{call_departure}
use Rattle.rail_plan.specs.CallTables.{call_at}
use Rattle.rail_plan.proofs.CallRows.{calls_in, departure_later, no_departure, none_within}
use Rattle.rail_plan.proofs.calls.Calls.first_departure.Goals as goal

pub returns-then-from-len : goal.returns-then-from-len
returns-then-from-len c =
    let long : length c.args.self.now ≡ length c.self.inside.rows.items = ap length (sym c.self.view_is) ∙ length-map c.self.inside.rows.items calls_in in
    let past : length c.args.self.now ≤ c.args.train = omega (arith, long, c.len.ensures, c.from.ensures, c.if-from-len.true) in
    sym (no_departure c.args.self.now c.args.train (c.args.from - 1) (c.args.to - c.args.from) past)

pub loop-place-preserved : goal.loop-place-preserved
loop-place-preserved c =
    c.loop-place.invariant
    ∙ departure_later c.args.self.now c.args.train c.loop-place.place c.args.to c.departure-departure.result (omega (arith, c.requires)) c.loop-place-test.true c.departure-departure.ensures (sym c.is_some.ensures ∙ c.if-is_some.false)

pub returns-then-last-place : goal.returns-then-last-place
returns-then-last-place c =
    let t = c.args.train in
    let lasts : List ℕ = c.self.inside.lasts.items in
    let read : ℕ = c.index-last.result.now in
    let known : c.from-2.result < length lasts = omega (arith, c.self.invariant.long, length-map c.self.inside.rows.items calls_in, c.len.ensures, c.from.ensures, c.from-2.ensures, c.if-from-len.false) in
    let last : read ≡ get_or lasts t 0 = c.index-last.ensures ∙ get_or_default_zero lasts c.from-2.result read known ∙ ap (λ k. get_or lasts k 0) (c.from-2.ensures ∙ c.train.view_is) in
    let none : (q : ℕ) → get_or c.self.inside.lasts.items t 0 < q → call_departure (call_at c.args.self.now t q) ≡ None = λ q behind.
    ap (λ calls. call_departure (call_at calls t q)) (sym c.self.view_is) ∙ c.self.invariant.none t q behind in
    sym (c.loop-place.invariant ∙ none_within c.args.self.now t (c.loop-place.place - 1) (c.args.to - c.loop-place.place) (λ q behind. none q (omega (arith, behind, last, c.if-last-place.true, c.requires))))
