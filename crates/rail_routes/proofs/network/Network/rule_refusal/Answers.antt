use Rattle.std.proofs.Common.{◌≡◌, ap, ◌∙◌, sym, Some, None}
use Rattle.std.specs.Option.{option_or}
use Rattle.rail_base.specs.FirstRefusals.{first_failing}
use Rattle.rail_routes.specs.Net.{Net}
use Rattle.rail_routes.specs.RouteRules.{misses_section, repeat_tests, way_from}
use Rattle.rail_routes.proofs.Leading.{rules_from, rules_to, rules_astray, rules_over_astray, rules_way}
use Rattle.rail_routes.proofs.network.Network.rule_refusal.Goals as goal

pub returns-in_default : goal.returns-in_default
returns-in_default c = c.refused.ensures ∙ sym (rules_from c.args.self.now c.args.route.now (sym c.in_default.ensures))

pub returns-in_default-post : goal.returns-in_default-post
returns-in_default-post c = c.refused-in_default-post.ensures ∙ sym (rules_to c.args.self.now c.args.route.now c.in-Some.begin (sym c.in-Some.ensures) (sym c.in_default-post.ensures))

pub returns-then-misses_section : goal.returns-then-misses_section
returns-then-misses_section c =
    let net = c.args.self.now in
    let missing = ap (misses_section net.sections) (sym c.as_slice-steps.ensures) ∙ sym c.if-misses_section.ensures in
    c.refused-then-misses_section.ensures ∙ sym (rules_astray net c.args.route.now c.in-Some.begin (sym c.in-Some.ensures) c.in-Some-post.end (sym c.in-Some-post.ensures) missing)

pub returns-then-misses_section-2 : goal.returns-then-misses_section-2
returns-then-misses_section-2 c =
    let net = c.args.self.now in
    let fine = ap (misses_section net.sections) (sym c.as_slice-steps.ensures) ∙ sym c.if-misses_section.ensures in
    let missing = ap (misses_section net.sections) (sym c.as_slice-overlap.ensures) ∙ sym c.if-misses_section-2.ensures in
    c.refused-then-misses_section-2.ensures ∙ sym (rules_over_astray net c.args.route.now c.in-Some.begin (sym c.in-Some.ensures) c.in-Some-post.end (sym c.in-Some-post.ensures) fine missing)

pub returns-in-Some-repeat_refusal : goal.returns-in-Some-repeat_refusal
returns-in-Some-repeat_refusal c =
    let net = c.args.self.now in
    let route = c.args.route.now in
    let begin = c.in-Some.begin in
    let end = c.in-Some-post.end in
    let fine = ap (misses_section net.sections) (sym c.as_slice-steps.ensures) ∙ sym c.if-misses_section.ensures in
    let over_fine = ap (misses_section net.sections) (sym c.as_slice-overlap.ensures) ∙ sym c.if-misses_section-2.ensures in
    let repeated : first_failing (repeat_tests route.steps route.overlap) ≡ Some c.in-Some-repeat_refusal.fault = sym (λ i. first_failing (repeat_tests (c.as_slice-steps.ensures i) (c.as_slice-overlap.ensures i))) ∙ sym c.in-Some-repeat_refusal.ensures in
    sym (rules_way net route begin (sym c.in-Some.ensures) end (sym c.in-Some-post.ensures) fine over_fine ∙ ap (λ o. option_or o (first_failing (way_from begin end net.sections route.steps route.overlap))) repeated)

pub returns-in-None : goal.returns-in-None
returns-in-None c =
    let net = c.args.self.now in
    let route = c.args.route.now in
    let begin = c.in-Some.begin in
    let end = c.in-Some-post.end in
    let fine = ap (misses_section net.sections) (sym c.as_slice-steps.ensures) ∙ sym c.if-misses_section.ensures in
    let over_fine = ap (misses_section net.sections) (sym c.as_slice-overlap.ensures) ∙ sym c.if-misses_section-2.ensures in
    let fresh : first_failing (repeat_tests route.steps route.overlap) ≡ None = sym (λ i. first_failing (repeat_tests (c.as_slice-steps.ensures i) (c.as_slice-overlap.ensures i))) ∙ sym c.in-None.ensures in
    let way = c.way_refusal.ensures ∙ (λ i. first_failing (way_from begin end (ap (λ (n : Net). n.sections) c.self.view_is i) (c.as_slice-steps.ensures i) (c.as_slice-overlap.ensures i))) in
    way ∙ sym (rules_way net route begin (sym c.in-Some.ensures) end (sym c.in-Some-post.ensures) fine over_fine ∙ ap (λ o. option_or o (first_failing (way_from begin end net.sections route.steps route.overlap))) fresh)
