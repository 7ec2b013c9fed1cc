use Rattle.std.proofs.Common.{◌≡◌, ℕ, ◌≤◌, ◌<◌, None, List, sym, subst, ◌∙◌, arith, rules}
use Rattle.rail_base.specs.Clock.{IsLenientTime}
use Rattle.rail_base.specs.declared.limits.TheConstants.{INPUT_TIME}
use Rattle.rail_scene.proofs.Times.{reads_none, reads_some, reads_late}
use Rattle.rail_scene.proofs.fields.entry_time.Goals as goal

pub returns-in_err-time : goal.returns-in_err-time
returns-in_err-time c =
    let text = c.args.text.now in
    let none : c.from_residual.result ≡ None = search rules in
    none ∙ sym (reads_none INPUT_TIME (omega arith) text (c.a_text_stands_for_one_time.ensures text) (λ (time : ℕ) is. c.in_err-time.ensures time (subst (λ (bytes : List ℕ). IsLenientTime bytes time) (sym c.as_bytes.ensures.value) is)))

pub returns-then-time-le-INPUT_TIME : goal.returns-then-time-le-INPUT_TIME
returns-then-time-le-INPUT_TIME c =
    let text = c.args.text.now in
    let small : c.in_ok-time.time ≤ INPUT_TIME = omega (arith, c.time.view_is, c.if-time-le-INPUT_TIME.true) in
    sym (reads_some INPUT_TIME (omega arith) text (c.a_text_stands_for_one_time.ensures text) c.in_ok-time.time (subst (λ (bytes : List ℕ). IsLenientTime bytes c.in_ok-time.time) c.as_bytes.ensures.value c.in_ok-time.ensures) small)

pub returns-else-time-le-INPUT_TIME : goal.returns-else-time-le-INPUT_TIME
returns-else-time-le-INPUT_TIME c =
    let text = c.args.text.now in
    let late : INPUT_TIME < c.in_ok-time.time = omega (arith, c.time.view_is, c.if-time-le-INPUT_TIME.false) in
    sym (reads_late INPUT_TIME (omega arith) text (c.a_text_stands_for_one_time.ensures text) c.in_ok-time.time (subst (λ (bytes : List ℕ). IsLenientTime bytes c.in_ok-time.time) c.as_bytes.ensures.value c.in_ok-time.ensures) late)
