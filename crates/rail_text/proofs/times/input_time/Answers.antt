use Rattle.std.proofs.Common.{◌≡◌, ℕ, ◌≤◌, ◌<◌, None, List, sym, ◌∙◌, arith, rules}
use Rattle.rail_base.specs.declared.limits.TheConstants.{INPUT_TIME}
use Rattle.rail_text.proofs.TimeWords.{reads_none, reads_some}
use Rattle.rail_text.proofs.times.input_time.Goals as goal

pub returns-in_err-time : goal.returns-in_err-time
returns-in_err-time c =
    let word : List ℕ = c.args.word.now in
    let none : c.from_residual.result ≡ None = search rules in
    none ∙ sym (reads_none word (c.a_text_stands_for_one_time.ensures word) (λ (time : ℕ) small is. c.in_err-time.ensures time is))

pub returns-then-time-le-INPUT_TIME : goal.returns-then-time-le-INPUT_TIME
returns-then-time-le-INPUT_TIME c =
    let word : List ℕ = c.args.word.now in
    let small : c.in_ok-time.time ≤ INPUT_TIME = omega (arith, c.time.view_is, c.if-time-le-INPUT_TIME.true) in
    sym (reads_some word (c.a_text_stands_for_one_time.ensures word) c.in_ok-time.time small c.in_ok-time.ensures)

pub returns-else-time-le-INPUT_TIME : goal.returns-else-time-le-INPUT_TIME
returns-else-time-le-INPUT_TIME c =
    let word : List ℕ = c.args.word.now in
    let late : INPUT_TIME < c.in_ok-time.time = omega (arith, c.time.view_is, c.if-time-le-INPUT_TIME.false) in
    sym (reads_none word (c.a_text_stands_for_one_time.ensures word) (λ (time : ℕ) small is. absurd (let same : time ≡ c.in_ok-time.time = c.a_text_stands_for_one_time.ensures word time c.in_ok-time.time is c.in_ok-time.ensures in omega arith)))
