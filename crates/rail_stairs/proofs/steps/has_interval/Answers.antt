use Rattle.std.proofs.Common.{◌-◌, sym, ap, ◌∙◌, subst, arith}
use Rattle.std.specs.Option.{option_copied}
use Rattle.rail_block.specs.KnownMoves.{AreTimesOf, taken_at, timed}
use Rattle.rail_block.specs.declared.moves.KnownMove.{KnownMove}
use Rattle.rail_rules.specs.Intervals.{timer_end}
use Rattle.rail_stairs.proofs.Has.{admitted_at, has_needed, has_taken, has_untaken}
use Rattle.rail_stairs.proofs.steps.has_interval.Goals as goal

pub returns-then-step-steps : goal.returns-then-step-steps
returns-then-step-steps c = λ adms h.
    let known = c.args.known.now in
    has_needed known.plant.now known.train adms (known.place - 1) (c.args.step - 1) (omega (arith, c.requires.first, c.if-step-steps.true, c.steps.ensures.steps))

pub returns-in-Some : goal.returns-in-Some
returns-in-Some c = λ adms h.
    let known = c.args.known.now in
    let over = c.new-over.ensures in
    let here = subst (λ (k : KnownMove). AreTimesOf k adms c.args.times.now (option_copied c.args.next)) (sym over.of) h in
    let timer = c.timer_end.ensures.time adms h ∙ ap (λ (k : KnownMove). timed timer_end k adms) (sym over.of) in
    let taken = sym c.in-Some.is ∙ c.taken_at.ensures adms c.args.times.now here timer
    ∙ (λ k. taken_at (over.of k).plant.now (over.of k).train adms ((over.of k).place - 1) (over.step k - 1)) in
    c.ne.ensures ∙ has_taken known.plant.now known.train adms (known.place - 1) (c.args.step - 1) c.in-Some.taken c.args.times.now.admitted taken (admitted_at known.plant.now known.train adms known.place known.first c.args.times.now h.times)

pub returns-in-None : goal.returns-in-None
returns-in-None c = λ adms h.
    let known = c.args.known.now in
    let over = c.new-over.ensures in
    let here = subst (λ (k : KnownMove). AreTimesOf k adms c.args.times.now (option_copied c.args.next)) (sym over.of) h in
    let timer = c.timer_end.ensures.time adms h ∙ ap (λ (k : KnownMove). timed timer_end k adms) (sym over.of) in
    let taken = sym c.in-None.is ∙ c.taken_at.ensures adms c.args.times.now here timer
    ∙ (λ k. taken_at (over.of k).plant.now (over.of k).train adms ((over.of k).place - 1) (over.step k - 1)) in
    has_untaken known.plant.now known.train adms (known.place - 1) (c.args.step - 1) taken
