use Rattle.std.proofs.Common.{◌-◌, ◌∙◌, arith}
use Rattle.std.specs.Option.{unwrap_or}
use Rattle.rail_block.proofs.Taken.{taken_or_timed}
use Rattle.rail_block.proofs.moves.KnownOver.end_time.Goals as goal

pub returns : goal.returns
returns c = λ adms h.
    let own = c.args.self.now in
    let timer = c.timer_end-timer.ensures.time adms h in
    let taken = c.taken_at.ensures adms c.args.times.now h timer in
    c.unwrap_or.ensures ∙ (λ k. unwrap_or (taken k) (timer k))
    ∙ taken_or_timed own.of.now.plant.now own.of.now.train adms (own.of.now.place - 1) (own.step - 1) (omega (arith, own.behind))
