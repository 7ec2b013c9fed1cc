use Rattle.std.proofs.Common.{true, arith}
use Rattle.rail_state.proofs.Counts.{count-all}
use Rattle.rail_state.proofs.run_state.push_deferred.Goals as goal

pub returns-in-Some-clause-room : goal.returns-in-Some-clause-room
returns-in-Some-clause-room c = omega (arith, count-all c.push.new.self.events, count-all c.args.queue.now.events, c.push.ensures.counted (λ e. true), c.push.ensures.spare)
