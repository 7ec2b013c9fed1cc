use Rattle.std.proofs.Common.{arith}
use Rattle.rail_forms.proofs.Reroutings.{next_answered, ready_at}
use Rattle.rail_forms.proofs.reroute.answer_each.Goals as goal

pub answer_to-requires-clause-ready : goal.answer_to-requires-clause-ready
answer_to-requires-clause-ready c =
    ready_at c.args.scene.now c.args.proposals.now c.loop-proposal.proposal-index c.proposal-item.result (omega arith) c.proposal-item.is c.requires.ready

pub loop-proposal-preserved : goal.loop-proposal-preserved
loop-proposal-preserved c = record {
  own = c.answer_to.ensures.own;
  answered = next_answered c.args.scene.now c.args.positions.now c.args.proposals.now c.loop-proposal.proposal-index c.loop-proposal.answers.items c.push.new.answers.items c.proposal-item.result c.in_ok-answer.answer
      (omega arith) c.proposal-item.is c.loop-proposal.invariant.answered c.in_ok-push.ensures c.in_ok-answer.ensures.answered;
}
