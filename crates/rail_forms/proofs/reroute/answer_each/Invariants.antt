use Rattle.std.proofs.Common.{take}
use Rattle.rail_reroute.specs.Judges.{IsJudgeFor}
use Rattle.rail_forms.specs.Reroutes.{AreAnswered}
use Rattle.rail_forms.proofs.reroute.answer_each.Given as goal

abbrev pub invariant-loop-proposal : goal.invariant-loop-proposal
invariant-loop-proposal l = record {
  own : IsJudgeFor l.scene l.judge;
  answered : AreAnswered l.scene l.positions (take l.proposal-index l.proposals) l.answers.items;
}
