use Rattle.std.proofs.Common.{ap, ◌∙◌, refl, arith}
use Rattle.rail_laws_verdict.specs.Verdicts.Verdict.{no}
use Rattle.rail_check.proofs.SoFar.{missing, whole}
use Rattle.rail_check.proofs.checker.Checker.end.Goals as goal

pub returns-in-Some : goal.returns-in-Some
returns-in-Some c = λ input lines so_far. ap (λ n. no n c.in-Some.law) (omega arith) ∙ missing input lines c.args.self.now so_far c.in-Some.law c.in-Some.ensures.missing

pub returns-in-None : goal.returns-in-None
returns-in-None c = λ input lines so_far. whole input lines c.args.self.now so_far (c.in-None.ensures.ended refl)
