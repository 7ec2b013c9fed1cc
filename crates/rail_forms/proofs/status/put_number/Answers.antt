use Rattle.std.proofs.Common.{ap, length, decimal, arith}
use Rattle.std.proofs.lemmas.Fmt.{length-decimal-le}
use Rattle.std.proofs.lemmas.List.{length-append}
use Rattle.rail_forms.proofs.status.put_number.Goals as goal

pub returns-clause-short : goal.returns-clause-short
returns-clause-short c = omega (
  arith,
  length-decimal-le 10 c.args.number (omega arith) (omega (arith, c.ranges.number.fits)) (omega (arith, c.ranges.number.fits)),
  ap (λ n. length (decimal n)) c.from.ensures,
  simp length-append at (ap length c.put_number.ensures.text),
)
