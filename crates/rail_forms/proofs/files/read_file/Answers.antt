use Rattle.std.proofs.Common.{arith}
use Rattle.rail_forms.proofs.Answers.{short_enough}
use Rattle.rail_forms.proofs.files.read_file.Goals as goal

pub returns-in-Ok-clause-fits : goal.returns-in-Ok-clause-fits
returns-in-Ok-clause-fits g c = short_enough c.args.role c.in-Ok.bytes.items (omega (arith, c.in-Ok.ensures.within_limit, c.in-Ok.bytes.ok.0, c.most_bytes-limit.ensures.exact))
