use Rattle.std.proofs.Common.{◌-◌, length, ap, arith}
use Rattle.rail_base.specs.declared.plant.MoveRow.{MoveRow}
use Rattle.rail_rules.proofs.CallerLemmas.{claims_are}
use Rattle.rail_stairs.proofs.steps.claims_of.Goals as goal

pub returns-clause-claims : goal.returns-clause-claims
returns-clause-claims c =
    let known = c.args.known.now in
    omega (
      arith,
      claims_are known.plant.now known.train (known.place - 1),
      ap (λ (r : MoveRow). length r.sections) c.row-row.ensures.row,
      ap (λ (r : MoveRow). length r.overlap) c.row-row.ensures.row,
      ap length c.as_slice-steps.ensures,
      ap length c.as_slice-over.ensures,
    )
