use Rattle.std.proofs.Common.{sym, subst, List, ℕ}
use Rattle.rail_text.specs.Writes.{WritesText}
use Rattle.rail_forms.proofs.InfraTexts.{infra_is}
use Rattle.rail_text.proofs.CallerLemmas.{both_written, part_written}
use Rattle.rail_forms.proofs.infra.write_scene.Goals as goal

pub returns-in_err-write_counts : goal.returns-in_err-write_counts
returns-in_err-write_counts g c =
    subst (λ (text : List ℕ). WritesText g.O.Sink c.args.out.now c.write_counts.new.out text c.from_residual.result) (sym (infra_is c.args.scene.now))
    (part_written g.O.Sink _ _ _ _ _ c.from_residual.result c.from_residual.ensures.0 c.in_err-write_counts.ensures)

pub returns : goal.returns
returns g c =
    subst (λ (text : List ℕ). WritesText g.O.Sink c.args.out.now c.write_routes.new.out text c.write_routes.result) (sym (infra_is c.args.scene.now))
    (both_written g.O.Sink _ _ _ _ _ c.write_routes.result c.in_ok-write_counts.ensures c.write_routes.ensures)
