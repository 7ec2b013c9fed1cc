use Rattle.std.proofs.Common.{[], ◌∷◌, Some, None, cond, sym, ap, ◌∙◌}
use Rattle.toml.specs.View.{view}
use Rattle.rail_base.specs.declared.refusals.Reason.TheVariants.{KeyUnknown}
use Rattle.rail_track.specs.declared.section.NetFault.TheVariants.{Refused}
use Rattle.rail_track.specs.NetFaults.{refused_where}
use Rattle.rail_scene.specs.Forms.{key_tests, has_unknown}
use Rattle.rail_scene.proofs.Segments.{passed_on, stopped}
use Rattle.rail_scene.proofs.forms.form_fault.Goals as goal

pub returns-in-Some : goal.returns-in-Some
returns-in-Some c =
    let keys = c.args.keys.now in
    let node = view c.args.table.now in
    sym (stopped (key_tests 1 keys node) (refused_where KeyUnknown 0 (has_unknown keys node) ∷ []) c.in-Some.fault (sym c.in-Some.ensures))

pub returns-then-has_unknown : goal.returns-then-has_unknown
returns-then-has_unknown c =
    let keys = c.args.keys.now in
    let node = view c.args.table.now in
    ap (λ b. cond b (Some (Refused KeyUnknown 0)) None) c.if-has_unknown.ensures ∙ sym (passed_on (key_tests 1 keys node) (refused_where KeyUnknown 0 (has_unknown keys node) ∷ []) (sym c.in-None.ensures))

pub returns-else-has_unknown : goal.returns-else-has_unknown
returns-else-has_unknown c =
    let keys = c.args.keys.now in
    let node = view c.args.table.now in
    ap (λ b. cond b (Some (Refused KeyUnknown 0)) None) c.if-has_unknown.ensures ∙ sym (passed_on (key_tests 1 keys node) (refused_where KeyUnknown 0 (has_unknown keys node) ∷ []) (sym c.in-None.ensures))
