use Rattle.std.proofs.Common.{Option, sym, subst, ◌∙◌, arith}
use Rattle.rail_track.specs.declared.section.NetFault.{NetFault}
use Rattle.rail_track.specs.NetFaults.{Answers}
use Rattle.rail_edit.proofs.Stacks.{refused_full, refused_as}
use Rattle.rail_edit.proofs.editor.Editor.apply.Goals as goal

pub returns-then-len-ge-EDITS-clause-refused : goal.returns-then-len-ge-EDITS-clause-refused
returns-then-len-ge-EDITS-clause-refused c = refused_full c.self.inside c.args.self.now c.self.view_is c.args.edit (omega (arith, c.len.ensures, c.if-len-ge-EDITS.true))

pub returns-in-Ok-clause-accepted : goal.returns-in-Ok-clause-accepted
returns-in-Ok-clause-accepted c = refused_as c.self.inside c.args.self.now c.self.view_is c.args.edit (omega (arith, c.len.ensures, c.if-len-ge-EDITS.false)) ∙ c.in-Ok.ensures.accepted

pub returns-in-Err-clause-refused : goal.returns-in-Err-clause-refused
returns-in-Err-clause-refused c =
    let as_network = refused_as c.self.inside c.args.self.now c.self.view_is c.args.edit (omega (arith, c.len.ensures, c.if-len-ge-EDITS.false)) in
    subst (λ (o : Option NetFault). Answers o c.in-Err.fault) (sym as_network) c.in-Err.ensures.refused
