use Rattle.std.proofs.Common.{◌<◌, length, arith}
use Rattle.std.proofs.lemmas.Bool.Decides.{nat_tests}
use Rattle.rail_edit.proofs.Stacks.{never_nothing}
use Rattle.rail_edit.proofs.editor.Editor.undo.Goals as goal

pub returns-then-is_err-clause-nothing : goal.returns-then-is_err-clause-nothing
returns-then-is_err-clause-nothing c =
    let some : 0 < length c.self.inside.done.items = grind (arith, nat_tests, c.is_empty.ensures, c.if-is_empty.false) in
    ((λ e. cc), (λ none. absurd (never_nothing c.self.inside c.args.self.now c.self.view_is some none)))
