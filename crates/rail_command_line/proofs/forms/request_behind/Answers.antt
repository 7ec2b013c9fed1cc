use Rattle.std.proofs.Common.{ap, sym, ◌∙◌}
use Rattle.rail_command_line.specs.Forms.{form_named}
use Rattle.rail_command_line.proofs.Spelling.{asked_behind}
use Rattle.rail_command_line.proofs.forms.request_behind.Goals as goal

pub returns : goal.returns
returns c = asked_behind c.args.verb.now c.args.words.now c.in_ok-form.form c.request_with.result
    (ap form_named (sym c.as_str.ensures) ∙ sym c.form_named.ensures ∙ c.in_ok-form.was) c.request_with.ensures
