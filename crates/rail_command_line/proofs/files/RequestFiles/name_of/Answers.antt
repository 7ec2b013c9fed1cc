use Rattle.std.proofs.Common.{None, Some, ap, refl, sym, ◌∙◌}
use Rattle.std.specs.Prelude.{option_and_then}
use Rattle.std.specs.Option.{option_copied}
use Rattle.std.proofs.lemmas.Option.{slice_get_read}
use Rattle.rail_command_line.proofs.FileLists.{name_of_role}
use Rattle.rail_command_line.proofs.files.RequestFiles.name_of.Goals as goal

pub returns-in_err-place : goal.returns-in_err-place
returns-in_err-place c = λ files are.
    ap option_copied c.from_residual.ensures ∙ name_of_role c.args.role c.args.self.now files are None (sym c.in_err-place.was ∙ c.place_of.ensures)

pub returns : goal.returns
returns c = λ files are.
    let there = c.in_ok-get.ensures.lookup in
    ap (option_and_then option_copied) (sym (slice_get_read c.args.self.now.names _ c.in_ok-place.place c.in_ok-get.field-0.now refl there.3.0 there.1))
    ∙ name_of_role c.args.role c.args.self.now files are (Some c.in_ok-place.place) (sym c.in_ok-place.was ∙ c.place_of.ensures)
