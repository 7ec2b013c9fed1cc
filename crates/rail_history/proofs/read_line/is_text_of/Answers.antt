use Rattle.std.proofs.Common.{◌≡◌, ℕ, List, true, sym, subst}
use Rattle.rail_rules.specs.WritableLines.{is_writable}
use Rattle.rail_history.specs.LineReads.{line_read}
use Rattle.rail_history.specs.Lines.{line_of}
use Rattle.rail_history.proofs.LineRead.{can_write, some_plant}
use Rattle.rail_history.proofs.read_line.is_text_of.Goals as goal

pub write_entry-requires : goal.write_entry-requires
write_entry-requires c =
    let some = some_plant c.args.names.now in
    let P : List ℕ → Type 0 = λ list. is_writable some.0 (line_of c.args.line.now.entry list) ≡ true in
    (some.0, some.1, subst P (sym c.as_slice.ensures.value) (can_write some.0 (line_read c.args.line.now) (c.requires some.0 some.1)))
