use Rattle.std.proofs.Common.{ℕ, List, ap}
use Rattle.std.specs.Prelude.{flat_map}
use Rattle.rail_insert.specs.declared.bars.Bar.{Bar}
use Rattle.rail_insert.specs.Texts.{bar_line, path_line}
use Rattle.rail_text.proofs.CallerLemmas.{both_written, part_written}
use Rattle.rail_insert.proofs.Written.{same_text}
use Rattle.rail_text.specs.Names.{names_in}
use Rattle.rail_insert.proofs.writing.write_copy.Goals as goal

pub returns-in_err-write_bars : goal.returns-in_err-write_bars
returns-in_err-write_bars g c =
    let lines : List Bar → List ℕ = λ xs. flat_map (bar_line (names_in c.args.names.now) c.args.train) xs in
    part_written g.O.Sink c.args.out.now c.write_bars.new.out (lines c.args.placed.now.bars.items) (path_line (names_in c.args.names.now) c.args.train c.args.number c.args.placed.now.begin) _
    c.from_residual.result c.from_residual.ensures.0
    (same_text g.O.Sink c.args.out.now c.write_bars.new.out (ap lines c.deref.ensures.value) c.in_err-write_bars.ensures)

pub returns : goal.returns
returns g c =
    let lines : List Bar → List ℕ = λ xs. flat_map (bar_line (names_in c.args.names.now) c.args.train) xs in
    both_written g.O.Sink c.args.out.now c.write_bars.new.out c.write_path.new.out (lines c.args.placed.now.bars.items) (path_line (names_in c.args.names.now) c.args.train c.args.number c.args.placed.now.begin) c.write_path.result
    (same_text g.O.Sink c.args.out.now c.write_bars.new.out (ap lines c.deref.ensures.value) c.in_ok-write_bars.ensures) c.write_path.ensures
