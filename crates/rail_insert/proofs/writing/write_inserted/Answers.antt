use Rattle.std.proofs.Common.{◌≡◌, ℕ, List, length, ap, subst, arith}
use Rattle.rail_insert.specs.declared.insertion.Placed.{Placed}
use Rattle.rail_insert.specs.Texts.{copies_text, paths_line}
use Rattle.rail_text.specs.Writes.{WritesText}
use Rattle.rail_text.proofs.CallerLemmas.{both_written, part_written}
use Rattle.rail_insert.proofs.Written.{same_text}
use Rattle.rail_text.specs.Names.{names_in}
use Rattle.rail_insert.proofs.writing.write_inserted.Goals as goal

pub returns-in_err-write_copies : goal.returns-in_err-write_copies
returns-in_err-write_copies g c =
    let lines : List Placed → List ℕ = λ xs. copies_text (names_in c.args.names.now) c.args.train 1 xs in
    let copies : List Placed = c.args.inserted.now.copies.items in
    part_written g.O.Sink c.args.out.now c.write_copies.new.out (lines copies) (paths_line (length copies)) _
    c.from_residual.result c.from_residual.ensures.0
    (same_text g.O.Sink c.args.out.now c.write_copies.new.out (ap lines c.deref.ensures.value) c.in_err-write_copies.ensures)

pub returns : goal.returns
returns g c =
    let lines : List Placed → List ℕ = λ xs. copies_text (names_in c.args.names.now) c.args.train 1 xs in
    let copies : List Placed = c.args.inserted.now.copies.items in
    let shown = ap (λ (xs : List Placed). length xs) c.deref.ensures.value in
    let len = c.len.ensures in
    let count = c.deref.ensures.len in
    let many : c.len.result ≡ length copies = omega arith in
    let P : ℕ → Type 0 = λ n. WritesText g.O.Sink c.write_copies.new.out c.write_paths.new.out (paths_line n) c.write_paths.result in
    both_written g.O.Sink c.args.out.now c.write_copies.new.out c.write_paths.new.out (lines copies) (paths_line (length copies)) c.write_paths.result
    (same_text g.O.Sink c.args.out.now c.write_copies.new.out (ap lines c.deref.ensures.value) c.in_ok-write_copies.ensures)
    (subst P many c.write_paths.ensures)
