use Rattle.std.proofs.Common.{ℕ, ◌+◌, List, Ok, length, take, drop, sym, subst}
use Rattle.std.proofs.lemmas.List.{take_all}
use Rattle.rail_insert.specs.declared.insertion.Placed.{Placed}
use Rattle.rail_insert.specs.Texts.{copies_text, copy_text}
use Rattle.rail_text.specs.Writes.{WritesText}
use Rattle.rail_text.proofs.CallerLemmas.{both_written, none_written}
use Rattle.rail_insert.proofs.Written.{copies_more, copies_split, same_text, stopped}
use Rattle.rail_text.specs.Names.{names_in}
use Rattle.rail_insert.proofs.writing.write_copies.Goals as goal

pub loop-index-init : goal.loop-index-init
loop-index-init g c = none_written g.O.Sink c.args.out.now

pub loop-index-preserved : goal.loop-index-preserved
loop-index-preserved g c =
    let names = names_in c.args.names.now in
    let train : ℕ = c.args.train in
    let copies : List Placed = c.args.copies.now in
    let k : ℕ = c.loop-index.index in
    let placed : Placed = c.index-copies-index.result in
    same_text g.O.Sink c.args.out.now c.write_copy.new.out (sym (copies_more names train copies k placed c.loop-index-test.true (sym c.index-copies-index.is)))
    (both_written g.O.Sink c.args.out.now c.loop-index.out c.write_copy.new.out (copies_text names train 1 (take k copies)) (copy_text names train (k + 1) placed) (Ok tt)
    c.loop-index.invariant c.in_ok-write_copy.ensures)

pub returns-in_err-write_copy : goal.returns-in_err-write_copy
returns-in_err-write_copy g c =
    let names = names_in c.args.names.now in
    let train : ℕ = c.args.train in
    let copies : List Placed = c.args.copies.now in
    let k : ℕ = c.loop-index.index in
    let placed : Placed = c.index-copies-index.result in
    stopped g.O.Sink c.args.out.now c.loop-index.out c.write_copy.new.out (copies_text names train 1 copies) (copies_text names train 1 (take k copies)) (copy_text names train (k + 1) placed)
    (copies_text names train (1 + length (take (k + 1) copies)) (drop (k + 1) copies)) _ c.from_residual.result c.from_residual.ensures.0
    (copies_split names train copies k placed c.loop-index-test.true (sym c.index-copies-index.is)) c.loop-index.invariant c.in_err-write_copy.ensures

pub returns : goal.returns
returns g c =
    let P : List Placed → Type 0 = λ xs. WritesText g.O.Sink c.args.out.now c.loop-index.out (copies_text (names_in c.args.names.now) c.args.train 1 xs) (Ok tt) in
    subst P (take_all c.loop-index.index c.args.copies.now c.loop-index-test.false) c.loop-index.invariant
