use Rattle.std.proofs.Common.{ℕ, ◌+◌, List, Ok, take, drop, sym, subst}
use Rattle.std.specs.Prelude.{flat_map}
use Rattle.std.proofs.lemmas.List.{take_all}
use Rattle.rail_insert.specs.declared.bars.Bar.{Bar}
use Rattle.rail_insert.specs.Texts.{bar_line}
use Rattle.rail_text.specs.Writes.{WritesText}
use Rattle.rail_text.proofs.CallerLemmas.{both_written, none_written}
use Rattle.rail_insert.proofs.Written.{items_more, items_split, same_text, stopped}
use Rattle.rail_text.specs.Names.{names_in}
use Rattle.rail_insert.proofs.writing.write_bars.Goals as goal

pub loop-bar-init : goal.loop-bar-init
loop-bar-init g c = none_written g.O.Sink c.args.out.now

pub loop-bar-preserved : goal.loop-bar-preserved
loop-bar-preserved g c =
    let line = bar_line (names_in c.args.names.now) c.args.train in
    same_text g.O.Sink c.args.out.now c.write_bar.new.out (sym (items_more line c.args.bars.now c.loop-bar.bar-index c.bar-item.result c.loop-bar-test.true (sym c.bar-item.is)))
    (both_written g.O.Sink c.args.out.now c.loop-bar.out c.write_bar.new.out (flat_map line (take c.loop-bar.bar-index c.args.bars.now)) (line c.bar-item.result) (Ok tt) c.loop-bar.invariant c.in_ok-write_bar.ensures)

pub returns-in_err-write_bar : goal.returns-in_err-write_bar
returns-in_err-write_bar g c =
    let line = bar_line (names_in c.args.names.now) c.args.train in
    let k : ℕ = c.loop-bar.bar-index in
    stopped g.O.Sink c.args.out.now c.loop-bar.out c.write_bar.new.out (flat_map line c.args.bars.now) (flat_map line (take k c.args.bars.now)) (line c.bar-item.result) (flat_map line (drop (k + 1) c.args.bars.now))
    _ c.from_residual.result c.from_residual.ensures.0
    (items_split line c.args.bars.now k c.bar-item.result c.loop-bar-test.true (sym c.bar-item.is)) c.loop-bar.invariant c.in_err-write_bar.ensures

pub returns : goal.returns
returns g c =
    let P : List Bar → Type 0 = λ xs. WritesText g.O.Sink c.args.out.now c.loop-bar.out (flat_map (bar_line (names_in c.args.names.now) c.args.train) xs) (Ok tt) in
    subst P (take_all c.loop-bar.bar-index c.args.bars.now c.loop-bar-test.false) c.loop-bar.invariant
