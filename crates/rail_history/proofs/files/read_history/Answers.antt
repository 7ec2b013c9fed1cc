use Rattle.std.proofs.Common.{◌≡◌, ◌++◌, ◌∷◌, [], List, ℕ, length, map, ap, sym, subst, ◌∙◌, arith}
use Rattle.std.specs.Prelude.{count_by}
use Rattle.std.proofs.lemmas.Result.{err_from_is_err_and}
use Rattle.rail_base.specs.declared.history.Entry.{Entry}
use Rattle.rail_rules.specs.Fronts.{Line}
use Rattle.rail_history.specs.HistoryLines.{does_list, lines_in}
use Rattle.rail_history.specs.LineReads.{line_read, lines_of, lists_of}
use Rattle.rail_history.specs.ListItems.{spelled_by}
use Rattle.rail_history.specs.ReadFiles.{IsReadTo}
use Rattle.rail_history.proofs.Histories.{length-lines_in, lines_push, paired_push}
use Rattle.rail_history.proofs.LineRead.{some_plant}
use Rattle.rail_history.proofs.ReadOn.{refused_from}
use Rattle.rail_history.proofs.files.read_history.Goals as goal

pub loop-file-init : goal.loop-file-init
loop-file-init c =
    let none : lines_of (record { entries = c.new.result; lists = c.new-2.result }) ≡ [] =
    λ i. lines_in (c.new.ensures.items i) (map spelled_by (c.new-2.ensures.items i)) in
    record {
      so_far = λ plant _. subst (λ (ls : List Line). IsReadTo plant c.args.bytes.now ls c.new-file.result) (sym none) (c.new-file.ensures.front plant);
      paired = ap (count_by (λ (e : Entry). does_list e.what)) c.new.ensures.items ∙ sym (λ i. length (map spelled_by (c.new-2.ensures.items i)));
      reading = c.new-file.ensures.reading c.requires.short;
    }

pub returns-in_err-line-clause-refused : goal.returns-in_err-line-clause-refused
returns-in_err-line-clause-refused c =
    let p = err_from_is_err_and c.from_residual.result c.from_residual.ensures.1 in
    let at = c.loop-file.invariant in
    let refused = refused_from c.args.names.now c.args.bytes.now (lines_of c.loop-file.history) c.loop-file.file at.so_far c.in_err-line.field-0.0 c.in_err-line.ensures.refused in
    rw (p.1, p.2) refused

pub loop-file-preserved : goal.loop-file-preserved
loop-file-preserved c =
    let at = c.loop-file.invariant in
    let old = c.loop-file.history in
    let entries = c.in_ok-add.ensures.entries in
    let lists = c.in_ok-add.ensures.lists in
    let line = c.in_ok-line.line in
    let added : lines_of c.add.new.history ≡ lines_of old ++ line_read line ∷ [] =
    (λ i. lines_in (entries i) (lists i)) ∙ lines_push old.entries.items (lists_of old) line.entry line.trains.items at.paired in
    record {
      so_far = λ plant has.
          let next = c.in_ok-line.ensures.read plant has c.args.bytes.now (lines_of old) (at.so_far plant has) in
          subst (λ (ls : List Line). IsReadTo plant c.args.bytes.now ls c.next_line.new.self) (sym added) next;
      paired = ap (count_by (λ (e : Entry). does_list e.what)) entries ∙ paired_push old.entries.items (lists_of old) line.entry line.trains.items at.paired ∙ sym (ap (length {A = List ℕ}) lists);
      reading = c.in_ok-line.ensures.reading;
    }

pub returns-clause-short : goal.returns-clause-short
returns-clause-short c =
    let some = some_plant c.args.names.now in
    let so_far = c.loop-file.invariant.so_far some.0 some.1 in
    omega (arith, so_far.numbered, so_far.short, length-lines_in c.loop-file.history.entries.items (lists_of c.loop-file.history))
