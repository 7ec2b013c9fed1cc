use Rattle.std.proofs.Common.{◌++◌, ◌∷◌, [], List, sym, subst, append_assoc}
use Rattle.std.proofs.lemmas.List.{append-nil}
use Rattle.std.proofs.lemmas.Result.{err_from_is_err_and}
use Rattle.rail_rules.specs.Fronts.{Line}
use Rattle.rail_history.specs.LineReads.{line_read}
use Rattle.rail_history.specs.ReadFiles.{IsReadTo}
use Rattle.rail_history.proofs.ReadOn.{refused_before}
use Rattle.rail_history.proofs.file_lines.FileLines.read_rest.Goals as goal

pub loop-alloc-init : goal.loop-alloc-init
loop-alloc-init c = record {
  reading = c.requires.reading;
  so_far = λ plant has bytes lines so_far. ([], subst (λ (ls : List Line). IsReadTo plant bytes ls c.args.self.now) (sym (append-nil lines)) so_far);
}

pub loop-alloc-preserved : goal.loop-alloc-preserved
loop-alloc-preserved c =
    let at = c.loop-alloc.invariant in
    let line : Line = line_read c.in_ok-_line._line in
    record {
      reading = c.in_ok-_line.ensures.reading;
      so_far = λ plant has bytes lines so_far.
          let before = at.so_far plant has bytes lines so_far in
          let next = c.in_ok-_line.ensures.read plant has bytes (lines ++ before.0) before.1 in
          (before.0 ++ line ∷ [], subst (λ (ls : List Line). IsReadTo plant bytes ls c.next_line.new.self) (append_assoc lines before.0 (line ∷ [])) next);
    }

pub returns-in_err-_line-clause-refused : goal.returns-in_err-_line-clause-refused
returns-in_err-_line-clause-refused c =
    let p = err_from_is_err_and c.from_residual.result c.from_residual.ensures.1 in
    let refused = refused_before c.args.names.now c.args.self.now c.loop-alloc.self c.loop-alloc.invariant.so_far c.in_err-_line.field-0.0 c.in_err-_line.ensures.refused in
    rw (p.1, p.2) refused
