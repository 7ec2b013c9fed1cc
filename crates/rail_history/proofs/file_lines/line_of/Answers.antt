use Rattle.std.proofs.Common.{◌≡◌, ℕ, cond, subst, sym, ap, ◌∙◌, refl, arith}
use mir.Val.{bool_byte}
use Rattle.std.specs.Prelude.{Option, IfSome}
use Rattle.rail_base.specs.declared.refusals.Fault.{Fault}
use Rattle.rail_rules.specs.Fronts.{Line}
use Rattle.rail_history.specs.declared.read_line.ReadLine.{ReadLine}
use Rattle.rail_history.specs.HistoryLines.{IsLine, is_fresh}
use Rattle.rail_history.specs.LineReads.{IsWrongLine, line_read}
use Rattle.rail_history.proofs.Histories.{one_line}
use Rattle.rail_history.proofs.ReadOn.{one_of}
use Rattle.rail_history.proofs.file_lines.line_of.Goals as goal

pub returns-then-fresh-more-gt-FRESH_LINES-clause-refused :
    goal.returns-then-fresh-more-gt-FRESH_LINES-clause-refused
returns-then-fresh-more-gt-FRESH_LINES-clause-refused c =
    let mine : IsLine c.args.names.now c.args.bytes.now (line_read c.in-Some.line) =
    subst (λ (o : Option ReadLine). IfSome o (λ (read : ReadLine). IsLine c.args.names.now c.args.bytes.now (line_read read))) c.in-Some.is c.in_ok-line.ensures.some in
    let more : c.from-more.result ≡ cond (is_fresh c.in-Some.line.entry.what) 1 0 = c.from-more.ensures ∙ ap bool_byte c.is_fresh.ensures ∙ one_of (is_fresh c.in-Some.line.entry.what) in
    subst (λ (fault : Fault). IsWrongLine c.args.names.now c.args.fresh c.args.number c.args.bytes.now fault) (sym c.refused_at-then-fresh-more-gt-FRESH_LINES.ensures) (
      refl,
      λ plant has named line is.
          let same = one_line plant named (line_read c.in-Some.line) line c.args.bytes.now (mine plant has) is in
          omega (arith, c.if-fresh-more-gt-FRESH_LINES.true, more, ap {B = ℕ} (λ (l : Line). cond (is_fresh l.entry.what) 1 0) same),
    )

pub returns-clause-within : goal.returns-clause-within
returns-clause-within c =
    let more : c.from-more.result ≡ cond (is_fresh c.in-Some.line.entry.what) 1 0 = c.from-more.ensures ∙ ap bool_byte c.is_fresh.ensures ∙ one_of (is_fresh c.in-Some.line.entry.what) in
    omega (arith, c.if-fresh-more-gt-FRESH_LINES.false, more)
