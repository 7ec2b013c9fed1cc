use Rattle.std.proofs.Common.{◌∙◌, inl, inr, sym, ap, subst}
use Rattle.std.proofs.lemmas.Result.{err_from_is_err_and}
use Rattle.rail_history.specs.LinesLeft.{lines_left}
use Rattle.rail_laws_events.proofs.CallerLemmas.{input_parts}
use Rattle.rail_laws_text.proofs.CallerLemmas.{accepted_named}
use Rattle.rail_ledger.specs.Inputs.{input_in}
use Rattle.rail_ledger.specs.declared.input.RunInput.{RunInput}
use Rattle.rail_rules.specs.Plant.{Plant}
use Rattle.rail_rules.specs.WritableLines.{IsNamed}
use Rattle.rail_save.specs.Snapshots.{IsRefusedUnread, IsSnapshot}
use Rattle.rail_save.proofs.resuming.resume.Goals as goal

pub read_snapshot-requires : goal.read_snapshot-requires
read_snapshot-requires g c = record {
  named = subst IsNamed (sym c.plant.ensures) (accepted_named c.args.engine.core.input.plant (input_parts (input_in c.args.engine.core.input) c.requires.begun.at.accepted).0);
  short = c.requires.short;
}

pub returns-in_err-history-clause-refused : goal.returns-in_err-history-clause-refused
returns-in_err-history-clause-refused g c =
    let p = err_from_is_err_and c.from_residual.result c.from_residual.ensures.1 in
    rw (p.1, p.2) (inl (subst (λ (plant : Plant). IsRefusedUnread plant c.args.bytes.now c.in_err-history.field-0.0) c.plant.ensures c.in_err-history.ensures.refused))

pub returns-in_err-follow_lines-clause-refused : goal.returns-in_err-follow_lines-clause-refused
returns-in_err-follow_lines-clause-refused g c =
    let p = err_from_is_err_and c.from_residual-in_err-follow_lines.result c.from_residual-in_err-follow_lines.ensures.1 in
    rw (p.1, p.2) (inr (record {
      lines = lines_left c.in_ok-lines.lines;
      snapshot = subst (λ (plant : Plant). IsSnapshot plant c.args.bytes.now (lines_left c.in_ok-lines.lines)) c.plant.ensures
          (subst (IsSnapshot c.plant.result.now c.args.bytes.now) (sym c.in_ok-lines.ensures) c.in_ok-history.ensures.read);
      other = c.in_err-follow_lines.ensures.other;
    }))

pub returns-clause-resumed : goal.returns-clause-resumed
returns-clause-resumed g c = record {
  lines = lines_left c.in_ok-lines.lines;
  snapshot = subst (λ (plant : Plant). IsSnapshot plant c.args.bytes.now (lines_left c.in_ok-lines.lines)) (c.plant.ensures ∙ sym (ap (λ (i : RunInput). i.plant) c.follow_lines.ensures.input))
      (subst (IsSnapshot c.plant.result.now c.args.bytes.now) (sym c.in_ok-lines.ensures) c.in_ok-history.ensures.read);
  stands = c.in_ok-follow_lines.ensures.followed;
}
