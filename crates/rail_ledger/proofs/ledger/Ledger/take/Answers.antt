use Rattle.std.proofs.Common.{rules, ◌≡◌, ◌∷◌, false, sym, subst, ◌∙◌}
use Rattle.std.specs.Prelude.{IfSome}
use Rattle.rail_rules.specs.Fronts.{Line, is_admission}
use Rattle.rail_ledger.specs.declared.ledger.Ledger.{Ledger}
use Rattle.rail_ledger.specs.Ledgers.{IsAt, IsRefusedWith, line_taken, line_with}
use Rattle.rail_ledger.proofs.Judged.{admission_taken, mapped, other_taken}
use Rattle.rail_ledger.proofs.ledger.Ledger.take.Goals as goal

pub returns-in-Admit-clause-taken : goal.returns-in-Admit-clause-taken
returns-in-Admit-clause-taken c = λ none front at.
    subst (λ (line : Line). IsAt (line ∷ front) c.take_admission.new.self)
    (sym (admission_taken c.args.entry c.in-Admit.train c.in-Admit.place c.in-Admit.note c.args.trains.now c.in-Admit.is))
    (c.take_admission.ensures.taken none front at)

pub take_other-requires-clause-known : goal.take_other-requires-clause-known
take_other-requires-clause-known c = λ held. c.requires.running.at.0.rep.known.no_more (sym c.requires.running.at.1 ∙ held)

pub returns-in_default : goal.returns-in_default
returns-in_default c =
    let old : Ledger = c.args.self.now in
    let idle : is_admission c.args.entry.what ≡ false = search rules in
    let same : line_taken c.args.entry c.args.trains.now ≡ line_with c.args.entry c.args.trains.now = other_taken c.args.entry c.args.trains.now idle in
    record {
      taken = λ none front at. subst (λ (line : Line). IsAt (line ∷ front) c.take_other.new.self) (sym same) (c.take_other.ensures.taken none front at.0);
      refused = subst (λ (line : Line). IfSome c.take_other.result (IsRefusedWith c.args.after_hold old line)) (sym same)
          (mapped {Q = IsRefusedWith c.args.after_hold old (line_with c.args.entry c.args.trains.now)} c.take_other.result c.take_other.ensures.refused (λ law refused front at. refused front at.0));
      input = c.take_other.ensures.input;
      unchanged = c.take_other.ensures.unchanged;
    }
