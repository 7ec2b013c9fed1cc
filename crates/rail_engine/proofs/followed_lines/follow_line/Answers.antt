use Rattle.std.proofs.Common.{rules, ◌≡◌, ◌∷◌, false, sym, ap, ◌∙◌, subst}
use Rattle.std.proofs.lemmas.Bool.{false≢true}
use Rattle.rail_rules.specs.Fronts.{Line, is_admission}
use Rattle.rail_policy.specs.Desks.{Table}
use Rattle.rail_ledger.specs.Inputs.{input_in}
use Rattle.rail_ledger.specs.Ledgers.{IsAt, admission, line_taken, line_with}
use Rattle.rail_ledger.proofs.CallerLemmas.{admission_taken, other_taken}
use Rattle.rail_engine.specs.Desks.{IsDesk}
use Rattle.rail_engine.proofs.FollowedLines.{refuses_same, runs_same, still_somewhere, unasked}
use Rattle.rail_engine.proofs.followed_lines.follow_line.Goals as goal

pub returns-in-Admit-clause-somewhere : goal.returns-in-Admit-clause-somewhere
returns-in-Admit-clause-somewhere g c =
    still_somewhere c.args.ledger.now c.follow_admission.new.ledger (admission c.args.entry.at c.in-Admit.train c.in-Admit.place c.in-Admit.note c.args.list.now)
    c.follow_admission.result c.requires.running c.follow_admission.ensures.line c.follow_admission.ensures.unchanged

pub returns-in-Admit-clause-line : goal.returns-in-Admit-clause-line
returns-in-Admit-clause-line g c = λ taken front at.
    subst (λ (line : Line). IsAt (line ∷ front) c.follow_admission.new.ledger)
    (sym (admission_taken c.args.entry c.in-Admit.train c.in-Admit.place c.in-Admit.note c.args.list.now c.in-Admit.is))
    (c.follow_admission.ensures.line taken front at)

pub returns-in-Admit-clause-run : goal.returns-in-Admit-clause-run
returns-in-Admit-clause-run g c = λ taken.
    runs_same c.args.ledger.now c.follow_admission.new.ledger _ _ (line_taken c.args.entry c.args.list.now)
    (admission c.args.entry.at c.in-Admit.train c.in-Admit.place c.in-Admit.note c.args.list.now)
    (admission_taken c.args.entry c.in-Admit.train c.in-Admit.place c.in-Admit.note c.args.list.now c.in-Admit.is) (c.follow_admission.ensures.run taken)

pub returns-in-Admit-clause-refused : goal.returns-in-Admit-clause-refused
returns-in-Admit-clause-refused g c = λ refused.
    refuses_same c.args.ledger.now _ (line_taken c.args.entry c.args.list.now) (admission c.args.entry.at c.in-Admit.train c.in-Admit.place c.in-Admit.note c.args.list.now)
    (admission_taken c.args.entry c.in-Admit.train c.in-Admit.place c.in-Admit.note c.args.list.now c.in-Admit.is) (c.follow_admission.ensures.refused refused)

pub returns-in_default : goal.returns-in_default
returns-in_default g c =
    let idle : is_admission c.args.entry.what ≡ false = search rules in
    let same : line_taken c.args.entry c.args.list.now ≡ line_with c.args.entry c.args.list.now = other_taken c.args.entry c.args.list.now idle in
    record {
      somewhere = still_somewhere c.args.ledger.now c.follow_other.new.ledger (line_with c.args.entry c.args.list.now)
          c.follow_other.result c.requires.running c.follow_other.ensures.line c.follow_other.ensures.unchanged;
      input = c.follow_other.ensures.input;
      room = c.follow_other.ensures.room;
      over = c.follow_other.ensures.over;
      line = λ taken front at. subst (λ (line : Line). IsAt (line ∷ front) c.follow_other.new.ledger) (sym same) (c.follow_other.ensures.line taken front at);
      run = λ taken. runs_same c.args.ledger.now c.follow_other.new.ledger _ _ (line_taken c.args.entry c.args.list.now) (line_with c.args.entry c.args.list.now) same
          (c.follow_other.ensures.run taken);
      listed = λ taken. c.follow_other.ensures.listed taken ∙ ap (λ (line : Line). line.trains) (sym same);
      noted = λ taken t m note is. absurd (false≢true (sym idle ∙ ap is_admission is));
      orders = λ taken _. c.follow_other.ensures.orders taken;
      refused = λ refused. refuses_same c.args.ledger.now _ (line_taken c.args.entry c.args.list.now) (line_with c.args.entry c.args.list.now) same
          (c.follow_other.ensures.refused refused);
      unchanged = c.follow_other.ensures.unchanged;
      unlisted = c.follow_other.ensures.unlisted;
      desk = λ refused seats front at desk. subst (λ (table : Table). IsDesk (input_in c.args.ledger.now.input) seats front table) (sym (c.follow_other.ensures.desk refused)) desk;
      asked = λ refused. unasked _ _ (c.follow_other.ensures.desk refused);
    }
