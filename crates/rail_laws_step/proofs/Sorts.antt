-- How each line changes what is due.
use Rattle.std.proofs.Common.{◌≡◌, ℕ, suc, ◌+◌, Bool, true, false, ◌&&◌, cond, [], ◌∷◌, refl, sym, ap, ◌∙◌, ◌⊎◌, ⊎_elim}
use Rattle.std.proofs.lemmas.Bool.{false≢true}
use Rattle.rail_base.specs.declared.history.Entry.{Entry}
use Rattle.rail_base.specs.declared.history.What.{What}
use Rattle.rail_base.specs.declared.history.What.TheVariants.{Free, Arrive, Enter, Out, Ready, Told, Untold, Admit, Hold, End}
use Rattle.rail_rules.specs.Fronts.{Front, Line, admissions, is_admission, same_entry}
use Rattle.rail_rules.specs.Orders.{Input, orders_of, told, is_cancelled}
use Rattle.rail_rules.specs.Events.{arrive_line, commands_due, due_lines, enter_line, events, free_lines, move_events, out_lines, ready_line}
use Rattle.rail_laws_front.specs.Views.{Follows, Happens}
use Rattle.rail_laws_front.specs.Views.Follows.{by_admission, by_end, by_event, by_hold}
use Rattle.rail_laws_front.proofs.CallerLemmas.{due_found, told_kept}
use Rattle.rail_laws_events.specs.Accounts.{is_train_event, tally}
use Rattle.rail_laws_events.proofs.CallerLemmas.{one_entry}
use Rattle.rail_rules.specs.LineCounts.{is_command}
use Rattle.rail_laws_step.specs.KeptLines.{is_kept}
use Rattle.rail_laws_step.proofs.Staying.{event_kept}

pub train_event_no_command : (w : What) → is_train_event w ≡ true → is_command w ≡ false
train_event_no_command (Told k) kind = absurd (false≢true kind)
train_event_no_command (Untold k) kind = absurd (false≢true kind)
train_event_no_command (Free x t) kind = refl
train_event_no_command (Arrive t m) kind = refl
train_event_no_command (Enter t m x) kind = refl
train_event_no_command (Out t) kind = refl
train_event_no_command (Ready t m) kind = refl
train_event_no_command (Admit t m note) kind = refl
train_event_no_command (Hold t m why) kind = refl
train_event_no_command End kind = refl

pub command_no_train_event : (w : What) → is_command w ≡ true → is_train_event w ≡ false
command_no_train_event (Told k) kind = refl
command_no_train_event (Untold k) kind = refl
command_no_train_event (Free x t) kind = absurd (false≢true kind)
command_no_train_event (Arrive t m) kind = absurd (false≢true kind)
command_no_train_event (Enter t m x) kind = absurd (false≢true kind)
command_no_train_event (Out t) kind = absurd (false≢true kind)
command_no_train_event (Ready t m) kind = absurd (false≢true kind)
command_no_train_event (Admit t m note) kind = refl
command_no_train_event (Hold t m why) kind = refl
command_no_train_event End kind = refl

pub command_idle : (w : What) → is_command w ≡ true → is_admission w ≡ false
command_idle (Told k) kind = refl
command_idle (Untold k) kind = refl
command_idle (Free x t) kind = refl
command_idle (Arrive t m) kind = refl
command_idle (Enter t m x) kind = refl
command_idle (Out t) kind = refl
command_idle (Ready t m) kind = refl
command_idle (Admit t m note) kind = absurd (false≢true kind)
command_idle (Hold t m why) kind = refl
command_idle End kind = refl

-- a line that is none of a command tells nothing
pub tells_none : (input : Input) (line : Line) (front : Front) → is_command line.entry.what ≡ false → told input.commands (line ∷ front) ≡ told input.commands front
tells_none input line front idle = told_kept input.commands line front (λ k is. false≢true (sym idle ∙ ap is_command is))

-- an event line that is due stays
pub line_stays : (input : Input) (front : Front) (line : Line) → Happens input front line → is_train_event line.entry.what ≡ true → is_kept (told input.commands front) line.entry.what ≡ true
line_stays input front line happens kind =
    ⊎_elim
    (λ due.
    ap (λ (e : Entry). is_kept (told input.commands front) e.what) (one_entry line.entry due.entry due.passing)
    ∙ event_kept input.plant due.train (admissions front due.train) (told input.commands front) (is_cancelled due.train (told input.commands front)) due.entry (λ runs. runs) due.event)
    (λ due. absurd (false≢true (sym (command_kind due.command due.index (one_entry line.entry _ due.passing)) ∙ kind)))
    (due_found input front (same_entry line.entry) happens.due)
  where
    command_kind : (command : Rattle.rail_base.specs.declared.orders.Command.Command) (k : ℕ) → line.entry ≡ Rattle.rail_rules.specs.Events.command_line input front command (0 + k) → is_train_event line.entry.what ≡ false
    command_kind command k is = ap (λ (e : Entry). is_train_event e.what) is ∙ of (Rattle.rail_rules.specs.Orders.takes_effect input front (told input.commands front) command.what)
      where
        of : (b : Bool) → is_train_event (cond b (Told (suc (0 + k))) (Untold (suc (0 + k)))) ≡ false
        of true = refl
        of false = refl

pub follows_event : (input : Input) (front : Front) (line : Line) → Follows input front line → (is_train_event line.entry.what ≡ true) ⊎ (is_command line.entry.what ≡ true) → Happens input front line
follows_event input front line (by_event happens) kind = happens
follows_event input front line (by_admission t m note admits) kind = absurd (⊎_elim (λ a. false≢true (sym (ap is_train_event admits.what) ∙ a)) (λ a. false≢true (sym (ap is_command admits.what) ∙ a)) kind)
follows_event input front line (by_hold t m why holds) kind = absurd (⊎_elim (λ a. false≢true (sym (ap is_train_event holds.what) ∙ a)) (λ a. false≢true (sym (ap is_command holds.what) ∙ a)) kind)
follows_event input front line (by_end ends) kind = absurd (⊎_elim (λ a. false≢true (sym (ap is_train_event ends.what) ∙ a)) (λ a. false≢true (sym (ap is_command ends.what) ∙ a)) kind)

pub one_stays : (k p : Entry → Bool) (e : Entry) → k e ≡ true → tally (λ x. k x && p x) (e ∷ []) ≡ tally p (e ∷ [])
one_stays k p e stays = ap {B = ℕ} (λ b. cond (b && p e) 1 0 + 0) stays
