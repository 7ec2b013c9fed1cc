-- A line that is due is a line of the file.
use Rattle.std.proofs.Common.{◌≡◌, ℕ, List, [], false, refl, sym, subst}
use Rattle.rail_base.specs.declared.history.What.{What}
use Rattle.rail_base.specs.declared.history.What.TheVariants.{Free, Arrive, Enter, Out, Ready, Told, Untold, Admit, Hold, End}
use Rattle.rail_history.specs.HistoryLines.{IsSpelled, is_fresh}
use Rattle.rail_history.proofs.CallerLemmas.{line_known}
use Rattle.rail_ledger.specs.DueLines.{IsDue}
use Rattle.rail_ledger.specs.Inputs.{input_in}
use Rattle.rail_ledger.specs.Ledgers.{IsAt, line_with}
use Rattle.rail_ledger.specs.declared.due.Due.{Due}
use Rattle.rail_ledger.specs.declared.input.RunInput.{RunInput}
use Rattle.rail_ledger.specs.declared.ledger.Ledger.{Ledger}
use Rattle.rail_rules.specs.Fronts.{Front, Line, is_admission}
use Rattle.rail_rules.specs.Texts.{line_text}

-- a line that is no admission has no fresh list
pub not_fresh : (what : What) → is_admission what ≡ false → is_fresh what ≡ false
not_fresh (Free x t) h = refl
not_fresh (Arrive t m) h = refl
not_fresh (Enter t m x) h = refl
not_fresh (Out t) h = refl
not_fresh (Ready t m) h = refl
not_fresh (Told k) h = refl
not_fresh (Untold k) h = refl
not_fresh (Admit t m note) h = cc
not_fresh (Hold t m why) h = refl
not_fresh End h = refl

-- the bytes that are put together for it are its text
pub due_spelled : (ledger : Ledger) (input : RunInput) → ledger.input ≡ input → (front : Front) → IsAt front ledger → (due : Due) → IsDue ledger due
    → (bytes : List ℕ) → bytes ≡ line_text ledger.input.plant (line_with due.entry []) → IsSpelled input.plant (line_with due.entry []) bytes
due_spelled ledger input same front at due is bytes text =
    let line : Line = line_with due.entry [] in
    subst (λ (i : RunInput). IsSpelled i.plant line bytes) same
    (record { is_line = line_known (input_in ledger.input) at.accepted line front (is.lawful front at); spelled = sym text })
