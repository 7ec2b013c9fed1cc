-- An answer in other words, and a ledger whose last list is another.
use Rattle.std.proofs.Common.{◌≡◌, ℕ, true, false, refl, sym, ap, List, Option, Some, None}
use Rattle.std.specs.Prelude.{IfSome}
use Rattle.std.proofs.lemmas.Bool.{false≢true}
use Rattle.rail_base.specs.declared.history.What.{What}
use Rattle.rail_base.specs.declared.history.What.TheVariants.{Free, Arrive, Enter, Out, Ready, Told, Untold, Admit, Hold, End}
use Rattle.rail_rules.specs.Fronts.{Front, at_time, is_admission, is_hold}
use Rattle.rail_ledger.specs.declared.ledger.Ledger.{Ledger}
use Rattle.rail_ledger.specs.declared.ledger.Listed.{Listed}
use Rattle.rail_ledger.specs.Ledgers.{IsAt, admission, line_taken, line_with, trains_taken}
use Rattle.rail_base.specs.declared.history.Entry.{Entry}
use Rattle.rail_base.specs.declared.history.Note.{Note}

pub mapped : {P Q : ℕ → Type 0} → (o : Option ℕ) → IfSome o P → ((n : ℕ) → P n → Q n) → IfSome o Q
mapped None h f = tt
mapped (Some n) h f = f n h

pub listed_as : (front : Front) (ledger : Ledger) (l : Listed) → IsAt front ledger → IsAt front (record ledger { listed = l })
listed_as front ledger l at = record { accepted = at.accepted; ordered = at.ordered; rep = at.rep; placed = at.placed; keeps = at.keeps; queue_room = at.queue_room; list_room = at.list_room; list_empty = at.list_empty; searcher = at.searcher; failures = at.failures }

pub hold_none : (w : What) → is_hold w ≡ true → is_admission w ≡ false
hold_none (Hold t m c) h = refl
hold_none (Admit t m n) h = absurd (false≢true h)
hold_none (Free x t) h = refl
hold_none (Arrive t m) h = refl
hold_none (Enter t m x) h = refl
hold_none (Out t) h = refl
hold_none (Ready t m) h = refl
hold_none (Told k) h = refl
hold_none (Untold k) h = refl
hold_none End h = refl

-- the line of an admission that is taken
pub admission_taken : (entry : Entry) (t m : ℕ) (note : Note) (list : List ℕ) → entry.what ≡ Admit t m note → line_taken entry list ≡ admission entry.at t m note list
admission_taken entry t m note list is = ap (λ (w : What). record { entry = at_time entry.at w; trains = trains_taken w list }) is

-- the line of another entry
pub other_taken : (entry : Entry) (list : List ℕ) → is_admission entry.what ≡ false → line_taken entry list ≡ line_with entry list
other_taken entry list none = ap (λ (trains : List ℕ). record { entry = entry; trains = trains }) (of entry.what none)
  where
    of : (w : What) → is_admission w ≡ false → trains_taken w list ≡ list
    of (Admit t m n) h = absurd (false≢true (sym h))
    of (Hold t m c) h = refl
    of (Free x t) h = refl
    of (Arrive t m) h = refl
    of (Enter t m x) h = refl
    of (Out t) h = refl
    of (Ready t m) h = refl
    of (Told k) h = refl
    of (Untold k) h = refl
    of End h = refl
