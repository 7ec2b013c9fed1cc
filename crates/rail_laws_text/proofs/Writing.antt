-- Each line of a lawful front can be written.
use Rattle.std.proofs.Common.{◌≡◌, ℕ, zero, suc, cond, leb, ap, ◌∙◌, ◌+◌, ◌<◌, ◌≤◌, ◌^◌, Bool, true, not, ◌&&◌, ltb, List, [], ◌∷◌, length, Option, Some, slice_get, sym, subst, ⊎_elim, arith}
use Rattle.std.specs.List.{list_all}
use Rattle.std.specs.Cmp.Lexicographic.{bytes_decides}
use Rattle.std.proofs.lemmas.Bool.{and_parts, and_from, cond_both, ltb-true, leb-true}
use Rattle.std.proofs.lemmas.List.{length-set}
use Rattle.rail_base.specs.declared.limits.TheConstants.{COMMANDS, POLICIES}
use Rattle.rail_base.specs.declared.orders.Command.{Command}
use Rattle.rail_base.specs.declared.history.Entry.{Entry}
use Rattle.rail_base.specs.declared.history.What.{What}
use Rattle.rail_base.specs.declared.history.What.TheVariants.{Told, Untold}
use Rattle.rail_base.specs.declared.history.Note.{Note}
use Rattle.rail_base.specs.declared.history.Note.TheVariants.{Pulled, Appended, Fresh}
use Rattle.rail_base.specs.declared.history.Cause.{Cause}
use Rattle.rail_base.specs.Limits.{is_from_one}
use Rattle.rail_rules.specs.Accepted.{is_accepted, is_accepted_input, are_commands_in_range, are_distinct_names}
use Rattle.rail_rules.specs.Places.{completes, place_of}
use Rattle.rail_rules.specs.Plant.{Plant, trains, moves, moves_of}
use Rattle.rail_rules.specs.Fronts.{Line, Front, admissions, kept, kept_after, places, same_entry}
use Rattle.rail_rules.specs.Orders.{Input, told, is_cancelled}
use Rattle.rail_rules.specs.Causes.{place, is_ready, is_deciding, cause, is_told_so, places_after}
use Rattle.rail_rules.specs.Lawful.{is_bare, is_lawful, remaining}
use Rattle.rail_rules.specs.WritableLines.{does_fit_counter, is_known_move, is_known_train, is_writable, is_writable_what, is_writable_note, is_writable_cause}
use Rattle.rail_rules.proofs.CallerLemmas.{steps_claimed}
use Rattle.rail_laws_front.specs.EventLines.{IsEvent}
use Rattle.rail_laws_front.specs.EventLines.IsEvent.{entering, arriving, freeing, leaving, readying}
use Rattle.rail_laws_front.specs.Views.{Admits, Follows}
use Rattle.rail_laws_front.specs.Views.Follows.{by_event, by_admission, by_hold, by_end}
use Rattle.rail_laws_front.specs.Premises.{IsWellFormed}
use Rattle.rail_laws_front.proofs.CallerLemmas.{well_formed_from_accepted, known_train, lawful_before, lawful_last, IsEventDue, IsCommandDue, due_found, length-listed}
use Rattle.rail_laws_events.proofs.CallerLemmas.{one_entry, few_admissions, times_below}
use Rattle.rail_laws_text.proofs.Known.{fits_counter, train_known, move_known, step_known}
use Rattle.rail_laws_text.proofs.Causing.{names_known, cause_known, one_cause}
use Rattle.rail_laws_text.proofs.Listing.{list_known, remaining_known}

-- a train that is ready has a move left
pub ready_moves : (input : Input) (front : Front) (t : ℕ) → is_ready input front t ≡ true → place front t < moves input.plant t
ready_moves input front t h =
    let two = and_parts (ltb (place front t) (moves input.plant t) && not (is_cancelled t (told input.commands front))) _ h in
    let one = and_parts (ltb (place front t) (moves input.plant t)) _ two.0 in
    ltb-true (place front t) (moves input.plant t) one.0

-- the next move of a train that is ready
ready_known : (input : Input) → is_accepted input.plant ≡ true → (front : Front) (t : ℕ) → is_ready input front t ≡ true → is_known_move input.plant t (suc (place front t)) ≡ true
ready_known input ok front t h =
    let lt : place front t < moves input.plant t = ready_moves input front t h in
    move_known input.plant ok t (suc (place front t)) (known_train input.plant t (place front t) lt) (omega arith)

-- what an event line of a train says
event_known : (plant : Plant) → is_accepted plant ≡ true
    → (t : ℕ) (adms : List ℕ) (cancelled : Bool) (line : Line) → t < trains plant
    → length adms ≤ moves plant t → is_bare line ≡ true → (e : Entry) → IsEvent plant t adms cancelled e
    → is_writable_what plant line e.what ≡ true
event_known plant ok t adms cancelled line lt few bare e (entering m j lm step is) =
    let P : Entry → Type 0 = λ e. is_writable_what plant line e.what ≡ true in
    subst P (sym is) (and_from _ _ (and_from _ _ (move_known plant ok t (suc m) lt (omega arith)) (step_known plant ok t m j (omega arith) (omega (arith, step, steps_claimed plant t m)))) bare)
event_known plant ok t adms cancelled line lt few bare e (arriving m lm is) =
    let P : Entry → Type 0 = λ e. is_writable_what plant line e.what ≡ true in
    subst P (sym is) (and_from _ _ (move_known plant ok t (suc m) lt (omega arith)) bare)
event_known plant ok t adms cancelled line lt few bare e (freeing m j lm step closed is) =
    let P : Entry → Type 0 = λ e. is_writable_what plant line e.what ≡ true in
    subst P (sym is) (and_from _ _ (and_from _ _ (step_known plant ok t m j (omega arith) step) (train_known plant t lt)) bare)
event_known plant ok t adms cancelled line lt few bare e (leaving m lm last is) =
    let P : Entry → Type 0 = λ e. is_writable_what plant line e.what ≡ true in
    subst P (sym is) (and_from _ _ (train_known plant t lt) bare)
event_known plant ok t adms cancelled line lt few bare e (readying m le lm going is) =
    let P : Entry → Type 0 = λ e. is_writable_what plant line e.what ≡ true in
    subst P (sym is) (and_from _ _ (move_known plant ok t (suc m) lt (omega arith)) bare)

-- what the line of a command says
command_known : (plant : Plant) (line : Line) (b : Bool) (k : ℕ) → k < 2 ^ 64 → is_bare line ≡ true → is_writable_what plant line (cond b (Told k) (Untold k)) ≡ true
command_known plant line b k lt bare =
    cond_both b (Told k) (Untold k) (λ what. is_writable_what plant line what ≡ true)
    (λ _. and_from _ _ (fits_counter k lt) bare)
    (λ _. and_from _ _ (fits_counter k lt) bare)

-- the trains that the note of an admission brings
note_known : (input : Input) → is_accepted input.plant ≡ true → (front : Front) (line : Line) (t m : ℕ) (note : Note) → Admits input front line t m note → is_writable_note input.plant line note ≡ true
note_known input ok front line t m Pulled h = (and_parts (is_bare line) _ h.fits).0
note_known input ok front line t m Appended h = (and_parts (is_bare line) _ h.fits).0
note_known input ok front line t m Fresh h =
    let brought : kept input.plant (line ∷ front) ≡ line.trains = ap (kept_after input.plant (kept input.plant front) line) h.what in
    let s : List ℕ = places_after input front t in
    let long : length s ≡ trains input.plant = length-set (places input.plant front) t (suc (place_of (places input.plant front) t)) ∙ length-listed (λ u. length (admissions front u)) (trains input.plant) in
    list_known input.plant ok s line.trains long (subst (λ (list : List ℕ). completes (moves_of input.plant) s list ≡ true) brought h.completing)

pub below_listed : (xs : List Command) (i : ℕ) (x : Command) → slice_get xs i ≡ Some x → i < length xs
below_listed [] i x h = absurd (nothing h)
  where
    nothing : slice_get [] i ≡ Some x → ⊥
    nothing e = cc
below_listed (y ∷ xs) zero x h = omega arith
below_listed (y ∷ xs) (suc i) x h = omega (arith, below_listed xs i x h)

-- how many commands an accepted input has
pub few_commands : (input : Input) → is_accepted_input input ≡ true → length input.commands ≤ COMMANDS
few_commands input h =
    let a1 : Bool = is_accepted input.plant in
    let a2 : Bool = leb (length input.commands) COMMANDS in
    let a3 : Bool = are_commands_in_range input.plant 0 input.commands in
    let a4 : Bool = is_from_one POLICIES (length input.deck) in
    let a5 : Bool = are_distinct_names input.deck in
    let p5 = and_parts (a1 && a2 && a3 && a4 && a5) (ltb input.force (length input.deck)) h in
    let p4 = and_parts (a1 && a2 && a3 && a4) a5 p5.0 in
    let p3 = and_parts (a1 && a2 && a3) a4 p4.0 in
    let p2 = and_parts (a1 && a2) a3 p3.0 in
    let p1 = and_parts a1 a2 p2.0 in
    leb-true (length input.commands) COMMANDS p1.1

-- the plant of an accepted input is accepted
pub plant_accepted : (input : Input) → is_accepted_input input ≡ true → is_accepted input.plant ≡ true
plant_accepted input h =
    let a1 : Bool = is_accepted input.plant in
    let a2 : Bool = leb (length input.commands) COMMANDS in
    let a3 : Bool = are_commands_in_range input.plant 0 input.commands in
    let a4 : Bool = is_from_one POLICIES (length input.deck) in
    let a5 : Bool = are_distinct_names input.deck in
    let p5 = and_parts (a1 && a2 && a3 && a4 && a5) (ltb input.force (length input.deck)) h in
    let p4 = and_parts (a1 && a2 && a3 && a4) a5 p5.0 in
    let p3 = and_parts (a1 && a2 && a3) a4 p4.0 in
    let p2 = and_parts (a1 && a2) a3 p3.0 in
    (and_parts a1 a2 p2.0).0

-- what a line says that follows a lawful front
what_known : (input : Input) → is_accepted_input input ≡ true → (front : Front) → is_lawful input front ≡ true → (line : Line) → Follows input front line → is_writable_what input.plant line line.entry.what ≡ true
what_known input accepted front lawful line (by_event h) =
    let ok = plant_accepted input accepted in
    let fine : IsWellFormed input.plant = well_formed_from_accepted input.plant ok in
    let P : Entry → Type 0 = λ e. is_writable_what input.plant line e.what ≡ true in
    ⊎_elim
    (λ (due : IsEventDue input front (same_entry line.entry)).
    subst P (sym (one_entry line.entry due.entry due.passing))
    (event_known input.plant ok due.train (admissions front due.train) _ line due.known (few_admissions input fine front lawful due.train due.known) h.bare due.entry due.event))
    (λ (due : IsCommandDue input front input.commands 0 (same_entry line.entry)).
    subst P (sym (one_entry line.entry _ due.passing))
    (command_known input.plant line _ (suc (0 + due.index)) (omega (arith, below_listed input.commands due.index due.command due.listed, few_commands input accepted)) h.bare))
    (due_found input front (same_entry line.entry) h.due)
what_known input accepted front lawful line (by_admission t m note h) =
    let ok = plant_accepted input accepted in
    let ready = (and_parts (is_deciding input front) (is_ready input front t) h.waiting).1 in
    let known : is_known_move input.plant t m ≡ true = subst (λ (k : ℕ). is_known_move input.plant t k ≡ true) (sym h.next) (ready_known input ok front t ready) in
    subst (λ (what : What). is_writable_what input.plant line what ≡ true) (sym h.what)
    (and_from (is_known_move input.plant t m) (is_writable_note input.plant line note) known (note_known input ok front line t m note h))
what_known input accepted front lawful line (by_hold t m why h) =
    let ok = plant_accepted input accepted in
    let ready = (and_parts (is_ready input front t) (not (is_told_so input front t)) h.due).0 in
    let known : is_known_move input.plant t m ≡ true = subst (λ (k : ℕ). is_known_move input.plant t k ≡ true) (sym h.next) (ready_known input ok front t ready) in
    let caused : is_writable_cause input.plant why ≡ true =
    subst (λ (o : Option Cause). names_known input.plant o ≡ true) (sym (one_cause (Some why) (cause input front t) h.true_cause))
    (cause_known input ok front t (ready_moves input front t ready)) in
    subst (λ (what : What). is_writable_what input.plant line what ≡ true) (sym h.what)
    (and_from (is_known_move input.plant t m && is_writable_cause input.plant why) (is_bare line)
    (and_from (is_known_move input.plant t m) (is_writable_cause input.plant why) known caused) h.bare)
what_known input accepted front lawful line (by_end h) =
    let names : line.trains ≡ remaining input front = (bytes_decides line.trains (remaining input front)).0 h.names in
    let all : list_all (is_known_train input.plant) line.trains ≡ true =
    subst (λ (ts : List ℕ). list_all (is_known_train input.plant) ts ≡ true) (sym names) (remaining_known input front) in
    subst (λ (what : What). is_writable_what input.plant line what ≡ true) (sym h.what) all

-- each line of a lawful front can be written
pub line_writable : (input : Input) → is_accepted_input input ≡ true → (line : Line) (front : Front) → is_lawful input (line ∷ front) ≡ true → is_writable input.plant line ≡ true
line_writable input accepted line front lawful =
    and_from (does_fit_counter line.entry.at) (is_writable_what input.plant line line.entry.what)
    (fits_counter line.entry.at (omega (arith, times_below input accepted line front lawful)))
    (what_known input accepted front (lawful_before input line front lawful) line (lawful_last input line front lawful))
