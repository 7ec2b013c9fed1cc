-- The numbers of each line of a lawful front are within the limits.
use Rattle.std.proofs.Common.{◌≡◌, ℕ, suc, ◌+◌, ◌<◌, ◌≤◌, Bool, true, not, ◌&&◌, cond, leb, List, [], ◌∷◌, length, refl, sym, ap, ◌∙◌, subst, ⊎_elim, arith}
use Rattle.std.specs.Cmp.Lexicographic.{bytes_decides}
use Rattle.std.proofs.lemmas.Bool.{and_parts, and_from, cond_both, eqb-false, le-leb, lt-ltb, not-true}
use Rattle.std.proofs.lemmas.List.{length-set}
use Rattle.rail_base.specs.Limits.{most, is_from_one, Commands, FreshLines, FreshTrains, ItineraryRoutes}
use Rattle.rail_base.specs.declared.limits.TheConstants.{COMMANDS}
use Rattle.rail_base.specs.declared.history.Entry.{Entry}
use Rattle.rail_base.specs.declared.history.What.{What}
use Rattle.rail_base.specs.declared.history.What.TheVariants.{Told, Untold}
use Rattle.rail_base.specs.declared.history.Note.{Note}
use Rattle.rail_base.specs.declared.history.Note.TheVariants.{Pulled, Appended, Fresh}
use Rattle.rail_rules.specs.Accepted.{is_accepted, is_accepted_input}
use Rattle.rail_rules.specs.Causes.{place, is_ready, is_deciding, is_told_so, places_after}
use Rattle.rail_rules.specs.Fronts.{Line, Front, admissions, is_admission, kept, kept_after, places, same_entry}
use Rattle.rail_rules.specs.Lawful.{is_bare, is_lawful}
use Rattle.rail_rules.specs.LineCounts.{lines_that}
use Rattle.rail_rules.specs.Numbers.{sum_below}
use Rattle.rail_rules.specs.Orders.{Input}
use Rattle.rail_rules.specs.Places.{completes, place_of}
use Rattle.rail_rules.specs.Plant.{Plant, moves, moves_of, trains}
use Rattle.rail_rules.proofs.CallerLemmas.{accepted_parts, row_in_range, sum_below-le}
use Rattle.rail_laws_front.specs.EventLines.{IsEvent}
use Rattle.rail_laws_front.specs.EventLines.IsEvent.{entering, arriving, freeing, leaving, readying}
use Rattle.rail_laws_front.specs.Views.{Admits, Follows}
use Rattle.rail_laws_front.specs.Views.Follows.{by_event, by_admission, by_hold, by_end}
use Rattle.rail_laws_front.specs.Premises.{IsWellFormed}
use Rattle.rail_laws_front.proofs.CallerLemmas.{well_formed_from_accepted, known_train, lawful_before, lawful_last, IsEventDue, IsCommandDue, due_found, length-listed}
use Rattle.rail_laws_events.proofs.CallerLemmas.{admissions_counted, few_admissions, one_entry}
use Rattle.rail_laws_text.specs.LimitedLines.{is_limited_note, is_limited_what}
use Rattle.rail_laws_text.proofs.Listing.{few_moves, list_short}
use Rattle.rail_laws_text.proofs.Writing.{below_listed, few_commands, plant_accepted, ready_moves}

-- the number of a move of a train
move_limited : (plant : Plant) → is_accepted plant ≡ true → (t m : ℕ) → t < trains plant → m ≤ moves plant t → leb m (most ItineraryRoutes) ≡ true
move_limited plant ok t m lt le =
    le-leb m (most ItineraryRoutes) (omega (arith, le, (row_in_range plant (accepted_parts plant ok).trains_in_range t lt).few_moves))

-- what an event line of a train says
event_limited : (plant : Plant) → is_accepted plant ≡ true → (t : ℕ) (adms : List ℕ) (cancelled : Bool) (list : List ℕ) → t < trains plant
    → length adms ≤ moves plant t → (e : Entry) → IsEvent plant t adms cancelled e → is_limited_what e.what list ≡ true
event_limited plant ok t adms cancelled list lt few e (entering m j lm step is) =
    subst (λ (e : Entry). is_limited_what e.what list ≡ true) (sym is) (move_limited plant ok t (suc m) lt (omega arith))
event_limited plant ok t adms cancelled list lt few e (arriving m lm is) =
    subst (λ (e : Entry). is_limited_what e.what list ≡ true) (sym is) (move_limited plant ok t (suc m) lt (omega arith))
event_limited plant ok t adms cancelled list lt few e (freeing m j lm step closed is) = subst (λ (e : Entry). is_limited_what e.what list ≡ true) (sym is) refl
event_limited plant ok t adms cancelled list lt few e (leaving m lm last is) = subst (λ (e : Entry). is_limited_what e.what list ≡ true) (sym is) refl
event_limited plant ok t adms cancelled list lt few e (readying m le lm going is) =
    subst (λ (e : Entry). is_limited_what e.what list ≡ true) (sym is) (move_limited plant ok t (suc m) lt (omega arith))

-- what the line of a command says
command_limited : (list : List ℕ) (b : Bool) (k : ℕ) → k ≤ most Commands → is_limited_what (cond b (Told k) (Untold k)) list ≡ true
command_limited list b k le =
    cond_both b (Told k) (Untold k) (λ what. is_limited_what what list ≡ true) (λ _. le-leb k (most Commands) le) (λ _. le-leb k (most Commands) le)

-- the list that a note brings
note_limited : (input : Input) → is_accepted input.plant ≡ true → (front : Front) (line : Line) (t m : ℕ) (note : Note) → Admits input front line t m note → is_limited_note note line.trains ≡ true
note_limited input ok front line t m Pulled h = refl
note_limited input ok front line t m Appended h = refl
note_limited input ok front line t m Fresh h =
    let brought : kept input.plant (line ∷ front) ≡ line.trains = ap (kept_after input.plant (kept input.plant front) line) h.what in
    let s : List ℕ = places_after input front t in
    let long : length s ≡ trains input.plant = length-set (places input.plant front) t (suc (place_of (places input.plant front) t)) ∙ length-listed (λ u. length (admissions front u)) (trains input.plant) in
    let short = list_short input.plant ok s line.trains long (subst (λ (list : List ℕ). completes (moves_of input.plant) s list ≡ true) brought h.completing) in
    let some : (length line.trains ≡ 0) → ⊥ = eqb-false (length line.trains) 0 (not-true (is_bare line) h.fits) in
    and_from (leb 1 (length line.trains)) (leb (length line.trains) (most FreshTrains))
    (le-leb 1 (length line.trains) (omega (arith, some)))
    (le-leb (length line.trains) (most FreshTrains) (omega (arith, short)))

-- what a line says that follows a lawful front
what_limited : (input : Input) → is_accepted_input input ≡ true → (front : Front) → is_lawful input front ≡ true → (line : Line) → Follows input front line → is_limited_what line.entry.what line.trains ≡ true
what_limited input accepted front lawful line (by_event h) =
    let ok = plant_accepted input accepted in
    let fine : IsWellFormed input.plant = well_formed_from_accepted input.plant ok in
    let P : Entry → Type 0 = λ e. is_limited_what e.what line.trains ≡ true in
    ⊎_elim
    (λ (due : IsEventDue input front (same_entry line.entry)).
    subst P (sym (one_entry line.entry due.entry due.passing))
    (event_limited input.plant ok due.train (admissions front due.train) _ line.trains due.known (few_admissions input fine front lawful due.train due.known) due.entry due.event))
    (λ (due : IsCommandDue input front input.commands 0 (same_entry line.entry)).
    subst P (sym (one_entry line.entry _ due.passing))
    (command_limited line.trains _ (suc (0 + due.index)) (omega (arith, below_listed input.commands due.index due.command due.listed, few_commands input accepted))))
    (due_found input front (same_entry line.entry) h.due)
what_limited input accepted front lawful line (by_admission t m note h) =
    let ok = plant_accepted input accepted in
    let ready = (and_parts (is_deciding input front) (is_ready input front t) h.waiting).1 in
    let moving = ready_moves input front t ready in
    let known = known_train input.plant t (place front t) moving in
    subst (λ (what : What). is_limited_what what line.trains ≡ true) (sym h.what)
    (and_from (leb m (most ItineraryRoutes)) (is_limited_note note line.trains) (move_limited input.plant ok t m known (omega (arith, moving, h.next))) (note_limited input ok front line t m note h))
what_limited input accepted front lawful line (by_hold t m why h) =
    let ok = plant_accepted input accepted in
    let ready = (and_parts (is_ready input front t) (not (is_told_so input front t)) h.due).0 in
    let moving = ready_moves input front t ready in
    subst (λ (what : What). is_limited_what what line.trains ≡ true) (sym h.what)
    (move_limited input.plant ok t m (known_train input.plant t (place front t) moving) (omega (arith, moving, h.next)))
what_limited input accepted front lawful line (by_end h) = subst (λ (what : What). is_limited_what what line.trains ≡ true) (sym h.what) refl

-- the numbers of each line of a lawful front are within the limits
pub line_limited : (input : Input) → is_accepted_input input ≡ true → (line : Line) (front : Front) → is_lawful input (line ∷ front) ≡ true → is_limited_what line.entry.what line.trains ≡ true
line_limited input accepted line front lawful =
    what_limited input accepted front (lawful_before input line front lawful) line (lawful_last input line front lawful)

-- a lawful front has no more admissions than a plant has moves
pub few_admitted : (input : Input) → is_accepted_input input ≡ true → (front : Front) → is_lawful input front ≡ true → lines_that is_admission front ≤ most FreshLines
few_admitted input accepted front lawful =
    let ok = plant_accepted input accepted in
    let fine : IsWellFormed input.plant = well_formed_from_accepted input.plant ok in
    let each : sum_below (place front) (trains input.plant) ≤ sum_below (moves input.plant) (trains input.plant) =
    sum_below-le (place front) (moves input.plant) (trains input.plant) (λ t lt. few_admissions input fine front lawful t lt) in
    omega (arith, admissions_counted input front lawful, each, few_moves input.plant ok)
