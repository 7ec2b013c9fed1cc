-- A ready line that happens is that of the next move of its train.
use Rattle.std.proofs.Common.{◌≡◌, ℕ, suc, ◌+◌, ◌<◌, ◌≤◌, Bool, true, false, cond, List, [], ◌∷◌, ◌++◌, length, get_or, refl, sym, ap, ◌∙◌, subst, ⊎_elim, arith}
use Rattle.std.proofs.lemmas.Bool.{cases_lt, false≢true, or_cases, eq-eqb, cond_both}
use Rattle.rail_base.specs.declared.history.Entry.{Entry}
use Rattle.rail_base.specs.declared.history.What.{What}
use Rattle.rail_base.specs.declared.history.What.TheVariants.{Ready, Told, Untold}
use Rattle.rail_rules.specs.Plant.{Plant, trains, moves}
use Rattle.rail_rules.specs.Fronts.{Line, Front, at_time, admits, admissions, code_of, same_entry, stands}
use Rattle.rail_rules.specs.Orders.{Input, told, is_cancelled, takes_effect}
use Rattle.rail_rules.specs.Events.{command_line, ready_line}
use Rattle.rail_rules.specs.Causes.{place}
use Rattle.rail_rules.specs.Lawful.{is_lawful}
use Rattle.rail_laws_front.specs.EventLines.{IsEvent}
use Rattle.rail_laws_front.specs.EventLines.IsEvent.{entering, arriving, freeing, leaving, readying}
use Rattle.rail_laws_front.specs.Views.{Happens, Follows}
use Rattle.rail_laws_front.specs.Views.Follows.{by_event, by_admission, by_hold, by_end}
use Rattle.rail_laws_front.proofs.CallerLemmas.{lawful_before, lawful_last, length_added, due_found}
use Rattle.rail_laws_events.proofs.CallerLemmas.{one_entry, ready_stood}
use Rattle.rail_laws_step.specs.LineKinds.{is_ready_line}

-- a ready line names its train
pub names_train : (t n : ℕ) (what : What) → what ≡ Ready t n → is_ready_line t what ≡ true
names_train t n what is = ap (is_ready_line t) is ∙ eq-eqb t t refl

-- an event line of a train that is a ready line
pub record IsReadyOf (plant : Plant) (u : ℕ) (adms : List ℕ) (cancelled : Bool) (e : Entry) (t n : ℕ) : Type 0 where
  pub train : t ≡ u
  pub move : ℕ
  pub number : n ≡ suc move
  pub reached : move ≤ length adms
  pub room : move < moves plant u
  pub runs : cancelled ≡ false
  pub is : e ≡ ready_line plant u adms move

ready_of : (plant : Plant) (u : ℕ) (adms : List ℕ) (c : Bool) (e : Entry) (t n : ℕ) → e.what ≡ Ready t n → IsEvent plant u adms c e → IsReadyOf plant u adms c e t n
ready_of plant u adms c e t n what (entering m j lm lj is) = absurd (false≢true (sym (ap (λ (x : Entry). is_ready_line t x.what) is) ∙ names_train t n e.what what))
ready_of plant u adms c e t n what (arriving m lm is) = absurd (false≢true (sym (ap (λ (x : Entry). is_ready_line t x.what) is) ∙ names_train t n e.what what))
ready_of plant u adms c e t n what (freeing m j lm lj closed is) = absurd (false≢true (sym (ap (λ (x : Entry). is_ready_line t x.what) is) ∙ names_train t n e.what what))
ready_of plant u adms c e t n what (leaving m lm last is) = absurd (false≢true (sym (ap (λ (x : Entry). is_ready_line t x.what) is) ∙ names_train t n e.what what))
ready_of plant u adms c e t n what (readying m lm lmoves runs is) =
    let said : Ready t n ≡ Ready u (suc m) = sym what ∙ ap (λ (x : Entry). x.what) is in
    record {
      train = ap (λ w. get_or (code_of w) 1 0) said;
      move = m;
      number = ap (λ w. get_or (code_of w) 2 0) said;
      reached = lm;
      room = lmoves;
      runs = runs;
      is = is;
    }

-- the line of a command is no ready line
no_command : (b : Bool) (t k : ℕ) → is_ready_line t (cond b (Told k) (Untold k)) ≡ false
no_command true t k = refl
no_command false t k = refl

-- a due line that is a ready line
pub record IsReadyDue (input : Input) (front : Front) (e : Entry) (t n : ℕ) : Type 0 where
  pub known : t < trains input.plant
  pub event : IsReadyOf input.plant t (admissions front t) (is_cancelled t (told input.commands front)) e t n
  pub unwritten : stands front e ≡ false

ready_due : (input : Input) (front : Front) (line : Line) (t n : ℕ) → line.entry.what ≡ Ready t n → Happens input front line → IsReadyDue input front line.entry t n
ready_due input front line t n what happens =
    ⊎_elim
    (λ due.
    let same : line.entry ≡ due.entry = one_entry line.entry due.entry due.passing in
    let c : ℕ → Bool = λ u. is_cancelled u (told input.commands front) in
    let P : Entry → Type 0 = λ x. IsEvent input.plant due.train (admissions front due.train) (c due.train) x in
    let Q : Entry → Type 0 = λ x. stands front x ≡ false in
    let of : IsReadyOf input.plant due.train (admissions front due.train) (c due.train) line.entry t n = ready_of input.plant due.train (admissions front due.train) (c due.train) line.entry t n what (subst P (sym same) due.event) in
    let R : ℕ → Type 0 = λ u. (u < trains input.plant) × IsReadyOf input.plant u (admissions front u) (c u) line.entry t n in
    let mine : R t = subst R (sym of.train) (due.known, of) in
    record { known = mine.0; event = mine.1; unwritten = subst Q (sym same) due.unwritten })
    (λ due.
    let told_line : Entry = command_line input front due.command (0 + due.index) in
    let same : line.entry ≡ told_line = one_entry line.entry told_line due.passing in
    absurd (false≢true (sym (no_command (takes_effect input front (told input.commands front) due.command.what) t (suc (0 + due.index))) ∙ sym (ap (λ (x : Entry). is_ready_line t x.what) same) ∙ names_train t n line.entry.what what)))
    (due_found input front (same_entry line.entry) happens.due)

-- a ready line follows as an event
ready_happens : (input : Input) (front : Front) (line : Line) (t n : ℕ) → line.entry.what ≡ Ready t n → Follows input front line → Happens input front line
ready_happens input front line t n what (by_event happens) = happens
ready_happens input front line t n what (by_admission u m note admits) = absurd (false≢true (sym (ap (is_ready_line t) admits.what) ∙ names_train t n line.entry.what what))
ready_happens input front line t n what (by_hold u m why holds) = absurd (false≢true (sym (ap (is_ready_line t) holds.what) ∙ names_train t n line.entry.what what))
ready_happens input front line t n what (by_end ends) = absurd (false≢true (sym (ap (is_ready_line t) ends.what) ∙ names_train t n line.entry.what what))

pub ready_followed : (input : Input) (front : Front) (line : Line) (t n : ℕ) → line.entry.what ≡ Ready t n → Follows input front line → IsReadyDue input front line.entry t n
ready_followed input front line t n what follows = ready_due input front line t n what (ready_happens input front line t n what follows)

-- the ready lines of admitted moves stand, so a due one is that of the next move
pub next_is_ready : (input : Input) (front : Front) → is_lawful input front ≡ true → (e : Entry) (t n : ℕ) → (due : IsReadyDue input front e t n) → due.event.move ≡ place front t
next_is_ready input front lawful e t n due =
    ⊎_elim
    (λ below. absurd (false≢true (sym due.unwritten ∙ ap (stands front) due.event.is ∙ ready_stood input front lawful t due.event.move below)))
    (λ above. omega (arith, above, due.event.reached))
    (cases_lt due.event.move (place front t))

-- places never fall
pub place_grows : (line : Line) (front : Front) (t : ℕ) → place front t ≤ place (line ∷ front) t
place_grows line front t =
    cond_both (admits t line.entry.what) (admissions front t ++ line.entry.at ∷ []) (admissions front t) (λ adms. place front t ≤ length adms)
    (λ _. omega (arith, length_added (admissions front t) line.entry.at))
    (λ _. omega arith)

-- no move after the next one has a ready line
pub ready_reached : (input : Input) (front : Front) → is_lawful input front ≡ true → (time t m : ℕ) → stands front (at_time time (Ready t (suc m))) ≡ true → m ≤ place front t
ready_reached input [] lawful time t m stood = absurd (false≢true stood)
ready_reached input (line ∷ front) lawful time t m stood =
    ⊎_elim
    (λ here.
    let same : at_time time (Ready t (suc m)) ≡ line.entry = one_entry (at_time time (Ready t (suc m))) line.entry here in
    let due = ready_followed input front line t (suc m) (sym (ap (λ (e : Entry). e.what) same)) (lawful_last input line front lawful) in
    omega (arith, due.event.number, due.event.reached, place_grows line front t))
    (λ earlier. omega (arith, ready_reached input front (lawful_before input line front lawful) time t m earlier, place_grows line front t))
    (or_cases (same_entry (at_time time (Ready t (suc m))) line.entry) (stands front (at_time time (Ready t (suc m)))) stood)
