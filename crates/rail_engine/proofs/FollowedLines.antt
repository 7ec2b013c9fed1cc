-- A line of a run that was made before is followed.
use Rattle.std.proofs.Common.{◌≡◌, ◌≢◌, ℕ, suc, ◌<◌, ◌≤◌, Bool, true, false, not, is_some, eqb, ◌&&◌, List, ◌∷◌, length, get_or, set, Option, Some, refl, sym, ap, ◌∙◌, subst, ⊎_elim, arith}
use Rattle.std.specs.Option.{option_map_or}
use Rattle.std.proofs.lemmas.Bool.{and_from, and_parts, and_right, cases_lt, eq-eqb, false_from_ne_true, false≢true, not-true, not_from_false}
use Rattle.rail_base.specs.declared.orders.Command.{Command}
use Rattle.rail_rules.specs.Causes.{bar, cause, could_go, is_deciding, is_ready, place, places_after, waits}
use Rattle.rail_rules.specs.Fronts.{Front, Line, has_ended, has_held, instant, is_admission, kept}
use Rattle.rail_rules.specs.Lawful.{is_lawful, may_admit, may_follow, note_fits}
use Rattle.rail_rules.specs.Places.{completes}
use Rattle.rail_base.specs.declared.history.Note.{Note}
use Rattle.rail_base.specs.declared.history.What.TheVariants.{Admit}
use Rattle.rail_rules.specs.Orders.{Input, orders_of}
use Rattle.rail_rules.specs.RunHistories.{Seat, is_chosen, is_run, is_run_line, repairs_first}
use Rattle.rail_rules.specs.Plant.{claimed, moves_of, trains}
use Rattle.rail_rules.proofs.CallerLemmas.{accepted_parts}
use Rattle.rail_laws_end.specs.Forks.{are_marks, is_built_in, kind_in_force}
use Rattle.rail_laws_end.proofs.CallerLemmas.{one_chosen}
use Rattle.rail_policy.specs.declared.offer.Offer.{Offer}
use Rattle.rail_laws_step.proofs.CallerLemmas.{run_idle}
use Rattle.rail_policy.specs.Desks.{Table, seat_in_force}
use Rattle.rail_state.specs.TrainStates.{bar_by, is_untried, state_of}
use Rattle.rail_state.specs.declared.train.TrainState.{TrainState}
use Rattle.rail_state.proofs.CallerLemmas.{could_go-untried}
use Rattle.rail_ledger.specs.declared.input.RunInput.{RunInput}
use Rattle.rail_ledger.specs.declared.ledger.Ledger.{Ledger}
use Rattle.rail_ledger.specs.declared.ledger.Listed.{Listed}
use Rattle.rail_ledger.specs.Inputs.{dispatch_in, input_in}
use Rattle.rail_ledger.specs.Ledgers.{AreAlike, AreUnbarred, HasTried, IsAt, TakesLine, admission, list_in, listed_in}
use Rattle.rail_engine.specs.Desks.{IsDesk, after_orders}
use Rattle.rail_engine.specs.Engines.{IsOfRun, StandsFor, StaysDesk}
use Rattle.rail_engine.specs.Rounds.{AreOffers, IsPicked}
use Rattle.rail_engine.proofs.Choosing.{kind_is, picked_chosen}
use Rattle.rail_engine.specs.FollowedLines.{FollowsRuns, LetsAnotherGo, LetsGoFirst}
use Rattle.rail_engine.proofs.Desks.{line_desk}
use Rattle.rail_engine.proofs.Trying.{tried_now}
use Rattle.std.proofs.lemmas.List.{get_or-set_same, get_or_past, set-get_or, set-set}
use Rattle.rail_base.specs.declared.limits.TheConstants.{TRAINS}
use Rattle.std.specs.Prelude.{IsTrue}
use Rattle.rail_base.specs.declared.history.Entry.{Entry}
use Rattle.rail_base.specs.declared.history.Note.TheVariants.{Pulled, Appended, Fresh}
use Rattle.rail_base.specs.declared.orders.PolicyKind.{PolicyKind}
use Rattle.rail_base.specs.declared.orders.PolicyKind.TheVariants.{Priority, Timetable, Fcfs, Rotating, Custom}
use Rattle.rail_rules.specs.Numbers.{comes_before}
use Rattle.rail_rules.specs.RunHistories.{key}
use Rattle.rail_rules.proofs.CallerLemmas.{all_below_from}
use Rattle.rail_laws_front.proofs.CallerLemmas.{never_goes}
use Rattle.rail_laws_step.specs.HolderTables.{own_overlap}
use Rattle.rail_policy.specs.Desks.{after_note, after_turn}
use Rattle.rail_policy.specs.Seats.{DeskSeat, asked, mark_when_asked, no_seat}
use Rattle.rail_queue.specs.Order.{first_time_of, is_sorted}
use Rattle.rail_state.specs.Representation.{AreAllKnown, is_due_now, list_for}
use Rattle.rail_state.proofs.CallerLemmas.{waits_is}
use Rattle.rail_ledger.specs.Ledgers.{IsSomewhere, MayGoOn, StandsAsBefore, line_taken, list_with, trains_taken}
use Rattle.rail_engine.specs.FollowedLines.{AdmitsInRun, ContinuesNoRun, IsAskedAlone, RefusesRuns}
use Rattle.rail_engine.specs.PolicyTurns.{IsTurn}
use Rattle.rail_engine.proofs.Desks.{noted_desk}

-- where a train could go that a policy of a built-in kind would choose, it would choose no other one
other_not : (input : Input) (seats : List Seat) (front : Front) → is_built_in (kind_in_force input seats front) ≡ true → are_marks seats ≡ true → trains input.plant ≤ TRAINS
    → (first other : ℕ) → first < trains input.plant → other < trains input.plant → first ≢ other
    → could_go input front first ≡ true → is_chosen input seats front first ≡ true → could_go input front other ≡ true → is_chosen input seats front other ≡ false
other_not input seats front built marks few first other lt_first lt_other apart goes chosen goes_other =
    false_from_ne_true (is_chosen input seats front other) (λ also. apart (one_chosen input seats front first other built marks few lt_first lt_other goes goes_other chosen also))

-- a line that is no admission continues a run, and the desk is told what it tells
run_line : (seats : List Seat) (front : Front) (new : Ledger) (line : Line) (table : Table) → IsAt (line ∷ front) new → is_admission line.entry.what ≡ false
    → IsOfRun seats new.input front table → IsOfRun seats new.input (line ∷ front) (after_orders (orders_of new.input.commands.items line.entry.what) table)
run_line seats front new line table at idle run = record {
  of_run = run_idle (input_in new.input) seats line front run.of_run
      (and_parts (is_lawful (input_in new.input) front) (may_follow (input_in new.input) front line) at.rep.lawful).1 idle;
  desk = line_desk (input_in new.input) seats front line idle table at.rep.lawful run.desk;
}

-- a line that is taken, and is no admission, is followed
pub followed_on : (old new : Ledger) (line : Line) (commands : List Command) (before after : Table) → new.input ≡ old.input → TakesLine old new line → is_admission line.entry.what ≡ false
    → commands ≡ new.input.commands.items → after ≡ after_orders (orders_of commands line.entry.what) before → FollowsRuns old new before after line
followed_on old new line commands before after same takes idle commands_are after_is = λ seats front at run.
    subst (IsOfRun seats new.input (line ∷ front)) (ap (λ list. after_orders (orders_of list line.entry.what) before) (sym commands_are) ∙ sym after_is)
    (run_line seats front new line before (takes front at) idle (subst (λ (input : RunInput). IsOfRun seats input front before) (sym same) run))

-- a line that may not follow continues no run
pub refused_run : (input : Input) (seats : List Seat) (front : Front) (line : Line) → may_follow input front line ≡ false → is_run input seats (line ∷ front) ≡ false
refused_run input seats front line never =
    ap (λ b. b && is_run_line input seats front line.entry.what)
    (ap (λ b. is_run input seats front && b) never ∙ and_right (is_run input seats front) false refl)

-- where the ledger stands for the front as before, and has not ended, the list of the last line is again what it was
pub listed_again : (old new : Ledger) (front : Front) → new.input ≡ old.input → IsAt front old → IsAt front new → old.state.has_ended ≡ false → list_in (record new { listed = old.listed }) ≡ list_in old
listed_again old new front same at then going =
    let still : has_ended front ≡ false = sym at.rep.ended ∙ going in
    let keeps : new.kept.trains ≡ old.kept.trains = then.keeps.is_list ∙ ap (λ (input : RunInput). kept input.plant front) same ∙ sym at.keeps.is_list in
    let rests : new.remaining.items ≡ old.remaining.items = then.list_empty still ∙ sym (at.list_empty still) in
    λ i. listed_in old.listed (keeps i) (rests i)

-- a train whose cause is known, or that waits not, could not go
pub tried_stays : (front : Front) (ledger : Ledger) → IsAt front ledger → is_deciding (input_in ledger.input) front ≡ true → (t : ℕ) → t < length ledger.state.trains
    → is_untried (state_of ledger.state.trains t) ≡ false → could_go (input_in ledger.input) front t ≡ false
tried_stays front ledger at deciding t lt tried = false_from_ne_true (could_go (input_in ledger.input) front t) (λ goes.
    false≢true (sym tried ∙ could_go-untried (dispatch_in ledger.input) ledger.input.plant front ledger.state at.rep deciding t (omega (arith, lt, at.rep.times.many)) goes))

-- a train for which no list is known could not go
pub none_stays : (front : Front) (old new : Ledger) → IsAt front old → is_deciding (input_in old.input) front ≡ true → (t : ℕ) → t < length old.state.trains → AreAlike old new → HasTried old new t
    → could_go (input_in old.input) front t ≡ false
none_stays front old new at deciding t lt alike tried =
    let facts = tried_now old new t lt alike tried in
    subst (λ (input : RunInput). could_go (input_in input) front t ≡ false) alike.input
    (tried_stays front new (facts.at front at) (subst (λ (input : RunInput). is_deciding (input_in input) front ≡ true) (sym alike.input) deciding) t (omega (arith, lt, facts.many))
    (false_from_ne_true (is_untried (state_of new.state.trains t)) (λ is. (facts.untried t is).1 refl)))

pub answered : (b could : Bool) → (b ≡ true → could ≡ true) → (b ≡ false → could ≡ false) → b ≡ could
answered true could so not_so = sym (so refl)
answered false could so not_so = sym (not_so refl)

module _ (first old : Ledger) (before asked : Table) (offers rest : List Offer) (t : ℕ) (same : old.input ≡ first.input) (stands : (front : Front) → IsAt front first → IsAt front old)
    (deciding : (front : Front) → IsAt front old → is_deciding (input_in old.input) front ≡ true) (stays : StaysDesk first before asked) (are : AreOffers old offers)
    (picked : IsPicked (seat_in_force asked).kind (seat_in_force asked).mark offers rest t) where
  -- the train that is picked is chosen
  pub picked_first : LetsGoFirst first before t
  picked_first = λ seats front at desk.
      subst (λ (input : RunInput). is_chosen (input_in input) seats front t ≡ true) same
      (picked_chosen front old (stands front at) seats asked (subst (λ (input : RunInput). IsDesk (input_in input) seats front asked) (sym same) (stays seats front at desk))
      (deciding front (stands front at)) offers rest t are picked)

  -- where the train that is picked could go, no other one is chosen
  pub picked_other : is_built_in (seat_in_force before).kind ≡ true → ((front : Front) → IsAt front old → could_go (input_in old.input) front t ≡ true) → t < length old.state.trains
      → (u : ℕ) → u < length first.state.trains → t ≢ u → LetsAnotherGo first before u
  picked_other built goes lt u lt_u apart = λ seats front marks at desk goes_u.
      let at_old : IsAt front old = stands front at in
      let input = input_in first.input in
      let few = (accepted_parts first.input.plant at.rep.accepted).few_trains in
      other_not input seats front (ap is_built_in (sym (kind_is front first at seats before desk)) ∙ built) marks few
      t u (omega (arith, lt, at_old.rep.times.many, ap (λ (i : RunInput). trains i.plant) same)) (omega (arith, lt_u, at.rep.times.many)) apart
      (subst (λ (i : RunInput). could_go (input_in i) front t ≡ true) same (goes front at_old)) (picked_first seats front at desk) goes_u

-- a train that could not go lets another go
pub none_goes : (first old : Ledger) (before : Table) (t : ℕ) → old.input ≡ first.input → ((front : Front) → IsAt front first → IsAt front old)
    → ((front : Front) → IsAt front old → could_go (input_in old.input) front t ≡ false) → LetsAnotherGo first before t
none_goes first old before t same stands never = λ seats front marks at desk goes.
    absurd (false≢true (sym (subst (λ (i : RunInput). could_go (input_in i) front t ≡ false) same (never front (stands front at))) ∙ goes))

-- the ledger has as many trains as before
pub as_many : (front : Front) (first old : Ledger) → old.input ≡ first.input → IsAt front first → IsAt front old → length old.state.trains ≡ length first.state.trains
as_many front first old same at then = then.rep.times.many ∙ ap (λ (i : RunInput). trains i.plant) same ∙ sym at.rep.times.many

-- what an admission of a run says of the front before it
pub record IsRunAdmission (input : Input) (seats : List Seat) (front : Front) (line : Line) (t : ℕ) (note : Note) : Type 0 where
  pub may : may_follow input front line ≡ true
  pub waiting : waits input front t ≡ true
  pub goes : could_go input front t ≡ true
  pub repairs : repairs_first input front t note ≡ true
  pub chosen : is_chosen input seats front t ≡ true

pub run_admission : (input : Input) (seats : List Seat) (front : Front) (at t m : ℕ) (note : Note) (list : List ℕ) → is_run input seats (admission at t m note list ∷ front) ≡ true
    → IsRunAdmission input seats front (admission at t m note list) t note
run_admission input seats front at t m note list run =
    let line : Line = admission at t m note list in
    let both = and_parts (is_run input seats front && may_follow input front line) (is_run_line input seats front (Admit t m note)) run in
    let may : may_follow input front line ≡ true = (and_parts (is_run input seats front) (may_follow input front line) both.0).1 in
    let chosen = and_parts (not (is_some (cause input front t)) && repairs_first input front t note) (is_chosen input seats front t) both.1 in
    let caused = and_parts (not (is_some (cause input front t))) (repairs_first input front t note) chosen.0 in
    let admits = (and_parts (not (has_ended front)) (may_admit input front line t m note) may).1 in
    let p6 = (and_parts _ (completes (moves_of input.plant) (places_after input front t) (kept input.plant (line ∷ front))) admits).0 in
    let p5 = (and_parts _ (note_fits line (place front t) note) p6).0 in
    let p4 = (and_parts _ (not (has_held front)) p5).0 in
    let p3 = (and_parts _ (eqb m (suc (place front t))) p4).0 in
    let p2 = (and_parts _ (not (is_some (bar input front t))) p3).0 in
    let waiting = (and_parts (eqb at (instant front)) (waits input front t) p2).1 in
    record {
      may = may;
      waiting = waiting;
      goes = and_from (is_ready input front t) (not (is_some (cause input front t))) (and_parts (is_deciding input front) (is_ready input front t) waiting).1 caused.0;
      repairs = caused.1;
      chosen = chosen.1;
    }

-- behind a hold line nobody could go
pub unheld : (front : Front) (ledger : Ledger) → IsAt front ledger → is_deciding (input_in ledger.input) front ≡ true → (t : ℕ) → t < length ledger.state.trains
    → could_go (input_in ledger.input) front t ≡ true → has_held front ≡ false
unheld front ledger at deciding t lt goes = false_from_ne_true (has_held front) (λ held.
    let known : t < trains ledger.input.plant = omega (arith, lt, at.rep.times.many) in
    let untried = could_go-untried (dispatch_in ledger.input) ledger.input.plant front ledger.state at.rep deciding t known goes in
    let parts = and_parts (state_of ledger.state.trains t).waits (not (is_some (state_of ledger.state.trains t).known)) untried in
    false≢true (sym (not-true (is_some (state_of ledger.state.trains t).known) parts.1) ∙ at.rep.known.no_more held t known parts.0))

-- nothing bars the trains that wait where only lists were looked for
pub unbarred_still : (old new : Ledger) → AreAlike old new → new.state.trains ≡ old.state.trains → AreUnbarred old → AreUnbarred new
unbarred_still old new alike same unbarred = λ t lt is.
    (λ i. bar_by (alike.orders i) (alike.holders i) t (own_overlap (alike.input i).plant t (state_of (same i) t).place) (claimed (alike.input i).plant t (state_of (same i) t).place))
    ∙ unbarred t (subst (λ (states : List TrainState). t < length states) same lt) (subst (λ (states : List TrainState). is_untried (state_of states t) ≡ true) same is)

-- two ledgers that are each alike to the one between them are alike
pub alike_on : (first second third : Ledger) → AreAlike first second → AreAlike second third → AreAlike first third
alike_on first second third one two = record {
  input = two.input ∙ one.input;
  orders = two.orders ∙ one.orders;
  reader = two.reader ∙ one.reader;
  queue = two.queue ∙ one.queue;
  holders = two.holders ∙ one.holders;
  instant = two.instant ∙ one.instant;
  is_settled = two.is_settled ∙ one.is_settled;
  has_ended = two.has_ended ∙ one.has_ended;
  remaining = two.remaining ∙ one.remaining;
  listed = two.listed ∙ one.listed;
}

-- before the first turn
pub asked_none : (table : Table) → IsAskedAlone table table
asked_none table = record { force = refl; seats = sym (set-get_or table.seats table.force no_seat); custom = λ _. refl }

-- a policy of a built-in kind is in force at one of the places
built_inside : (table : Table) → is_built_in (seat_in_force table).kind ≡ true → table.force < length table.seats
built_inside table built = ⊎_elim
    (λ inside. inside)
    (λ past. absurd (false≢true (sym (ap (λ (seat : DeskSeat). is_built_in seat.kind) (get_or_past table.seats table.force no_seat past)) ∙ built)))
    (cases_lt table.force (length table.seats))

-- a policy of a built-in kind keeps its mark when it is asked
mark_kept : (kind : PolicyKind) (mark : ℕ) → is_built_in kind ≡ true → mark_when_asked kind mark ≡ mark
mark_kept Priority mark built = refl
mark_kept Timetable mark built = refl
mark_kept Fcfs mark built = refl
mark_kept Rotating mark built = refl
mark_kept Custom mark built = absurd (false≢true built)

not_custom : (kind : PolicyKind) → is_built_in kind ≡ true → kind ≡ Custom → ⊥
not_custom kind built custom = false≢true (sym (ap is_built_in custom) ∙ built)

-- a turn of a policy of a built-in kind
asked_turn : (before now : Table) (offers rest : List Offer) (t : ℕ) → is_built_in (seat_in_force before).kind ≡ true → IsTurn before now offers rest t → IsAskedAlone before now
asked_turn before now offers rest t built turn =
    subst (IsAskedAlone before) (sym turn.table) (record {
      force = refl;
      seats = ap (set before.seats before.force) (λ i. record seat { mark = mark_kept seat.kind seat.mark built i; answered = (sym seat_is i).answered });
      custom = λ custom. absurd (not_custom seat.kind built custom);
    })
  where
    seat : DeskSeat
    seat = seat_in_force before

    seat_is : seat_in_force (after_turn before offers turn.answer) ≡ asked seat turn.answer
    seat_is = get_or-set_same before.seats before.force (asked seat turn.answer) no_seat (built_inside before built)

-- one turn more
pub asked_more : (first before now : Table) (offers rest : List Offer) (t : ℕ) → is_built_in (seat_in_force first).kind ≡ true → IsAskedAlone first before → IsTurn before now offers rest t
    → IsAskedAlone first now
asked_more first before now offers rest t built alone turn =
    let then : IsAskedAlone before now = asked_turn before now offers rest t (ap (λ (s : DeskSeat). is_built_in s.kind) seat_is ∙ built) turn in
    record {
      force = then.force ∙ alone.force;
      seats = then.seats ∙ (λ i. set (alone.seats i) (alone.force i) (record (seat_is i) { answered = (seat_in_force now).answered }))
          ∙ set-set first.seats first.force seat (record (seat_in_force first) { answered = (seat_in_force now).answered });
      custom = λ custom. absurd (not_custom (seat_in_force first).kind built custom);
    }
  where
    seat : DeskSeat
    seat = record (seat_in_force first) { answered = (seat_in_force before).answered }

    seat_is : seat_in_force before ≡ seat
    seat_is = (λ i. get_or (alone.seats i) (alone.force i) no_seat) ∙ get_or-set_same first.seats first.force seat no_seat (built_inside first built)

-- a custom policy lets every train go first
pub custom_first : (ledger : Ledger) (table : Table) (t : ℕ) → (seat_in_force table).kind ≡ Custom → LetsGoFirst ledger table t
custom_first ledger table t custom = λ seats front at desk.
    let input = input_in ledger.input in
    let kind : PolicyKind = kind_in_force input seats front in
    let is_custom : kind ≡ Custom = sym (kind_is front ledger at seats table desk) ∙ custom in
    all_below_from
    (λ u. not (could_go input front u && comes_before (key input seats front u kind) (key input seats front t kind)))
    (trains input.plant)
    (λ u lt. ap (λ (k : PolicyKind). not (could_go input front u && comes_before (key input seats front u k) (key input seats front t k))) is_custom
    ∙ not_from_false (could_go input front u && false) (and_right (could_go input front u) false refl))

-- an admission of a train that could go first continues no run where the policy in force lets another go first
pub another_refused : (ledger : Ledger) (table : Table) (at t m : ℕ) (note : Note) (list : List ℕ) → LetsAnotherGo ledger table t → RefusesRuns ledger table (admission at t m note list)
another_refused ledger table at t m note list another = λ seats front marks stands run.
    false_from_ne_true (is_run (input_in ledger.input) seats (admission at t m note list ∷ front)) (λ is.
    let says = run_admission (input_in ledger.input) seats front at t m note list is in
    false≢true (sym (another seats front marks stands run.desk says.goes) ∙ says.chosen))

-- an admission of a train that could not go
module _ (ledger : Ledger) (table : Table) (at t m : ℕ) (note : Note) (list : List ℕ) where
  -- where the cause of each train that waits is known
  pub known_refused : AreAllKnown ledger.input.plant ledger.state.trains → RefusesRuns ledger table (admission at t m note list)
  known_refused known = λ seats front marks stands run.
      false_from_ne_true (is_run (input_in ledger.input) seats (admission at t m note list ∷ front)) (λ is.
      let input = input_in ledger.input in
      let says = run_admission input seats front at t m note list is in
      let waiting = and_parts (is_deciding input front) (is_ready input front t) says.waiting in
      let lt : t < trains ledger.input.plant = ⊎_elim (λ here. here) (λ past. absurd (false≢true (sym (never_goes input front t past) ∙ waiting.1))) (cases_lt t (trains ledger.input.plant)) in
      let untried = could_go-untried (dispatch_in ledger.input) ledger.input.plant front ledger.state stands.rep waiting.0 t lt says.goes in
      let parts = and_parts (state_of ledger.state.trains t).waits (not (is_some (state_of ledger.state.trains t).known)) untried in
      false≢true (sym (not-true (is_some (state_of ledger.state.trains t).known) parts.1) ∙ known t lt parts.0))

  -- where an event is due at the instant
  due_refused : ledger.state.has_ended ≡ false → is_sorted ledger.state.queue.events ≡ true → first_time_of ledger.state.queue.events ≡ Some ledger.state.instant
      → RefusesRuns ledger table (admission at t m note list)
  due_refused going sorted due = λ seats front marks stands run.
      false_from_ne_true (is_run (input_in ledger.input) seats (admission at t m note list ∷ front)) (λ is.
      let says = run_admission (input_in ledger.input) seats front at t m note list is in
      let is_due : is_due_now ledger.state ≡ true = ap (λ (o : Option ℕ). option_map_or (λ (n : ℕ). eqb n ledger.state.instant) o false) due ∙ eq-eqb ledger.state.instant ledger.state.instant refl in
      let waits_so = waits_is (dispatch_in ledger.input) ledger.input.plant front ledger.state stands.rep (sym stands.rep.ended ∙ going) sorted t in
      false≢true (sym (waits_so ∙ ap (λ b. not b && (state_of ledger.state.trains t).waits) is_due) ∙ says.waiting))

  -- where an event is due at the instant, or all that waits was told why
  pub going_refused : ledger.state.has_ended ≡ false → is_sorted ledger.state.queue.events ≡ true → MayGoOn ledger → RefusesRuns ledger table (admission at t m note list)
  going_refused going sorted may = ⊎_elim
      (λ settled seats front marks stands run. known_refused (λ u lt waiting. ap is_some (stands.rep.settled settled u lt waiting).known) seats front marks stands run)
      (λ due. due_refused going sorted due)
      may

  -- where there is no such train
  pub unknown_refused : ((front : Front) → IsAt front ledger → trains ledger.input.plant ≤ t) → RefusesRuns ledger table (admission at t m note list)
  unknown_refused past = λ seats front marks stands run.
      false_from_ne_true (is_run (input_in ledger.input) seats (admission at t m note list ∷ front)) (λ is.
      let input = input_in ledger.input in
      let says = run_admission input seats front at t m note list is in
      false≢true (sym (never_goes input front t (past front stands)) ∙ (and_parts (is_deciding input front) (is_ready input front t) says.waiting).1))

-- a line that continues no run for whose front a later ledger stands
pub none_continues : (first old : Ledger) (table : Table) (line : Line) → old.input ≡ first.input → ((front : Front) → IsAt front first → IsAt front old) → ContinuesNoRun old line
    → RefusesRuns first table line
none_continues first old table line same stands none = λ seats front marks at run.
    subst (λ (i : RunInput). is_run (input_in i) seats (line ∷ front) ≡ false) same (none seats front (stands front at))

-- an admission of a run is followed
pub admission_followed : (first old new : Ledger) (before asked noted : Table) (at t m : ℕ) (note : Note) (list : List ℕ) → old.input ≡ first.input → new.input ≡ old.input
    → ((front : Front) → IsAt front first → IsAt front old) → LetsGoFirst first before t → StaysDesk first before asked → noted ≡ after_note asked t
    → AdmitsInRun old new t note (admission at t m note list) → FollowsRuns first new before noted (admission at t m note list)
admission_followed first old new before asked noted at t m note list same then_same stands lets stays is admits = λ seats front here run.
    let line : Line = admission at t m note list in
    let input = input_in first.input in
    let done = admits front (stands front here) in
    let may : may_follow input front line ≡ true = subst (λ (i : RunInput). may_follow (input_in i) front line ≡ true) (then_same ∙ same)
    (and_parts (is_lawful (input_in new.input) front) (may_follow (input_in new.input) front line) done.0.rep.lawful).1 in
    let goes : could_go input front t ≡ true = subst (λ (i : RunInput). could_go (input_in i) front t ≡ true) same done.1 in
    let repairs : repairs_first input front t note ≡ true = subst (λ (i : RunInput). repairs_first (input_in i) front t note ≡ true) same done.2 in
    let uncaused = (and_parts (is_ready input front t) (not (is_some (cause input front t))) goes).1 in
    subst (λ (i : RunInput). IsOfRun seats i (line ∷ front) noted) (sym (then_same ∙ same)) (record {
      of_run = and_from (is_run input seats front && may_follow input front line) (is_run_line input seats front (Admit t m note))
          (and_from (is_run input seats front) (may_follow input front line) run.of_run may)
          (and_from (not (is_some (cause input front t)) && repairs_first input front t note) (is_chosen input seats front t)
          (and_from (not (is_some (cause input front t))) (repairs_first input front t note) uncaused repairs)
          (lets seats front here run.desk));
      desk = noted_desk input seats front line t m note refl asked noted is (stays seats front here run.desk);
    })

-- the list that belongs to an admission is that of its line
pub admission_listed : (front : Front) (new : Ledger) (at t m : ℕ) (note : Note) (list : List ℕ) → IsAt (admission at t m note list ∷ front) new → new.listed ≡ list_with note
    → list_in new ≡ list_for note list
admission_listed front new at t m Fresh list stands is = ap (λ (l : Listed). listed_in l new.kept.trains new.remaining.items) is ∙ stands.keeps.is_list
admission_listed front new at t m Pulled list stands is = ap (λ (l : Listed). listed_in l new.kept.trains new.remaining.items) is
admission_listed front new at t m Appended list stands is = ap (λ (l : Listed). listed_in l new.kept.trains new.remaining.items) is

-- a ledger that takes a line, or stands as before, stands for some front
pub still_somewhere : (old new : Ledger) (line : Line) (taken : Bool) → IsSomewhere old → (IsTrue taken → TakesLine old new line) → (taken ≡ false → StandsAsBefore old new) → IsSomewhere new
still_somewhere old new line true some takes stays = record { front = line ∷ some.front; at = takes refl some.front some.at }
still_somewhere old new line false some takes stays = record { front = some.front; at = stays refl some.front some.at }

-- a line that is another one is followed, or continues no run, as that one
pub runs_same : (old new : Ledger) (before after : Table) (first second : Line) → first ≡ second → FollowsRuns old new before after second → FollowsRuns old new before after first
runs_same old new before after first second same runs = subst (FollowsRuns old new before after) (sym same) runs

pub refuses_same : (old : Ledger) (before : Table) (first second : Line) → first ≡ second → RefusesRuns old before second → RefusesRuns old before first
refuses_same old before first second same refuses = subst (RefusesRuns old before) (sym same) refuses

-- a desk that was not asked
pub unasked : (before after : Table) → after ≡ before → IsAskedAlone before after
unasked before after same = subst (IsAskedAlone before) (sym same) (asked_none before)

-- what an engine stands for, as it is seen, and a line that continues no run
pub refuses_stands : (seen old : Ledger) (before : Table) (line : Line) (taken : Bool) → old ≡ seen → (taken ≡ false → RefusesRuns old before line) → taken ≡ false
    → (seats : List Seat) (front : Front) → IsTrue (are_marks seats) → StandsFor seats front seen before → is_run (input_in seen.input) seats (line ∷ front) ≡ false
refuses_stands seen old before line taken same refuses is = λ seats front marks stands.
    let from : StandsFor seats front old before = subst (λ (ledger : Ledger). StandsFor seats front ledger before) (sym same) stands in
    subst (λ (ledger : Ledger). is_run (input_in ledger.input) seats (line ∷ front) ≡ false) same (refuses is seats front marks from.at from.run)

-- what an engine stands for, as it is seen
module _ (seen old new : Ledger) (before after : Table) (entry : Entry) (list : List ℕ) (taken : Bool) (same : old ≡ seen) where
  -- a line that is followed
  pub follows_stands : (IsTrue taken → TakesLine old new (line_taken entry list)) → (IsTrue taken → FollowsRuns old new before after (line_taken entry list))
      → (IsTrue taken → list_in new ≡ trains_taken entry.what list) → IsTrue taken → (seats : List Seat) (front : Front) → StandsFor seats front seen before
      → StandsFor seats (line_taken entry list ∷ front) new after
  follows_stands takes runs listed is = λ seats front stands.
      let from : StandsFor seats front old before = subst (λ (ledger : Ledger). StandsFor seats front ledger before) (sym same) stands in
      record { at = takes is front from.at; run = runs is seats front from.at from.run; list = listed is }

  -- the engine stands as before
  pub unchanged_stands : new.input ≡ old.input → (taken ≡ false → StandsAsBefore old new) → (taken ≡ false → StaysDesk old before after) → (taken ≡ false → list_in new ≡ list_in old)
      → taken ≡ false → (seats : List Seat) (front : Front) → StandsFor seats front seen before → StandsFor seats front new after
  unchanged_stands input stays stays_desk unlisted is = λ seats front stands.
      let from : StandsFor seats front old before = subst (λ (ledger : Ledger). StandsFor seats front ledger before) (sym same) stands in
      record {
        at = stays is front from.at;
        run = subst (λ (i : RunInput). IsOfRun seats i front after) (sym input) (record { of_run = from.run.of_run; desk = stays_desk is seats front from.at from.run.desk });
        list = unlisted is ∙ from.list;
      }
