-- How far the times of a lawful front reach.
use Rattle.std.proofs.Common.{◌≡◌, ℕ, zero, suc, ◌+◌, ◌*◌, ◌-◌, ◌<◌, ◌≤◌, ◌^◌, max, Bool, true, false, not, ◌&&◌, cond, eqb, leb, List, [], ◌∷◌, ◌++◌, length, Some, sym, ap, ◌∙◌, subst, ⊎_elim, arith}
use Rattle.std.specs.List.{slice_get}
use Rattle.std.proofs.lemmas.Bool.{cases_Bool, cases_eq, cases_lt, false≢true, and_parts, or_parts, leb-true, ltb-true, cond_both}
use Rattle.rail_base.specs.declared.history.Entry.{Entry}
use Rattle.rail_base.specs.declared.history.Note.{Note}
use Rattle.rail_base.specs.declared.orders.Command.{Command}
use Rattle.rail_base.specs.declared.limits.TheConstants.{INPUT_TIME, COMMANDS, LIST_TRAINS, ITINERARY_ROUTES}
use Rattle.rail_rules.specs.Numbers.{sum_below}
use Rattle.rail_rules.specs.Plant.{Plant, trains, moves, move_row, steps, is_forced, dwell, departure, run_over}
use Rattle.rail_rules.specs.Fronts.{Line, Front, instant, is_admission, admissions, same_entry}
use Rattle.rail_rules.specs.Orders.{Input, told, is_cancelled}
use Rattle.rail_rules.specs.Times.{stop_time, depart_time, signal_time, does_pass, start_time, start_loss, head_time, admitted, previous, is_admitted, free_run, ready, passes, go, enter, stop_at, arrive, leave, out}
use Rattle.rail_rules.specs.Intervals.{does_stand, is_open, clears_from, timer_end, is_taken_over, end_time}
use Rattle.rail_rules.specs.Events.{command_line}
use Rattle.rail_rules.specs.Causes.{place}
use Rattle.rail_rules.specs.Lawful.{is_lawful}
use Rattle.rail_rules.specs.Accepted.{is_accepted, is_order_in_range, are_commands_in_range, is_accepted_input}
use Rattle.rail_rules.proofs.CallerLemmas.{sum_below_same, sum_below-lt, enter_before_run, admissions_kept, end_needed, end_taken, end_timed, taken_parts}
use Rattle.rail_laws_front.specs.Premises.{IsWellFormed}
use Rattle.rail_laws_front.specs.EventLines.{IsEvent}
use Rattle.rail_laws_front.specs.EventLines.IsEvent.{entering, arriving, freeing, leaving, readying}
use Rattle.rail_laws_front.specs.Views.{Happens, Admits, Follows}
use Rattle.rail_laws_front.specs.Views.Follows.{by_event, by_admission, by_hold, by_end}
use Rattle.rail_laws_front.proofs.CallerLemmas.{lawful_before, lawful_last, well_formed_from_accepted, agree_added, admitted_added, length_added, free_run_agrees, run_after_go, admission_added, admission_of_other, event_admits_nothing, waiting_parts, due_found, waiting_known, timely, same_time}
use Rattle.rail_laws_events.proofs.Written.{few_admissions}
use Rattle.rail_laws_events.proofs.Limits.{IsLimited, limited, sum-limited}

-- the times of a train whose free running times reach so far
module _ (plant : Plant) (fine : IsWellFormed plant) (h : IsLimited plant) (t : ℕ) (known : t < trains plant) (adms : List ℕ) (few : length adms ≤ moves plant t) (v : ℕ) (high : 8640000 ≤ v) (runs : (m : ℕ) → m ≤ length adms → free_run plant t adms m ≤ v) where
  pub depart_within : (p arrived : ℕ) → p ≤ moves plant t → arrived ≤ v → depart_time plant t p arrived ≤ v + 8646000
  depart_within zero arrived le near = omega (arith, near, h.stop t known)
  depart_within (suc m) arrived le near =
      cond_both (is_forced plant t (suc m)) (max (stop_time plant t arrived + dwell plant t (suc m)) (departure plant t (suc m))) (stop_time plant t arrived) (λ x. x ≤ v + 8646000)
      (λ _. omega (arith, near, h.stop t known, h.stands t m (omega (arith, le)), h.departs t m (omega (arith, le)), high))
      (λ _. omega (arith, near, h.stop t known))

  pub ready_within : (m : ℕ) → m ≤ length adms → previous adms m ≤ v + 8646000 → ready plant t adms m ≤ v + 8646000
  ready_within m le before =
      let near = runs m le in
      cond_both (is_forced plant t m)
      (max (previous adms m) (depart_time plant t m (free_run plant t adms m) - signal_time plant t m))
      (max (previous adms m) (free_run plant t adms m - (signal_time plant t m + (move_row plant t m).approach)))
      (λ x. x ≤ v + 8646000)
      (λ _. omega (arith, before, depart_within m (free_run plant t adms m) (omega (arith, le, few)) near))
      (λ _. omega (arith, before, near))

  pub go_within : (m : ℕ) → m < length adms → go plant t adms m ≤ v
  go_within m lt = omega (arith, run_after_go plant t fine adms m (omega (arith, lt, few)), runs (suc m) (omega (arith, lt)))

  pub enter_within : (m j : ℕ) → m < length adms → j ≤ steps plant t m → enter plant t adms m j ≤ v
  enter_within m j lt le = omega (arith, enter_before_run plant t adms m j le, runs (suc m) (omega (arith, lt)))

  admitted_next : (m : ℕ) → passes plant t adms (suc m) ≡ true → suc m < length adms
  admitted_next m passing = ltb-true (suc m) (length adms) (and_parts (is_admitted adms (suc m)) (does_pass plant t (suc m) (previous adms (suc m)) (free_run plant t adms (suc m)) (admitted adms (suc m))) passing).0

  pub arrive_within : (m : ℕ) → m < length adms → arrive plant t adms m ≤ v + 6000
  arrive_within m lt =
      let near = runs (suc m) (omega (arith, lt)) in
      cond_both (eqb (suc m) (moves plant t)) (free_run plant t adms (suc m)) (cond (passes plant t adms (suc m)) (go plant t adms (suc m)) (stop_at plant t adms m)) (λ x. x ≤ v + 6000)
      (λ _. omega (arith, near))
      (λ _. cond_both (passes plant t adms (suc m)) (go plant t adms (suc m)) (stop_at plant t adms m) (λ x. x ≤ v + 6000)
      (λ passing. omega (arith, go_within (suc m) (admitted_next m passing)))
      (λ _. omega (arith, near, h.stop t known)))

  leave_within : (m j : ℕ) → m < length adms → j < steps plant t m → leave plant t adms m j ≤ v + 6000
  leave_within m j lt lj =
      cond_both (eqb (suc j) (steps plant t m)) (arrive plant t adms m) (enter plant t adms m (suc j)) (λ x. x ≤ v + 6000)
      (λ _. arrive_within m lt)
      (λ _. omega (arith, enter_within m (suc j) lt (omega (arith, lj))))

  loss_within : (b : Bool) (m : ℕ) → start_loss plant t b ≤ 6000
  loss_within true m = omega arith
  loss_within false m = omega (arith, h.start t known)

  timer_within : (m : ℕ) → m < length adms → timer_end plant t adms m ≤ v + 12000
  timer_within m lt = omega (arith, arrive_within m lt, h.overlap_time)

  pub end_within : (m j : ℕ) → m < length adms → is_open plant t adms m j ≡ false → end_time plant t adms m j ≤ v + 8646000
  end_within m j lt closed =
      ⊎_elim
      (λ lj.
      let clear = h.clears t m j (omega (arith, lt, few)) lj in
      let from : clears_from plant t adms m j ≤ v + 6000 =
      cond_both (does_stand plant t m j) (go plant t adms (suc m) + start_loss plant t (passes plant t adms (suc m))) (leave plant t adms m j) (λ x. x ≤ v + 6000)
      (λ stands.
      let next : suc m < length adms =
      ⊎_elim
      (λ is. ltb-true (suc m) (length adms) is)
      (λ none. absurd (false≢true (sym closed ∙ (λ i. stands i && not (none i)))))
      (cases_Bool (is_admitted adms (suc m))) in
      omega (arith, go_within (suc m) next, loss_within (passes plant t adms (suc m)) m))
      (λ _. leave_within m j lt lj) in
      omega (arith, end_needed plant t adms m j lj, from, clear, h.release))
      (λ over. ⊎_elim
      (λ taken. omega (arith, end_taken plant t adms m j taken, (taken_parts plant t adms m j taken).before, timer_within m lt))
      (λ untaken. omega (arith, end_timed plant t adms m j over untaken, timer_within m lt))
      (cases_Bool (is_taken_over plant t adms m j)))
      (cases_lt j (steps plant t m))

  pub out_within : (m : ℕ) → m < length adms → out plant t adms m ≤ v + 8646000
  out_within m lt =
      omega (arith, arrive_within m lt, h.clears t m (steps plant t m - 1) (omega (arith, lt, few)) (omega (arith, fine.some_step t m (omega (arith, lt, few)))))

  pub event_within : (c : Bool) (e : Entry) → ((m : ℕ) → m < length adms → admitted adms m ≤ v + 8646000) → IsEvent plant t adms c e → e.at ≤ v + 8646000
  event_within c e before (entering m j lm lj is) = omega (arith, ap (λ (x : Entry). x.at) is, enter_within m j lm (omega (arith, lj)))
  event_within c e before (arriving m lm is) = omega (arith, ap (λ (x : Entry). x.at) is, arrive_within m lm)
  event_within c e before (freeing m j lm lj freed is) = omega (arith, ap (λ (x : Entry). x.at) is, end_within m j lm (or_parts (is_open plant t adms m j) (is_taken_over plant t adms m j) freed).0)
  event_within c e before (leaving m lm last is) = omega (arith, ap (λ (x : Entry). x.at) is, out_within m lm)
  event_within c e before (readying m lm lmoves run is) = omega (arith, ap (λ (x : Entry). x.at) is, ready_within m lm (at_previous m lm))
    where
      at_previous : (m : ℕ) → m ≤ length adms → previous adms m ≤ v + 8646000
      at_previous zero le = omega arith
      at_previous (suc k) le = before k (omega (arith, le))

  -- one more admission takes the free running times further by so much at most
  pub next_run : (a : ℕ) → a ≤ v + 8646000 → length adms < moves plant t → free_run plant t (adms ++ a ∷ []) (suc (length adms)) ≤ v + 124000000
  next_run a near room =
      let n : ℕ = length adms in
      let more : List ℕ = adms ++ a ∷ [] in
      let arrived : free_run plant t more n ≡ free_run plant t adms n = free_run_agrees plant t more adms n n (agree_added adms a) (omega arith) in
      let at : admitted more n ≡ a = admitted_added adms a in
      let arrived_near : free_run plant t more n ≤ v = omega (arith, arrived, runs n (omega arith)) in
      let passing : Bool = is_admitted more n && does_pass plant t n (previous more n) (free_run plant t more n) (admitted more n) in
      let begun : ℕ = start_time plant t n (free_run plant t more n) (admitted more n) passing in
      let begun_near : begun ≤ v + 8694000 =
      cond_both passing (admitted more n + signal_time plant t n + (move_row plant t n).approach) (max (depart_time plant t n (free_run plant t more n)) (admitted more n + signal_time plant t n)) (λ x. x ≤ v + 8694000)
      (λ _. omega (arith, at, near, h.signal t n room))
      (λ _. omega (arith, at, near, h.signal t n room, depart_within n (free_run plant t more n) (omega (arith, room)) arrived_near)) in
      omega (arith, head_near n begun passing (steps plant t n), begun_near, loss_within passing n, h.runs t n (steps plant t n) room (omega arith))
    where
      head_near : (m begun : ℕ) (passing : Bool) (j : ℕ) → head_time plant t m begun passing j ≤ begun + start_loss plant t passing + run_over plant t m j
      head_near m begun passing zero = omega arith
      head_near m begun passing (suc j) = omega arith

-- how far the times reach after so many admissions
reach : ℕ → ℕ
reach n = 8640000 + 124000000 * n

-- all admissions of a front
all_admitted : Plant → Front → ℕ
all_admitted plant front = sum_below (place front) (trains plant)

record IsWithin (plant : Plant) (front : Front) : Type 0 where
  now : instant front ≤ reach (all_admitted plant front) + 8646000
  free : (t m : ℕ) → t < trains plant → m ≤ place front t → free_run plant t (admissions front t) m ≤ reach (all_admitted plant front)

-- how far the times of any lawful front reach
pub record Reaches (plant : Plant) (front : Front) : Type 0 where
  pub admission : (t m : ℕ) → m < place front t → admitted (admissions front t) m ≤ 4063240640000 + 8646000
  pub run : (t m : ℕ) → t < trains plant → m ≤ place front t → free_run plant t (admissions front t) m ≤ 4063240640000

-- a command of an accepted input comes within the limit
command_within : (plant : Plant) (earliest : ℕ) (commands : List Command) (k : ℕ) (command : Command) → are_commands_in_range plant earliest commands ≡ true → slice_get commands k ≡ Some command → command.at ≤ 8640000
command_within plant earliest [] zero command fine listed = cc
command_within plant earliest [] (suc k) command fine listed = cc
command_within plant earliest (first ∷ commands) zero command fine listed =
    let one : Bool = leb earliest first.at in
    let two : Bool = leb first.at INPUT_TIME in
    let both = and_parts one two (and_parts (one && two) (is_order_in_range plant first.what) (and_parts (one && two && is_order_in_range plant first.what) (are_commands_in_range plant first.at commands) fine).0).0 in
    let same : first ≡ command = cc in
    omega (arith, leb-true first.at INPUT_TIME both.1, ap (λ (c : Command). c.at) same)
command_within plant earliest (first ∷ commands) (suc k) command fine listed =
    command_within plant first.at commands k command (and_parts (leb earliest first.at && leb first.at INPUT_TIME && is_order_in_range plant first.what) (are_commands_in_range plant first.at commands) fine).1 listed

module _ (input : Input) (accepted : is_accepted input.plant ≡ true) (commands : are_commands_in_range input.plant 0 input.commands ≡ true) where
  fine : IsWellFormed input.plant
  fine = well_formed_from_accepted input.plant accepted

  limits : IsLimited input.plant
  limits = limited input.plant accepted

  event_reaches : (line : Line) (front : Front) → is_lawful input front ≡ true → IsWithin input.plant front → Happens input front line → line.entry.at ≤ reach (all_admitted input.plant front) + 8646000
  unfolding reach
  event_reaches line front lawful h happens =
      ⊎_elim
      (λ due.
      let time = same_time line.entry due.entry due.passing in
      omega (
        arith,
        time,
        event_within input.plant fine limits due.train due.known (admissions front due.train) (few_admissions input fine front lawful due.train due.known) (reach (all_admitted input.plant front)) (omega arith) (λ m le. h.free due.train m due.known le)
            (is_cancelled due.train (told input.commands front)) due.entry
            (λ m lt. omega (arith, (timely input fine front lawful).admitted_by due.train m lt, h.now)) due.event,
      ))
      (λ due.
      let time = same_time line.entry (command_line input front due.command (0 + due.index)) due.passing in
      omega (arith, time, command_within input.plant 0 input.commands due.index due.command commands due.listed))
      (due_found input front (same_entry line.entry) happens.due)

  idle_within : (line : Line) (front : Front) → is_admission line.entry.what ≡ false → IsWithin input.plant front → line.entry.at ≤ reach (all_admitted input.plant front) + 8646000 → IsWithin input.plant (line ∷ front)
  unfolding all_admitted
  idle_within line front idle h near =
      let same : (t : ℕ) → admissions (line ∷ front) t ≡ admissions front t = λ t. admissions_kept line front t idle in
      let sums : sum_below (place (line ∷ front)) (trains input.plant) ≡ sum_below (place front) (trains input.plant) = sum_below_same (place (line ∷ front)) (place front) (trains input.plant) (λ t _. ap length (same t)) in
      let far : reach (sum_below (place (line ∷ front)) (trains input.plant)) ≡ reach (sum_below (place front) (trains input.plant)) = ap reach sums in
      record {
        now = omega (arith, near, far);
        free = λ t m lt le.
            let P : List ℕ → Type 0 = λ adms. m ≤ length adms → free_run input.plant t adms m ≤ reach (sum_below (place (line ∷ front)) (trains input.plant)) in
            subst P (sym (same t)) (λ le_before. omega (arith, far, h.free t m lt le_before)) le;
      }

  admission_within : (line : Line) (front : Front) (t m : ℕ) (note : Note) → is_lawful input front ≡ true → IsWithin input.plant front → Admits input front line t m note → IsWithin input.plant (line ∷ front)
  unfolding all_admitted reach
  admission_within line front t m note lawful h admits =
      let room = (waiting_parts input front t admits.waiting).room in
      let known = waiting_known input.plant t (place front t) room in
      let added : admissions (line ∷ front) t ≡ admissions front t ++ line.entry.at ∷ [] = admission_added line front t m note admits.what in
      let other : (u : ℕ) → (u ≡ t → ⊥) → admissions (line ∷ front) u ≡ admissions front u = λ u ne. admission_of_other line front t m note u admits.what ne in
      let raised : place (line ∷ front) t ≡ suc (place front t) = ap length added ∙ length_added (admissions front t) line.entry.at in
      let no_less : (u : ℕ) → u < trains input.plant → place front u ≤ place (line ∷ front) u = λ u _.
      ⊎_elim
      (λ same. let P : ℕ → Type 0 = λ v. place front v ≤ place (line ∷ front) v in subst P (sym same) (omega (arith, raised)))
      (λ ne. omega (arith, ap (length {A = ℕ}) (other u ne)))
      (cases_eq u t) in
      let further : sum_below (place front) (trains input.plant) < sum_below (place (line ∷ front)) (trains input.plant) =
      sum_below-lt (place front) (place (line ∷ front)) (trains input.plant) t known no_less (omega (arith, raised)) in
      let adms : List ℕ = admissions front t in
      let near : line.entry.at ≤ reach (sum_below (place front) (trains input.plant)) + 8646000 = omega (arith, admits.now, h.now) in
      let of_train : (n : ℕ) → n ≤ suc (length adms) → free_run input.plant t (adms ++ line.entry.at ∷ []) n ≤ reach (sum_below (place (line ∷ front)) (trains input.plant)) = λ n le.
      ⊎_elim
      (λ below. omega (arith, further, free_run_agrees input.plant t (adms ++ line.entry.at ∷ []) adms (length adms) n (agree_added adms line.entry.at) (omega (arith, below)), h.free t n known (omega (arith, below))))
      (λ above.
      let last : n ≡ suc (length adms) = omega (arith, le, above) in
      let P : ℕ → Type 0 = λ k. free_run input.plant t (adms ++ line.entry.at ∷ []) k ≤ reach (sum_below (place (line ∷ front)) (trains input.plant)) in
      subst P (sym last) (omega (
        arith,
        further,
        next_run input.plant fine limits t known adms (few_admissions input fine front lawful t known) (reach (sum_below (place front) (trains input.plant))) (omega arith) (λ k le_k. h.free t k known le_k) line.entry.at near room,
      )))
      (cases_lt n (suc (length adms))) in
      record {
        now = omega (arith, near, further);
        free = λ u n lu le.
            ⊎_elim
            (λ same.
            let P : ℕ → Type 0 = λ v. n ≤ place (line ∷ front) v → free_run input.plant v (admissions (line ∷ front) v) n ≤ reach (sum_below (place (line ∷ front)) (trains input.plant)) in
            let Q : List ℕ → Type 0 = λ list. free_run input.plant t list n ≤ reach (sum_below (place (line ∷ front)) (trains input.plant)) in
            subst P (sym same) (λ le_t. subst Q (sym added) (of_train n (omega (arith, le_t, raised)))) le)
            (λ ne.
            let P : List ℕ → Type 0 = λ list. n ≤ length list → free_run input.plant u list n ≤ reach (sum_below (place (line ∷ front)) (trains input.plant)) in
            subst P (sym (other u ne)) (λ le_u. omega (arith, further, h.free u n lu le_u)) le)
            (cases_eq u t);
      }

  within : (front : Front) → is_lawful input front ≡ true → IsWithin input.plant front
  unfolding reach
  within [] lawful = record {
    now = omega arith;
    free = λ t m lt le.
        let none : m ≡ 0 = omega (arith, le) in
        let P : ℕ → Type 0 = λ k. free_run input.plant t [] k ≤ 8640000 + 124000000 * all_admitted input.plant [] in
        subst P (sym none) (omega (arith, limits.entry t lt));
  }
  within (line ∷ front) lawful =
      let before : IsWithin input.plant front = within front (lawful_before input line front lawful) in
      step before (lawful_last input line front lawful)
    where
      step : IsWithin input.plant front → Follows input front line → IsWithin input.plant (line ∷ front)
      step h (by_event happens) = idle_within line front (event_admits_nothing line.entry.what happens.event) h (event_reaches line front (lawful_before input line front lawful) h happens)
      step h (by_admission t m note admits) = admission_within line front t m note (lawful_before input line front lawful) h admits
      step h (by_hold t m why holds) = idle_within line front (ap is_admission holds.what) h (omega (arith, holds.now, h.now))
      step h (by_end ends) = idle_within line front (ap is_admission ends.what) h (omega (arith, ends.now, h.now))

  -- no front has more admissions than there may be moves
  few_admitted : (front : Front) → is_lawful input front ≡ true → all_admitted input.plant front ≤ LIST_TRAINS
  unfolding all_admitted
  few_admitted front lawful =
      omega (
        arith,
        sum-limited (place front) ITINERARY_ROUTES (trains input.plant) (λ t lt. omega (arith, few_admissions input fine front lawful t lt, limits.few_moves t lt)),
        limits.few,
      )

  time_below : (line : Line) (front : Front) → is_lawful input (line ∷ front) ≡ true → line.entry.at < 2 ^ 50
  unfolding reach
  time_below line front lawful = omega (arith, (within (line ∷ front) lawful).now, few_admitted (line ∷ front) lawful)

  train_reaches : (front : Front) → is_lawful input front ≡ true → Reaches input.plant front
  unfolding reach
  train_reaches front lawful = record {
    admission = λ t m lt. omega (arith, (timely input fine front lawful).admitted_by t m lt, (within front lawful).now, few_admitted front lawful);
    run = λ t m known le. omega (arith, (within front lawful).free t m known le, few_admitted front lawful);
  }

-- what an accepted input says of its plant and of its commands
pub input_parts : (input : Input) → is_accepted_input input ≡ true → (is_accepted input.plant ≡ true) × (are_commands_in_range input.plant 0 input.commands ≡ true)
input_parts input accepted =
    let of_deck = and_parts _ _ accepted in
    let of_names = and_parts _ _ of_deck.0 in
    let of_policies = and_parts _ _ of_names.0 in
    let of_commands = and_parts (is_accepted input.plant && leb (length input.commands) COMMANDS) (are_commands_in_range input.plant 0 input.commands) of_policies.0 in
    let of_plant = and_parts (is_accepted input.plant) (leb (length input.commands) COMMANDS) of_commands.0 in
    (of_plant.0, of_commands.1)

pub times_below : (input : Input) → is_accepted_input input ≡ true → (line : Line) (front : Front) → is_lawful input (line ∷ front) ≡ true → line.entry.at < 2 ^ 50
times_below input accepted line front lawful =
    let parts = input_parts input accepted in
    time_below input parts.0 parts.1 line front lawful

pub reaches : (input : Input) → is_accepted_input input ≡ true → (front : Front) → is_lawful input front ≡ true → Reaches input.plant front
reaches input accepted front lawful =
    let parts = input_parts input accepted in
    train_reaches input parts.0 parts.1 front lawful
