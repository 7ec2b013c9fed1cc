-- How many lines are due at once: few, for each section that is held and each train.
use Rattle.std.proofs.Common.{◌≡◌, ℕ, zero, suc, ◌+◌, ◌-◌, ◌*◌, ◌<◌, ◌≤◌, min, Bool, true, false, not, ◌&&◌, ◌||◌, cond, eqb, ltb, List, [], ◌∷◌, ◌++◌, length, get_or, Option, Some, None, refl, sym, ap, ◌∙◌, ⊎_elim, arith}
use Rattle.std.proofs.lemmas.Bool.{and_from, and_parts, cases_Bool, cases_lt, cond-true, cond-false, eqb-true, eq-eqb, ne_eqb, false≢true, ltb-true, not_from_true}
use Rattle.std.proofs.lemmas.Nat.{le-div}
use Rattle.rail_base.specs.declared.history.Entry.{Entry}
use Rattle.rail_base.specs.declared.history.What.{What}
use Rattle.rail_base.specs.declared.history.What.TheVariants.{Free, Arrive, Enter, Out, Ready, Told, Untold, Admit, Hold, End}
use Rattle.rail_rules.specs.Accepted.{is_accepted}
use Rattle.rail_rules.specs.Causes.{place}
use Rattle.rail_rules.specs.Events.{arrive_line, due_lines, enter_line, free_lines, move_events, moved_events, out_lines, ready_events, ready_line, train_events}
use Rattle.rail_rules.specs.Fronts.{Front, admissions, at_time, instant, stands}
use Rattle.rail_rules.specs.Intervals.{end_time, freed_at, is_open, is_taken_over}
use Rattle.rail_rules.specs.Lawful.{is_lawful}
use Rattle.rail_rules.specs.Numbers.{gather, sum_below}
use Rattle.rail_rules.specs.Orders.{Input, told}
use Rattle.rail_rules.specs.Plant.{Plant, claimed, claims, move_row, moves, overlap, section, step_section, steps, train, trains}
use Rattle.rail_rules.specs.Times.{arrive, clearing, enter, leave, out}
use Rattle.rail_rules.proofs.CallerLemmas.{accepted_parts, claims_are, end_needed, enter_before_leave, leave_before_clearing, list_all_get, move_in_range, needed_not_taken, row_in_range, section_in_range, steps_claimed}
use Rattle.rail_laws_front.specs.EventLines.IsEvent.{entering, arriving}
use Rattle.rail_laws_front.specs.Invariant.{IsOpenOrWritten, IsTimely}
use Rattle.rail_laws_front.specs.Premises.{IsWellFormed}
use Rattle.rail_laws_front.proofs.CallerLemmas.{timely, well_formed_from_accepted}
use Rattle.rail_laws_events.specs.Accounts.{all_events, tally, to_come, written}
use Rattle.rail_laws_events.proofs.CallerLemmas.{account, few_admissions, ready_stood, sum-constant, tally-append, tally-filter, tally-gather, tally-le, tally_all}
use Rattle.rail_laws_step.specs.HolderTables.{frees, frees_for, is_train, taken}
use Rattle.rail_laws_step.specs.KeptLines.{is_kept}
use Rattle.rail_laws_step.specs.LinesToCome.{ToCome}
use Rattle.rail_laws_step.specs.MostDue.{most_due}
use Rattle.rail_laws_step.proofs.Amounts.{sum-at, sum-le, sum-more, sum-only, sum-shared, sum-two, sum-zero}
use Rattle.rail_laws_step.proofs.Blocking.{written_same}
use Rattle.rail_laws_step.proofs.Coming.{to_come_found}
use Rattle.rail_laws_step.proofs.Commands.{commands_few}
use Rattle.rail_laws_step.proofs.Frees.{all_freed, freed, freed_one, frees_by}
use Rattle.rail_laws_step.proofs.HoldersThere.{HasHolders, holders_there}
use Rattle.rail_laws_step.proofs.Split.{due_split}

-- a free line by its section and train
free_what : (x t : ℕ) (w : What) → frees_for x t w ≡ true → w ≡ Free x t
free_what x t (Free y u) is =
    let both = and_parts (eqb y x) (eqb u t) is in
    let section : y ≡ x = eqb-true y x both.0 in
    let train : u ≡ t = eqb-true u t both.1 in
    λ i. Free (section i) (train i)
free_what x t (Arrive u m) is = absurd (false≢true is)
free_what x t (Enter u m y) is = absurd (false≢true is)
free_what x t (Out u) is = absurd (false≢true is)
free_what x t (Ready u m) is = absurd (false≢true is)
free_what x t (Told k) is = absurd (false≢true is)
free_what x t (Untold k) is = absurd (false≢true is)
free_what x t (Admit u m note) is = absurd (false≢true is)
free_what x t (Hold u m why) is = absurd (false≢true is)
free_what x t End is = absurd (false≢true is)

free_entry : (x t : ℕ) (e : Entry) → frees x t e ≡ true → e ≡ at_time e.at (Free x t)
free_entry x t e is =
    let what : e.what ≡ Free x t = free_what x t e.what is in
    λ i. at_time e.at (what i)

one_at_most : (b : Bool) → cond b 1 0 ≤ 1
one_at_most true = omega arith
one_at_most false = omega arith

-- no more than one number below the bound is the given one
one_only : (k n : ℕ) → sum_below (λ i. cond (eqb k i) 1 0) n ≤ 1
one_only k n =
    let is_it : ℕ → ℕ = λ i. cond (eqb k i) 1 0 in
    ⊎_elim
    (λ lt. omega (arith, sum-only is_it n k lt (λ i li other. cond-false {A = ℕ} (eqb k i) 1 0 (ne_eqb k i (λ e. other (sym e)))), one_at_most (eqb k k)))
    (λ past. omega (arith, sum-zero is_it n (λ i li. cond-false {A = ℕ} (eqb k i) 1 0 (ne_eqb k i (λ e. omega (arith, e, li, past))))))
    (cases_lt k n)

-- no more than one train is the holder
one_train : (o : Option ℕ) (n : ℕ) → sum_below (λ t. cond (is_train t o) 1 0) n ≤ 1
one_train None n = omega (arith, sum-zero (λ t. 0) n (λ t lt. refl))
one_train (Some u) n = one_only u n

-- no more than one move is the last one
one_last : (last n : ℕ) → n ≤ last → sum_below (λ m. cond (eqb (suc m) last) 1 0) n ≤ 1
one_last last n le =
    let is_it : ℕ → ℕ = λ m. cond (eqb (suc m) last) 1 0 in
    let is_number : ℕ → ℕ = λ m. cond (eqb (last - 1) m) 1 0 in
    omega (
      arith,
      sum-le is_it is_number n (λ m lm. ⊎_elim
          (λ same. omega (arith, one_at_most (eqb (suc m) last), cond-true {A = ℕ} (eqb (last - 1) m) 1 0 (eq-eqb (last - 1) m (omega (arith, eqb-true (suc m) last same)))))
          (λ other. omega (arith, cond-false {A = ℕ} (eqb (suc m) last) 1 0 other))
          (cases_Bool (eqb (suc m) last))),
      one_only (last - 1) n,
    )

module _ (input : Input) (accepted : is_accepted input.plant ≡ true) (front : Front) (lawful : is_lawful input front ≡ true) where
  fine : IsWellFormed input.plant
  fine = well_formed_from_accepted input.plant accepted

  time : IsTimely input front
  time = timely input fine front lawful

  there : HasHolders input.plant front
  there = holders_there input accepted front lawful

  few : (t : ℕ) → t < trains input.plant → place front t ≤ moves input.plant t
  few t known = few_admissions input fine front lawful t known

  -- the entry doesn't stand
  abbrev fresh : Entry → Bool
  fresh e = not (stands front e)

  -- the free line of a step
  abbrev free_line : ℕ → ℕ → ℕ → Entry
  free_line t m j = at_time (end_time input.plant t (admissions front t) m j) (Free (step_section input.plant t m j) t)

  -- 1 where the train holds the section for the step: its free line doesn't stand, and the next move didn't take it over
  abbrev held : ℕ → ℕ → ℕ → ℕ
  held t m j = cond (is_taken_over input.plant t (admissions front t) m j) 0 (cond (is_open input.plant t (admissions front t) m j) 1 (cond (fresh (free_line t m j)) 1 0))

  abbrev held_by_move : ℕ → ℕ → ℕ
  held_by_move t m = sum_below (held t m) (claims input.plant t m)

  abbrev held_by : ℕ → ℕ
  held_by t = sum_below (held_by_move t) (place front t)

  -- the sections of a move are known, and clearing them takes time
  section_known : (t m j : ℕ) → t < trains input.plant → m < moves input.plant t → j < claims input.plant t m → step_section input.plant t m j < length input.plant.tables.sections
  section_known t m j known lm lj =
      let row = row_in_range input.plant (accepted_parts input.plant accepted).trains_in_range t known in
      let move = move_in_range (length input.plant.tables.sections) (move_row input.plant t m) (row.each_move m lm) in
      ltb-true (step_section input.plant t m j) (length input.plant.tables.sections) (list_all_get (λ y. ltb y (length input.plant.tables.sections)) (claimed input.plant t m) j 0 move.known lj)

  some_clearing : (t x : ℕ) → t < trains input.plant → x < length input.plant.tables.sections → 0 < clearing input.plant t x
  some_clearing t x known lx =
      let parts = accepted_parts input.plant accepted in
      let kind = (row_in_range input.plant parts.trains_in_range t known).kind in
      let row = section_in_range input.plant parts.sections x lx in
      let long : ℕ = 36 * (train input.plant t).kind.length in
      let fast : ℕ = min (train input.plant t).kind.speed (section input.plant x).speed in
      le-div 1 (long + (fast - 1)) fast (omega (arith, kind.some_speed, row.some_speed)) (omega (arith, kind.some_length))

  -- a needed section is freed after the head left it
  freed_later : (t m j : ℕ) → t < trains input.plant → m < moves input.plant t → j < steps input.plant t m → leave input.plant t (admissions front t) m j < end_time input.plant t (admissions front t) m j
  freed_later t m j known lm lj =
      omega (
        arith,
        end_needed input.plant t (admissions front t) m j lj,
        leave_before_clearing input.plant t (admissions front t) m j lj,
        some_clearing t (step_section input.plant t m j) known (section_known t m j known lm (omega (arith, lj, steps_claimed input.plant t m))),
      )

  -- so it is held while its head is to enter or to leave it
  needed_held : (t m j at : ℕ) → j < steps input.plant t m → instant front ≤ at → at < end_time input.plant t (admissions front t) m j → held t m j ≡ 1
  needed_held t m j at lj going before =
      of (is_taken_over input.plant t (admissions front t) m j) (is_open input.plant t (admissions front t) m j) (stands front (free_line t m j)) (needed_not_taken input.plant t (admissions front t) m j lj)
      (⊎_elim (λ stood. absurd (omega (arith, going, before, time.past (free_line t m j) stood))) (λ isnt. isnt) (cases_Bool (stands front (free_line t m j))))
    where
      of : (taken_there opens stood : Bool) → taken_there ≡ false → stood ≡ false → ◌≡◌ {A = ℕ} (cond taken_there 0 (cond opens 1 (cond (not stood) 1 0))) 1
      of true opens stood untaken unstood = absurd (false≢true (sym untaken))
      of false true stood untaken unstood = refl
      of false false true untaken unstood = absurd (false≢true (sym unstood))
      of false false false untaken unstood = refl

  -- an event line that is to come counts once, and not before the instant
  counts_once : (e : Entry) (n : ℕ) → IsOpenOrWritten front e → (instant front ≤ e.at → n ≡ 1) → cond (fresh e) 1 0 ≤ n
  counts_once e n either one =
      ⊎_elim
      (λ stood. omega (arith, cond-false {A = ℕ} (fresh e) 1 0 (not_from_true (stands front e) stood)))
      (λ going. omega (arith, one_at_most (fresh e), one going))
      either

  -- Of a train and an admitted move of it: no more lines are to come than three for each section that it holds, and the out line.
  module _ (t : ℕ) (known : t < trains input.plant) where
    abbrev adms : List ℕ
    adms = admissions front t

    module _ (m : ℕ) (lm : m < place front t) where
      room : m < moves input.plant t
      room = omega (arith, lm, few t known)

      enter_few : (j : ℕ) → j < steps input.plant t m → tally fresh (enter_line input.plant t adms m j ∷ []) ≤ held t m j
      enter_few j lj =
          omega (
            arith,
            counts_once (enter_line input.plant t adms m j) (held t m j)
                (time.events t (enter_line input.plant t adms m j) known (entering m j lm lj refl))
                (λ going. needed_held t m j (enter input.plant t adms m j) lj going (omega (arith, enter_before_leave input.plant t adms m j lj, freed_later t m j known room lj))),
          )

      enters_few : tally fresh (gather (λ j. enter_line input.plant t adms m j ∷ []) (steps input.plant t m)) ≤ held_by_move t m
      enters_few =
          omega (
            arith,
            tally-gather fresh (λ j. enter_line input.plant t adms m j ∷ []) (steps input.plant t m),
            sum-le (λ j. tally fresh (enter_line input.plant t adms m j ∷ [])) (held t m) (steps input.plant t m) enter_few,
            sum-more (held t m) (steps input.plant t m) (length (overlap input.plant t m)),
            ap (sum_below (held t m)) (claims_are input.plant t m),
          )

      arrive_few : tally fresh (arrive_line input.plant t adms m ∷ []) ≤ held_by_move t m
      arrive_few =
          let some : 0 < steps input.plant t m = fine.some_step t m room in
          let j : ℕ = steps input.plant t m - 1 in
          let lj : j < steps input.plant t m = omega (arith, some) in
          let last : suc j ≡ steps input.plant t m = omega (arith, some) in
          let left : leave input.plant t adms m j ≡ arrive input.plant t adms m = cond-true (eqb (suc j) (steps input.plant t m)) (arrive input.plant t adms m) (enter input.plant t adms m (suc j)) (eq-eqb (suc j) (steps input.plant t m) last) in
          omega (
            arith,
            counts_once (arrive_line input.plant t adms m) (held t m j)
                (time.events t (arrive_line input.plant t adms m) known (arriving m lm refl))
                (λ going. needed_held t m j (arrive input.plant t adms m) lj going (omega (arith, left, freed_later t m j known room lj))),
            sum-at (held t m) (claims input.plant t m) j (omega (arith, lj, steps_claimed input.plant t m)),
          )

      free_few : (j : ℕ) → tally fresh (free_lines t (step_section input.plant t m j) (freed_at input.plant t adms m j)) ≤ held t m j
      free_few j = of (is_open input.plant t adms m j) (is_taken_over input.plant t adms m j)
        where
          of : (opens taken_there : Bool) → tally fresh (free_lines t (step_section input.plant t m j) (cond (opens || taken_there) None (Some (end_time input.plant t adms m j)))) ≤ cond taken_there 0 (cond opens 1 (cond (fresh (free_line t m j)) 1 0))
          of true true = omega arith
          of true false = omega arith
          of false true = omega arith
          of false false = omega arith

      frees_few : tally fresh (gather (λ j. free_lines t (step_section input.plant t m j) (freed_at input.plant t adms m j)) (claims input.plant t m)) ≤ held_by_move t m
      frees_few =
          omega (
            arith,
            tally-gather fresh (λ j. free_lines t (step_section input.plant t m j) (freed_at input.plant t adms m j)) (claims input.plant t m),
            sum-le (λ j. tally fresh (free_lines t (step_section input.plant t m j) (freed_at input.plant t adms m j))) (held t m) (claims input.plant t m) (λ j lj. free_few j),
          )

      out_few : tally fresh (out_lines input.plant t adms m) ≤ cond (eqb (suc m) (moves input.plant t)) 1 0
      out_few = of (eqb (suc m) (moves input.plant t))
        where
          of : (last : Bool) → tally fresh (cond last (at_time (out input.plant t adms m) (Out t) ∷ []) []) ≤ cond last 1 0
          of true = omega (arith, one_at_most (fresh (at_time (out input.plant t adms m) (Out t))))
          of false = omega arith

      move_few : tally fresh (move_events input.plant t adms m) ≤ 3 * held_by_move t m + cond (eqb (suc m) (moves input.plant t)) 1 0
      move_few =
          let enters : List Entry = gather (λ j. enter_line input.plant t adms m j ∷ []) (steps input.plant t m) in
          let arrives : List Entry = arrive_line input.plant t adms m ∷ [] in
          let frees_lines : List Entry = gather (λ j. free_lines t (step_section input.plant t m j) (freed_at input.plant t adms m j)) (claims input.plant t m) in
          omega (
            arith,
            tally-append fresh (enters ++ arrives ++ frees_lines) (out_lines input.plant t adms m),
            tally-append fresh (enters ++ arrives) frees_lines,
            tally-append fresh enters arrives,
            enters_few,
            arrive_few,
            frees_few,
            out_few,
          )

    -- the lines of all its moves
    moved_few : (n : ℕ) → n ≤ place front t → tally fresh (gather (move_events input.plant t adms) n) ≤ 3 * sum_below (held_by_move t) n + sum_below (λ m. cond (eqb (suc m) (moves input.plant t)) 1 0) n
    moved_few zero le = omega arith
    moved_few (suc n) le =
        omega (
          arith,
          tally-append fresh (gather (move_events input.plant t adms) n) (move_events input.plant t adms n),
          moved_few n (omega (arith, le)),
          move_few n (omega (arith, le)),
        )

    -- the ready lines of its admitted moves stand
    ready_few : tally fresh (ready_events input.plant t adms) ≤ 1
    ready_few =
        let p : ℕ = place front t in
        let one : ℕ → ℕ = λ m. tally fresh (ready_line input.plant t adms m ∷ []) in
        let stood : (m : ℕ) → m < p → one m ≡ 0 = λ m lm. omega (arith, cond-false {A = ℕ} (fresh (ready_line input.plant t adms m)) 1 0 (not_from_true (stands front (ready_line input.plant t adms m)) (ready_stood input front lawful t m lm))) in
        let none : sum_below one p ≡ 0 = sum-zero one p stood in
        let n : ℕ = min (suc p) (moves input.plant t) in
        let within : sum_below one n ≤ sum_below one (suc p) = omega (arith, sum-more one n (suc p - n), ap (sum_below one) (up_to n (suc p) (omega arith))) in
        omega (
          arith,
          tally-gather fresh (λ m. ready_line input.plant t adms m ∷ []) n,
          within,
          none,
          one_at_most (fresh (ready_line input.plant t adms p)),
        )
      where
        up_to : (n k : ℕ) → n ≤ k → n + (k - n) ≡ k
        up_to n k le = omega (arith, le)

    train_few : tally fresh (train_events input.plant t adms false) ≤ 3 * held_by t + 2
    train_few =
        omega (
          arith,
          tally-append fresh (moved_events input.plant t adms) (ready_events input.plant t adms),
          moved_few (place front t) (omega arith),
          one_last (moves input.plant t) (place front t) (few t known),
          ready_few,
        )

  all_few : (n : ℕ) → n ≤ trains input.plant → tally fresh (gather (λ t. train_events input.plant t (admissions front t) false) n) ≤ 3 * sum_below held_by n + 2 * n
  all_few zero le = omega arith
  all_few (suc n) le =
      omega (
        arith,
        tally-append fresh (gather (λ t. train_events input.plant t (admissions front t) false) n) (train_events input.plant n (admissions front n) false),
        all_few n (omega (arith, le)),
        train_few n (omega (arith, le)),
      )

  -- Of a section: by no more than one train is it held.

  -- what counts of a step for a section
  abbrev at_section : ℕ → ℕ → ℕ → ℕ → ℕ
  at_section x t m j = cond (eqb (step_section input.plant t m j) x) (held t m j) 0

  abbrev held_there : ℕ → ℕ → ℕ
  held_there x t = sum_below (λ m. sum_below (at_section x t m) (claims input.plant t m)) (place front t)

  -- whether the free line of the train and section at a time stands
  abbrev stood_at : ℕ → ℕ → ℕ → Bool
  stood_at x t n = stands front (at_time n (Free x t))

  -- each interval that isn't taken over is held, or its free line stands
  one_interval : (x t m j : ℕ) → cond (eqb (step_section input.plant t m j) x && not (is_taken_over input.plant t (admissions front t) m j)) 1 0 ≡ freed_one input.plant t (admissions front t) x (stood_at x t) m j + at_section x t m j
  one_interval x t m j =
      let n : ℕ = end_time input.plant t (admissions front t) m j in
      of (eqb (step_section input.plant t m j) x) (is_taken_over input.plant t (admissions front t) m j) (is_open input.plant t (admissions front t) m j) (stands front (free_line t m j)) (stood_at x t n)
      (λ here. ap (λ y. stands front (at_time n (Free y t))) (eqb-true (step_section input.plant t m j) x here))
    where
      of : (here taken_there opens stood stood_there : Bool) → (here ≡ true → stood ≡ stood_there)
          → cond (here && not taken_there) 1 0 ≡ cond (opens || taken_there) 0 (cond (here && stood_there) 1 0) + cond here (cond taken_there 0 (cond opens 1 (cond (not stood) 1 0))) 0
      of true true true s r same = refl
      of true true false s r same = refl
      of true false true s r same = refl
      of true false false true true same = refl
      of true false false false false same = refl
      of true false false true false same = absurd (false≢true (sym (same refl)))
      of true false false false true same = absurd (false≢true (same refl))
      of false true true s r same = refl
      of false true false s r same = refl
      of false false true s r same = refl
      of false false false s r same = refl

  taken_is : (x t : ℕ) → taken input.plant t (admissions front t) x ≡ freed input.plant t (admissions front t) x (stood_at x t) + held_there x t
  taken_is x t =
      let took : ℕ → ℕ → ℕ = λ m j. cond (eqb (step_section input.plant t m j) x && not (is_taken_over input.plant t (admissions front t) m j)) 1 0 in
      sum-two (λ m. sum_below (took m) (claims input.plant t m)) (λ m. sum_below (freed_one input.plant t (admissions front t) x (stood_at x t) m) (claims input.plant t m)) (λ m. sum_below (at_section x t m) (claims input.plant t m)) (place front t)
      (λ m lm. sum-two (took m) (freed_one input.plant t (admissions front t) x (stood_at x t) m) (at_section x t m) (claims input.plant t m) (λ j lj. one_interval x t m j))

  abbrev free_stood : ℕ → ℕ → Entry → Bool
  free_stood x t = frees_by x t (stood_at x t)

  -- a free line of the train and section stands exactly where one stands at its time
  same_stood : (x t : ℕ) (e : Entry) → frees x t e ≡ true → stood_at x t e.at ≡ stands front e
  same_stood x t e is = ap (stands front) (sym (free_entry x t e is))

  none_stood : (x t : ℕ) → tally (free_stood x t) (to_come input.plant front) ≡ 0
  none_stood x t =
      ⊎_elim
      (λ some.
      let found : ToCome input.plant front (free_stood x t) = to_come_found input.plant front (free_stood x t) some in
      let parts = and_parts (frees x t found.entry) (stood_at x t found.entry.at) found.passes in
      absurd (false≢true (sym found.fresh ∙ sym (same_stood x t found.entry parts.0) ∙ parts.1)))
      (λ none. omega (arith, none))
      (cases_lt 0 (tally (free_stood x t) (to_come input.plant front)))

  written_stood : (x t : ℕ) → tally (frees x t) (written front) ≡ tally (free_stood x t) (written front)
  written_stood x t = written_same (frees x t) (free_stood x t) front (λ e stood. ⊎_elim
      (λ is. is ∙ sym (and_from (frees x t e) (stood_at x t e.at) is (same_stood x t e is ∙ stood)))
      (λ isnt. isnt ∙ sym (ap (λ b. b && stood_at x t e.at) isnt))
      (cases_Bool (frees x t e)))

  -- the table of holders says whether the train holds the section
  held_once : (x t : ℕ) → t < trains input.plant → held_there x t ≤ cond (is_train t (get_or there.holders x None)) 1 0
  held_once x t known =
      omega (
        arith,
        there.are.each t x known,
        taken_is x t,
        all_freed input.plant front x t (stood_at x t) known,
        account input fine front lawful (free_stood x t),
        none_stood x t,
        written_stood x t,
      )

  -- so no more sections are held than there are
  sections_few : sum_below held_by (trains input.plant) ≤ length input.plant.tables.sections
  sections_few =
      let sections : ℕ = length input.plant.tables.sections in
      let holder : ℕ → ℕ → ℕ = λ x t. cond (is_train t (get_or there.holders x None)) 1 0 in
      omega (
        arith,
        sum-shared held_by held_there (trains input.plant) sections
            (λ t lt. sum-shared (held_by_move t) (λ x m. sum_below (at_section x t m) (claims input.plant t m)) (place front t) sections
            (λ m lm. sum-shared (held t m) (λ x j. at_section x t m j) (claims input.plant t m) sections
            (λ j lj. at_own t m j (section_known t m j lt (omega (arith, lm, few t lt)) lj)))),
        sum-le (λ x. sum_below (held_there x) (trains input.plant)) (λ _. 1) sections
            (λ x lx. omega (arith, sum-le (held_there x) (holder x) (trains input.plant) (λ t lt. held_once x t lt), one_train (get_or there.holders x None) (trains input.plant))),
        sum-constant 1 sections,
      )
    where
      at_own : (t m j : ℕ) → step_section input.plant t m j < length input.plant.tables.sections → held t m j ≤ sum_below (λ x. at_section x t m j) (length input.plant.tables.sections)
      at_own t m j lx =
          let y : ℕ = step_section input.plant t m j in
          omega (
            arith,
            sum-at (λ x. at_section x t m j) (length input.plant.tables.sections) y lx,
            cond-true {A = ℕ} (eqb y y) (held t m j) 0 (eq-eqb y y refl),
          )

  -- no more lines are due than three for each section, two for each train and one for each command
  pub few_due : length (due_lines input front) ≤ most_due input.plant (length input.commands)
  few_due =
      let any : Entry → Bool = λ e. true in
      let kept : Entry → Bool = λ e. is_kept (told input.commands front) e.what && any e in
      omega (
        arith,
        tally_all (due_lines input front),
        due_split input front any,
        tally-filter kept fresh (all_events input.plant front),
        tally-le (λ e. fresh e && kept e) fresh (all_events input.plant front) (λ e both. (and_parts (fresh e) (kept e) both).0),
        all_few (trains input.plant) (omega arith),
        sections_few,
        commands_few input front 0 input.commands,
      )
