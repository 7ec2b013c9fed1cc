-- When the head leaves a section on which the train doesn't stand, and what its interval tells.
use Rattle.std.proofs.Common.{◌≡◌, ℕ, suc, ◌+◌, ◌-◌, ◌<◌, ◌≤◌, Bool, true, false, not, ◌&&◌, eqb, ltb, List, [], ◌∷◌, ◌++◌, length, get_or, cond, Some, None, sym, ap, ◌∙◌, subst, ⊎_elim, arith}
use Rattle.std.specs.Prelude.{count_by}
use Rattle.std.proofs.lemmas.Bool.{lt-ltb, le-ltb, eq-eqb, eqb-true, ne_eqb, cond-true, cond-false, cases_lt, cases_Bool, false≢true}
use Rattle.std.proofs.lemmas.List.{get_or_default}
use Rattle.rail_base.specs.declared.history.Entry.{Entry}
use Rattle.rail_base.specs.declared.plant.MoveRow.{MoveRow}
use Rattle.rail_base.specs.declared.history.What.TheVariants.{Arrive, Free, Out, Ready}
use Rattle.rail_rules.specs.Accepted.{is_accepted}
use Rattle.rail_rules.specs.Numbers.{gather, is_in}
use Rattle.rail_rules.proofs.CallerLemmas.{accepted_parts, needed_section, row_in_range}
use Rattle.rail_rules.specs.Plant.{Plant, move_row, moves, needed, overlap, standing_after, step_section, steps, trains}
use Rattle.rail_rules.specs.Fronts.{at_time}
use Rattle.rail_rules.specs.Times.{admitted, arrive, does_pass, enter, free_run, go, is_admitted, leave, out, passes, previous, ready, stop_at}
use Rattle.rail_rules.specs.Intervals.{does_stand, end_of, end_time, freed_at, is_open}
use Rattle.rail_rules.specs.Events.{arrive_line, free_lines, out_lines, ready_line}
use Rattle.rail_laws_events.specs.Accounts.{tally}
use Rattle.rail_laws_events.specs.Changes.{freed_before, overlap_frees, ready_after}
use Rattle.rail_laws_events.proofs.CallerLemmas.{tally-append}
use Rattle.rail_laws_step.specs.HolderTables.{own_overlap}
use Rattle.rail_queue.specs.declared.event.Event.{Event}
use Rattle.rail_queue.specs.declared.event.Class.TheVariants as class
use Rattle.rail_block.specs.declared.times.MoveTimes.{MoveTimes}
use Rattle.rail_block.specs.CarriedTimes.{times_at}
use Rattle.rail_state.specs.Events.{end_lines, event_of, free_events, train_event}
use Rattle.rail_state.proofs.FreeEvents.{last_frees}
use Rattle.rail_laws_front.proofs.CallerLemmas.{well_formed_from_accepted}

-- the move that leads to a place
pub before : (place : ℕ) → 1 ≤ place → place ≡ suc (place - 1)
before place le = omega arith

-- before its last place a train stands on the last section of its move
pub stands_last : (plant : Plant) (t m j : ℕ) → is_accepted plant ≡ true → suc m < moves plant t → suc j ≡ steps plant t m → does_stand plant t m j ≡ true
stands_last plant t m j accepted more last =
    let index : steps plant t m - 1 ≡ j = omega arith in
    ap (is_in (step_section plant t m j)) (cond-true (ltb (suc m) (moves plant t)) (standing_after plant t m) [] (lt-ltb (suc m) (moves plant t) more))
    ∙ ap (λ i. is_in (step_section plant t m i) (standing_after plant t m)) (sym index)
    ∙ (well_formed_from_accepted plant accepted).last_stands t m more

arrive_last : (plant : Plant) (t : ℕ) (adms : List ℕ) (m : ℕ) → suc m ≡ moves plant t → arrive plant t adms m ≡ free_run plant t adms (suc m)
arrive_last plant t adms m last =
    cond-true (eqb (suc m) (moves plant t)) (free_run plant t adms (suc m)) (cond (passes plant t adms (suc m)) (go plant t adms (suc m)) (stop_at plant t adms m)) (eq-eqb (suc m) (moves plant t) last)

-- the head leaves a section on which the train doesn't stand as it enters the next one or, after the last step, reaches the end
pub left_entering : (plant : Plant) (t : ℕ) (adms : List ℕ) (m j : ℕ) → is_accepted plant ≡ true → suc m ≤ moves plant t → does_stand plant t m j ≡ false → enter plant t adms m (suc j) ≡ leave plant t adms m j
left_entering plant t adms m j accepted within leaves =
    ⊎_elim
    (λ last.
    let whole : suc j ≡ steps plant t m = eqb-true (suc j) (steps plant t m) last in
    ⊎_elim
    (λ more. absurd (false≢true (sym leaves ∙ stands_last plant t m j accepted more whole)))
    (λ past.
    ap (enter plant t adms m) whole
    ∙ sym (arrive_last plant t adms m (omega arith))
    ∙ sym (cond-true (eqb (suc j) (steps plant t m)) (arrive plant t adms m) (enter plant t adms m (suc j)) last))
    (cases_lt (suc m) (moves plant t)))
    (λ earlier. sym (cond-false (eqb (suc j) (steps plant t m)) (arrive plant t adms m) (enter plant t adms m (suc j)) earlier))
    (cases_Bool (eqb (suc j) (steps plant t m)))

-- each other one is given free at its end
pub left_line : (plant : Plant) (t : ℕ) (adms : List ℕ) (m j x at : ℕ) → does_stand plant t m j ≡ false → at ≡ end_time plant t adms m j → free_lines t x (end_of plant t adms m j) ≡ at_time at (Free x t) ∷ []
left_line plant t adms m j x at leaves ended =
    let isnt : is_open plant t adms m j ≡ false = λ k. leaves k && not (is_admitted adms (suc m)) in
    ap (free_lines t x) (cond-false (is_open plant t adms m j) None (Some (end_time plant t adms m j)) isnt)
    ∙ ap (λ i. at_time i (Free x t) ∷ []) (sym ended)

-- the end of a move, by its four kinds of lines
ends : (p : Entry → Bool) (plant : Plant) (t : ℕ) (adms : List ℕ) (m : ℕ) (arrival : Entry) (outs readys : List Entry) → arrive_line plant t adms m ≡ arrival → out_lines plant t adms m ≡ outs → ready_after plant t adms m ≡ readys
    → tally p (end_lines plant t adms m) ≡ cond (p arrival) 1 0 + tally p (overlap_frees plant t adms m) + tally p outs + tally p readys
ends p plant t adms m arrival outs readys a o r =
    let over : List Entry = overlap_frees plant t adms m in
    let by_kinds : tally p (end_lines plant t adms m) ≡ tally p (arrival ∷ over ++ outs ++ readys) = λ k. tally p (a k ∷ over ++ o k ++ r k) in
    omega (
      arith,
      by_kinds,
      tally-append p (arrival ∷ over ++ outs) readys,
      tally-append p (arrival ∷ over) outs,
    )

-- after the last move, which has no overlap, the train arrives at its free running time and is out; nothing is ready
pub ends_last : (p : Entry → Bool) (plant : Plant) → is_accepted plant ≡ true → (t : ℕ) (adms : List ℕ) (m place run gone : ℕ) → t < trains plant → place ≡ suc m → suc m ≡ moves plant t → run ≡ free_run plant t adms (suc m) → gone ≡ out plant t adms m
    → tally p (end_lines plant t adms m) ≡ cond (p (at_time run (Arrive t place))) 1 0 + cond (p (at_time gone (Out t))) 1 0
ends_last p plant accepted t adms m place run gone known at last ran left =
    let row = row_in_range plant (accepted_parts plant accepted).trains_in_range t known in
    let index : moves plant t - 1 ≡ m = omega (arith, last) in
    let L : ℕ → Type 0 = λ n. length (overlap plant t n) ≡ 0 in
    let free : ℕ → List Entry = λ i. free_lines t (step_section plant t m (steps plant t m + i)) (freed_at plant t adms m (steps plant t m + i)) in
    omega (
      arith,
      ends p plant t adms m (at_time run (Arrive t place)) (at_time gone (Out t) ∷ []) []
          ((λ k. at_time (arrive_last plant t adms m last k) (Arrive t (suc m))) ∙ (λ k. at_time (sym ran k) (Arrive t (sym at k))))
          (cond-true (eqb (suc m) (moves plant t)) (at_time (out plant t adms m) (Out t) ∷ []) [] (eq-eqb (suc m) (moves plant t) last)
          ∙ ap (λ i. at_time i (Out t) ∷ []) (sym left))
          (cond-false (ltb (suc m) (moves plant t)) (ready_line plant t adms (suc m) ∷ []) [] (le-ltb (suc m) (moves plant t) (omega (arith, last)))),
      ap (λ n. tally p (gather free n)) (subst L index row.no_last_overlap),
    )

arrive_stopping : (plant : Plant) (t : ℕ) (adms : List ℕ) (m : ℕ) → suc m < moves plant t → is_admitted adms (suc m) ≡ false → arrive plant t adms m ≡ stop_at plant t adms m
arrive_stopping plant t adms m more none =
    let stops : passes plant t adms (suc m) ≡ false = ap (λ b. b && does_pass plant t (suc m) (previous adms (suc m)) (free_run plant t adms (suc m)) (admitted adms (suc m))) none in
    cond-false (eqb (suc m) (moves plant t)) (free_run plant t adms (suc m)) (cond (passes plant t adms (suc m)) (go plant t adms (suc m)) (stop_at plant t adms m)) (ne_eqb (suc m) (moves plant t) (λ e. absurd (omega (arith, e, more))))
    ∙ cond-false (passes plant t adms (suc m)) (go plant t adms (suc m)) (stop_at plant t adms m) stops

-- when the next move is ready
pub next_ready : (plant : Plant) (t : ℕ) (adms : List ℕ) (m : ℕ) → suc m < moves plant t → (times_at plant t adms (suc m)).next_ready ≡ ready plant t adms (suc m)
next_ready plant t adms m more = cond-true (ltb (suc m) (moves plant t)) (ready plant t adms (suc m)) (free_run plant t adms (suc m)) (lt-ltb (suc m) (moves plant t) more)

-- at an earlier place the train arrives with a stop as long as its next move isn't admitted, and that is ready; the overlap ends when its timer runs out
pub ends_earlier : (q : Event → Bool) (plant : Plant) → is_accepted plant ≡ true → (t : ℕ) (adms : List ℕ) (m place stop next : ℕ) → place ≡ suc m → suc m < moves plant t → length adms ≤ suc m
    → stop ≡ stop_at plant t adms m → next ≡ ready plant t adms (suc m)
    → tally (λ e. q (event_of e)) (end_lines plant t adms m)
    ≡ cond (q (train_event stop class.Arrive t place)) 1 0 + count_by q (free_events (stop + plant.tables.overlap_time) t (own_overlap plant t place)) + cond (q (train_event next class.Ready t (place + 1))) 1 0
ends_earlier q plant accepted t adms m place stop next at more last stopped readied =
    let after : suc (suc m) ≡ place + 1 = omega (arith, at) in
    let none : is_admitted adms (suc m) ≡ false = le-ltb (suc m) (length adms) last in
    let arrives : arrive plant t adms m ≡ stop = arrive_stopping plant t adms m more none ∙ sym stopped in
    omega (
      arith,
      ends (λ e. q (event_of e)) plant t adms m (at_time stop (Arrive t place)) [] (at_time next (Ready t (place + 1)) ∷ [])
          (λ k. at_time (arrives k) (Arrive t (sym at k)))
          (cond-false (eqb (suc m) (moves plant t)) (at_time (out plant t adms m) (Out t) ∷ []) [] (ne_eqb (suc m) (moves plant t) (λ e. absurd (omega (arith, e, more)))))
          (cond-true (ltb (suc m) (moves plant t)) (ready_line plant t adms (suc m) ∷ []) [] (lt-ltb (suc m) (moves plant t) more)
          ∙ (λ k. at_time (sym readied k) (Ready t (after k)) ∷ [])),
      last_frees plant t m (well_formed_from_accepted plant accepted) adms last q,
      ap (λ a. count_by q (free_events (a + plant.tables.overlap_time) t (overlap plant t m))) arrives,
      ap (λ n. count_by q (free_events (stop + plant.tables.overlap_time) t (own_overlap plant t n))) at,
    )

-- the times of a move, that leads to a place
pub made_at : (plant : Plant) (t : ℕ) (adms : List ℕ) (place : ℕ) (times : MoveTimes) → 1 ≤ place → times ≡ times_at plant t adms place → times ≡ times_at plant t adms (suc (place - 1))
made_at plant t adms place times le h = h ∙ ap (times_at plant t adms) (before place le)

-- the lines of the sections on which the train stood at a place
pub freed_there : (plant : Plant) (t : ℕ) (adms : List ℕ) (place m : ℕ) → place ≡ suc m → freed_before plant t adms place ≡ gather (λ j. cond (does_stand plant t m j) (at_time (end_time plant t adms m j) (Free (step_section plant t m j) t) ∷ []) []) (steps plant t m)
freed_there plant t adms place m at = ap (freed_before plant t adms) at

-- the sections of a move, as they stand in its row
pub as_rows : (plant : Plant) (t m : ℕ) (row : MoveRow) (xs : List ℕ) → row ≡ move_row plant t m → xs ≡ row.sections → xs ≡ needed plant t m
as_rows plant t m row xs r s = s ∙ ap (λ (own : MoveRow). own.sections) r

pub item_of_step : (plant : Plant) (t m i x : ℕ) (xs : List ℕ) → xs ≡ needed plant t m → i < length xs → x ≡ get_or xs i x → x ≡ step_section plant t m i
item_of_step plant t m i x xs all lt is = is ∙ get_or_default xs i x 0 lt ∙ ap (λ ys. get_or ys i 0) all ∙ sym (needed_section plant t m i (omega (arith, lt, ap length all)))
