-- The instants of a blocking interval are in order, and so its parts sum to its length.
use Rattle.std.proofs.Common.{◌≡◌, ℕ, zero, suc, ◌+◌, ◌-◌, ◌<◌, ◌≤◌, max, Bool, true, false, not, ◌&&◌, cond, eqb, List, [], Some, None, sym, ap, subst, ⊎_elim, arith}
use Rattle.std.proofs.lemmas.Bool.{and_parts, and_left, cases_Bool, cases_lt, false≢true, eqb-true, ne_eqb, le-ltb, cond-true, cond-false, cond_both, not-true}
use Rattle.rail_rules.specs.Numbers.{is_in}
use Rattle.rail_rules.specs.Plant.{Plant, moves, moves_of, move_row, steps, step_section, is_forced, dwell, departure, run_over}
use Rattle.rail_rules.specs.Times.{stop_time, depart_time, signal_time, ready_time, does_pass, start_time, start_loss, head_time, admitted, previous, is_admitted, free_run, passes, go, enter, stop_at, arrive, leave}
use Rattle.rail_rules.specs.Intervals.{does_stand, is_open, clears_from, end_time, signalled, standing_part, is_undecided, parts_of, decided, parts_sum, IsInOrder}
use Rattle.rail_rules.proofs.Claiming.{end_needed}

-- running over more steps takes no less time
pub run_over-le : (plant : Plant) (t m i j : ℕ) → i ≤ j → run_over plant t m i ≤ run_over plant t m j
run_over-le plant t m i zero h = let same : i ≡ 0 = omega arith in let P : ℕ → Type 0 = λ k. run_over plant t m k ≤ 0 in subst P (sym same) (omega arith)
run_over-le plant t m i (suc j) h =
    ⊎_elim
    (λ below. omega (arith, run_over-le plant t m i j (omega arith)))
    (λ above. let same : i ≡ suc j = omega arith in let P : ℕ → Type 0 = λ k. run_over plant t m k ≤ run_over plant t m (suc j) in subst P (sym same) (omega arith))
    (cases_lt i (suc j))

pub head_time-le : (plant : Plant) (t m begun : ℕ) (passing : Bool) (i j : ℕ) → i ≤ j → head_time plant t m begun passing i ≤ head_time plant t m begun passing j
head_time-le plant t m begun passing zero zero h = omega arith
head_time-le plant t m begun passing zero (suc j) h = omega arith
head_time-le plant t m begun passing (suc i) zero h = absurd (omega arith)
head_time-le plant t m begun passing (suc i) (suc j) h = omega (arith, run_over-le plant t m (suc i) (suc j) h)

pub head_time-begun : (plant : Plant) (t m begun : ℕ) (passing : Bool) (j : ℕ) → begun ≤ head_time plant t m begun passing j
head_time-begun plant t m begun passing j = head_time-le plant t m begun passing 0 j (omega arith)

-- a departure isn't before the stop
pub depart_after_stop : (plant : Plant) (t p arrived : ℕ) → stop_time plant t arrived ≤ depart_time plant t p arrived
depart_after_stop plant t p arrived =
    cond_both (is_forced plant t p)
    (max (stop_time plant t arrived + dwell plant t p) (departure plant t p)) (stop_time plant t arrived)
    (λ x. stop_time plant t arrived ≤ x) (λ _. omega arith) (λ _. omega arith)

-- a move begins after its signal
pub start_after_signal : (plant : Plant) (t m arrived adm : ℕ) (passing : Bool) → adm + signal_time plant t m ≤ start_time plant t m arrived adm passing
start_after_signal plant t m arrived adm passing =
    cond_both passing (adm + signal_time plant t m + (move_row plant t m).approach) (max (depart_time plant t m arrived) (adm + signal_time plant t m))
    (λ x. adm + signal_time plant t m ≤ x) (λ _. omega arith) (λ _. omega arith)

-- a move doesn't begin before the free running time at its beginning
pub start_after_run : (plant : Plant) (t m before arrived adm : ℕ) (passing : Bool) → (passing ≡ true → does_pass plant t m before arrived adm ≡ true) → arrived ≤ start_time plant t m arrived adm passing
start_after_run plant t m before arrived adm passing h =
    cond_both passing (adm + signal_time plant t m + (move_row plant t m).approach) (max (depart_time plant t m arrived) (adm + signal_time plant t m))
    (λ x. arrived ≤ x)
    (λ is.
    let parts = and_parts (not (is_forced plant t m)) (eqb adm (ready_time plant t m before arrived)) (h is) in
    let at_ready : adm ≡ ready_time plant t m before arrived = eqb-true adm (ready_time plant t m before arrived) parts.1 in
    let free : ready_time plant t m before arrived ≡ max before (arrived - (signal_time plant t m + (move_row plant t m).approach)) =
    cond-false (is_forced plant t m) (max before (depart_time plant t m arrived - signal_time plant t m)) (max before (arrived - (signal_time plant t m + (move_row plant t m).approach))) (not-true (is_forced plant t m) parts.0) in
    omega (arith, at_ready, free))
    (λ _. omega (arith, depart_after_stop plant t m arrived))

-- a train that doesn't pass doesn't go on before its stop
pub start_after_stop : (plant : Plant) (t m arrived adm : ℕ) → stop_time plant t arrived ≤ start_time plant t m arrived adm false
start_after_stop plant t m arrived adm = omega (arith, depart_after_stop plant t m arrived)

pub go_after_run : (plant : Plant) (t : ℕ) (adms : List ℕ) (m : ℕ) → free_run plant t adms m ≤ go plant t adms m
go_after_run plant t adms m =
    let pass : Bool = does_pass plant t m (previous adms m) (free_run plant t adms m) (admitted adms m) in
    start_after_run plant t m (previous adms m) (free_run plant t adms m) (admitted adms m) (passes plant t adms m)
    (λ is. (and_parts (is_admitted adms m) pass is).1)

-- the head arrives after its free run
pub arrive_after_run : (plant : Plant) (t : ℕ) (adms : List ℕ) (m : ℕ) → free_run plant t adms (suc m) ≤ arrive plant t adms m
arrive_after_run plant t adms m =
    cond_both (eqb (suc m) (moves plant t)) (free_run plant t adms (suc m)) (cond (passes plant t adms (suc m)) (go plant t adms (suc m)) (stop_at plant t adms m))
    (λ x. free_run plant t adms (suc m) ≤ x)
    (λ _. omega arith)
    (λ _. cond_both (passes plant t adms (suc m)) (go plant t adms (suc m)) (stop_at plant t adms m)
    (λ x. free_run plant t adms (suc m) ≤ x)
    (λ _. go_after_run plant t adms (suc m))
    (λ _. omega arith))

-- and its next move, where it has one, doesn't begin before it arrives
pub go_after_arrive : (plant : Plant) (t : ℕ) (adms : List ℕ) (m : ℕ) → (suc m ≡ moves plant t → ⊥) → arrive plant t adms m ≤ go plant t adms (suc m)
go_after_arrive plant t adms m more =
    let stop_or_pass : ℕ = cond (passes plant t adms (suc m)) (go plant t adms (suc m)) (stop_at plant t adms m) in
    let arrives : arrive plant t adms m ≡ stop_or_pass = cond-false (eqb (suc m) (moves plant t)) (free_run plant t adms (suc m)) stop_or_pass (ne_eqb (suc m) (moves plant t) more) in
    let bound : stop_or_pass ≤ go plant t adms (suc m) =
    cond_both (passes plant t adms (suc m)) (go plant t adms (suc m)) (stop_at plant t adms m)
    (λ x. x ≤ go plant t adms (suc m))
    (λ _. omega arith)
    (λ stops.
    let P : Bool → Type 0 = λ b. stop_at plant t adms m ≤ start_time plant t (suc m) (free_run plant t adms (suc m)) (admitted adms (suc m)) b in
    subst P (sym stops) (start_after_stop plant t (suc m) (free_run plant t adms (suc m)) (admitted adms (suc m)))) in
    omega (arith, arrives, bound)

-- the head enters each section before the end of its run
pub enter_before_run : (plant : Plant) (t : ℕ) (adms : List ℕ) (m j : ℕ) → j ≤ steps plant t m → enter plant t adms m j ≤ free_run plant t adms (suc m)
enter_before_run plant t adms m j lt = head_time-le plant t m (go plant t adms m) (passes plant t adms m) j (steps plant t m) lt

pub enter_before_leave : (plant : Plant) (t : ℕ) (adms : List ℕ) (m j : ℕ) → j < steps plant t m → enter plant t adms m j ≤ leave plant t adms m j
enter_before_leave plant t adms m j lt =
    cond_both (eqb (suc j) (steps plant t m)) (arrive plant t adms m) (enter plant t adms m (suc j))
    (λ x. enter plant t adms m j ≤ x)
    (λ _. omega (arith, enter_before_run plant t adms m j (omega arith), arrive_after_run plant t adms m))
    (λ _. head_time-le plant t m (go plant t adms m) (passes plant t adms m) j (suc j) (omega arith))

-- where a train stands its route isn't the last one
pub stands_before_end : (plant : Plant) (t m j : ℕ) → does_stand plant t m j ≡ true → suc m ≡ moves plant t → ⊥
stands_before_end plant t m j stand_there last =
    let P : Bool → Type 0 = λ b. is_in (step_section plant t m j) (cond b ((moves_of plant).standing t m) []) ≡ true in
    false≢true (subst P (le-ltb (suc m) (moves plant t) (omega arith)) stand_there)

pub leave_before_clearing : (plant : Plant) (t : ℕ) (adms : List ℕ) (m j : ℕ) → j < steps plant t m → leave plant t adms m j ≤ clears_from plant t adms m j
leave_before_clearing plant t adms m j lt =
    cond_both (does_stand plant t m j) (go plant t adms (suc m) + start_loss plant t (passes plant t adms (suc m))) (leave plant t adms m j)
    (λ x. leave plant t adms m j ≤ x)
    (λ stand_there.
    cond_both (eqb (suc j) (steps plant t m)) (arrive plant t adms m) (enter plant t adms m (suc j))
    (λ x. x ≤ go plant t adms (suc m) + start_loss plant t (passes plant t adms (suc m)))
    (λ _. omega (arith, go_after_arrive plant t adms m (stands_before_end plant t m j stand_there)))
    (λ _. omega (arith, enter_before_run plant t adms m (suc j) (omega arith), go_after_run plant t adms (suc m))))
    (λ _. omega arith)

pub signal_before_go : (plant : Plant) (t : ℕ) (adms : List ℕ) (m : ℕ) → signalled plant t adms m ≤ go plant t adms m
signal_before_go plant t adms m =
    cond_both (passes plant t adms m) (admitted adms m + signal_time plant t m + (move_row plant t m).approach) (max (depart_time plant t m (free_run plant t adms m)) (admitted adms m + signal_time plant t m))
    (λ x. signalled plant t adms m ≤ x)
    (λ is. omega (arith, cond-true {A = ℕ} (passes plant t adms m) (move_row plant t m).approach 0 is))
    (λ isnt. omega (arith, cond-false {A = ℕ} (passes plant t adms m) (move_row plant t m).approach 0 isnt))

pub in_order : (plant : Plant) (t : ℕ) (adms : List ℕ) (m j : ℕ) → j < steps plant t m → IsInOrder plant t adms m j
in_order plant t adms m j lt = record {
  signal = signal_before_go plant t adms m;
  begun = head_time-begun plant t m (go plant t adms m) (passes plant t adms m) j;
  entered = enter_before_leave plant t adms m j lt;
  left = leave_before_clearing plant t adms m j lt;
}

-- what a cond adds to the decided parts
decided-known : (b : Bool) (n : ℕ) → b ≡ false → decided (cond b None (Some n)) ≡ n
decided-known b n known = ap decided (cond-false b None (Some n) known)

pub parts_sum_is : (plant : Plant) (t : ℕ) (adms : List ℕ) (m j : ℕ) → j < steps plant t m → is_open plant t adms m j ≡ false → admitted adms m + parts_sum (parts_of plant t adms m j) ≡ end_time plant t adms m j
parts_sum_is plant t adms m j lt closed =
    let order = in_order plant t adms m j lt in
    let here : Bool = is_open plant t adms m j && eqb (suc j) (steps plant t m) in
    let undecided : is_undecided plant t adms m j ≡ false = and_left here (not (is_forced plant t (suc m))) (and_left (is_open plant t adms m j) (eqb (suc j) (steps plant t m)) closed) in
    let running : decided (cond (is_undecided plant t adms m j) None (Some (leave plant t adms m j - enter plant t adms m j))) ≡ leave plant t adms m j - enter plant t adms m j = decided-known (is_undecided plant t adms m j) (leave plant t adms m j - enter plant t adms m j) undecided in
    let standing : decided (cond (is_open plant t adms m j) None (Some (standing_part plant t adms m j))) ≡ standing_part plant t adms m j = decided-known (is_open plant t adms m j) (standing_part plant t adms m j) closed in
    let stood : standing_part plant t adms m j + leave plant t adms m j ≡ clears_from plant t adms m j =
    ⊎_elim
    (λ is. omega (arith, order.left, cond-true {A = ℕ} (does_stand plant t m j) (clears_from plant t adms m j - leave plant t adms m j) 0 is))
    (λ isnt. omega (
      arith,
      cond-false {A = ℕ} (does_stand plant t m j) (clears_from plant t adms m j - leave plant t adms m j) 0 isnt,
      cond-false {A = ℕ} (does_stand plant t m j) (go plant t adms (suc m) + start_loss plant t (passes plant t adms (suc m))) (leave plant t adms m j) isnt,
    ))
    (cases_Bool (does_stand plant t m j)) in
    omega (arith, end_needed plant t adms m j lt, running, standing, stood, order.signal, order.begun, order.entered, order.left)
