-- When a move arrives and when its intervals end, by the times of the move and of the next one.
use Rattle.std.proofs.Common.{◌≡◌, ℕ, suc, ◌+◌, Bool, true, false, not, ◌&&◌, eqb, List, cond, is_some, Option, Some, None, refl, sym, ap, ◌∙◌, ⊎_elim}
use Rattle.std.proofs.lemmas.Bool.{eq-eqb, ne_eqb, cond-true, cond-false, cases_Bool}
use Rattle.rail_rules.specs.Intervals.{does_stand, is_open, clears_from, end_time, end_of}
use Rattle.rail_rules.specs.Plant.{Plant, moves, steps}
use Rattle.rail_rules.specs.Times.{is_admitted, passes, does_pass, go, free_run, stop_at, arrive, enter, leave, start_loss, previous, admitted}
use Rattle.rail_block.specs.declared.times.MoveTimes.{MoveTimes}
use Rattle.rail_block.specs.CarriedTimes.{times_at, next_at}

-- the next move is admitted, and its times are handed in
pub next-some : (plant : Plant) (t : ℕ) (adms : List ℕ) (place : ℕ) (n : MoveTimes) → Some n ≡ next_at plant t adms place → (is_admitted adms place ≡ true) × (n ≡ times_at plant t adms (suc place))
next-some plant t adms place n h =
    let there : Option MoveTimes = Some (times_at plant t adms (suc place)) in
    ⊎_elim
    (λ holds. let same : Some n ≡ there = h ∙ cond-true (is_admitted adms place) there None holds in (holds, cc))
    (λ fails. let none : Some n ≡ None = h ∙ cond-false (is_admitted adms place) there None fails in absurd (cc))
    (cases_Bool (is_admitted adms place))

-- it isn't admitted, and nothing is handed in
pub next-none : (plant : Plant) (t : ℕ) (adms : List ℕ) (place : ℕ) → (let nothing : Option MoveTimes = None in nothing) ≡ next_at plant t adms place → is_admitted adms place ≡ false
next-none plant t adms place h =
    let there : Option MoveTimes = Some (times_at plant t adms (suc place)) in
    ⊎_elim
    (λ holds. let some : None ≡ there = h ∙ cond-true (is_admitted adms place) there None holds in absurd (cc))
    (λ fails. fails)
    (cases_Bool (is_admitted adms place))

-- what a move isn't admitted for it doesn't pass
pub unadmitted : (plant : Plant) (t : ℕ) (adms : List ℕ) (m : ℕ) → is_admitted adms m ≡ false → passes plant t adms m ≡ false
unadmitted plant t adms m fails = ap (λ b. b && does_pass plant t m (previous adms m) (free_run plant t adms m) (admitted adms m)) fails

pub arrive-end : (plant : Plant) (t : ℕ) (adms : List ℕ) (m : ℕ) → suc m ≡ moves plant t → free_run plant t adms (suc m) ≡ arrive plant t adms m
arrive-end plant t adms m is =
    sym (cond-true (eqb (suc m) (moves plant t)) (free_run plant t adms (suc m)) (cond (passes plant t adms (suc m)) (go plant t adms (suc m)) (stop_at plant t adms m)) (eq-eqb (suc m) (moves plant t) is))

inner : (plant : Plant) (t : ℕ) (adms : List ℕ) (m : ℕ) → (suc m ≡ moves plant t → ⊥) → cond (passes plant t adms (suc m)) (go plant t adms (suc m)) (stop_at plant t adms m) ≡ arrive plant t adms m
inner plant t adms m not_last =
    sym (cond-false (eqb (suc m) (moves plant t)) (free_run plant t adms (suc m)) (cond (passes plant t adms (suc m)) (go plant t adms (suc m)) (stop_at plant t adms m)) (ne_eqb (suc m) (moves plant t) not_last))

pub arrive-passing : (plant : Plant) (t : ℕ) (adms : List ℕ) (m : ℕ) → (suc m ≡ moves plant t → ⊥) → passes plant t adms (suc m) ≡ true → go plant t adms (suc m) ≡ arrive plant t adms m
arrive-passing plant t adms m not_last holds = sym (cond-true (passes plant t adms (suc m)) (go plant t adms (suc m)) (stop_at plant t adms m) holds) ∙ inner plant t adms m not_last

pub arrive-stopping : (plant : Plant) (t : ℕ) (adms : List ℕ) (m : ℕ) → (suc m ≡ moves plant t → ⊥) → passes plant t adms (suc m) ≡ false → stop_at plant t adms m ≡ arrive plant t adms m
arrive-stopping plant t adms m not_last fails = sym (cond-false (passes plant t adms (suc m)) (go plant t adms (suc m)) (stop_at plant t adms m) fails) ∙ inner plant t adms m not_last

pub leave-last : (plant : Plant) (t : ℕ) (adms : List ℕ) (m j : ℕ) → suc j ≡ steps plant t m → arrive plant t adms m ≡ leave plant t adms m j
leave-last plant t adms m j is = sym (cond-true (eqb (suc j) (steps plant t m)) (arrive plant t adms m) (enter plant t adms m (suc j)) (eq-eqb (suc j) (steps plant t m) is))

pub leave-before : (plant : Plant) (t : ℕ) (adms : List ℕ) (m j : ℕ) → (suc j ≡ steps plant t m → ⊥) → enter plant t adms m (suc j) ≡ leave plant t adms m j
leave-before plant t adms m j not_last = sym (cond-false (eqb (suc j) (steps plant t m)) (arrive plant t adms m) (enter plant t adms m (suc j)) (ne_eqb (suc j) (steps plant t m) not_last))

-- from when the train clears a section
pub clears-left : (plant : Plant) (t : ℕ) (adms : List ℕ) (m j : ℕ) → does_stand plant t m j ≡ false → leave plant t adms m j ≡ clears_from plant t adms m j
clears-left plant t adms m j fails = sym (cond-false (does_stand plant t m j) (go plant t adms (suc m) + start_loss plant t (passes plant t adms (suc m))) (leave plant t adms m j) fails)

pub clears-stood : (plant : Plant) (t : ℕ) (adms : List ℕ) (m j : ℕ) → does_stand plant t m j ≡ true → go plant t adms (suc m) + start_loss plant t (passes plant t adms (suc m)) ≡ clears_from plant t adms m j
clears-stood plant t adms m j holds = sym (cond-true (does_stand plant t m j) (go plant t adms (suc m) + start_loss plant t (passes plant t adms (suc m))) (leave plant t adms m j) holds)

-- an interval is open where the train stands and its next move isn't admitted
pub openness : (plant : Plant) (t : ℕ) (adms : List ℕ) (m j : ℕ) (stands next : Bool) → does_stand plant t m j ≡ stands → is_admitted adms (suc m) ≡ next → is_open plant t adms m j ≡ (stands && not next)
openness plant t adms m j stands next s n = λ k. s k && not (n k)

pub open-end : (plant : Plant) (t : ℕ) (adms : List ℕ) (m j : ℕ) → is_open plant t adms m j ≡ true → None ≡ end_of plant t adms m j
open-end plant t adms m j holds = sym (cond-true (is_open plant t adms m j) None (Some (end_time plant t adms m j)) holds)

pub closed-end : (plant : Plant) (t : ℕ) (adms : List ℕ) (m j at : ℕ) → is_open plant t adms m j ≡ false → at ≡ end_time plant t adms m j → Some at ≡ end_of plant t adms m j
closed-end plant t adms m j at fails is = ap Some is ∙ sym (cond-false (is_open plant t adms m j) None (Some (end_time plant t adms m j)) fails)

-- where the train doesn't stand the interval isn't open
pub left-closed : (plant : Plant) (t : ℕ) (adms : List ℕ) (m j : ℕ) → does_stand plant t m j ≡ false → is_open plant t adms m j ≡ false
left-closed plant t adms m j fails = ap (λ b. b && not (is_admitted adms (suc m))) fails

-- whether the times of the next move are handed in is whether it is admitted
pub next-is : (plant : Plant) (t : ℕ) (adms : List ℕ) (place : ℕ) (o : Option MoveTimes) → o ≡ next_at plant t adms place → is_some o ≡ is_admitted adms place
next-is plant t adms place o h =
    ap is_some h ∙ there (is_admitted adms place)
  where
    there : (b : Bool) → is_some (cond b (Some (times_at plant t adms (suc place))) None) ≡ b
    there true = refl
    there false = refl
