-- The times of a move, by what they take from the list of admissions.
use Rattle.std.proofs.Common.{◌≡◌, ℕ, zero, suc, ◌<◌, ◌≤◌, Bool, true, not, ◌&&◌, eqb, ltb, List, [], ◌∷◌, ◌++◌, length, get_or, refl, sym, ap, ◌∙◌, length-append, arith}
use Rattle.std.proofs.lemmas.Bool.{lt-ltb, cond-true}
use Rattle.std.proofs.lemmas.List.{get_or_append_left}
use Rattle.std.proofs.Math.Seq.{get_or-append_seam}
use Rattle.rail_rules.specs.Plant.{Plant, moves, steps, is_forced}
use Rattle.rail_rules.specs.Times.{previous, is_admitted, free_run, ready_time, does_pass, start_time, head_time}
use Rattle.rail_block.specs.declared.times.MoveTimes.{MoveTimes}
use Rattle.rail_block.specs.CarriedTimes.{times_at, ready_after}

-- the times of a move from whether it is admitted, the admission before, its own, and when the train runs freely to its beginning
abbrev pub moved : Plant → ℕ → ℕ → Bool → ℕ → ℕ → ℕ → MoveTimes
moved plant t m is before at arrived =
    let passing : Bool = is && does_pass plant t m before arrived at in
    let begun : ℕ = start_time plant t m arrived at passing in
    let run : ℕ = head_time plant t m begun passing (steps plant t m) in
    record { admitted = at; passes = passing; go = begun; free_run = run; next_ready = ready_after plant t m at run }

pub moved-same : (plant : Plant) (t m : ℕ) {is is' : Bool} {before before' at at' arrived arrived' : ℕ} → is ≡ is' → before ≡ before' → at ≡ at' → arrived ≡ arrived' → moved plant t m is before at arrived ≡ moved plant t m is' before' at' arrived'
moved-same plant t m a b c d = λ k. moved plant t m (a k) (b k) (c k) (d k)

pub free_run-at : (plant : Plant) (t : ℕ) (adms : List ℕ) (place : ℕ) → (times_at plant t adms place).free_run ≡ free_run plant t adms place
free_run-at plant t adms zero = refl
free_run-at plant t adms (suc m) = refl

-- what stands in the list before a number stands there in a longer one
previous-more : (adms more : List ℕ) (m : ℕ) → m ≤ length adms → previous (adms ++ more) m ≡ previous adms m
previous-more adms more zero le = refl
previous-more adms more (suc n) le = get_or_append_left adms more 0 n (omega arith)

is_admitted-below : (adms : List ℕ) (m : ℕ) → m < length adms → is_admitted adms m ≡ true
is_admitted-below adms m lt = lt-ltb m (length adms) lt

pub times-more : (plant : Plant) (t : ℕ) (adms more : List ℕ) (place : ℕ) → place ≤ length adms → times_at plant t (adms ++ more) place ≡ times_at plant t adms place
times-more plant t adms more zero le = refl
times-more plant t adms more (suc m) le =
    moved-same plant t m
    (is_admitted-below (adms ++ more) m (omega (arith, length-append adms more)) ∙ sym (is_admitted-below adms m (omega arith)))
    (previous-more adms more m (omega arith))
    (get_or_append_left adms more 0 m (omega arith))
    (sym (free_run-at plant t (adms ++ more) m) ∙ ap (λ (times : MoveTimes). times.free_run) (times-more plant t adms more m (omega arith)) ∙ free_run-at plant t adms m)

-- the times of the move that is admitted last
pub times-last : (plant : Plant) (t : ℕ) (adms : List ℕ) (at place m : ℕ) → place ≡ suc m → length adms ≡ m → times_at plant t (adms ++ at ∷ []) place ≡ moved plant t m true (previous adms m) at (free_run plant t adms m)
times-last plant t adms at place m is long =
    let longer : List ℕ = adms ++ at ∷ [] in
    ap (times_at plant t longer) is
    ∙ moved-same plant t m
    (is_admitted-below longer m (omega (arith, length-append adms (at ∷ []))))
    (previous-more adms (at ∷ []) m (omega arith))
    (ap (λ i. get_or longer i 0) (sym long) ∙ get_or-append_seam adms at [] 0)
    (sym (free_run-at plant t longer m) ∙ ap (λ (times : MoveTimes). times.free_run) (times-more plant t adms (at ∷ []) m (omega arith)) ∙ free_run-at plant t adms m)

-- when the train is ready after a place that isn't the last one
pub next_ready-at : (plant : Plant) (t : ℕ) (adms : List ℕ) (place : ℕ) → place < moves plant t → (times_at plant t adms place).next_ready ≡ ready_time plant t place (previous adms place) (free_run plant t adms place)
next_ready-at plant t adms zero lt = refl
next_ready-at plant t adms (suc m) lt = cond-true (ltb (suc m) (moves plant t)) (ready_time plant t (suc m) (previous adms (suc m)) (free_run plant t adms (suc m))) (free_run plant t adms (suc m)) (lt-ltb (suc m) (moves plant t) lt)

-- what is computed from the times of the place before
pub computed : (plant : Plant) (t m : ℕ) (at prior : ℕ) (before : MoveTimes) (passing : Bool) (begun run next : ℕ)
    → before.next_ready ≡ ready_time plant t m prior before.free_run
    → passing ≡ (not (is_forced plant t m) && eqb at before.next_ready) → begun ≡ start_time plant t m before.free_run at passing
    → run ≡ head_time plant t m begun passing (steps plant t m) → next ≡ ready_after plant t m at run
    → (let made : MoveTimes = record { admitted = at; passes = passing; go = begun; free_run = run; next_ready = next } in made) ≡ moved plant t m true prior at before.free_run
computed plant t m at prior before passing begun run next ready p b r n =
    let p' : passing ≡ does_pass plant t m prior before.free_run at = p ∙ ap (λ i. not (is_forced plant t m) && eqb at i) ready in
    let b' : begun ≡ start_time plant t m before.free_run at (does_pass plant t m prior before.free_run at) = b ∙ ap (start_time plant t m before.free_run at) p' in
    let goes : Bool = does_pass plant t m prior before.free_run at in
    let r' : run ≡ head_time plant t m (start_time plant t m before.free_run at goes) goes (steps plant t m) = r ∙ (λ k. head_time plant t m (b' k) (p' k) (steps plant t m)) in
    let n' : next ≡ ready_after plant t m at (head_time plant t m (start_time plant t m before.free_run at goes) goes (steps plant t m)) = n ∙ ap (ready_after plant t m at) r' in
    λ k. record { admitted = at; passes = p' k; go = b' k; free_run = r' k; next_ready = n' k }
