-- The times that are carried from move to move.
use Rattle.std.proofs.Common.{◌≡◌, ℕ, zero, suc, ◌+◌, ◌-◌, ◌<◌, ◌≤◌, ◌^◌, ltb, List, [], ◌∷◌, ◌++◌, length, take, drop, get_or, set, refl, sym, ap, ◌∙◌, subst, ⊎_elim, length-append, arith}
use Rattle.std.specs.Prelude.{Option, Some, None, unwrap_or}
use Rattle.std.proofs.lemmas.Bool.{cases_eq, cond_both, cond-true, lt-ltb, ltb-true}
use Rattle.std.proofs.lemmas.Option.{none-some}
use Rattle.std.proofs.lemmas.List.{get_or_default, get_or-set_same, get_or-set_other, length-take-le, take-append-drop, take_more}
use Rattle.rail_block.specs.CarriedTimes.{AreBelow, next_at, times_at}
use Rattle.rail_block.specs.declared.times.MoveTimes.{MoveTimes}
use Rattle.rail_rules.specs.Plant.{Plant, moves}
use Rattle.rail_rules.specs.Times.{free_run, is_admitted, ready}
use Rattle.rail_stairs.specs.Journeys.{AreAdmissible, AreTimesTo}

-- when the train is ready for the move behind a place
pub next_ready_is : (plant : Plant) (t : ℕ) (adms : List ℕ) (m : ℕ) → m < moves plant t → (times_at plant t adms m).next_ready ≡ ready plant t adms m
next_ready_is plant t adms zero lt = refl
next_ready_is plant t adms (suc m) lt = cond-true (ltb (suc m) (moves plant t)) (ready plant t adms (suc m)) (free_run plant t adms (suc m)) (lt-ltb (suc m) (moves plant t) lt)

-- an admission is small, and not before the ready time
pub admission_small : (plant : Plant) (t : ℕ) (adms : List ℕ) → AreAdmissible plant t adms → (m at : ℕ) → m < length adms → at ≡ get_or adms m at → at < 2 ^ 51
admission_small plant t adms fine m at lt is =
    omega (arith, is, get_or_default adms m at 0 lt, (fine.below (suc m) (omega (arith, lt))).admitted)

pub admission_ready : (plant : Plant) (t : ℕ) (adms : List ℕ) → AreAdmissible plant t adms → (m at : ℕ) (before : MoveTimes) → m < length adms → at ≡ get_or adms m at
    → before ≡ times_at plant t adms m → before.next_ready ≤ at
admission_ready plant t adms fine m at before lt is times =
    omega (arith, is, get_or_default adms m at 0 lt, fine.ready m lt, ap (λ (ts : MoveTimes). ts.next_ready) times, next_ready_is plant t adms m (omega (arith, lt, fine.few)))

-- the times of a move follow from those of the place before
pub times_next : (plant : Plant) (t : ℕ) (adms : List ℕ) (m p at : ℕ) (before made : MoveTimes) → p ≡ suc m → m < length adms → at ≡ get_or adms m at → before ≡ times_at plant t adms m
    → ((plant : Plant) (t : ℕ) (xs more : List ℕ) (place : ℕ) → place ≤ length xs → times_at plant t (xs ++ more) place ≡ times_at plant t xs place)
    → ((xs : List ℕ) → length xs ≡ p - 1 → before ≡ times_at plant t xs (p - 1) → made ≡ times_at plant t (xs ++ at ∷ []) p)
    → made ≡ times_at plant t adms p
times_next plant t adms m p at before made next lt is is_before later given =
    let xs : List ℕ = take m adms in
    let long : length xs ≡ m = length-take-le m adms (omega (arith, lt)) in
    let index : m ≡ p - 1 = omega (arith, next) in
    let b : before ≡ times_at plant t xs (p - 1) =
    is_before ∙ ap (λ l. times_at plant t l m) (sym (take-append-drop m adms)) ∙ later plant t xs (drop m adms) m (omega (arith, long)) ∙ ap (times_at plant t xs) index in
    let longer : length (xs ++ at ∷ []) ≡ p = length-append xs (at ∷ []) ∙ omega (arith, long, next) in
    let more : adms ≡ (xs ++ at ∷ []) ++ drop (m + 1) adms =
    sym (take-append-drop (m + 1) adms) ∙ ap (λ l. l ++ drop (m + 1) adms) (take_more adms m at lt ∙ ap (λ x. xs ++ x ∷ []) (sym is)) in
    given xs (omega (arith, long, index)) b
    ∙ sym (later plant t (xs ++ at ∷ []) (drop (m + 1) adms) p (omega (arith, longer)))
    ∙ ap (λ l. times_at plant t l p) (sym more)

-- the table of the times with those of one more place
pub times_more : (plant : Plant) (t : ℕ) (adms : List ℕ) (i : ℕ) (times : List MoveTimes) (made : MoveTimes) → i + 1 < length times → AreTimesTo plant t adms i times
    → made ≡ times_at plant t adms (i + 1) → AreTimesTo plant t adms (i + 1) (set times (i + 1) made)
times_more plant t adms i times made room before is = λ place le other.
    ⊎_elim
    (λ same. ap (λ k. get_or (set times (i + 1) made) k other) same ∙ get_or-set_same times (i + 1) made other room ∙ is ∙ ap (times_at plant t adms) (sym same))
    (λ differ. get_or-set_other times (i + 1) place made other differ ∙ before place (omega (arith, le, differ)) other)
    (cases_eq place (i + 1))

-- the times of the next move, where it is admitted, are small
pub next_small : (plant : Plant) (t : ℕ) (adms : List ℕ) → AreAdmissible plant t adms → (place : ℕ) (given : Option MoveTimes) → given ≡ next_at plant t adms place
    → (x : MoveTimes) → given ≡ Some x → AreBelow (2 ^ 51) x
next_small plant t adms fine place given next x is =
    cond_both (is_admitted adms place) (Some (times_at plant t adms (suc place))) None (λ (o : Option MoveTimes). o ≡ Some x → AreBelow (2 ^ 51) x)
    (λ more same. subst (AreBelow (2 ^ 51)) (ap (λ (o : Option MoveTimes). unwrap_or o x) same) (fine.below (suc place) (ltb-true place (length adms) more)))
    (λ none same. absurd (none-some x same))
    (sym next ∙ is)
