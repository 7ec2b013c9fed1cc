-- The first answer of numbers below a bound.
use Rattle.std.proofs.Common.{◌≡◌, ℕ, zero, suc, ◌<◌, true, false, is_some, Option, Some, None, refl, sym, ap, ◌∙◌, ⊎_elim, arith}
use Rattle.std.proofs.lemmas.Bool.{cases_lt, false≢true}
use Rattle.rail_rules.specs.Numbers.{or_else}
use Rattle.rail_plan.specs.PlanFaults.{IsAnswer, first_answer}
use Rattle.rail_plan.specs.declared.faults.PlanFault.{PlanFault}
use Rattle.rail_plan.specs.declared.faults.PlanFault.TheVariants.{OutOfMemory, SelfBlocked, TooLong}

or_else-some : {X : Type 0} (o other : Option X) → is_some o ≡ true → or_else o other ≡ o
or_else-some None other some = absurd (false≢true some)
or_else-some (Some x) other some = refl

-- an answer where there was none before is the first
pub first_found : {X : Type 0} (f : ℕ → Option X) (n i : ℕ) → i < n → first_answer f i ≡ None → is_some (f i) ≡ true → first_answer f n ≡ f i
first_found f zero i lt none some = absurd (omega arith)
first_found f (suc n) i lt none some =
    ⊎_elim
    (λ below.
    let before = first_found f n i below none some in
    ap (λ o. or_else o (f n)) before ∙ or_else-some (f i) (f n) some)
    (λ above.
    let same : i ≡ n = omega arith in
    ap (λ k. or_else (first_answer f k) (f n)) (sym same) ∙ ap (λ o. or_else o (f n)) none ∙ ap f (sym same))
    (cases_lt i n)

pub parts_none : {X : Type 0} (o other : Option X) → or_else o other ≡ None → (o ≡ None) × (other ≡ None)
parts_none None other none = (refl, none)
parts_none (Some x) other none = absurd (cc)

-- where there is no first answer there is none
pub none_at : {X : Type 0} (f : ℕ → Option X) (n i : ℕ) → first_answer f n ≡ None → i < n → f i ≡ None
none_at f zero i none lt = absurd (omega arith)
none_at f (suc n) i none lt =
    let parts = parts_none (first_answer f n) (f n) none in
    ⊎_elim
    (λ below. none_at f n i parts.0 below)
    (λ above. let same : i ≡ n = omega arith in ap f same ∙ parts.1)
    (cases_lt i n)

is_none : {X : Type 0} (o : Option X) → is_some o ≡ false → o ≡ None
is_none None empty = refl
is_none (Some x) empty = absurd (false≢true (sym empty))

-- no answer once more
pub first_more : {X : Type 0} (f : ℕ → Option X) (n : ℕ) → first_answer f n ≡ None → is_some (f n) ≡ false → first_answer f (suc n) ≡ None
first_more f n none empty = ap (λ o. or_else o (f n)) none ∙ is_none (f n) empty

-- a fault that is the first one answers it
pub answer_told : (first : Option PlanFault) (why : PlanFault) → first ≡ Some why → IsAnswer first why
answer_told first (TooLong t place) is = is
answer_told first (SelfBlocked t place x) is = is
answer_told first OutOfMemory is = tt

-- what answers the first of numbers that has an answer answers them all
pub answer_first : (f : ℕ → Option PlanFault) (n i : ℕ) (why : PlanFault) → i < n → first_answer f i ≡ None → IsAnswer (f i) why → IsAnswer (first_answer f n) why
answer_first f n i (TooLong t place) lt none is = first_found f n i lt none (ap is_some is) ∙ is
answer_first f n i (SelfBlocked t place x) lt none is = first_found f n i lt none (ap is_some is) ∙ is
answer_first f n i OutOfMemory lt none is = tt
