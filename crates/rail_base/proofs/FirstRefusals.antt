-- First refusals.
use Rattle.std.proofs.Common.{◌≡◌, Bool, true, false, cond, List, [], ◌∷◌, ◌++◌, Some, None, Result, Ok, Err, IfErr, refl, sym, ap, ◌∙◌, subst}
use Rattle.std.specs.Option.{option_or}
use Rattle.std.specs.Result.{IsErrAnd}
use Rattle.rail_base.specs.FirstRefusals.{Test, first_failing}

-- the tests of one list before those of another
pub first_failing-append : {R : Type 0} (ts us : List (Test R)) → first_failing (ts ++ us) ≡ option_or (first_failing ts) (first_failing us)
first_failing-append [] us = refl
first_failing-append (t ∷ ts) us = by t.fails (first_failing-append ts us)
  where
    by : (b : Bool) → first_failing (ts ++ us) ≡ option_or (first_failing ts) (first_failing us) → cond b (Some t.answer) (first_failing (ts ++ us)) ≡ option_or (cond b (Some t.answer) (first_failing ts)) (first_failing us)
    by true rest = refl
    by false rest = rest

-- no test fails
abbrev pub AllPassed : {R : Type 0} → List (Test R) → Type 0
AllPassed [] = Unit {0}
AllPassed (t ∷ ts) = (t.fails ≡ false) × AllPassed ts

pub all_passed : {R : Type 0} (ts : List (Test R)) → first_failing ts ≡ None → AllPassed ts
all_passed [] h = tt
all_passed {R} (t ∷ ts) h = by t.fails (all_passed ts) h
  where
    by : (b : Bool) → (first_failing ts ≡ None → AllPassed ts) → cond b (Some t.answer) (first_failing ts) ≡ None → (b ≡ false) × AllPassed ts
    by true rest none = cc
    by false rest none = (refl, rest none)

pub none_failing : {R : Type 0} (ts : List (Test R)) → AllPassed ts → first_failing ts ≡ None
none_failing [] h = refl
none_failing (t ∷ ts) h = ap (λ b. cond b (Some t.answer) (first_failing ts)) h.0 ∙ none_failing ts h.1

-- the fault that a call passes up answers what the called one answered
pub passed_up : {X E : Type 0} (result : Result X E) (fault : E) (Q : E → Type 0) → IsErrAnd result (λ error. error ≡ fault) → Q fault → IfErr result Q
passed_up (Ok done) fault Q is answers = tt
passed_up (Err error) fault Q is answers = subst Q (sym is) answers
