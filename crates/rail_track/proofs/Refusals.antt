-- First refusals.
use Rattle.std.proofs.Common.{◌≡◌, ℕ, ◌+◌, ◌<◌, Bool, true, false, cond, ◌||◌, List, [], ◌∷◌, ◌++◌, length, drop, get_or, Option, Some, None, Result, Ok, Err, IfErr, refl, sym, ap, ◌∙◌, subst}
use Rattle.std.specs.List.{list_any}
use Rattle.std.specs.Option.{option_or}
use Rattle.std.specs.Result.{IsErrAnd}
use Rattle.std.proofs.lemmas.List.{at_drop_more}
use Rattle.rail_base.specs.declared.refusals.Reason.{Reason}
use Rattle.rail_track.specs.declared.section.NetFault.{NetFault}
use Rattle.rail_track.specs.declared.section.NetFault.TheVariants.{Refused, OutOfMemory}
use Rattle.rail_base.specs.FirstRefusals.{Test, first_failing, tests_over}
use Rattle.rail_base.proofs.CallerLemmas.{AllPassed}
use Rattle.rail_track.specs.NetFaults.{refused_where, Answers}

-- a loop over the tests of the items: n is the number of the item at i
module _ {X : Type 0} (reason : Reason) (fails : ℕ → X → Bool) (xs : List X) (n i : ℕ) (x : X) (within : i < length xs) (is : x ≡ get_or xs i x) where
  tests_over-drop_more : first_failing (tests_over (λ step y. refused_where reason step (fails step y)) n (drop i xs)) ≡ cond (fails n x) (Some (Refused reason n)) (first_failing (tests_over (λ step y. refused_where reason step (fails step y)) (n + 1) (drop (i + 1) xs)))
  tests_over-drop_more =
      let test : ℕ → X → Test NetFault = λ step y. refused_where reason step (fails step y) in
      at_drop_more (λ ys. first_failing (tests_over test n ys)) xs i x within ∙ ap (λ y. first_failing (tests_over test n (y ∷ drop (i + 1) xs))) (sym is)

  -- it stops at an item that fails
  pub refused_at : fails n x ≡ true → first_failing (tests_over (λ step y. refused_where reason step (fails step y)) n (drop i xs)) ≡ Some (Refused reason n)
  refused_at failed = tests_over-drop_more ∙ ap (λ b. cond b (Some (Refused reason n)) (first_failing (tests_over (λ step y. refused_where reason step (fails step y)) (n + 1) (drop (i + 1) xs)))) failed

  -- and goes on where the item passed
  pub passed_at : fails n x ≡ false → first_failing (tests_over (λ step y. refused_where reason step (fails step y)) n (drop i xs)) ≡ first_failing (tests_over (λ step y. refused_where reason step (fails step y)) (n + 1) (drop (i + 1) xs))
  passed_at fine = tests_over-drop_more ∙ ap (λ b. cond b (Some (Refused reason n)) (first_failing (tests_over (λ step y. refused_where reason step (fails step y)) (n + 1) (drop (i + 1) xs)))) fine

-- where each item passed, none fails the test
pub none_fails : {X : Type 0} (reason : Reason) (fails : X → Bool) (n : ℕ) (xs : List X) → AllPassed (tests_over (λ step x. refused_where reason step (fails x)) n xs) → list_any fails xs ≡ false
none_fails reason fails n [] h = refl
none_fails reason fails n (x ∷ xs) h = λ i. h.0 i || none_fails reason fails (n + 1) xs h.1 i

-- a test that fails less often passes where the other does
pub passes_too : {X : Type 0} (reason : Reason) (fails less : X → Bool) →
    ((x : X) → fails x ≡ false → less x ≡ false) → (n : ℕ) (xs : List X) →
    AllPassed (tests_over (λ step x. refused_where reason step (fails x)) n xs) →
    AllPassed (tests_over (λ step x. refused_where reason step (less x)) n xs)
passes_too reason fails less weaker n [] h = tt
passes_too reason fails less weaker n (x ∷ xs) h = (weaker x h.0, passes_too reason fails less weaker (n + 1) xs h.1)

-- the first refusal answers itself
pub answers_first : (first : Option NetFault) (fault : NetFault) → first ≡ Some fault → Answers first fault
answers_first first (Refused reason step) is = is
answers_first first OutOfMemory is = tt
