use Rattle.std.proofs.Common.{◌≡◌, ℕ, List, sym, ap, ◌∙◌, subst, arith}
use Rattle.rail_rules.specs.Moves.{Moves}
use Rattle.rail_rules.specs.Places.{after}
use Rattle.rail_place.specs.PlaceStates.{State}
use Rattle.rail_place.specs.Tables.{moves_in}
use Rattle.rail_list.specs.Failures.{AreFailures}
use Rattle.rail_place.proofs.CallerLemmas.{made_long}
use Rattle.rail_list.proofs.Behind.{has_begun}
use Rattle.rail_list.proofs.Failing.{failures_behind, others_forgotten}
use Rattle.rail_list.proofs.given_admission.admit_given.Goals as goal
use Rattle.rail_list.proofs.given_admission.admit_given.Goals.{in-Pulled, in-Appended, in-Fresh}

pub forget-requires-clause-begun : goal.forget-requires-clause-begun
forget-requires-clause-begun c =
    let s : List ℕ = c.args.places.now.positions in
    let there : c.match-note.places.positions ≡ after s c.args.train =
    elim c.match-note.branch [
      | in-Pulled w ↦ ap (λ (p : State). p.positions) w.places-is ∙ (w.admit_pulled-admitted.ensures.given (sym w.admitted-is ∙ c.if-admitted.true)).0
      | in-Appended w ↦ ap (λ (p : State). p.positions) w.places-is ∙ (w.admit_appended-admitted.ensures.given (sym w.admitted-is ∙ c.if-admitted.true)).0
      | in-Fresh w ↦ ap (λ (p : State). p.positions) w.places-is ∙ (w.admit_listed-admitted.ensures.given (sym w.admitted-is ∙ c.if-admitted.true)).0
    ] in
    has_begun s c.match-note.places.positions c.args.train (omega (arith, c.requires.train, made_long c.args.moves.now c.args.places.now c.requires.made)) there

pub returns-then-admitted-clause-failures : goal.returns-then-admitted-clause-failures
returns-then-admitted-clause-failures c = λ depth are.
    let s : List ℕ = c.args.places.now.positions in
    let there : c.match-note.places.positions ≡ after s c.args.train =
    elim c.match-note.branch [
      | in-Pulled w ↦ ap (λ (p : State). p.positions) w.places-is ∙ (w.admit_pulled-admitted.ensures.given (sym w.admitted-is ∙ c.if-admitted.true)).0
      | in-Appended w ↦ ap (λ (p : State). p.positions) w.places-is ∙ (w.admit_appended-admitted.ensures.given (sym w.admitted-is ∙ c.if-admitted.true)).0
      | in-Fresh w ↦ ap (λ (p : State). p.positions) w.places-is ∙ (w.admit_listed-admitted.ensures.given (sym w.admitted-is ∙ c.if-admitted.true)).0
    ] in
    failures_behind (moves_in c.args.moves.now) depth s c.match-note.places.positions c.args.train c.args.failures.now c.forget.new.self (there, c.requires.legal) c.forget.ensures.cores c.forget.ensures.kept are

pub returns-else-admitted-clause-failures : goal.returns-else-admitted-clause-failures
returns-else-admitted-clause-failures c = λ depth are.
    let plan : Moves = moves_in c.args.moves.now in
    let s : List ℕ = c.args.places.now.positions in
    let same : c.match-note.places.positions ≡ s =
    elim c.match-note.branch [
      | in-Pulled w ↦ ap (λ (p : State). p.positions) w.places-is ∙ (w.admit_pulled-admitted.ensures.none (sym w.admitted-is ∙ c.if-admitted.false)).0
      | in-Appended w ↦ ap (λ (p : State). p.positions) w.places-is ∙ (w.admit_appended-admitted.ensures.none (sym w.admitted-is ∙ c.if-admitted.false)).0
      | in-Fresh w ↦ ap (λ (p : State). p.positions) w.places-is ∙ (w.admit_listed-admitted.ensures.none (sym w.admitted-is ∙ c.if-admitted.false)).0
    ] in
    subst (λ (r : List ℕ). AreFailures plan depth r c.args.failures.now) (sym same) are

pub returns-then-admitted-clause-others : goal.returns-then-admitted-clause-others
returns-then-admitted-clause-others c =
    let s : List ℕ = c.args.places.now.positions in
    let there : c.match-note.places.positions ≡ after s c.args.train =
    elim c.match-note.branch [
      | in-Pulled w ↦ ap (λ (p : State). p.positions) w.places-is ∙ (w.admit_pulled-admitted.ensures.given (sym w.admitted-is ∙ c.if-admitted.true)).0
      | in-Appended w ↦ ap (λ (p : State). p.positions) w.places-is ∙ (w.admit_appended-admitted.ensures.given (sym w.admitted-is ∙ c.if-admitted.true)).0
      | in-Fresh w ↦ ap (λ (p : State). p.positions) w.places-is ∙ (w.admit_listed-admitted.ensures.given (sym w.admitted-is ∙ c.if-admitted.true)).0
    ] in
    others_forgotten (moves_in c.args.moves.now) s c.match-note.places.positions c.args.train c.args.failures.now c.forget.new.self (there, c.requires.legal) c.forget.ensures.cores c.forget.ensures.kept
