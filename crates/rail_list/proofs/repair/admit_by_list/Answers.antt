use Rattle.std.proofs.Common.{ℕ, List, refl, sym, ap, ◌∙◌, arith}
use Rattle.std.proofs.lemmas.Bool.{or_from}
use Rattle.rail_rules.specs.Analysis.{finds}
use Rattle.rail_rules.specs.Moves.{Moves}
use Rattle.rail_rules.specs.Places.{after, completes}
use Rattle.rail_place.specs.PlaceStates.{State}
use Rattle.rail_place.specs.Tables.{moves_in}
use Rattle.rail_place.proofs.CallerLemmas.{made_long}
use Rattle.rail_list.specs.Repairs.{is_repairable_for}
use Rattle.rail_list.proofs.Behind.{has_begun}
use Rattle.rail_list.proofs.Failing.{failure_finds_none, failures_behind, others_forgotten}
use Rattle.rail_list.proofs.Remaining.{fresh_some, noted_completes}
use Rattle.rail_list.proofs.repair.admit_by_list.Goals as goal

pub returns-in-Some-clause-completes : goal.returns-in-Some-clause-completes
returns-in-Some-clause-completes c =
    let plan : Moves = moves_in c.args.moves.now in
    let s = c.args.places.now.positions in
    let t = c.args.train in
    let list = c.repair.new.kept.trains in
    ap (λ r. completes plan r list) c.advance.ensures.positions
    ∙ noted_completes plan c.args.depth s c.args.kept.now.trains t c.in-Some.note list (c.in-Some.ensures.note c.args.depth)

pub returns-then-admit_afresh-clause-note : goal.returns-then-admit_afresh-clause-note
returns-then-admit_afresh-clause-note c =
    let table = c.args.moves.now in
    let plan : Moves = moves_in table in
    let now : State = c.args.places.now in
    let t = c.args.train in
    let list = c.args.kept.now.trains in
    let not_so = (c.in_default.ensures.none refl).1 in
    let done = c.admit_afresh.ensures.completes c.if-admit_afresh.true in (
      not_so,
      sym c.admit_afresh.ensures.exact ∙ c.if-admit_afresh.true,
      done,
      fresh_some plan now.positions list c.admit_afresh.new.kept.trains t (omega (arith, c.requires.train, made_long table now c.requires.made)) c.requires.completes not_so done,
    )

pub returns-in-Some-clause-failures : goal.returns-in-Some-clause-failures
returns-in-Some-clause-failures c =
    failures_behind (moves_in c.args.moves.now) c.args.depth c.args.places.now.positions c.advance.new.self.positions c.args.train c.args.failures.now c.forget.new.self (c.advance.ensures.positions, c.requires.legal) c.forget.ensures.cores c.forget.ensures.kept c.requires.failures

pub returns-then-has-clause-none : goal.returns-then-has-clause-none
returns-then-has-clause-none c = λ none.
    let plan : Moves = moves_in c.args.moves.now in
    let s : List ℕ = c.args.places.now.positions in
    let list : List ℕ = c.args.kept.now.trains in
    let not_so = c.in_default.ensures.none refl in (
      refl,
      not_so.0,
      or_from (is_repairable_for plan s list c.args.train) (finds plan c.args.depth (after s c.args.train)) not_so.1
          (failure_finds_none plan c.args.depth s c.args.train c.args.failures.now c.requires.failures (omega (arith, c.requires.train, made_long c.args.moves.now c.args.places.now c.requires.made)) (sym c.has.ensures ∙ c.if-has.true)),
    )

pub returns-in-Some-clause-others : goal.returns-in-Some-clause-others
returns-in-Some-clause-others c =
    others_forgotten (moves_in c.args.moves.now) c.args.places.now.positions c.advance.new.self.positions c.args.train c.args.failures.now c.forget.new.self (c.advance.ensures.positions, c.requires.legal) c.forget.ensures.cores c.forget.ensures.kept

pub forget-requires-clause-begun : goal.forget-requires-clause-begun
forget-requires-clause-begun c =
    has_begun c.args.places.now.positions c.advance.new.self.positions c.args.train (omega (arith, c.requires.train, made_long c.args.moves.now c.args.places.now c.requires.made)) c.advance.ensures.positions
