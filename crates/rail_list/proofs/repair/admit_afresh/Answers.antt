use Rattle.std.proofs.Common.{◌≡◌, ℕ, List, length, refl, sym, ap, ◌∙◌, subst, arith}
use Rattle.rail_rules.specs.Analysis.{finds}
use Rattle.rail_rules.specs.Moves.{Moves}
use Rattle.rail_rules.specs.Numbers.{sum_below}
use Rattle.rail_place.specs.PlaceStates.{State}
use Rattle.rail_place.specs.Tables.{moves_in}
use Rattle.rail_place.proofs.CallerLemmas.{made_long}
use Rattle.rail_list.specs.Failures.{AreFailures}
use Rattle.rail_list.proofs.Appending.{completing_fits}
use Rattle.rail_list.proofs.Trying.{way}
use Rattle.rail_list.proofs.Behind.{has_begun}
use Rattle.rail_list.proofs.Failing.{failure_noted, failures_behind, others_forgotten, others_noted}
use Rattle.rail_list.proofs.Finding.{finds_none, finds_some}
use Rattle.rail_list.proofs.repair.admit_afresh.Goals as goal

pub replace-requires : goal.replace-requires
replace-requires c =
    let plan : Moves = moves_in c.args.moves.now in
    let now : State = c.advance.new.self in
    let fits = completing_fits plan now.positions c.search.new.self.analyst.list (c.search.ensures.answer.complete c.if-search.true) in
    let all : sum_below plan.moves (length now.positions) ≡ sum_below plan.moves (length c.args.moves.now) = ap (sum_below plan.moves) (made_long c.args.moves.now now c.advance.ensures.made) in
    omega (arith, fits, ap {A = List ℕ} length c.list.ensures, all, c.requires.room)

pub retreat-requires-clause-free : goal.retreat-requires-clause-free
retreat-requires-clause-free c =
    (way c.args.moves.now c.args.places.now c.advance.new.self.positions c.args.train c.requires.made c.requires.train c.advance.ensures.positions).free

pub returns-then-search-clause-exact : goal.returns-then-search-clause-exact
returns-then-search-clause-exact c =
    let plan : Moves = moves_in c.args.moves.now in
    sym (ap (finds plan c.args.depth) (sym c.advance.ensures.positions)
    ∙ finds_some plan c.args.depth c.advance.new.self.positions (λ no. no (c.search.ensures.answer.some c.if-search.true)))

pub returns-then-search-clause-failures : goal.returns-then-search-clause-failures
returns-then-search-clause-failures c =
    failures_behind (moves_in c.args.moves.now) c.args.depth c.args.places.now.positions c.advance.new.self.positions c.args.train c.args.failures.now c.forget.new.self (c.advance.ensures.positions, c.requires.legal) c.forget.ensures.cores c.forget.ensures.kept c.requires.failures

pub returns-else-search-clause-exact : goal.returns-else-search-clause-exact
returns-else-search-clause-exact c =
    let plan : Moves = moves_in c.args.moves.now in
    sym (ap (finds plan c.args.depth) (sym c.advance.ensures.positions)
    ∙ finds_none plan c.args.depth c.advance.new.self.positions (c.search.ensures.answer.none c.if-search.false))

pub returns-else-search-clause-none : goal.returns-else-search-clause-none
returns-else-search-clause-none c = λ _. (
  c.retreat.ensures.positions
      ∙ (way c.args.moves.now c.args.places.now c.advance.new.self.positions c.args.train c.requires.made c.requires.train c.advance.ensures.positions).back,
  refl,
)

pub returns-else-search-clause-failures : goal.returns-else-search-clause-failures
returns-else-search-clause-failures c =
    let plan : Moves = moves_in c.args.moves.now in
    let back : c.retreat.new.self.positions ≡ c.args.places.now.positions =
    c.retreat.ensures.positions
    ∙ (way c.args.moves.now c.args.places.now c.advance.new.self.positions c.args.train c.requires.made c.requires.train c.advance.ensures.positions).back in
    subst (λ (r : List ℕ). AreFailures plan c.args.depth r c.note.new.self) (sym back)
    (failure_noted plan c.args.depth c.args.places.now.positions c.advance.new.self.positions c.args.train c.search.new.self.core c.core.result c.args.failures.now c.note.new.self
    c.advance.ensures.positions c.core.ensures (c.search.ensures.answer.stuck c.if-search.false)
    c.note.ensures.kept c.note.ensures.core c.note.ensures.others c.requires.failures)

pub returns-then-search-clause-others : goal.returns-then-search-clause-others
returns-then-search-clause-others c =
    others_forgotten (moves_in c.args.moves.now) c.args.places.now.positions c.advance.new.self.positions c.args.train c.args.failures.now c.forget.new.self (c.advance.ensures.positions, c.requires.legal) c.forget.ensures.cores c.forget.ensures.kept

pub forget-requires-clause-begun : goal.forget-requires-clause-begun
forget-requires-clause-begun c =
    has_begun c.args.places.now.positions c.advance.new.self.positions c.args.train (omega (arith, c.requires.train, made_long c.args.moves.now c.args.places.now c.requires.made)) c.advance.ensures.positions

pub returns-else-search-clause-others : goal.returns-else-search-clause-others
returns-else-search-clause-others c = others_noted c.args.train c.args.failures.now c.note.new.self c.note.ensures.kept c.note.ensures.others
