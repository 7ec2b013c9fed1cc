use Rattle.std.proofs.Common.{ℕ, List, sym, ap, ◌∙◌, subst}
use Rattle.rail_rules.specs.Analysis.{finds}
use Rattle.rail_rules.specs.Moves.{Moves}
use Rattle.rail_place.specs.Tables.{moves_in}
use Rattle.rail_list.specs.Failures.{AreFailures}
use Rattle.rail_list.proofs.Trying.{way}
use Rattle.rail_list.proofs.Failing.{failure_noted}
use Rattle.rail_list.proofs.Finding.{finds_none, finds_some}
use Rattle.rail_list.proofs.repair.is_found.Goals as goal

pub retreat-requires-clause-free : goal.retreat-requires-clause-free
retreat-requires-clause-free c =
    (way c.args.moves.now c.args.places.now c.advance.new.self.positions c.args.train c.requires.made c.requires.train c.advance.ensures.positions).free

pub returns-then-found-clause-positions : goal.returns-then-found-clause-positions
returns-then-found-clause-positions c =
    c.retreat.ensures.positions
    ∙ (way c.args.moves.now c.args.places.now c.advance.new.self.positions c.args.train c.requires.made c.requires.train c.advance.ensures.positions).back

pub returns-then-found-clause-exact : goal.returns-then-found-clause-exact
returns-then-found-clause-exact c =
    let plan : Moves = moves_in c.args.moves.now in
    sym (ap (finds plan c.args.depth) (sym c.advance.ensures.positions)
    ∙ finds_some plan c.args.depth c.advance.new.self.positions (λ no. no (c.search-found.ensures.answer.some c.if-found.true)))

pub returns-then-found-clause-failures : goal.returns-then-found-clause-failures
returns-then-found-clause-failures c =
    subst (λ (r : List ℕ). AreFailures (moves_in c.args.moves.now) c.args.depth r c.args.failures.now) (sym (returns-then-found-clause-positions c)) c.requires.failures

pub returns-clause-positions : goal.returns-clause-positions
returns-clause-positions c =
    c.retreat.ensures.positions
    ∙ (way c.args.moves.now c.args.places.now c.advance.new.self.positions c.args.train c.requires.made c.requires.train c.advance.ensures.positions).back

pub returns-clause-exact : goal.returns-clause-exact
returns-clause-exact c =
    let plan : Moves = moves_in c.args.moves.now in
    sym (ap (finds plan c.args.depth) (sym c.advance.ensures.positions)
    ∙ finds_none plan c.args.depth c.advance.new.self.positions (c.search-found.ensures.answer.none c.if-found.false))

pub returns-clause-failures : goal.returns-clause-failures
returns-clause-failures c =
    let plan : Moves = moves_in c.args.moves.now in
    subst (λ (r : List ℕ). AreFailures plan c.args.depth r c.note.new.self) (sym (returns-clause-positions c))
    (failure_noted plan c.args.depth c.args.places.now.positions c.advance.new.self.positions c.args.train c.search-found.new.self.core c.core.result c.args.failures.now c.note.new.self
    c.advance.ensures.positions c.core.ensures (c.search-found.ensures.answer.stuck c.if-found.false)
    c.note.ensures.kept c.note.ensures.core c.note.ensures.others c.requires.failures)
