use Rattle.std.proofs.Common.{◌≡◌, ◌<◌, ℕ, sym, ◌∙◌, subst, false, arith}
use Rattle.rail_list.specs.Failures.{AreFailures}
use Rattle.rail_list.specs.Repairs.{is_known}
use Rattle.rail_place.specs.Tables.{moves_in}
use Rattle.rail_state.proofs.CallerLemmas.{goes_known}
use Rattle.rail_ledger.specs.Inputs.{dispatch_in}
use Rattle.rail_ledger.specs.Ledgers.{untried}
use Rattle.rail_ledger.specs.declared.ledger.Ledger.{Ledger}
use Rattle.rail_ledger.proofs.Finding.{searcher_for, failures_for, fewer_untried, kept_at, known_same, legal_next, list_completes, made_for, no_list_at}
use Rattle.rail_ledger.proofs.ledger.Ledger.knows_list.Goals as goal

pub is_list_known-requires-clause-made : goal.is_list_known-requires-clause-made
is_list_known-requires-clause-made c = made_for c.moves-moves.result.now c.requires.running.front c.args.self.now c.trains.ensures.table c.moves-moves.ensures.moves c.requires.running.at

pub is_list_known-requires-clause-own : goal.is_list_known-requires-clause-own
is_list_known-requires-clause-own c = searcher_for c.moves-moves.result.now c.requires.running.front c.args.self.now c.moves-moves.ensures.moves c.requires.running.at

pub is_list_known-requires-clause-failures : goal.is_list_known-requires-clause-failures
is_list_known-requires-clause-failures c = failures_for c.moves-moves.result.now c.requires.running.front c.args.self.now c.depth-depth.result c.moves-moves.ensures.moves c.depth-depth.ensures c.requires.running.at

pub is_list_known-requires-clause-completes : goal.is_list_known-requires-clause-completes
is_list_known-requires-clause-completes c = list_completes c.moves-moves.result.now c.requires.running.front c.args.self.now c.moves-moves.ensures.moves c.requires.running.at

pub is_list_known-requires-clause-legal : goal.is_list_known-requires-clause-legal
is_list_known-requires-clause-legal c = legal_next c.moves-moves.result.now c.requires.running.front c.args.self.now c.moves-moves.ensures.moves c.requires.running.at
    (c.requires.deciding c.requires.running.front c.requires.running.at) c.args.train (c.requires.next c.requires.running.front c.requires.running.at)

pub returns-then-is_list_known-clause-at : goal.returns-then-is_list_known-clause-at
returns-then-is_list_known-clause-at c = λ front at.
    let old : Ledger = c.args.self.now in
    kept_at c.moves-moves.result.now front old c.is_list_known.new.places c.is_list_known.new.kept c.is_list_known.new.searcher c.is_list_known.new.failures c.moves-moves.ensures.moves at c.is_list_known.ensures.made c.is_list_known.ensures.own (subst (λ (d : ℕ). AreFailures (moves_in c.moves-moves.result.now) d c.is_list_known.new.places.positions c.is_list_known.new.failures) c.depth-depth.ensures c.is_list_known.ensures.failures) c.is_list_known.ensures.positions c.is_list_known.ensures.trains c.is_list_known.ensures.room

pub returns-then-is_list_known-clause-known : goal.returns-then-is_list_known-clause-known
returns-then-is_list_known-clause-known c = λ _ front at.
    let old : Ledger = c.args.self.now in
    goes_known (dispatch_in old.input) old.input.plant front old.state at.rep (c.requires.deciding front at) c.args.train (c.requires.next front at)
    (sym (known_same c.moves-moves.result.now front old c.depth-depth.result c.args.train c.moves-moves.ensures.moves at c.depth-depth.ensures)
    ∙ sym c.is_list_known.ensures.exact ∙ c.if-is_list_known.true)

pub returns-clause-at : goal.returns-clause-at
returns-clause-at c = λ front at.
    let old : Ledger = c.args.self.now in
    no_list_at c.moves-moves.result.now front old c.is_list_known.new.places c.is_list_known.new.kept c.is_list_known.new.searcher c.is_list_known.new.failures c.args.train c.moves-moves.ensures.moves at (c.requires.next front at)
    c.is_list_known.ensures.made c.is_list_known.ensures.own (subst (λ (d : ℕ). AreFailures (moves_in c.moves-moves.result.now) d c.is_list_known.new.places.positions c.is_list_known.new.failures) c.depth-depth.ensures c.is_list_known.ensures.failures) c.is_list_known.ensures.positions c.is_list_known.ensures.trains c.is_list_known.ensures.room
    (subst (λ (d : ℕ). is_known (moves_in c.moves-moves.result.now) d old.places.positions old.kept.trains c.args.train ≡ false) c.depth-depth.ensures
    (sym c.is_list_known.ensures.exact ∙ c.if-is_list_known.false))
    c.note_no_list.new.self c.note_no_list.ensures

pub returns-clause-fewer : goal.returns-clause-fewer
returns-clause-fewer c = λ _.
    let old : Ledger = c.args.self.now in
    let next = c.requires.next c.requires.running.front c.requires.running.at in
    subst (λ states. untried states < untried old.state.trains) (sym c.note_no_list.ensures)
    (fewer_untried old.state.trains c.args.train (omega (arith, next.known_train, c.requires.running.at.rep.times.many)) next.untried)

pub returns-clause-none : goal.returns-clause-none
returns-clause-none c = λ no. (returns-clause-fewer c no, returns-clause-at c, c.note_no_list.ensures)
