use Rattle.std.proofs.Common.{◌≡◌, ◌<◌, ℕ, refl, sym, subst, false, arith}
use Rattle.rail_list.specs.Failures.{AreFailures}
use Rattle.rail_list.specs.Repairs.{IsNoted, is_known}
use Rattle.rail_place.specs.Tables.{moves_in}
use Rattle.rail_ledger.specs.Ledgers.{untried}
use Rattle.rail_ledger.proofs.Finding.{searcher_for, failures_for, fewer_untried, has_list, legal_next, list_completes, made_for, no_list_at}
use Rattle.rail_ledger.proofs.ledger.Ledger.find_list.Goals as goal

pub admit_by_list-requires-clause-made : goal.admit_by_list-requires-clause-made
admit_by_list-requires-clause-made c = made_for c.moves-moves.result.now c.requires.running.front c.args.self.now c.trains.ensures.table c.moves-moves.ensures.moves c.requires.running.at

pub admit_by_list-requires-clause-own : goal.admit_by_list-requires-clause-own
admit_by_list-requires-clause-own c = searcher_for c.moves-moves.result.now c.requires.running.front c.args.self.now c.moves-moves.ensures.moves c.requires.running.at

pub admit_by_list-requires-clause-failures : goal.admit_by_list-requires-clause-failures
admit_by_list-requires-clause-failures c = failures_for c.moves-moves.result.now c.requires.running.front c.args.self.now c.depth-depth.result c.moves-moves.ensures.moves c.depth-depth.ensures c.requires.running.at

pub admit_by_list-requires-clause-completes : goal.admit_by_list-requires-clause-completes
admit_by_list-requires-clause-completes c = list_completes c.moves-moves.result.now c.requires.running.front c.args.self.now c.moves-moves.ensures.moves c.requires.running.at

pub admit_by_list-requires-clause-legal : goal.admit_by_list-requires-clause-legal
admit_by_list-requires-clause-legal c = legal_next c.moves-moves.result.now c.requires.running.front c.args.self.now c.moves-moves.ensures.moves c.requires.running.at
    (c.requires.deciding c.requires.running.front c.requires.running.at) c.args.train (c.requires.next c.requires.running.front c.requires.running.at)

pub returns-in-Some-clause-found : goal.returns-in-Some-clause-found
returns-in-Some-clause-found c = (
  refl,
  λ front at.
      has_list c.moves-moves.result.now front c.args.self.now c.admit_by_list.new.places c.admit_by_list.new.kept c.admit_by_list.new.searcher c.admit_by_list.new.failures c.args.train c.in-Some.note c.moves-moves.ensures.moves at c.in-Some.ensures.made c.in-Some.ensures.own
      (subst (λ (d : ℕ). AreFailures (moves_in c.moves-moves.result.now) d c.admit_by_list.new.places.positions c.admit_by_list.new.failures) c.depth-depth.ensures c.in-Some.ensures.failures) c.in-Some.ensures.room (c.in-Some.ensures.moved refl)
      (subst (λ (d : ℕ). IsNoted (moves_in c.moves-moves.result.now) d c.args.self.now.places.positions c.args.self.now.kept.trains c.args.train c.in-Some.note c.admit_by_list.new.kept.trains) c.depth-depth.ensures c.in-Some.ensures.note),
)

pub returns-in-None-clause-none : goal.returns-in-None-clause-none
returns-in-None-clause-none c = λ none.
    let next = c.requires.next c.requires.running.front c.requires.running.at in
    let facts = c.in-None.ensures.none refl in (
      subst (λ states. untried states < untried c.args.self.now.state.trains) (sym c.note_no_list.ensures)
          (fewer_untried c.args.self.now.state.trains c.args.train (omega (arith, next.known_train, c.requires.running.at.rep.times.many)) next.untried),
      λ front at. no_list_at c.moves-moves.result.now front c.args.self.now c.admit_by_list.new.places c.admit_by_list.new.kept c.admit_by_list.new.searcher c.admit_by_list.new.failures c.args.train c.moves-moves.ensures.moves at (c.requires.next front at) c.in-None.ensures.made c.in-None.ensures.own
          (subst (λ (d : ℕ). AreFailures (moves_in c.moves-moves.result.now) d c.admit_by_list.new.places.positions c.admit_by_list.new.failures) c.depth-depth.ensures c.in-None.ensures.failures) facts.0 facts.1 c.in-None.ensures.room
          (subst (λ (d : ℕ). is_known (moves_in c.moves-moves.result.now) d c.args.self.now.places.positions c.args.self.now.kept.trains c.args.train ≡ false) c.depth-depth.ensures facts.2)
          c.note_no_list.new.self c.note_no_list.ensures,
      c.note_no_list.ensures,
    )
