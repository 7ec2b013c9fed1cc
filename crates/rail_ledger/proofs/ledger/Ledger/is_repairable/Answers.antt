use Rattle.std.proofs.Common.{refl, ◌∙◌}
use Rattle.rail_ledger.specs.declared.ledger.Ledger.{Ledger}
use Rattle.rail_ledger.proofs.Finding.{searcher_for, failures_for, kept_at, legal_next, list_completes, made_for}
use Rattle.rail_ledger.proofs.Repairing.{repairable_at}
use Rattle.rail_ledger.proofs.ledger.Ledger.is_repairable.Goals as goal

pub is_repairable-requires-clause-made : goal.is_repairable-requires-clause-made
is_repairable-requires-clause-made c = made_for c.moves-moves.result.now c.requires.running.front c.args.self.now c.trains.ensures.table c.moves-moves.ensures.moves c.requires.running.at

pub is_repairable-requires-clause-completes : goal.is_repairable-requires-clause-completes
is_repairable-requires-clause-completes c = list_completes c.moves-moves.result.now c.requires.running.front c.args.self.now c.moves-moves.ensures.moves c.requires.running.at

pub is_repairable-requires-clause-legal : goal.is_repairable-requires-clause-legal
is_repairable-requires-clause-legal c = legal_next c.moves-moves.result.now c.requires.running.front c.args.self.now c.moves-moves.ensures.moves c.requires.running.at
    (c.requires.deciding c.requires.running.front c.requires.running.at) c.args.train (c.requires.next c.requires.running.front c.requires.running.at)

pub returns-clause-at : goal.returns-clause-at
returns-clause-at c = λ front at.
    let old : Ledger = c.args.self.now in
    kept_at c.moves-moves.result.now front old old.places c.is_repairable.new.self old.searcher old.failures c.moves-moves.ensures.moves at
    (made_for c.moves-moves.result.now front old c.trains.ensures.table c.moves-moves.ensures.moves at)
    (searcher_for c.moves-moves.result.now front old c.moves-moves.ensures.moves at)
    (failures_for c.moves-moves.result.now front old old.input.plant.tables.depth c.moves-moves.ensures.moves refl at) refl c.is_repairable.ensures.trains c.is_repairable.ensures.room

pub returns-clause-exact : goal.returns-clause-exact
returns-clause-exact c = λ front at.
    c.is_repairable.ensures.exact
    ∙ repairable_at c.moves-moves.result.now front c.args.self.now c.args.train c.moves-moves.ensures.moves at (c.requires.next front at).known_train
