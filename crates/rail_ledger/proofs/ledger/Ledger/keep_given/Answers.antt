use Rattle.std.proofs.Common.{refl, sym, ◌∙◌, subst}
use Rattle.rail_rules.specs.Moves.{Moves}
use Rattle.rail_place.specs.Tables.{moves_in}
use Rattle.rail_consequence.specs.AnalystStates.{IsAnalystFor, Tallied}
use Rattle.rail_ledger.proofs.Admissions.{given_exact, has_given, legal_admissible}
use Rattle.rail_ledger.proofs.Finding.{searcher_for, failures_for, kept_at, list_completes, made_for}
use Rattle.rail_ledger.proofs.ledger.Ledger.keep_given.Goals as goal

pub admit_given-requires-clause-made : goal.admit_given-requires-clause-made
admit_given-requires-clause-made c = made_for c.moves-moves.result.now c.requires.next.front c.args.self.now c.trains.ensures.table c.moves-moves.ensures.moves c.requires.next.at

pub admit_given-requires-clause-completes : goal.admit_given-requires-clause-completes
admit_given-requires-clause-completes c = list_completes c.moves-moves.result.now c.requires.next.front c.args.self.now c.moves-moves.ensures.moves c.requires.next.at

pub admit_given-requires-clause-legal : goal.admit_given-requires-clause-legal
admit_given-requires-clause-legal c =
    let next = c.requires.next in
    legal_admissible c.moves-moves.result.now next.front c.args.self.now c.moves-moves.ensures.moves next.at next.deciding c.args.train next.admissible

pub admit_given-requires-clause-own : goal.admit_given-requires-clause-own
admit_given-requires-clause-own c =
    let plan : Moves = moves_in c.moves-moves.result.now in
    subst (λ (t : Tallied). IsAnalystFor plan t) (sym c.analyst-analyst.ensures) (searcher_for c.moves-moves.result.now c.requires.next.front c.args.self.now c.moves-moves.ensures.moves c.requires.next.at).analyst

pub returns-clause-exact : goal.returns-clause-exact
returns-clause-exact c = λ front at. c.admit_given.ensures.exact ∙ given_exact c.moves-moves.result.now front c.args.self.now c.moves-moves.ensures.moves at c.args.train c.args.note c.args.list.now

pub returns-clause-given : goal.returns-clause-given
returns-clause-given c = λ yes front at.
    let given = c.admit_given.ensures.given yes in
    has_given c.moves-moves.result.now front c.args.self.now (record c.args.self.now { places = c.admit_given.new.places; kept = c.admit_given.new.kept; failures = c.admit_given.new.failures }) c.moves-moves.ensures.moves at c.args.train c.args.note c.args.list.now c.admit_given.ensures.made (c.admit_given.ensures.failures c.args.self.now.input.plant.tables.depth (failures_for c.moves-moves.result.now front c.args.self.now c.args.self.now.input.plant.tables.depth c.moves-moves.ensures.moves refl at)) c.admit_given.ensures.room given.0 given.1

pub returns-clause-unchanged : goal.returns-clause-unchanged
returns-clause-unchanged c = λ no front at.
    let none = c.admit_given.ensures.none no in
    kept_at c.moves-moves.result.now front c.args.self.now c.admit_given.new.places c.admit_given.new.kept c.args.self.now.searcher c.admit_given.new.failures c.moves-moves.ensures.moves at c.admit_given.ensures.made (searcher_for c.moves-moves.result.now front c.args.self.now c.moves-moves.ensures.moves at) (c.admit_given.ensures.failures c.args.self.now.input.plant.tables.depth (failures_for c.moves-moves.result.now front c.args.self.now c.args.self.now.input.plant.tables.depth c.moves-moves.ensures.moves refl at)) none.0 none.1 c.admit_given.ensures.room
