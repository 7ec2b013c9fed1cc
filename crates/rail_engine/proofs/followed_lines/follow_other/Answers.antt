use Rattle.std.proofs.Common.{List, refl, sym, subst, ◌∙◌}
use Rattle.rail_state.specs.Representation.{AreAllKnown}
use Rattle.rail_state.specs.declared.train.TrainState.{TrainState}
use Rattle.rail_ledger.specs.declared.input.RunInput.{RunInput}
use Rattle.rail_laws_events.proofs.CallerLemmas.{told_tells}
use Rattle.rail_ledger.specs.Inputs.{input_in}
use Rattle.rail_ledger.specs.Ledgers.{line_with}
use Rattle.rail_ledger.proofs.CallerLemmas.{listed_as}
use Rattle.rail_engine.proofs.FollowedLines.{followed_on, listed_again, refused_run}
use Rattle.rail_engine.proofs.followed_lines.follow_other.Goals as goal

pub tell_desk-requires : goal.tell_desk-requires
tell_desk-requires g c = λ k told.
    let front = c.requires.running.front in
    let at = c.in-None.ensures.taken refl front c.requires.running.at in
    (told_tells (input_in c.take_other.new.self.input) (line_with c.args.entry c.args.list.now) front k at.rep.lawful told).counted k told

pub returns-in-None-clause-line : goal.returns-in-None-clause-line
returns-in-None-clause-line g c = λ _. c.in-None.ensures.taken refl

pub returns-in-Some-clause-refused : goal.returns-in-Some-clause-refused
returns-in-Some-clause-refused g c = λ _ seats front marks at run.
    refused_run (input_in c.args.ledger.now.input) seats front (line_with c.args.entry c.args.list.now) (c.in-Some.ensures.refused front at).0

pub returns-in-Some-clause-unchanged : goal.returns-in-Some-clause-unchanged
returns-in-Some-clause-unchanged g c = λ _ front at. listed_as front c.take_other.new.self c.args.ledger.now.listed (c.in-Some.ensures.unchanged refl front at)

pub returns-in-Some-clause-unlisted : goal.returns-in-Some-clause-unlisted
returns-in-Some-clause-unlisted g c = λ _.
    listed_again c.args.ledger.now c.take_other.new.self c.requires.running.front c.in-Some.ensures.input c.requires.running.at
    (c.in-Some.ensures.unchanged refl c.requires.running.front c.requires.running.at) c.requires.going

pub returns-in-None-clause-run : goal.returns-in-None-clause-run
returns-in-None-clause-run g c = λ _.
    followed_on c.args.ledger.now c.take_other.new.self (line_with c.args.entry c.args.list.now) c.deref.result.now _ _ c.in-None.ensures.input
    (c.in-None.ensures.taken refl) c.requires.other c.deref.ensures.value c.tell_desk.ensures

pub returns-in-None-clause-over : goal.returns-in-None-clause-over
returns-in-None-clause-over g c = λ over.
    (c.in-None.ensures.taken refl c.requires.running.front c.requires.running.at).rep.known.no_more (sym c.is_hold-round.ensures ∙ over)

pub returns-in-Some-clause-over : goal.returns-in-Some-clause-over
returns-in-Some-clause-over g c = λ over.
    subst (λ (states : List TrainState). AreAllKnown c.take_other.new.self.input.plant states) (sym (c.in-Some.ensures.known_unchanged over refl))
    (subst (λ (input : RunInput). AreAllKnown input.plant c.args.ledger.now.state.trains) (sym c.in-Some.ensures.input) (c.requires.over over))
