use Rattle.std.proofs.Common.{◌≡◌, ◌+◌, ◌-◌, is_some, ap, ◌∙◌, arith}
use Rattle.rail_rules.specs.Plant.{claimed}
use Rattle.rail_laws_step.specs.HolderTables.{held_cause, own_overlap}
use Rattle.rail_state.specs.TrainStates.{state_of}
use Rattle.rail_state.specs.declared.train.TrainState.{TrainState}
use Rattle.rail_ledger.proofs.Admissions.{known_of, left_of}
use Rattle.rail_ledger.proofs.Room.{place_fits}
use Rattle.rail_ledger.proofs.ledger.Ledger.is_occupied.Goals as goal

pub overflow_add-place : goal.overflow_add-place
overflow_add-place c = omega (arith, place_fits c.requires.running.front c.args.self.now c.requires.running.at c.args.train (known_of c.requires.running.front c.args.self.now c.requires.running.at c.args.train c.requires.waits), ap (λ (r : TrainState). r.place) c.get.ensures)

pub claimed_sections-sections-requires-clause-last : goal.claimed_sections-sections-requires-clause-last
claimed_sections-sections-requires-clause-last c =
    let front = c.requires.running.front in
    let at = c.requires.running.at in
    omega (arith, left_of front c.args.self.now at c.args.train c.requires.waits, at.rep.times.places c.args.train (known_of front c.args.self.now at c.args.train c.requires.waits), ap (λ (r : TrainState). r.place) c.get.ensures)

pub overlap_behind-own-requires-clause-last : goal.overlap_behind-own-requires-clause-last
overlap_behind-own-requires-clause-last c =
    let front = c.requires.running.front in
    let at = c.requires.running.at in
    omega (arith, left_of front c.args.self.now at c.args.train c.requires.waits, at.rep.times.places c.args.train (known_of front c.args.self.now at c.args.train c.requires.waits), ap (λ (r : TrainState). r.place) c.get.ensures)

pub returns : goal.returns
returns c =
    let plant = c.args.self.now.input.plant in
    let t = c.args.train in
    let here = ap (λ (r : TrainState). r.place) c.get.ensures in
    let back : c.get.result.now.place + 1 - 1 ≡ (state_of c.args.self.now.state.trains t).place = omega (arith, here) in
    let own : c.overlap_behind-own.result.now ≡ own_overlap plant t (state_of c.args.self.now.state.trains t).place = c.overlap_behind-own.ensures.sections ∙ ap (own_overlap plant t) here in
    let sections : c.claimed_sections-sections.result.now ≡ claimed plant t (state_of c.args.self.now.state.trains t).place = c.claimed_sections-sections.ensures.sections ∙ ap (claimed plant t) back in
    c.is_some.ensures ∙ ap is_some c.held_cause.ensures ∙ (λ k. is_some (held_cause c.args.self.now.state.holders t (own k) (sections k)))
