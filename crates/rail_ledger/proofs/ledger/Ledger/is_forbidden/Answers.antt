use Rattle.std.proofs.Common.{◌≡◌, ◌+◌, ◌-◌, ◌||◌, false, is_some, sym, ap, ◌∙◌, arith}
use Rattle.rail_rules.specs.Plant.{claimed}
use Rattle.rail_orders.specs.OrderTables.{closed_in, stop_in}
use Rattle.rail_state.specs.TrainStates.{state_of}
use Rattle.rail_state.specs.declared.train.TrainState.{TrainState}
use Rattle.rail_ledger.proofs.Admissions.{known_of, left_of}
use Rattle.rail_ledger.proofs.Room.{place_fits}
use Rattle.rail_ledger.proofs.ledger.Ledger.is_forbidden.Goals as goal

pub overflow_add-place : goal.overflow_add-place
overflow_add-place c = omega (arith, place_fits c.requires.running.front c.args.self.now c.requires.running.at c.args.train (known_of c.requires.running.front c.args.self.now c.requires.running.at c.args.train c.requires.waits), ap (λ (r : TrainState). r.place) c.get.ensures)

pub claimed_sections-sections-requires-clause-last : goal.claimed_sections-sections-requires-clause-last
claimed_sections-sections-requires-clause-last c =
    let front = c.requires.running.front in
    let at = c.requires.running.at in
    omega (arith, left_of front c.args.self.now at c.args.train c.requires.waits, at.rep.times.places c.args.train (known_of front c.args.self.now at c.args.train c.requires.waits), ap (λ (r : TrainState). r.place) c.get.ensures)

pub returns-else-is_some : goal.returns-else-is_some
returns-else-is_some c =
    let orders = c.args.self.now.orders in
    let plant = c.args.self.now.input.plant in
    let t = c.args.train in
    let place = (state_of c.args.self.now.state.trains t).place in
    let back : c.get.result.now.place + 1 - 1 ≡ place = omega (arith, ap (λ (r : TrainState). r.place) c.get.ensures) in
    let sections : c.claimed_sections-sections.result.now ≡ claimed plant t place = c.claimed_sections-sections.ensures.sections ∙ ap (claimed plant t) back in
    let unstopped : is_some (stop_in orders t) ≡ false = ap is_some (sym c.stop_cause.ensures) ∙ sym c.is_some.ensures ∙ c.if-is_some.false in
    c.is_some-else-is_some.ensures ∙ ap is_some c.closed_cause.ensures ∙ ap (λ xs. is_some (closed_in orders xs)) sections
    ∙ sym (ap (λ b. b || is_some (closed_in orders (claimed plant t place))) unstopped)
