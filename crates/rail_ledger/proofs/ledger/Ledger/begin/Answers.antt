use Rattle.std.proofs.Common.{ℕ, ◌+◌, List, length, replicate, refl, ap, ◌∙◌, arith}
use Rattle.std.specs.Prelude.{count_by}
use Rattle.rail_base.specs.declared.orders.Command.{Command}
use Rattle.rail_laws_step.specs.MostDue.{most_due}
use Rattle.rail_orders.specs.OrderTables.{first_tables}
use Rattle.rail_state.specs.Events.{command_events}
use Rattle.rail_state.specs.declared.pushes.TheConstants.{MOVE_EVENTS}
use Rattle.rail_ledger.specs.Inputs.{input_in}
use Rattle.rail_ledger.proofs.Ordered.{commands_first}
use Rattle.rail_ledger.proofs.Starting.{new_stands}
use Rattle.rail_ledger.proofs.ledger.Ledger.begin.Goals as goal

pub returns-clause-begun : goal.returns-clause-begun
returns-clause-begun c = (
  new_stands _ c.moves.result.now (record {
    accepted = c.requires.accepted;
    orders = c.in_ok-orders.ensures ∙ ap (λ (deck : List (List ℕ)). first_tables c.args.input.plant deck c.args.input.force) c.deref.ensures.value;
    same = c.moves.ensures.moves;
    made = c.in_ok-lists.ensures.made;
    positions = c.in_ok-lists.ensures.positions ∙ ap (λ n. replicate n 0) c.moves.ensures.trains;
    list = c.in_ok-lists.ensures.kept;
    list_fits = c.in_ok-lists.ensures.room;
    begins = record {
      events = λ q. omega (
        arith,
        c.in_ok-state.ensures.events q,
        ap (λ (commands : List Command). count_by q (command_events 0 commands)) c.deref-2.ensures.value,
        commands_first q (input_in c.args.input) 0 c.args.input.commands.items,
      );
      holders = c.in_ok-state.ensures.holders;
      trains = c.in_ok-state.ensures.trains;
      time = c.in_ok-state.ensures.instant;
      going = c.in_ok-state.ensures.going;
      settled = c.in_ok-state.ensures.settled;
    };
    queue_room = c.in_ok-state.ensures.room ∙ ap (λ (commands : List Command). most_due c.args.input.plant (length commands) + MOVE_EVENTS) c.deref-2.ensures.value;
    remaining_room = c.in_ok-lists.ensures.capacity;
    remaining = c.in_ok-lists.ensures.remaining;
    searcher = c.in_ok-lists.ensures.searcher;
    failures = c.in_ok-lists.ensures.failures;
  }),
  refl,
)
