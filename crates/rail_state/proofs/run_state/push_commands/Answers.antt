use Rattle.std.proofs.Common.{◌+◌, ◌-◌, ◌≡◌, ◌∷◌, ℕ, true, [], List, length, drop, ap, arith, refl}
use Rattle.std.specs.Prelude.{count_by}
use Rattle.std.proofs.Math.Seq.{drop-length}
use Rattle.rail_base.specs.declared.orders.Command.{Command}
use Rattle.rail_queue.specs.declared.event.Event.{Event}
use Rattle.rail_state.specs.Events.{command_event, command_events}
use Rattle.rail_state.proofs.CommandEvents.{counted_from}
use Rattle.rail_state.proofs.Counts.{count-all}
use Rattle.rail_state.proofs.run_state.push_commands.Goals as goal

pub loop-left-init : goal.loop-left-init
loop-left-init c = record {
  counted = λ q. omega (arith, ap (λ (cs : List Command). count_by q (command_events (length c.args.commands.now) cs)) (drop-length c.args.commands.now));
  within = omega arith;
  room = refl;
  spare = c.requires.room;
}

pub loop-left-preserved : goal.loop-left-preserved
loop-left-preserved c =
    let inv = c.loop-left.invariant in
    let new = c.push.new.self in
    let old = c.loop-left.queue in
    let left : ℕ = c.loop-left.left - 1 in
    let next : left + 1 ≡ c.loop-left.left = omega (arith, c.loop-left-test.true) in
    record {
      counted = λ q. omega (
        arith,
        c.push.ensures.counted q,
        inv.counted q,
        counted_from q c.args.commands.now left c.index-commands-left.result (omega (arith, next, inv.within)) c.index-commands-left.is,
        ap (λ n. count_by q (command_events n (drop n c.args.commands.now))) next,
        ap (λ (e : Event). count_by q (e ∷ [])) c.event_of_command.ensures,
        ap (λ (command : Command). count_by q (command_event command.at (left + 1) ∷ [])) c.index-commands-left.is,
      );
      within = omega (arith, inv.within);
      room = omega (arith, count-all new.events, count-all old.events, c.push.ensures.counted (λ e. true), c.push.ensures.spare, inv.room);
      spare = omega (arith, c.push.ensures.spare, inv.spare, next);
    }
