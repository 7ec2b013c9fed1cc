use Rattle.std.proofs.Common.{◌≡◌, ℕ, ◌+◌, ◌&&◌, Bool, not, None, get_or, length, drop, count_by}
use Rattle.std.specs.List.{filter}
use Rattle.rail_queue.specs.declared.event.Event.{Event}
use Rattle.rail_rules.specs.Numbers.{is_in}
use Rattle.rail_laws_step.specs.HolderTables.{is_train}
use Rattle.rail_state.specs.Events.{AreFreedOnce, is_free_of}
use Rattle.rail_state.proofs.admission.forget_each.Given as goal

abbrev pub invariant-loop-section : goal.invariant-loop-section
invariant-loop-section l =
    let taken : ℕ → Bool = λ x. is_in x l.claimed && is_train l.train (get_or l.holders x None) in
    record {
      counted : (q : Event → Bool) → count_by (λ e. not (is_free_of (filter taken (drop l.section-index l.sections)) e) && q e) l.queue.events
          ≡ count_by (λ e. not (is_free_of (filter taken l.sections) e) && q e) l.fn.queue.events;
      single : AreFreedOnce (filter taken (drop l.section-index l.sections)) l.queue.events;
      room : length l.queue.events + l.queue.spare ≡ length l.fn.queue.events + l.fn.queue.spare;
    }
