-- What callers see of a queue.
use Rattle.std.specs.Prelude.{ℕ, List}
use Rattle.rail_slots.specs.Slots.{Room}
use Rattle.rail_queue.specs.declared.event.Event.{Event}
use Rattle.rail_queue.specs.Order.{in_order}
use Rattle.rail_queue.specs.Ring.{all_events, ring}

-- the pending events, the next one first, how many more there is room for, the bucket with which the ring begins, and the chains in which the events lie
pub record Queue : Type 0 where
  pub events : List Event
  pub spare : ℕ
  pub base : ℕ
  pub slots : Room Event

-- what a queue shows of its chains and its base: the events are the items of the slots in use, in order
abbrev pub queue_of : Room Event → ℕ → Queue
queue_of slots base = record { events = in_order (all_events ring slots.chains); spare = slots.spare; base = base; slots = slots }
