use Rattle.std.proofs.Common.{◌≡◌, ◌+◌, ◌-◌, ◌<◌, Bool, length, sym, ◌∙◌, arith}
use Rattle.rail_base.specs.declared.history.Entry.{Entry}
use Rattle.rail_laws_events.specs.Accounts.{tally}
use Rattle.rail_laws_events.specs.Changes.{freed_before}
use Rattle.rail_block.specs.CarriedTimes.{times_at}
use Rattle.rail_block.specs.KnownMoves.{times_after}
use Rattle.rail_block.proofs.CallerLemmas.{few_steps}
use Rattle.rail_state.specs.Events.{event_of}
use Rattle.rail_state.proofs.admission.push_beginning.Goals as goal

pub push_stood-requires-clause-room : goal.push_stood-requires-clause-room
push_stood-requires-clause-room c = omega (arith, few_steps c.new-before.result, c.requires.room, c.end_overlap.ensures.spare)

pub returns-clause-spare : goal.returns-clause-spare
returns-clause-spare c = omega (arith, few_steps c.new-before.result, c.push_stood.ensures.spare, c.end_overlap.ensures.spare)

pub returns-clause-counted : goal.returns-clause-counted
returns-clause-counted c = λ adms long is q.
    let known = c.args.known.now in
    let before = c.new-before.result in
    let of = c.new-before.ensures in
    let times = c.args.times.now in
    let p : Entry → Bool = λ e. q (event_of e) in
    let some : 0 < known.place - 1 = omega (arith, known.first, c.if-known-eq1.false) in
    let place_is : before.place + 1 ≡ known.place = omega (arith, of.place, some) in
    let long_before : length adms ≡ before.place + 1 = long ∙ sym place_is in
    let times_are : times ≡ times_after before adms = is ∙ (λ k. times_at (sym of.plant k) (sym of.train k) adms (sym place_is k)) in
    let stood = c.push_stood.ensures.counted adms long_before times_are q in
    let freed : tally p (freed_before before.plant.now before.train adms before.place) ≡ tally p (freed_before known.plant.now known.train adms (known.place - 1)) =
    λ k. tally p (freed_before (of.plant k) (of.train k) adms (of.place k)) in
    omega (arith, stood, freed, c.end_overlap.ensures.counted q)
