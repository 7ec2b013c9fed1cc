use Rattle.std.proofs.Common.{◌≡◌, Some, length, refl, sym, ap, ◌∙◌, inl, arith}
use Rattle.std.specs.Prelude.{vec_len}
use Rattle.std.proofs.lemmas.Bool.{eqb-true}
use Rattle.rail_queue.specs.Queue.{Queue}
use Rattle.rail_queue.specs.Order.{first_time_of, is_sorted}
use Rattle.rail_state.specs.TrainStates.{state_of}
use Rattle.rail_ledger.proofs.CallerLemmas.{deciding_at}
use Rattle.rail_engine.proofs.Asking.{admission_tells, admitted_asked, held_asks, held_tells, nobody_admitted, turns_on}
use Rattle.rail_engine.proofs.Continuing.{admitted_on, held_known, held_lines, held_on}
use Rattle.rail_engine.proofs.Trying.{all_known, offers_left, picked_known, unbarred_left}
use Rattle.rail_engine.proofs.round.decide.Goals as goal

pub attempt-requires-clause-deciding : goal.attempt-requires-clause-deciding
attempt-requires-clause-deciding g c = λ front at.
    let inv = c.loop-round.invariant in deciding_at front c.loop-round.ledger at inv.going inv.unsettled inv.none_due inv.sorted

pub attempt-requires-clause-train : goal.attempt-requires-clause-train
attempt-requires-clause-train g c = picked_known c.loop-round.ledger _ _ c.loop-round.round.offers.items c.pick-train.new.offers.items c.pick-train.result c.loop-round.invariant.offers c.pick-train.ensures.picked

pub returns-in-Some-clause-run : goal.returns-in-Some-clause-run
returns-in-Some-clause-run g c =
    let inv = c.loop-round.invariant in
    admitted_on c.args.ledger.now c.loop-round.ledger c.attempt.new.ledger _ _ _ _ c.loop-round.round.offers.items c.pick-train.new.offers.items c.pick-train.result c.in-Some.entry
    inv.input c.in-Some.ensures.input inv.at (λ front at. deciding_at front c.loop-round.ledger at inv.going inv.unsettled inv.none_due inv.sorted) inv.desk inv.offers c.pick-train.ensures.picked
    (c.pick-train.ensures.desk c.loop-round.ledger) c.noted.ensures.table c.in-Some.ensures.run c.in-Some.ensures.entry

pub returns-in-Some-clause-line : goal.returns-in-Some-clause-line
returns-in-Some-clause-line g c = λ front at. c.in-Some.ensures.line front (c.loop-round.invariant.at front at)

pub returns-in-Some-clause-asked : goal.returns-in-Some-clause-asked
returns-in-Some-clause-asked g c =
    let inv = c.loop-round.invariant in
    admitted_asked c.args.ledger.now c.loop-round.ledger c.args.all _ _ _ _ c.loop-round.round.offers.items c.pick-train.new.offers.items c.pick-train.result c.in-Some.entry inv.input inv.at
    (λ front at. deciding_at front c.loop-round.ledger at inv.going inv.unsettled inv.none_due inv.sorted) (λ custom. c.requires.all custom c.if-round.false) inv.offers inv.turns
    c.pick-train.ensures.turn c.noted.ensures.table c.in-Some.ensures.entry

pub returns-in-Some-clause-told : goal.returns-in-Some-clause-told
returns-in-Some-clause-told g c =
    admission_tells c.args.ledger.now _ _ c.pick-train.result (state_of c.loop-round.ledger.state.trains c.pick-train.result).place c.in-Some.entry c.in-Some.ensures.entry

pub loop-round-preserved : goal.loop-round-preserved
loop-round-preserved g c =
    let inv = c.loop-round.invariant in
    let tried = c.in_default.ensures.none refl in
    let alike = tried.alike in
    record {
      running = record { front = inv.running.front; at = tried.at inv.running.front inv.running.at };
      going = alike.has_ended ∙ inv.going;
      unsettled = alike.is_settled ∙ inv.unsettled;
      none_due = λ due. inv.none_due (ap (λ (q : Queue). first_time_of q.events) (sym alike.queue) ∙ due ∙ ap Some alike.instant);
      sorted = ap (λ (q : Queue). is_sorted q.events) alike.queue ∙ inv.sorted;
      unlisted = alike.listed ∙ inv.unlisted;
      input = alike.input ∙ inv.input;
      at = λ front at. tried.at front (inv.at front at);
      unbarred = unbarred_left c.loop-round.ledger c.attempt.new.ledger c.pick-train.result tried inv.unbarred;
      offers = offers_left c.loop-round.ledger c.attempt.new.ledger _ _ c.loop-round.round.offers.items c.pick-train.new.offers.items c.pick-train.result c.pick-train.ensures.picked tried inv.offers;
      room = c.pick-train.ensures.room ∙ inv.room;
      fresh = inv.fresh;
      desk = λ seats front at desk. c.pick-train.ensures.desk c.args.ledger.now seats front at (inv.desk seats front at desk);
      turns = turns_on c.args.all c.loop-round.ledger c.attempt.new.ledger _ _ _ c.loop-round.round.offers.items c.pick-train.new.offers.items c.pick-train.result
          (picked_known c.loop-round.ledger _ _ c.loop-round.round.offers.items c.pick-train.new.offers.items c.pick-train.result inv.offers c.pick-train.ensures.picked)
          inv.turns c.pick-train.ensures.turn tried;
    }

pub hold-requires-clause-deciding : goal.hold-requires-clause-deciding
hold-requires-clause-deciding g c = λ front at.
    deciding_at front c.args.ledger.now at c.requires.going c.requires.unsettled c.requires.none_due c.requires.sorted

pub hold-requires-clause-known : goal.hold-requires-clause-known
hold-requires-clause-known g c = c.requires.over c.if-round.true

pub returns-then-round-clause-run : goal.returns-then-round-clause-run
returns-then-round-clause-run g c =
    held_on c.args.ledger.now c.args.ledger.now c.hold.new.self _ _ refl c.hold.ensures.input (λ front at. at) (λ seats front at desk. desk) c.hold.result c.hold.ensures.line c.hold.ensures.kind

pub returns-then-round-clause-asked : goal.returns-then-round-clause-asked
returns-then-round-clause-asked g c = held_asks c.args.ledger.now c.hold.new.self _ _ c.hold.result c.hold.ensures.kind

pub returns-then-round-clause-told : goal.returns-then-round-clause-told
returns-then-round-clause-told g c = held_tells c.args.ledger.now c.hold.new.self _ _ c.hold.result (λ front at. inl refl) c.hold.ensures.kind

pub returns-then-round-clause-nobody : goal.returns-then-round-clause-nobody
returns-then-round-clause-nobody g c = λ none front at. inl refl

pub returns-then-round-clause-over : goal.returns-then-round-clause-over
returns-then-round-clause-over g c = held_known c.requires.running.front c.args.ledger.now c.hold.new.self _ c.requires.running.at c.hold.result c.hold.ensures.line c.hold.ensures.kind

pub hold-requires-2-clause-deciding : goal.hold-requires-2-clause-deciding
hold-requires-2-clause-deciding g c = λ front at.
    let inv = c.loop-round.invariant in deciding_at front c.loop-round.ledger at inv.going inv.unsettled inv.none_due inv.sorted

pub hold-requires-2-clause-known : goal.hold-requires-2-clause-known
hold-requires-2-clause-known g c =
    let inv = c.loop-round.invariant in
    let sized : vec_len c.loop-round.round.offers ≡ length c.loop-round.round.offers.items = grind arith in
    all_known inv.running.front c.loop-round.ledger inv.running.at c.loop-round.round.offers.items inv.offers
    (sym sized ∙ eqb-true (vec_len c.loop-round.round.offers) 0 (sym c.is_empty.ensures ∙ c.loop-round-test.false))

pub returns-clause-nobody : goal.returns-clause-nobody
returns-clause-nobody g c = λ none.
    let inv = c.loop-round.invariant in
    let sized : vec_len c.loop-round.round.offers ≡ length c.loop-round.round.offers.items = grind arith in
    nobody_admitted c.args.ledger.now c.loop-round.ledger c.args.all _ _ c.loop-round.round.offers.items inv.input inv.at
    (λ front at. deciding_at front c.loop-round.ledger at inv.going inv.unsettled inv.none_due inv.sorted) (λ custom. c.requires.all custom c.if-round.false) inv.turns
    (sym sized ∙ eqb-true (vec_len c.loop-round.round.offers) 0 (sym c.is_empty.ensures ∙ c.loop-round-test.false))

pub returns-clause-told : goal.returns-clause-told
returns-clause-told g c =
    let inv = c.loop-round.invariant in
    let sized : vec_len c.loop-round.round.offers ≡ length c.loop-round.round.offers.items = grind arith in
    held_tells c.args.ledger.now c.hold-2.new.self _ _ c.hold-2.result
    (nobody_admitted c.args.ledger.now c.loop-round.ledger c.args.all _ _ c.loop-round.round.offers.items inv.input inv.at
    (λ front at. deciding_at front c.loop-round.ledger at inv.going inv.unsettled inv.none_due inv.sorted) (λ custom. c.requires.all custom c.if-round.false) inv.turns
    (sym sized ∙ eqb-true (vec_len c.loop-round.round.offers) 0 (sym c.is_empty.ensures ∙ c.loop-round-test.false)))
    c.hold-2.ensures.kind

pub returns-clause-line : goal.returns-clause-line
returns-clause-line g c = held_lines c.args.ledger.now c.loop-round.ledger c.hold-2.new.self c.loop-round.invariant.at c.hold-2.result c.hold-2.ensures.line

pub returns-clause-run : goal.returns-clause-run
returns-clause-run g c =
    let inv = c.loop-round.invariant in
    held_on c.args.ledger.now c.loop-round.ledger c.hold-2.new.self _ _ inv.input c.hold-2.ensures.input inv.at inv.desk c.hold-2.result c.hold-2.ensures.line c.hold-2.ensures.kind

pub returns-clause-over : goal.returns-clause-over
returns-clause-over g c =
    let inv = c.loop-round.invariant in
    held_known inv.running.front c.loop-round.ledger c.hold-2.new.self _ inv.running.at c.hold-2.result c.hold-2.ensures.line c.hold-2.ensures.kind

pub returns-clause-asked : goal.returns-clause-asked
returns-clause-asked g c = held_asks c.args.ledger.now c.hold-2.new.self _ _ c.hold-2.result c.hold-2.ensures.kind
