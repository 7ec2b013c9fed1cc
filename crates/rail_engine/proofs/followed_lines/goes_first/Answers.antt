use Rattle.std.proofs.Common.{◌≡◌, ◌<◌, Some, length, sym, ap, ◌∙◌, subst, arith}
use Rattle.std.specs.Prelude.{vec_len}
use Rattle.std.proofs.lemmas.Bool.{eq-eqb, eqb-true, false≢true}
use Rattle.rail_queue.specs.Queue.{Queue}
use Rattle.rail_queue.specs.Order.{first_time_of, is_sorted}
use Rattle.rail_ledger.proofs.CallerLemmas.{deciding_at}
use Rattle.rail_engine.specs.FollowedLines.{LetsGoFirst}
use Rattle.rail_engine.proofs.FollowedLines.{alike_on, as_many, asked_more, none_goes, picked_first, picked_other, tried_stays}
use Rattle.rail_engine.proofs.Trying.{none_untried, offers_left, picked_known, unbarred_left}
use Rattle.rail_engine.proofs.followed_lines.goes_first.Goals as goal

pub returns-then-eq-clause-desk : goal.returns-then-eq-clause-desk
returns-then-eq-clause-desk g c = λ seats front at desk. c.pick-picked.ensures.desk c.args.ledger.now seats front at (c.loop-train.invariant.desk seats front at desk)

pub returns-then-eq-clause-first : goal.returns-then-eq-clause-first
returns-then-eq-clause-first g c = λ _.
    let inv = c.loop-train.invariant in
    subst (LetsGoFirst c.args.ledger.now _) (eqb-true c.pick-picked.result c.args.train (sym c.eq.ensures ∙ c.if-eq.true))
    (picked_first c.args.ledger.now c.loop-train.ledger _ _ c.loop-train.round.offers.items c.pick-picked.new.offers.items c.pick-picked.result inv.input inv.at
    (λ front at. deciding_at front c.loop-train.ledger at inv.going inv.unsettled inv.none_due inv.sorted) inv.desk inv.offers c.pick-picked.ensures.picked)

pub could_go-requires-clause-deciding : goal.could_go-requires-clause-deciding
could_go-requires-clause-deciding g c = λ front at.
    let inv = c.loop-train.invariant in deciding_at front c.loop-train.ledger at inv.going inv.unsettled inv.none_due inv.sorted

pub could_go-requires-clause-train : goal.could_go-requires-clause-train
could_go-requires-clause-train g c =
    picked_known c.loop-train.ledger _ _ c.loop-train.round.offers.items c.pick-picked.new.offers.items c.pick-picked.result c.loop-train.invariant.offers c.pick-picked.ensures.picked

pub returns-then-could_go-clause-at : goal.returns-then-could_go-clause-at
returns-then-could_go-clause-at g c = λ front at. c.could_go.ensures.at front (c.loop-train.invariant.at front at)

pub returns-then-could_go-clause-desk : goal.returns-then-could_go-clause-desk
returns-then-could_go-clause-desk g c = λ seats front at desk. c.pick-picked.ensures.desk c.args.ledger.now seats front at (c.loop-train.invariant.desk seats front at desk)

pub returns-then-could_go-clause-other : goal.returns-then-could_go-clause-other
returns-then-could_go-clause-other g c = λ _.
    let inv = c.loop-train.invariant in
    picked_other c.args.ledger.now c.loop-train.ledger _ _ c.loop-train.round.offers.items c.pick-picked.new.offers.items c.pick-picked.result inv.input inv.at
    (λ front at. deciding_at front c.loop-train.ledger at inv.going inv.unsettled inv.none_due inv.sorted) inv.desk inv.offers c.pick-picked.ensures.picked
    c.requires.built_in (λ front at. sym (c.could_go.ensures.exact front at) ∙ c.if-could_go.true)
    (picked_known c.loop-train.ledger _ _ c.loop-train.round.offers.items c.pick-picked.new.offers.items c.pick-picked.result inv.offers c.pick-picked.ensures.picked)
    c.args.train c.requires.train (λ same. false≢true (sym c.if-eq.false ∙ c.eq.ensures ∙ eq-eqb c.pick-picked.result c.args.train same))

pub loop-train-preserved : goal.loop-train-preserved
loop-train-preserved g c =
    let inv = c.loop-train.invariant in
    let tried = c.could_go.ensures.tried c.if-could_go.false in
    let alike = tried.alike in
    record {
      running = record { front = inv.running.front; at = tried.at inv.running.front inv.running.at };
      going = alike.has_ended ∙ inv.going;
      unsettled = alike.is_settled ∙ inv.unsettled;
      none_due = λ due. inv.none_due (ap (λ (q : Queue). first_time_of q.events) (sym alike.queue) ∙ due ∙ ap Some alike.instant);
      sorted = ap (λ (q : Queue). is_sorted q.events) alike.queue ∙ inv.sorted;
      input = alike.input ∙ inv.input;
      at = λ front at. tried.at front (inv.at front at);
      unbarred = unbarred_left c.loop-train.ledger c.could_go.new.ledger c.pick-picked.result tried inv.unbarred;
      offers = offers_left c.loop-train.ledger c.could_go.new.ledger _ _ c.loop-train.round.offers.items c.pick-picked.new.offers.items c.pick-picked.result c.pick-picked.ensures.picked tried inv.offers;
      room = c.pick-picked.ensures.room ∙ inv.room;
      over = inv.over;
      desk = λ seats front at desk. c.pick-picked.ensures.desk c.args.ledger.now seats front at (inv.desk seats front at desk);
      alike = alike_on c.args.ledger.now c.loop-train.ledger c.could_go.new.ledger inv.alike alike;
      asked = asked_more _ _ _ c.loop-train.round.offers.items c.pick-picked.new.offers.items c.pick-picked.result c.requires.built_in inv.asked c.pick-picked.ensures.turn;
    }

pub returns-clause-other : goal.returns-clause-other
returns-clause-other g c = λ _.
    let inv = c.loop-train.invariant in
    let sized : vec_len c.loop-train.round.offers ≡ length c.loop-train.round.offers.items = grind arith in
    none_goes c.args.ledger.now c.loop-train.ledger _ c.args.train inv.input inv.at (λ front at.
    let lt : c.args.train < length c.loop-train.ledger.state.trains = omega (arith, c.requires.train, as_many c.requires.running.front c.args.ledger.now c.loop-train.ledger inv.input c.requires.running.at (inv.at c.requires.running.front c.requires.running.at)) in
    tried_stays front c.loop-train.ledger at (deciding_at front c.loop-train.ledger at inv.going inv.unsettled inv.none_due inv.sorted) c.args.train lt
    (none_untried c.loop-train.ledger c.loop-train.round.offers.items inv.offers
    (sym sized ∙ eqb-true (vec_len c.loop-train.round.offers) 0 (sym c.is_empty.ensures ∙ c.loop-train-test.false)) c.args.train lt))

pub returns-then-eq-clause-asked : goal.returns-then-eq-clause-asked
returns-then-eq-clause-asked g c = asked_more _ _ _ c.loop-train.round.offers.items c.pick-picked.new.offers.items c.pick-picked.result c.requires.built_in c.loop-train.invariant.asked c.pick-picked.ensures.turn

pub returns-then-could_go-clause-asked : goal.returns-then-could_go-clause-asked
returns-then-could_go-clause-asked g c = asked_more _ _ _ c.loop-train.round.offers.items c.pick-picked.new.offers.items c.pick-picked.result c.requires.built_in c.loop-train.invariant.asked c.pick-picked.ensures.turn

pub returns-then-could_go-clause-alike : goal.returns-then-could_go-clause-alike
returns-then-could_go-clause-alike g c = alike_on c.args.ledger.now c.loop-train.ledger c.could_go.new.ledger c.loop-train.invariant.alike c.could_go.ensures.alike
