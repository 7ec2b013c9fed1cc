use Rattle.std.proofs.Common.{◌≡◌, ℕ, Some, false, refl, sym, ap, ◌∙◌, subst, true}
use Rattle.std.proofs.lemmas.Bool.{false≢true}
use Rattle.rail_queue.specs.Queue.{Queue}
use Rattle.rail_queue.specs.Order.{first_time_of, is_sorted}
use Rattle.rail_rules.specs.Causes.{could_go, is_deciding}
use Rattle.rail_rules.specs.Fronts.{Front}
use Rattle.rail_ledger.specs.declared.judgement.Left.{Left}
use Rattle.rail_ledger.specs.declared.judgement.Left.TheVariants.{Hold}
use Rattle.rail_ledger.specs.declared.input.RunInput.{RunInput}
use Rattle.rail_ledger.specs.declared.ledger.Ledger.{Ledger}
use Rattle.rail_ledger.specs.Inputs.{input_in}
use Rattle.rail_ledger.specs.Ledgers.{AreAlike, IsAt, IsHoldDue}
use Rattle.rail_ledger.proofs.Deciding.{deciding_at}
use Rattle.rail_ledger.proofs.Holding.{settled_at}
use Rattle.rail_ledger.proofs.ledger.Ledger.left_to_decide.Goals as goal

-- the train of a hold line that is due, or else another one
abbrev train_in : ℕ → Left → ℕ
train_in other (Hold train) = train
train_in other _ = other

-- what is alike to a ledger at whose instant nothing is pending is so too
still_deciding : (before now : Ledger) → AreAlike before now → before.state.has_ended ≡ false → before.state.is_settled ≡ false
    → (first_time_of before.state.queue.events ≡ Some before.state.instant → ⊥) → is_sorted before.state.queue.events ≡ true
    → (front : Front) → IsAt front now → is_deciding (input_in now.input) front ≡ true
still_deciding before now alike going unsettled none_due sorted front at =
    deciding_at front now at (alike.has_ended ∙ going) (alike.is_settled ∙ unsettled)
    (λ due. none_due (ap (λ (q : Queue). first_time_of q.events) (sym alike.queue) ∙ due ∙ ap Some alike.instant))
    (ap (λ (q : Queue). is_sorted q.events) alike.queue ∙ sorted)

pub knows_list-requires-clause-running : goal.knows_list-requires-clause-running
knows_list-requires-clause-running c = record { front = c.loop-train.invariant.running.front; at = c.in-Some.ensures.at c.loop-train.invariant.running.front c.loop-train.invariant.running.at }

pub knows_list-requires-clause-deciding : goal.knows_list-requires-clause-deciding
knows_list-requires-clause-deciding c =
    let inv = c.loop-train.invariant in
    still_deciding c.loop-train.self c.look_unless.new.self c.in-Some.ensures.alike inv.going inv.unsettled inv.none_due inv.sorted

pub returns-then-knows_list-clause-unchanged : goal.returns-then-knows_list-clause-unchanged
returns-then-knows_list-clause-unchanged c = λ front at. c.knows_list.ensures.at front (c.in-Some.ensures.at front (c.loop-train.invariant.at front at))

pub returns-then-knows_list-clause-admission : goal.returns-then-knows_list-clause-admission
returns-then-knows_list-clause-admission c = λ _ front at.
    let inv = c.loop-train.invariant in
    let alike = c.in-Some.ensures.alike in
    let at_now = c.in-Some.ensures.at front (inv.at front at) in
    let ledger : Ledger = c.look_unless.new.self in
    let input_is = alike.input ∙ inv.input in
    let deciding : is_deciding (input_in ledger.input) front ≡ true = still_deciding c.loop-train.self ledger alike inv.going inv.unsettled inv.none_due inv.sorted front at_now in
    let could : could_go (input_in ledger.input) front c.in-Some.train ≡ true = c.knows_list.ensures.known c.if-knows_list.true front at_now in
    (subst (λ (input : RunInput). is_deciding (input_in input) front ≡ true) input_is deciding, c.in-Some.train, subst (λ (input : RunInput). could_go (input_in input) front c.in-Some.train ≡ true) input_is could)

pub loop-train-preserved : goal.loop-train-preserved
loop-train-preserved c =
    let inv = c.loop-train.invariant in
    let first = c.in-Some.ensures.alike in
    let second = c.knows_list.ensures.alike in
    record {
      running = record { front = inv.running.front; at = c.knows_list.ensures.at inv.running.front (c.in-Some.ensures.at inv.running.front inv.running.at) };
      going = second.has_ended ∙ first.has_ended ∙ inv.going;
      unsettled = second.is_settled ∙ first.is_settled ∙ inv.unsettled;
      none_due = λ due. inv.none_due (ap (λ (q : Queue). first_time_of q.events) (sym first.queue ∙ sym second.queue) ∙ due ∙ ap Some (second.instant ∙ first.instant));
      sorted = ap (λ (q : Queue). is_sorted q.events) (second.queue ∙ first.queue) ∙ inv.sorted;
      unlisted = second.listed ∙ first.listed ∙ inv.unlisted;
      input = second.input ∙ first.input ∙ inv.input;
      known = λ after_hold. absurd (false≢true (sym (c.in-Some.ensures.some refl) ∙ after_hold));
      known_unchanged = λ after_hold. absurd (false≢true (sym (c.in-Some.ensures.some refl) ∙ after_hold));
      at = λ front at. c.knows_list.ensures.at front (c.in-Some.ensures.at front (inv.at front at));
    }

pub returns-in-Some-first_lacking-clause-unchanged : goal.returns-in-Some-first_lacking-clause-unchanged
returns-in-Some-first_lacking-clause-unchanged c = λ front at. c.in_default.ensures.at front (c.loop-train.invariant.at front at)

pub returns-in-Some-first_lacking-clause-hold : goal.returns-in-Some-first_lacking-clause-hold
returns-in-Some-first_lacking-clause-hold c = λ train same.
    let inv = c.loop-train.invariant in
    let alike = c.in_default.ensures.alike in
    let ledger : Ledger = c.look_unless.new.self in
    let found = c.in-Some-first_lacking.ensures in
    subst (IsHoldDue ledger) (ap (train_in c.in-Some-first_lacking.train) same)
    (record {
      going = alike.has_ended ∙ inv.going;
      unsettled = alike.is_settled ∙ inv.unsettled;
      deciding = still_deciding c.loop-train.self ledger alike inv.going inv.unsettled inv.none_due inv.sorted;
      known = c.in_default.ensures.none refl;
      train = found.0;
      lacks = found.1;
      first = found.2;
    })

pub returns-in-None-clause-unchanged : goal.returns-in-None-clause-unchanged
returns-in-None-clause-unchanged c = λ front at.
    settled_at front c.look_unless.new.self (c.in_default.ensures.at front (c.loop-train.invariant.at front at)) (c.in_default.ensures.none refl) c.in-None.ensures

pub returns-in-None-clause-nothing : goal.returns-in-None-clause-nothing
returns-in-None-clause-nothing c = λ _.
    let inv = c.loop-train.invariant in
    let alike = c.in_default.ensures.alike in
    (alike.has_ended ∙ inv.going, refl, alike.listed ∙ inv.unlisted, returns-in-None-clause-unchanged c)

pub returns-then-knows_list-clause-known_unchanged : goal.returns-then-knows_list-clause-known_unchanged
returns-then-knows_list-clause-known_unchanged c = λ after_hold. absurd (false≢true (sym (c.in-Some.ensures.some refl) ∙ after_hold))
