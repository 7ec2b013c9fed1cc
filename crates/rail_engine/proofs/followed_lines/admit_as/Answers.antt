use Rattle.std.proofs.Common.{◌≡◌, ◌<◌, ◌∷◌, true, false, List, Some, length, refl, sym, ap, ◌∙◌, subst, arith}
use Rattle.std.proofs.lemmas.Bool.{false_from_ne_true, false≢true}
use Rattle.rail_queue.specs.Queue.{Queue}
use Rattle.rail_queue.specs.Order.{first_time_of, is_sorted}
use Rattle.rail_rules.specs.Causes.{could_go}
use Rattle.rail_rules.specs.RunHistories.{is_run, repairs_first}
use Rattle.rail_rules.specs.Lawful.{may_follow}
use Rattle.rail_state.specs.TrainStates.{is_untried, state_of}
use Rattle.rail_state.specs.declared.train.TrainState.{TrainState}
use Rattle.rail_state.proofs.CallerLemmas.{could_go-untried}
use Rattle.rail_ledger.specs.declared.input.RunInput.{RunInput}
use Rattle.rail_ledger.specs.declared.ledger.Ledger.{Ledger}
use Rattle.rail_ledger.specs.Inputs.{dispatch_in, input_in}
use Rattle.rail_ledger.specs.Ledgers.{admission}
use Rattle.rail_ledger.proofs.CallerLemmas.{deciding_at}
use Rattle.rail_engine.proofs.FollowedLines.{refused_run, run_admission, unbarred_still, unheld}
use Rattle.rail_engine.proofs.followed_lines.admit_as.Goals as goal

pub could_go-requires-clause-deciding : goal.could_go-requires-clause-deciding
could_go-requires-clause-deciding c = λ front at. deciding_at front c.args.ledger.now at c.requires.going c.requires.unsettled c.requires.none_due c.requires.sorted

pub returns-then-not-could_go-clause-refused : goal.returns-then-not-could_go-clause-refused
returns-then-not-could_go-clause-refused c = λ _ seats front at.
    false_from_ne_true (is_run (input_in c.args.ledger.now.input) seats (admission c.args.at c.args.train c.args.place c.args.note c.args.list.now ∷ front)) (λ run.
    false≢true (sym (sym (c.could_go.ensures.exact front at) ∙ c.if-not-could_go.true) ∙ (run_admission (input_in c.args.ledger.now.input) seats front c.args.at c.args.train c.args.place c.args.note c.args.list.now run).goes))

pub repairs_first-requires-clause-running : goal.repairs_first-requires-clause-running
repairs_first-requires-clause-running c = record { front = c.requires.running.front; at = c.could_go.ensures.at c.requires.running.front c.requires.running.at }

pub repairs_first-requires-clause-deciding : goal.repairs_first-requires-clause-deciding
repairs_first-requires-clause-deciding c = λ front at.
    let alike = c.could_go.ensures.alike in
    deciding_at front c.could_go.new.ledger at (alike.has_ended ∙ c.requires.going) (alike.is_settled ∙ c.requires.unsettled)
    (λ due. c.requires.none_due (ap (λ (q : Queue). first_time_of q.events) (sym alike.queue) ∙ due ∙ ap Some alike.instant))
    (ap (λ (q : Queue). is_sorted q.events) alike.queue ∙ c.requires.sorted)

pub repairs_first-requires-clause-unbarred : goal.repairs_first-requires-clause-unbarred
repairs_first-requires-clause-unbarred c = unbarred_still c.args.ledger.now c.could_go.new.ledger c.could_go.ensures.alike (c.could_go.ensures.same c.if-not-could_go.false) c.requires.unbarred

pub repairs_first-requires-clause-train : goal.repairs_first-requires-clause-train
repairs_first-requires-clause-train c = subst (λ (states : List TrainState). c.args.train < length states) (sym (c.could_go.ensures.same c.if-not-could_go.false)) c.requires.train

pub repairs_first-requires-clause-untried : goal.repairs_first-requires-clause-untried
repairs_first-requires-clause-untried c =
    let front = c.requires.running.front in
    let at = c.requires.running.at in
    let old : Ledger = c.args.ledger.now in
    let known : c.args.train < length old.state.trains = c.requires.train in
    subst (λ (states : List TrainState). is_untried (state_of states c.args.train) ≡ true) (sym (c.could_go.ensures.same c.if-not-could_go.false))
    (could_go-untried (dispatch_in old.input) old.input.plant front old.state at.rep (deciding_at front old at c.requires.going c.requires.unsettled c.requires.none_due c.requires.sorted)
    c.args.train (omega (arith, known, at.rep.times.many)) (sym (c.could_go.ensures.exact front at) ∙ c.if-not-could_go.false))

pub returns-then-not-repairs_first-clause-refused : goal.returns-then-not-repairs_first-clause-refused
returns-then-not-repairs_first-clause-refused c = λ _ seats front at.
    let old : Ledger = c.args.ledger.now in
    let repairs : repairs_first (input_in old.input) front c.args.train c.args.note ≡ false =
    subst (λ (i : RunInput). repairs_first (input_in i) front c.args.train c.args.note ≡ false) c.could_go.ensures.alike.input
    (sym (c.repairs_first.ensures.exact front (c.could_go.ensures.at front at)) ∙ c.if-not-repairs_first.true) in
    false_from_ne_true (is_run (input_in old.input) seats (admission c.args.at c.args.train c.args.place c.args.note c.args.list.now ∷ front)) (λ run.
    false≢true (sym repairs ∙ (run_admission (input_in old.input) seats front c.args.at c.args.train c.args.place c.args.note c.args.list.now run).repairs))

pub returns-then-not-repairs_first-clause-unchanged : goal.returns-then-not-repairs_first-clause-unchanged
returns-then-not-repairs_first-clause-unchanged c = λ _ front at. c.repairs_first.ensures.at front (c.could_go.ensures.at front at)

pub take_admission-requires-clause-running : goal.take_admission-requires-clause-running
take_admission-requires-clause-running c =
    let front = c.requires.running.front in
    let at = c.requires.running.at in
    let old : Ledger = c.args.ledger.now in
    record {
      front = front;
      at = (
        c.repairs_first.ensures.at front (c.could_go.ensures.at front at),
        sym (unheld front old at (deciding_at front old at c.requires.going c.requires.unsettled c.requires.none_due c.requires.sorted) c.args.train c.requires.train
            (sym (c.could_go.ensures.exact front at) ∙ c.if-not-could_go.false)),
      );
    }

pub returns-in-Some-clause-refused : goal.returns-in-Some-clause-refused
returns-in-Some-clause-refused c = λ _ seats front at.
    let old : Ledger = c.args.ledger.now in
    let held = sym (unheld front old at (deciding_at front old at c.requires.going c.requires.unsettled c.requires.none_due c.requires.sorted) c.args.train c.requires.train
    (sym (c.could_go.ensures.exact front at) ∙ c.if-not-could_go.false)) in
    refused_run (input_in old.input) seats front (admission c.args.at c.args.train c.args.place c.args.note c.args.list.now)
    (subst (λ (i : RunInput). may_follow (input_in i) front (admission c.args.at c.args.train c.args.place c.args.note c.args.list.now) ≡ false) (c.repairs_first.ensures.alike.input ∙ c.could_go.ensures.alike.input)
    (c.in-Some.ensures.refused front (c.repairs_first.ensures.at front (c.could_go.ensures.at front at), held)).0)

pub returns-in-Some-clause-unchanged : goal.returns-in-Some-clause-unchanged
returns-in-Some-clause-unchanged c = λ _ front at. c.in-Some.ensures.unchanged refl front (c.repairs_first.ensures.at front (c.could_go.ensures.at front at))

pub returns-in-None-clause-taken : goal.returns-in-None-clause-taken
returns-in-None-clause-taken c = λ _ front at.
    let old : Ledger = c.args.ledger.now in
    let goes : could_go (input_in old.input) front c.args.train ≡ true = sym (c.could_go.ensures.exact front at) ∙ c.if-not-could_go.false in
    let held = sym (unheld front old at (deciding_at front old at c.requires.going c.requires.unsettled c.requires.none_due c.requires.sorted) c.args.train c.requires.train goes) in (
      c.in-None.ensures.taken refl front (c.repairs_first.ensures.at front (c.could_go.ensures.at front at), held),
      goes,
      subst (λ (i : RunInput). repairs_first (input_in i) front c.args.train c.args.note ≡ true) c.could_go.ensures.alike.input
          (sym (c.repairs_first.ensures.exact front (c.could_go.ensures.at front at)) ∙ c.if-not-repairs_first.false),
    )
