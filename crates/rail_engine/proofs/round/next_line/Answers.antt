use Rattle.std.proofs.Common.{Some, refl, subst, sym, inl}
use Rattle.rail_state.specs.Representation.{AreAllKnown}
use Rattle.rail_ledger.specs.declared.ledger.Ledger.{Ledger}
use Rattle.rail_ledger.specs.declared.ledger.Listed.TheVariants.{Nothing}
use Rattle.rail_ledger.proofs.CallerLemmas.{listed_as}
use Rattle.rail_engine.proofs.Asking.{asked_before, gone_tells, told_before}
use Rattle.rail_engine.proofs.Continuing.{gone_after}
use Rattle.rail_engine.proofs.round.next_line.Goals as goal

pub decide-requires-clause-over : goal.decide-requires-clause-over
decide-requires-clause-over g c = λ over.
    subst (λ (ledger : Ledger). AreAllKnown ledger.input.plant ledger.state.trains) (sym (c.offers_all-all.ensures.over over)) (c.requires.over over)

pub returns-in-None-clause-line : goal.returns-in-None-clause-line
returns-in-None-clause-line g c = λ front at.
    c.go_on-in-None.ensures.line front ((c.in-None.ensures.none refl).3 front (c.offers_all-all.ensures.at front (listed_as front c.args.ledger.now Nothing at)))

pub returns-in-None-clause-run : goal.returns-in-None-clause-run
returns-in-None-clause-run g c =
    gone_after c.args.ledger.now c.offers_all-all.new.ledger c.decide.new.ledger c.go_on-in-None.new.ledger _ _ _ c.go_on-in-None.result c.offers_all-all.ensures.input c.decide.ensures.input
    (λ front at. c.offers_all-all.ensures.at front (listed_as front c.args.ledger.now Nothing at)) (λ front at. (c.in-None.ensures.none refl).3 front at) (c.in-None.ensures.desk refl) c.go_on-in-None.ensures.run

pub returns-in-Some-clause-asked : goal.returns-in-Some-clause-asked
returns-in-Some-clause-asked g c =
    asked_before c.args.ledger.now c.offers_all-all.new.ledger _ _ (Some c.in-Some.entry) c.offers_all-all.ensures.input
    (λ front at. c.offers_all-all.ensures.at front (listed_as front c.args.ledger.now Nothing at)) c.in-Some.ensures.asked

pub returns-in-Some-clause-told : goal.returns-in-Some-clause-told
returns-in-Some-clause-told g c =
    told_before c.args.ledger.now c.offers_all-all.new.ledger _ _ (Some c.in-Some.entry) c.offers_all-all.ensures.input
    (λ front at. c.offers_all-all.ensures.at front (listed_as front c.args.ledger.now Nothing at)) c.in-Some.ensures.told

pub returns-in-None-clause-told : goal.returns-in-None-clause-told
returns-in-None-clause-told g c =
    told_before c.args.ledger.now c.offers_all-all.new.ledger _ _ (Some c.go_on-in-None.result) c.offers_all-all.ensures.input
    (λ front at. c.offers_all-all.ensures.at front (listed_as front c.args.ledger.now Nothing at))
    (gone_tells c.offers_all-all.new.ledger c.decide.new.ledger _ _ _ c.go_on-in-None.result c.decide.ensures.input (c.in-None.ensures.nobody refl) c.go_on-in-None.ensures.told)

pub returns-then-may_go_on-clause-told : goal.returns-then-may_go_on-clause-told
returns-then-may_go_on-clause-told g c =
    told_before c.args.ledger.now c.offers_all-all.new.ledger _ _ (Some c.go_on.result) c.offers_all-all.ensures.input
    (λ front at. c.offers_all-all.ensures.at front (listed_as front c.args.ledger.now Nothing at))
    (gone_tells c.offers_all-all.new.ledger c.offers_all-all.new.ledger _ _ _ c.go_on.result refl (λ front at. inl refl) c.go_on.ensures.told)
