use Rattle.std.proofs.Common.{ap, subst, sym, ◌∙◌}
use Rattle.rail_queue.specs.Order.{goes_before}
use Rattle.rail_queue.specs.Choice.{IsChosen, IsFirstChain}
use Rattle.rail_queue.proofs.Chosen.{first_is}
use Rattle.rail_queue.proofs.Leading.{leads_none, leads_first, stays_first}
use Rattle.rail_queue.proofs.choice.first_with.Goals.{In-Some}
use Rattle.rail_queue.proofs.choice.first_with.Goals as goal

-- the chain that comes first before
chosen : (c : In-Some) → IsChosen c.args.slots.now.chains c.in-Some.before
chosen c = subst (IsFirstChain c.args.slots.now.chains) c.in-Some.is c.requires

pub first_event-requires : goal.first_event-requires
first_event-requires c = (chosen (goal.at.first_event-requires c).In-Some).within

pub returns-in_default : goal.returns-in_default
returns-in_default c = λ base new whole at put.
    leads_none base c.args.slots.now.chains new c.args.chain c.args.event.now (subst (IsFirstChain c.args.slots.now.chains) c.in_default.is c.requires) whole at put

pub returns-then-sooner : goal.returns-then-sooner
returns-then-sooner c = λ base new whole at put.
    let first = chosen (goal.at.returns-then-sooner c).In-Some in
    let same = first_is _ first.rest first.slot c.in-Some-first_event.next first.first c.in-Some-first_event.ensures first.is in
    leads_first base c.args.slots.now.chains new c.in-Some.before c.args.chain c.args.event.now first (ap (goes_before c.args.event.now) (sym same) ∙ sym c.goes_before-sooner.ensures ∙ c.if-sooner.true) whole at put

pub returns-else-sooner : goal.returns-else-sooner
returns-else-sooner c = λ base new whole at put.
    let first = chosen (goal.at.returns-else-sooner c).In-Some in
    let same = first_is _ first.rest first.slot c.in-Some-first_event.next first.first c.in-Some-first_event.ensures first.is in
    stays_first base c.args.slots.now.chains new c.in-Some.before c.args.chain c.args.event.now first (ap (goes_before c.args.event.now) (sym same) ∙ sym c.goes_before-sooner.ensures ∙ c.if-sooner.false) whole at put
