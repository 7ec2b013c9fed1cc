use Rattle.std.proofs.Common.{◌≡◌, ℕ, ◌&&◌, leb, take, List, sym, ap, ◌∙◌, take_all, arith}
use Rattle.std.specs.List.{list_any}
use Rattle.rail_rules.specs.Moves.{Moves}
use Rattle.rail_rules.specs.Numbers.{any_below, is_in}
use Rattle.rail_place.specs.Tables.{moves_in}
use Rattle.rail_consequence.proofs.CallerLemmas.{in_at}
use Rattle.rail_list.proofs.Appending.{needed_either_way, needed_here}
use Rattle.rail_list.proofs.needers.does_need_from.Goals as goal

pub claims_after-requires-clause-section : goal.claims_after-requires-clause-section
claims_after-requires-clause-section c =
    c.requires.in_range c.section-item.result (in_at c.section-item.result c.args.sections.now c.loop-section.section-index c.loop-section-test.true c.section-item.is)

pub returns-then-claims_after : goal.returns-then-claims_after
returns-then-claims_after c =
    let plan : Moves = moves_in c.args.moves.now in
    let t = c.args.train in
    let x = c.section-item.result in
    sym (needed_here (plan.claim t) c.args.sections.now c.args.place (plan.moves t) x
    (in_at x c.args.sections.now c.loop-section.section-index c.loop-section-test.true c.section-item.is)
    (sym c.claims_after.ensures ∙ c.if-claims_after.true))

pub returns : goal.returns
returns c =
    let plan : Moves = moves_in c.args.moves.now in
    let t = c.args.train in
    let sections : List ℕ = c.args.sections.now in
    let all : take c.loop-section.section-index sections ≡ sections = take_all c.loop-section.section-index sections (omega arith) in
    sym c.loop-section.invariant
    ∙ ap (list_any (λ x. any_below (λ m. leb c.args.place m && is_in x (plan.claim t m)) (plan.moves t))) all
    ∙ needed_either_way (plan.claim t) sections c.args.place (plan.moves t)
