use Rattle.std.proofs.Common.{◌≡◌, ℕ, ◌+◌, Bool, List, take, sym, ap, ◌∙◌, take_all, arith}
use Rattle.std.specs.List.{list_any}
use Rattle.std.proofs.lemmas.List.Folds.{list_any_at}
use Rattle.rail_rules.specs.Moves.{Moves}
use Rattle.rail_rules.specs.Numbers.{any_below, is_in}
use Rattle.rail_place.specs.Tables.{moves_in}
use Rattle.rail_consequence.proofs.CallerLemmas.{in_at}
use Rattle.rail_list.proofs.Needing.{claimed_by_one}
use Rattle.rail_list.proofs.entries.does_need_one_of.Goals as goal

pub claims_within-requires-clause-section : goal.claims_within-requires-clause-section
claims_within-requires-clause-section c =
    c.requires.in_range c.section-item.result (in_at c.section-item.result c.args.sections.now c.loop-section.section-index c.loop-section-test.true c.section-item.is)

pub returns-then-claims_within : goal.returns-then-claims_within
returns-then-claims_within c =
    let plan : Moves = moves_in c.args.moves.now in
    let sections : List ℕ = c.args.sections.now in
    let claim : ℕ → List ℕ = λ m. plan.claim c.args.train (c.args.place + m) in
    let claimed : ℕ → Bool = λ x. any_below (λ m. is_in x (claim m)) c.args.count in
    sym (claimed_by_one claim sections c.args.count
    ∙ list_any_at claimed sections c.loop-section.section-index c.section-item.result c.loop-section-test.true
    (ap claimed (sym c.section-item.is) ∙ sym c.claims_within.ensures ∙ c.if-claims_within.true))

pub returns : goal.returns
returns c =
    let plan : Moves = moves_in c.args.moves.now in
    let sections : List ℕ = c.args.sections.now in
    let claim : ℕ → List ℕ = λ m. plan.claim c.args.train (c.args.place + m) in
    let claimed : ℕ → Bool = λ x. any_below (λ m. is_in x (claim m)) c.args.count in
    let all : take c.loop-section.section-index sections ≡ sections = take_all c.loop-section.section-index sections (omega arith) in
    sym (claimed_by_one claim sections c.args.count ∙ ap (list_any claimed) (sym all) ∙ c.loop-section.invariant)
