use Rattle.std.proofs.Common.{◌≡◌, ◌-◌, ◌<◌, Bool, ℕ, true, ltb, List, length, get_or, sym, ap, ◌∙◌, subst, arith}
use Rattle.std.specs.List.{list_all}
use Rattle.std.proofs.lemmas.Bool.{ltb-true}
use Rattle.rail_rules.specs.Moves.{Moves}
use Rattle.rail_rules.specs.Plant.{claimed, move_row, moves}
use Rattle.rail_rules.proofs.CallerLemmas.{accepted_parts, list_all_get, move_in_range, row_in_range}
use Rattle.rail_state.proofs.train.claimed_sections.Goals as goal

pub claim-requires-clause-last : goal.claim-requires-clause-last
claim-requires-clause-last c = omega (arith, c.requires.last, ap (λ (table : Moves). table.moves c.args.train) c.moves.ensures.moves)

pub returns-clause-sections : goal.returns-clause-sections
returns-clause-sections c = c.claim.ensures.sections ∙ ap (λ (table : Moves). table.claim c.args.train (c.args.place - 1)) c.moves.ensures.moves

pub returns-clause-known : goal.returns-clause-known
returns-clause-known c = λ k d lt.
    let plant = c.args.plant.now in
    let t = c.args.train in
    let m = c.args.place - 1 in
    let n = length plant.tables.sections in
    let test : ℕ → Bool = λ x. ltb x n in
    let within : m < moves plant t = omega (arith, c.requires.first, c.requires.last) in
    let all : list_all test (claimed plant t m) ≡ true =
    (move_in_range n (move_row plant t m) ((row_in_range plant (accepted_parts plant c.moves.ensures.accepted).trains_in_range t c.requires.train).each_move m within)).known in
    let is : c.claim.result.now ≡ claimed plant t m = returns-clause-sections c in
    let P : List ℕ → Type 0 = λ xs. get_or xs k d < n in
    subst P (sym is) (ltb-true (get_or (claimed plant t m) k d) n (list_all_get test (claimed plant t m) k d all (omega (arith, lt, ap length is))))
