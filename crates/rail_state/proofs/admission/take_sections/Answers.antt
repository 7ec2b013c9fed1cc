use Rattle.std.proofs.Common.{◌≡◌, ◌-◌, ◌<◌, ℕ, true, ltb, List, length, sym, subst, arith}
use Rattle.std.specs.List.{list_all}
use Rattle.rail_rules.specs.Plant.{claimed, move_row, moves}
use Rattle.rail_rules.proofs.CallerLemmas.{accepted_parts, move_in_range, row_in_range}
use Rattle.rail_laws_step.specs.HolderTables.{own_overlap}
use Rattle.rail_state.specs.Admissions.{CanBeTaken}
use Rattle.rail_state.proofs.admission.take_sections.Goals as goal

pub take_each-requires : goal.take_each-requires
take_each-requires c =
    let known = c.args.known.now in
    let plant = known.plant.now in
    let t = known.train in
    let m = known.place - 1 in
    let h = c.args.holders.now in
    let within : m < moves plant t = omega (arith, known.first, known.last) in
    let fine = move_in_range (length plant.tables.sections) (move_row plant t m) ((row_in_range plant (accepted_parts plant known.accepted).trains_in_range t known.known).each_move m within) in
    let K : ℕ → Type 0 = λ n. list_all (λ x. ltb x n) (claimed plant t m) ≡ true in
    let can : CanBeTaken h t (own_overlap plant t m) (claimed plant t m) = record { known = subst K (sym c.requires.sections) fine.known; distinct = fine.distinct; free = c.requires.free } in
    let O : List ℕ → Type 0 = λ own. CanBeTaken h t own (claimed plant t m) in
    let S : List ℕ → Type 0 = CanBeTaken h t c.overlap_behind-own.result.now in
    subst S (sym c.claimed_sections-sections.ensures.sections) (subst O (sym c.overlap_behind-own.ensures.sections) can)
