use Rattle.std.proofs.Common.{◌≡◌, ℕ, ◌+◌, ◌-◌, ◌<◌, ◌≤◌, true, List, None, [], ◌∷◌, ◌++◌, length, get_or, map, ap, sym, ◌∙◌, subst, arith}
use Rattle.std.proofs.lemmas.List.{length-map, length-set}
use Rattle.rail_base.specs.declared.limits.TheConstants.{OVERLAP_SECTIONS, ROUTE_SECTIONS, SECTIONS}
use Rattle.rail_base.specs.declared.plant.MoveRow.{MoveRow}
use Rattle.rail_base.specs.declared.plant.TrainRow.{TrainRow}
use Rattle.rail_rules.specs.Accepted.{is_move_in_range}
use Rattle.rail_rules.specs.Numbers.{is_in}
use Rattle.rail_rules.specs.Moves.{is_valid}
use Rattle.rail_rules.specs.Plant.{no_move, train}
use Rattle.rail_rules.proofs.CallerLemmas.{row_in_range}
use Rattle.rail_place.specs.Tables.{moves_in, MoveLists, lists_of}
use Rattle.rail_plan.specs.PlanFaults.{bare, fault_of_train, fault_over, first_answer, standing_of}
use Rattle.rail_plan.specs.MoveTables.{needs_in, overs_in, row_with, spelled, with_moves}
use Rattle.rail_plan.proofs.OtherRows.{first_there, row_there, spelled_there}
use Rattle.rail_plan.proofs.Firsts.{answer_told}
use Rattle.rail_plan.proofs.Spelled.{spelled_row}
use Rattle.rail_plan.proofs.making.push_moves.Goals as goal

pub stands_of-requires-clause-fine : goal.stands_of-requires-clause-fine
stands_of-requires-clause-fine c = λ m lt.
    let tables = c.args.tables.now in
    let t : ℕ = c.args.train in
    let rows : List MoveRow = c.args.rows.now in
    let changed = with_moves tables t rows in
    let there : train (bare changed) t ≡ row_with tables t rows = row_there tables t rows c.requires.train in
    let within : t < length changed.trains = omega (arith, c.requires.train, length-set tables.trains t (row_with tables t rows)) in
    let facts = row_in_range (bare changed) c.requires.changed.trains t within in
    ap (λ (r : TrainRow). is_move_in_range (length tables.sections) (get_or r.moves m no_move)) (sym there)
    ∙ facts.each_move m (omega (arith, lt, ap (λ (r : TrainRow). length r.moves) there))

pub first_fault-requires-clause-few : goal.first_fault-requires-clause-few
first_fault-requires-clause-few c =
    let tables = c.args.tables.now in
    let t : ℕ = c.args.train in
    let rows : List MoveRow = c.args.rows.now in
    let changed = with_moves tables t rows in
    let there : train (bare changed) t ≡ row_with tables t rows = row_there tables t rows c.requires.train in
    let within : t < length changed.trains = omega (arith, c.requires.train, length-set tables.trains t (row_with tables t rows)) in
    let facts = row_in_range (bare changed) c.requires.changed.trains t within in
    omega (arith, facts.few_moves, ap (λ (r : TrainRow). length r.moves) there)

pub first_fault-requires-clause-fine : goal.first_fault-requires-clause-fine
first_fault-requires-clause-fine c = λ m lt.
    let tables = c.args.tables.now in
    let t : ℕ = c.args.train in
    let rows : List MoveRow = c.args.rows.now in
    let changed = with_moves tables t rows in
    let there : train (bare changed) t ≡ row_with tables t rows = row_there tables t rows c.requires.train in
    let within : t < length changed.trains = omega (arith, c.requires.train, length-set tables.trains t (row_with tables t rows)) in
    let facts = row_in_range (bare changed) c.requires.changed.trains t within in
    ap (λ (r : TrainRow). is_move_in_range (length tables.sections) (get_or r.moves m no_move)) (sym there)
    ∙ facts.each_move m (omega (arith, lt, ap (λ (r : TrainRow). length r.moves) there))

pub returns-in-Some-clause-refused : goal.returns-in-Some-clause-refused
returns-in-Some-clause-refused c =
    let tables = c.args.tables.now in
    let t : ℕ = c.args.train in
    let rows : List MoveRow = c.args.rows.now in
    let metres : c.train_row.result.now.kind.length ≡ (train (bare tables) t).kind.length = ap (λ (r : TrainRow). r.kind.length) c.train_row.ensures.row in
    answer_told (fault_of_train (bare (with_moves tables t rows)) t) c.in-Some.fault
    (first_there tables t rows c.requires.train ∙ ap (λ n. first_answer (fault_over (bare tables) t n rows) (length rows - 1)) (sym metres) ∙ sym c.first_fault.ensures ∙ c.in-Some.is)

pub push_train-requires-clause-short : goal.push_train-requires-clause-short
push_train-requires-clause-short c =
    let tables = c.args.tables.now in
    let t : ℕ = c.args.train in
    let rows : List MoveRow = c.args.rows.now in
    let changed = with_moves tables t rows in
    let there : train (bare changed) t ≡ row_with tables t rows = row_there tables t rows c.requires.train in
    let within : t < length changed.trains = omega (arith, c.requires.train, length-set tables.trains t (row_with tables t rows)) in
    let facts = row_in_range (bare changed) c.requires.changed.trains t within in
    omega (arith, facts.few_moves, ap (λ (r : TrainRow). length r.moves) there, ap length c.in_ok-need.ensures, length-map rows (λ (row : MoveRow). row.sections))

pub push_train-requires-clause-narrow : goal.push_train-requires-clause-narrow
push_train-requires-clause-narrow c =
    let tables = c.args.tables.now in
    let t : ℕ = c.args.train in
    let rows : List MoveRow = c.args.rows.now in
    let row : TrainRow = row_with tables t rows in
    let metres : c.train_row.result.now.kind.length ≡ row.kind.length = ap (λ (r : TrainRow). r.kind.length) c.train_row.ensures.row in
    let lists : lists_of c.in_ok-need.need c.in_ok-over.over c.in_ok-stand.stand ≡ spelled (bare tables) row =
    ap (λ n. lists_of n c.in_ok-over.over c.in_ok-stand.stand) c.in_ok-need.ensures
    ∙ ap (λ n. lists_of (needs_in rows) n c.in_ok-stand.stand) c.in_ok-over.ensures
    ∙ ap (λ n. lists_of (needs_in rows) (overs_in rows) n) (c.in_ok-stand.ensures ∙ ap (λ n. map (standing_of (bare tables) n) rows) metres) in
    let changed = with_moves tables t rows in
    let none : fault_of_train (bare changed) t ≡ None =
    first_there tables t rows c.requires.train ∙ ap (λ n. first_answer (fault_over (bare tables) t n rows) (length rows - 1)) (sym metres) ∙ sym c.first_fault.ensures ∙ c.in_default.is in
    let within : t < length changed.trains = omega (arith, c.requires.train, length-set tables.trains t row) in
    let spelt = spelled_row changed c.requires.changed t none within in
    let same : spelled (bare changed) (train (bare changed) t) ≡ spelled (bare tables) row = spelled_there tables t rows c.requires.train in
    let P : MoveLists → Type 0 = λ r. (m : ℕ) → length (get_or r.claims m []) ≤ ROUTE_SECTIONS + OVERLAP_SECTIONS in
    subst P (same ∙ sym lists) spelt.narrow

pub push_train-requires-clause-in_range : goal.push_train-requires-clause-in_range
push_train-requires-clause-in_range c =
    let tables = c.args.tables.now in
    let t : ℕ = c.args.train in
    let rows : List MoveRow = c.args.rows.now in
    let row : TrainRow = row_with tables t rows in
    let metres : c.train_row.result.now.kind.length ≡ row.kind.length = ap (λ (r : TrainRow). r.kind.length) c.train_row.ensures.row in
    let lists : lists_of c.in_ok-need.need c.in_ok-over.over c.in_ok-stand.stand ≡ spelled (bare tables) row =
    ap (λ n. lists_of n c.in_ok-over.over c.in_ok-stand.stand) c.in_ok-need.ensures
    ∙ ap (λ n. lists_of (needs_in rows) n c.in_ok-stand.stand) c.in_ok-over.ensures
    ∙ ap (λ n. lists_of (needs_in rows) (overs_in rows) n) (c.in_ok-stand.ensures ∙ ap (λ n. map (standing_of (bare tables) n) rows) metres) in
    let changed = with_moves tables t rows in
    let none : fault_of_train (bare changed) t ≡ None =
    first_there tables t rows c.requires.train ∙ ap (λ n. first_answer (fault_over (bare tables) t n rows) (length rows - 1)) (sym metres) ∙ sym c.first_fault.ensures ∙ c.in_default.is in
    let within : t < length changed.trains = omega (arith, c.requires.train, length-set tables.trains t row) in
    let spelt = spelled_row changed c.requires.changed t none within in
    let same : spelled (bare changed) (train (bare changed) t) ≡ spelled (bare tables) row = spelled_there tables t rows c.requires.train in
    let P : MoveLists → Type 0 = λ r. (m x : ℕ) → is_in x (get_or r.claims m []) ≡ true → x < SECTIONS in
    subst P (same ∙ sym lists) spelt.in_range

pub push_train-requires-clause-valid : goal.push_train-requires-clause-valid
push_train-requires-clause-valid c =
    let tables = c.args.tables.now in
    let t : ℕ = c.args.train in
    let rows : List MoveRow = c.args.rows.now in
    let row : TrainRow = row_with tables t rows in
    let metres : c.train_row.result.now.kind.length ≡ row.kind.length = ap (λ (r : TrainRow). r.kind.length) c.train_row.ensures.row in
    let lists : lists_of c.in_ok-need.need c.in_ok-over.over c.in_ok-stand.stand ≡ spelled (bare tables) row =
    ap (λ n. lists_of n c.in_ok-over.over c.in_ok-stand.stand) c.in_ok-need.ensures
    ∙ ap (λ n. lists_of (needs_in rows) n c.in_ok-stand.stand) c.in_ok-over.ensures
    ∙ ap (λ n. lists_of (needs_in rows) (overs_in rows) n) (c.in_ok-stand.ensures ∙ ap (λ n. map (standing_of (bare tables) n) rows) metres) in
    let changed = with_moves tables t rows in
    let none : fault_of_train (bare changed) t ≡ None =
    first_there tables t rows c.requires.train ∙ ap (λ n. first_answer (fault_over (bare tables) t n rows) (length rows - 1)) (sym metres) ∙ sym c.first_fault.ensures ∙ c.in_default.is in
    let within : t < length changed.trains = omega (arith, c.requires.train, length-set tables.trains t row) in
    let spelt = spelled_row changed c.requires.changed t none within in
    let same : spelled (bare changed) (train (bare changed) t) ≡ spelled (bare tables) row = spelled_there tables t rows c.requires.train in
    let P : MoveLists → Type 0 = λ r. is_valid (moves_in (r ∷ [])) ≡ true in
    subst P (same ∙ sym lists) spelt.valid

pub returns-clause-accepted : goal.returns-clause-accepted
returns-clause-accepted c =
    let tables = c.args.tables.now in
    let t : ℕ = c.args.train in
    let rows : List MoveRow = c.args.rows.now in
    let row : TrainRow = row_with tables t rows in
    let metres : c.train_row.result.now.kind.length ≡ row.kind.length = ap (λ (r : TrainRow). r.kind.length) c.train_row.ensures.row in
    let lists : lists_of c.in_ok-need.need c.in_ok-over.over c.in_ok-stand.stand ≡ spelled (bare tables) row =
    ap (λ n. lists_of n c.in_ok-over.over c.in_ok-stand.stand) c.in_ok-need.ensures
    ∙ ap (λ n. lists_of (needs_in rows) n c.in_ok-stand.stand) c.in_ok-over.ensures
    ∙ ap (λ n. lists_of (needs_in rows) (overs_in rows) n) (c.in_ok-stand.ensures ∙ ap (λ n. map (standing_of (bare tables) n) rows) metres) in
    let changed = with_moves tables t rows in
    let none : fault_of_train (bare changed) t ≡ None =
    first_there tables t rows c.requires.train ∙ ap (λ n. first_answer (fault_over (bare tables) t n rows) (length rows - 1)) (sym metres) ∙ sym c.first_fault.ensures ∙ c.in_default.is in
    let within : t < length changed.trains = omega (arith, c.requires.train, length-set tables.trains t row) in
    let spelt = spelled_row changed c.requires.changed t none within in
    let same : spelled (bare changed) (train (bare changed) t) ≡ spelled (bare tables) row = spelled_there tables t rows c.requires.train in
    none

pub returns-clause-moves : goal.returns-clause-moves
returns-clause-moves c =
    let tables = c.args.tables.now in
    let t : ℕ = c.args.train in
    let rows : List MoveRow = c.args.rows.now in
    let row : TrainRow = row_with tables t rows in
    let metres : c.train_row.result.now.kind.length ≡ row.kind.length = ap (λ (r : TrainRow). r.kind.length) c.train_row.ensures.row in
    let lists : lists_of c.in_ok-need.need c.in_ok-over.over c.in_ok-stand.stand ≡ spelled (bare tables) row =
    ap (λ n. lists_of n c.in_ok-over.over c.in_ok-stand.stand) c.in_ok-need.ensures
    ∙ ap (λ n. lists_of (needs_in rows) n c.in_ok-stand.stand) c.in_ok-over.ensures
    ∙ ap (λ n. lists_of (needs_in rows) (overs_in rows) n) (c.in_ok-stand.ensures ∙ ap (λ n. map (standing_of (bare tables) n) rows) metres) in
    let P : MoveLists → Type 0 = λ r. c.push_train.new.self ≡ c.args.moves.now ++ r ∷ [] in
    subst P lists c.in_ok-push_train.ensures.ok
