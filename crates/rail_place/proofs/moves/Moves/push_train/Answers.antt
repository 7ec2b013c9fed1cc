use Rattle.std.proofs.Common.{◌≡◌, ℕ, ◌<◌, ◌≤◌, ◌∷◌, [], ◌++◌, length, get_or, arith, ◌∙◌, ap, sym, subst, List, true}
use Rattle.rail_base.specs.declared.limits.TheConstants.{ITINERARY_ROUTES, SECTIONS}
use Rattle.rail_rules.specs.Numbers.{is_in}
use Rattle.rail_place.specs.Tables.{EndWith, IsTable, joined, lists_of, MoveLists, row_lists}
use Rattle.rail_place.specs.declared.moves.Row.{Row}
use Rattle.rail_place.proofs.Joining.{joined_end, length-joined}
use Rattle.rail_place.proofs.Tables.{row_of, table_at, table_pushed}
use Rattle.rail_place.proofs.moves.Moves.push_train.Goals as goal

pub last_claims-requires-clause-short : goal.last_claims-requires-clause-short
last_claims-requires-clause-short c = omega (arith, ap length c.in-Ok.ensures, length-joined c.args.need c.args.over, c.requires.short)

pub last_claims-requires-clause-in_range : goal.last_claims-requires-clause-in_range
last_claims-requires-clause-in_range c =
    let P : List (List ℕ) → Type 0 = λ n. (m x : ℕ) → is_in x (get_or n m []) ≡ true → x < SECTIONS in
    subst P (sym c.in-Ok.ensures) c.requires.in_range

pub first_claims-requires-clause-short : goal.first_claims-requires-clause-short
first_claims-requires-clause-short c = omega (arith, ap length c.in-Ok.ensures, length-joined c.args.need c.args.over, c.requires.short)

pub first_claims-requires-clause-in_range : goal.first_claims-requires-clause-in_range
first_claims-requires-clause-in_range c =
    let P : List (List ℕ) → Type 0 = λ n. (m x : ℕ) → is_in x (get_or n m []) ≡ true → x < SECTIONS in
    subst P (sym c.in-Ok.ensures) c.requires.in_range

pub push_row-requires-clause-table : goal.push_row-requires-clause-table
push_row-requires-clause-table c =
    let now : List MoveLists = c.args.self.now in
    let need = c.args.need in
    let over = c.args.over in
    let lists : row_of c.in-Ok-new.row.value ≡ lists_of need over c.args.stand =
    ap row_of c.in-Ok-new.ensures.ok ∙ ap (λ n. row_lists n over c.args.stand) c.in-Ok.ensures in
    let short : length (joined need over) ≤ ITINERARY_ROUTES = omega (arith, length-joined need over, c.requires.short) in
    let last : MoveLists → Type 0 = λ r. IsTable (now ++ r ∷ []) in
    subst last (sym lists)
    (table_pushed now (lists_of need over c.args.stand) (table_at now c.self.inside.rows.items c.self.view_is c.self.invariant.0) c.requires.room short c.requires.narrow c.requires.in_range c.requires.valid)

pub push_row-requires-clause-ends : goal.push_row-requires-clause-ends
push_row-requires-clause-ends c =
    let need = c.args.need in
    let over = c.args.over in
    let E : Row → Type 0 = λ r. EndWith r.claims r.overs in
    let C : List (List ℕ) → Type 0 = λ n. EndWith n over in
    subst E (sym c.in-Ok-new.ensures.ok) (subst C (sym c.in-Ok.ensures) (joined_end need over c.requires.over))
