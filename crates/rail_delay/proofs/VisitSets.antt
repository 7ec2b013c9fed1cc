-- A visit of a train that is written.
use Rattle.std.proofs.Common.{◌≡◌, ℕ, ◌<◌, List, [], length, get_or, set, map, sym, ap, ◌∙◌}
use Rattle.std.specs.Vec.{with_items}
use Rattle.std.specs.Global.{Vec}
use Rattle.std.proofs.lemmas.List.{map-set, get_or-map, length-set, with_items_is}
use Rattle.rail_delay.specs.declared.visits.Visit.{Visit}
use Rattle.rail_delay.specs.VisitRows.{rows_of, with_visit}

abbrev pub visits_in : Vec Visit → List Visit
visits_in row = row.items

-- rows after a visit is written in a vector
pub set_view : (rows : List (Vec Visit)) (k t : ℕ) (row : Vec Visit) (m : ℕ) (visit : Visit) (written : List Visit)
    → k ≡ t → k < length rows → row ≡ get_or rows k row → written ≡ set row.items m visit
    → rows_of (set rows k (with_items row written)) ≡ with_visit (rows_of rows) t m visit
set_view rows k t row m visit written same lt is at =
    let row_is : visits_in row ≡ get_or (map visits_in rows) t [] =
    ap visits_in is ∙ sym (get_or-map visits_in rows k row [] lt) ∙ ap (λ i. get_or (map visits_in rows) i []) same in
    let held : visits_in (with_items row written) ≡ written = with_items_is row written (ap (length {A = Visit}) at ∙ length-set row.items m visit ∙ sym row.ok.0) in
    map-set visits_in rows k (with_items row written)
    ∙ ap (λ r. set (map visits_in rows) k r) held
    ∙ ap (λ i. set (map visits_in rows) i written) same
    ∙ ap (λ r. set (map visits_in rows) t r) (at ∙ ap (λ r. set r m visit) row_is)
