-- Reading a table of moves, and adding a train to it.
use Rattle.std.proofs.Common.{Global, ◌≡◌, ℕ, zero, suc, ◌+◌, ◌-◌, ◌<◌, ◌≤◌, Bool, true, ◌&&◌, cond, ltb, List, [], ◌∷◌, ◌++◌, length, get_or, map, set, refl, sym, ap, ◌∙◌, subst, inl, inr, ◌⊎◌, ⊎_elim, arith}
use Rattle.std.proofs.lemmas.Bool.{and_parts, cases_lt, cases_eq, false≢true, ltb-true, lt-ltb, cond-true}
use Rattle.std.proofs.lemmas.List.{get_or_past, get_or_push, get_or_append_left, get_or-map, get_or-set_other, get_or-set_same, length-map, length-set, length_push, map-set}
use Rattle.std.specs.List.{list_all}
use Rattle.rail_base.specs.declared.limits.TheConstants.{ITINERARY_ROUTES, OVERLAP_SECTIONS, ROUTE_SECTIONS, SECTIONS, TRAINS}
use Rattle.rail_rules.specs.Numbers.{all_below, is_in, are_apart}
use Rattle.rail_rules.specs.Moves.{Moves, stand, is_valid_move, is_valid}
use Rattle.rail_rules.proofs.CallerLemmas.{all_below_at, all_below_from, stand_needed}
use Rattle.std.specs.declared.rc.Rc.{Rc}
use Rattle.rail_place.specs.Tables.{AreFirsts, moves_in, IsTable, MoveLists, no_lists}
use Rattle.rail_place.specs.declared.moves.Row.{Row}

-- a row as contracts see it
abbrev pub row_of : Row → MoveLists
row_of row = record { claims = row.claims; overs = row.overs; stands = row.stands }

-- a row that trains share, as contracts see it
abbrev pub Kept : Type 0
Kept = Rc Row Global

abbrev pub kept_of : Kept → MoveLists
kept_of kept = row_of kept.value

-- what the code reads of it
pub row_read : (rows : List Kept) (t : ℕ) (kept : Kept) → t < length rows → kept ≡ get_or rows t kept → get_or (map kept_of rows) t no_lists ≡ kept_of kept
row_read rows t kept lt is = get_or-map kept_of rows t kept no_lists lt ∙ ap kept_of (sym is)

pub stand-inner : (plan : Moves) (t p : ℕ) → 0 < p → p < plan.moves t → stand plan t p ≡ plan.standing t (p - 1)
stand-inner plan t zero low high = absurd (omega arith)
stand-inner plan t (suc m) low high =
    let same : suc m - 1 ≡ m = omega arith in
    cond-true (ltb (suc m) (plan.moves t)) (plan.standing t m) [] (lt-ltb (suc m) (plan.moves t) high) ∙ ap (plan.standing t) (sym same)

-- what a valid plan says of a move that isn't the train's last
pub move_valid : (plan : Moves) (t m : ℕ) → is_valid plan ≡ true → t < plan.trains → suc m < plan.moves t → is_valid_move plan t m ≡ true
move_valid plan t m valid lt more =
    let row_test : ℕ → Bool = λ u. all_below (is_valid_move plan u) (plan.moves u - 1) in
    all_below_at (is_valid_move plan t) (plan.moves t - 1) m (all_below_at row_test plan.trains t valid lt) (omega arith)

-- a train stands somewhere after a move that isn't its last
pub stand_some : (plan : Moves) (t m : ℕ) → is_valid plan ≡ true → t < plan.trains → suc m < plan.moves t → 0 < length (plan.standing t m)
stand_some plan t m valid lt more =
    let sections : List ℕ = stand plan t (suc m) in
    let contained : Bool = list_all (λ y. is_in y (plan.claim t m)) sections in
    let front = and_parts (ltb 0 (length sections) && contained) (are_apart (plan.claim t (suc m)) sections) (move_valid plan t m valid lt more) in
    let parts = and_parts (ltb 0 (length sections)) contained front.0 in
    let same : sections ≡ plan.standing t m = cond-true (ltb (suc m) (plan.moves t)) (plan.standing t m) [] (lt-ltb (suc m) (plan.moves t) more) in
    let P : List ℕ → Type 0 = λ xs. 0 < length xs in
    subst P same (ltb-true 0 (length sections) parts.0)

-- so its standing set is in the table
pub stand_listed : (table : List MoveLists) (t p : ℕ) → IsTable table → t < length table → 0 < p → p < (moves_in table).moves t → p - 1 < length (get_or table t no_lists).stands
stand_listed table t p h lt low high =
    let stands : List (List ℕ) = (get_or table t no_lists).stands in
    let some : 0 < length (get_or stands (p - 1) []) = stand_some (moves_in table) t (p - 1) h.valid lt (omega arith) in
    ⊎_elim
    (λ within. within)
    (λ past. absurd (omega (arith, some, ap length (get_or_past stands (p - 1) [] past))))
    (cases_lt (p - 1) (length stands))

pub stand_in_range : (table : List MoveLists) (t p x : ℕ) → IsTable table → t < length table → is_in x (stand (moves_in table) t p) ≡ true → x < SECTIONS
stand_in_range table t zero x h lt is = absurd (false≢true is)
stand_in_range table t (suc m) x h lt is = h.in_range t m x (stand_needed (moves_in table) t m x h.valid lt is)

-- the test of a move looks at the train's row alone
move_test : List (List ℕ) → List (List ℕ) → ℕ → Bool
move_test claims stands m =
    let sections : List ℕ = cond (ltb (suc m) (length claims)) (get_or stands m []) [] in
    ltb 0 (length sections) && list_all (λ x. is_in x (get_or claims m [])) sections && are_apart (get_or claims (suc m) []) sections

row_test : MoveLists → Bool
row_test row = all_below (move_test row.claims row.stands) (length row.claims - 1)

valid_by_rows : (table : List MoveLists) → is_valid (moves_in table) ≡ all_below (λ t. row_test (get_or table t no_lists)) (length table)
unfolding row_test move_test
valid_by_rows table = refl

-- a train added last
pub table_pushed : (table : List MoveLists) (row : MoveLists) → IsTable table → length table < TRAINS
    → length row.claims ≤ ITINERARY_ROUTES → ((m : ℕ) → length (get_or row.claims m []) ≤ ROUTE_SECTIONS + OVERLAP_SECTIONS)
    → ((m x : ℕ) → is_in x (get_or row.claims m []) ≡ true → x < SECTIONS)
    → is_valid (moves_in (row ∷ [])) ≡ true → IsTable (table ++ row ∷ [])
table_pushed table row h room short narrow in_range valid =
    let whole : List MoveLists = table ++ row ∷ [] in
    let size : length whole ≡ length table + 1 = length_push table row in
    let last : get_or whole (length table) no_lists ≡ row = get_or_push table row no_lists (length table) refl in
    let old : (t : ℕ) → t < length table → get_or whole t no_lists ≡ get_or table t no_lists = λ t lt. get_or_append_left table (row ∷ []) no_lists t lt in
    let tests : all_below (λ t. row_test (get_or table t no_lists)) (length table) ≡ true = sym (valid_by_rows table) ∙ h.valid in
    let alone : all_below (λ t. row_test (get_or (row ∷ []) t no_lists)) 1 ≡ true = sym (valid_by_rows (row ∷ [])) ∙ valid in
    record {
      valid = valid_by_rows whole ∙ all_below_from (λ t. row_test (get_or whole t no_lists)) (length whole) (λ t lt.
          ⊎_elim
          (λ below. ap row_test (old t below) ∙ all_below_at (λ u. row_test (get_or table u no_lists)) (length table) t tests below)
          (λ above.
          let same : t ≡ length table = omega arith in
          ap (λ k. row_test (get_or whole k no_lists)) same ∙ ap row_test last ∙ alone)
          (cases_lt t (length table)));
      few = omega arith;
      short = λ t.
          ⊎_elim
          (λ below. omega (arith, ap (λ (r : MoveLists). length r.claims) (old t below), h.short t))
          (λ above. ⊎_elim
          (λ same.
          let at : get_or whole t no_lists ≡ row = ap (λ k. get_or whole k no_lists) same ∙ last in
          omega (arith, ap (λ (r : MoveLists). length r.claims) at))
          (λ other.
          let none : get_or whole t no_lists ≡ no_lists = get_or_past whole t no_lists (omega arith) in
          omega (arith, ap (λ (r : MoveLists). length r.claims) none))
          (cases_eq t (length table)))
          (cases_lt t (length table));
      narrow = λ t m.
          let wide : MoveLists → ℕ = λ r. length (get_or r.claims m []) in
          ⊎_elim
          (λ below. omega (arith, ap wide (old t below), h.narrow t m))
          (λ above. ⊎_elim
          (λ same.
          let at : get_or whole t no_lists ≡ row = ap (λ k. get_or whole k no_lists) same ∙ last in
          omega (arith, ap wide at, narrow m))
          (λ other.
          let none : get_or whole t no_lists ≡ no_lists = get_or_past whole t no_lists (omega arith) in
          omega (arith, ap wide none))
          (cases_eq t (length table)))
          (cases_lt t (length table));
      in_range = λ t m x is.
          let read : MoveLists → Bool = λ r. is_in x (get_or r.claims m []) in
          ⊎_elim
          (λ below. h.in_range t m x (ap read (sym (old t below)) ∙ is))
          (λ above. ⊎_elim
          (λ same.
          let at : get_or whole t no_lists ≡ row = ap (λ k. get_or whole k no_lists) same ∙ last in
          in_range m x (ap read (sym at) ∙ is))
          (λ other.
          let none : get_or whole t no_lists ≡ no_lists = get_or_past whole t no_lists (omega arith) in
          absurd (false≢true (ap read (sym none) ∙ is)))
          (cases_eq t (length table)))
          (cases_lt t (length table));
    }

-- the same behind the view of the table
pub row_at : (now : List MoveLists) (rows : List Kept) (t k : ℕ) (kept : Kept) → map kept_of rows ≡ now → k ≡ t → t < length now → kept ≡ get_or rows k kept → get_or now t no_lists ≡ kept_of kept
row_at now rows t k kept view same lt is =
    let within : k < length rows = omega (arith, ap length view, length-map rows kept_of) in
    ap (λ n. get_or n t no_lists) (sym view) ∙ ap (λ i. get_or (map kept_of rows) i no_lists) (sym same) ∙ row_read rows k kept within is

pub table_at : (now : List MoveLists) (rows : List Kept) → map kept_of rows ≡ now → IsTable (map kept_of rows) → IsTable now
table_at now rows view h = let P : List MoveLists → Type 0 = λ n. IsTable n in subst P view h

-- the moves of a train, as its row tells them
pub moves_at : (now : List MoveLists) (t : ℕ) (row : Row) → get_or now t no_lists ≡ row_of row → (moves_in now).moves t ≡ length row.claims
moves_at now t row at = ap (λ (r : MoveLists). length r.claims) at

pub claim_at : (now : List MoveLists) (t m : ℕ) (row : Row) (sections : List ℕ) → get_or now t no_lists ≡ row_of row → sections ≡ get_or row.claims m [] → sections ≡ (moves_in now).claim t m
claim_at now t m row sections at is = is ∙ ap (λ (r : MoveLists). get_or r.claims m []) (sym at)

pub claim_range : (now : List MoveLists) (t m : ℕ) (row : Row) (sections : List ℕ) → IsTable now → get_or now t no_lists ≡ row_of row → sections ≡ get_or row.claims m [] → (x : ℕ) → is_in x sections ≡ true → x < SECTIONS
claim_range now t m row sections h at is x stands = h.in_range t m x (ap (is_in x) (sym (claim_at now t m row sections at is)) ∙ stands)

-- the standing set at a place inside, as the train's row tells it
pub stand_at : (now : List MoveLists) (t p : ℕ) (row : Row) (sections : List ℕ)
    → get_or now t no_lists ≡ row_of row → 0 < p → p < length row.claims → sections ≡ get_or row.stands (p - 1) []
    → sections ≡ stand (moves_in now) t p
stand_at now t p row sections at low high is =
    is
    ∙ ap (λ (r : MoveLists). get_or r.stands (p - 1) []) (sym at)
    ∙ sym (stand-inner (moves_in now) t p low (omega (arith, moves_at now t row at)))

pub stand_room : (now : List MoveLists) (t p : ℕ) (row : Row) → IsTable now → t < length now → get_or now t no_lists ≡ row_of row → 0 < p → p < length row.claims → p - 1 < length row.stands
stand_room now t p row h lt at low high =
    omega (arith, stand_listed now t p h lt low (omega (arith, moves_at now t row at)), ap (λ (r : MoveLists). length r.stands) at)

-- a row of a table passes the tests of a table
row_kept : (table : List MoveLists) (t : ℕ) → IsTable table → t < length table → row_test (get_or table t no_lists) ≡ true
row_kept table t h lt = all_below_at (λ u. row_test (get_or table u no_lists)) (length table) t (sym (valid_by_rows table) ∙ h.valid) lt

-- a table in which the row of one train is that of another table's train
pub table_exchanged : (table others : List MoveLists) (t k : ℕ) → IsTable table → IsTable others → k < length others → IsTable (set table t (get_or others k no_lists))
table_exchanged table others t k h other lt =
    let row : MoveLists = get_or others k no_lists in
    let whole : List MoveLists = set table t row in
    let size : length whole ≡ length table = length-set table t row in
    let one_of : (u : ℕ) → (get_or whole u no_lists ≡ row) ⊎ (get_or whole u no_lists ≡ get_or table u no_lists) = λ u.
    ⊎_elim
    (λ here. ⊎_elim
    (λ below. inl (ap (λ i. get_or whole i no_lists) here ∙ get_or-set_same table t row no_lists below))
    (λ past. inr (get_or_past whole u no_lists (omega (arith, size, here, past)) ∙ sym (get_or_past table u no_lists (omega (arith, here, past)))))
    (cases_lt t (length table)))
    (λ apart. inr (get_or-set_other table t u row no_lists apart))
    (cases_eq u t) in
    record {
      valid = valid_by_rows whole ∙ all_below_from (λ u. row_test (get_or whole u no_lists)) (length whole) (λ u below.
          ⊎_elim
          (λ (new : get_or whole u no_lists ≡ row). ap row_test new ∙ row_kept others k other lt)
          (λ (old : get_or whole u no_lists ≡ get_or table u no_lists). ap row_test old ∙ row_kept table u h (omega (arith, below, size)))
          (one_of u));
      few = omega (arith, size, h.few);
      short = λ u. ⊎_elim
          (λ (new : get_or whole u no_lists ≡ row). omega (arith, ap (λ (r : MoveLists). length r.claims) new, other.short k))
          (λ (old : get_or whole u no_lists ≡ get_or table u no_lists). omega (arith, ap (λ (r : MoveLists). length r.claims) old, h.short u))
          (one_of u);
      narrow = λ u m. ⊎_elim
          (λ (new : get_or whole u no_lists ≡ row). omega (arith, ap (λ (r : MoveLists). length (get_or r.claims m [])) new, other.narrow k m))
          (λ (old : get_or whole u no_lists ≡ get_or table u no_lists). omega (arith, ap (λ (r : MoveLists). length (get_or r.claims m [])) old, h.narrow u m))
          (one_of u);
      in_range = λ u m x is. ⊎_elim
          (λ (new : get_or whole u no_lists ≡ row). other.in_range k m x (ap (λ (r : MoveLists). is_in x (get_or r.claims m [])) (sym new) ∙ is))
          (λ (old : get_or whole u no_lists ≡ get_or table u no_lists). h.in_range u m x (ap (λ (r : MoveLists). is_in x (get_or r.claims m [])) (sym old) ∙ is))
          (one_of u);
    }

-- a row put among others, as a table sees it
pub row_set : (now : List MoveLists) (rows : List Kept) (i t : ℕ) (kept : Kept) (lists : MoveLists) → map kept_of rows ≡ now → i ≡ t → kept_of kept ≡ lists
    → map kept_of (set rows i kept) ≡ set now t lists
row_set now rows i t kept lists view same is =
    map-set kept_of rows i kept ∙ (λ j. set (view j) (same j) (is j))

-- a train that makes the moves of one of the table
pub table_repeated : (table : List MoveLists) (t : ℕ) → IsTable table → length table < TRAINS → t < length table → IsTable (table ++ get_or table t no_lists ∷ [])
table_repeated table t h room lt =
    let row : MoveLists = get_or table t no_lists in
    table_pushed table row h room (h.short t) (h.narrow t) (h.in_range t)
    (valid_by_rows (row ∷ []) ∙ all_below_from (λ u. row_test (get_or (row ∷ []) u no_lists)) 1 (λ u lu.
    let here : u ≡ 0 = omega (arith, lu) in
    ap (λ k. row_test (get_or (row ∷ []) k no_lists)) here ∙ row_kept table t h lt))

-- nothing is known of the first trains
pub no_firsts : (table : List MoveLists) → AreFirsts table []
no_firsts table = record { known = omega arith; before = λ t lt. absurd (omega (arith, lt)); same = λ t lt. absurd (omega (arith, lt)) }
