-- The calls of an accepted file are those that its records spell, and no others.
use Rattle.std.proofs.Common.{◌≡◌, ℕ, zero, suc, ◌+◌, ◌-◌, ◌<◌, ◌≤◌, ◌≢◌, ◌⊎◌, inl, inr, Bool, true, false, not, cond, List, [], ◌∷◌, ◌++◌, length, get_or, set, is_some, Option, Some, None, refl, sym, ap, ◌∙◌, ⊎_elim, arith}
use Rattle.std.specs.Option.{option_map_or, option_or}
use Rattle.std.proofs.lemmas.Bool.{cases_eq}
use Rattle.std.proofs.lemmas.List.{get_or-set_other, get_or-set_same, length-set}
use Rattle.rail_base.specs.FirstRefusals.{Test, first_failing}
use Rattle.rail_base.specs.declared.plant.Call.{Call}
use Rattle.rail_base.specs.declared.plant.Tables.{Tables}
use Rattle.rail_base.specs.declared.refusals.Refusal.{Refusal}
use Rattle.rail_base.specs.declared.refusals.Reason.TheVariants.{TimetableForm}
use Rattle.rail_base.proofs.CallerLemmas.{all_passed, first_failing-append}
use Rattle.rail_rules.specs.Plant.{moves}
use Rattle.rail_plan.specs.PlanFaults.{bare}
use Rattle.rail_plan.specs.CallTables.{AreCallsFor, call_at, no_calls, with_call}
use Rattle.rail_timetable.specs.declared.rows.PlacedCall.{PlacedCall}
use Rattle.rail_timetable.specs.Fields.{call_of}
use Rattle.rail_timetable.specs.Records.{records_in}
use Rattle.rail_timetable.specs.Timetables.{AreSpelledCalls, IsSpelled, calls_in, calls_of, file_tests, is_header, is_taken, record_tests, records_tests, refusal_at, timetable_refusal, with_record, with_records}
use Rattle.rail_timetable.proofs.Standing.{IsPlaced, spelled_placed}

-- room for a call of each train at each of its places
record HasRooms (tables : Tables) (calls : List (List (Option Call))) : Type 0 where
  pub trains : length calls ≡ length tables.trains
  pub places : (t : ℕ) → length (get_or calls t []) ≡ moves (bare tables) t

-- the calls with one more
module _ (tables : Tables) (calls : List (List (Option Call))) (rooms : HasRooms tables calls) (q : PlacedCall) (is : IsPlaced tables q) where
  row : List (Option Call)
  row = set (get_or calls q.train []) (q.place - 1) (Some q.call)

  row_at : get_or (with_call calls q.train q.place q.call) q.train [] ≡ row
  unfolding row
  row_at = get_or-set_same calls q.train row [] (omega (arith, is.train, rooms.trains))

  rooms_kept : HasRooms tables (with_call calls q.train q.place q.call)
  unfolding row
  rooms_kept = record {
    trains = length-set calls q.train row ∙ rooms.trains;
    places = λ u. ⊎_elim
        (λ same. ap (λ k. length (get_or (with_call calls q.train q.place q.call) k [])) same ∙ ap length row_at
        ∙ length-set (get_or calls q.train []) (q.place - 1) (Some q.call) ∙ rooms.places q.train ∙ ap (moves (bare tables)) (sym same))
        (λ other. ap length (get_or-set_other calls q.train u row [] other) ∙ rooms.places u)
        (cases_eq u q.train);
  }

  -- it stands at its place
  at_place : call_at (with_call calls q.train q.place q.call) q.train q.place ≡ Some q.call
  unfolding row
  at_place = ap (λ (r : List (Option Call)). get_or r (q.place - 1) None) row_at
      ∙ get_or-set_same (get_or calls q.train []) (q.place - 1) (Some q.call) None (omega (arith, is.first, is.last, rooms.places q.train))

  -- and at no other
  at_others : (t place : ℕ) → 1 ≤ place → (t ≡ q.train → place ≡ q.place → ⊥) → call_at (with_call calls q.train q.place q.call) t place ≡ call_at calls t place
  unfolding row
  at_others t place first differs = ⊎_elim
      (λ same.
      ap (λ k. call_at (with_call calls q.train q.place q.call) k place) same
      ∙ ap (λ (r : List (Option Call)). get_or r (place - 1) None) row_at
      ∙ get_or-set_other (get_or calls q.train []) (q.place - 1) (place - 1) (Some q.call) None (λ e. differs same (omega (arith, is.first, first, e)))
      ∙ ap (λ k. call_at calls k place) (sym same))
      (λ other. ap (λ (r : List (Option Call)). get_or r (place - 1) None) (get_or-set_other calls q.train t row [] other))
      (cases_eq t q.train)

-- a record that passes its tests spells a call, for whose place there is none before it
record IsPassed (tables : Tables) (calls : List (List (Option Call))) (fields : List (List ℕ)) : Type 0 where
  pub placed : PlacedCall
  pub spelled : call_of tables fields ≡ Some placed
  pub free : call_at calls placed.train placed.place ≡ None
  pub joined : with_record tables calls fields ≡ with_call calls placed.train placed.place placed.call

passed : (tables : Tables) (calls : List (List (Option Call))) (n : ℕ) (fields : List (List ℕ)) → first_failing (record_tests tables calls n fields) ≡ None → IsPassed tables calls fields
passed tables calls n fields h = let all = all_passed (record_tests tables calls n fields) h in by (call_of tables fields) refl all.1.0 all.1.1.0
  where
    nothing : (o : Option Call) → is_some o ≡ false → o ≡ None
    nothing None e = refl
    nothing (Some call) e = absurd (cc e)

    by : (o : Option PlacedCall) → call_of tables fields ≡ o → not (is_some o) ≡ false → is_taken calls o ≡ false → IsPassed tables calls fields
    by None is there taken = absurd (cc there)
    by (Some q) is there taken = record {
      placed = q;
      spelled = is;
      free = nothing (call_at calls q.train q.place) taken;
      joined = ap (λ (o : Option PlacedCall). option_map_or (λ (p : PlacedCall). with_call calls p.train p.place p.call) o calls) is;
    }

-- the tests of a record, and those of the records behind it
record BothPass (tables : Tables) (calls : List (List (Option Call))) (n : ℕ) (fields : List (List ℕ)) (later : List (List (List ℕ))) : Type 0 where
  pub first : IsPassed tables calls fields
  pub others : first_failing (records_tests tables (with_record tables calls fields) (n + 1) later) ≡ None

both_pass : (tables : Tables) (calls : List (List (Option Call))) (n : ℕ) (fields : List (List ℕ)) (later : List (List (List ℕ))) → first_failing (records_tests tables calls n (fields ∷ later)) ≡ None → BothPass tables calls n fields later
both_pass tables calls n fields later h =
    by (first_failing (record_tests tables calls n fields)) refl
    (sym (first_failing-append (record_tests tables calls n fields) (records_tests tables (with_record tables calls fields) (n + 1) later)) ∙ h)
  where
    by : (o : Option Refusal) → first_failing (record_tests tables calls n fields) ≡ o → option_or o (first_failing (records_tests tables (with_record tables calls fields) (n + 1) later)) ≡ None → BothPass tables calls n fields later
    by None is rest = record { first = passed tables calls n fields is; others = rest }
    by (Some refusal) is rest = absurd (cc rest)

rooms_after : (tables : Tables) (calls : List (List (Option Call))) (fields : List (List ℕ)) → HasRooms tables calls → (p : IsPassed tables calls fields) → HasRooms tables (with_record tables calls fields)
rooms_after tables calls fields rooms p = rw p.joined (rooms_kept tables calls rooms p.placed (spelled_placed tables fields p.placed p.spelled))

-- a call that stands before the records stands behind them
stays : (tables : Tables) (calls : List (List (Option Call))) (n : ℕ) (rows : List (List (List ℕ))) → HasRooms tables calls → first_failing (records_tests tables calls n rows) ≡ None
    → (t place : ℕ) (call : Call) → 1 ≤ place → call_at calls t place ≡ Some call → call_at (with_records tables calls rows) t place ≡ Some call
stays tables calls n [] rooms none t place call first h = h
stays tables calls n (fields ∷ later) rooms none t place call first h =
    let both = both_pass tables calls n fields later none in
    let q : PlacedCall = both.first.placed in
    let is = spelled_placed tables fields q both.first.spelled in
    let apart : t ≡ q.train → place ≡ q.place → ⊥ = λ same at.
    let taken : call_at calls q.train q.place ≡ Some call = (λ i. call_at calls (sym same i) (sym at i)) ∙ h in
    let free = both.first.free in
    absurd (cc) in
    let moved : call_at (with_record tables calls fields) t place ≡ Some call =
    ap (λ (cs : List (List (Option Call))). call_at cs t place) both.first.joined ∙ at_others tables calls rooms q is t place first apart ∙ h in
    stays tables (with_record tables calls fields) (n + 1) later (rooms_after tables calls fields rooms both.first) both.others t place call first moved

-- the call that a record spells stands behind the records
each_stands : (tables : Tables) (calls : List (List (Option Call))) (n : ℕ) (rows : List (List (List ℕ))) → HasRooms tables calls → first_failing (records_tests tables calls n rows) ≡ None
    → (k : ℕ) → k < length rows → (placed : PlacedCall) → call_of tables (get_or rows k []) ≡ Some placed → call_at (with_records tables calls rows) placed.train placed.place ≡ Some placed.call
each_stands tables calls n [] rooms none k lt placed h = absurd (omega arith)
each_stands tables calls n (fields ∷ later) rooms none zero lt placed h =
    let both = both_pass tables calls n fields later none in
    let is = spelled_placed tables fields placed h in
    let joined : with_record tables calls fields ≡ with_call calls placed.train placed.place placed.call =
    ap (λ (o : Option PlacedCall). option_map_or (λ (p : PlacedCall). with_call calls p.train p.place p.call) o calls) h in
    stays tables (with_record tables calls fields) (n + 1) later (rooms_after tables calls fields rooms both.first) both.others placed.train placed.place placed.call is.first
    (ap (λ (cs : List (List (Option Call))). call_at cs placed.train placed.place) joined ∙ at_place tables calls rooms placed is)
each_stands tables calls n (fields ∷ later) rooms none (suc k) lt placed h =
    let both = both_pass tables calls n fields later none in
    each_stands tables (with_record tables calls fields) (n + 1) later (rooms_after tables calls fields rooms both.first) both.others k (omega arith) placed h

-- some record spells the call
record IsSpelledIn (tables : Tables) (rows : List (List (List ℕ))) (placed : PlacedCall) : Type 0 where
  pub index : ℕ
  pub there : index < length rows
  pub spelled : call_of tables (get_or rows index []) ≡ Some placed

-- a call behind the records stood before them, or a record spells it
from_before : (tables : Tables) (calls : List (List (Option Call))) (n : ℕ) (rows : List (List (List ℕ))) → HasRooms tables calls → first_failing (records_tests tables calls n rows) ≡ None
    → (t place : ℕ) (call : Call) → 1 ≤ place → call_at (with_records tables calls rows) t place ≡ Some call
    → (call_at calls t place ≡ Some call) ⊎ IsSpelledIn tables rows (record { train = t; place = place; call = call })
from_before tables calls n [] rooms none t place call first h = inl h
from_before tables calls n (fields ∷ later) rooms none t place call first h =
    let both = both_pass tables calls n fields later none in
    let q : PlacedCall = both.first.placed in
    let is = spelled_placed tables fields q both.first.spelled in
    let P : Type 0 = (call_at calls t place ≡ Some call) ⊎ IsSpelledIn tables (fields ∷ later) (record { train = t; place = place; call = call }) in
    let before : (t ≡ q.train → place ≡ q.place → ⊥) → call_at (with_record tables calls fields) t place ≡ Some call → P = λ apart now.
    inl (sym (at_others tables calls rooms q is t place first apart) ∙ sym (ap (λ (cs : List (List (Option Call))). call_at cs t place) both.first.joined) ∙ now) in
    ⊎_elim
    (λ now. ⊎_elim
    (λ same. ⊎_elim
    (λ at.
    let here : Some q.call ≡ Some call = sym (at_place tables calls rooms q is) ∙ (λ i. call_at (sym both.first.joined i) (sym same i) (sym at i)) ∙ now in
    let call_is : q.call ≡ call = cc in
    inr (record { index = 0; there = omega arith; spelled = both.first.spelled ∙ (λ i. Some (record { train = sym same i; place = sym at i; call = call_is i })) }))
    (λ other. before (λ _ at. other at) now)
    (cases_eq place q.place))
    (λ other. before (λ same _. other same) now)
    (cases_eq t q.train))
    (λ (spelled : IsSpelledIn tables later (record { train = t; place = place; call = call })). inr (record { index = suc spelled.index; there = omega (arith, spelled.there); spelled = spelled.spelled }))
    (from_before tables (with_record tables calls fields) (n + 1) later (rooms_after tables calls fields rooms both.first) both.others t place call first h)

-- the records of a file
module _ (tables : Tables) (bytes : List ℕ) (made : AreCallsFor tables (no_calls tables)) (free : (t place : ℕ) → call_at (no_calls tables) t place ≡ None) where
  rooms : HasRooms tables (no_calls tables)
  rooms = record { trains = made.trains; places = made.places }

  record AreBehind (rows : List (List (List ℕ))) (placed : PlacedCall) : Type 0 where
    pub index : ℕ
    pub behind : 1 ≤ index
    pub there : index < length rows
    pub spelled : call_of tables (get_or rows index []) ≡ Some placed

  passed_header : (header : Bool) (o : Option Refusal) → cond (not header) (Some (refusal_at TimetableForm 1)) o ≡ None → o ≡ None
  passed_header true o h = h
  passed_header false o h = absurd (cc h)

  each_of : (rows : List (List (List ℕ))) → first_failing (file_tests tables rows) ≡ None → (placed : PlacedCall) → AreBehind rows placed → call_at (calls_of tables rows) placed.train placed.place ≡ Some placed.call
  each_of [] none placed h = absurd (cc none)
  each_of (header ∷ later) none placed h = at h.index h.behind h.there h.spelled
    where
      at : (k : ℕ) → 1 ≤ k → k < length (header ∷ later) → call_of tables (get_or (header ∷ later) k []) ≡ Some placed → call_at (with_records tables (no_calls tables) later) placed.train placed.place ≡ Some placed.call
      at zero first lt is = absurd (omega arith)
      at (suc k) first lt is = each_stands tables (no_calls tables) 2 later rooms (passed_header (is_header header) (first_failing (records_tests tables (no_calls tables) 2 later)) none) k (omega arith) placed is

  others_of : (rows : List (List (List ℕ))) → first_failing (file_tests tables rows) ≡ None → (t place : ℕ) (call : Call) → 1 ≤ place → call_at (calls_of tables rows) t place ≡ Some call → AreBehind rows (record { train = t; place = place; call = call })
  others_of [] none t place call first h = absurd (cc none)
  others_of (header ∷ later) none t place call first h = ⊎_elim
      (λ (before : call_at (no_calls tables) t place ≡ Some call). absurd (let nowhere = free t place in cc))
      (λ (spelled : IsSpelledIn tables later (record { train = t; place = place; call = call })). record { index = suc spelled.index; behind = omega arith; there = omega (arith, spelled.there); spelled = spelled.spelled })
      (from_before tables (no_calls tables) 2 later rooms (passed_header (is_header header) (first_failing (records_tests tables (no_calls tables) 2 later)) none) t place call first h)

  pub spelled_calls : (calls : List (List (Option Call))) → timetable_refusal tables bytes ≡ None → calls ≡ calls_in tables bytes → AreSpelledCalls tables bytes calls
  spelled_calls calls none are = record {
    each = λ placed h.
        ap (λ (cs : List (List (Option Call))). call_at cs placed.train placed.place) are
        ∙ each_of (records_in bytes) none placed (record { index = h.index; behind = h.behind; there = h.there; spelled = h.spelled });
    others = λ t place call first h.
        let is = others_of (records_in bytes) none t place call first (sym (ap (λ (cs : List (List (Option Call))). call_at cs t place) are) ∙ h) in
        record { index = is.index; behind = is.behind; there = is.there; spelled = is.spelled };
  }
