-- The call that a record spells may stand at its place.
use Rattle.std.proofs.Common.{◌≡◌, ℕ, ◌-◌, ◌<◌, ◌≤◌, Bool, true, false, not, ◌&&◌, ◌==◌, eqb, leb, cond, List, [], ◌∷◌, length, map, codes, is_some, Option, Some, None, refl, sym, ap, ◌∙◌, subst, arith}
use Rattle.std.specs.Option.{option_and_then, option_map}
use Rattle.std.proofs.lemmas.Bool.{and_parts, eqb-true, le-leb}
use Rattle.std.proofs.lemmas.List.{length-map}
use Rattle.rail_base.specs.NameForms.{is_name, same_name}
use Rattle.rail_base.specs.Limits.{is_from_one, most, InputTime}
use Rattle.rail_base.specs.declared.plant.Call.{Call}
use Rattle.rail_base.specs.declared.plant.Tables.{Tables}
use Rattle.rail_base.specs.declared.plant.TrainRow.{TrainRow}
use Rattle.rail_rules.specs.Accepted.{is_accepted, is_call_in_range, is_time_in_range, is_train_in_range}
use Rattle.rail_rules.specs.Numbers.{same_numbers}
use Rattle.rail_rules.specs.Plant.{Plant, move_row, moves, overlap, trains}
use Rattle.rail_rules.proofs.CallerLemmas.{accepted_parts, all_below_at, from_one}
use Rattle.rail_plan.specs.PlanFaults.{bare}
use Rattle.rail_text.specs.Decimals.{is_decimal, value_of}
use Rattle.rail_text.specs.Lines.{number_of_name}
use Rattle.rail_text.specs.Times.{IsInputTime, input_time}
use Rattle.rail_text.proofs.CallerLemmas.{found_at}
use Rattle.rail_timetable.specs.declared.fields.Dwell.{Dwell}
use Rattle.rail_timetable.specs.declared.fields.Dwell.TheVariants.{Empty, Pass, Least}
use Rattle.rail_timetable.specs.declared.rows.PlacedCall.{PlacedCall}
use Rattle.rail_timetable.specs.Fields.{MayStand, call_at_place, call_of, call_of_train, dwell_of, earlier_call, last_call, place_within, time_if_any, train_named}

-- what a chain of answers found on its way
found : {X Y : Type 0} (f : X → Option Y) (o : Option X) (y : Y) → option_and_then f o ≡ Some y → (x : X) × (o ≡ Some x) × (f x ≡ Some y)
found f None y h = absurd (cc h)
found f (Some x) y h = (x, refl, h)

mapped : {X Y : Type 0} (f : X → Y) (o : Option X) (y : Y) → option_map f o ≡ Some y → (x : X) × (o ≡ Some x) × (f x ≡ y)
mapped f None y h = absurd (cc h)
mapped f (Some x) y h = (x, refl, cc h)

kept : {X : Type 0} (b : Bool) (o : Option X) (y : X) → cond b o None ≡ Some y → (b ≡ true) × (o ≡ Some y)
kept true o y h = (refl, h)
kept false o y h = absurd (cc h)

-- a train of a name is one of the tables
train_known : (tables : Tables) (field : List ℕ) (t : ℕ) → train_named tables field ≡ Some t → t < length tables.trains
train_known tables field t h =
    let names : List (List ℕ) = map (λ (row : TrainRow). row.name) tables.trains in
    let is = kept (is_name field) (number_of_name names field) t h in
    let at = found_at (same_name field) names t is.1 in
    omega (arith, at.1, length-map tables.trains (λ (row : TrainRow). row.name))

-- a place is one from 1 to the last
place_known : (last : ℕ) (field : List ℕ) (p : ℕ) → place_within last field ≡ Some p → (1 ≤ p) × (p ≤ last)
place_known last field p h =
    let is = kept (is_decimal field && is_from_one last (value_of field)) (Some (value_of field)) p h in
    let both = and_parts (is_decimal field) (is_from_one last (value_of field)) is.0 in
    let range = from_one last (value_of field) both.1 in
    let same : value_of field ≡ p = cc is.1 in
    (omega (arith, range.0, same), omega (arith, range.1, same))

-- the call of a train that four fields spell, part by part
pub record IsOfTrain (tables : Tables) (t : ℕ) (arrival departure dwell : List ℕ) (placed : PlacedCall) : Type 0 where
  pub train : placed.train ≡ t
  pub first : 1 ≤ placed.place
  pub last : placed.place ≤ moves (bare tables) placed.train
  pub spelled : call_at_place (eqb placed.place (moves (bare tables) placed.train)) (is_some (move_row (bare tables) placed.train (placed.place - 1)).turn) arrival departure dwell ≡ Some placed.call

train_parts : (tables : Tables) (place arrival departure dwell : List ℕ) (t : ℕ) (placed : PlacedCall) → call_of_train tables place arrival departure dwell t ≡ Some placed → IsOfTrain tables t arrival departure dwell placed
train_parts tables place arrival departure dwell t placed h =
    let at : ℕ → Option Call = λ p. call_at_place (eqb p (moves (bare tables) t)) (is_some (move_row (bare tables) t (p - 1)).turn) arrival departure dwell in
    let p = found (λ (p : ℕ). option_map (λ (call : Call). record { train = t; place = p; call = call }) (at p)) (place_within (moves (bare tables) t) place) placed h in
    let range = place_known (moves (bare tables) t) place p.0 p.1 in
    let call = mapped (λ (call : Call). record { train = t; place = p.0; call = call }) (at p.0) placed p.2 in
    subst (IsOfTrain tables t arrival departure dwell) call.2 (record { train = refl; first = range.0; last = range.1; spelled = call.1 })

-- the train and the place of a call that a record spells
pub record IsPlaced (tables : Tables) (placed : PlacedCall) : Type 0 where
  pub train : placed.train < length tables.trains
  pub first : 1 ≤ placed.place
  pub last : placed.place ≤ moves (bare tables) placed.train

pub spelled_placed : (tables : Tables) (fields : List (List ℕ)) (placed : PlacedCall) → call_of tables fields ≡ Some placed → IsPlaced tables placed
spelled_placed tables [] placed h = absurd (cc h)
spelled_placed tables (a ∷ []) placed h = absurd (cc h)
spelled_placed tables (a ∷ b ∷ []) placed h = absurd (cc h)
spelled_placed tables (a ∷ b ∷ c ∷ []) placed h = absurd (cc h)
spelled_placed tables (a ∷ b ∷ c ∷ d ∷ []) placed h = absurd (cc h)
spelled_placed tables (train ∷ place ∷ arrival ∷ departure ∷ dwell ∷ []) placed h =
    let t = found (call_of_train tables place arrival departure dwell) (train_named tables train) placed h in
    let is = train_parts tables place arrival departure dwell t.0 placed t.2 in
    record { train = omega (arith, is.train, train_known tables train t.0 t.1); first = is.first; last = is.last }
spelled_placed tables (a ∷ b ∷ c ∷ d ∷ e ∷ f ∷ more) placed h = absurd (cc h)

-- what a word spells is within the limit of inputs
module _ (words : (word : List ℕ) → IsInputTime word (input_time word)) where
  small : (word : List ℕ) (o : Option ℕ) → IsInputTime word o → (time : ℕ) → o ≡ Some time → leb time (most InputTime) ≡ true
  small word None h time e = absurd (cc e)
  small word (Some other) h time e = let same : other ≡ time = cc e in le-leb time (most InputTime) (omega (arith, h.0, same))

  word_small : (word : List ℕ) (time : ℕ) → input_time word ≡ Some time → leb time (most InputTime) ≡ true
  word_small word time e = small word (input_time word) (words word) time e

  time_fine : (field : List ℕ) (t : Option ℕ) → time_if_any field ≡ Some t → is_time_in_range t ≡ true
  time_fine [] t h = let same : None ≡ t = cc h in ap is_time_in_range (sym same)
  time_fine (b ∷ bs) t h =
      let at = mapped (λ (time : ℕ). Some time) (input_time (b ∷ bs)) t h in
      ap is_time_in_range (sym at.2) ∙ word_small (b ∷ bs) at.0 at.1

  -- the least time of a dwell is within the limit
  abbrev least_fine : Dwell → Type 0
  least_fine Empty = Unit {0}
  least_fine Pass = Unit {0}
  least_fine (Least time) = leb time (most InputTime) ≡ true

  dwell_word : (word : List ℕ) (b : Bool) (stay : Dwell) → cond b (Some Pass) (option_map (λ (time : ℕ). Least time) (input_time word)) ≡ Some stay → least_fine stay
  dwell_word word true stay h = let same : Pass ≡ stay = cc h in subst least_fine same tt
  dwell_word word false stay h =
      let at = mapped (λ (time : ℕ). Least time) (input_time word) stay h in
      subst least_fine at.2 (word_small word at.0 at.1)

  dwell_fine : (field : List ℕ) (stay : Dwell) → dwell_of field ≡ Some stay → least_fine stay
  dwell_fine [] stay h = let same : Empty ≡ stay = cc h in subst least_fine same tt
  dwell_fine (b ∷ bs) stay h = dwell_word (b ∷ bs) (same_numbers (b ∷ bs) (codes "pass")) stay h

  last_fine : (turns : Bool) (a d : Option ℕ) (stay : Dwell) (call : Call) → is_time_in_range a ≡ true → turns ≡ false → last_call a d stay ≡ Some call → is_call_in_range true turns (Some call) ≡ true
  last_fine turns a None Empty call ha ht h =
      let same : record { stops = false; arrival = a; departure = None; dwell = 0 } ≡ call = cc h in
      ap (λ (c : Call). is_call_in_range true turns (Some c)) (sym same) ∙ (λ i. ha i && true && true && true && true && not (ht i && true))
  last_fine turns a None Pass call ha ht h = absurd (cc h)
  last_fine turns a None (Least time) call ha ht h = absurd (cc h)
  last_fine turns a (Some d) stay call ha ht h = absurd (cc h)

  earlier_fine : (turns : Bool) (a d : Option ℕ) (stay : Dwell) (call : Call) → is_time_in_range a ≡ true → is_time_in_range d ≡ true → least_fine stay
      → earlier_call turns a d stay ≡ Some call → is_call_in_range false turns (Some call) ≡ true
  earlier_fine true a d Empty call ha hd hs h =
      let same : record { stops = true; arrival = a; departure = d; dwell = 0 } ≡ call = cc h in
      ap (λ (c : Call). is_call_in_range false true (Some c)) (sym same) ∙ (λ i. ha i && hd i && true && true && true && true)
  earlier_fine false a d Empty call ha hd hs h =
      let same : record { stops = true; arrival = a; departure = d; dwell = 0 } ≡ call = cc h in
      ap (λ (c : Call). is_call_in_range false false (Some c)) (sym same) ∙ (λ i. ha i && hd i && true && true && true && true)
  earlier_fine true a d Pass call ha hd hs h = absurd (cc h)
  earlier_fine false a d Pass call ha hd hs h =
      let same : record { stops = false; arrival = a; departure = d; dwell = 0 } ≡ call = cc h in
      ap (λ (c : Call). is_call_in_range false false (Some c)) (sym same) ∙ (λ i. ha i && hd i && true && true && true && true)
  earlier_fine true a d (Least time) call ha hd hs h =
      let same : record { stops = true; arrival = a; departure = d; dwell = time } ≡ call = cc h in
      ap (λ (c : Call). is_call_in_range false true (Some c)) (sym same) ∙ (λ i. ha i && hd i && hs i && true && true && true)
  earlier_fine false a d (Least time) call ha hd hs h =
      let same : record { stops = true; arrival = a; departure = d; dwell = time } ≡ call = cc h in
      ap (λ (c : Call). is_call_in_range false false (Some c)) (sym same) ∙ (λ i. ha i && hd i && hs i && true && true && true)

  kind_fine : (last turns : Bool) (a d : Option ℕ) (stay : Dwell) (call : Call) → (last ≡ true → turns ≡ false) → is_time_in_range a ≡ true → is_time_in_range d ≡ true → least_fine stay
      → cond last (last_call a d stay) (earlier_call turns a d stay) ≡ Some call → is_call_in_range last turns (Some call) ≡ true
  kind_fine true turns a d stay call ht ha hd hs h = last_fine turns a d stay call ha (ht refl) h
  kind_fine false turns a d stay call ht ha hd hs h = earlier_fine turns a d stay call ha hd hs h

  call_fine : (last turns : Bool) (arrival departure dwell : List ℕ) (call : Call) → (last ≡ true → turns ≡ false)
      → call_at_place last turns arrival departure dwell ≡ Some call → is_call_in_range last turns (Some call) ≡ true
  call_fine last turns arrival departure dwell call ht h =
      let a = found (λ (a : Option ℕ). option_and_then (λ (d : Option ℕ). option_and_then (λ (stay : Dwell). cond last (last_call a d stay) (earlier_call turns a d stay)) (dwell_of dwell)) (time_if_any departure)) (time_if_any arrival) call h in
      let d = found (λ (d : Option ℕ). option_and_then (λ (stay : Dwell). cond last (last_call a.0 d stay) (earlier_call turns a.0 d stay)) (dwell_of dwell)) (time_if_any departure) call a.2 in
      let stay = found (λ (stay : Dwell). cond last (last_call a.0 d.0 stay) (earlier_call turns a.0 d.0 stay)) (dwell_of dwell) call d.2 in
      kind_fine last turns a.0 d.0 stay.0 call ht (time_fine arrival a.0 a.1) (time_fine departure d.0 d.1) (dwell_fine dwell stay.0 stay.1) stay.2

  -- the call of a train of the plant
  module _ (plant : Plant) (accepted : is_accepted plant ≡ true) where
    no_last_turn : (t : ℕ) → t < trains plant → is_some (move_row plant t (moves plant t - 1)).turn ≡ false
    no_last_turn t lt = untold (is_some (move_row plant t (moves plant t - 1)).turn)
        (and_parts _ (not (is_some (move_row plant t (moves plant t - 1)).turn)) (and_parts _ (length (overlap plant t (moves plant t - 1)) == 0) (all_below_at (is_train_in_range plant) (trains plant) t (accepted_parts plant accepted).trains_in_range lt)).0).1
      where
        untold : (b : Bool) → not b ≡ true → b ≡ false
        untold true h = absurd (cc h)
        untold false h = refl

    at_last : (t p : ℕ) → t < trains plant → eqb p (moves plant t) ≡ true → is_some (move_row plant t (p - 1)).turn ≡ false
    at_last t p lt is = let same : p ≡ moves plant t = eqb-true p (moves plant t) is in ap (λ (q : ℕ). is_some (move_row plant t (q - 1)).turn) same ∙ no_last_turn t lt

    pub of_train : (t : ℕ) (place arrival departure dwell : List ℕ) (placed : PlacedCall) → t < trains plant → call_of_train plant.tables place arrival departure dwell t ≡ Some placed → MayStand plant.tables placed
    of_train t place arrival departure dwell placed lt h =
        let is = train_parts plant.tables place arrival departure dwell t placed h in
        let there : placed.train < trains plant = omega (arith, is.train, lt) in
        record {
          train = there;
          first = is.first;
          last = is.last;
          fine = call_fine (eqb placed.place (moves plant placed.train)) (is_some (move_row plant placed.train (placed.place - 1)).turn) arrival departure dwell placed.call
              (at_last placed.train placed.place there) is.spelled;
        }
