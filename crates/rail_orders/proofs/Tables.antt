-- The tables are those of the orders that were told.
use Rattle.std.proofs.Common.{◌≡◌, ◌≢◌, ℕ, ◌<◌, Bool, true, false, not, ◌&&◌, ◌||◌, cond, eqb, ◌==◌, List, [], ◌∷◌, length, get_or, set, map, replicate, nat_lt, find, Option, Some, None, refl, sym, ap, ◌∙◌, subst, ⊎_elim, arith}
use Rattle.std.specs.List.{filter, list_all, list_any}
use Rattle.std.specs.Option.{option_map}
use Rattle.std.proofs.lemmas.Bool.{and_parts, eqb-true, eq-eqb, false≢true, ltb-true}
use Rattle.std.proofs.lemmas.List.{get_or-set_same, get_or-set_other, get_or-map, get_or-replicate, length-map, length-replicate, length-set}
use Rattle.std.proofs.lemmas.Map.Views.{any-filter_same}
use Rattle.rail_base.specs.declared.orders.Order.{Order}
use Rattle.rail_base.specs.declared.orders.Order.TheVariants.{Policy, Retire, Close, Reopen, Stop, Go, Cancel, Priority}
use Rattle.rail_rules.specs.Fronts.{Front, admissions}
use Rattle.rail_rules.specs.Numbers.{same_numbers}
use Rattle.rail_base.specs.declared.history.Cause.TheVariants.{Stopped, Closed}
use Rattle.rail_base.specs.declared.plant.TrainRow.{TrainRow}
use Rattle.rail_rules.specs.Plant.{Plant, no_train, train, trains}
use Rattle.rail_rules.specs.Orders.{Dispatch, Input, first_force, in_force, input_of, is_cancelled, is_closed, is_in_deck, is_retired, is_stopped, priority_of, takes_effect}
use Rattle.rail_rules.specs.Causes.{closed_cause, stop_cause}
use Rattle.rail_orders.specs.OrderTables.{AreOrders, Told, closed_in, first_tables, has_policy, stop_in, takes_effect_in, told_after}

-- what is read of a list in which an item was set: that item at its place, else what stood there
read_after : {X : Type 0} (items : List X) (i j : ℕ) (x none : X) → j < length items → get_or (set items i x) j none ≡ cond (i == j) x (get_or items j none)
read_after items i j x none lt = by (i == j) refl
  where
    by : (b : Bool) → (i == j) ≡ b → get_or (set items i x) j none ≡ cond b x (get_or items j none)
    by true is = let same : i ≡ j = eqb-true i j is in
        ap (λ k. get_or (set items k x) j none) same ∙ get_or-set_same items j x none lt
    by false is = get_or-set_other items i j x none (λ same. false≢true (sym is ∙ eq-eqb i j (sym same)))

-- a flag that is set, and one that is taken away
raised : (b flag rest : Bool) → flag ≡ rest → cond b true flag ≡ (b || rest)
raised true flag rest is = refl
raised false flag rest is = is

lowered : (b flag rest : Bool) → flag ≡ rest → cond b false flag ≡ (not b && rest)
lowered true flag rest is = refl
lowered false flag rest is = is

same_back : (xs ys : List ℕ) → same_numbers xs ys ≡ true → xs ≡ ys
same_back [] [] h = refl
same_back [] (y ∷ ys) h = absurd (false≢true h)
same_back (x ∷ xs) [] h = absurd (false≢true h)
same_back (x ∷ xs) (y ∷ ys) h = let p = and_parts (x == y) (same_numbers xs ys) h in
    ap (λ (z : ℕ). z ∷ xs) (eqb-true x y p.0) ∙ ap (λ (zs : List ℕ). y ∷ zs) (same_back xs ys p.1)

-- what is left of a deck without the policies of a name
left_after : (deck : List (List ℕ)) (other name : List ℕ) (kept : Bool) (retired : Bool) → list_any (same_numbers name) deck ≡ (kept && not retired)
    → list_any (same_numbers name) (filter (λ d. not (same_numbers other d)) deck) ≡ (kept && not (same_numbers other name || retired))
left_after deck other name kept retired is =
    any-filter_same (same_numbers name) (λ d. not (same_numbers other d)) (not (same_numbers other name))
    (λ d same. ap (λ e. not (same_numbers other e)) (sym (same_back name d same))) deck
    ∙ ap (λ b. not (same_numbers other name) && b) is
    ∙ by (same_numbers other name) kept retired
  where
    by : (s k r : Bool) → (not s && (k && not r)) ≡ (k && not (s || r))
    by true true r = refl
    by true false r = refl
    by false k r = refl

-- after an order the tables are those of the orders with it
pub order_told : (plant : Plant) (deck : List (List ℕ)) (force : ℕ) (orders : List Order) (told : Told) (order : Order) → AreOrders plant deck force orders told
    → AreOrders plant deck force (order ∷ orders) (told_after order told)
order_told plant deck force orders told (Close y) are = record {
  sections = length-set told.closed y true ∙ are.sections;
  stops = are.stops;
  cancels = are.cancels;
  ranks = are.ranks;
  closed = λ x lt. read_after told.closed y x true false (omega (arith, lt, are.sections)) ∙ raised (y == x) _ _ (are.closed x lt);
  stopped = are.stopped;
  cancelled = are.cancelled;
  priorities = are.priorities;
  left = are.left;
  in_force = are.in_force;
}
order_told plant deck force orders told (Reopen y) are = record {
  sections = length-set told.closed y false ∙ are.sections;
  stops = are.stops;
  cancels = are.cancels;
  ranks = are.ranks;
  closed = λ x lt. read_after told.closed y x false false (omega (arith, lt, are.sections)) ∙ lowered (y == x) _ _ (are.closed x lt);
  stopped = are.stopped;
  cancelled = are.cancelled;
  priorities = are.priorities;
  left = are.left;
  in_force = are.in_force;
}
order_told plant deck force orders told (Stop u) are = record {
  sections = are.sections;
  cancels = are.cancels;
  ranks = are.ranks;
  stops = length-set told.stopped u true ∙ are.stops;
  closed = are.closed;
  stopped = λ t lt. read_after told.stopped u t true false (omega (arith, lt, are.stops)) ∙ raised (u == t) _ _ (are.stopped t lt);
  cancelled = are.cancelled;
  priorities = are.priorities;
  left = are.left;
  in_force = are.in_force;
}
order_told plant deck force orders told (Go u) are = record {
  sections = are.sections;
  cancels = are.cancels;
  ranks = are.ranks;
  stops = length-set told.stopped u false ∙ are.stops;
  closed = are.closed;
  stopped = λ t lt. read_after told.stopped u t false false (omega (arith, lt, are.stops)) ∙ lowered (u == t) _ _ (are.stopped t lt);
  cancelled = are.cancelled;
  priorities = are.priorities;
  left = are.left;
  in_force = are.in_force;
}
order_told plant deck force orders told (Cancel u) are = record {
  sections = are.sections;
  stops = are.stops;
  ranks = are.ranks;
  cancels = length-set told.cancelled u true ∙ are.cancels;
  closed = are.closed;
  stopped = are.stopped;
  cancelled = λ t lt. read_after told.cancelled u t true false (omega (arith, lt, are.cancels)) ∙ raised (u == t) _ _ (are.cancelled t lt);
  priorities = are.priorities;
  left = are.left;
  in_force = are.in_force;
}
order_told plant deck force orders told (Priority u n) are = record {
  sections = are.sections;
  stops = are.stops;
  cancels = are.cancels;
  ranks = length-set told.priorities u n ∙ are.ranks;
  closed = are.closed;
  stopped = are.stopped;
  cancelled = are.cancelled;
  priorities = λ t lt. read_after told.priorities u t n 0 (omega (arith, lt, are.ranks)) ∙ ap (λ p. cond (u == t) n p) (are.priorities t lt);
  left = are.left;
  in_force = are.in_force;
}
order_told plant deck force orders told (Policy name) are = record {
  sections = are.sections;
  stops = are.stops;
  cancels = are.cancels;
  ranks = are.ranks;
  closed = are.closed;
  stopped = are.stopped;
  cancelled = are.cancelled;
  priorities = are.priorities;
  left = are.left;
  in_force = refl;
}
order_told plant deck force orders told (Retire other) are = record {
  sections = are.sections;
  stops = are.stops;
  cancels = are.cancels;
  ranks = are.ranks;
  closed = are.closed;
  stopped = are.stopped;
  cancelled = are.cancelled;
  priorities = are.priorities;
  left = λ name. left_after told.deck other name (list_any (same_numbers name) deck) (is_retired name orders) (are.left name);
  in_force = are.in_force;
}

-- before any order
pub no_orders : (plant : Plant) (deck : List (List ℕ)) (force : ℕ) → AreOrders plant deck force [] (first_tables plant deck force)
no_orders plant deck force = record {
  sections = length-replicate (length plant.tables.sections) false;
  stops = length-replicate (trains plant) false;
  cancels = length-replicate (trains plant) false;
  ranks = length-map plant.tables.trains (λ (row : TrainRow). row.priority);
  closed = λ x lt. get_or-replicate (length plant.tables.sections) x false false lt;
  stopped = λ t lt. get_or-replicate (trains plant) t false false lt;
  cancelled = λ t lt. get_or-replicate (trains plant) t false false lt;
  priorities = λ t lt. get_or-map (λ (row : TrainRow). row.priority) plant.tables.trains t no_train 0 lt;
  left = λ name. by (list_any (same_numbers name) deck);
  in_force = refl;
}
  where
    by : (b : Bool) → b ≡ (b && true)
    by true = refl
    by false = refl

-- whether an order takes effect
pub effect_is : (dispatch : Dispatch) (plant : Plant) (front : Front) (orders : List Order) (told : Told) (has_moved : Bool) (order : Order) → AreOrders plant dispatch.deck dispatch.force orders told
    → ((t : ℕ) → order ≡ Cancel t → (t < trains plant) × (not has_moved ≡ (length (admissions front t) == 0)))
    → takes_effect_in told has_moved order ≡ takes_effect (input_of dispatch plant) front orders order
effect_is dispatch plant front orders told has_moved (Policy name) are cancels = are.left name
effect_is dispatch plant front orders told has_moved (Retire name) are cancels =
    ap (λ b. b && not (same_numbers name told.force)) (are.left name) ∙ ap (λ f. is_in_deck dispatch.deck name orders && not (same_numbers name f)) are.in_force
effect_is dispatch plant front orders told has_moved (Cancel t) are cancels = let of_train = cancels t refl in
    ap (λ b. not has_moved && not b) (are.cancelled t of_train.0) ∙ ap (λ b. b && not (is_cancelled t orders)) of_train.1
effect_is dispatch plant front orders told has_moved (Close x) are cancels = refl
effect_is dispatch plant front orders told has_moved (Reopen x) are cancels = refl
effect_is dispatch plant front orders told has_moved (Stop t) are cancels = refl
effect_is dispatch plant front orders told has_moved (Go t) are cancels = refl
effect_is dispatch plant front orders told has_moved (Priority t n) are cancels = refl

-- the causes that are told
pub stop_is : (plant : Plant) (deck : List (List ℕ)) (force : ℕ) (orders : List Order) (told : Told) (t : ℕ) → AreOrders plant deck force orders told → t < trains plant
    → stop_in told t ≡ stop_cause t orders
stop_is plant deck force orders told t are lt = ap (λ b. cond b (Some Stopped) None) (are.stopped t lt)

pub closed_is : (plant : Plant) (deck : List (List ℕ)) (force : ℕ) (orders : List Order) (told : Told) (sections : List ℕ) → AreOrders plant deck force orders told
    → list_all (λ x. nat_lt x (length plant.tables.sections)) sections ≡ true → closed_in told sections ≡ closed_cause sections orders
closed_is plant deck force orders told sections are known = ap (option_map Closed) (found sections known)
  where
    found : (xs : List ℕ) → list_all (λ x. nat_lt x (length plant.tables.sections)) xs ≡ true → find (λ x. get_or told.closed x false) xs ≡ find (λ x. is_closed x orders) xs
    found [] all = refl
    found (x ∷ xs) all = let parts = and_parts (nat_lt x (length plant.tables.sections)) (list_all (λ x. nat_lt x (length plant.tables.sections)) xs) all in
        λ i. cond (are.closed x (ltb-true x (length plant.tables.sections) parts.0) i) (Some x) (found xs parts.1 i)

-- where no section is closed none is found
pub none_closed : (told : Told) (sections : List ℕ) → ((x : ℕ) → get_or told.closed x false ≡ false) → closed_in told sections ≡ None
none_closed told sections none = ap (option_map Closed) (found sections)
  where
    found : (xs : List ℕ) → find (λ x. get_or told.closed x false) xs ≡ None
    found [] = refl
    found (x ∷ xs) = ap (λ b. cond b (Some x) (find (λ y. get_or told.closed y false) xs)) (none x) ∙ found xs
