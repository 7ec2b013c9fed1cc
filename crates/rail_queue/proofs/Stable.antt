-- What a stable sort makes of one event more, and where the first one comes from.
use Rattle.std.proofs.Common.{◌≡◌, Bool, true, false, not, ◌||◌, List, [], ◌∷◌, ◌++◌, refl, sym, ap, ◌∙◌, ⊎_elim}
use Rattle.std.specs.List.{list_any}
use Rattle.std.proofs.lemmas.Bool.{cases_Bool, false≢true, and_parts, and_from, or_from, or_parts, not-true, not_from_false, false_from_ne_true}
use Rattle.rail_queue.specs.declared.event.Event.{Event}
use Rattle.rail_queue.specs.Order.{goes_before, inserted, is_sorted}
use Rattle.std.specs.List.{AllByRecursion}
use Rattle.rail_queue.specs.Order.{placed, in_order}
use Rattle.rail_queue.proofs.Ordered.{asymmetric, before_all}

-- what goes before one that goes before a third goes before it too
trans : (a b c : Event) → goes_before a b ≡ true → goes_before b c ≡ true → goes_before a c ≡ true
trans a b c first second =
    ⊎_elim (λ is. is)
    (λ not_so. absurd (false≢true (sym (asymmetric b a (before_all b a c second not_so)) ∙ first)))
    (cases_Bool (goes_before a c))

-- what goes before no second, which goes before no third, doesn't go before the third
pub not_trans : (a b c : Event) → goes_before a b ≡ false → goes_before b c ≡ false → goes_before a c ≡ false
not_trans a b c first second = false_from_ne_true (goes_before a c) (λ is. false≢true (sym first ∙ before_all a b c is second))

both_before : (a e x : Event) (xs : List Event) → goes_before e x ≡ true → goes_before x a ≡ true → goes_before e a ≡ true → placed a (inserted e (x ∷ xs)) ≡ inserted e (placed a (x ∷ xs))
both_before a e x xs e_x x_a e_a = rw (e_x, x_a) (rw (e_a, e_x) refl)

between : (a e x : Event) (xs : List Event) → goes_before e x ≡ true → goes_before x a ≡ false → placed a (inserted e (x ∷ xs)) ≡ inserted e (placed a (x ∷ xs))
between a e x xs e_x x_not = rw (e_x, x_not) (rw e_x refl)

behind : (a e x : Event) (xs : List Event) → goes_before e x ≡ false → goes_before x a ≡ false → goes_before e a ≡ false → placed a (inserted e (x ∷ xs)) ≡ inserted e (placed a (x ∷ xs))
behind a e x xs e_not x_not a_not = rw (e_not, x_not) (rw (a_not, e_not) refl)

-- an event pushed earlier and one pushed later may be put in in any order
swapped : (a e : Event) (list : List Event) → placed a (inserted e list) ≡ inserted e (placed a list)
swapped a e [] = refl
swapped a e (x ∷ xs) =
    ⊎_elim
    (λ (e_x : goes_before e x ≡ true). ⊎_elim
    (λ (x_a : goes_before x a ≡ true). let e_a : goes_before e a ≡ true = trans e x a e_x x_a in both_before a e x xs e_x x_a e_a)
    (λ (x_not : goes_before x a ≡ false). between a e x xs e_x x_not)
    (cases_Bool (goes_before x a)))
    (λ (e_not : goes_before e x ≡ false). ⊎_elim
    (λ (x_a : goes_before x a ≡ true). rw (e_not, x_a) (rw e_not (ap (λ (l : List Event). x ∷ l) (swapped a e xs))))
    (λ (x_not : goes_before x a ≡ false). let a_not : goes_before e a ≡ false = not_trans e x a e_not x_not in behind a e x xs e_not x_not a_not)
    (cases_Bool (goes_before x a)))
    (cases_Bool (goes_before e x))

-- one of the two comes before the other
abbrev pub Apart : Event → Event → Type 0
Apart e x = (goes_before x e ≡ false) → goes_before e x ≡ true

-- where no other event is equal to it, an event may be put in from either side
either_side : (e : Event) (list : List Event) → AllByRecursion (Apart e) list → placed e list ≡ inserted e list
either_side e [] apart = refl
either_side e (x ∷ xs) apart =
    ⊎_elim
    (λ (is : goes_before x e ≡ true). let back : goes_before e x ≡ false = asymmetric x e is in rw (is, back) (ap (λ (l : List Event). x ∷ l) (either_side e xs apart.1)))
    (λ (not_so : goes_before x e ≡ false). let first : goes_before e x ≡ true = apart.0 not_so in rw (not_so, first) refl)
    (cases_Bool (goes_before x e))

-- a fact of each event is one of each sorted event
each_placed : (P : Event → Type 0) (e : Event) (list : List Event) → P e → AllByRecursion P list → AllByRecursion P (placed e list)
each_placed P e [] mine all = (mine, tt)
each_placed P e (x ∷ xs) mine all =
    ⊎_elim
    (λ is. rw is (all.0, each_placed P e xs mine all.1))
    (λ not_so. rw not_so (mine, all))
    (cases_Bool (goes_before x e))

pub each_in_order : (P : Event → Type 0) (list : List Event) → AllByRecursion P list → AllByRecursion P (in_order list)
each_in_order P [] all = tt
each_in_order P (x ∷ xs) all = each_placed P x (in_order xs) all.0 (each_in_order P xs all.1)

-- one event more
pub in_order_more : (front : List Event) (e : Event) (back : List Event) → AllByRecursion (Apart e) back → in_order (front ++ e ∷ back) ≡ inserted e (in_order (front ++ back))
in_order_more [] e back apart = either_side e (in_order back) (each_in_order (Apart e) back apart)
in_order_more (x ∷ front) e back apart = ap (placed x) (in_order_more front e back apart) ∙ swapped x e (in_order (front ++ back))

-- the first event, taken out
pub first_of_all : (e : Event) (list : List Event) → AllByRecursion (λ x. goes_before x e ≡ false) list → placed e list ≡ e ∷ list
first_of_all e [] none = refl
first_of_all e (x ∷ xs) none = rw none.0 refl

pub in_order_first : (front : List Event) (e : Event) (back : List Event) → AllByRecursion (λ x. goes_before e x ≡ true) front → AllByRecursion (λ x. goes_before x e ≡ false) back → in_order (front ++ e ∷ back) ≡ e ∷ in_order (front ++ back)
in_order_first [] e back before none = first_of_all e (in_order back) (each_in_order (λ x. goes_before x e ≡ false) back none)
in_order_first (x ∷ front) e back before none = ap (placed x) (in_order_first front e back before.1 none) ∙ rw before.0 refl

-- what is sorted is sorted
none_placed : (test : Event → Bool) (e : Event) (list : List Event) → test e ≡ false → list_any test list ≡ false → list_any test (placed e list) ≡ false
none_placed test e [] mine none = or_from (test e) false mine refl
none_placed test e (x ∷ xs) mine none =
    let parts = or_parts (test x) (list_any test xs) none in
    ⊎_elim
    (λ is. rw is (or_from (test x) (list_any test (placed e xs)) parts.0 (none_placed test e xs mine parts.1)))
    (λ not_so. rw not_so (or_from (test e) (test x || list_any test xs) mine none))
    (cases_Bool (goes_before x e))

none_earlier : (e x : Event) (list : List Event) → goes_before x e ≡ false → list_any (λ later. goes_before later x) list ≡ false → list_any (λ later. goes_before later e) list ≡ false
none_earlier e x [] not_so none = refl
none_earlier e x (y ∷ list) not_so none =
    let parts = or_parts (goes_before y x) (list_any (λ later. goes_before later x) list) none in
    or_from (goes_before y e) (list_any (λ later. goes_before later e) list) (not_trans y x e parts.0 not_so) (none_earlier e x list not_so parts.1)

placed_sorted : (e : Event) (list : List Event) → is_sorted list ≡ true → is_sorted (placed e list) ≡ true
placed_sorted e [] sorted = refl
placed_sorted e (x ∷ xs) sorted =
    let parts = and_parts (not (list_any (λ later. goes_before later x) xs)) (is_sorted xs) sorted in
    let none : list_any (λ later. goes_before later x) xs ≡ false = not-true (list_any (λ later. goes_before later x) xs) parts.0 in
    ⊎_elim
    (λ is. rw is (and_from (not (list_any (λ later. goes_before later x) (placed e xs))) (is_sorted (placed e xs))
    (not_from_false (list_any (λ later. goes_before later x) (placed e xs)) (none_placed (λ later. goes_before later x) e xs (asymmetric x e is) none))
    (placed_sorted e xs parts.1)))
    (λ not_so. rw not_so (and_from (not (list_any (λ later. goes_before later e) (x ∷ xs))) (is_sorted (x ∷ xs))
    (not_from_false (list_any (λ later. goes_before later e) (x ∷ xs))
    (or_from (goes_before x e) (list_any (λ later. goes_before later e) xs) not_so (none_earlier e x xs not_so none)))
    sorted))
    (cases_Bool (goes_before x e))

pub in_order_sorted : (list : List Event) → is_sorted (in_order list) ≡ true
in_order_sorted [] = refl
in_order_sorted (x ∷ xs) = placed_sorted x (in_order xs) (in_order_sorted xs)
