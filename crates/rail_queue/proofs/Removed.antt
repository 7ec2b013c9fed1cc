-- Chains without the events that don't pass a test, and what is left of a queue then.
use Rattle.std.proofs.Common.{◌≡◌, ℕ, zero, suc, ◌+◌, ◌<◌, ◌≤◌, ◌≢◌, Bool, true, false, not, cond, List, [], ◌∷◌, ◌++◌, length, get_or, set, Option, Some, None, IfSome, MatchOption, refl, sym, ap, subst, ◌∙◌, ⊎_elim, append_assoc, length-append, arith}
use Rattle.std.specs.List.{filter, list_any, AllByRecursion}
use Rattle.std.proofs.lemmas.Bool.{cases_Bool, cases_eq, cases_lt, cond-true, cond-false, and_parts, not-true}
use Rattle.std.proofs.lemmas.List.{get_or-set_same, get_or-set_other, length-set, set-get_or, set-set}
use Rattle.std.proofs.lemmas.List.Elements.{filter-append}
use Rattle.rail_slots.specs.Slots.{Room, StandsAt, first_slot, behind_first, left_from}
use Rattle.rail_queue.specs.declared.event.Event.{Event}
use Rattle.rail_queue.specs.Order.{goes_before, is_sorted, placed, in_order}
use Rattle.rail_queue.specs.Ring.{events_in, near_events, all_events, LiesIn, IsRing, ring}
use Rattle.rail_queue.specs.Removal.{passing, first_passes, in_use, IsCleared, IsSwept, IsThinned, AreThinned}
use Rattle.rail_queue.proofs.Filtered.{sorted_left}
use Rattle.rail_queue.proofs.Stable.{first_of_all, in_order_sorted, not_trans}
use Rattle.rail_queue.proofs.Place.{begins, first_in}
use Rattle.rail_queue.proofs.Ringed.{each_map, ring_is}
use Rattle.rail_queue.proofs.Chosen.{each_none}

pub passing_in : (test : Event → Bool) (x : ℕ × Event) (xs : List (ℕ × Event)) → test x.1 ≡ true → passing test (x ∷ xs) ≡ x ∷ passing test xs
passing_in test x xs is = cond-true (test x.1) (x ∷ passing test xs) (passing test xs) is

pub passing_out : (test : Event → Bool) (x : ℕ × Event) (xs : List (ℕ × Event)) → test x.1 ≡ false → passing test (x ∷ xs) ≡ passing test xs
passing_out test x xs out = cond-false (test x.1) (x ∷ passing test xs) (passing test xs) out

-- an item that was given was taken out
pub given : (o : Option Event) (x : Event) (A B : Type 0) → o ≡ Some x → MatchOption o A (λ _. B) → B
given None x A B is more = absurd (cc)
given (Some y) x A B is more = more

-- the first events of a chain
pub cleared_none : (test : Event → Bool) (room : Room Event) (k : ℕ) → IsCleared test room room k
cleared_none test room k = record { left = get_or room.chains k []; chains = sym (set-get_or room.chains k []); same = refl; room = refl }

pub cleared_long : (test : Event → Bool) (old new : Room Event) (k : ℕ) → IsCleared test old new k → length new.chains ≡ length old.chains
cleared_long test old new k so_far = ap length so_far.chains ∙ length-set old.chains k so_far.left

cleared_here : (test : Event → Bool) (old new : Room Event) (k : ℕ) → k < length old.chains → (so_far : IsCleared test old new k) → get_or new.chains k [] ≡ so_far.left
cleared_here test old new k within so_far = ap (λ cs. get_or cs k []) so_far.chains ∙ get_or-set_same old.chains k so_far.left [] within

pub cleared_more : (test : Event → Bool) (old new after : Room Event) (k first : ℕ) (item : Event) (rest : List (ℕ × Event)) → k < length old.chains → IsCleared test old new k → get_or new.chains k [] ≡ (first, item) ∷ rest → test item ≡ false
    → after.chains ≡ set new.chains k (behind_first (get_or new.chains k [])) → after.spare ≡ new.spare + 1 → IsCleared test old after k
cleared_more test old new after k first item rest within so_far is out chains spare =
    let left : so_far.left ≡ (first, item) ∷ rest = sym (cleared_here test old new k within so_far) ∙ is in
    record {
      left = rest;
      chains = chains ∙ ap (λ l. set new.chains k (behind_first l)) is ∙ ap (λ cs. set cs k rest) so_far.chains ∙ set-set old.chains k so_far.left rest;
      same = sym (passing_out test (first, item) rest out) ∙ ap (passing test) (sym left) ∙ so_far.same;
      room = omega (arith, ap length left, spare, so_far.room);
    }

-- the events behind the first one
pub swept_first : (test : Event → Bool) (room : Room Event) (k first : ℕ) → k < length room.chains → first_slot (get_or room.chains k []) ≡ Some first → first_passes test (get_or room.chains k []) ≡ true → IsSwept test room room k first
swept_first test room k first within h is =
    let chain = begins room.chains k first within h in
    record {
      front = [];
      item = chain.item;
      rest = chain.rest;
      within = within;
      chains = sym (set-get_or room.chains k []) ∙ ap (set room.chains k) chain.is;
      same = ap (passing test) chain.is ∙ passing_in test (first, chain.item) chain.rest (ap (first_passes test) (sym chain.is) ∙ is);
      room = ap (λ l. length l + room.spare) (sym chain.is);
    }

pub swept_at : (test : Event → Bool) (old new : Room Event) (k slot : ℕ) (swept : IsSwept test old new k slot) → StandsAt new.chains slot k swept.front swept.item swept.rest
swept_at test old new k slot swept =
    let list : List (ℕ × Event) = swept.front ++ (slot, swept.item) ∷ swept.rest in
    record {
      within = omega (arith, swept.within, ap length swept.chains, length-set old.chains k list);
      is = ap (λ cs. get_or cs k []) swept.chains ∙ get_or-set_same old.chains k list [] swept.within;
    }

-- the slot after it
pub record SweptNext (test : Event → Bool) (old new after : Room Event) (k slot n : ℕ) (swept : IsSwept test old new k slot) : Type 0 where
  pub item : Event
  pub more : List (ℕ × Event)
  pub is : swept.rest ≡ (n, item) ∷ more
  pub here : StandsAt after.chains slot k swept.front swept.item swept.rest
  pub at : StandsAt after.chains n k (swept.front ++ (slot, swept.item) ∷ []) item more

pub swept_next : (test : Event → Bool) (old new after : Room Event) (k slot n : ℕ) (swept : IsSwept test old new k slot) → after.chains ≡ new.chains → (StandsAt new.chains slot k swept.front swept.item swept.rest → Some n ≡ first_slot swept.rest) → SweptNext test old new after k slot n swept
swept_next test old new after k slot n swept same next =
    let at = swept_at test old new k slot swept in
    let found = first_in swept.rest n (sym (next at)) in
    let here : StandsAt after.chains slot k swept.front swept.item swept.rest = subst (λ cs. StandsAt cs slot k swept.front swept.item swept.rest) (sym same) at in
    record {
      item = found.0;
      more = found.1;
      is = found.2;
      here = here;
      at = record {
        within = here.within;
        is = here.is ∙ ap (λ l. swept.front ++ (slot, swept.item) ∷ l) found.2 ∙ sym (append_assoc swept.front ((slot, swept.item) ∷ []) ((n, found.0) ∷ found.1));
      };
    }

pub fewer_left : (new after taken : List (List (ℕ × Event))) (slot : ℕ) (o : Option Event) (x : Event) → after ≡ new → o ≡ Some x → IfSome o (λ _. left_from taken slot + 1 ≡ left_from after slot) → left_from taken slot < left_from new slot
fewer_left new after taken slot None x same is fewer = absurd (cc)
fewer_left new after taken slot (Some y) x same is fewer = omega (arith, fewer, ap (λ cs. left_from cs slot) same)

pub swept_keep : (test : Event → Bool) (old new after : Room Event) (k slot n : ℕ) (item : Event) (more : List (ℕ × Event)) (swept : IsSwept test old new k slot) → swept.rest ≡ (n, item) ∷ more → test item ≡ true → after.chains ≡ new.chains → after.spare ≡ new.spare → IsSwept test old after k n
swept_keep test old new after k slot n item more swept is passes chains spare =
    let front : List (ℕ × Event) = swept.front ++ (slot, swept.item) ∷ [] in
    let shape : swept.front ++ (slot, swept.item) ∷ swept.rest ≡ front ++ (n, item) ∷ more =
    ap (λ l. swept.front ++ (slot, swept.item) ∷ l) is ∙ sym (append_assoc swept.front ((slot, swept.item) ∷ []) ((n, item) ∷ more)) in
    record {
      front = front;
      item = item;
      rest = more;
      within = swept.within;
      chains = chains ∙ swept.chains ∙ ap (set old.chains k) shape;
      same = swept.same ∙ ap (λ l. swept.front ++ (slot, swept.item) ∷ l) (ap (passing test) is ∙ passing_in test (n, item) more passes)
          ∙ sym (append_assoc swept.front ((slot, swept.item) ∷ []) ((n, item) ∷ passing test more));
      room = omega (arith, ap length shape, spare, swept.room);
    }

pub swept_take : (test : Event → Bool) (old new after : Room Event) (k slot n : ℕ) (item : Event) (more : List (ℕ × Event)) (swept : IsSwept test old new k slot) → swept.rest ≡ (n, item) ∷ more → test item ≡ false
    → after.chains ≡ set new.chains k (swept.front ++ (slot, swept.item) ∷ behind_first swept.rest) → after.spare ≡ new.spare + 1 → IsSwept test old after k slot
swept_take test old new after k slot n item more swept is out chains spare =
    let list : List (ℕ × Event) = swept.front ++ (slot, swept.item) ∷ more in
    record {
      front = swept.front;
      item = swept.item;
      rest = more;
      within = swept.within;
      chains = chains ∙ ap (λ l. set new.chains k (swept.front ++ (slot, swept.item) ∷ behind_first l)) is ∙ ap (λ cs. set cs k list) swept.chains
          ∙ set-set old.chains k (swept.front ++ (slot, swept.item) ∷ swept.rest) list;
      same = swept.same ∙ ap (λ l. swept.front ++ (slot, swept.item) ∷ l) (ap (passing test) is ∙ passing_out test (n, item) more out);
      room = omega (arith, ap length is, spare, swept.room, length-append swept.front ((slot, swept.item) ∷ swept.rest), length-append swept.front ((slot, swept.item) ∷ more));
    }

pub swept_end : (test : Event → Bool) (old new after : Room Event) (k slot : ℕ) (swept : IsSwept test old new k slot) → swept.rest ≡ [] → after.chains ≡ new.chains → after.spare ≡ new.spare → IsThinned test old after k
swept_end test old new after k slot swept none chains spare =
    let list : List (ℕ × Event) = swept.front ++ (slot, swept.item) ∷ swept.rest in
    let same : list ≡ passing test (get_or old.chains k []) = ap (λ l. swept.front ++ (slot, swept.item) ∷ l) (none ∙ sym (ap (passing test) none)) ∙ sym swept.same in
    record {
      chains = chains ∙ swept.chains ∙ ap (set old.chains k) same;
      room = omega (arith, ap length same, spare, swept.room);
    }

-- a whole chain
pub thinned_both : (test : Event → Bool) (old mid new : Room Event) (k : ℕ) → k < length old.chains → IsCleared test old mid k → IsThinned test mid new k → IsThinned test old new k
thinned_both test old mid new k within cleared thinned =
    let here : get_or mid.chains k [] ≡ cleared.left = cleared_here test old mid k within cleared in
    let same : passing test (get_or mid.chains k []) ≡ passing test (get_or old.chains k []) = ap (passing test) here ∙ cleared.same in
    let list : List (ℕ × Event) = passing test (get_or old.chains k []) in
    record {
      chains = thinned.chains ∙ ap (set mid.chains k) same ∙ ap (λ cs. set cs k list) cleared.chains ∙ set-set old.chains k cleared.left list;
      room = omega (arith, thinned.room, ap length same, ap length here, cleared.room);
    }

-- all chains
pub in_use_set : (chains : List (List (ℕ × Event))) (k : ℕ) (new : List (ℕ × Event)) → k < length chains → in_use (set chains k new) + length (get_or chains k []) ≡ in_use chains + length new
in_use_set [] k new within = absurd (omega (arith, within))
in_use_set (x ∷ xs) zero new within = omega arith
in_use_set (x ∷ xs) (suc k) new within = omega (arith, in_use_set xs k new (omega (arith, within)))

pub all_thinned_more : (test : Event → Bool) (old new after : Room Event) (k : ℕ) → k < length old.chains → AreThinned test old new k → IsThinned test new after k → AreThinned test old after (k + 1)
all_thinned_more test old new after k within so_far thinned =
    let inside : k < length new.chains = omega (arith, within, so_far.long) in
    let list : List (ℕ × Event) = passing test (get_or new.chains k []) in
    let here : get_or after.chains k [] ≡ list = ap (λ cs. get_or cs k []) thinned.chains ∙ get_or-set_same new.chains k list [] inside in
    let there : (c : ℕ) → c ≢ k → get_or after.chains c [] ≡ get_or new.chains c [] = λ c ne. ap (λ cs. get_or cs c []) thinned.chains ∙ get_or-set_other new.chains k c list [] ne in
    record {
      long = ap length thinned.chains ∙ length-set new.chains k list ∙ so_far.long;
      thin = λ c low. ⊎_elim
          (λ (e : c ≡ k). ap (λ n. get_or after.chains n []) e ∙ here ∙ ap (passing test) (so_far.same k (omega arith)) ∙ ap (λ n. passing test (get_or old.chains n [])) (sym e))
          (λ (ne : c ≢ k). there c ne ∙ so_far.thin c (let less : c < k = ⊎_elim (λ l. l) (λ most. absurd (ne (omega (arith, low, most)))) (cases_lt c k) in less))
          (cases_eq c k);
      same = λ c high. there c (λ e. omega (arith, high, e)) ∙ so_far.same c (omega (arith, high));
      room = omega (arith, ap in_use thinned.chains, in_use_set new.chains k list inside, thinned.room, so_far.room);
    }

-- what is left of the events
events_left : (test : Event → Bool) (list : List (ℕ × Event)) → events_in (passing test list) ≡ filter test (events_in list)
events_left test [] = refl
events_left test (x ∷ xs) =
    ⊎_elim
    (λ is. ap events_in (passing_in test x xs is) ∙ ap (λ l. x.1 ∷ l) (events_left test xs) ∙ sym (cond-true (test x.1) (x.1 ∷ filter test (events_in xs)) (filter test (events_in xs)) is))
    (λ out. ap events_in (passing_out test x xs out) ∙ events_left test xs ∙ sym (cond-false (test x.1) (x.1 ∷ filter test (events_in xs)) (filter test (events_in xs)) out))
    (cases_Bool (test x.1))

near_left : (test : Event → Bool) (n : ℕ) (old new : List (List (ℕ × Event))) → length new ≡ length old → ((c : ℕ) → c < n → get_or new c [] ≡ passing test (get_or old c [])) → near_events n new ≡ filter test (near_events n old)
near_left test zero old new long thin = refl
near_left test (suc n) [] [] long thin = refl
near_left test (suc n) [] (y ∷ new) long thin = absurd (omega (arith, long))
near_left test (suc n) (x ∷ old) [] long thin = absurd (omega (arith, long))
near_left test (suc n) (x ∷ old) (y ∷ new) long thin =
    ap (λ l. events_in l ++ near_events n new) (thin zero (omega arith)) ∙ ap (λ l. l ++ near_events n new) (events_left test x)
    ∙ ap (λ l. filter test (events_in x) ++ l) (near_left test n old new (omega (arith, long)) (λ c low. thin (suc c) (omega (arith, low))))
    ∙ sym (filter-append test (events_in x) (near_events n old))

all_left : (test : Event → Bool) (n : ℕ) (old new : List (List (ℕ × Event))) → length new ≡ length old → ((c : ℕ) → c < suc n → get_or new c [] ≡ passing test (get_or old c [])) → all_events n new ≡ filter test (all_events n old)
all_left test n old new long thin =
    ap (λ l. events_in l ++ near_events n new) (thin n (omega arith)) ∙ ap (λ l. l ++ near_events n new) (events_left test (get_or old n []))
    ∙ ap (λ l. filter test (events_in (get_or old n [])) ++ l) (near_left test n old new long (λ c low. thin c (omega (arith, low))))
    ∙ sym (filter-append test (events_in (get_or old n [])) (near_events n old))

each_left : (test : Event → Bool) (P : Event → Type 0) (list : List Event) → AllByRecursion P list → AllByRecursion P (filter test list)
each_left test P [] all = tt
each_left test P (x ∷ xs) all =
    ⊎_elim
    (λ is. subst (AllByRecursion P) (sym (cond-true (test x) (x ∷ filter test xs) (filter test xs) is)) (all.0, each_left test P xs all.1))
    (λ out. subst (AllByRecursion P) (sym (cond-false (test x) (x ∷ filter test xs) (filter test xs) out)) (each_left test P xs all.1))
    (cases_Bool (test x))

-- an event that doesn't pass the test leaves nothing behind
placed_out : (test : Event → Bool) (e : Event) (list : List Event) → test e ≡ false → filter test (placed e list) ≡ filter test list
placed_out test e [] out = cond-false (test e) (e ∷ []) [] out
placed_out test e (x ∷ xs) out =
    ⊎_elim
    (λ is. rw is (ap (λ l. cond (test x) (x ∷ l) l) (placed_out test e xs out)))
    (λ not_so. rw not_so (cond-false (test e) (e ∷ filter test (x ∷ xs)) (filter test (x ∷ xs)) out))
    (cases_Bool (goes_before x e))

-- and one that passes it finds the same place among what passes
placed_in : (test : Event → Bool) (e : Event) (list : List Event) → is_sorted list ≡ true → test e ≡ true → filter test (placed e list) ≡ placed e (filter test list)
placed_in test e [] sorted passes = cond-true (test e) (e ∷ []) [] passes
placed_in test e (x ∷ xs) sorted passes =
    let parts = and_parts (not (list_any (λ later. goes_before later x) xs)) (is_sorted xs) sorted in
    let none : AllByRecursion (λ y. goes_before y x ≡ false) xs = each_none x xs (not-true (list_any (λ later. goes_before later x) xs) parts.0) in
    ⊎_elim
    (λ (is : goes_before x e ≡ true). ap (filter test) (cond-true (goes_before x e) (x ∷ placed e xs) (e ∷ x ∷ xs) is) ∙ ap (λ l. cond (test x) (x ∷ l) l) (placed_in test e xs parts.1 passes)
    ∙ ⊎_elim
    (λ (t : test x ≡ true). cond-true (test x) (x ∷ placed e (filter test xs)) (placed e (filter test xs)) t ∙ sym (cond-true (goes_before x e) (x ∷ placed e (filter test xs)) (e ∷ x ∷ filter test xs) is)
    ∙ ap (placed e) (sym (cond-true (test x) (x ∷ filter test xs) (filter test xs) t)))
    (λ (f : test x ≡ false). cond-false (test x) (x ∷ placed e (filter test xs)) (placed e (filter test xs)) f ∙ ap (placed e) (sym (cond-false (test x) (x ∷ filter test xs) (filter test xs) f)))
    (cases_Bool (test x)))
    (λ (out : goes_before x e ≡ false). ap (filter test) (cond-false (goes_before x e) (x ∷ placed e xs) (e ∷ x ∷ xs) out) ∙ cond-true (test e) (e ∷ filter test (x ∷ xs)) (filter test (x ∷ xs)) passes
    ∙ sym (first_of_all e (filter test (x ∷ xs)) (each_left test (λ y. goes_before y e ≡ false) (x ∷ xs) (out, each_map (λ y. goes_before y x ≡ false) (λ y. goes_before y e ≡ false) xs (λ y h. not_trans y x e h out) none))))
    (cases_Bool (goes_before x e))

order_left : (test : Event → Bool) (list : List Event) → in_order (filter test list) ≡ filter test (in_order list)
order_left test [] = refl
order_left test (x ∷ xs) =
    ⊎_elim
    (λ is. ap in_order (cond-true (test x) (x ∷ filter test xs) (filter test xs) is) ∙ ap (placed x) (order_left test xs) ∙ sym (placed_in test x (in_order xs) (in_order_sorted xs) is))
    (λ out. ap in_order (cond-false (test x) (x ∷ filter test xs) (filter test xs) out) ∙ order_left test xs ∙ sym (placed_out test x (in_order xs) out))
    (cases_Bool (test x))

-- how many events there are
placed_long : (e : Event) (list : List Event) → length (placed e list) ≡ suc (length list)
placed_long e [] = refl
placed_long e (x ∷ xs) =
    ⊎_elim
    (λ (is : goes_before x e ≡ true). rw is (omega (arith, placed_long e xs)))
    (λ (out : goes_before x e ≡ false). rw out refl)
    (cases_Bool (goes_before x e))

order_long : (list : List Event) → length (in_order list) ≡ length list
order_long [] = refl
order_long (x ∷ xs) = placed_long x (in_order xs) ∙ ap suc (order_long xs)

chain_long : (list : List (ℕ × Event)) → length (events_in list) ≡ length list
chain_long [] = refl
chain_long (x ∷ xs) = omega (arith, chain_long xs)

all_long : (n : ℕ) (chains : List (List (ℕ × Event))) → length chains ≡ suc n → length (all_events n chains) ≡ in_use chains
all_long n [] long = absurd (omega (arith, long))
all_long zero (x ∷ []) long = omega (arith, length-append (events_in x) [], chain_long x)
all_long zero (x ∷ y ∷ xs) long = absurd (omega (arith, long))
all_long (suc n) (x ∷ xs) long =
    let far : List Event = events_in (get_or xs n []) in
    omega (arith, all_long n xs (omega (arith, long)), length-append far (near_events n xs), length-append far (events_in x ++ near_events n xs), length-append (events_in x) (near_events n xs), chain_long x)

-- what is left is a ring, and its events are those that pass the test
pub record Left (test : Event → Bool) (base : ℕ) (old new : Room Event) : Type 0 where
  pub ring_is : IsRing ring base new.chains
  pub events : in_order (all_events ring new.chains) ≡ filter test (in_order (all_events ring old.chains))
  pub room : length (in_order (all_events ring new.chains)) + new.spare ≡ length (in_order (all_events ring old.chains)) + old.spare

pub left_of : (test : Event → Bool) (base : ℕ) (old new : Room Event) → IsRing ring base old.chains → AreThinned test old new 1025 → Left test base old new
left_of test base old new whole thinned =
    let thin : (c : ℕ) → c < suc ring → get_or new.chains c [] ≡ passing test (get_or old.chains c []) = λ c low. thinned.thin c (omega (arith, low, ring_is)) in
    let events : (c : ℕ) → c < suc ring → events_in (get_or new.chains c []) ≡ filter test (events_in (get_or old.chains c [])) = λ c low. ap events_in (thin c low) ∙ events_left test (get_or old.chains c []) in
    let long : length new.chains ≡ suc ring = thinned.long ∙ whole.long in
    record {
      ring_is = record {
        long = long;
        sorted = λ c. ⊎_elim
            (λ (low : c < suc ring). ap is_sorted (events c low) ∙ sorted_left test (events_in (get_or old.chains c [])) (whole.sorted c))
            (λ (high : suc ring ≤ c). ap (λ l. is_sorted (events_in l)) (thinned.same c (omega (arith, high, ring_is))) ∙ whole.sorted c)
            (cases_lt c (suc ring));
        lies = λ c low. subst (AllByRecursion (LiesIn ring base c)) (sym (events c (omega (arith, low)))) (each_left test (LiesIn ring base c) (events_in (get_or old.chains c [])) (whole.lies c low));
      };
      events = ap in_order (all_left test ring old.chains new.chains thinned.long thin) ∙ order_left test (all_events ring old.chains);
      room = omega (arith, thinned.room, order_long (all_events ring new.chains), order_long (all_events ring old.chains), all_long ring new.chains long, all_long ring old.chains whole.long);
    }
