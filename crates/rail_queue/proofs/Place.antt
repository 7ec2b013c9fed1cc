-- How an event is put into a sorted chain.
use Rattle.std.proofs.Common.{◌≡◌, ℕ, ◌+◌, ◌-◌, ◌^◌, ◌<◌, min, true, false, not, List, [], ◌∷◌, ◌++◌, length, get_or, set, Some, None, refl, sym, ap, subst, ◌∙◌, append_assoc, length-append, arith}
use Rattle.std.specs.List.{list_any}
use Rattle.std.proofs.lemmas.Bool.{and_parts, or_parts, not-true}
use Rattle.rail_slots.specs.Slots.{Room, Stands, StandsAt, first_slot}
use Rattle.rail_queue.specs.declared.event.Event.{Event}
use Rattle.rail_queue.specs.Order.{goes_before, is_sorted}
use Rattle.std.specs.List.{AllByRecursion}
use Rattle.rail_queue.specs.Ring.{events_in, IsPut}
use Rattle.rail_queue.specs.Walk.{IsReached, IsLast, starts_before}
use Rattle.rail_queue.proofs.Ordered.{before_all}

pub events_in-append : (xs ys : List (ℕ × Event)) → events_in (xs ++ ys) ≡ events_in xs ++ events_in ys
events_in-append [] ys = refl
events_in-append (x ∷ xs) ys = ap (λ (l : List Event). x.1 ∷ l) (events_in-append xs ys)

pub each-append : (P : Event → Type 0) (xs ys : List Event) → AllByRecursion P xs → AllByRecursion P ys → AllByRecursion P (xs ++ ys)
each-append P [] ys first second = second
each-append P (x ∷ xs) ys first second = (first.0, each-append P xs ys first.1 second)

pub each_front : (P : Event → Type 0) (xs ys : List Event) → AllByRecursion P (xs ++ ys) → AllByRecursion P xs
each_front P [] ys all = tt
each_front P (x ∷ xs) ys all = (all.0, each_front P xs ys all.1)

pub each_back : (P : Event → Type 0) (xs ys : List Event) → AllByRecursion P (xs ++ ys) → AllByRecursion P ys
each_back P [] ys all = all
each_back P (x ∷ xs) ys all = each_back P xs ys all.1

pub sorted_back : (xs ys : List Event) → is_sorted (xs ++ ys) ≡ true → is_sorted ys ≡ true
sorted_back [] ys sorted = sorted
sorted_back (x ∷ xs) ys sorted = sorted_back xs ys (and_parts (not (list_any (λ later. goes_before later x) (xs ++ ys))) (is_sorted (xs ++ ys)) sorted).1

later_all : (e x : Event) (xs : List Event) → goes_before e x ≡ true → list_any (λ later. goes_before later x) xs ≡ false → AllByRecursion (λ y. goes_before e y ≡ true) xs
later_all e x [] first none = tt
later_all e x (y ∷ ys) first none =
    let parts = or_parts (goes_before y x) (list_any (λ later. goes_before later x) ys) none in
    (before_all e y x first parts.0, later_all e x ys first parts.1)

-- what goes before the first of sorted events goes before all
pub later : (e x : Event) (xs : List Event) → goes_before e x ≡ true → is_sorted (x ∷ xs) ≡ true → AllByRecursion (λ y. goes_before e y ≡ true) (x ∷ xs)
later e x xs first sorted =
    let parts = and_parts (not (list_any (λ later. goes_before later x) xs)) (is_sorted xs) sorted in
    (first, later_all e x xs first (not-true (list_any (λ later. goes_before later x) xs) parts.0))

pub stands : {chains : List (List (ℕ × Event))} {slot k : ℕ} {front rest : List (ℕ × Event)} {item : Event} → StandsAt chains slot k front item rest → Stands chains slot
stands {chains} {slot} {k} {front} {rest} {item} at = record { chain = k; before = front; item = item; rest = rest; at = at }

-- a chain that begins with a slot
pub record Begins (chains : List (List (ℕ × Event))) (k first : ℕ) : Type 0 where
  pub item : Event
  pub rest : List (ℕ × Event)
  pub is : get_or chains k [] ≡ (first, item) ∷ rest
  pub at : StandsAt chains first k [] item rest

pub first_in : (list : List (ℕ × Event)) (first : ℕ) → first_slot list ≡ Some first → (item : Event) × (rest : List (ℕ × Event)) × (list ≡ (first, item) ∷ rest)
first_in [] first h = absurd (cc)
first_in (b ∷ rest) first h = let same : b.0 ≡ first = cc in (b.1, rest, ap (λ n. (n, b.1) ∷ rest) same)

pub begins : (chains : List (List (ℕ × Event))) (k first : ℕ) → k < length chains → first_slot (get_or chains k []) ≡ Some first → Begins chains k first
begins chains k first within h =
    let found = first_in (get_or chains k []) first h in
    record { item = found.0; rest = found.1; is = found.2; at = record { within = within; is = found.2 } }

pub nothing : (list : List (ℕ × Event)) → first_slot list ≡ None → list ≡ []
nothing [] h = refl
nothing (b ∷ rest) h = absurd (cc)

-- the slot after one that is reached
pub record Follows (old new after : Room Event) (k : ℕ) (event : Event) (slot n : ℕ) (reached : IsReached old new k event slot) : Type 0 where
  pub item : Event
  pub more : List (ℕ × Event)
  pub is : reached.rest ≡ (n, item) ∷ more
  pub at : StandsAt old.chains n k (reached.front ++ (slot, reached.item) ∷ []) item more
  pub now : StandsAt after.chains n k (reached.front ++ (slot, reached.item) ∷ []) item more

pub still : (old new : Room Event) (k : ℕ) (event : Event) (slot : ℕ) (reached : IsReached old new k event slot) → StandsAt new.chains slot k reached.front reached.item reached.rest
still old new k event slot reached = subst (λ cs. StandsAt cs slot k reached.front reached.item reached.rest) (sym reached.chains) reached.at

pub follows : (old new after : Room Event) (k : ℕ) (event : Event) (slot n : ℕ) (reached : IsReached old new k event slot) → after.chains ≡ new.chains → (StandsAt new.chains slot k reached.front reached.item reached.rest → Some n ≡ first_slot reached.rest) → Follows old new after k event slot n reached
follows old new after k event slot n reached same next =
    let found = first_in reached.rest n (sym (next (still old new k event slot reached))) in
    let at : StandsAt old.chains n k (reached.front ++ (slot, reached.item) ∷ []) found.0 found.1 = record {
      within = reached.at.within;
      is = reached.at.is ∙ ap (λ l. reached.front ++ (slot, reached.item) ∷ l) found.2 ∙ sym (append_assoc reached.front ((slot, reached.item) ∷ []) ((n, found.0) ∷ found.1));
    } in
    record {
      item = found.0;
      more = found.1;
      is = found.2;
      at = at;
      now = subst (λ cs. StandsAt cs n k (reached.front ++ (slot, reached.item) ∷ []) found.0 found.1) (sym (same ∙ reached.chains)) at;
    }

-- the first slot is reached by no step
pub reached_first : (room : Room Event) (k first : ℕ) (event : Event) → k < length room.chains → first_slot (get_or room.chains k []) ≡ Some first → starts_before event (get_or room.chains k []) ≡ false → IsReached room room k event first
reached_first room k first event within h not_before =
    let chain = begins room.chains k first within h in
    record {
      chains = refl;
      spare = refl;
      front = [];
      item = chain.item;
      rest = chain.rest;
      walked = omega arith;
      at = chain.at;
      kept = tt;
      here = ap (starts_before event) (sym chain.is) ∙ not_before;
    }

-- and the next one by one more
pub reached_next : (old new after : Room Event) (k : ℕ) (event : Event) (slot n : ℕ) (next_item : Event) (more : List (ℕ × Event)) → (reached : IsReached old new k event slot) → StandsAt old.chains n k (reached.front ++ (slot, reached.item) ∷ []) next_item more
    → after.chains ≡ new.chains → after.spare ≡ new.spare → after.walked ≡ min (new.walked + 1) (2 ^ 64 - 1) → goes_before event next_item ≡ false → IsReached old after k event n
reached_next old new after k event slot n next_item more reached at chains spare walked not_before =
    record {
      chains = chains ∙ reached.chains;
      spare = spare ∙ reached.spare;
      front = reached.front ++ (slot, reached.item) ∷ [];
      item = next_item;
      rest = more;
      walked = omega (arith, walked, reached.walked, length-append reached.front ((slot, reached.item) ∷ []));
      at = at;
      kept = subst (AllByRecursion (λ x. goes_before event x ≡ false)) (sym (events_in-append reached.front ((slot, reached.item) ∷ []))) (each-append (λ x. goes_before event x ≡ false) (events_in reached.front) (reached.item ∷ []) reached.kept (reached.here, tt));
      here = not_before;
    }

-- where the new event goes before the next one, the slot is the last
pub last_before : (old new after : Room Event) (k : ℕ) (event : Event) (slot n : ℕ) (next_item : Event) (more : List (ℕ × Event)) → (reached : IsReached old new k event slot)
    → is_sorted (events_in (get_or old.chains k [])) ≡ true → reached.rest ≡ (n, next_item) ∷ more → goes_before event next_item ≡ true → after.chains ≡ new.chains → after.spare ≡ new.spare → after.walked ≡ min (new.walked + 1) (2 ^ 64 - 1) → IsLast old after k event slot
last_before old new after k event slot n next_item more reached sorted is before chains spare walked =
    let whole : get_or old.chains k [] ≡ (reached.front ++ (slot, reached.item) ∷ []) ++ (n, next_item) ∷ more =
    reached.at.is ∙ ap (λ l. reached.front ++ (slot, reached.item) ∷ l) is ∙ sym (append_assoc reached.front ((slot, reached.item) ∷ []) ((n, next_item) ∷ more)) in
    let behind : is_sorted (next_item ∷ events_in more) ≡ true = sorted_back (events_in (reached.front ++ (slot, reached.item) ∷ [])) (next_item ∷ events_in more)
    (ap is_sorted (sym (ap events_in whole ∙ events_in-append (reached.front ++ (slot, reached.item) ∷ []) ((n, next_item) ∷ more))) ∙ sorted) in
    record {
      chains = chains ∙ reached.chains;
      spare = spare ∙ reached.spare;
      walked = omega (arith, walked, reached.walked, ap length reached.at.is, length-append reached.front ((slot, reached.item) ∷ reached.rest));
      front = reached.front;
      item = reached.item;
      rest = reached.rest;
      at = reached.at;
      kept = reached.kept;
      here = reached.here;
      later = subst (λ l. AllByRecursion (λ x. goes_before event x ≡ true) (events_in l)) (sym is) (later event next_item (events_in more) before behind);
    }

-- where there is none after it
pub last_of_all : (old new after : Room Event) (k : ℕ) (event : Event) (slot : ℕ) → (reached : IsReached old new k event slot) → reached.rest ≡ [] → after.chains ≡ new.chains → after.spare ≡ new.spare → after.walked ≡ min (new.walked + 1) (2 ^ 64 - 1) → IsLast old after k event slot
last_of_all old new after k event slot reached none chains spare walked =
    record {
      chains = chains ∙ reached.chains;
      spare = spare ∙ reached.spare;
      walked = omega (arith, walked, reached.walked, ap length reached.at.is, length-append reached.front ((slot, reached.item) ∷ reached.rest));
      front = reached.front;
      item = reached.item;
      rest = reached.rest;
      at = reached.at;
      kept = reached.kept;
      here = reached.here;
      later = subst (λ l. AllByRecursion (λ x. goes_before event x ≡ true) (events_in l)) (sym none) tt;
    }

-- what is put
pub put_at_front : (old new : List (List (ℕ × Event))) (k slot : ℕ) (event : Event) → new ≡ set old k ((slot, event) ∷ get_or old k []) → AllByRecursion (λ x. goes_before event x ≡ true) (events_in (get_or old k [])) → IsPut old new k event
put_at_front old new k slot event is all = record { front = []; rest = get_or old k []; slot = slot; was = refl; is = is; kept = tt; later = all }

pub put_behind : (old new : Room Event) (after : List (List (ℕ × Event))) (k : ℕ) (event : Event) (slot s : ℕ) → (last : IsLast old new k event slot) → after ≡ set new.chains k (last.front ++ (slot, last.item) ∷ (s, event) ∷ last.rest) → IsPut old.chains after k event
put_behind old new after k event slot s last is =
    record {
      front = last.front ++ (slot, last.item) ∷ [];
      rest = last.rest;
      slot = s;
      was = last.at.is ∙ sym (append_assoc last.front ((slot, last.item) ∷ []) last.rest);
      is = is ∙ ap (λ cs. set cs k (last.front ++ (slot, last.item) ∷ (s, event) ∷ last.rest)) last.chains ∙ ap (set old.chains k) (sym (append_assoc last.front ((slot, last.item) ∷ []) ((s, event) ∷ last.rest)));
      kept = subst (AllByRecursion (λ x. goes_before event x ≡ false)) (sym (events_in-append last.front ((slot, last.item) ∷ []))) (each-append (λ x. goes_before event x ≡ false) (events_in last.front) (last.item ∷ []) last.kept (last.here, tt));
      later = last.later;
    }
