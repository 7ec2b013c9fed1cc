-- That the event which is chosen comes first of all, and what is left without it.
use Rattle.std.proofs.Common.{◌≡◌, ℕ, zero, suc, ◌+◌, ◌-◌, ◌%◌, ◌<◌, ◌≤◌, ◌≢◌, max, true, false, not, List, [], ◌∷◌, ◌++◌, length, get_or, set, ltb, refl, sym, ap, subst, ◌∙◌, ⊎_elim, is_some, Some, None, append_assoc, arith}
use Rattle.std.specs.List.{list_any}
use Rattle.std.proofs.lemmas.Bool.{cases_eq, cases_lt, false≢true, and_parts, or_from, or_left, or_parts, not-true, lt-ltb}
use Rattle.std.proofs.lemmas.List.{get_or-set_same, get_or-set_other, get_or_past, length-set}
use Rattle.rail_slots.specs.Slots.{first_slot, first_item, behind_first}
use Rattle.rail_queue.specs.declared.event.Event.{Event}
use Rattle.rail_queue.specs.Order.{goes_before, is_sorted}
use Rattle.std.specs.List.{AllByRecursion}
use Rattle.rail_queue.specs.Order.{in_order}
use Rattle.rail_queue.specs.Ring.{bucket, events_in, near_events, all_events, LiesIn, IsRing, ring}
use Rattle.rail_queue.specs.Choice.{turn, AreNearEmpty, IsNearest, IsChosen, IsFirstChain}
use Rattle.rail_queue.proofs.Ordered.{asymmetric, irreflexive}
use Rattle.rail_queue.proofs.Stable.{Apart, in_order_first, not_trans}
use Rattle.rail_queue.proofs.Place.{each-append, later}
use Rattle.rail_queue.proofs.Ringed.{near_at, near_kept, each_near, each_map, others_apart, ring_is}

-- where an event of the ring lies, counted from its beginning
step_of : (base b c : ℕ) → base ≤ b → b < base + 1024 → b % 1024 ≡ c → turn base (b - base) ≡ c
step_of base b c low high at = omega arith

-- an event of an earlier bucket goes before
sooner : (e x : Event) → bucket e < bucket x → goes_before e x ≡ true
sooner e x less = let at : e.at < x.at = omega (arith, less) in or_left (ltb e.at x.at) _ (lt-ltb e.at x.at at)

nearest_step : (base b step c : ℕ) → base ≤ b → b < base + 1024 → b % 1024 ≡ c → step < 1024 → c ≡ turn base step → b ≡ base + step
nearest_step base b step c low high at small is = omega arith

some_none : (y : ℕ × Event) (ys : List (ℕ × Event)) → y ∷ ys ≡ [] → ⊥
some_none y ys h = cc

beyond : (base a b step : ℕ) → a ≡ base + step → base ≤ b → step ≤ b - base → ((b - base ≡ step) → ⊥) → a < b
beyond base a b step is low most differ = ⊎_elim (λ less. less) (λ high. absurd (differ (omega (arith, is, low, most, high)))) (cases_lt a b)

-- what the nearest chain says of a chain of the ring
in_chain : (P : Event → Type 0) (chains : List (List (ℕ × Event))) (base k : ℕ) (list : List (ℕ × Event)) → get_or chains k [] ≡ list → AllByRecursion (LiesIn ring base k) (events_in list) → ((x : Event) → LiesIn ring base k x → (get_or chains k [] ≡ [] → ⊥) → P x) → AllByRecursion P (events_in list)
in_chain P chains base k [] is lies f = tt
in_chain P chains base k (y ∷ ys) is lies f = each_map (LiesIn ring base k) P (events_in (y ∷ ys)) (λ x here. f x here (λ none. some_none y ys (sym is ∙ none))) lies

place_of : (base k : ℕ) (x : Event) → LiesIn ring base k x → (turn base (bucket x - base) ≡ k) × (bucket x - base < 1024)
place_of base k x here =
    let high : bucket x < base + 1024 = omega (arith, here.before, ring_is) in
    (step_of base (bucket x) k here.from high (ap (λ n. bucket x % n) (sym ring_is) ∙ here.at), omega (arith, here.from, high))

-- the first event of the nearest chain lies there
pub first_lies : (base : ℕ) (chains : List (List (ℕ × Event))) (c : ℕ) (near : IsNearest chains base c) → IsRing ring base chains → (c < ring) × LiesIn ring base c near.first
first_lies base chains c near whole =
    let low : c < ring = omega (arith, near.at, ring_is) in
    (low, (subst (λ l. AllByRecursion (LiesIn ring base c) (events_in l)) near.is (whole.lies c low)).0)

near_later : (base : ℕ) (chains : List (List (ℕ × Event))) (c : ℕ) (near : IsNearest chains base c) → IsRing ring base chains → (k : ℕ) → k < ring → k ≢ c → AllByRecursion (λ x. goes_before near.first x ≡ true) (events_in (get_or chains k []))
near_later base chains c near whole k low ne =
    let mine = (first_lies base chains c near whole).1 in
    let own : bucket near.first ≡ base + near.step = nearest_step base (bucket near.first) near.step c mine.from (omega (arith, mine.before, ring_is)) (ap (λ n. bucket near.first % n) (sym ring_is) ∙ mine.at) near.low near.at in
    in_chain (λ x. goes_before near.first x ≡ true) chains base k (get_or chains k []) refl (whole.lies k low) (λ x here some.
    let at = place_of base k x here in
    sooner near.first x (⊎_elim
    (λ (less : bucket x - base < near.step). absurd (some (ap (λ n. get_or chains n []) (sym at.0) ∙ near.before (bucket x - base) less)))
    (λ (most : near.step ≤ bucket x - base).
    let differ : (bucket x - base ≡ near.step) → ⊥ = λ e. ne (sym at.0 ∙ ap (turn base) e ∙ sym near.at) in
    beyond base (bucket near.first) (bucket x) near.step own here.from most differ)
    (cases_lt (bucket x - base) near.step)))

pub each_none : (e : Event) (list : List Event) → list_any (λ later. goes_before later e) list ≡ false → AllByRecursion (λ x. goes_before x e ≡ false) list
each_none e [] none = tt
each_none e (x ∷ xs) none =
    let parts = or_parts (goes_before x e) (list_any (λ later. goes_before later e) xs) none in
    (parts.0, each_none e xs parts.1)

-- no event behind the first of sorted ones goes before it
none_back : (e : Event) (list : List Event) → is_sorted (e ∷ list) ≡ true → AllByRecursion (λ x. goes_before x e ≡ false) list
none_back e list sorted =
    let parts = and_parts (not (list_any (λ later. goes_before later e) list)) (is_sorted list) sorted in
    each_none e list (not-true (list_any (λ later. goes_before later e) list) parts.0)

-- a fact of each event of the ring and of each far one
each_chain : (P : Event → Type 0) (base : ℕ) (chains : List (List (ℕ × Event))) → IsRing ring base chains → ((k : ℕ) → k < ring → AllByRecursion P (events_in (get_or chains k []))) → AllByRecursion P (events_in (get_or chains ring [])) → (k : ℕ) → AllByRecursion P (events_in (get_or chains k []))
each_chain P base chains whole near far k =
    ⊎_elim
    (near k)
    (λ (most : ring ≤ k). ⊎_elim
    (λ (e : k ≡ ring). subst (λ n. AllByRecursion P (events_in (get_or chains n []))) (sym e) far)
    (λ (ne : k ≢ ring). subst (λ l. AllByRecursion P (events_in l)) (sym (get_or_past chains k [] (omega (arith, whole.long, most, ne)))) tt)
    (cases_eq k ring))
    (cases_lt k ring)

-- the nearest chain is chosen
pub chosen_near : (base : ℕ) (chains : List (List (ℕ × Event))) (c : ℕ) (near : IsNearest chains base c) → IsRing ring base chains → AllByRecursion (λ x. goes_before near.first x ≡ true) (events_in (get_or chains ring [])) → IsChosen chains c
chosen_near base chains c near whole far_later =
    let low : c < ring = (first_lies base chains c near whole).0 in
    let sorted : is_sorted (near.first ∷ events_in near.rest) ≡ true = ap (λ l. is_sorted (events_in l)) (sym near.is) ∙ whole.sorted c in
    let mine : AllByRecursion (λ x. goes_before x near.first ≡ false) (events_in (get_or chains c [])) =
    subst (λ l. AllByRecursion (λ x. goes_before x near.first ≡ false) (events_in l)) (sym near.is) (irreflexive near.first, none_back near.first (events_in near.rest) sorted) in
    let back : (list : List Event) → AllByRecursion (λ x. goes_before near.first x ≡ true) list → AllByRecursion (λ x. goes_before x near.first ≡ false) list =
    λ list all. each_map (λ x. goes_before near.first x ≡ true) (λ x. goes_before x near.first ≡ false) list (λ x is. asymmetric near.first x is) all in
    record {
      within = omega (arith, low, whole.long);
      slot = near.slot;
      first = near.first;
      rest = near.rest;
      is = near.is;
      none = each_chain (λ x. goes_before x near.first ≡ false) base chains whole
          (λ k h. ⊎_elim
          (λ (e : k ≡ c). subst (λ n. AllByRecursion (λ x. goes_before x near.first ≡ false) (events_in (get_or chains n []))) (sym e) mine)
          (λ (ne : k ≢ c). back (events_in (get_or chains k [])) (near_later base chains c near whole k h ne))
          (cases_eq k c))
          (back (events_in (get_or chains ring [])) far_later);
      far = λ _. far_later;
    }

-- the far chain is chosen
pub chosen_far : (base : ℕ) (chains : List (List (ℕ × Event))) (slot : ℕ) (first : Event) (rest : List (ℕ × Event)) → get_or chains ring [] ≡ (slot, first) ∷ rest → IsRing ring base chains → ((k : ℕ) → k < ring → AllByRecursion (λ x. goes_before x first ≡ false) (events_in (get_or chains k []))) → IsChosen chains ring
chosen_far base chains slot first rest is whole none =
    let sorted : is_sorted (first ∷ events_in rest) ≡ true = ap (λ l. is_sorted (events_in l)) (sym is) ∙ whole.sorted ring in
    record {
      within = omega (arith, whole.long);
      slot = slot;
      first = first;
      rest = rest;
      is = is;
      none = each_chain (λ x. goes_before x first ≡ false) base chains whole none
          (subst (λ l. AllByRecursion (λ x. goes_before x first ≡ false) (events_in l)) (sym is) (irreflexive first, none_back first (events_in rest) sorted));
      far = λ less. absurd (omega (arith, less));
    }

-- where the first near event doesn't go before the far one, none does
near_not_before : (base : ℕ) (chains : List (List (ℕ × Event))) (c : ℕ) (near : IsNearest chains base c) (far : Event) → IsRing ring base chains → goes_before near.first far ≡ false → (k : ℕ) → k < ring → AllByRecursion (λ x. goes_before x far ≡ false) (events_in (get_or chains k []))
near_not_before base chains c near far whole not_so k low =
    ⊎_elim
    (λ (e : k ≡ c). subst (λ n. AllByRecursion (λ x. goes_before x far ≡ false) (events_in (get_or chains n []))) (sym e)
    (subst (λ l. AllByRecursion (λ x. goes_before x far ≡ false) (events_in l)) (sym near.is) (
      not_so,
      each_map (λ x. goes_before x near.first ≡ false) (λ x. goes_before x far ≡ false) (events_in near.rest) (λ x no. not_trans x near.first far no not_so)
          (none_back near.first (events_in near.rest) (ap (λ l. is_sorted (events_in l)) (sym near.is) ∙ whole.sorted c)),
    )))
    (λ (ne : k ≢ c). each_map (λ x. goes_before near.first x ≡ true) (λ x. goes_before x far ≡ false) (events_in (get_or chains k [])) (λ x is. not_trans x near.first far (asymmetric near.first x is) not_so)
    (near_later base chains c near whole k low ne))
    (cases_eq k c)

each_both : (P Q R : Event → Type 0) (list : List Event) → ((x : Event) → P x → Q x → R x) → AllByRecursion P list → AllByRecursion Q list → AllByRecursion R list
each_both P Q R [] f ps qs = tt
each_both P Q R (x ∷ xs) f ps qs = (f x ps.0 qs.0, each_both P Q R xs f ps.1 qs.1)

not_later : (a b : Event) → goes_before b a ≡ false → bucket a ≤ bucket b
not_later a b not_so =
    ⊎_elim
    (λ (less : b.at < a.at). let goes : goes_before b a ≡ true = or_left (ltb b.at a.at) _ (lt-ltb b.at a.at less) in absurd (false≢true (sym not_so ∙ goes)))
    (λ (most : a.at ≤ b.at). omega (arith, most))
    (cases_lt b.at a.at)

-- what is left is a ring, from the bucket of the event on
pub ring_left : (base base_now : ℕ) (chains new : List (List (ℕ × Event))) (c : ℕ) (chosen : IsChosen chains c) → IsRing ring base chains → new ≡ set chains c chosen.rest → base_now ≡ max base (bucket chosen.first) → IsRing ring base_now new
ring_left base base_now chains new c chosen whole is base_is =
    let here : get_or new c [] ≡ chosen.rest = ap (λ cs. get_or cs c []) is ∙ get_or-set_same chains c chosen.rest [] chosen.within in
    let there : (k : ℕ) → k ≢ c → get_or new k [] ≡ get_or chains k [] = λ k ne. ap (λ cs. get_or cs k []) is ∙ get_or-set_other chains c k chosen.rest [] ne in
    let sorted : is_sorted (chosen.first ∷ events_in chosen.rest) ≡ true = ap (λ l. is_sorted (events_in l)) (sym chosen.is) ∙ whole.sorted c in
    let left : (P : Event → Type 0) (k : ℕ) → AllByRecursion P (events_in (get_or chains k [])) → AllByRecursion P (events_in (get_or new k [])) = λ P k all. ⊎_elim
    (λ (e : k ≡ c). subst (λ l. AllByRecursion P (events_in l)) (sym (ap (λ n. get_or new n []) e ∙ here))
    (subst (λ l. AllByRecursion P (events_in l)) (ap (λ n. get_or chains n []) e ∙ chosen.is) all).1)
    (λ (ne : k ≢ c). subst (λ l. AllByRecursion P (events_in l)) (sym (there k ne)) all)
    (cases_eq k c) in
    record {
      long = ap length is ∙ length-set chains c chosen.rest ∙ whole.long;
      sorted = λ k. ⊎_elim
          (λ (e : k ≡ c). ap (λ n. is_sorted (events_in (get_or new n []))) e ∙ ap (λ l. is_sorted (events_in l)) here ∙ (and_parts (not (list_any (λ later. goes_before later chosen.first) (events_in chosen.rest))) (is_sorted (events_in chosen.rest)) sorted).1)
          (λ (ne : k ≢ c). ap (λ l. is_sorted (events_in l)) (there k ne) ∙ whole.sorted k)
          (cases_eq k c);
      lies = λ k low.
          each_both (LiesIn ring base k) (λ x. goes_before x chosen.first ≡ false) (LiesIn ring base_now k) (events_in (get_or new k []))
          (λ x lies no. record { from = omega (arith, base_is, lies.from, not_later chosen.first x no); before = omega (arith, base_is, lies.before); at = lies.at })
          (left (LiesIn ring base k) k (whole.lies k low)) (left (λ x. goes_before x chosen.first ≡ false) k (chosen.none k));
    }

-- the events before and behind the one that comes first of all
record Split (chains : List (List (ℕ × Event))) (c : ℕ) (first : Event) (rest : List (ℕ × Event)) : Type 0 where
  front : List Event
  back : List Event
  old_is : all_events ring chains ≡ front ++ first ∷ back
  new_is : all_events ring (set chains c rest) ≡ front ++ back
  before : AllByRecursion (λ x. goes_before first x ≡ true) front
  none : AllByRecursion (λ x. goes_before x first ≡ false) back

-- where it is one of the ring
split_near : (base : ℕ) (chains : List (List (ℕ × Event))) (c : ℕ) (chosen : IsChosen chains c) → IsRing ring base chains → c < ring → Split chains c chosen.first chosen.rest
split_near base chains c chosen whole low =
    let first : Event = chosen.first in
    let n = near_at ring chains c low chosen.within in
    let far : List Event = events_in (get_or chains ring []) in
    let same_far : events_in (get_or (set chains c chosen.rest) ring []) ≡ far = ap events_in (get_or-set_other chains c ring chosen.rest [] (λ e. omega (arith, low, e))) in
    let mine : LiesIn ring base c first = (subst (λ l. AllByRecursion (LiesIn ring base c) (events_in l)) chosen.is (whole.lies c low)).0 in
    let others = n.others (λ x. goes_before first x ≡ true) (λ k h ne. each_both (Apart first) (λ x. goes_before x first ≡ false) (λ x. goes_before first x ≡ true) (events_in (get_or chains k [])) (λ x apart no. apart no)
    (others_apart base ring chains c k first mine ne (whole.lies k h)) (chosen.none k)) in
    let behind = (subst (λ l. AllByRecursion (λ x. goes_before x first ≡ false) (events_in l)) chosen.is (chosen.none c)).1 in
    record {
      front = far ++ n.front;
      back = events_in chosen.rest ++ n.back;
      old_is = ap (λ l. far ++ l) (n.is ∙ ap (λ l. n.front ++ (events_in l ++ n.back)) chosen.is) ∙ sym (append_assoc far n.front (first ∷ (events_in chosen.rest ++ n.back)));
      new_is = ap (λ l. l ++ near_events ring (set chains c chosen.rest)) same_far ∙ ap (λ l. far ++ l) (n.set_is chosen.rest) ∙ sym (append_assoc far n.front (events_in chosen.rest ++ n.back));
      before = each-append (λ x. goes_before first x ≡ true) far n.front (chosen.far low) others.0;
      none = each-append (λ x. goes_before x first ≡ false) (events_in chosen.rest) n.back behind
          (each_map (λ x. goes_before first x ≡ true) (λ x. goes_before x first ≡ false) n.back (λ x is. asymmetric first x is) others.1);
    }

-- and where it is a far one
split_far : (chains : List (List (ℕ × Event))) (c : ℕ) (chosen : IsChosen chains c) → ring ≡ c → Split chains c chosen.first chosen.rest
split_far chains c chosen at =
    let first : Event = chosen.first in
    let behind = (subst (λ l. AllByRecursion (λ x. goes_before x first ≡ false) (events_in l)) chosen.is (chosen.none c)).1 in
    record {
      front = [];
      back = events_in chosen.rest ++ near_events ring chains;
      old_is = ap (λ n. events_in (get_or chains n []) ++ near_events ring chains) at ∙ ap (λ l. events_in l ++ near_events ring chains) chosen.is;
      new_is = ap (λ n. events_in (get_or (set chains c chosen.rest) n []) ++ near_events ring (set chains c chosen.rest)) at
          ∙ ap (λ l. events_in l ++ near_events ring (set chains c chosen.rest)) (get_or-set_same chains c chosen.rest [] chosen.within)
          ∙ ap (λ l. events_in chosen.rest ++ l) (near_kept ring chains c chosen.rest (omega (arith, at)));
      before = tt;
      none = each-append (λ x. goes_before x first ≡ false) (events_in chosen.rest) (near_events ring chains) behind (each_near (λ x. goes_before x first ≡ false) ring chains (λ k _. chosen.none k));
    }

split : (base : ℕ) (chains : List (List (ℕ × Event))) (c : ℕ) (chosen : IsChosen chains c) → IsRing ring base chains → Split chains c chosen.first chosen.rest
split base chains c chosen whole =
    ⊎_elim
    (split_near base chains c chosen whole)
    (λ (most : ring ≤ c). split_far chains c chosen (omega (arith, most, chosen.within, whole.long)))
    (cases_lt c ring)

-- what pop says of the events
pub popped : (base : ℕ) (chains new : List (List (ℕ × Event))) (c : ℕ) (chosen : IsChosen chains c) → IsRing ring base chains → new ≡ set chains c chosen.rest → in_order (all_events ring chains) ≡ chosen.first ∷ in_order (all_events ring new)
popped base chains new c chosen whole is =
    let parts = split base chains c chosen whole in
    ap in_order parts.old_is ∙ in_order_first parts.front chosen.first parts.back parts.before parts.none
    ∙ ap (λ l. chosen.first ∷ in_order l) (sym parts.new_is) ∙ ap (λ cs. chosen.first ∷ in_order (all_events ring cs)) (sym is)

-- no event goes before the first of sorted ones
pub least : (e : Event) (list : List Event) → is_sorted (e ∷ list) ≡ true → list_any (λ other. goes_before other e) (e ∷ list) ≡ false
least e list sorted =
    let parts = and_parts (not (list_any (λ later. goes_before later e) list)) (is_sorted list) sorted in
    or_from (goes_before e e) (list_any (λ other. goes_before other e) list) (irreflexive e) (not-true (list_any (λ later. goes_before later e) list) parts.0)

-- where all chains are empty, there is no event
near_nothing : (n : ℕ) (chains : List (List (ℕ × Event))) → ((k : ℕ) → k < n → get_or chains k [] ≡ []) → near_events n chains ≡ []
near_nothing zero chains none = refl
near_nothing (suc n) [] none = refl
near_nothing (suc n) (x ∷ xs) none = rw (none zero (omega arith)) (near_nothing n xs (λ k h. none (suc k) (omega (arith, h))))

empty_of : (chains : List (List (ℕ × Event))) (base k : ℕ) (list : List (ℕ × Event)) → get_or chains k [] ≡ list → AllByRecursion (LiesIn ring base k) (events_in list) → AreNearEmpty chains base 1024 → get_or chains k [] ≡ []
empty_of chains base k [] is lies none = is
empty_of chains base k (y ∷ ys) is lies none =
    let at = place_of base k y.1 lies.0 in
    ap (λ n. get_or chains n []) (sym at.0) ∙ none (bucket y.1 - base) at.1

pub nothing_there : (base : ℕ) (chains : List (List (ℕ × Event))) → IsRing ring base chains → AreNearEmpty chains base 1024 → get_or chains ring [] ≡ [] → IsFirstChain chains None
nothing_there base chains whole none far = λ k.
    ⊎_elim
    (λ (low : k < ring). empty_of chains base k (get_or chains k []) refl (whole.lies k low) none)
    (λ (most : ring ≤ k). ⊎_elim
    (λ (e : k ≡ ring). ap (λ n. get_or chains n []) e ∙ far)
    (λ (ne : k ≢ ring). get_or_past chains k [] (omega (arith, whole.long, most, ne)))
    (cases_eq k ring))
    (cases_lt k ring)

pub nothing_at_all : (chains : List (List (ℕ × Event))) → IsFirstChain chains None → in_order (all_events ring chains) ≡ []
nothing_at_all chains none =
    ap (λ l. in_order (events_in l ++ near_events ring chains)) (none ring) ∙ ap in_order (near_nothing ring chains (λ k _. none k))

-- the far chain alone
pub far_alone : (base : ℕ) (chains : List (List (ℕ × Event))) → IsRing ring base chains → AreNearEmpty chains base 1024 → (list : List (ℕ × Event)) → get_or chains ring [] ≡ list → is_some (first_slot list) ≡ true → IsChosen chains ring
far_alone base chains whole none [] is some = absurd (false≢true some)
far_alone base chains whole none (b ∷ rest) is some =
    chosen_far base chains b.0 b.1 rest is whole (λ k low. subst (λ l. AllByRecursion (λ x. goes_before x b.1 ≡ false) (events_in l)) (sym (empty_of chains base k (get_or chains k []) refl (whole.lies k low) none)) tt)

pub none_of : (list : List (ℕ × Event)) → is_some (first_slot list) ≡ false → list ≡ []
none_of [] none = refl
none_of (b ∷ rest) none = absurd (false≢true (sym none))

-- the first item of a chain
pub first_is : (list rest : List (ℕ × Event)) (slot : ℕ) (x first : Event) → Some x ≡ first_item list → list ≡ (slot, first) ∷ rest → x ≡ first
first_is list rest slot x first item is = let h : Some x ≡ Some first = item ∙ ap first_item is in cc

pub item_of : (list : List (ℕ × Event)) (x : Event) → Some x ≡ first_item list → (slot : ℕ) × (rest : List (ℕ × Event)) × (list ≡ (slot, x) ∷ rest)
item_of [] x item = absurd (let h : Some x ≡ None = item in cc)
item_of (b ∷ rest) x item = let same : b.1 ≡ x = (let h : Some x ≡ Some b.1 = item in cc) in (b.0, rest, ap (λ e. (b.0, e) ∷ rest) same)

pub no_item : (list : List (ℕ × Event)) → None ≡ first_item list → list ≡ []
no_item [] none = refl
no_item (b ∷ rest) none = absurd (let h : None ≡ Some b.1 = none in cc)

-- the first event of the nearest chain goes before that of the far one
pub choose_near : (base : ℕ) (chains : List (List (ℕ × Event))) (c : ℕ) (near : IsNearest chains base c) (x y : Event) → IsRing ring base chains → Some x ≡ first_item (get_or chains c []) → Some y ≡ first_item (get_or chains 1024 []) → goes_before x y ≡ true → IsChosen chains c
choose_near base chains c near x y whole here there goes =
    let same : x ≡ near.first = first_is (get_or chains c []) near.rest near.slot x near.first here near.is in
    let found = item_of (get_or chains 1024 []) y there in
    let far : get_or chains ring [] ≡ (found.0, y) ∷ found.1 = ap (λ n. get_or chains n []) ring_is ∙ found.2 in
    let sorted : is_sorted (y ∷ events_in found.1) ≡ true = ap (λ l. is_sorted (events_in l)) (sym far) ∙ whole.sorted ring in
    chosen_near base chains c near whole (subst (λ l. AllByRecursion (λ z. goes_before near.first z ≡ true) (events_in l)) (sym far)
    (later near.first y (events_in found.1) (ap (λ e. goes_before e y) (sym same) ∙ goes) sorted))

pub choose_far : (base : ℕ) (chains : List (List (ℕ × Event))) (c : ℕ) (near : IsNearest chains base c) (x y : Event) → IsRing ring base chains → Some x ≡ first_item (get_or chains c []) → Some y ≡ first_item (get_or chains 1024 []) → goes_before x y ≡ false → IsChosen chains 1024
choose_far base chains c near x y whole here there not_so =
    let same : x ≡ near.first = first_is (get_or chains c []) near.rest near.slot x near.first here near.is in
    let found = item_of (get_or chains 1024 []) y there in
    let far : get_or chains ring [] ≡ (found.0, y) ∷ found.1 = ap (λ n. get_or chains n []) ring_is ∙ found.2 in
    subst (λ n. IsChosen chains n) ring_is (chosen_far base chains found.0 y found.1 far whole (near_not_before base chains c near y whole (ap (λ e. goes_before e y) (sym same) ∙ not_so)))

-- what pop leaves, by what take_first says
pub record Popped (base base_now : ℕ) (chains new : List (List (ℕ × Event))) (event : Event) : Type 0 where
  pub left : IsRing ring base_now new
  pub events : in_order (all_events ring chains) ≡ event ∷ in_order (all_events ring new)

pub popped_of : (base base_now : ℕ) (chains new : List (List (ℕ × Event))) (c : ℕ) (event : Event) → IsChosen chains c → IsRing ring base chains → Some event ≡ first_item (get_or chains c []) → new ≡ set chains c (behind_first (get_or chains c [])) → base_now ≡ max base (bucket event) → Popped base base_now chains new event
popped_of base base_now chains new c event chosen whole item is base_is =
    let same : event ≡ chosen.first = first_is (get_or chains c []) chosen.rest chosen.slot event chosen.first item chosen.is in
    let rest : new ≡ set chains c chosen.rest = is ∙ ap (λ l. set chains c (behind_first l)) chosen.is in
    record {
      left = ring_left base base_now chains new c chosen whole rest (base_is ∙ ap (λ e. max base (bucket e)) same);
      events = popped base chains new c chosen whole rest ∙ ap (λ e. e ∷ in_order (all_events ring new)) (sym same);
    }

pub not_nothing : (e : Event) (list all : List Event) → all ≡ e ∷ list → all ≡ [] → ⊥
not_nothing e list all is none = let h : e ∷ list ≡ [] = sym is ∙ none in cc

pub least_in : (e : Event) (list all : List Event) → all ≡ e ∷ list → is_sorted all ≡ true → list_any (λ other. goes_before other e) all ≡ false
least_in e list all is sorted = ap (list_any (λ other. goes_before other e)) is ∙ least e list (ap is_sorted (sym is) ∙ sorted)
