-- How the ring stays one, and what a push makes of its events.
use Rattle.std.proofs.Common.{◌≡◌, ℕ, zero, suc, ◌+◌, ◌/◌, ◌%◌, ◌<◌, ◌≤◌, ◌≢◌, Bool, true, false, not, ◌&&◌, cond, List, [], ◌∷◌, ◌++◌, length, get_or, set, replicate, ltb, refl, sym, ap, subst, ◌∙◌, ⊎_elim, ◌⊎◌, inl, inr, append_assoc, arith, count_by}
use Rattle.std.specs.Prelude.{nat_eq, nat_le, nat_lt}
use Rattle.std.specs.List.{list_any}
use Rattle.std.proofs.lemmas.Bool.{cases_Bool, cases_eq, cases_lt, eq-eqb, false≢true, and_parts, and_from, or_from, or_left, or_parts, not-true, not_from_false, lt-ltb}
use Rattle.std.proofs.lemmas.Bool.Decides.{nat_tests}
use Rattle.std.proofs.lemmas.List.{get_or-set_same, get_or-set_other, length-set, length-replicate}
use Rattle.std.proofs.lemmas.List.Sums.{sum_by-cons}
use Rattle.rail_queue.specs.declared.event.Event.{Event}
use Rattle.rail_queue.specs.Order.{goes_before, inserted, is_sorted}
use Rattle.std.specs.List.{AllByRecursion}
use Rattle.rail_queue.specs.Order.{placed, in_order}
use Rattle.rail_queue.specs.Ring.{bucket, events_in, near_events, all_events, LiesIn, IsRing, IsPut, ring, chain_at, chain_in}
use Rattle.rail_queue.proofs.Ordered.{asymmetric}
use Rattle.rail_queue.proofs.Stable.{Apart, in_order_more}
use Rattle.rail_queue.proofs.Place.{events_in-append, each-append, each_front, each_back}

pub ring_is : ring ≡ 1024
unfolding ring
ring_is = refl

-- a fact of each near event
pub each_near : (P : Event → Type 0) (n : ℕ) (chains : List (List (ℕ × Event))) → ((k : ℕ) → k < n → AllByRecursion P (events_in (get_or chains k []))) → AllByRecursion P (near_events n chains)
each_near P zero chains all = tt
each_near P (suc n) [] all = tt
each_near P (suc n) (x ∷ xs) all = each-append P (events_in x) (near_events n xs) (all zero (omega arith)) (each_near P n xs (λ k h. all (suc k) (omega (arith, h))))

-- the near events before and behind those of one chain
pub record NearAt (n : ℕ) (chains : List (List (ℕ × Event))) (c : ℕ) : Type 1 where
  pub front : List Event
  pub back : List Event
  pub is : near_events n chains ≡ front ++ (events_in (get_or chains c []) ++ back)
  pub set_is : (new : List (ℕ × Event)) → near_events n (set chains c new) ≡ front ++ (events_in new ++ back)
  pub others : (P : Event → Type 0) → ((k : ℕ) → k < n → k ≢ c → AllByRecursion P (events_in (get_or chains k []))) → AllByRecursion P front × AllByRecursion P back

pub near_at : (n : ℕ) (chains : List (List (ℕ × Event))) (c : ℕ) → c < n → c < length chains → NearAt n chains c
near_at zero chains c low within = absurd (omega (arith, low))
near_at (suc n) [] c low within = absurd (omega (arith, within))
near_at (suc n) (x ∷ xs) zero low within =
    record {
      front = [];
      back = near_events n xs;
      is = refl;
      set_is = λ new. refl;
      others = λ P all. (tt, each_near P n xs (λ k h. all (suc k) (omega (arith, h)) (λ e. absurd (omega (arith, e)))));
    }
near_at (suc n) (x ∷ xs) (suc c) low within =
    let rest = near_at n xs c (omega (arith, low)) (omega (arith, within)) in
    record {
      front = events_in x ++ rest.front;
      back = rest.back;
      is = ap (λ l. events_in x ++ l) rest.is ∙ sym (append_assoc (events_in x) rest.front (events_in (get_or xs c []) ++ rest.back));
      set_is = λ new. ap (λ l. events_in x ++ l) (rest.set_is new) ∙ sym (append_assoc (events_in x) rest.front (events_in new ++ rest.back));
      others = λ P all.
          let more = rest.others P (λ k h ne. all (suc k) (omega (arith, h)) (λ e. ne (omega (arith, e)))) in
          (each-append P (events_in x) rest.front (all zero (omega arith) (λ e. absurd (omega (arith, e)))) more.0, more.1);
    }

-- events at other times are apart
lower : (a b : ℕ) → b ≤ a → (a ≡ b → ⊥) → b < a
lower a b most differ = ⊎_elim (λ less. less) (λ high. absurd (differ (omega (arith, most, high)))) (cases_lt b a)

pub apart_at : (e x : Event) → (e.at ≡ x.at → ⊥) → Apart e x
apart_at e x differ not_so =
    ⊎_elim
    (λ (less : e.at < x.at). or_left (ltb e.at x.at) _ (lt-ltb e.at x.at less))
    (λ (most : x.at ≤ e.at).
    let less : x.at < e.at = lower e.at x.at most differ in
    let goes : goes_before x e ≡ true = or_left (ltb x.at e.at) _ (lt-ltb x.at e.at less) in
    absurd (false≢true (sym not_so ∙ goes)))
    (cases_lt e.at x.at)

pub each_map : (P Q : Event → Type 0) (list : List Event) → ((x : Event) → P x → Q x) → AllByRecursion P list → AllByRecursion Q list
each_map P Q [] f all = tt
each_map P Q (x ∷ xs) f all = (f x all.0, each_map P Q xs f all.1)

-- events with one more somewhere, which is equal to none behind it
pub record OneMore (old new : List Event) (event : Event) : Type 0 where
  pub front : List Event
  pub back : List Event
  pub old_is : old ≡ front ++ back
  pub new_is : new ≡ front ++ event ∷ back
  pub apart : AllByRecursion (Apart event) back

pub pushed : (old new : List Event) (event : Event) → OneMore old new event → in_order new ≡ inserted event (in_order old)
pushed old new event more = ap in_order more.new_is ∙ in_order_more more.front event more.back more.apart ∙ ap (λ l. inserted event (in_order l)) (sym more.old_is)

-- each event of the ring but those of one chain lies in another bucket
pub others_apart : (base n : ℕ) (chains : List (List (ℕ × Event))) (c k : ℕ) (event : Event) → LiesIn n base c event → k ≢ c → AllByRecursion (LiesIn n base k) (events_in (get_or chains k [])) → AllByRecursion (Apart event) (events_in (get_or chains k []))
others_apart base n chains c k event mine ne lies =
    each_map (LiesIn n base k) (Apart event) (events_in (get_or chains k [])) (λ x here. apart_at event x (λ same. ne (sym here.at ∙ ap (λ t. t / 64 % n) (sym same) ∙ mine.at))) lies

later_apart : (event : Event) (list : List Event) → AllByRecursion (λ x. goes_before event x ≡ true) list → AllByRecursion (Apart event) list
later_apart event list later = each_map (λ x. goes_before event x ≡ true) (Apart event) list (λ x is _. is) later

pub regroup : (a b c d : List Event) → a ++ ((b ++ c) ++ d) ≡ (a ++ b) ++ (c ++ d)
regroup a b c d = ap (λ l. a ++ l) (append_assoc b c d) ∙ sym (append_assoc a b (c ++ d))

pub near_kept : (n : ℕ) (chains : List (List (ℕ × Event))) (c : ℕ) (list : List (ℕ × Event)) → n ≤ c → near_events n (set chains c list) ≡ near_events n chains
near_kept zero chains c list most = refl
near_kept (suc n) [] c list most = refl
near_kept (suc n) (x ∷ xs) zero list most = absurd (omega (arith, most))
near_kept (suc n) (x ∷ xs) (suc c) list most = ap (λ l. events_in x ++ l) (near_kept n xs c list (omega (arith, most)))

-- a near event is put in
pub near_more : (n base : ℕ) (old new : List (List (ℕ × Event))) (c : ℕ) (event : Event) → IsRing n base old → c < n → LiesIn n base c event → IsPut old new c event → OneMore (all_events n old) (all_events n new) event
near_more n base old new c event ring low mine put =
    let near = near_at n old c low (omega (arith, low, ring.long)) in
    let far : List Event = events_in (get_or old n []) in
    let same_far : events_in (get_or new n []) ≡ far = ap (λ cs. events_in (get_or cs n [])) put.is ∙ ap events_in (get_or-set_other old c n (put.front ++ (put.slot, event) ∷ put.rest) [] (λ e. omega (arith, low, e))) in
    let others = near.others (Apart event) (λ k h ne. others_apart base n old c k event mine ne (ring.lies k h)) in
    let was : events_in (get_or old c []) ≡ events_in put.front ++ events_in put.rest = ap events_in put.was ∙ events_in-append put.front put.rest in
    record {
      front = far ++ (near.front ++ events_in put.front);
      back = events_in put.rest ++ near.back;
      old_is = ap (λ l. far ++ l) (near.is ∙ ap (λ l. near.front ++ (l ++ near.back)) was ∙ regroup near.front (events_in put.front) (events_in put.rest) near.back) ∙ sym (append_assoc far (near.front ++ events_in put.front) (events_in put.rest ++ near.back));
      new_is = ap (λ l. l ++ near_events n new) same_far
          ∙ ap (λ cs. far ++ near_events n cs) put.is
          ∙ ap (λ l. far ++ l) (near.set_is (put.front ++ (put.slot, event) ∷ put.rest) ∙ ap (λ l. near.front ++ (l ++ near.back)) (events_in-append put.front ((put.slot, event) ∷ put.rest)) ∙ regroup near.front (events_in put.front) (event ∷ events_in put.rest) near.back)
          ∙ sym (append_assoc far (near.front ++ events_in put.front) (event ∷ (events_in put.rest ++ near.back)));
      apart = each-append (Apart event) (events_in put.rest) near.back (later_apart event (events_in put.rest) put.later) others.1;
    }

-- a far event is put in
pub far_more : (n base : ℕ) (old new : List (List (ℕ × Event))) (event : Event) → IsRing n base old → (base ≤ bucket event → bucket event < base + n → ⊥) → IsPut old new n event → OneMore (all_events n old) (all_events n new) event
far_more n base old new event ring outside put =
    let near_same : near_events n new ≡ near_events n old = ap (near_events n) put.is ∙ near_kept n old n (put.front ++ (put.slot, event) ∷ put.rest) (omega arith) in
    let far_new : events_in (get_or new n []) ≡ events_in put.front ++ event ∷ events_in put.rest =
    ap (λ cs. events_in (get_or cs n [])) put.is ∙ ap events_in (get_or-set_same old n (put.front ++ (put.slot, event) ∷ put.rest) [] (omega (arith, ring.long))) ∙ events_in-append put.front ((put.slot, event) ∷ put.rest) in
    let was : events_in (get_or old n []) ≡ events_in put.front ++ events_in put.rest = ap events_in put.was ∙ events_in-append put.front put.rest in
    let none : AllByRecursion (Apart event) (near_events n old) = each_near (Apart event) n old (λ k h.
    each_map (LiesIn n base k) (Apart event) (events_in (get_or old k [])) (λ x here. apart_at event x (λ same.
    let b : bucket event ≡ bucket x = ap (λ t. t / 64) same in
    outside (omega (arith, here.from, b)) (omega (arith, here.before, b)))) (ring.lies k h)) in
    record {
      front = events_in put.front;
      back = events_in put.rest ++ near_events n old;
      old_is = ap (λ l. l ++ near_events n old) was ∙ append_assoc (events_in put.front) (events_in put.rest) (near_events n old);
      new_is = ap (λ l. l ++ near_events n new) far_new ∙ ap (λ l. (events_in put.front ++ event ∷ events_in put.rest) ++ l) near_same ∙ append_assoc (events_in put.front) (event ∷ events_in put.rest) (near_events n old);
      apart = each-append (Apart event) (events_in put.rest) (near_events n old) (later_apart event (events_in put.rest) put.later) none;
    }

-- sorted events stay so
any_put : (test : Event → Bool) (front : List Event) (event : Event) (rest : List Event) → test event ≡ false → list_any test (front ++ rest) ≡ false → list_any test (front ++ event ∷ rest) ≡ false
any_put test [] event rest mine none = or_from (test event) (list_any test rest) mine none
any_put test (x ∷ front) event rest mine none =
    let parts = or_parts (test x) (list_any test (front ++ rest)) none in
    or_from (test x) (list_any test (front ++ event ∷ rest)) parts.0 (any_put test front event rest mine parts.1)

none_first : (event : Event) (rest : List Event) → AllByRecursion (λ x. goes_before event x ≡ true) rest → list_any (λ later. goes_before later event) rest ≡ false
none_first event [] later = refl
none_first event (x ∷ rest) later = or_from (goes_before x event) (list_any (λ later. goes_before later event) rest) (asymmetric event x later.0) (none_first event rest later.1)

pub sorted_put : (front : List Event) (event : Event) (rest : List Event) → is_sorted (front ++ rest) ≡ true → AllByRecursion (λ x. goes_before event x ≡ false) front → AllByRecursion (λ x. goes_before event x ≡ true) rest → is_sorted (front ++ event ∷ rest) ≡ true
sorted_put [] event rest sorted kept later =
    and_from (not (list_any (λ later. goes_before later event) rest)) (is_sorted rest) (not_from_false (list_any (λ later. goes_before later event) rest) (none_first event rest later)) sorted
sorted_put (x ∷ front) event rest sorted kept later =
    let parts = and_parts (not (list_any (λ later. goes_before later x) (front ++ rest))) (is_sorted (front ++ rest)) sorted in
    let none : list_any (λ later. goes_before later x) (front ++ rest) ≡ false = not-true (list_any (λ later. goes_before later x) (front ++ rest)) parts.0 in
    and_from (not (list_any (λ later. goes_before later x) (front ++ event ∷ rest))) (is_sorted (front ++ event ∷ rest))
    (not_from_false (list_any (λ later. goes_before later x) (front ++ event ∷ rest)) (any_put (λ later. goes_before later x) front event rest kept.0 none))
    (sorted_put front event rest parts.1 kept.1 later)

-- the ring stays one
pub ring_put : (n base : ℕ) (old new : List (List (ℕ × Event))) (c : ℕ) (event : Event) → IsRing n base old → c ≤ n → (c < n → LiesIn n base c event) → IsPut old new c event → IsRing n base new
ring_put n base old new c event ring low mine put =
    let list : List (ℕ × Event) = put.front ++ (put.slot, event) ∷ put.rest in
    let shape : events_in list ≡ events_in put.front ++ event ∷ events_in put.rest = events_in-append put.front ((put.slot, event) ∷ put.rest) in
    let was : events_in (get_or old c []) ≡ events_in put.front ++ events_in put.rest = ap events_in put.was ∙ events_in-append put.front put.rest in
    let here : get_or new c [] ≡ list = ap (λ cs. get_or cs c []) put.is ∙ get_or-set_same old c list [] (omega (arith, low, ring.long)) in
    let there : (k : ℕ) → k ≢ c → get_or new k [] ≡ get_or old k [] = λ k ne. ap (λ cs. get_or cs k []) put.is ∙ get_or-set_other old c k list [] ne in
    record {
      long = ap length put.is ∙ length-set old c list ∙ ring.long;
      sorted = λ k. ⊎_elim
          (λ (e : k ≡ c). ap (λ m. is_sorted (events_in (get_or new m []))) e ∙ ap (λ l. is_sorted (events_in l)) here ∙ ap is_sorted shape
          ∙ sorted_put (events_in put.front) event (events_in put.rest) (ap is_sorted (sym was) ∙ ring.sorted c) put.kept put.later)
          (λ (ne : k ≢ c). ap (λ l. is_sorted (events_in l)) (there k ne) ∙ ring.sorted k)
          (cases_eq k c);
      lies = λ k h. ⊎_elim
          (λ (e : k ≡ c). subst (λ m. AllByRecursion (LiesIn n base m) (events_in (get_or new m []))) (sym e)
          (let low_c : c < n = omega (arith, h, e) in
          let all : AllByRecursion (LiesIn n base c) (events_in put.front ++ events_in put.rest) = subst (AllByRecursion (LiesIn n base c)) was (ring.lies c low_c) in
          subst (λ l. AllByRecursion (LiesIn n base c) l) (sym (ap events_in here ∙ shape))
          (each-append (LiesIn n base c) (events_in put.front) (event ∷ events_in put.rest) (each_front (LiesIn n base c) (events_in put.front) (events_in put.rest) all)
          (mine low_c, each_back (LiesIn n base c) (events_in put.front) (events_in put.rest) all))))
          (λ (ne : k ≢ c). subst (λ l. AllByRecursion (LiesIn n base k) (events_in l)) (sym (there k ne)) (ring.lies k h))
          (cases_eq k c);
    }

-- the chain of a bucket
pub bucket_within : (base b : ℕ) → chain_in base b ≤ 1024
bucket_within base b =
    ⊎_elim
    (λ (is : (nat_le base b && nat_lt b (base + 1024)) ≡ true). rw is (omega arith))
    (λ (no : (nat_le base b && nat_lt b (base + 1024)) ≡ false). rw no (omega arith))
    (cases_Bool (nat_le base b && nat_lt b (base + 1024)))

-- the chain of an event
pub chain_within : (base : ℕ) (event : Event) → chain_at base event ≤ 1024
chain_within base event = bucket_within base (bucket event)

-- how many events pass a test
unfoldable pub tally : (Event → Bool) → List Event → ℕ
tally p [] = 0
tally p (x ∷ xs) = cond (p x) 1 0 + tally p xs

pub is_tally : (p : Event → Bool) (list : List Event) → count_by p list ≡ tally p list
unfolding tally
is_tally p [] = refl
is_tally p (x ∷ xs) = sum_by-cons (λ e. cond (p e) 1 0) x xs ∙ ap (λ n. cond (p x) 1 0 + n) (is_tally p xs)

pub tally-append : (p : Event → Bool) (xs ys : List Event) → tally p (xs ++ ys) ≡ tally p xs + tally p ys
unfolding tally
tally-append p [] ys = omega arith
tally-append p (x ∷ xs) ys = omega (arith, tally-append p xs ys)

tally_placed : (p : Event → Bool) (e : Event) (list : List Event) → tally p (placed e list) ≡ cond {A = ℕ} (p e) 1 0 + tally p list
unfolding tally
tally_placed p e [] = omega arith
tally_placed p e (x ∷ xs) =
    ⊎_elim
    (λ (is : goes_before x e ≡ true). rw is (omega (arith, tally_placed p e xs)))
    (λ (no : goes_before x e ≡ false). rw no (omega arith))
    (cases_Bool (goes_before x e))

tally_inserted : (p : Event → Bool) (e : Event) (list : List Event) → tally p (inserted e list) ≡ cond {A = ℕ} (p e) 1 0 + tally p list
unfolding tally
tally_inserted p e [] = omega arith
tally_inserted p e (x ∷ xs) =
    ⊎_elim
    (λ (is : goes_before e x ≡ true). rw is (omega arith))
    (λ (no : goes_before e x ≡ false). rw no (omega (arith, tally_inserted p e xs)))
    (cases_Bool (goes_before e x))

pub tally_in_order : (p : Event → Bool) (list : List Event) → tally p (in_order list) ≡ tally p list
unfolding tally
tally_in_order p [] = refl
tally_in_order p (x ∷ xs) = tally_placed p x (in_order xs) ∙ ap (λ n. cond {A = ℕ} (p x) 1 0 + n) (tally_in_order p xs)

tally_each : (p : Event → Bool) (list : List Event) → AllByRecursion (λ x. p x ≡ true) list → tally p list ≡ length list
unfolding tally
tally_each p [] all = refl
tally_each p (x ∷ xs) all = rw all.0 (omega (arith, tally_each p xs all.1))

events_long : (list : List (ℕ × Event)) → length (events_in list) ≡ length list
events_long [] = refl
events_long (x ∷ xs) = omega (arith, events_long xs)

pub counted : (p : Event → Bool) (e : Event) (new old : List Event) → new ≡ inserted e old → count_by p new ≡ count_by p (e ∷ []) + count_by p old
unfolding tally
counted p e new old is = ap (count_by p) is ∙ is_tally p (inserted e old) ∙ tally_inserted p e old ∙ ap (λ n. n + tally p old) (let h : cond {A = ℕ} (p e) 1 0 ≡ tally p (e ∷ []) = omega arith in h ∙ sym (is_tally p (e ∷ []))) ∙ ap (λ n. count_by p (e ∷ []) + n) (sym (is_tally p old))

-- in which chain an event lies
same_bucket : (base a b c : ℕ) → base ≤ a → a < base + 1024 → base ≤ b → b < base + 1024 → a % 1024 ≡ c → b % 1024 ≡ c → a ≡ b
same_bucket base a b c from_a to_a from_b to_b at_a at_b = omega arith

pub chain_near : (base : ℕ) (event : Event) → base ≤ bucket event → bucket event < base + 1024 → chain_at base event ≡ bucket event % 1024
chain_near base event low high =
    let both : (nat_le base (bucket event) && nat_lt (bucket event) (base + 1024)) ≡ true = grind (arith, nat_tests) in
    rw both refl

pub chain_far : (base : ℕ) (event : Event) → (base ≤ bucket event → bucket event < base + 1024 → ⊥) → chain_at base event ≡ 1024
chain_far base event outside =
    let one : (nat_le base (bucket event) && nat_lt (bucket event) (base + 1024)) ≡ false = grind (arith, nat_tests) in
    rw one refl

in_window : (base b : ℕ) → ((base ≤ b) × (b < base + 1024)) ⊎ (base ≤ b → b < base + 1024 → ⊥)
in_window base b =
    ⊎_elim
    (λ (less : b < base). inr (λ low high. omega (arith, less, low)))
    (λ (low : base ≤ b). ⊎_elim
    (λ (high : b < base + 1024). inl (low, high))
    (λ (far : base + 1024 ≤ b). inr (λ l high. omega (arith, far, high)))
    (cases_lt b (base + 1024)))
    (cases_lt b base)

-- what a push makes of the ring
pub record Pushed (base : ℕ) (old new : List (List (ℕ × Event))) (event : Event) : Type 0 where
  pub ring_is : IsRing ring base new
  pub events : in_order (all_events ring new) ≡ inserted event (in_order (all_events ring old))

pub pushed_in : (base : ℕ) (old new : List (List (ℕ × Event))) (event : Event) (c : ℕ) → c ≡ chain_at base event → IsRing ring base old → IsPut old new c event → Pushed base old new event
pushed_in base old new event c is whole put =
    ⊎_elim
    (λ (window : (base ≤ bucket event) × (bucket event < base + 1024)).
    let at : c ≡ bucket event % 1024 = is ∙ chain_near base event window.0 window.1 in
    let low : c < ring = omega (arith, at, ring_is) in
    let mine : LiesIn ring base c event = record { from = window.0; before = omega (arith, window.1, ring_is); at = ap (λ n. bucket event % n) ring_is ∙ sym at } in
    record {
      ring_is = ring_put ring base old new c event whole (omega (arith, low)) (λ _. mine) put;
      events = pushed (all_events ring old) (all_events ring new) event (near_more ring base old new c event whole low mine put);
    })
    (λ (outside : base ≤ bucket event → bucket event < base + 1024 → ⊥).
    let at : c ≡ ring = is ∙ chain_far base event outside ∙ sym ring_is in
    let there : IsPut old new ring event = subst (λ n. IsPut old new n event) at put in
    record {
      ring_is = ring_put ring base old new ring event whole (omega arith) (λ h. absurd (omega (arith, h))) there;
      events = pushed (all_events ring old) (all_events ring new) event (far_more ring base old new event whole (λ l h. outside l (omega (arith, h, ring_is))) there);
    })
    (in_window base (bucket event))

-- how long a chain of the ring is
pub short_chain : (base : ℕ) (chains : List (List (ℕ × Event))) (event : Event) (c : ℕ) → c ≡ chain_at base event → IsRing ring base chains → base ≤ bucket event → bucket event < base + 1024
    → length (get_or chains c []) ≤ count_by (λ held. nat_eq (bucket held) (bucket event)) (in_order (all_events ring chains))
short_chain base chains event c is whole low high =
    let same : Event → Bool = λ held. nat_eq (bucket held) (bucket event) in
    let at : c ≡ bucket event % 1024 = is ∙ chain_near base event low high in
    let within : c < ring = omega (arith, at, ring_is) in
    let near = near_at ring chains c within (omega (arith, within, whole.long)) in
    let far : List Event = events_in (get_or chains ring []) in
    let mine : List Event = events_in (get_or chains c []) in
    let all : AllByRecursion (λ x. same x ≡ true) mine = each_map (LiesIn ring base c) (λ x. same x ≡ true) mine (λ x here.
    eq-eqb (bucket x) (bucket event) (same_bucket base (bucket x) (bucket event) c here.from (omega (arith, here.before, ring_is)) low high (ap (λ n. bucket x % n) (sym ring_is) ∙ here.at) (sym at))) (whole.lies c within) in
    let parts : tally same (all_events ring chains) ≡ tally same far + (tally same near.front + (tally same mine + tally same near.back)) =
    ap (λ l. tally same (far ++ l)) near.is ∙ tally-append same far (near.front ++ (mine ++ near.back)) ∙ ap (λ n. tally same far + n) (tally-append same near.front (mine ++ near.back) ∙ ap (λ n. tally same near.front + n) (tally-append same mine near.back)) in
    let whole_count : count_by same (in_order (all_events ring chains)) ≡ tally same (all_events ring chains) = is_tally same (in_order (all_events ring chains)) ∙ tally_in_order same (all_events ring chains) in
    let some : tally same mine ≡ length (get_or chains c []) = tally_each same mine all ∙ events_long (get_or chains c []) in
    omega (arith, parts, whole_count, some)

-- an empty ring
pub empty_chain : (n k : ℕ) → get_or (replicate {A = List (ℕ × Event)} n []) k [] ≡ []
empty_chain zero k = refl
empty_chain (suc n) zero = refl
empty_chain (suc n) (suc k) = empty_chain n k

near_empty : (n m : ℕ) → near_events n (replicate m []) ≡ []
near_empty zero m = refl
near_empty (suc n) zero = refl
near_empty (suc n) (suc m) = near_empty n m

pub ring_empty : (chains : List (List (ℕ × Event))) (n : ℕ) → n ≡ 1025 → chains ≡ replicate n [] → IsRing ring 0 chains
ring_empty chains n size is =
    let none : (k : ℕ) → get_or chains k [] ≡ [] = λ k. ap (λ cs. get_or cs k []) is ∙ empty_chain n k in
    record {
      long = ap length is ∙ length-replicate n [] ∙ size ∙ (let e : 1025 ≡ suc 1024 = omega arith in e) ∙ ap suc (sym ring_is);
      sorted = λ c. ap (λ l. is_sorted (events_in l)) (none c);
      lies = λ c _. subst (λ l. AllByRecursion (LiesIn ring 0 c) (events_in l)) (sym (none c)) tt;
    }

pub events_empty : (chains : List (List (ℕ × Event))) (n : ℕ) → chains ≡ replicate n [] → in_order (all_events ring chains) ≡ []
events_empty chains n is = ap (λ cs. in_order (all_events ring cs)) is ∙ ap (λ l. in_order (events_in l ++ near_events ring (replicate n []))) (empty_chain n ring) ∙ ap in_order (near_empty ring n)

pub counted_first : (p : Event → Bool) (e : Event) (list all : List Event) → all ≡ e ∷ list → count_by p all ≡ count_by p (e ∷ []) + count_by p list
unfolding tally
counted_first p e list all is =
    let h : tally p (e ∷ list) ≡ tally p (e ∷ []) + tally p list = omega arith in
    ap (count_by p) is ∙ is_tally p (e ∷ list) ∙ h ∙ ap (λ n. n + tally p list) (sym (is_tally p (e ∷ []))) ∙ ap (λ n. count_by p (e ∷ []) + n) (sym (is_tally p list))
