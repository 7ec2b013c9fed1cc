-- Which event comes first of all after a push.
use Rattle.std.proofs.Common.{◌≡◌, ℕ, ◌/◌, ◌%◌, ◌<◌, ◌≢◌, true, false, List, [], ◌∷◌, ◌++◌, length, get_or, refl, sym, ap, subst, ◌∙◌, ⊎_elim, arith, None}
use Rattle.std.specs.List.{AllByRecursion}
use Rattle.std.proofs.lemmas.Bool.{cases_eq, false≢true}
use Rattle.std.proofs.lemmas.List.{get_or-set_same, get_or-set_other, length-set}
use Rattle.rail_queue.specs.declared.event.Event.{Event}
use Rattle.rail_queue.specs.Order.{goes_before}
use Rattle.rail_queue.specs.Ring.{bucket, chain_at, events_in, LiesIn, IsRing, IsPut, ring}
use Rattle.rail_queue.specs.Choice.{IsChosen, IsFirstChain}
use Rattle.rail_queue.proofs.Ordered.{asymmetric, irreflexive, before_all}
use Rattle.rail_queue.proofs.Place.{events_in-append, each-append, each_front, each_back}
use Rattle.rail_queue.proofs.Ringed.{apart_at, chain_near, chain_within, each_map, ring_is}

-- the chain after a push
pub here : (old new : List (List (ℕ × Event))) (k : ℕ) (event : Event) (put : IsPut old new k event) → k < length old → get_or new k [] ≡ put.front ++ (put.slot, event) ∷ put.rest
here old new k event put within = ap (λ cs. get_or cs k []) put.is ∙ get_or-set_same old k (put.front ++ (put.slot, event) ∷ put.rest) [] within

there : (old new : List (List (ℕ × Event))) (k j : ℕ) (event : Event) (put : IsPut old new k event) → j ≢ k → get_or new j [] ≡ get_or old j []
there old new k j event put ne = ap (λ cs. get_or cs j []) put.is ∙ get_or-set_other old k j (put.front ++ (put.slot, event) ∷ put.rest) [] ne

long : (old new : List (List (ℕ × Event))) (k : ℕ) (event : Event) → IsPut old new k event → length new ≡ length old
long old new k event put = ap length put.is ∙ length-set old k (put.front ++ (put.slot, event) ∷ put.rest)

-- a fact of each event of a chain stays one where it is one of the new event
each_put : (P : Event → Type 0) (old new : List (List (ℕ × Event))) (k : ℕ) (event : Event) (put : IsPut old new k event) → k < length old → (j : ℕ) → (j ≡ k → P event) → AllByRecursion P (events_in (get_or old j [])) → AllByRecursion P (events_in (get_or new j []))
each_put P old new k event put within j mine all =
    ⊎_elim
    (λ (e : j ≡ k).
    let parts : AllByRecursion P (events_in put.front ++ events_in put.rest) = subst (AllByRecursion P) (ap (λ n. events_in (get_or old n [])) e ∙ ap events_in put.was ∙ events_in-append put.front put.rest) all in
    subst (AllByRecursion P) (sym (ap (λ n. events_in (get_or new n [])) e ∙ ap events_in (here old new k event put within) ∙ events_in-append put.front ((put.slot, event) ∷ put.rest)))
    (each-append P (events_in put.front) (event ∷ events_in put.rest) (each_front P (events_in put.front) (events_in put.rest) parts) (mine e, each_back P (events_in put.front) (events_in put.rest) parts)))
    (λ (ne : j ≢ k). subst (λ l. AllByRecursion P (events_in l)) (sym (there old new k j event put ne)) all)
    (cases_eq j k)

-- an event that goes before all is put in front
in_front : (event : Event) (front rest : List (ℕ × Event)) → AllByRecursion (λ x. goes_before event x ≡ false) (events_in front) → AllByRecursion (λ x. goes_before event x ≡ true) (events_in (front ++ rest)) → front ≡ []
in_front event [] rest kept all = refl
in_front event (x ∷ front) rest kept all = absurd (false≢true (sym kept.0 ∙ all.0))

-- and then comes first of all
leads : (old new : List (List (ℕ × Event))) (k : ℕ) (event : Event) → IsPut old new k event → k < length old → ((j : ℕ) → AllByRecursion (λ x. goes_before event x ≡ true) (events_in (get_or old j []))) → IsChosen new k
leads old new k event put within all =
    let none : put.front ≡ [] = in_front event put.front put.rest put.kept (subst (λ l. AllByRecursion (λ x. goes_before event x ≡ true) (events_in l)) put.was (all k)) in
    record {
      within = omega (arith, within, long old new k event put);
      slot = put.slot;
      first = event;
      rest = put.rest;
      is = here old new k event put within ∙ ap (λ l. l ++ (put.slot, event) ∷ put.rest) none;
      none = λ j. each_put (λ x. goes_before x event ≡ false) old new k event put within j (λ _. irreflexive event)
          (each_map (λ x. goes_before event x ≡ true) (λ x. goes_before x event ≡ false) (events_in (get_or old j [])) (λ x is. asymmetric event x is) (all j));
      far = λ low. subst (λ l. AllByRecursion (λ x. goes_before event x ≡ true) (events_in l)) (sym (there old new k ring event put (λ e. omega (arith, low, e)))) (all ring);
    }

pub leads_none : (base : ℕ) (old new : List (List (ℕ × Event))) (k : ℕ) (event : Event) → IsFirstChain old None → IsRing ring base old → k ≡ chain_at base event → IsPut old new k event → IsChosen new k
leads_none base old new k event none whole at put =
    leads old new k event put (omega (arith, at, chain_within base event, whole.long, ring_is)) (λ j. subst (λ l. AllByRecursion (λ x. goes_before event x ≡ true) (events_in l)) (sym (none j)) tt)

pub leads_first : (base : ℕ) (old new : List (List (ℕ × Event))) (c k : ℕ) (event : Event) (chosen : IsChosen old c) → goes_before event chosen.first ≡ true → IsRing ring base old → k ≡ chain_at base event → IsPut old new k event → IsChosen new k
leads_first base old new c k event chosen goes whole at put =
    leads old new k event put (omega (arith, at, chain_within base event, whole.long, ring_is))
    (λ j. each_map (λ x. goes_before x chosen.first ≡ false) (λ x. goes_before event x ≡ true) (events_in (get_or old j [])) (λ x no. before_all event x chosen.first goes no) (chosen.none j))

-- one that doesn't go before the first is put behind it
behind : (event first : Event) (slot s : ℕ) (rest front back : List (ℕ × Event)) → front ++ back ≡ (slot, first) ∷ rest → goes_before event first ≡ false → AllByRecursion (λ x. goes_before event x ≡ true) (events_in back) → (more : List (ℕ × Event)) × (front ++ (s, event) ∷ back ≡ (slot, first) ∷ more)
behind event first slot s rest [] [] is not_so later = absurd (let h : [] ≡ (slot, first) ∷ rest = is in cc)
behind event first slot s rest [] (b ∷ back) is not_so later =
    let same : b ≡ (slot, first) = (let h : b ∷ back ≡ (slot, first) ∷ rest = is in cc) in
    absurd (false≢true (sym not_so ∙ (ap (λ (p : ℕ × Event). goes_before event p.1) (sym same) ∙ later.0)))
behind event first slot s rest (x ∷ front) back is not_so later =
    let same : x ≡ (slot, first) = (let h : x ∷ (front ++ back) ≡ (slot, first) ∷ rest = is in cc) in
    (front ++ (s, event) ∷ back, ap (λ (p : ℕ × Event). p ∷ (front ++ (s, event) ∷ back)) same)

still_first : (old new : List (List (ℕ × Event))) (c k : ℕ) (event : Event) (chosen : IsChosen old c) → goes_before event chosen.first ≡ false → IsPut old new k event → k < length old → (more : List (ℕ × Event)) × (get_or new c [] ≡ (chosen.slot, chosen.first) ∷ more)
still_first old new c k event chosen not_so put within =
    ⊎_elim
    (λ (e : c ≡ k).
    let found = behind event chosen.first chosen.slot put.slot chosen.rest put.front put.rest (sym put.was ∙ ap (λ n. get_or old n []) (sym e) ∙ chosen.is) not_so put.later in
    (found.0, ap (λ n. get_or new n []) e ∙ here old new k event put within ∙ found.1))
    (λ (ne : c ≢ k). (chosen.rest, there old new k c event put ne ∙ chosen.is))
    (cases_eq c k)

-- a far event is at another time than one of the ring
far_apart : (base c : ℕ) (first event : Event) → LiesIn ring base c first → ring ≡ chain_at base event → first.at ≢ event.at
far_apart base c first event lies at same =
    let b : bucket first ≡ bucket event = ap (λ t. t / 64) same in
    let near : chain_at base event ≡ bucket event % 1024 = chain_near base event (omega (arith, lies.from, b)) (omega (arith, lies.before, b, ring_is)) in
    omega (arith, near, at, ring_is)

-- and the first one stays the first of all
pub stays_first : (base : ℕ) (old new : List (List (ℕ × Event))) (c k : ℕ) (event : Event) (chosen : IsChosen old c) → goes_before event chosen.first ≡ false → IsRing ring base old → k ≡ chain_at base event → IsPut old new k event → IsChosen new c
stays_first base old new c k event chosen not_so whole at put =
    let within : k < length old = omega (arith, at, chain_within base event, whole.long, ring_is) in
    let still = still_first old new c k event chosen not_so put within in
    let lies : c < ring → LiesIn ring base c chosen.first = λ low. (subst (λ l. AllByRecursion (LiesIn ring base c) (events_in l)) chosen.is (whole.lies c low)).0 in
    record {
      within = omega (arith, chosen.within, long old new k event put);
      slot = chosen.slot;
      first = chosen.first;
      rest = still.0;
      is = still.1;
      none = λ j. each_put (λ x. goes_before x chosen.first ≡ false) old new k event put within j (λ _. not_so) (chosen.none j);
      far = λ low. each_put (λ x. goes_before chosen.first x ≡ true) old new k event put within ring (λ e. apart_at chosen.first event (far_apart base c chosen.first event (lies low) (e ∙ at)) not_so) (chosen.far low);
    }
