-- One event that doesn't pass a test, taken out of the chain in which it lies.
use Rattle.std.proofs.Common.{◌≡◌, ℕ, zero, suc, ◌+◌, ◌<◌, ◌≤◌, ◌≢◌, Bool, true, false, not, List, [], ◌∷◌, ◌++◌, length, get_or, set, count_by, refl, sym, ap, ◌∙◌, ⊎_elim, arith}
use Rattle.std.proofs.lemmas.Bool.{cases_Bool, cases_eq, cond-true, cond-false}
use Rattle.std.proofs.lemmas.List.{get_or-set_same, get_or-set_other, get_or_past, length-set, set-get_or}
use Rattle.rail_slots.specs.Slots.{Room}
use Rattle.rail_queue.specs.declared.event.Event.{Event}
use Rattle.rail_queue.specs.Order.{in_order}
use Rattle.rail_queue.specs.Ring.{events_in, near_events, all_events, ring}
use Rattle.rail_queue.specs.Removal.{passing, in_use, IsThinned, AreThinned}
use Rattle.rail_queue.proofs.Removed.{passing_in, passing_out, in_use_set}
use Rattle.rail_queue.proofs.Ringed.{is_tally, ring_is, tally, tally-append, tally_in_order}

module _ (p : Event → Bool) where
  -- what stays
  abbrev left : List (ℕ × Event) → List (ℕ × Event)
  left list = passing (λ e. not (p e)) list

  -- how many events of a chain are taken out
  goes : List (List (ℕ × Event)) → ℕ → ℕ
  goes chains k = tally p (events_in (get_or chains k []))

  -- what stays of a chain and what is taken out is all
  parts : (list : List (ℕ × Event)) → length (left list) + tally p (events_in list) ≡ length list
  unfolding tally
  parts [] = refl
  parts (x ∷ xs) =
      ⊎_elim
      (λ is. omega (arith, ap length (passing_out (λ e. not (p e)) x xs (ap not is)), cond-true {A = ℕ} (p x.1) 1 0 is, parts xs))
      (λ isnt. omega (arith, ap length (passing_in (λ e. not (p e)) x xs (ap not isnt)), cond-false {A = ℕ} (p x.1) 1 0 isnt, parts xs))
      (cases_Bool (p x.1))

  -- where nothing is taken out, the chain stays
  whole : (list : List (ℕ × Event)) → tally p (events_in list) ≡ 0 → left list ≡ list
  unfolding tally
  whole [] none = refl
  whole (x ∷ xs) none =
      ⊎_elim
      (λ is. absurd (omega (arith, none, cond-true {A = ℕ} (p x.1) 1 0 is)))
      (λ isnt. passing_in (λ e. not (p e)) x xs (ap not isnt) ∙ ap (λ l. x ∷ l) (whole xs (omega (arith, none))))
      (cases_Bool (p x.1))

  -- there is none past the chains
  past : (k : ℕ) → goes [] k ≡ 0
  unfolding goes tally
  past k = ap (λ l. tally p (events_in l)) (get_or_past [] k [] (omega arith))

  -- the events of one chain, and of two, are among all
  of_one : (n : ℕ) (chains : List (List (ℕ × Event))) (k : ℕ) → k < n → goes chains k ≤ tally p (near_events n chains)
  unfolding goes
  of_one zero chains k low = absurd (omega (arith, low))
  of_one (suc n) [] k low = omega (arith, past k)
  of_one (suc n) (x ∷ xs) zero low = omega (arith, tally-append p (events_in x) (near_events n xs))
  of_one (suc n) (x ∷ xs) (suc k) low = omega (arith, of_one n xs k (omega (arith, low)), tally-append p (events_in x) (near_events n xs))

  of_two : (n : ℕ) (chains : List (List (ℕ × Event))) (j k : ℕ) → j < n → k < n → j ≢ k → goes chains j + goes chains k ≤ tally p (near_events n chains)
  unfolding goes
  of_two zero chains j k low_j low_k ne = absurd (omega (arith, low_j))
  of_two (suc n) [] j k low_j low_k ne = omega (arith, past j, past k)
  of_two (suc n) (x ∷ xs) zero zero low_j low_k ne = absurd (ne refl)
  of_two (suc n) (x ∷ xs) zero (suc k) low_j low_k ne = omega (arith, of_one n xs k (omega (arith, low_k)), tally-append p (events_in x) (near_events n xs))
  of_two (suc n) (x ∷ xs) (suc j) zero low_j low_k ne = omega (arith, of_one n xs j (omega (arith, low_j)), tally-append p (events_in x) (near_events n xs))
  of_two (suc n) (x ∷ xs) (suc j) (suc k) low_j low_k ne =
      omega (arith, of_two n xs j k (omega (arith, low_j)) (omega (arith, low_k)) (λ e. ne (ap suc e)), tally-append p (events_in x) (near_events n xs))

  both : (n : ℕ) (chains : List (List (ℕ × Event))) (j k : ℕ) → j < suc n → k < suc n → j ≢ k → goes chains j + goes chains k ≤ tally p (all_events n chains)
  unfolding goes
  both n chains j k low_j low_k ne =
      let split = tally-append p (events_in (get_or chains n [])) (near_events n chains) in
      ⊎_elim
      (λ (e : j ≡ n). omega (arith, ap (goes chains) e, of_one n chains k (omega (arith, low_k, ne, e)), split))
      (λ (far_j : j ≢ n). ⊎_elim
      (λ (e : k ≡ n). omega (arith, ap (goes chains) e, of_one n chains j (omega (arith, low_j, far_j)), split))
      (λ (far_k : k ≢ n). omega (arith, of_two n chains j k (omega (arith, low_j, far_j)) (omega (arith, low_k, far_k)) ne, split))
      (cases_eq k n))
      (cases_eq j n)

  -- where none was found in the chain, nothing changed
  pub none_found : (old new : Room Event) (k : ℕ) → IsThinned (λ e. not (p e)) old new k → new.spare ≡ old.spare → new.chains ≡ old.chains
  none_found old new k thinned same =
      let list : List (ℕ × Event) = get_or old.chains k [] in
      thinned.chains ∙ ap (set old.chains k) (whole list (omega (arith, parts list, thinned.room, same))) ∙ set-get_or old.chains k []

  -- where one was found and there are no more, all chains are without such events
  pub one_found : (old new : Room Event) (k : ℕ) → length old.chains ≡ suc ring → k < suc ring → count_by p (in_order (all_events ring old.chains)) ≤ 1
      → IsThinned (λ e. not (p e)) old new k → new.spare ≢ old.spare → AreThinned (λ e. not (p e)) old new 1025
  unfolding goes
  one_found old new k long within single thinned differ =
      let list : List (ℕ × Event) = get_or old.chains k [] in
      let few : tally p (all_events ring old.chains) ≤ 1 = omega (arith, single, is_tally p (in_order (all_events ring old.chains)), tally_in_order p (all_events ring old.chains)) in
      let some : 0 < tally p (events_in list) = omega (arith, parts list, thinned.room, differ) in
      let inside : k < length old.chains = omega (arith, within, long) in
      let there : (c : ℕ) → c ≢ k → get_or new.chains c [] ≡ get_or old.chains c [] = λ c ne. ap (λ cs. get_or cs c []) thinned.chains ∙ get_or-set_other old.chains k c (left list) [] ne in
      record {
        long = ap length thinned.chains ∙ length-set old.chains k (left list);
        thin = λ c low. ⊎_elim
            (λ (e : c ≡ k). ap (λ n. get_or new.chains n []) e ∙ ap (λ cs. get_or cs k []) thinned.chains ∙ get_or-set_same old.chains k (left list) [] inside ∙ ap (λ n. left (get_or old.chains n [])) (sym e))
            (λ (ne : c ≢ k). there c ne ∙ sym (whole (get_or old.chains c []) (omega (arith, few, some, both ring old.chains c k (omega (arith, low, ring_is)) within ne))))
            (cases_eq c k);
        same = λ c high. there c (λ e. omega (arith, high, e, within, ring_is));
        room = omega (arith, ap in_use thinned.chains, in_use_set old.chains k (left list) inside, thinned.room);
      }
