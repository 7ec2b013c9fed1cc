-- An event line stands in the list of a train's event lines exactly where it is one by move and step.
use Rattle.std.proofs.Common.{◌≡◌, ℕ, suc, ◌<◌, min, Bool, true, false, cond, eqb, List, [], ◌∷◌, ◌++◌, length, Option, Some, None, refl, sym, ap, ◌∙◌, subst, ⊎_elim, arith}
use Rattle.std.specs.List.{list_any}
use Rattle.std.proofs.lemmas.Bool.{cases_Bool, false≢true, eqb-true, eq-eqb, cond-true, cond-false}
use Rattle.rail_base.specs.declared.history.Entry.{Entry}
use Rattle.rail_base.specs.declared.history.What.TheVariants.{Free, Out}
use Rattle.rail_rules.specs.Numbers.{gather}
use Rattle.rail_rules.specs.Plant.{Plant, trains, moves, steps, claims, step_section}
use Rattle.rail_rules.specs.Fronts.{Front, at_time, admissions}
use Rattle.rail_rules.specs.Orders.{Input, told, is_cancelled}
use Rattle.rail_rules.specs.Times.{out}
use Rattle.rail_rules.specs.Intervals.{is_unfreed, end_time, freed_at}
use Rattle.rail_rules.specs.Events.{enter_line, arrive_line, free_lines, out_lines, ready_line, move_events, moved_events, ready_events, train_events, events}
use Rattle.rail_laws_front.specs.EventLines.{IsEvent}
use Rattle.rail_laws_front.specs.EventLines.IsEvent.{entering, arriving, freeing, leaving, readying}
use Rattle.rail_laws_front.proofs.Gathered.{append_cases, append_left, append_right, gather_found, gather_from, one_found, one_from}

-- an event line of the train that passes a test
pub record Passes (plant : Plant) (t : ℕ) (adms : List ℕ) (cancelled : Bool) (p : Entry → Bool) : Type 0 where
  pub entry : Entry
  pub event : IsEvent plant t adms cancelled entry
  pub passing : p entry ≡ true

module _ (plant : Plant) (t : ℕ) (adms : List ℕ) (cancelled : Bool) (p : Entry → Bool) where
  enters : ℕ → List Entry
  enters m = gather (λ j. enter_line plant t adms m j ∷ []) (steps plant t m)

  frees : ℕ → List Entry
  frees m = gather (λ j. free_lines t (step_section plant t m j) (freed_at plant t adms m j)) (claims plant t m)

  free_found : (m j : ℕ) → m < length adms → j < claims plant t m → list_any p (free_lines t (step_section plant t m j) (freed_at plant t adms m j)) ≡ true → Passes plant t adms cancelled p
  free_found m j lm lj h =
      ⊎_elim
      (λ unfreed.
      let P : Option ℕ → Type 0 = λ o. list_any p (free_lines t (step_section plant t m j) o) ≡ true in
      absurd (false≢true (subst P (cond-true (is_unfreed plant t adms m j) None (Some (end_time plant t adms m j)) unfreed) h)))
      (λ closed.
      let P : Option ℕ → Type 0 = λ o. list_any p (free_lines t (step_section plant t m j) o) ≡ true in
      let line : Entry = at_time (end_time plant t adms m j) (Free (step_section plant t m j) t) in
      record {
        entry = line;
        event = freeing m j lm lj closed refl;
        passing = one_found p line (subst P (cond-false (is_unfreed plant t adms m j) None (Some (end_time plant t adms m j)) closed) h);
      })
      (cases_Bool (is_unfreed plant t adms m j))

  out_found : (m : ℕ) → m < length adms → list_any p (out_lines plant t adms m) ≡ true → Passes plant t adms cancelled p
  out_found m lm h =
      let line : Entry = at_time (out plant t adms m) (Out t) in
      let P : List Entry → Type 0 = λ xs. list_any p xs ≡ true in
      ⊎_elim
      (λ last. record {
        entry = line;
        event = leaving m lm (eqb-true (suc m) (moves plant t) last) refl;
        passing = one_found p line (subst P (cond-true (eqb (suc m) (moves plant t)) (line ∷ []) [] last) h);
      })
      (λ more. absurd (false≢true (subst P (cond-false (eqb (suc m) (moves plant t)) (line ∷ []) [] more) h)))
      (cases_Bool (eqb (suc m) (moves plant t)))

  move_found : (m : ℕ) → m < length adms → list_any p (move_events plant t adms m) ≡ true → Passes plant t adms cancelled p
  unfolding enters frees
  move_found m lm h =
      ⊎_elim
      (λ three. ⊎_elim
      (λ two. ⊎_elim
      (λ one.
      let found = gather_found p (λ j. enter_line plant t adms m j ∷ []) (steps plant t m) one in
      record {
        entry = enter_line plant t adms m found.0;
        event = entering m found.0 lm found.1 refl;
        passing = one_found p (enter_line plant t adms m found.0) found.2;
      })
      (λ one. record { entry = arrive_line plant t adms m; event = arriving m lm refl; passing = one_found p (arrive_line plant t adms m) one })
      (append_cases p (enters m) (arrive_line plant t adms m ∷ []) two))
      (λ two.
      let found = gather_found p (λ j. free_lines t (step_section plant t m j) (freed_at plant t adms m j)) (claims plant t m) two in
      free_found m found.0 lm found.1 found.2)
      (append_cases p (enters m ++ arrive_line plant t adms m ∷ []) (frees m) three))
      (λ three. out_found m lm three)
      (append_cases p (enters m ++ arrive_line plant t adms m ∷ [] ++ frees m) (out_lines plant t adms m) h)

  ready_found : cancelled ≡ false → list_any p (ready_events plant t adms) ≡ true → Passes plant t adms cancelled p
  ready_found runs h =
      let found = gather_found p (λ m. ready_line plant t adms m ∷ []) (min (suc (length adms)) (moves plant t)) h in
      record {
        entry = ready_line plant t adms found.0;
        event = readying found.0 (omega (arith, found.1)) (omega (arith, found.1)) runs refl;
        passing = one_found p (ready_line plant t adms found.0) found.2;
      }

  pub event_found : list_any p (train_events plant t adms cancelled) ≡ true → Passes plant t adms cancelled p
  event_found h =
      let P : List Entry → Type 0 = λ xs. list_any p xs ≡ true in
      ⊎_elim
      (λ moved.
      let found = gather_found p (move_events plant t adms) (length adms) moved in
      move_found found.0 found.1 found.2)
      (λ rest. ⊎_elim
      (λ cancels. absurd (false≢true (subst P (cond-true cancelled [] (ready_events plant t adms) cancels) rest)))
      (λ runs. ready_found runs (subst P (cond-false cancelled [] (ready_events plant t adms) runs) rest))
      (cases_Bool cancelled))
      (append_cases p (moved_events plant t adms) (cond cancelled [] (ready_events plant t adms)) h)

  in_moved : (m : ℕ) → m < length adms → list_any p (move_events plant t adms m) ≡ true → list_any p (train_events plant t adms cancelled) ≡ true
  in_moved m lm h = append_left p (moved_events plant t adms) (cond cancelled [] (ready_events plant t adms)) (gather_from p (move_events plant t adms) (length adms) m lm h)

  pub event_from : (e : Entry) → IsEvent plant t adms cancelled e → p e ≡ true → list_any p (train_events plant t adms cancelled) ≡ true
  unfolding enters frees
  event_from e (entering m j lm lj is) h =
      in_moved m lm
      (append_left p (enters m ++ arrive_line plant t adms m ∷ [] ++ frees m) (out_lines plant t adms m)
      (append_left p (enters m ++ arrive_line plant t adms m ∷ []) (frees m)
      (append_left p (enters m) (arrive_line plant t adms m ∷ [])
      (gather_from p (λ i. enter_line plant t adms m i ∷ []) (steps plant t m) j lj (one_from p (enter_line plant t adms m j) (sym (ap p is) ∙ h))))))
  event_from e (arriving m lm is) h =
      in_moved m lm
      (append_left p (enters m ++ arrive_line plant t adms m ∷ [] ++ frees m) (out_lines plant t adms m)
      (append_left p (enters m ++ arrive_line plant t adms m ∷ []) (frees m)
      (append_right p (enters m) (arrive_line plant t adms m ∷ []) (one_from p (arrive_line plant t adms m) (sym (ap p is) ∙ h)))))
  event_from e (freeing m j lm lj closed is) h =
      let P : Option ℕ → Type 0 = λ o. list_any p (free_lines t (step_section plant t m j) o) ≡ true in
      in_moved m lm
      (append_left p (enters m ++ arrive_line plant t adms m ∷ [] ++ frees m) (out_lines plant t adms m)
      (append_right p (enters m ++ arrive_line plant t adms m ∷ []) (frees m)
      (gather_from p (λ i. free_lines t (step_section plant t m i) (freed_at plant t adms m i)) (claims plant t m) j lj
      (subst P (sym (cond-false (is_unfreed plant t adms m j) None (Some (end_time plant t adms m j)) closed))
      (one_from p (at_time (end_time plant t adms m j) (Free (step_section plant t m j) t)) (sym (ap p is) ∙ h))))))
  event_from e (leaving m lm last is) h =
      let line : Entry = at_time (out plant t adms m) (Out t) in
      let P : List Entry → Type 0 = λ xs. list_any p xs ≡ true in
      in_moved m lm
      (append_right p (enters m ++ arrive_line plant t adms m ∷ [] ++ frees m) (out_lines plant t adms m)
      (subst P (sym (cond-true (eqb (suc m) (moves plant t)) (line ∷ []) [] (eq-eqb (suc m) (moves plant t) last))) (one_from p line (sym (ap p is) ∙ h))))
  event_from e (readying m lm lmoves runs is) h =
      let P : List Entry → Type 0 = λ xs. list_any p xs ≡ true in
      append_right p (moved_events plant t adms) (cond cancelled [] (ready_events plant t adms))
      (subst P (sym (cond-false cancelled [] (ready_events plant t adms) runs))
      (gather_from p (λ i. ready_line plant t adms i ∷ []) (min (suc (length adms)) (moves plant t)) m (omega arith) (one_from p (ready_line plant t adms m) (sym (ap p is) ∙ h))))

-- the event lines of all trains
pub record PassesIn (input : Input) (front : Front) (p : Entry → Bool) : Type 0 where
  pub train : ℕ
  pub known : train < trains input.plant
  pub passes : Passes input.plant train (admissions front train) (is_cancelled train (told input.commands front)) p

pub front_event_found : (input : Input) (front : Front) (p : Entry → Bool) → list_any p (events input front) ≡ true → PassesIn input front p
front_event_found input front p h =
    let lines : ℕ → List Entry = λ t. train_events input.plant t (admissions front t) (is_cancelled t (told input.commands front)) in
    let found = gather_found p lines (trains input.plant) h in
    record {
      train = found.0;
      known = found.1;
      passes = event_found input.plant found.0 (admissions front found.0) (is_cancelled found.0 (told input.commands front)) p found.2;
    }

pub front_event_from : (input : Input) (front : Front) (p : Entry → Bool) (t : ℕ) (e : Entry) → t < trains input.plant → IsEvent input.plant t (admissions front t) (is_cancelled t (told input.commands front)) e → p e ≡ true → list_any p (events input front) ≡ true
front_event_from input front p t e lt event h =
    let lines : ℕ → List Entry = λ u. train_events input.plant u (admissions front u) (is_cancelled u (told input.commands front)) in
    gather_from p lines (trains input.plant) t lt (event_from input.plant t (admissions front t) (is_cancelled t (told input.commands front)) p e event h)
