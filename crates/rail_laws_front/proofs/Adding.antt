-- What one more admission of a train adds to its event lines and leaves of its intervals.
use Rattle.std.proofs.Common.{◌≡◌, ℕ, suc, ◌+◌, ◌-◌, ◌<◌, ◌≤◌, max, Bool, true, false, not, cond, eqb, ltb, List, [], ◌∷◌, ◌++◌, length, sym, ap, ◌∙◌, subst, inl, inr, ◌⊎◌, ⊎_elim, arith}
use Rattle.std.proofs.lemmas.Bool.{and_parts, or_parts, cases_Bool, cases_lt, false≢true, and_left, and_from, eqb-true, not-true, ne_eqb, lt-ltb, le-ltb, cond-true, cond-false, cond_both, not_from_false}
use Rattle.rail_base.specs.declared.history.Entry.{Entry}
use Rattle.rail_base.specs.declared.history.What.TheVariants.{Free, Out, Enter, Arrive, Ready}
use Rattle.rail_rules.specs.Numbers.{is_in}
use Rattle.rail_rules.specs.Plant.{Plant, moves, move_row, steps, claims, claimed, step_section, standing_after, is_forced}
use Rattle.rail_rules.specs.Fronts.{at_time}
use Rattle.rail_rules.specs.Times.{does_pass, depart_time, ready_time, signal_time, start_loss, admitted, previous, is_admitted, free_run, ready, passes, go, enter, stop_at, arrive, leave, out}
use Rattle.rail_rules.specs.Intervals.{does_stand, is_open, timer_end, is_taken_over, end_time}
use Rattle.rail_rules.specs.Events.{enter_line, arrive_line, ready_line}
use Rattle.rail_rules.proofs.CallerLemmas.{start_after_signal, head_time-begun, arrive_after_run, enter_before_run, enter_before_leave, leave_before_clearing, end_needed, end_timed, end_taken, freed_from, last_not_taken, needed_not_taken, taken_from, taken_parts}
use Rattle.rail_rules.specs.Apart.{HasEnded}
use Rattle.rail_laws_front.proofs.Standing.{over_not_open}
use Rattle.rail_laws_front.specs.Premises.{IsWellFormed}
use Rattle.rail_laws_front.specs.EventLines.{IsEvent}
use Rattle.rail_laws_front.specs.EventLines.IsEvent.{entering, arriving, freeing, leaving, readying}
use Rattle.rail_laws_front.proofs.Agreeing.{agree_added, admitted_added, length_added, ready_agrees, enter_agrees, arrive_agrees, stop_agrees, is_open_agrees, taken_agrees, unfreed_agrees, end_agrees, end_inner_agrees}

pub not_admitted : (adms : List ℕ) (m : ℕ) → length adms ≤ m → is_admitted adms m ≡ false
not_admitted adms m past = le-ltb m (length adms) past

module _ (plant : Plant) (t : ℕ) where
  -- a move that isn't admitted doesn't pass
  pub passes_unadmitted : (adms : List ℕ) (m : ℕ) → length adms ≤ m → passes plant t adms m ≡ false
  passes_unadmitted adms m past = and_left (is_admitted adms m) (does_pass plant t m (previous adms m) (free_run plant t adms m) (admitted adms m)) (not_admitted adms m past)

  -- where the next move isn't admitted, the train arrives with a stop
  pub arrives_stopping : (adms : List ℕ) (m : ℕ) → (suc m ≡ moves plant t → ⊥) → passes plant t adms (suc m) ≡ false → arrive plant t adms m ≡ stop_at plant t adms m
  arrives_stopping adms m more stops =
      cond-false (eqb (suc m) (moves plant t)) (free_run plant t adms (suc m)) (cond (passes plant t adms (suc m)) (go plant t adms (suc m)) (stop_at plant t adms m)) (ne_eqb (suc m) (moves plant t) more)
      ∙ cond-false (passes plant t adms (suc m)) (go plant t adms (suc m)) (stop_at plant t adms m) stops

  -- and where the train passes, it arrives as its next move begins
  pub arrives_passing : (adms : List ℕ) (m : ℕ) → (suc m ≡ moves plant t → ⊥) → passes plant t adms (suc m) ≡ true → arrive plant t adms m ≡ go plant t adms (suc m)
  arrives_passing adms m more passing =
      cond-false (eqb (suc m) (moves plant t)) (free_run plant t adms (suc m)) (cond (passes plant t adms (suc m)) (go plant t adms (suc m)) (stop_at plant t adms m)) (ne_eqb (suc m) (moves plant t) more)
      ∙ cond-true (passes plant t adms (suc m)) (go plant t adms (suc m)) (stop_at plant t adms m) passing

  -- a move begins later than it is admitted
  pub go_after_admission : (fine : IsWellFormed plant) (adms : List ℕ) (m : ℕ) → m < moves plant t → admitted adms m < go plant t adms m
  go_after_admission fine adms m lt =
      omega (arith, start_after_signal plant t m (free_run plant t adms m) (admitted adms m) (passes plant t adms m), fine.some_setting t m lt)

  pub enter_after_go : (adms : List ℕ) (m j : ℕ) → go plant t adms m ≤ enter plant t adms m j
  enter_after_go adms m j = head_time-begun plant t m (go plant t adms m) (passes plant t adms m) j

  -- the free run of a move ends after its beginning
  pub run_after_go : (fine : IsWellFormed plant) (adms : List ℕ) (m : ℕ) → m < moves plant t → go plant t adms m ≤ free_run plant t adms (suc m)
  run_after_go fine adms m lt = omega (arith, enter_after_go adms m 0, enter_before_run plant t adms m 0 (omega arith))

  pub arrive_after_go : (fine : IsWellFormed plant) (adms : List ℕ) (m : ℕ) → m < moves plant t → go plant t adms m ≤ arrive plant t adms m
  arrive_after_go fine adms m lt = omega (arith, run_after_go fine adms m lt, arrive_after_run plant t adms m)

  pub leave_after_go : (adms : List ℕ) (m j : ℕ) → j < steps plant t m → go plant t adms m ≤ leave plant t adms m j
  leave_after_go adms m j lt = omega (arith, enter_after_go adms m j, enter_before_leave plant t adms m j lt)

  -- an interval that isn't taken over ends after its move begins
  pub end_after_go : (fine : IsWellFormed plant) (adms : List ℕ) (m j : ℕ) → m < moves plant t → is_taken_over plant t adms m j ≡ false → go plant t adms m ≤ end_time plant t adms m j
  end_after_go fine adms m j lm untaken =
      ⊎_elim
      (λ need. omega (arith, end_needed plant t adms m j need, leave_after_go adms m j need, leave_before_clearing plant t adms m j need))
      (λ over. omega (arith, end_timed plant t adms m j over untaken, arrive_after_go fine adms m lm))
      (cases_lt j (steps plant t m))

  -- and so it isn't empty
  pub end_after_begin : (fine : IsWellFormed plant) (adms : List ℕ) (m j : ℕ) → m < moves plant t → is_taken_over plant t adms m j ≡ false → admitted adms m < end_time plant t adms m j
  end_after_begin fine adms m j lm untaken = omega (arith, go_after_admission fine adms m lm, end_after_go fine adms m j lm untaken)

  -- a standing section is given free after the next move begins
  pub standing_end : (adms : List ℕ) (m j : ℕ) → j < steps plant t m → does_stand plant t m j ≡ true → go plant t adms (suc m) ≤ end_time plant t adms m j
  standing_end adms m j lj stands =
      omega (arith, end_needed plant t adms m j lj, cond-true {A = ℕ} (does_stand plant t m j) (go plant t adms (suc m) + start_loss plant t (passes plant t adms (suc m))) (leave plant t adms m j) stands)

  -- a ready time isn't before the admission before it
  pub ready_after_previous : (adms : List ℕ) (m : ℕ) → previous adms m ≤ ready plant t adms m
  ready_after_previous adms m =
      cond_both (is_forced plant t m)
      (max (previous adms m) (depart_time plant t m (free_run plant t adms m) - signal_time plant t m))
      (max (previous adms m) (free_run plant t adms m - (signal_time plant t m + (move_row plant t m).approach)))
      (λ x. previous adms m ≤ x) (λ _. omega arith) (λ _. omega arith)

  -- the last section of a move before the last one is one that the train stands on
  pub last_does_stand : (fine : IsWellFormed plant) (m j : ℕ) → suc m < moves plant t → suc j ≡ steps plant t m → does_stand plant t m j ≡ true
  last_does_stand fine m j more last =
      let is : is_in (step_section plant t m j) (standing_after plant t m) ≡ true =
      (let P : ℕ → Type 0 = λ k. is_in (step_section plant t m k) (standing_after plant t m) ≡ true in
      let same : steps plant t m - 1 ≡ j = omega arith in
      subst P same (fine.last_stands t m more)) in
      let Q : List ℕ → Type 0 = λ xs. is_in (step_section plant t m j) xs ≡ true in
      subst Q (sym (cond-true (ltb (suc m) (moves plant t)) (standing_after plant t m) [] (lt-ltb (suc m) (moves plant t) more))) is

  -- an interval that has an end before the next move is admitted is on an inner step that the train runs through
  pub closed_runs : (fine : IsWellFormed plant) (adms : List ℕ) (m j : ℕ) → length adms ≤ suc m → suc m < moves plant t → is_open plant t adms m j ≡ false → (does_stand plant t m j ≡ false) × (suc j ≡ steps plant t m → ⊥)
  closed_runs fine adms m j last more closed =
      let runs : does_stand plant t m j ≡ false =
      ⊎_elim
      (λ stands. absurd (false≢true (sym closed ∙ and_from (does_stand plant t m j) (not (is_admitted adms (suc m))) stands (not_from_false (is_admitted adms (suc m)) (not_admitted adms (suc m) last)))))
      (λ no. no)
      (cases_Bool (does_stand plant t m j)) in
      (runs, λ end. false≢true (sym runs ∙ last_does_stand fine m j more end))

  -- a train that passes is admitted before it would stop
  pub passes_before_stop : (fine : IsWellFormed plant) (adms : List ℕ) (m : ℕ) → suc m < moves plant t → passes plant t adms (suc m) ≡ true → admitted adms (suc m) < stop_at plant t adms m
  passes_before_stop fine adms m room passing =
      let before : ℕ = previous adms (suc m) in
      let run : ℕ = free_run plant t adms (suc m) in
      let adm : ℕ = admitted adms (suc m) in
      let forced : Bool = is_forced plant t (suc m) in
      let pass = (and_parts (is_admitted adms (suc m)) (does_pass plant t (suc m) before run adm) passing).1 in
      let parts = and_parts (not forced) (eqb adm (ready_time plant t (suc m) before run)) pass in
      let at_ready : adm ≡ ready_time plant t (suc m) before run = eqb-true adm (ready_time plant t (suc m) before run) parts.1 in
      let free : ready_time plant t (suc m) before run ≡ max before (run - (signal_time plant t (suc m) + (move_row plant t (suc m)).approach)) =
      cond-false forced (max before (depart_time plant t (suc m) run - signal_time plant t (suc m))) (max before (run - (signal_time plant t (suc m) + (move_row plant t (suc m)).approach))) (not-true forced parts.0) in
      omega (arith, at_ready, free, go_after_admission fine adms m (omega arith), run_after_go fine adms m (omega arith), fine.some_setting t (suc m) room)

  -- the end of an interval that has ended by the next admission stays, and it isn't taken over any more
  pub record KeepsEnd (adms : List ℕ) (a m j : ℕ) : Type 0 where
    pub closed : is_open plant t (adms ++ a ∷ []) m j ≡ false
    pub same : end_time plant t (adms ++ a ∷ []) m j ≡ end_time plant t adms m j
    pub taken : is_taken_over plant t (adms ++ a ∷ []) m j ≡ is_taken_over plant t adms m j

  -- an overlap of the last admitted move that has ended by then
  over_kept : (fine : IsWellFormed plant) (adms : List ℕ) (a m j : ℕ) → length adms < moves plant t → m < length adms → j < claims plant t m → end_time plant t adms m j ≤ a → length adms ≤ suc m → steps plant t m ≤ j → KeepsEnd adms a m j
  over_kept fine adms a m j room lm lj past last over =
      let more : List ℕ = adms ++ a ∷ [] in
      let next : suc m ≡ length adms = omega (arith, lm, last) in
      let going : suc m ≡ moves plant t → ⊥ = λ end. omega (arith, end, next, room) in
      let untaken : is_taken_over plant t adms m j ≡ false = last_not_taken plant t adms m j last in
      let ends : end_time plant t adms m j ≡ timer_end plant t adms m = end_timed plant t adms m j over untaken in
      let stops : arrive plant t adms m ≡ stop_at plant t adms m = arrives_stopping adms m going (passes_unadmitted adms (suc m) last) in
      let stop_same : stop_at plant t more m ≡ stop_at plant t adms m = stop_agrees plant t more adms (length adms) m (agree_added adms a) lm in
      let P : ℕ → Type 0 = λ k. admitted more k ≡ a in
      let at : admitted more (suc m) ≡ a = subst P (sym next) (admitted_added adms a) in
      let arrives_same : arrive plant t more m ≡ arrive plant t adms m =
      ⊎_elim
      (λ passing. absurd (omega (arith, past, ends, stops, stop_same, at, passes_before_stop fine more m (omega (arith, next, room)) passing)))
      (λ stopping. arrives_stopping more m going stopping ∙ stop_same ∙ sym stops)
      (cases_Bool (passes plant t more (suc m))) in
      let untaken_now : is_taken_over plant t more m j ≡ false =
      ⊎_elim
      (λ taken. absurd (omega (arith, past, ends, at, arrives_same, (taken_parts plant t more m j taken).before)))
      (λ no. no)
      (cases_Bool (is_taken_over plant t more m j)) in
      record {
        closed = over_not_open plant fine t m j over lj more;
        same = end_timed plant t more m j over untaken_now ∙ ap (λ n. n + plant.tables.overlap_time) arrives_same ∙ sym ends;
        taken = untaken_now ∙ sym untaken;
      }

  pub end_kept : (fine : IsWellFormed plant) (adms : List ℕ) (a m j : ℕ) → length adms < moves plant t → m < length adms → j < claims plant t m → is_open plant t adms m j ≡ false → end_time plant t adms m j ≤ a → KeepsEnd adms a m j
  end_kept fine adms a m j room lm lj closed past =
      let agree = agree_added adms a in
      ⊎_elim
      (λ inner. record {
        closed = is_open_agrees plant t (adms ++ a ∷ []) adms (length adms) m j agree inner ∙ closed;
        same = end_agrees plant t (adms ++ a ∷ []) adms (length adms) m j agree inner;
        taken = taken_agrees plant t (adms ++ a ∷ []) adms (length adms) m j agree inner;
      })
      (λ last. ⊎_elim
      (λ need.
      let runs = closed_runs fine adms m j last (omega arith) closed in
      record {
        closed = and_left (does_stand plant t m j) (not (is_admitted (adms ++ a ∷ []) (suc m))) runs.0;
        same = end_inner_agrees plant t (adms ++ a ∷ []) adms (length adms) m j agree lm need runs.1 runs.0;
        taken = needed_not_taken plant t (adms ++ a ∷ []) m j need ∙ sym (needed_not_taken plant t adms m j need);
      })
      (λ over. over_kept fine adms a m j room lm lj past last over)
      (cases_lt j (steps plant t m)))
      (cases_lt (suc m) (length adms))

  -- the interval of an overlap of the last admitted move on a section that the next move claims has ended with its admission
  pub own_overlap_ended : (fine : IsWellFormed plant) (adms : List ℕ) (a m j : ℕ) → suc m ≡ length adms → steps plant t m ≤ j → j < claims plant t m → is_in (step_section plant t m j) (claimed plant t (suc m)) ≡ true → HasEnded plant t (adms ++ a ∷ []) m j a
  own_overlap_ended fine adms a m j next over lj claiming =
      let more : List ℕ = adms ++ a ∷ [] in
      let P : ℕ → Type 0 = λ k. admitted more k ≡ a in
      let at : admitted more (suc m) ≡ a = subst P (sym next) (admitted_added adms a) in
      let closed : is_open plant t more m j ≡ false = over_not_open plant fine t m j over lj more in
      ⊎_elim
      (λ taken. record { closed = closed; by = omega (arith, end_taken plant t more m j taken, at) })
      (λ untaken. record {
        closed = closed;
        by = ⊎_elim
            (λ before. absurd (false≢true (sym untaken ∙ taken_from plant t more m j (record {
              over = over;
              more = omega (arith, next, length_added adms a);
              claiming = claiming;
              before = before;
            }))))
            (λ past. omega (arith, end_timed plant t more m j over untaken, at, past))
            (cases_lt (admitted more (suc m)) (timer_end plant t more m));
      })
      (cases_Bool (is_taken_over plant t more m j))

  -- an event line with one more admission is an old one, or later than the admission, or the train's next ready line
  abbrev pub Adds : (adms : List ℕ) (a : ℕ) (cancelled : Bool) (e : Entry) → Type 0
  Adds adms a cancelled e = IsEvent plant t adms cancelled e ⊎ ((a < e.at) ⊎ ((e ≡ ready_line plant t (adms ++ a ∷ []) (suc (length adms))) × (a ≤ e.at)))

module _ (plant : Plant) (fine : IsWellFormed plant) (t : ℕ) (adms : List ℕ) (a : ℕ) (cancelled : Bool) (room : length adms < moves plant t) where
  more : List ℕ
  more = adms ++ a ∷ []

  size : length more ≡ suc (length adms)
  unfolding more
  size = length_added adms a

  new_go : a < go plant t more (length adms)
  unfolding more
  new_go = omega (arith, admitted_added adms a, go_after_admission plant t fine (adms ++ a ∷ []) (length adms) room)

  old : (e : Entry) → IsEvent plant t adms cancelled e → Adds plant t adms a cancelled e
  old e is = inl is

  later : (e : Entry) → a < e.at → Adds plant t adms a cancelled e
  later e lt = inr (inl lt)

  -- an entry that is some line is later where the line is
  later_as : (e line : Entry) → e ≡ line → a < line.at → Adds plant t adms a cancelled e
  later_as e line is lt = let P : Entry → Type 0 = λ x. a < x.at in later e (subst P (sym is) lt)

  pub added : (e : Entry) → IsEvent plant t (adms ++ a ∷ []) cancelled e → Adds plant t adms a cancelled e
  unfolding more
  added e (entering m j lm lj is) =
      ⊎_elim
      (λ before. old e (entering m j before lj (is ∙ ap (λ n. at_time n (Enter t (suc m) (step_section plant t m j))) (enter_agrees plant t more adms (length adms) m j (agree_added adms a) before))))
      (λ last.
      let new : m ≡ length adms = omega (arith, size) in
      let P : ℕ → Type 0 = λ k. a < enter plant t more k j in
      later_as e (enter_line plant t more m j) is (subst P (sym new) (omega (arith, new_go, enter_after_go plant t more (length adms) j))))
      (cases_lt m (length adms))
  added e (arriving m lm is) =
      ⊎_elim
      (λ inner. old e (arriving m (omega arith) (is ∙ ap (λ n. at_time n (Arrive t (suc m))) (arrive_agrees plant t more adms (length adms) m (agree_added adms a) inner))))
      (λ outer. ⊎_elim
      (λ before.
      let next : suc m ≡ length adms = omega arith in
      let going : suc m ≡ moves plant t → ⊥ = λ end. omega arith in
      ⊎_elim
      (λ passing.
      let P : ℕ → Type 0 = λ k. a < go plant t more k in
      later_as e (arrive_line plant t more m) is (omega (arith, arrives_passing plant t more m going passing, subst P (sym next) new_go)))
      (λ stopping.
      let same : arrive plant t more m ≡ arrive plant t adms m =
      arrives_stopping plant t more m going stopping
      ∙ stop_agrees plant t more adms (length adms) m (agree_added adms a) before
      ∙ sym (arrives_stopping plant t adms m going (passes_unadmitted plant t adms (suc m) (omega arith))) in
      old e (arriving m before (is ∙ ap (λ n. at_time n (Arrive t (suc m))) same)))
      (cases_Bool (passes plant t more (suc m))))
      (λ last.
      let new : m ≡ length adms = omega (arith, size) in
      let P : ℕ → Type 0 = λ k. a < arrive plant t more k in
      later_as e (arrive_line plant t more m) is (subst P (sym new) (omega (arith, new_go, arrive_after_go plant t fine more (length adms) room))))
      (cases_lt m (length adms)))
      (cases_lt (suc m) (length adms))
  added e (freeing m j lm lj freed is) =
      let line : ℕ → Entry = λ time. at_time time (Free (step_section plant t m j) t) in
      let parts = or_parts (is_open plant t more m j) (is_taken_over plant t more m j) freed in
      ⊎_elim
      (λ inner.
      let agree = agree_added adms a in
      old e (freeing m j (omega arith) lj (sym (unfreed_agrees plant t more adms (length adms) m j agree inner) ∙ freed)
      (is ∙ ap line (end_agrees plant t more adms (length adms) m j agree inner))))
      (λ outer. ⊎_elim
      (λ before.
      let next : suc m ≡ length adms = omega arith in
      let going : suc m ≡ moves plant t → ⊥ = λ end. omega arith in
      let P : ℕ → Type 0 = λ k. a < go plant t more k in
      let new_go_next : a < go plant t more (suc m) = subst P (sym next) new_go in
      let untaken : is_taken_over plant t adms m j ≡ false = last_not_taken plant t adms m j (omega arith) in
      ⊎_elim
      (λ need. ⊎_elim
      (λ stands. later_as e (line (end_time plant t more m j)) is (omega (arith, standing_end plant t more m j need stands, new_go_next)))
      (λ runs.
      let inner : suc j ≡ steps plant t m → ⊥ = λ end. false≢true (sym runs ∙ last_does_stand plant t fine m j (omega arith) end) in
      old e (freeing m j before lj
      (freed_from plant t adms m j (and_left (does_stand plant t m j) (not (is_admitted adms (suc m))) runs) untaken)
      (is ∙ ap line (end_inner_agrees plant t more adms (length adms) m j (agree_added adms a) before need inner runs))))
      (cases_Bool (does_stand plant t m j)))
      (λ over.
      let ends : end_time plant t more m j ≡ timer_end plant t more m = end_timed plant t more m j over parts.1 in
      ⊎_elim
      (λ passing. later_as e (line (end_time plant t more m j)) is (omega (arith, ends, arrives_passing plant t more m going passing, new_go_next)))
      (λ stopping.
      let same : arrive plant t more m ≡ arrive plant t adms m =
      arrives_stopping plant t more m going stopping
      ∙ stop_agrees plant t more adms (length adms) m (agree_added adms a) before
      ∙ sym (arrives_stopping plant t adms m going (passes_unadmitted plant t adms (suc m) (omega arith))) in
      old e (freeing m j before lj
      (freed_from plant t adms m j (over_not_open plant fine t m j over lj adms) untaken)
      (is ∙ ap line (ends ∙ ap (λ n. n + plant.tables.overlap_time) same ∙ sym (end_timed plant t adms m j over untaken)))))
      (cases_Bool (passes plant t more (suc m))))
      (cases_lt j (steps plant t m)))
      (λ last.
      let new : m ≡ length adms = omega (arith, size) in
      let P : ℕ → Type 0 = λ k. a < go plant t more k in
      later_as e (line (end_time plant t more m j)) is (omega (arith, subst P (sym new) new_go, end_after_go plant t fine more m j (omega (arith, new, room)) parts.1)))
      (cases_lt m (length adms)))
      (cases_lt (suc m) (length adms))
  added e (leaving m lm end is) =
      let new : m ≡ length adms = omega (arith, size) in
      let P : ℕ → Type 0 = λ k. a < arrive plant t more k in
      later_as e (at_time (out plant t more m) (Out t)) is (omega (arith, subst P (sym new) (omega (arith, new_go, arrive_after_go plant t fine more (length adms) room))))
  added e (readying m lm lmoves runs is) =
      ⊎_elim
      (λ before. old e (readying m (omega arith) lmoves runs (is ∙ ap (λ n. at_time n (Ready t (suc m))) (ready_agrees plant t more adms (length adms) m (agree_added adms a) (omega arith)))))
      (λ last.
      let next : m ≡ suc (length adms) = omega (arith, size) in
      let P : ℕ → Type 0 = λ k. e ≡ ready_line plant t more k in
      let here : e ≡ ready_line plant t more (suc (length adms)) = subst P next is in
      let Q : Entry → Type 0 = λ x. a ≤ x.at in
      next_ready here (subst Q (sym here) (omega (arith, admitted_added adms a, ready_after_previous plant t more (suc (length adms))))))
      (cases_lt m (suc (length adms)))
    where
      next_ready : e ≡ ready_line plant t more (suc (length adms)) → a ≤ e.at → Adds plant t adms a cancelled e
      next_ready here le = unfold more in inr (inr (here, le))
