-- Blocking intervals of one section never overlap.
use Rattle.std.proofs.Common.{◌≡◌, ℕ, suc, ◌<◌, ◌≤◌, true, false, List, [], ◌∷◌, ◌++◌, length, sym, ap, ◌∙◌, subst, ◌⊎◌, inl, inr, ⊎_elim, arith}
use Rattle.std.proofs.lemmas.Bool.{cases_lt, cases_eq}
use Rattle.rail_base.specs.declared.history.Note.{Note}
use Rattle.rail_rules.specs.Numbers.{is_in}
use Rattle.rail_rules.specs.Plant.{Plant, moves, claimed, steps, claims, step_section}
use Rattle.rail_rules.specs.Fronts.{Line, Front, instant, is_admission, admissions}
use Rattle.rail_rules.specs.Orders.{Input}
use Rattle.rail_rules.specs.Times.{admitted}
use Rattle.rail_rules.specs.Causes.{place}
use Rattle.rail_rules.specs.Lawful.{is_lawful}
use Rattle.rail_rules.proofs.CallerLemmas.{admissions_kept}
use Rattle.rail_laws_front.specs.Premises.{IsWellFormed}
use Rattle.rail_laws_front.specs.Views.{Admits, Follows}
use Rattle.rail_laws_front.specs.Views.Follows.{by_event, by_admission, by_hold, by_end}
use Rattle.rail_laws_front.proofs.Viewing.{lawful_before, lawful_last}
use Rattle.rail_laws_front.proofs.Agreeing.{agree_added, admitted_added, length_added}
use Rattle.rail_laws_front.proofs.Adding.{end_kept, own_overlap_ended}
use Rattle.rail_laws_front.specs.Invariant.{IsTimely}
use Rattle.rail_rules.specs.Apart.AreApart.{one, first, second}
use Rattle.rail_laws_front.proofs.Growing.{admission_added, admission_of_other, event_admits_nothing, waiting_parts}
use Rattle.rail_laws_front.proofs.Timely.{timely}
use Rattle.rail_laws_front.proofs.Unblocked.{ended_on_claimed, needed_bars, other_bars}
use Rattle.rail_laws_front.proofs.Claimed.{step_claimed}
use Rattle.rail_rules.specs.Intervals.{barring}
use Rattle.rail_rules.specs.Apart.{HasEnded, IsStep, AreApart, NeverOverlap}

-- where a line is no admission, steps and intervals are those before it
idle_apart : (plant : Plant) (line : Line) (front : Front) → is_admission line.entry.what ≡ false → NeverOverlap plant front → NeverOverlap plant (line ∷ front)
idle_apart plant line front idle h t m j u n i first_step second_step same =
    let kept = λ (v : ℕ). admissions_kept line front v idle in
    let old_step : (v k l : ℕ) → IsStep plant (line ∷ front) v k l → IsStep plant front v k l = λ v k l step.
    record { known = step.known; admitted_move = omega (arith, ap length (kept v), step.admitted_move); step = step.step } in
    still (h t m j u n i (old_step t m j first_step) (old_step u n i second_step) same)
  where
    ended : (v k l w o : ℕ) → HasEnded plant v (admissions front v) k l (admitted (admissions front w) o) → HasEnded plant v (admissions (line ∷ front) v) k l (admitted (admissions (line ∷ front) w) o)
    ended v k l w o e =
        let P : List ℕ → List ℕ → Type 0 = λ a b. HasEnded plant v a k l (admitted b o) in
        let Q : List ℕ → Type 0 = λ a. P a (admissions front w) in
        let R : List ℕ → Type 0 = λ b. P (admissions (line ∷ front) v) b in
        subst R (sym (admissions_kept line front w idle)) (subst Q (sym (admissions_kept line front v idle)) e)

    still : AreApart plant front t m j u n i → AreApart plant (line ∷ front) t m j u n i
    still (one a b c) = one a b c
    still (first e) = first (ended t m j u n e)
    still (second e) = second (ended u n i t m e)

module _ (input : Input) (fine : IsWellFormed input.plant) (line : Line) (front : Front) (t0 m0 : ℕ) (note : Note) (admits : Admits input front line t0 m0 note) (timely_front : IsTimely input front) where
  -- a step after the admission is one before it, or one of the admitted move
  split_step : (t m j : ℕ) → IsStep input.plant (line ∷ front) t m j → IsStep input.plant front t m j ⊎ ((t ≡ t0) × (m ≡ place front t0))
  split_step t m j step =
      ⊎_elim
      (λ same.
      let S : ℕ → Type 0 = λ v. admissions (line ∷ front) v ≡ admissions front v ++ line.entry.at ∷ [] in
      let grown = subst S (sym same) (admission_added line front t0 m0 note admits.what) in
      ⊎_elim
      (λ old. inl (record { known = step.known; admitted_move = old; step = step.step }))
      (λ new.
      let last : m ≡ length (admissions front t) = omega (arith, length_added (admissions front t) line.entry.at, ap length grown, step.admitted_move) in
      inr (same, last ∙ ap (place front) same))
      (cases_lt m (length (admissions front t))))
      (λ other.
      inl (record { known = step.known; admitted_move = omega (arith, ap length (admission_of_other line front t0 m0 note t admits.what other), step.admitted_move); step = step.step }))
      (cases_eq t t0)

  -- old admissions keep their times
  admitted_kept : (t m : ℕ) → m < length (admissions front t) → admitted (admissions (line ∷ front) t) m ≡ admitted (admissions front t) m
  admitted_kept t m lt =
      ⊎_elim
      (λ same.
      let S : ℕ → Type 0 = λ v. admissions (line ∷ front) v ≡ admissions front v ++ line.entry.at ∷ [] in
      ap (λ adms. admitted adms m) (subst S (sym same) (admission_added line front t0 m0 note admits.what))
      ∙ (agree_added (admissions front t) line.entry.at).same m lt)
      (λ other. ap (λ adms. admitted adms m) (admission_of_other line front t0 m0 note t admits.what other))
      (cases_eq t t0)

  by_now : (t m : ℕ) → m < length (admissions front t) → admitted (admissions (line ∷ front) t) m ≤ line.entry.at
  by_now t m lt = omega (arith, admitted_kept t m lt, timely_front.admitted_by t m lt, admits.now)

  -- intervals that have ended keep their ends
  ended_kept : (t m j time : ℕ) → m < length (admissions front t) → j < claims input.plant t m → time ≤ line.entry.at → HasEnded input.plant t (admissions front t) m j time → HasEnded input.plant t (admissions (line ∷ front) t) m j time
  ended_kept t m j time lt lj past e =
      ⊎_elim
      (λ same.
      let S : ℕ → Type 0 = λ v. admissions (line ∷ front) v ≡ admissions front v ++ line.entry.at ∷ [] in
      let grown = subst S (sym same) (admission_added line front t0 m0 note admits.what) in
      let T : ℕ → Type 0 = λ v. length (admissions front v) < moves input.plant v in
      let room = subst T (sym same) (waiting_parts input front t0 admits.waiting).room in
      let kept = end_kept input.plant t fine (admissions front t) line.entry.at m j room lt lj e.closed (omega (arith, e.by, past)) in
      let P : List ℕ → Type 0 = λ adms. HasEnded input.plant t adms m j time in
      subst P (sym grown) (record { closed = kept.closed; by = omega (arith, kept.same, e.by) }))
      (λ other.
      let P : List ℕ → Type 0 = λ adms. HasEnded input.plant t adms m j time in
      subst P (sym (admission_of_other line front t0 m0 note t admits.what other)) e)
      (cases_eq t t0)

  -- the admission is the last one
  admitted_new : admitted (admissions (line ∷ front) t0) (place front t0) ≡ line.entry.at
  admitted_new =
      ap (λ adms. admitted adms (place front t0)) (admission_added line front t0 m0 note admits.what)
      ∙ admitted_added (admissions front t0) line.entry.at

  -- which old intervals bar the admission: all but those of the overlap of the train's own last move
  own_or_bars : (u n i : ℕ) → i < claims input.plant u n → (i < barring input.plant t0 u (place front u) n) ⊎ ((u ≡ t0) × (suc n ≡ place front t0) × (steps input.plant u n ≤ i))
  own_or_bars u n i li =
      ⊎_elim
      (λ train_same. ⊎_elim
      (λ last. ⊎_elim
      (λ need. inl (needed_bars input.plant t0 u (place front u) n i need))
      (λ over. inr (train_same, last, over))
      (cases_lt i (steps input.plant u n)))
      (λ earlier. inl (other_bars input.plant t0 u (place front u) n i (λ _ is. earlier (is ∙ ap (place front) train_same)) li))
      (cases_eq (suc n) (place front t0)))
      (λ other. inl (other_bars input.plant t0 u (place front u) n i (λ is _. other is) li))
      (cases_eq u t0)

  -- an old interval on a section of the admitted move ended before the admission, or by it where the move takes it over
  ended_for_new : (u n i j : ℕ) → IsStep input.plant front u n i → j < claims input.plant t0 (place front t0)
      → step_section input.plant u n i ≡ step_section input.plant t0 (place front t0) j
      → HasEnded input.plant u (admissions (line ∷ front) u)
      n i
      (admitted (admissions (line ∷ front) t0) (place front t0))
  ended_for_new u n i j step lj same =
      let P : ℕ → Type 0 = λ x. is_in x (claimed input.plant t0 (place front t0)) ≡ true in
      let claim = subst P (sym same) (step_claimed input.plant t0 (place front t0) j lj) in
      let Q : ℕ → Type 0 = λ time. HasEnded input.plant u (admissions (line ∷ front) u) n i time in
      ⊎_elim
      (λ may_bar.
      let over = ended_on_claimed input front t0 u n i admits.unbarred step may_bar claim (timely_front.admitted_by u n step.admitted_move) in
      subst Q (sym (admitted_new ∙ admits.now)) (ended_kept u n i (instant front) step.admitted_move step.step (omega (arith, admits.now)) over))
      (λ own.
      let R : ℕ → Type 0 = λ v. suc n ≡ place front t0 → steps input.plant v n ≤ i → i < claims input.plant v n
      → is_in (step_section input.plant v n i) (claimed input.plant t0 (place front t0)) ≡ true
      → HasEnded input.plant v (admissions (line ∷ front) v) n i line.entry.at in
      subst Q (sym admitted_new) (subst R (sym own.0) own_ended own.1 own.2 step.step claim))
      (own_or_bars u n i step.step)
    where
      own_ended : suc n ≡ place front t0 → steps input.plant t0 n ≤ i → i < claims input.plant t0 n
          → is_in (step_section input.plant t0 n i) (claimed input.plant t0 (place front t0)) ≡ true
          → HasEnded input.plant t0 (admissions (line ∷ front) t0) n i line.entry.at
      own_ended last over li claim =
          let S : List ℕ → Type 0 = λ adms. HasEnded input.plant t0 adms n i line.entry.at in
          let T : ℕ → Type 0 = λ k. is_in (step_section input.plant t0 n i) (claimed input.plant t0 k) ≡ true in
          subst S (sym (admission_added line front t0 m0 note admits.what))
          (own_overlap_ended input.plant t0 fine (admissions front t0) line.entry.at n i last over li (subst T (sym last) claim))

  admission_apart : NeverOverlap input.plant front → NeverOverlap input.plant (line ∷ front)
  admission_apart h t m j u n i first_step second_step same =
      ⊎_elim
      (λ old_first. ⊎_elim
      (λ old_second. still old_first old_second (h t m j u n i old_first old_second same))
      (λ new_second.
      let P : ℕ → ℕ → Type 0 = λ v k. i < claims input.plant v k → step_section input.plant t m j ≡ step_section input.plant v k i → AreApart input.plant (line ∷ front) t m j v k i in
      let Q : ℕ → Type 0 = λ k. P t0 k in
      let R : ℕ → Type 0 = λ v. P v n in
      subst R (sym new_second.0) (subst Q (sym new_second.1) (λ li is. first (ended_for_new t m j i old_first li is))) second_step.step same)
      (split_step u n i second_step))
      (λ new_first. ⊎_elim
      (λ old_second.
      let P : ℕ → ℕ → Type 0 = λ v k. j < claims input.plant v k → step_section input.plant v k j ≡ step_section input.plant u n i → AreApart input.plant (line ∷ front) v k j u n i in
      let Q : ℕ → Type 0 = λ k. P t0 k in
      let R : ℕ → Type 0 = λ v. P v m in
      subst R (sym new_first.0) (subst Q (sym new_first.1) (λ lj is. second (ended_for_new u n i j old_second lj (sym is)))) first_step.step same)
      (λ new_second. both_new new_first new_second)
      (split_step u n i second_step))
      (split_step t m j first_step)
    where
      still : IsStep input.plant front t m j → IsStep input.plant front u n i → AreApart input.plant front t m j u n i → AreApart input.plant (line ∷ front) t m j u n i
      still s1 s2 (one a b c) = one a b c
      still s1 s2 (first e) =
          let P : ℕ → Type 0 = λ time. HasEnded input.plant t (admissions front t) m j time in
          first (ended_kept t m j (admitted (admissions (line ∷ front) u) n) s1.admitted_move s1.step (by_now u n s2.admitted_move) (subst P (sym (admitted_kept u n s2.admitted_move)) e))
      still s1 s2 (second e) =
          let P : ℕ → Type 0 = λ time. HasEnded input.plant u (admissions front u) n i time in
          second (ended_kept u n i (admitted (admissions (line ∷ front) t) m) s2.admitted_move s2.step (by_now t m s1.admitted_move) (subst P (sym (admitted_kept t m s1.admitted_move)) e))

      both_new : (t ≡ t0) × (m ≡ place front t0) → (u ≡ t0) × (n ≡ place front t0) → AreApart input.plant (line ∷ front) t m j u n i
      both_new a b =
          let trains_same : t ≡ u = a.0 ∙ sym b.0 in
          let moves_same : m ≡ n = a.1 ∙ sym b.1 in
          let P : ℕ → ℕ → Type 0 = λ v k. step_section input.plant t m j ≡ step_section input.plant v k i in
          let Q : ℕ → Type 0 = λ k. P t k in
          let R : ℕ → Type 0 = λ v. P v n in
          let S : ℕ → ℕ → Type 0 = λ v k. i < claims input.plant v k in
          let T : ℕ → Type 0 = λ k. S t k in
          let U : ℕ → Type 0 = λ v. S v n in
          let li = subst T (sym moves_same) (subst U (sym trains_same) second_step.step) in
          let is = subst Q (sym moves_same) (subst R (sym trains_same) same) in
          let V : ℕ → Type 0 = λ v. place front v < moves input.plant v in
          let room : m < moves input.plant t = omega (arith, a.1 ∙ ap (place front) (sym a.0), subst V (sym a.0) (waiting_parts input front t0 admits.waiting).room) in
          one trains_same moves_same (fine.distinct t m j i room first_step.step li is)

pub never_overlap : (input : Input) → IsWellFormed input.plant → (front : Front) → is_lawful input front ≡ true → NeverOverlap input.plant front
never_overlap input fine [] lawful = λ t m j u n i first_step second_step same. absurd (omega (arith, first_step.admitted_move))
never_overlap input fine (line ∷ front) lawful = step (lawful_last input line front lawful) (never_overlap input fine front (lawful_before input line front lawful))
  where
    step : Follows input front line → NeverOverlap input.plant front → NeverOverlap input.plant (line ∷ front)
    step (by_event happens) h = idle_apart input.plant line front (event_admits_nothing line.entry.what happens.event) h
    step (by_admission t m note admits) h = admission_apart input fine line front t m note admits (timely input fine front (lawful_before input line front lawful)) h
    step (by_hold t m why holds) h = idle_apart input.plant line front (ap is_admission holds.what) h
    step (by_end ends) h = idle_apart input.plant line front (ap is_admission ends.what) h
