-- The times of what was noted of a lawful history.
use Rattle.std.proofs.Common.{◌≡◌, ℕ, zero, suc, ◌<◌, ◌≤◌, ◌^◌, true, ltb, List, [], ◌∷◌, ◌++◌, length, get_or, sym, ap, ◌∙◌, subst, ⊎_elim, arith}
use Rattle.std.proofs.lemmas.Bool.{cases_eq, cases_lt, cond_both, ltb-true}
use Rattle.rail_block.specs.CarriedTimes.{AreBelow, times_at}
use Rattle.rail_rules.specs.Accepted.{is_accepted_input}
use Rattle.rail_rules.specs.Causes.{is_ready, place}
use Rattle.rail_rules.specs.Fronts.{Front, admissions, is_admission}
use Rattle.rail_rules.specs.Lawful.{is_lawful}
use Rattle.rail_rules.specs.Orders.{Input, input_of}
use Rattle.rail_rules.specs.Plant.{Plant, moves, trains}
use Rattle.rail_rules.specs.Times.{admitted, free_run, ready}
use Rattle.rail_rules.proofs.CallerLemmas.{admissions_kept, gather_same}
use Rattle.rail_laws_front.specs.Premises.{IsWellFormed}
use Rattle.rail_laws_front.specs.Views.{Follows}
use Rattle.rail_laws_front.specs.Views.Follows.{by_event, by_admission, by_hold, by_end}
use Rattle.rail_laws_front.proofs.CallerLemmas.{admission_added, admission_of_other, admitted_added, agree_added, event_admits_nothing, get_or-listed, lawful_before, lawful_last, length-listed, length_added, ready_agrees, waiting_parts, well_formed_from_accepted}
use Rattle.rail_laws_events.proofs.CallerLemmas.{few_admissions, input_parts}
use Rattle.rail_laws_step.specs.TimeLimits.{StaysBelow}
use Rattle.rail_laws_step.proofs.CallerLemmas.{ready_is_past, stays_below}
use Rattle.rail_stairs.specs.declared.stairs.Stairs.{Stairs}
use Rattle.rail_stairs.specs.Journeys.{AreAdmissible, AreAllAdmissible, before_train}
use Rattle.rail_stairs.specs.NotedHistories.{AreNoted, IsNoted, noted_of}
use Rattle.rail_stairs.specs.Stairways.{stairway, train_intervals}

-- no move is admitted before its ready time
pub admitted_when_ready : (input : Input) → IsWellFormed input.plant → (front : Front) → is_lawful input front ≡ true → (t m : ℕ) → m < place front t
    → ready input.plant t (admissions front t) m ≤ admitted (admissions front t) m
admitted_when_ready input fine [] lawful t m lt = absurd (omega arith)
admitted_when_ready input fine (line ∷ front) lawful t m lt =
    step (admitted_when_ready input fine front (lawful_before input line front lawful) t m) (lawful_last input line front lawful)
  where
    IsReady : List ℕ → Type 0
    IsReady adms = ready input.plant t adms m ≤ admitted adms m

    kept_line : admissions (line ∷ front) t ≡ admissions front t → (m < place front t → IsReady (admissions front t)) → IsReady (admissions (line ∷ front) t)
    kept_line same before = subst IsReady (sym same) (before (omega (arith, lt, ap (length {A = ℕ}) same)))

    step : (m < place front t → IsReady (admissions front t)) → Follows input front line → IsReady (admissions (line ∷ front) t)
    step before (by_event happens) = kept_line (admissions_kept line front t (event_admits_nothing line.entry.what happens.event)) before
    step before (by_admission u n note admits) =
        ⊎_elim
        (λ mine.
        let P : ℕ → Type 0 = λ v. is_ready input front v ≡ true in
        let Q : ℕ → Type 0 = λ v. admissions (line ∷ front) v ≡ admissions front v ++ line.entry.at ∷ [] in
        let adms : List ℕ = admissions front t in
        let more : List ℕ = adms ++ line.entry.at ∷ [] in
        let is_ready_now = subst P (sym mine) (waiting_parts input front u admits.waiting).ready in
        let added : admissions (line ∷ front) t ≡ more = subst Q (sym mine) (admission_added line front u n note admits.what) in
        let few : m ≤ length adms = omega (arith, lt, ap (length {A = ℕ}) added, length_added adms line.entry.at) in
        let time = ready_agrees input.plant t more adms (length adms) m (agree_added adms line.entry.at) few in
        subst IsReady (sym added)
        (⊎_elim
        (λ below. omega (arith, time, before below, (agree_added adms line.entry.at).same m below))
        (λ above.
        let same : m ≡ length adms = omega (arith, few, above) in
        omega (
          arith,
          time,
          ap (ready input.plant t adms) same,
          ap (admitted more) same,
          admitted_added adms line.entry.at,
          ready_is_past input fine front t (lawful_before input line front lawful) is_ready_now,
          admits.now,
        ))
        (cases_lt m (length adms))))
        (λ other. kept_line (admission_of_other line front u n note t admits.what other) before)
        (cases_eq t u)
    step before (by_hold u n why holds) = kept_line (admissions_kept line front t (ap is_admission holds.what)) before
    step before (by_end ends) = kept_line (admissions_kept line front t (ap is_admission ends.what)) before

-- the times of each place that was reached are small
times_small : (plant : Plant) (t : ℕ) (adms : List ℕ) (p : ℕ) → p ≤ length adms → length adms ≤ moves plant t → 0 < moves plant t → StaysBelow (2 ^ 51) plant t adms
    → AreBelow (2 ^ 51) (times_at plant t adms p)
times_small plant t adms zero le few some stays = record {
  admitted = omega arith;
  go = omega arith;
  free_run = stays.run zero (omega arith);
  next_ready = stays.readies zero (omega arith) some;
}
times_small plant t adms (suc m) le few some stays = record {
  admitted = stays.admission m;
  go = stays.goes m le;
  free_run = stays.run (suc m) le;
  next_ready = cond_both (ltb (suc m) (moves plant t)) (ready plant t adms (suc m)) (free_run plant t adms (suc m)) (λ x. x < 2 ^ 51)
      (λ left. stays.readies (suc m) le (ltb-true (suc m) (moves plant t) left))
      (λ last. stays.run (suc m) le);
}

-- each train may have the admissions of a lawful front
pub lawful_admissions : (input : Input) → is_accepted_input input ≡ true → (front : Front) → is_lawful input front ≡ true → (t : ℕ) → t < trains input.plant
    → AreAdmissible input.plant t (admissions front t)
lawful_admissions input accepted front lawful t known =
    let fine : IsWellFormed input.plant = well_formed_from_accepted input.plant (input_parts input accepted).0 in
    let few = few_admissions input fine front lawful t known in
    record {
      few = few;
      ready = λ m lt. admitted_when_ready input fine front lawful t m lt;
      below = λ p le. times_small input.plant t (admissions front t) p le few (fine.some_move t known) (stays_below input accepted front t lawful known);
    }

-- what was noted of a train
pub noted_is : (plant : Plant) (front : Front) (stairs : Stairs) → AreNoted plant front stairs → (t : ℕ) → t < trains plant → noted_of stairs t ≡ admissions front t
noted_is plant front stairs h t lt = ap (λ (rows : List (List ℕ)). get_or rows t []) h.admissions ∙ get_or-listed (admissions front) (trains plant) t [] lt

pub noted_rows : (plant : Plant) (front : Front) (stairs : Stairs) → AreNoted plant front stairs → length stairs.admissions.items ≡ trains plant
noted_rows plant front stairs h = ap length h.admissions ∙ length-listed (admissions front) (trains plant)

pub noted_admissible : (plant : Plant) (stairs : Stairs) → IsNoted plant stairs → AreAllAdmissible plant stairs
noted_admissible plant stairs h = λ t lt.
    subst (AreAdmissible plant t) (sym (noted_is plant h.front stairs h.noted t lt))
    (lawful_admissions (input_of h.dispatch plant) h.accepted h.front h.lawful t lt)

-- the intervals of what was noted are the stairway
pub noted_stairway : (plant : Plant) (front : Front) (stairs : Stairs) → AreNoted plant front stairs → before_train plant stairs (trains plant) ≡ stairway plant front
noted_stairway plant front stairs h =
    gather_same (λ u. train_intervals plant u (noted_of stairs u)) (λ t. train_intervals plant t (admissions front t)) (trains plant)
    (λ t lt. ap (train_intervals plant t) (noted_is plant front stairs h t lt))
