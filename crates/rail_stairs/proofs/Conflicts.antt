-- The intervals of a history, ended at its end line, are without conflict.
use Rattle.std.proofs.Common.{◌≡◌, ℕ, zero, suc, ◌<◌, ◌≤◌, Bool, true, false, not, ◌&&◌, ◌||◌, cond, eqb, leb, List, [], ◌∷◌, ◌++◌, length, map, refl, ap, ◌∙◌, ⊎_elim, arith}
use Rattle.std.specs.Prelude.{◌⊎◌, unwrap_or}
use Rattle.std.specs.List.{list_all}
use Rattle.std.proofs.lemmas.Bool.{and_from, and_parts, cases_eq, le-leb, lt-ltb, ne_eqb, or_left, or_right, not_from_false}
use Rattle.std.proofs.lemmas.List.{map-append}
use Rattle.std.proofs.lemmas.List.Folds.{list_all-append}
use Rattle.rail_base.specs.declared.intervals.Interval.{Interval}
use Rattle.rail_capacity.specs.declared.blocking_times.BlockingTime.{BlockingTime}
use Rattle.rail_capacity.specs.BlockingTimes.{are_conflict_free, are_disjoint, block_of, is_in_range}
use Rattle.rail_rules.specs.Accepted.{is_accepted_input}
use Rattle.rail_rules.specs.Fronts.{Front, admissions, has_ended}
use Rattle.rail_rules.specs.Intervals.{has_interval}
use Rattle.rail_rules.specs.Lawful.{is_complete, is_lawful}
use Rattle.rail_rules.specs.Numbers.{gather}
use Rattle.rail_rules.specs.Orders.{Input}
use Rattle.rail_rules.specs.Apart.{IsStep}
use Rattle.rail_rules.specs.Plant.{claims, trains}
use Rattle.rail_stairs.specs.EndedIntervals.{interval_in}
use Rattle.rail_stairs.specs.Stairways.{ended_at, ended_by, stairway, step_intervals}
use Rattle.rail_stairs.proofs.Ending.{disjoint_at_end, positive_at_end}
use Rattle.rail_stairs.proofs.There.{there_all, there_map}

free_append : (xs ys : List BlockingTime) → are_conflict_free xs ≡ true → are_conflict_free ys ≡ true → list_all (λ x. list_all (are_disjoint x) ys) xs ≡ true
    → are_conflict_free (xs ++ ys) ≡ true
free_append [] ys fx fy cross = fy
free_append (x ∷ xs) ys fx fy cross =
    let p = and_parts (is_in_range x && list_all (are_disjoint x) xs) (are_conflict_free xs) fx in
    let q = and_parts (is_in_range x) (list_all (are_disjoint x) xs) p.0 in
    let c = and_parts (list_all (are_disjoint x) ys) (list_all (λ z. list_all (are_disjoint z) ys) xs) cross in
    and_from (is_in_range x && list_all (are_disjoint x) (xs ++ ys)) (are_conflict_free (xs ++ ys))
    (and_from (is_in_range x) (list_all (are_disjoint x) (xs ++ ys)) q.0
    (list_all-append (are_disjoint x) xs ys ∙ and_from (list_all (are_disjoint x) xs) (list_all (are_disjoint x) ys) q.1 c.0))
    (free_append xs ys p.1 fy c.1)

-- what holds of each of the lists holds of them gathered
pub all_gathered : {X : Type 0} (p : X → Bool) (f : ℕ → List X) (n : ℕ) → ((i : ℕ) → i < n → list_all p (f i) ≡ true) → list_all p (gather f n) ≡ true
all_gathered p f zero each = refl
all_gathered p f (suc n) each =
    list_all-append p (gather f n) (f n)
    ∙ and_from (list_all p (gather f n)) (list_all p (f n)) (all_gathered p f n (λ i lt. each i (omega (arith, lt)))) (each n (omega arith))

free_gathered : (f : ℕ → List BlockingTime) (n : ℕ) → ((i : ℕ) → i < n → are_conflict_free (f i) ≡ true)
    → ((i k : ℕ) → i < k → k < n → list_all (λ x. list_all (are_disjoint x) (f k)) (f i) ≡ true) → are_conflict_free (gather f n) ≡ true
free_gathered f zero each cross = refl
free_gathered f (suc n) each cross =
    free_append (gather f n) (f n)
    (free_gathered f n (λ i lt. each i (omega (arith, lt))) (λ i k less lt. cross i k less (omega (arith, lt))))
    (each n (omega arith))
    (all_gathered (λ x. list_all (are_disjoint x) (f n)) f n (λ i lt. cross i n lt (omega arith)))

map_gathered : {X Y : Type 0} (g : X → Y) (f : ℕ → List X) (n : ℕ) → map g (gather f n) ≡ gather (λ i. map g (f i)) n
map_gathered g f zero = refl
map_gathered g f (suc n) = map-append g (gather f n) (f n) ∙ ap (λ xs. xs ++ map g (f n)) (map_gathered g f n)

gather_each : {X : Type 0} (f g : ℕ → List X) (n : ℕ) → ((i : ℕ) → f i ≡ g i) → gather f n ≡ gather g n
gather_each f g zero same = refl
gather_each f g (suc n) same = λ k. gather_each f g n same k ++ same n k

-- a blocking time that is there is without conflict where it is in range
free_there : (b : Bool) (x : BlockingTime) → (b ≡ true → is_in_range x ≡ true) → are_conflict_free (cond b (x ∷ []) []) ≡ true
free_there true x h = and_from (is_in_range x && true) true (and_from (is_in_range x) true (h refl) refl) refl
free_there false x h = refl

-- two that are there are apart where they are so at all
pair_there : {X : Type 0} (p : X → X → Bool) (a b : Bool) (x y : X) → p x y ≡ true → list_all (λ z. list_all (p z) (cond b (y ∷ []) [])) (cond a (x ∷ []) []) ≡ true
pair_there p a b x y h = there_all (λ z. list_all (p z) (cond b (y ∷ []) [])) a x (λ _. there_all (p x) b y (λ _. h))

-- of two blocking times on one section one ends before the other begins
disjoint_from : (a b : BlockingTime) → (a.section ≡ b.section → (a.«end» ≤ b.begin) ⊎ (b.«end» ≤ a.begin)) → are_disjoint a b ≡ true
disjoint_from a b h =
    ⊎_elim
    (λ same. ⊎_elim
    (λ le. or_left (not (eqb a.section b.section) || leb a.«end» b.begin) (leb b.«end» a.begin) (or_right (not (eqb a.section b.section)) (leb a.«end» b.begin) (le-leb a.«end» b.begin le)))
    (λ le. or_right (not (eqb a.section b.section) || leb a.«end» b.begin) (leb b.«end» a.begin) (le-leb b.«end» a.begin le))
    (h same))
    (λ other. or_left (not (eqb a.section b.section) || leb a.«end» b.begin) (leb b.«end» a.begin)
    (or_left (not (eqb a.section b.section)) (leb a.«end» b.begin) (not_from_false (eqb a.section b.section) (ne_eqb a.section b.section other))))
    (cases_eq a.section b.section)

module _ (input : Input) (accepted : is_accepted_input input ≡ true) (front : Front) (complete : is_complete input front ≡ true) where
  lawful : is_lawful input front ≡ true
  lawful = (and_parts (is_lawful input front) (has_ended front) complete).0

  abbrev block : ℕ → ℕ → ℕ → BlockingTime
  block t m j = block_of (ended_by (unwrap_or (ended_at front) 0) (interval_in input.plant front t m j))

  abbrev has : ℕ → ℕ → ℕ → Bool
  has t m j = has_interval input.plant t (admissions front t) m j

  abbrev blocks_at : ℕ → ℕ → ℕ → List BlockingTime
  blocks_at t m j = cond (has t m j) (block t m j ∷ []) []

  abbrev step_blocks : ℕ → ℕ → List BlockingTime
  step_blocks t m = gather (blocks_at t m) (claims input.plant t m)

  abbrev train_blocks : ℕ → List BlockingTime
  train_blocks t = gather (step_blocks t) (length (admissions front t))

  in_range : (t m j : ℕ) → IsStep input.plant front t m j → has t m j ≡ true → is_in_range (block t m j) ≡ true
  in_range t m j step there =
      let h = positive_at_end input accepted front complete t m j step there in
      and_from _ _ (lt-ltb _ _ h.positive) (lt-ltb _ _ h.small)

  apart : (t m j u n i : ℕ) → IsStep input.plant front t m j → IsStep input.plant front u n i → ((t ≡ u) × (m ≡ n) × (j ≡ i) → ⊥) → are_disjoint (block t m j) (block u n i) ≡ true
  apart t m j u n i one other differ = disjoint_from (block t m j) (block u n i) (λ section. ⊎_elim (λ same. absurd (differ same)) (λ h. h) (disjoint_at_end input accepted front lawful t m j u n i one other section))

  step_of : (t m j : ℕ) → t < trains input.plant → m < length (admissions front t) → j < claims input.plant t m → IsStep input.plant front t m j
  step_of t m j lt lm lj = record { known = lt; admitted_move = lm; step = lj }

  move_free : (t m : ℕ) → t < trains input.plant → m < length (admissions front t) → are_conflict_free (step_blocks t m) ≡ true
  move_free t m lt lm =
      free_gathered (blocks_at t m) (claims input.plant t m)
      (λ j lj. free_there (has t m j) (block t m j) (in_range t m j (step_of t m j lt lm lj)))
      (λ j i less li. pair_there are_disjoint (has t m j) (has t m i) (block t m j) (block t m i)
      (apart t m j t m i (step_of t m j lt lm (omega (arith, less, li))) (step_of t m i lt lm li) (λ same. omega (arith, less, same.2))))

  cross : (t m u n : ℕ) → t < trains input.plant → m < length (admissions front t) → u < trains input.plant → n < length (admissions front u) → ((t ≡ u) × (m ≡ n) → ⊥)
      → list_all (λ x. list_all (are_disjoint x) (step_blocks u n)) (step_blocks t m) ≡ true
  cross t m u n lt lm lu ln differ =
      all_gathered (λ x. list_all (are_disjoint x) (step_blocks u n)) (blocks_at t m) (claims input.plant t m)
      (λ j lj. there_all (λ x. list_all (are_disjoint x) (step_blocks u n)) (has t m j) (block t m j)
      (λ there. all_gathered (are_disjoint (block t m j)) (blocks_at u n) (claims input.plant u n)
      (λ i li. there_all (are_disjoint (block t m j)) (has u n i) (block u n i)
      (λ other. apart t m j u n i (step_of t m j lt lm lj) (step_of u n i lu ln li) (λ same. differ (same.0, same.1))))))

  train_free : (t : ℕ) → t < trains input.plant → are_conflict_free (train_blocks t) ≡ true
  train_free t lt =
      free_gathered (step_blocks t) (length (admissions front t)) (λ m lm. move_free t m lt lm)
      (λ m n less ln. cross t m t n lt (omega (arith, less, ln)) lt ln (λ same. omega (arith, less, same.1)))

  trains_apart : (t u : ℕ) → t < u → u < trains input.plant → list_all (λ x. list_all (are_disjoint x) (train_blocks u)) (train_blocks t) ≡ true
  trains_apart t u less lu =
      all_gathered (λ x. list_all (are_disjoint x) (train_blocks u)) (step_blocks t) (length (admissions front t))
      (λ m lm. all_gathered (λ x. list_all (are_disjoint x) (train_blocks u)) (blocks_at t m) (claims input.plant t m)
      (λ j lj. there_all (λ x. list_all (are_disjoint x) (train_blocks u)) (has t m j) (block t m j)
      (λ there. all_gathered (are_disjoint (block t m j)) (step_blocks u) (length (admissions front u))
      (λ n ln. all_gathered (are_disjoint (block t m j)) (blocks_at u n) (claims input.plant u n)
      (λ i li. there_all (are_disjoint (block t m j)) (has u n i) (block u n i)
      (λ other. apart t m j u n i (step_of t m j (omega (arith, less, lu)) lm lj) (step_of u n i lu ln li) (λ same. omega (arith, less, same.0))))))))

  all_free : are_conflict_free (gather train_blocks (trains input.plant)) ≡ true
  all_free = free_gathered train_blocks (trains input.plant) train_free trains_apart

  -- the ended intervals are these
  blocks_are : map block_of (map (ended_by (unwrap_or (ended_at front) 0)) (stairway input.plant front)) ≡ gather train_blocks (trains input.plant)
  blocks_are =
      twice (trains input.plant) _
      ∙ gather_each _ train_blocks (trains input.plant)
      (λ t. twice (length (admissions front t)) _
      ∙ gather_each _ (step_blocks t) (length (admissions front t))
      (λ m. twice (claims input.plant t m) _ ∙ gather_each _ (blocks_at t m) (claims input.plant t m) (λ j. block_there t m j)))
    where
      block_there : (t m j : ℕ) → map block_of (map (ended_by (unwrap_or (ended_at front) 0)) (step_intervals input.plant t (admissions front t) m j)) ≡ blocks_at t m j
      block_there t m j =
          let interval : Interval = interval_in input.plant front t m j in
          ap (map block_of) (there_map (ended_by (unwrap_or (ended_at front) 0)) (has t m j) interval)
          ∙ there_map block_of (has t m j) (ended_by (unwrap_or (ended_at front) 0) interval)

      twice : (n : ℕ) (f : ℕ → List Interval) → map block_of (map (ended_by (unwrap_or (ended_at front) 0)) (gather f n)) ≡ gather (λ i. map block_of (map (ended_by (unwrap_or (ended_at front) 0)) (f i))) n
      twice n f = ap (map block_of) (map_gathered (ended_by (unwrap_or (ended_at front) 0)) f n) ∙ map_gathered block_of (λ i. map (ended_by (unwrap_or (ended_at front) 0)) (f i)) n

  pub conflict_free : are_conflict_free (map block_of (map (ended_by (unwrap_or (ended_at front) 0)) (stairway input.plant front))) ≡ true
  conflict_free = ap are_conflict_free blocks_are ∙ all_free
