-- What each line changes in the account.
use Rattle.std.proofs.Common.{◌≡◌, ℕ, zero, suc, ◌+◌, ◌-◌, ◌<◌, min, Bool, true, false, not, cond, eqb, ltb, List, [], ◌∷◌, ◌++◌, length, Option, Some, None, refl, sym, ap, ◌∙◌, subst, ⊎_elim, arith, add-zero, add-suc}
use Rattle.std.proofs.lemmas.Bool.{cases_Bool, cases_lt, false≢true, and_left, and_right, and_from, or_left, lt-ltb, le-ltb, ne_eqb, cond-true, cond-false, not_from_true, not_from_false}
use Rattle.rail_base.specs.declared.history.Entry.{Entry}
use Rattle.rail_base.specs.declared.history.Note.{Note}
use Rattle.rail_base.specs.declared.history.What.{What}
use Rattle.rail_base.specs.declared.history.What.TheVariants.{Free, Arrive, Enter, Out, Ready, Told, Untold, Admit, Hold, End}
use Rattle.rail_rules.specs.Numbers.{gather, sum_below}
use Rattle.rail_rules.specs.Plant.{Plant, trains, moves, overlap, steps, claims, step_section}
use Rattle.rail_rules.specs.Fronts.{Line, Front, at_time, is_admission, admissions}
use Rattle.rail_rules.specs.Orders.{Input}
use Rattle.rail_rules.specs.Times.{is_admitted, out, clearing}
use Rattle.rail_rules.specs.Intervals.{does_stand, is_open, is_taken_over, is_unfreed, end_time, freed_at}
use Rattle.rail_rules.specs.Events.{enter_line, arrive_line, free_lines, out_lines, ready_line, move_events, moved_events, ready_events, train_events}
use Rattle.rail_rules.specs.Causes.{place}
use Rattle.rail_rules.specs.Lawful.{is_lawful}
use Rattle.rail_rules.proofs.CallerLemmas.{gather_same, admissions_kept, claims_are, freed_from, needed_not_taken}
use Rattle.rail_laws_front.specs.Premises.{IsWellFormed}
use Rattle.rail_laws_front.specs.Views.{Admits}
use Rattle.rail_laws_front.proofs.CallerLemmas.{lawful_before, Agree, agree_added, length_added, is_added, ready_agrees, enter_agrees, arrive_agrees, unfreed_agrees, end_agrees, end_inner_agrees, not_admitted, last_does_stand, admission_added, admission_of_other, waiting_parts, waiting_known}
use Rattle.rail_laws_events.specs.Accounts.{tally, is_train_event, written, all_events, to_come}
use Rattle.rail_laws_events.specs.Changes.{overlap_frees, taken_back, freed_before, ready_after, gained}
use Rattle.rail_laws_events.proofs.Tallies.{tally-append}
use Rattle.rail_laws_events.proofs.Balance.{account}

pub tally-gather : (p : Entry → Bool) (f : ℕ → List Entry) (n : ℕ) → tally p (gather f n) ≡ sum_below (λ i. tally p (f i)) n
tally-gather p f zero = refl
tally-gather p f (suc n) = omega (arith, tally-append p (gather f n) (f n), tally-gather p f n)

-- sums of two numbers each
sum-three : (f g h : ℕ → ℕ) (n : ℕ) → ((i : ℕ) → i < n → f i ≡ g i + h i) → sum_below f n ≡ sum_below g n + sum_below h n
sum-three f g h zero each = refl
sum-three f g h (suc n) each = omega (arith, sum-three f g h n (λ i lt. each i (omega (arith, lt))), each n (omega arith))

-- a sum over more numbers in two parts
sum-split : (f : ℕ → ℕ) (a b : ℕ) → sum_below f (a + b) ≡ sum_below f a + sum_below (λ i. f (a + i)) b
sum-split f a zero = ap (sum_below f) (add-zero a) ∙ omega arith
sum-split f a (suc b) = ap (sum_below f) (add-suc a b) ∙ omega (arith, sum-split f a b)

-- sums that differ at one number
sum-exchanged : (f g : ℕ → ℕ) (lost more n t : ℕ) → t < n → f t + lost ≡ g t + more → ((i : ℕ) → i < n → (i ≡ t → ⊥) → f i ≡ g i) → sum_below f n + lost ≡ sum_below g n + more
sum-exchanged f g lost more zero t lt here others = absurd (omega arith)
sum-exchanged f g lost more (suc n) t lt here others =
    let before : t < n → sum_below f n + lost ≡ sum_below g n + more = λ below. sum-exchanged f g lost more n t below here (λ i li ne. others i (omega (arith, li)) ne) in
    ⊎_elim
    (λ below. omega (arith, before below, others n (omega arith) (λ e. omega (arith, below, e))))
    (λ above.
    let same : t ≡ n = omega (arith, lt, above) in
    let P : ℕ → Type 0 = λ k. f k + lost ≡ g k + more in
    omega (arith, subst P same here, sum-same f g n (λ i li. others i (omega (arith, li)) (λ e. omega (arith, above, li, e)))))
    (cases_lt t n)
  where
    sum-same : (f g : ℕ → ℕ) (n : ℕ) → ((i : ℕ) → i < n → f i ≡ g i) → sum_below f n ≡ sum_below g n
    sum-same f g zero each = refl
    sum-same f g (suc n) each = omega (arith, sum-same f g n (λ i li. each i (omega (arith, li))), each n (omega arith))

module _ (plant : Plant) (fine : IsWellFormed plant) (t : ℕ) (adms : List ℕ) (a : ℕ) (p : Entry → Bool) where
  abbrev pub more : List ℕ
  more = adms ++ a ∷ []

  agrees : Agree more adms (length adms)
  agrees = agree_added adms a

  -- the lines of an earlier move are the same
  earlier_same : (m : ℕ) → suc m < length adms → move_events plant t more m ≡ move_events plant t adms m
  earlier_same m lt =
      let enters : gather (λ j. enter_line plant t more m j ∷ []) (steps plant t m) ≡ gather (λ j. enter_line plant t adms m j ∷ []) (steps plant t m) =
      gather_same (λ j. enter_line plant t more m j ∷ []) (λ j. enter_line plant t adms m j ∷ []) (steps plant t m)
      (λ j _. ap (λ time. at_time time (Enter t (suc m) (step_section plant t m j)) ∷ []) (enter_agrees plant t more adms (length adms) m j agrees (omega (arith, lt)))) in
      let arrives = arrive_agrees plant t more adms (length adms) m agrees lt in
      let frees : gather (λ j. free_lines t (step_section plant t m j) (freed_at plant t more m j)) (claims plant t m) ≡ gather (λ j. free_lines t (step_section plant t m j) (freed_at plant t adms m j)) (claims plant t m) =
      gather_same (λ j. free_lines t (step_section plant t m j) (freed_at plant t more m j)) (λ j. free_lines t (step_section plant t m j) (freed_at plant t adms m j)) (claims plant t m)
      (λ j _.
      let unfreed = unfreed_agrees plant t more adms (length adms) m j agrees lt in
      let ends = end_agrees plant t more adms (length adms) m j agrees lt in
      λ i. free_lines t (step_section plant t m j) (cond (unfreed i) None (Some (ends i)))) in
      λ i. enters i ++ at_time (arrives i) (Arrive t (suc m)) ∷ [] ++ frees i ++ cond (eqb (suc m) (moves plant t)) (at_time (arrives i + clearing plant t (step_section plant t m (steps plant t m - 1))) (Out t) ∷ []) []

  -- the free line of one needed step of the move before
  free_change : (m j : ℕ) → suc m ≡ length adms → suc m < moves plant t → j < steps plant t m
      → tally p (free_lines t (step_section plant t m j) (freed_at plant t more m j))
      ≡ tally p (free_lines t (step_section plant t m j) (freed_at plant t adms m j))
      + tally p
      (cond (does_stand plant t m j)
      (at_time (end_time plant t more m j) (Free (step_section plant t m j) t) ∷ [])
      [])
  free_change m j last room lt =
      let one : List Entry = at_time (end_time plant t (adms ++ a ∷ []) m j) (Free (step_section plant t m j) t) ∷ [] in
      let lines : Option ℕ → List Entry = free_lines t (step_section plant t m j) in
      let P : ℕ → Type 0 = λ k. is_admitted (adms ++ a ∷ []) k ≡ true in
      let now : is_admitted (adms ++ a ∷ []) (suc m) ≡ true = subst P (sym last) (is_added adms a) in
      let before : is_admitted adms (suc m) ≡ false = not_admitted adms (suc m) (omega (arith, last)) in
      let closed_now : is_open plant t (adms ++ a ∷ []) m j ≡ false = and_right (does_stand plant t m j) (not (is_admitted (adms ++ a ∷ []) (suc m))) (not_from_true (is_admitted (adms ++ a ∷ []) (suc m)) now) in
      let freed_now : is_unfreed plant t (adms ++ a ∷ []) m j ≡ false = freed_from plant t (adms ++ a ∷ []) m j closed_now (needed_not_taken plant t (adms ++ a ∷ []) m j lt) in
      let after_is : lines (freed_at plant t (adms ++ a ∷ []) m j) ≡ one = ap lines (cond-false (is_unfreed plant t (adms ++ a ∷ []) m j) None (Some (end_time plant t (adms ++ a ∷ []) m j)) freed_now) in
      ⊎_elim
      (λ stands.
      let opened : is_open plant t adms m j ≡ true = and_from (does_stand plant t m j) (not (is_admitted adms (suc m))) stands (not_from_false (is_admitted adms (suc m)) before) in
      let unfreed : is_unfreed plant t adms m j ≡ true = or_left (is_open plant t adms m j) (is_taken_over plant t adms m j) opened in
      let before_is : lines (freed_at plant t adms m j) ≡ [] = ap lines (cond-true (is_unfreed plant t adms m j) None (Some (end_time plant t adms m j)) unfreed) in
      omega (arith, ap (tally p) after_is, ap (tally p) before_is, ap (tally p) (cond-true (does_stand plant t m j) one [] stands)))
      (λ runs.
      let closed : is_open plant t adms m j ≡ false = and_left (does_stand plant t m j) (not (is_admitted adms (suc m))) runs in
      let freed : is_unfreed plant t adms m j ≡ false = freed_from plant t adms m j closed (needed_not_taken plant t adms m j lt) in
      let inner : suc j ≡ steps plant t m → ⊥ = λ is. false≢true (sym runs ∙ last_does_stand plant t fine m j room is) in
      let time : end_time plant t (adms ++ a ∷ []) m j ≡ end_time plant t adms m j = end_inner_agrees plant t (adms ++ a ∷ []) adms (length adms) m j (agree_added adms a) (omega (arith, last)) lt inner runs in
      let before_is : lines (freed_at plant t adms m j) ≡ one = ap lines (cond-false (is_unfreed plant t adms m j) None (Some (end_time plant t adms m j)) freed) ∙ ap (λ e. at_time e (Free (step_section plant t m j) t) ∷ []) (sym time) in
      omega (arith, ap (tally p) after_is, ap (tally p) before_is, ap (tally p) (cond-false (does_stand plant t m j) one [] runs)))
      (cases_Bool (does_stand plant t m j))

  -- the free lines of a move are those of its needed sections and those of its overlap
  frees_split : (list : List ℕ) (m : ℕ) → tally p (gather (λ j. free_lines t (step_section plant t m j) (freed_at plant t list m j)) (claims plant t m))
      ≡ sum_below (λ j. tally p (free_lines t (step_section plant t m j) (freed_at plant t list m j))) (steps plant t m) + tally p (overlap_frees plant t list m)
  frees_split list m =
      let free : ℕ → List Entry = λ j. free_lines t (step_section plant t m j) (freed_at plant t list m j) in
      tally-gather p free (claims plant t m)
      ∙ ap (sum_below (λ j. tally p (free j))) (claims_are plant t m)
      ∙ sum-split (λ j. tally p (free j)) (steps plant t m) (length (overlap plant t m))
      ∙ ap (λ n. sum_below (λ j. tally p (free j)) (steps plant t m) + n) (sym (tally-gather p (λ i. free (steps plant t m + i)) (length (overlap plant t m))))

  -- the lines of the move before: its arrival and the frees of its overlap may change, and the sections on which the train stood are freed
  before_change : (m : ℕ) → suc m ≡ length adms → suc m < moves plant t → tally p (move_events plant t more m) + tally p (taken_back plant t adms (suc m)) ≡ tally p (move_events plant t adms m) + tally p (taken_back plant t more (suc m)) + tally p (freed_before plant t more (suc m))
  before_change m last room =
      let enters_now : List Entry = gather (λ j. enter_line plant t more m j ∷ []) (steps plant t m) in
      let enters : List Entry = gather (λ j. enter_line plant t adms m j ∷ []) (steps plant t m) in
      let enters_same : enters_now ≡ enters =
      gather_same (λ j. enter_line plant t more m j ∷ []) (λ j. enter_line plant t adms m j ∷ []) (steps plant t m)
      (λ j _. ap (λ time. at_time time (Enter t (suc m) (step_section plant t m j)) ∷ []) (enter_agrees plant t more adms (length adms) m j agrees (omega (arith, last)))) in
      let free_now : ℕ → List Entry = λ j. free_lines t (step_section plant t m j) (freed_at plant t more m j) in
      let free : ℕ → List Entry = λ j. free_lines t (step_section plant t m j) (freed_at plant t adms m j) in
      let freed : ℕ → List Entry = λ j. cond (does_stand plant t m j) (at_time (end_time plant t more m j) (Free (step_section plant t m j) t) ∷ []) [] in
      let frees : sum_below (λ j. tally p (free_now j)) (steps plant t m) ≡ sum_below (λ j. tally p (free j)) (steps plant t m) + sum_below (λ j. tally p (freed j)) (steps plant t m) =
      sum-three (λ j. tally p (free_now j)) (λ j. tally p (free j)) (λ j. tally p (freed j)) (steps plant t m) (λ j lt. free_change m j last room lt) in
      let out_is : (list : List ℕ) → out_lines plant t list m ≡ [] = λ list. cond-false (eqb (suc m) (moves plant t)) (at_time (out plant t list m) (Out t) ∷ []) [] (ne_eqb (suc m) (moves plant t) (λ e. omega (arith, room, e))) in
      let arrival_now : List Entry = arrive_line plant t more m ∷ [] in
      let arrival : List Entry = arrive_line plant t adms m ∷ [] in
      omega (
        arith,
        tally-append p (enters_now ++ arrival_now ++ gather free_now (claims plant t m)) (out_lines plant t more m),
        tally-append p (enters_now ++ arrival_now) (gather free_now (claims plant t m)),
        tally-append p enters_now arrival_now,
        tally-append p (enters ++ arrival ++ gather free (claims plant t m)) (out_lines plant t adms m),
        tally-append p (enters ++ arrival) (gather free (claims plant t m)),
        tally-append p enters arrival,
        ap (tally p) enters_same,
        ap (tally p) (out_is more),
        ap (tally p) (out_is adms),
        frees_split more m,
        frees_split adms m,
        tally-gather p freed (steps plant t m),
        frees,
      )

  -- the lines of all earlier moves
  earlier_change : (n : ℕ) → n ≡ length adms → n < moves plant t → tally p (gather (move_events plant t more) n) + tally p (taken_back plant t adms n) ≡ tally p (gather (move_events plant t adms) n) + tally p (taken_back plant t more n) + tally p (freed_before plant t more n)
  earlier_change zero is room = omega arith
  earlier_change (suc m) is room =
      let same : gather (move_events plant t more) m ≡ gather (move_events plant t adms) m = gather_same (move_events plant t more) (move_events plant t adms) m (λ i lt. earlier_same i (omega (arith, lt, is))) in
      omega (
        arith,
        tally-append p (gather (move_events plant t more) m) (move_events plant t more m),
        tally-append p (gather (move_events plant t adms) m) (move_events plant t adms m),
        ap (tally p) same,
        before_change m is room,
      )

  long : length more ≡ suc (length adms)
  long = length_added adms a

  -- the ready lines: one more, where there is a next move
  ready_change : length adms < moves plant t → tally p (ready_events plant t more) ≡ tally p (ready_events plant t adms) + tally p (ready_after plant t more (length adms))
  ready_change room =
      let n : ℕ = length adms in
      let now : ℕ → List Entry = λ m. ready_line plant t more m ∷ [] in
      let before : ℕ → List Entry = λ m. ready_line plant t adms m ∷ [] in
      let same : gather now (suc n) ≡ gather before (suc n) =
      gather_same now before (suc n) (λ m lt. ap (λ time. at_time time (Ready t (suc m)) ∷ []) (ready_agrees plant t more adms n m agrees (omega (arith, lt)))) in
      let count : min (suc n) (moves plant t) ≡ suc n = omega (arith, room) in
      ⊎_elim
      (λ next.
      let count_now : min (suc (length more)) (moves plant t) ≡ suc (suc n) = omega (arith, next, long) in
      omega (
        arith,
        ap (λ k. tally p (gather now k)) count_now,
        ap (λ k. tally p (gather before k)) count,
        ap (tally p) same,
        tally-append p (gather now (suc n)) (now (suc n)),
        ap (tally p) (cond-true (ltb (suc n) (moves plant t)) (now (suc n)) [] (lt-ltb (suc n) (moves plant t) next)),
      ))
      (λ none.
      let count_now : min (suc (length more)) (moves plant t) ≡ suc n = omega (arith, room, none, long) in
      omega (
        arith,
        ap (λ k. tally p (gather now k)) count_now,
        ap (λ k. tally p (gather before k)) count,
        ap (tally p) same,
        ap (tally p) (cond-false (ltb (suc n) (moves plant t)) (now (suc n)) [] (le-ltb (suc n) (moves plant t) none)),
      ))
      (cases_lt (suc n) (moves plant t))

  pub train_change : length adms < moves plant t → tally p (train_events plant t more false) + tally p (taken_back plant t adms (length adms)) ≡ tally p (train_events plant t adms false) + tally p (gained plant t more (length adms))
  train_change room =
      let n : ℕ = length adms in
      let moved_now : tally p (moved_events plant t more) ≡ tally p (gather (move_events plant t more) n) + tally p (move_events plant t more n) =
      ap (λ k. tally p (gather (move_events plant t more) k)) long ∙ tally-append p (gather (move_events plant t more) n) (move_events plant t more n) in
      omega (
        arith,
        moved_now,
        tally-append p (moved_events plant t more) (ready_events plant t more),
        tally-append p (moved_events plant t adms) (ready_events plant t adms),
        earlier_change n refl room,
        ready_change room,
        tally-append p (taken_back plant t more n ++ freed_before plant t more n ++ move_events plant t more n) (ready_after plant t more n),
        tally-append p (taken_back plant t more n ++ freed_before plant t more n) (move_events plant t more n),
        tally-append p (taken_back plant t more n) (freed_before plant t more n),
      )

-- after a line that admits nothing the event lines of the admissions are the same
events_same : (plant : Plant) (line : Line) (front : Front) → is_admission line.entry.what ≡ false → all_events plant (line ∷ front) ≡ all_events plant front
events_same plant line front idle =
    gather_same (λ t. train_events plant t (admissions (line ∷ front) t) false) (λ t. train_events plant t (admissions front t) false) (trains plant)
    (λ t _. ap (λ adms. train_events plant t adms false) (admissions_kept line front t idle))

-- what is to come before and after a line of an event of a train, and after any other that admits nothing
pub event_change : (input : Input) → IsWellFormed input.plant → (line : Line) (front : Front)
    → is_lawful input (line ∷ front) ≡ true → is_admission line.entry.what ≡ false → (p : Entry → Bool)
    → tally p (to_come input.plant (line ∷ front))
    + tally p (cond (is_train_event line.entry.what) (line.entry ∷ []) []) ≡ tally p (to_come input.plant front)
event_change input fine line front lawful idle p =
    omega (
      arith,
      account input fine (line ∷ front) lawful p,
      account input fine front (lawful_before input line front lawful) p,
      ap (tally p) (events_same input.plant line front idle),
      tally-append p (cond (is_train_event line.entry.what) (line.entry ∷ []) []) (written front),
    )

-- an admission exchanges the arrival before it and adds the lines of its move
pub admission_change : (input : Input) → IsWellFormed input.plant → (line : Line) (front : Front)
    → is_lawful input (line ∷ front) ≡ true → (t m : ℕ) (note : Note) → Admits input front line t m note
    → (p : Entry → Bool)
    → tally p (to_come input.plant (line ∷ front))
    + tally p (taken_back input.plant t (admissions front t) (place front t))
    ≡ tally p (to_come input.plant front)
    + tally p (gained input.plant t (admissions (line ∷ front) t) (place front t))
admission_change input fine line front lawful t m note admits p =
    let room = (waiting_parts input front t admits.waiting).room in
    let known = waiting_known input.plant t (place front t) room in
    let adms : List ℕ = admissions front t in
    let now : ℕ → ℕ = λ u. tally p (train_events input.plant u (admissions (line ∷ front) u) false) in
    let before : ℕ → ℕ = λ u. tally p (train_events input.plant u (admissions front u) false) in
    let added = admission_added line front t m note admits.what in
    let here : now t + tally p (taken_back input.plant t adms (length adms)) ≡ before t + tally p (gained input.plant t (admissions (line ∷ front) t) (length adms)) =
    omega (arith, ap (λ list. tally p (train_events input.plant t list false)) added, ap (λ list. tally p (gained input.plant t list (length adms))) added, train_change input.plant fine t adms line.entry.at p room) in
    omega (
      arith,
      account input fine (line ∷ front) lawful p,
      account input fine front (lawful_before input line front lawful) p,
      tally-gather p (λ u. train_events input.plant u (admissions (line ∷ front) u) false) (trains input.plant),
      tally-gather p (λ u. train_events input.plant u (admissions front u) false) (trains input.plant),
      sum-exchanged now before (tally p (taken_back input.plant t adms (length adms))) (tally p (gained input.plant t (admissions (line ∷ front) t) (length adms))) (trains input.plant) t known here
          (λ u lu other. ap (λ list. tally p (train_events input.plant u list false)) (admission_of_other line front t m note u admits.what other)),
      ap (λ what. tally p (cond (is_train_event what) (line.entry ∷ []) [])) admits.what,
      tally-append p (cond (is_train_event line.entry.what) (line.entry ∷ []) []) (written front),
    )

train_event_idle : (what : What) → is_train_event what ≡ true → is_admission what ≡ false
train_event_idle (Admit t m note) kind = absurd (false≢true kind)
train_event_idle (Free x t) kind = refl
train_event_idle (Arrive t m) kind = refl
train_event_idle (Enter t m x) kind = refl
train_event_idle (Out t) kind = refl
train_event_idle (Ready t m) kind = refl
train_event_idle (Told k) kind = refl
train_event_idle (Untold k) kind = refl
train_event_idle (Hold t m why) kind = refl
train_event_idle End kind = refl

pub train_event_change : (input : Input) → IsWellFormed input.plant → (line : Line) (front : Front)
    → is_lawful input (line ∷ front) ≡ true → is_train_event line.entry.what ≡ true → (p : Entry → Bool)
    → tally p (to_come input.plant (line ∷ front)) + tally p (line.entry ∷ [])
    ≡ tally p (to_come input.plant front)
train_event_change input fine line front lawful kind p =
    omega (arith, event_change input fine line front lawful (train_event_idle line.entry.what kind) p, ap (tally p) (cond-true (is_train_event line.entry.what) (line.entry ∷ []) [] kind))

pub other_change : (input : Input) → IsWellFormed input.plant → (line : Line) (front : Front)
    → is_lawful input (line ∷ front) ≡ true → is_train_event line.entry.what ≡ false
    → is_admission line.entry.what ≡ false → (p : Entry → Bool)
    → tally p (to_come input.plant (line ∷ front)) ≡ tally p (to_come input.plant front)
other_change input fine line front lawful kind idle p =
    omega (arith, event_change input fine line front lawful idle p, ap (tally p) (cond-false (is_train_event line.entry.what) (line.entry ∷ []) [] kind))
