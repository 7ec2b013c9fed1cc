-- The places of a lawful front are a valid state from which the kept list completes.
use Rattle.std.proofs.Common.{◌≡◌, ℕ, zero, suc, ◌<◌, true, false, not, ◌&&◌, ltb, List, [], ◌∷◌, ◌++◌, length, get_or, is_some, refl, sym, ap, ◌∙◌, subst, ⊎_elim, arith}
use Rattle.std.specs.List.{list_any}
use Rattle.std.proofs.lemmas.Bool.{and_from, cases_Bool, cases_lt, cases_eq, false≢true, lt-ltb, not_from_false}
use Rattle.std.proofs.lemmas.List.{get_or_append_left, get_or_push, get_or_past, get_or-set_same, get_or-set_other, length-set, same_lists, length_push}
use Rattle.rail_base.specs.declared.history.Note.{Note}
use Rattle.rail_base.specs.declared.history.What.{What}
use Rattle.rail_base.specs.declared.history.What.TheVariants.{Free, Arrive, Enter, Out, Ready, Told, Untold, Admit, Hold, End}
use Rattle.rail_rules.specs.Numbers.{listed, is_in, any_below, are_apart}
use Rattle.rail_rules.specs.Moves.{Moves, stand}
use Rattle.rail_rules.specs.Places.{place_of, is_inside, holds, has_holder, is_legal, after, is_valid_state, completes}
use Rattle.rail_rules.specs.Plant.{Plant, trains, moves, moves_of, claimed, steps, step_section}
use Rattle.rail_rules.specs.Fronts.{Line, Front, is_admission, admissions, places, kept, kept_after}
use Rattle.rail_rules.specs.Orders.{Input}
use Rattle.rail_rules.specs.Times.{is_admitted}
use Rattle.rail_rules.specs.Intervals.{is_open, does_stand}
use Rattle.rail_rules.specs.Causes.{place, bar}
use Rattle.rail_rules.specs.Lawful.{is_lawful}
use Rattle.rail_rules.proofs.CallerLemmas.{any_below_none, list_any_none, state_from_parts, steps_claimed, legal_move_kept, admissions_kept, gather_same}
use Rattle.rail_laws_front.specs.Premises.{IsWellFormed}
use Rattle.rail_laws_front.specs.Views.{Admits, Follows}
use Rattle.rail_laws_front.specs.Views.Follows.{by_event, by_admission, by_hold, by_end}
use Rattle.rail_laws_front.proofs.Viewing.{lawful_before, lawful_last, no_moves}
use Rattle.rail_laws_front.proofs.Adding.{not_admitted}
use Rattle.rail_laws_front.specs.Invariant.{IsTimely}
use Rattle.rail_laws_front.proofs.Growing.{admission_added, admission_of_other, event_admits_nothing, waiting_parts}
use Rattle.rail_laws_front.proofs.Timely.{timely}
use Rattle.rail_laws_front.proofs.Unblocked.{ended_on_claimed, needed_bars}
use Rattle.rail_laws_front.proofs.Claimed.{needed_step}
use Rattle.rail_laws_front.proofs.Standing.{stands_inside, stands_needed}
use Rattle.rail_rules.specs.Apart.{IsStep}

-- how many items are listed, and which
pub length-listed : {X : Type 0} (f : ℕ → X) (n : ℕ) → length (listed f n) ≡ n
length-listed f zero = refl
length-listed f (suc n) = length_push (listed f n) (f n) ∙ omega (arith, length-listed f n)

pub get_or-listed : {X : Type 0} (f : ℕ → X) (n i : ℕ) (d : X) → i < n → get_or (listed f n) i d ≡ f i
get_or-listed f zero i d lt = absurd (omega arith)
get_or-listed f (suc n) i d lt =
    ⊎_elim
    (λ below. get_or_append_left (listed f n) (f n ∷ []) d i (omega (arith, length-listed f n)) ∙ get_or-listed f n i d below)
    (λ above.
    let same : i ≡ n = omega arith in
    ap (λ k. get_or (listed f n ++ f n ∷ []) k d) same ∙ get_or_push (listed f n) (f n) d n (length-listed f n) ∙ ap f (sym same))
    (cases_lt i n)

-- the place of a train in the places of a front
pub place_in : (plant : Plant) (front : Front) (t : ℕ) → t < trains plant → place_of (places plant front) t ≡ place front t
place_in plant front t lt = get_or-listed (λ u. length (admissions front u)) (trains plant) t 0 lt

pub places_long : (plant : Plant) (front : Front) → length (places plant front) ≡ trains plant
places_long plant front = length-listed (λ u. length (admissions front u)) (trains plant)

-- where a line is no admission the places stay
pub places_idle : (plant : Plant) (line : Line) (front : Front) → is_admission line.entry.what ≡ false → places plant (line ∷ front) ≡ places plant front
places_idle plant line front idle =
    gather_same (λ t. length (admissions (line ∷ front) t) ∷ []) (λ t. length (admissions front t) ∷ []) (trains plant)
    (λ t _. ap (λ (adms : List ℕ). length adms ∷ []) (admissions_kept line front t idle))

-- an admission raises the place of its train
pub places_raised : (plant : Plant) (line : Line) (front : Front) (t m : ℕ) (note : Note) → line.entry.what ≡ Admit t m note → t < trains plant → places plant (line ∷ front) ≡ after (places plant front) t
places_raised plant line front t m note is lt =
    same_lists (places plant (line ∷ front)) (after (places plant front) t)
    (places_long plant (line ∷ front) ∙ sym (places_long plant front) ∙ sym (length-set (places plant front) t (suc (place_of (places plant front) t))))
    (λ u d lu.
    let known : u < trains plant = omega (arith, lu, places_long plant (line ∷ front)) in
    get_or-listed (λ v. length (admissions (line ∷ front) v)) (trains plant) u d known
    ∙ ⊎_elim
    (λ same.
    let P : ℕ → Type 0 = λ v. length (admissions (line ∷ front) v) ≡ get_or (after (places plant front) t) v d in
    subst P (sym same)
    (ap length (admission_added line front t m note is) ∙ length_push (admissions front t) line.entry.at
    ∙ omega (arith, place_in plant front t lt)
    ∙ sym (get_or-set_same (places plant front) t (suc (place_of (places plant front) t)) d (omega (arith, lt, places_long plant front)))))
    (λ other.
    ap length (admission_of_other line front t m note u is other)
    ∙ sym (get_or-listed (λ v. length (admissions front v)) (trains plant) u d known)
    ∙ sym (get_or-set_other (places plant front) t u (suc (place_of (places plant front) t)) d other))
    (cases_eq u t))

-- a train that waits is one of the plant's
pub waiting_known : (plant : Plant) (t p : ℕ) → p < moves plant t → t < trains plant
waiting_known plant t p lt = ⊎_elim (λ known. known) (λ past. absurd (omega (arith, no_moves plant t past))) (cases_lt t (trains plant))

-- a section on which a train stands has an open interval of its last move
pub standing_is_open : (input : Input) → IsWellFormed input.plant → (front : Front) (t x : ℕ)
    → t < trains input.plant → is_in x (stand (moves_of input.plant) t (place front t)) ≡ true
    → (m : ℕ) × (j : ℕ) × IsStep input.plant front t m j × (suc m ≡ place front t)
    × (step_section input.plant t m j ≡ x) × (is_open input.plant t (admissions front t) m j ≡ true) × (j < steps input.plant t m)
standing_is_open input fine front t x lt is = at_place (place front t) refl is
  where
    at_place : (p : ℕ) → place front t ≡ p → is_in x (stand (moves_of input.plant) t p) ≡ true → (m : ℕ) × (j : ℕ) × IsStep input.plant front t m j × (suc m ≡ place front t) × (step_section input.plant t m j ≡ x) × (is_open input.plant t (admissions front t) m j ≡ true) × (j < steps input.plant t m)
    at_place zero here is = absurd (false≢true is)
    at_place (suc m) here is =
        let need = stands_needed input.plant t m x (stands_inside input.plant t m x is).1 in
        let found = needed_step input.plant t m x need in
        let P : ℕ → Type 0 = λ y. is_in y (stand (moves_of input.plant) t (suc m)) ≡ true in (
          m,
          found.0,
          record { known = lt; admitted_move = omega (arith, here); step = omega (arith, found.1, steps_claimed input.plant t m) },
          sym here,
          found.2,
          and_from (does_stand input.plant t m found.0) (not (is_admitted (admissions front t) (suc m)))
              (subst P (sym found.2) is)
              (not_from_false (is_admitted (admissions front t) (suc m)) (not_admitted (admissions front t) (suc m) (omega (arith, here)))),
          found.1,
        )

-- a move that nothing bars is legal
pub unbarred_legal : (input : Input) → IsWellFormed input.plant → (front : Front) (t : ℕ) → IsTimely input front → is_some (bar input front t) ≡ false → place front t < moves input.plant t → is_legal (moves_of input.plant) (places input.plant front) t ≡ true
unbarred_legal input fine front t h unbarred room =
    let plan : Moves = moves_of input.plant in
    let s : List ℕ = places input.plant front in
    let known = waiting_known input.plant t (place front t) room in
    let here = place_in input.plant front t known in
    let nobody : (x : ℕ) → is_in x (claimed input.plant t (place front t)) ≡ true → has_holder plan s x ≡ false = λ x need.
    any_below_none (λ u. holds plan s u x) (length s) (λ u lu.
    let u_known : u < trains input.plant = omega (arith, lu, places_long input.plant front) in
    ⊎_elim
    (λ held.
    let P : ℕ → Type 0 = λ p. is_in x (stand plan u p) ≡ true in
    let found = standing_is_open input fine front u x u_known (subst P (place_in input.plant front u u_known) held) in
    let Q : ℕ → Type 0 = λ y. is_in y (claimed input.plant t (place front t)) ≡ true in
    let over = ended_on_claimed input front t u found.0 found.1 unbarred found.2 (needed_bars input.plant t u (place front u) found.0 found.1 found.6) (subst Q (sym found.4) need) (h.admitted_by u found.0 found.2.admitted_move) in
    absurd (false≢true (sym over.closed ∙ found.5)))
    (λ free. free)
    (cases_Bool (holds plan s u x))) in
    let R : ℕ → Type 0 = λ p. (ltb p (moves input.plant t) && not (list_any (has_holder plan s) (claimed input.plant t p))) ≡ true in
    subst R (sym here)
    (and_from (ltb (place front t) (moves input.plant t)) (not (list_any (has_holder plan s) (claimed input.plant t (place front t))))
    (lt-ltb (place front t) (moves input.plant t) room)
    (not_from_false (list_any (has_holder plan s) (claimed input.plant t (place front t))) (list_any_none (has_holder plan s) (claimed input.plant t (place front t)) nobody)))

-- nobody is inside at the beginning
start_place : (plant : Plant) (t : ℕ) → place_of (places plant []) t ≡ 0
start_place plant t =
    ⊎_elim
    (λ lt. place_in plant [] t lt)
    (λ past. get_or_past (places plant []) t 0 (omega (arith, past, places_long plant [])))
    (cases_lt t (trains plant))

start_state : (plant : Plant) → is_valid_state (moves_of plant) (places plant []) ≡ true
start_state plant =
    state_from_parts (moves_of plant) (places plant []) (record {
      long = places_long plant [];
      within = λ t lt. omega (arith, start_place plant t);
      apart = λ t u lt lu.
          let P : ℕ → ℕ → Type 0 = λ p q. are_apart (stand (moves_of plant) t p) (stand (moves_of plant) u q) ≡ true in
          let Q : ℕ → Type 0 = λ p. P p (place_of (places plant []) u) in
          let R : ℕ → Type 0 = λ q. P 0 q in
          subst Q (sym (start_place plant t)) (subst R (sym (start_place plant u)) refl);
    })

start_completes : (plant : Plant) → completes (moves_of plant) (places plant []) [] ≡ true
start_completes plant =
    not_from_false (any_below (is_inside (moves_of plant) (places plant [])) (length (places plant [])))
    (any_below_none (is_inside (moves_of plant) (places plant [])) (length (places plant [])) (λ t lt.
    let P : ℕ → Type 0 = λ p. (ltb 0 p && ltb p (moves plant t)) ≡ false in
    subst P (sym (start_place plant t)) refl))

-- a line that is no admission leaves the kept list
pub kept_idle : (plant : Plant) (list : List ℕ) (line : Line) (what : What) → is_admission what ≡ false → kept_after plant list line what ≡ list
kept_idle plant list line (Admit t m note) idle = absurd (false≢true (sym idle))
kept_idle plant list line (Hold t m why) idle = refl
kept_idle plant list line End idle = refl
kept_idle plant list line (Free x t) idle = refl
kept_idle plant list line (Arrive t m) idle = refl
kept_idle plant list line (Enter t m x) idle = refl
kept_idle plant list line (Out t) idle = refl
kept_idle plant list line (Ready t m) idle = refl
kept_idle plant list line (Told k) idle = refl
kept_idle plant list line (Untold k) idle = refl

-- the places are valid and the kept list completes from them
pub record IsKept (input : Input) (front : Front) : Type 0 where
  pub valid : is_valid_state (moves_of input.plant) (places input.plant front) ≡ true
  pub completing : completes (moves_of input.plant) (places input.plant front) (kept input.plant front) ≡ true

kept_idle_front : (input : Input) (line : Line) (front : Front) → is_admission line.entry.what ≡ false → IsKept input front → IsKept input (line ∷ front)
kept_idle_front input line front idle h =
    let same_places = places_idle input.plant line front idle in
    let same_list = kept_idle input.plant (kept input.plant front) line line.entry.what idle in
    record {
      valid = ap (is_valid_state (moves_of input.plant)) same_places ∙ h.valid;
      completing = ap (λ s. completes (moves_of input.plant) s (kept input.plant (line ∷ front))) same_places
          ∙ ap (completes (moves_of input.plant) (places input.plant front)) same_list ∙ h.completing;
    }

kept_admission : (input : Input) → IsWellFormed input.plant → (line : Line) (front : Front) (t m : ℕ) (note : Note) → IsTimely input front → Admits input front line t m note → IsKept input front → IsKept input (line ∷ front)
kept_admission input fine line front t m note timely_front admits h =
    let room = (waiting_parts input front t admits.waiting).room in
    let known = waiting_known input.plant t (place front t) room in
    let raised = places_raised input.plant line front t m note admits.what known in
    record {
      valid = ap (is_valid_state (moves_of input.plant)) raised
          ∙ legal_move_kept (moves_of input.plant) (places input.plant front) t fine.valid h.valid (unbarred_legal input fine front t timely_front admits.unbarred room);
      completing = ap (λ s. completes (moves_of input.plant) s (kept input.plant (line ∷ front))) raised ∙ admits.completing;
    }

pub kept_completes : (input : Input) → IsWellFormed input.plant → (front : Front) → is_lawful input front ≡ true → IsKept input front
kept_completes input fine [] lawful = record { valid = start_state input.plant; completing = start_completes input.plant }
kept_completes input fine (line ∷ front) lawful = step (lawful_last input line front lawful) (kept_completes input fine front (lawful_before input line front lawful))
  where
    step : Follows input front line → IsKept input front → IsKept input (line ∷ front)
    step (by_event happens) h = kept_idle_front input line front (event_admits_nothing line.entry.what happens.event) h
    step (by_admission t m note admits) h = kept_admission input fine line front t m note (timely input fine front (lawful_before input line front lawful)) admits h
    step (by_hold t m why holds) h = kept_idle_front input line front (ap is_admission holds.what) h
    step (by_end ends) h = kept_idle_front input line front (ap is_admission ends.what) h
