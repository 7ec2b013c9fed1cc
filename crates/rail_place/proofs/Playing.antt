-- Lists played from one state to another: one move more, one move less, and how long such a list may be.
use Rattle.std.proofs.Common.{◌≡◌, ◌≢◌, ℕ, zero, suc, ◌+◌, ◌-◌, ◌*◌, ◌<◌, ◌≤◌, true, false, ◌&&◌, ltb, List, [], ◌∷◌, ◌++◌, length, get_or, set, drop, Option, Some, None, refl, sym, ap, ◌∙◌, subst, ⊎_elim, arith}
use Rattle.std.proofs.lemmas.Bool.{and_parts, and_from, cases_lt, cases_eq, cases_order, cases_Bool, ltb-true, lt-ltb, cond-true, cond-false}
use Rattle.std.proofs.lemmas.List.{get_or-set_same, get_or-set_other, get_or_past, length-set, set-set, set-get_or, drop_more}
use Rattle.std.proofs.lemmas.Option.{none-some}
use Rattle.std.proofs.lemmas.Bool.{not-true, not_from_false}
use Rattle.rail_base.specs.declared.limits.TheConstants.{ITINERARY_ROUTES, LIST_TRAINS}
use Rattle.rail_rules.specs.Numbers.{any_below, first_below, sum_below, are_apart}
use Rattle.rail_rules.specs.Moves.{Moves, stand, is_valid}
use Rattle.rail_rules.specs.Places.{place_of, is_inside, is_legal, after, is_valid_state, nobody_inside, completes}
use Rattle.rail_rules.specs.Analysis.{moves_left}
use Rattle.rail_rules.proofs.CallerLemmas.{any_below_at, sum_below-lt, apart_sym, apart_from, state_parts, legal_move_kept}
use Rattle.rail_place.specs.Tables.{moves_in, MoveLists}
use Rattle.rail_place.specs.PlaceStates.{State, IsMadeFor}
use Rattle.rail_place.specs.Plays.{IsPlayed}
use Rattle.rail_place.specs.declared.barring.Barred.{Barred}
use Rattle.rail_place.specs.declared.barring.Barred.TheVariants.{Outside}
use Rattle.rail_place.specs.declared.barring.Played.{Played}
use Rattle.rail_place.specs.declared.barring.Played.TheVariants.{Completes, Illegal, Inside}
use Rattle.rail_place.specs.Bars.{bar_of, bar_in_list, ending, unless_barred, outcome, moves_made}
use Rattle.rail_place.proofs.Firsts.{first_below_any, first_below_nothing}
use Rattle.rail_place.proofs.Making.{legal_ahead, legal_from_none, none_from_legal}

pub played_push : (plan : Moves) (s xs r : List ℕ) (t : ℕ) → IsPlayed plan s xs r → is_inside plan r t ≡ true → is_legal plan r t ≡ true → IsPlayed plan s (xs ++ t ∷ []) (after r t)
played_push plan s [] r t same inside legal = (
  ap (λ q. is_inside plan q t) same ∙ inside,
  ap (λ q. is_legal plan q t) same ∙ legal,
  ap (λ q. after q t) same,
)
played_push plan s (x ∷ xs) r t played inside legal = (played.0, played.1, played_push plan (after s x) xs r t played.2 inside legal)

-- the state before the last move of a list
pub record IsBefore (plan : Moves) (s xs r q : List ℕ) (t : ℕ) : Type 0 where
  pub played : IsPlayed plan s xs q
  pub inside : is_inside plan q t ≡ true
  pub legal : is_legal plan q t ≡ true
  pub next : after q t ≡ r

pub played_last : (plan : Moves) (s xs r : List ℕ) (t : ℕ) → IsPlayed plan s (xs ++ t ∷ []) r → (q : List ℕ) × IsBefore plan s xs r q t
played_last plan s [] r t played = (s, record { played = refl; inside = played.0; legal = played.1; next = played.2 })
played_last plan s (x ∷ xs) r t played =
    let rest = played_last plan (after s x) xs r t played.2 in
    (rest.0, record { played = (played.0, played.1, rest.1.played); inside = rest.1.inside; legal = rest.1.legal; next = rest.1.next })

pub played_valid : (plan : Moves) (s xs r : List ℕ) → is_valid plan ≡ true → is_valid_state plan s ≡ true → IsPlayed plan s xs r → is_valid_state plan r ≡ true
played_valid plan s [] r valid state same = ap (is_valid_state plan) (sym same) ∙ state
played_valid plan s (t ∷ rest) r valid state played =
    played_valid plan (after s t) rest r valid (legal_move_kept plan s t valid state played.1) played.2

-- a train inside is listed
pub inside_listed : (plan : Moves) (s : List ℕ) (t : ℕ) → is_inside plan s t ≡ true → t < length s
inside_listed plan s t inside =
    let parts = and_parts (ltb 0 (place_of s t)) (ltb (place_of s t) (plan.moves t)) inside in
    let low : 0 < place_of s t = ltb-true 0 (place_of s t) parts.0 in
    ⊎_elim (λ lt. lt) (λ past. absurd (omega (arith, low, get_or_past s t 0 past))) (cases_lt t (length s))

pub inside_ahead : (plan : Moves) (s : List ℕ) (t : ℕ) → is_inside plan s t ≡ true → place_of s t < plan.moves t
inside_ahead plan s t inside =
    let parts = and_parts (ltb 0 (place_of s t)) (ltb (place_of s t) (plan.moves t)) inside in
    ltb-true (place_of s t) (plan.moves t) parts.1

-- a move leaves fewer moves
fewer_left : (plan : Moves) (s : List ℕ) (t : ℕ) → is_inside plan s t ≡ true → moves_left plan (after s t) < moves_left plan s
fewer_left plan s t inside =
    let lt : t < length s = inside_listed plan s t inside in
    let more : place_of s t < plan.moves t = inside_ahead plan s t inside in
    let left : List ℕ → ℕ → ℕ = λ r u. plan.moves u - place_of r u in
    let next : List ℕ = set s t (suc (place_of s t)) in
    let here : place_of next t ≡ suc (place_of s t) = get_or-set_same s t (suc (place_of s t)) 0 lt in
    let less : left next t < left s t = omega (arith, here, more) in
    let no_more : (u : ℕ) → u < length s → left next u ≤ left s u = λ u _. ⊎_elim
    (λ same. let P : ℕ → Type 0 = λ k. left next k ≤ left s k in subst P (sym same) (omega (arith, less)))
    (λ other. omega (arith, get_or-set_other s t u (suc (place_of s t)) 0 other))
    (cases_eq u t) in
    let P : ℕ → Type 0 = λ n. sum_below (left next) n < sum_below (left s) (length s) in
    subst P (sym (length-set s t (suc (place_of s t)))) (sum_below-lt (left next) (left s) (length s) t lt no_more less)

pub played_left : (plan : Moves) (s xs r : List ℕ) → IsPlayed plan s xs r → length xs + moves_left plan r ≤ moves_left plan s
played_left plan s [] r same = omega (arith, ap (moves_left plan) same)
played_left plan s (t ∷ rest) r played = omega (arith, played_left plan (after s t) rest r played.2, fewer_left plan s t played.0)

sum_bound : (f : ℕ → ℕ) (n k : ℕ) → ((i : ℕ) → f i ≤ k) → sum_below f n ≤ n * k
sum_bound f zero k h = omega arith
sum_bound f (suc n) k h = omega (arith, sum_bound f n k h, h n)

pub left_bound : (plan : Moves) (s : List ℕ) (k : ℕ) → ((t : ℕ) → plan.moves t ≤ k) → moves_left plan s ≤ length s * k
left_bound plan s k h = sum_bound (λ t. plan.moves t - place_of s t) (length s) k (λ t. omega (arith, h t))

-- the standing sets of two trains are apart
pub state_apart : (plan : Moves) (s : List ℕ) (t u : ℕ) → is_valid_state plan s ≡ true → t < length s → u ≢ t → are_apart (stand plan t (place_of s t)) (stand plan u (place_of s u)) ≡ true
state_apart plan s t u valid lt ne =
    let parts = state_parts plan s valid in
    ⊎_elim
    (λ same. absurd (ne same))
    (λ order. ⊎_elim
    (λ below. parts.apart t u lt below)
    (λ above. ⊎_elim
    (λ fits. apart_sym (stand plan u (place_of s u)) (stand plan t (place_of s t)) (parts.apart u t fits above))
    (λ past.
    let none : stand plan u (place_of s u) ≡ [] = ap (stand plan u) (get_or_past s u 0 past) in
    ap (are_apart (stand plan t (place_of s t))) none ∙ apart_from (stand plan t (place_of s t)) [] (λ x _. refl))
    (cases_lt u (length s)))
    order)
    (cases_order u t)

-- after a move, the way back is free
pub record IsWayBack (plan : Moves) (q r : List ℕ) (t : ℕ) : Type 0 where
  pub moved : 0 < place_of r t
  pub free : (u : ℕ) → u ≢ t → are_apart (stand plan t (place_of r t - 1)) (stand plan u (place_of r u)) ≡ true
  pub back : set r t (place_of r t - 1) ≡ q

pub way_back : (plan : Moves) (q r : List ℕ) (t : ℕ) → is_valid_state plan q ≡ true → t < length q → after q t ≡ r → IsWayBack plan q r t
way_back plan q r t valid lt next =
    let p : ℕ = place_of q t in
    let here : place_of r t ≡ suc p = ap (λ s. place_of s t) (sym next) ∙ get_or-set_same q t (suc p) 0 lt in
    let before : place_of r t - 1 ≡ p = omega arith in
    record {
      moved = omega arith;
      free = λ u ne.
          let there : place_of r u ≡ place_of q u = ap (λ s. place_of s u) (sym next) ∙ get_or-set_other q t u (suc p) 0 ne in
          ap (λ n. are_apart (stand plan t n) (stand plan u (place_of r u))) before
          ∙ ap (λ n. are_apart (stand plan t p) (stand plan u n)) there
          ∙ state_apart plan q t u valid lt ne;
      back = ap (λ n. set r t n) before ∙ ap (λ s. set s t p) (sym next) ∙ set-set q t (suc p) p ∙ set-get_or q t 0;
    }

-- a list that is played on places is within the limits
pub played_few : (table : List MoveLists) (s : State) (xs r : List ℕ) → IsMadeFor table s → IsPlayed (moves_in table) s.positions xs r → length xs ≤ LIST_TRAINS
played_few table s xs r made played =
    let long : length s.positions ≡ length table = (state_parts (moves_in table) s.positions made.valid).long in
    let left = played_left (moves_in table) s.positions xs r played in
    let bound = left_bound (moves_in table) s.positions ITINERARY_ROUTES made.moves.short in
    let most : length s.positions * ITINERARY_ROUTES ≤ LIST_TRAINS = omega (arith, long, made.moves.few) in
    omega (arith, left, bound, most)

-- a train that may move in a list
pub made_one : (plan : Moves) (s xs : List ℕ) (i t : ℕ) → i < length xs → t ≡ get_or xs i t → is_inside plan s t ≡ true → is_legal plan s t ≡ true → moves_made plan s (drop i xs) ≡ 1 + moves_made plan (after s t) (drop (i + 1) xs)
made_one plan s xs i t lt is inside legal =
    let split : drop i xs ≡ t ∷ drop (i + 1) xs = drop_more xs i t lt ∙ ap (λ x. x ∷ drop (i + 1) xs) (sym is) in
    ap (moves_made plan s) split
    ∙ cond-true (is_inside plan s t && is_legal plan s t) (1 + moves_made plan (after s t) (drop (i + 1) xs)) 0 (and_from (is_inside plan s t) (is_legal plan s t) inside legal)

pub made_none : (plan : Moves) (s xs : List ℕ) (i t : ℕ) → i < length xs → t ≡ get_or xs i t → (is_inside plan s t && is_legal plan s t) ≡ false → moves_made plan s (drop i xs) ≡ 0
made_none plan s xs i t lt is out =
    let split : drop i xs ≡ t ∷ drop (i + 1) xs = drop_more xs i t lt ∙ ap (λ x. x ∷ drop (i + 1) xs) (sym is) in
    ap (moves_made plan s) split
    ∙ cond-false (is_inside plan s t && is_legal plan s t) (1 + moves_made plan (after s t) (drop (i + 1) xs)) 0 out

pub outcome_one : (plan : Moves) (s xs : List ℕ) (n i t : ℕ) → i < length xs → t ≡ get_or xs i t → bar_in_list plan s t ≡ None → outcome plan s n (drop i xs) ≡ outcome plan (after s t) (n + 1) (drop (i + 1) xs)
outcome_one plan s xs n i t lt is none =
    let split : drop i xs ≡ t ∷ drop (i + 1) xs = drop_more xs i t lt ∙ ap (λ x. x ∷ drop (i + 1) xs) (sym is) in
    ap (outcome plan s n) split
    ∙ ap (λ o. unless_barred n o (outcome plan (after s t) (n + 1) (drop (i + 1) xs))) none

-- nothing bars a train exactly where it is inside and its move is legal
pub bar_from_move : (plan : Moves) (s : List ℕ) (t : ℕ) → is_inside plan s t ≡ true → is_legal plan s t ≡ true → bar_in_list plan s t ≡ None
bar_from_move plan s t inside legal =
    let parts = and_parts (ltb 0 (place_of s t)) (ltb (place_of s t) (plan.moves t)) inside in
    cond-true (ltb 0 (place_of s t)) (bar_of plan s t) (Some Outside) parts.0 ∙ none_from_legal plan s t legal

pub move_from_bar : (plan : Moves) (s : List ℕ) (t : ℕ) → bar_in_list plan s t ≡ None → (is_inside plan s t ≡ true) × (is_legal plan s t ≡ true)
move_from_bar plan s t none =
    ⊎_elim
    (λ low.
    let legal : is_legal plan s t ≡ true = legal_from_none plan s t (sym (cond-true (ltb 0 (place_of s t)) (bar_of plan s t) (Some Outside) low) ∙ none) in
    (and_from (ltb 0 (place_of s t)) (ltb (place_of s t) (plan.moves t)) low (lt-ltb (place_of s t) (plan.moves t) (legal_ahead plan s t legal)), legal))
    (λ outside. absurd (none-some Outside (sym none ∙ cond-false (ltb 0 (place_of s t)) (bar_of plan s t) (Some Outside) outside)))
    (cases_Bool (ltb 0 (place_of s t)))

-- where a train is barred, no further move is made
pub barred_stops : (plan : Moves) (s : List ℕ) (t : ℕ) (why : Barred) → bar_in_list plan s t ≡ Some why → (is_inside plan s t && is_legal plan s t) ≡ false
barred_stops plan s t why barred =
    ⊎_elim
    (λ both.
    let parts = and_parts (is_inside plan s t) (is_legal plan s t) both in
    absurd (none-some why (sym (bar_from_move plan s t parts.0 parts.1) ∙ barred)))
    (λ out. out)
    (cases_Bool (is_inside plan s t && is_legal plan s t))

-- the list completes exactly where that is the answer
apart_answers : (u : ℕ) → ◌≡◌ {A = Played} (Inside u) Completes → ⊥
apart_answers u h = cc

barred_answers : (n : ℕ) (why : Barred) → ◌≡◌ {A = Played} (Illegal n why) Completes → ⊥
barred_answers n why h = cc

completes_step : (plan : Moves) (s : List ℕ) (n t : ℕ) (rest : List ℕ) (o : Option Barred)
    → bar_in_list plan s t ≡ o → unless_barred n o (outcome plan (after s t) (n + 1) rest) ≡ Completes
    → (outcome plan (after s t) (n + 1) rest ≡ Completes → completes plan (after s t) rest ≡ true)
    → completes plan s (t ∷ rest) ≡ true
completes_step plan s n t rest None e h later =
    let both = move_from_bar plan s t e in
    and_from (is_inside plan s t && is_legal plan s t) (completes plan (after s t) rest) (and_from (is_inside plan s t) (is_legal plan s t) both.0 both.1) (later h)
completes_step plan s n t rest (Some why) e h later = absurd (barred_answers n why h)

completes_at_end : (plan : Moves) (s : List ℕ) (o : Option ℕ) → first_below (is_inside plan s) (length s) ≡ o → ending o ≡ Completes → nobody_inside plan s ≡ true
completes_at_end plan s None e h = not_from_false (any_below (is_inside plan s) (length s)) (first_below_any (is_inside plan s) (length s) e)
completes_at_end plan s (Some u) e h = absurd (apart_answers u h)

pub completes_from : (plan : Moves) (s : List ℕ) (n : ℕ) (xs : List ℕ) → outcome plan s n xs ≡ Completes → completes plan s xs ≡ true
completes_from plan s n [] h = completes_at_end plan s (first_below (is_inside plan s) (length s)) refl h
completes_from plan s n (t ∷ rest) h = completes_step plan s n t rest (bar_in_list plan s t) refl h (completes_from plan (after s t) (n + 1) rest)

pub completes_to : (plan : Moves) (s : List ℕ) (n : ℕ) (xs : List ℕ) → completes plan s xs ≡ true → outcome plan s n xs ≡ Completes
completes_to plan s n [] h = ap ending (first_below_nothing (is_inside plan s) (length s) (λ u lt. any_below_at (is_inside plan s) (length s) u (not-true (any_below (is_inside plan s) (length s)) h) lt))
completes_to plan s n (t ∷ rest) h =
    let later = and_parts (is_inside plan s t && is_legal plan s t) (completes plan (after s t) rest) h in
    let now = and_parts (is_inside plan s t) (is_legal plan s t) later.0 in
    ap (λ o. unless_barred n o (outcome plan (after s t) (n + 1) rest)) (bar_from_move plan s t now.0 now.1)
    ∙ completes_to plan (after s t) (n + 1) rest later.1

-- the last move of a list can be taken back
pub way_last : (plan : Moves) (s xs r : List ℕ) (t : ℕ) → is_valid plan ≡ true → is_valid_state plan s ≡ true → IsPlayed plan s (xs ++ t ∷ []) r → (q : List ℕ) × IsPlayed plan s xs q × IsWayBack plan q r t
way_last plan s xs r t valid state played =
    let last = played_last plan s xs r t played in
    (last.0, last.1.played, way_back plan last.0 r t (played_valid plan s xs last.0 valid state last.1.played) (inside_listed plan last.0 t last.1.inside) last.1.next)

pub step_back : (plan : Moves) (s xs r : List ℕ) (t : ℕ) → IsPlayed plan s (xs ++ t ∷ []) r → IsPlayed plan s xs (set r t (place_of r t - 1))
step_back plan s xs r t played =
    let last = played_last plan s xs r t played in
    let q : List ℕ = last.0 in
    let p : ℕ = place_of q t in
    let lt : t < length q = inside_listed plan q t last.1.inside in
    let here : place_of r t ≡ suc p = ap (λ s. place_of s t) (sym last.1.next) ∙ get_or-set_same q t (suc p) 0 lt in
    let before : place_of r t - 1 ≡ p = omega arith in
    let back : set r t (place_of r t - 1) ≡ q = ap (λ n. set r t n) before ∙ ap (λ s. set s t p) (sym last.1.next) ∙ set-set q t (suc p) p ∙ set-get_or q t 0 in
    let P : List ℕ → Type 0 = λ k. IsPlayed plan s xs k in
    subst P (sym back) last.1.played
