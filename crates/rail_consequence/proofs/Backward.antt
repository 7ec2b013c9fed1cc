-- The last moves of the list that one train made in a row, taken back.
use Rattle.std.proofs.Common.{◌≡◌, ◌≢◌, ℕ, zero, suc, ◌+◌, ◌-◌, ◌<◌, ◌≤◌, true, eqb, nat_eq, List, [], ◌∷◌, ◌++◌, length, get_or, set, take, drop, replicate, reverse, Some, add-one, refl, sym, ap, ◌∙◌, subst, ⊎_elim, arith}
use Rattle.std.specs.List.{prefix_len, slice_get, suffix_len}
use Rattle.std.proofs.lemmas.Bool.{cases_Bool, cond-true, cond-false, eq-eqb, eqb-true}
use Rattle.std.proofs.lemmas.List.{get_or-set_same, get_or-set_other, set-set, set-get_or, drop-take, length-append, length-drop, length-set, length-replicate, reverse-append, reverse-reverse, replicate-append-replicate, take_all, take_at, take_rest}
use Rattle.std.proofs.lemmas.List.Sums.{suffix_len-le-length, suffix_len-take_yes}
use Rattle.std.proofs.lemmas.Option.{get_or_from_slice_get}
use Rattle.rail_base.specs.declared.limits.TheConstants.{LIST_TRAINS}
use Rattle.rail_rules.specs.Numbers.{are_apart}
use Rattle.rail_rules.specs.Moves.{Moves, stand}
use Rattle.rail_rules.specs.Places.{place_of, is_inside, after, is_valid_state}
use Rattle.rail_rules.specs.Analysis.{moves_left}
use Rattle.rail_rules.proofs.CallerLemmas.{state_parts}
use Rattle.rail_place.specs.Tables.{moves_in, MoveLists}
use Rattle.rail_place.specs.Plays.{IsPlayed}
use Rattle.rail_place.proofs.CallerLemmas.{state_apart}
use Rattle.rail_consequence.specs.Workspace.{Work, IsPlayedFrom, IsReady}
use Rattle.rail_consequence.proofs.Legs.{inside_listed, inside_parts}
use Rattle.rail_consequence.proofs.Played.{moves_left_at, played_parts, played_valid, ready_as}
use Rattle.rail_consequence.proofs.Walks.{within_at}

-- a list begins with a number as often as it stands there without another between
pub front_repeats : (t : ℕ) (xs : List ℕ) → (rest : List ℕ) × (xs ≡ replicate (prefix_len (nat_eq t) xs) t ++ rest)
front_repeats t [] = ([], refl)
front_repeats t (x ∷ xs) =
    let k : ℕ = prefix_len (nat_eq t) xs in
    ⊎_elim
    (λ same.
    let rest = front_repeats t xs in
    let one : prefix_len (nat_eq t) (x ∷ xs) ≡ suc k = cond-true (eqb t x) (1 + k) 0 same ∙ omega arith in
    (rest.0, ap (λ y. y ∷ xs) (sym (eqb-true t x same)) ∙ ap (λ ys. t ∷ ys) rest.1 ∙ ap (λ n. replicate n t ++ rest.0) (sym one)))
    (λ other. (x ∷ xs, ap (λ n. replicate n t ++ x ∷ xs) (sym (cond-false (eqb t x) (1 + k) 0 other))))
    (cases_Bool (eqb t x))

reverse_repeats : (t k : ℕ) → reverse (replicate k t) ≡ replicate k t
reverse_repeats t zero = refl
reverse_repeats t (suc k) =
    reverse-append (t ∷ []) (replicate k t)
    ∙ ap (λ xs. xs ++ t ∷ []) (reverse_repeats t k)
    ∙ replicate-append-replicate k 1 t
    ∙ ap (λ n. replicate n t) (add-one k)

-- and so it ends
end_repeats : (t : ℕ) (xs : List ℕ) → xs ≡ take (length xs - suffix_len (nat_eq t) xs) xs ++ replicate (suffix_len (nat_eq t) xs) t
end_repeats t xs =
    let k : ℕ = suffix_len (nat_eq t) xs in
    let front = front_repeats t (reverse xs) in
    let whole : xs ≡ reverse front.0 ++ replicate k t = sym (reverse-reverse xs) ∙ ap reverse front.1 ∙ reverse-append (replicate k t) front.0 ∙ ap (λ ys. reverse front.0 ++ ys) (reverse_repeats t k) in
    let long : length (reverse front.0) ≡ length xs - k = omega (arith, ap length whole, length-append (reverse front.0) (replicate k t), length-replicate {A = ℕ} k t) in
    whole ∙ ap (λ ys. ys ++ replicate k t) (sym (ap (take (length xs - k)) whole ∙ take_at (reverse front.0) (replicate k t) (length xs - k) long))

-- once at least where its last item is the number
some_repeat : (t : ℕ) (xs : List ℕ) → 0 < length xs → get_or xs (length xs - 1) t ≡ t → 0 < suffix_len (nat_eq t) xs
some_repeat t xs some last =
    omega (
      arith,
      ap (suffix_len (nat_eq t)) (take_all (length xs) xs (omega arith)),
      suffix_len-take_yes (nat_eq t) xs (length xs) t some (omega arith) (ap (eqb t) last ∙ eq-eqb t t refl),
    )

-- so many moves of a train in a row lead so many places on
run_played : (plan : Moves) (t k : ℕ) (s r : List ℕ) → IsPlayed plan s (replicate k t) r → r ≡ set s t (place_of s t + k)
run_played plan t zero s r same = sym same ∙ sym (ap (set s t) (omega arith) ∙ set-get_or s t 0)
run_played plan t (suc k) s r played =
    let p : ℕ = place_of s t in
    let there : place_of (after s t) t ≡ suc p = get_or-set_same s t (suc p) 0 (inside_listed plan s t played.0) in
    run_played plan t k (after s t) r played.2 ∙ set-set s t (suc p) (place_of (after s t) t + k) ∙ ap (set s t) (omega (arith, there))

-- the state before the last moves of a list, which the train made in a row
pub record IsRun (plan : Moves) (s earlier r : List ℕ) (t k : ℕ) : Type 0 where
  pub before : List ℕ
  pub played : IsPlayed plan s earlier before
  pub inside : is_inside plan before t ≡ true
  pub next : r ≡ set before t (place_of before t + k)
  pub place : place_of r t ≡ place_of before t + k
  pub back : set r t (place_of r t - k) ≡ before

last_run : (plan : Moves) (s earlier r : List ℕ) (t k : ℕ) → 0 < k → IsPlayed plan s (earlier ++ replicate k t) r → IsRun plan s earlier r t k
last_run plan s earlier r t zero some played = absurd (omega (arith, some))
last_run plan s earlier r t (suc k) some played =
    let parts = played_parts plan s earlier (replicate (suc k) t) r played in
    let q : List ℕ = parts.0 in
    let p : ℕ = place_of q t in
    let next : r ≡ set q t (p + suc k) = run_played plan t (suc k) q r parts.2 in
    let place : place_of r t ≡ p + suc k = ap (λ s. place_of s t) next ∙ get_or-set_same q t (p + suc k) 0 (inside_listed plan q t parts.2.0) in
    let before : place_of r t - suc k ≡ p = omega (arith, place) in
    record {
      before = q;
      played = parts.1;
      inside = parts.2.0;
      next = next;
      place = place;
      back = ap (set r t) before ∙ ap (λ s. set s t p) next ∙ set-set q t (p + suc k) p ∙ set-get_or q t 0;
    }

-- the train made the last so many moves of the list in a row, none of them before the mark, and can be put back to the place where it was before
pub record IsRunAtEnd (table : List MoveLists) (w : Work) (mark t k p : ℕ) : Type 0 where
  pub some : 0 < k
  pub listed : t < length table
  pub placed : t < length w.places.positions
  pub ahead : k < p
  pub within : p - k ≤ (moves_in table).moves t
  pub free : (u : ℕ) → u ≢ t → are_apart (stand (moves_in table) t (p - k)) (stand (moves_in table) u (place_of w.places.positions u)) ≡ true
  pub few : length w.list - k + moves_left (moves_in table) (set w.places.positions t (p - k)) ≤ LIST_TRAINS
  pub back : (s xs : List ℕ) → xs ≡ take (length w.list - k) w.list → IsPlayed (moves_in table) s (drop mark w.list) w.places.positions → IsPlayed (moves_in table) s (drop mark xs) (set w.places.positions t (p - k))

run_at_end : (table : List MoveLists) (w : Work) (mark t k p : ℕ) (earlier : List ℕ) → IsReady table w → IsPlayedFrom (moves_in table) mark w → drop mark w.list ≡ earlier ++ replicate k t
    → earlier ≡ drop mark (take (length w.list - k) w.list) → 0 < k → k ≤ length w.list → p ≡ place_of w.places.positions t → IsRunAtEnd table w mark t k p
run_at_end table w mark t k p earlier ready from ends begin some most at =
    let plan : Moves = moves_in table in
    let r : List ℕ = w.places.positions in
    let played : (s : List ℕ) → IsPlayed plan s (drop mark w.list) r → IsPlayed plan s (earlier ++ replicate k t) r = λ s. let P : List ℕ → Type 0 = λ xs. IsPlayed plan s xs r in subst P ends in
    let run = last_run plan from.start earlier r t k some (played from.start from.played) in
    let valid : is_valid_state plan run.before ≡ true = played_valid plan from.start earlier run.before ready.made.moves.valid from.valid run.played in
    let place : p - k ≡ place_of run.before t = omega (arith, at, run.place) in
    let inside = inside_parts plan run.before t run.inside in
    let lt : t < length run.before = inside_listed plan run.before t run.inside in
    record {
      some = some;
      listed = omega (arith, lt, (state_parts plan run.before valid).long);
      placed = omega (arith, lt, ap length run.next, length-set run.before t (place_of run.before t + k));
      ahead = omega (arith, at, run.place, inside.0);
      within = omega (arith, place, inside.1);
      free = λ u ne.
          let other : place_of r u ≡ place_of run.before u = ap (λ s. place_of s u) run.next ∙ get_or-set_other run.before t u (place_of run.before t + k) 0 ne in
          ap (λ q. are_apart (stand plan t q) (stand plan u (place_of r u))) place
          ∙ ap (λ q. are_apart (stand plan t (place_of run.before t)) (stand plan u q)) other
          ∙ state_apart plan run.before t u valid lt ne;
      few =
          let left = moves_left_at plan run.before t (place_of run.before t + k) k lt refl (omega (arith, run.place, within_at table w t ready)) in
          omega (arith, ready.few, most, left, ap (moves_left plan) run.next, ap (moves_left plan) run.back, ap (λ q. moves_left plan (set r t (q - k))) at);
      back = λ s xs is led.
          let last = last_run plan s earlier r t k some (played s led) in
          let P : List ℕ → Type 0 = λ ys. IsPlayed plan s ys (set r t (p - k)) in
          let Q : List ℕ → Type 0 = λ q. IsPlayed plan s earlier q in
          subst P (begin ∙ ap (drop mark) (sym is)) (subst Q (sym last.back ∙ ap (λ q. set r t (q - k)) (sym at)) last.played);
    }

-- the run that counting finds in the list behind the mark
pub counted_run : {table : List MoveLists} {own now : Work} {mark t k p : ℕ} {list : List ℕ} → own ≡ now → IsReady table now → IsPlayedFrom (moves_in table) mark now → mark < length now.list → list ≡ own.list
    → Some t ≡ slice_get (take (length list - mark) (drop mark list)) (length (take (length list - mark) (drop mark list)) - 1)
    → k ≡ suffix_len (nat_eq t) (take (length list - mark) (drop mark list)) → p ≡ place_of own.places.positions t → IsRunAtEnd table own mark t k p
counted_run {table} {own} {now} {mark} {t} {k} {p} {list} same ready from below is last count at =
    let made : List ℕ = drop mark own.list in
    let n : ℕ = length own.list in
    let whole : take (length list - mark) (drop mark list) ≡ made = take_rest list mark ∙ ap (drop mark) is in
    let long : length made ≡ n - mark = length-drop mark own.list in
    let more : mark < n = omega (arith, below, ap (λ (w : Work). length w.list) same) in
    let counted : k ≡ suffix_len (nat_eq t) made = count ∙ ap (suffix_len (nat_eq t)) whole in
    let end : get_or made (length made - 1) t ≡ t = get_or_from_slice_get made (length made - 1) t t (sym (last ∙ ap (λ xs. slice_get xs (length xs - 1)) whole)) in
    let some : 0 < k = omega (arith, counted, some_repeat t made (omega (arith, long, more)) end) in
    let most : k ≤ length made = omega (arith, counted, suffix_len-le-length (nat_eq t) made) in
    let P : ℕ → Type 0 = λ j. made ≡ take (length made - j) made ++ replicate j t in
    let Q : Work → Type 0 = λ w. IsPlayedFrom (moves_in table) mark w in
    let first : mark + (length made - k) ≡ n - k = omega (arith, long, more, most) in
    let begin : take (length made - k) made ≡ drop mark (take (n - k) own.list) = sym (drop-take mark (length made - k) own.list) ∙ ap (λ j. drop mark (take j own.list)) first in
    run_at_end table own mark t k p (take (length made - k) made) (ready_as table own now same ready) (subst Q (sym same) from) (subst P (sym counted) (end_repeats t made)) begin some (omega (arith, long, most)) at
