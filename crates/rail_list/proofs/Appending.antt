-- The list with the moves that are left to an entering train at its end: it completes exactly where the first move ended safely. How long a list that completes is.
use Rattle.std.proofs.Common.{◌≡◌, ◌≢◌, ℕ, zero, suc, ◌+◌, ◌-◌, ◌<◌, ◌≤◌, Bool, true, false, not, ◌&&◌, ltb, leb, List, [], ◌∷◌, ◌++◌, length, replicate, refl, sym, ap, ◌∙◌, subst, ⊎_elim, arith}
use Rattle.std.specs.List.{All, list_any, list_all}
use Rattle.std.proofs.lemmas.Bool.{and_parts, and_from, and_right, le-ltb, cases_eq, cases_lt, cases_Bool, cond-false, lt-ltb, ltb-true, not-true, not_from_false, false≢true, and_cases}
use Rattle.std.proofs.lemmas.List.{get_or-set_same, length-set}
use Rattle.std.proofs.lemmas.List.Elements.{All-nil, All-cons}
use Rattle.rail_rules.specs.Numbers.{any_below, sum_below, is_in, are_apart}
use Rattle.rail_rules.specs.Moves.{Moves, stand, is_valid}
use Rattle.rail_rules.specs.Places.{place_of, holds, has_holder, is_inside, is_legal, after, completes}
use Rattle.rail_rules.specs.Analysis.{Leg, is_safe}
use Rattle.rail_rules.proofs.CallerLemmas.{any_below_at, any_below_found, any_below_none, apart_at, apart_from, apart_sym, list_any_at, list_any_none, sum_below-le}
use Rattle.rail_place.specs.Plays.{IsPlayed}
use Rattle.rail_place.proofs.CallerLemmas.{move_valid, inside_listed, played_left}
use Rattle.rail_consequence.specs.Cores.{IsClear}
use Rattle.rail_consequence.proofs.CallerLemmas.{clear_from_safe, inside_from, inside_parts, inside_same, nobody_at, safe_from_clear}
use Rattle.rail_list.proofs.Pulling.{place_kept, inside_kept, after_comm}
use Rattle.rail_list.proofs.Beside.{legal_beside}

-- each train named is inside at its turn, and its move is legal
abbrev plays : Moves → List ℕ → List ℕ → Bool
plays plan s [] = true
plays plan s (t ∷ rest) = let later = plays plan (after s t) rest in is_inside plan s t && is_legal plan s t && later

-- a train that is not inside holds nothing
outside_holds : (plan : Moves) (u p : ℕ) → (ltb 0 p && ltb p (plan.moves u)) ≡ false → stand plan u p ≡ []
outside_holds plan u zero out = refl
outside_holds plan u (suc m) out =
    let past : ltb (suc m) (plan.moves u) ≡ false = ⊎_elim
    (λ low. absurd (false≢true (sym low ∙ lt-ltb 0 (suc m) (omega arith))))
    (λ high. high)
    (and_cases (ltb 0 (suc m)) (ltb (suc m) (plan.moves u)) out) in
    cond-false (ltb (suc m) (plan.moves u)) (plan.standing u m) [] past

-- the next move of a train that is inside needs nothing on which the train stands
apart_own : (plan : Moves) (t p : ℕ) → is_valid plan ≡ true → t < plan.trains → 0 < p → p < plan.moves t → are_apart (plan.claim t p) (stand plan t p) ≡ true
apart_own plan t zero valid lt some more = absurd (omega (arith, some))
apart_own plan t (suc m) valid lt some more =
    let standing : List ℕ = stand plan t (suc m) in
    (and_parts (ltb 0 (length standing) && list_all (λ x. is_in x (plan.claim t m)) standing) (are_apart (plan.claim t (suc m)) standing) (move_valid plan t m valid lt more)).1

-- no other train is inside
abbrev IsAlone : Moves → List ℕ → ℕ → Type 0
IsAlone plan s t = (u : ℕ) → u ≢ t → is_inside plan s u ≡ false

-- nothing is in the way of a train that is alone inside
alone_legal : (plan : Moves) (s : List ℕ) (t : ℕ) → is_valid plan ≡ true → t < plan.trains → 0 < place_of s t → place_of s t < plan.moves t → IsAlone plan s t → is_legal plan s t ≡ true
alone_legal plan s t valid lt some more alone =
    let needed : List ℕ = plan.claim t (place_of s t) in
    let own = apart_own plan t (place_of s t) valid lt some more in
    and_from (ltb (place_of s t) (plan.moves t)) (not (list_any (has_holder plan s) needed)) (lt-ltb (place_of s t) (plan.moves t) more)
    (not_from_false (list_any (has_holder plan s) needed) (list_any_none (has_holder plan s) needed (λ x is.
    any_below_none (λ u. holds plan s u x) (length s) (λ u _.
    ⊎_elim
    (λ same. let P : ℕ → Type 0 = λ k. holds plan s k x ≡ false in subst P (sym same) (apart_at needed (stand plan t (place_of s t)) x own is))
    (λ other. ap (is_in x) (outside_holds plan u (place_of s u) (alone u other)))
    (cases_eq u t)))))

-- a train that is alone inside makes all the moves that it has left
alone_completes : (plan : Moves) (s : List ℕ) (t k : ℕ) → is_valid plan ≡ true → t < plan.trains → t < length s → 0 < place_of s t → place_of s t + k ≡ plan.moves t → IsAlone plan s t → completes plan s (replicate k t) ≡ true
alone_completes plan s t zero valid lt listed some all alone =
    not_from_false (any_below (is_inside plan s) (length s)) (any_below_none (is_inside plan s) (length s) (λ u _.
    ⊎_elim
    (λ same. let P : ℕ → Type 0 = λ k. is_inside plan s k ≡ false in subst P (sym same) (and_right (ltb 0 (place_of s t)) (ltb (place_of s t) (plan.moves t)) (le-ltb (place_of s t) (plan.moves t) (omega (arith, all)))))
    (λ other. alone u other)
    (cases_eq u t)))
alone_completes plan s t (suc k) valid lt listed some all alone =
    let next : List ℕ = after s t in
    let more : place_of s t < plan.moves t = omega (arith, all) in
    let here : place_of next t ≡ suc (place_of s t) = get_or-set_same s t (suc (place_of s t)) 0 listed in
    and_from (is_inside plan s t && is_legal plan s t) (completes plan next (replicate k t))
    (and_from (is_inside plan s t) (is_legal plan s t)
    (and_from (ltb 0 (place_of s t)) (ltb (place_of s t) (plan.moves t)) (lt-ltb 0 (place_of s t) some) (lt-ltb (place_of s t) (plan.moves t) more))
    (alone_legal plan s t valid lt some more alone))
    (alone_completes plan next t k valid lt (omega (arith, listed, length-set s t (suc (place_of s t)))) (omega (arith, here)) (omega (arith, here, all)) (λ u ne. inside_kept plan s u t ne ∙ alone u ne))

-- a train inside is not one that stands outside
inside_other : (plan : Moves) (s : List ℕ) (t u : ℕ) → place_of s t ≡ 0 → is_inside plan s u ≡ true → t ≢ u
inside_other plan s t u out inside same =
    let some : 0 < place_of s u = ltb-true 0 (place_of s u) (and_parts (ltb 0 (place_of s u)) (ltb (place_of s u) (plan.moves u)) inside).0 in
    omega (arith, out, some, ap (place_of s) same)

-- once the train has made its first move, the list with its other moves at the end completes exactly where the old list plays
appended_completes : (plan : Moves) (s list : List ℕ) (t : ℕ) → is_valid plan ≡ true → t < plan.trains
    → t < length s → 0 < plan.moves t → place_of s t ≡ 0 → completes plan s list ≡ true
    → plays plan (after s t) list ≡ completes plan (after s t) (list ++ replicate (plan.moves t - 1) t)
appended_completes plan s [] t valid lt listed some out done =
    let here : place_of (after s t) t ≡ suc (place_of s t) = get_or-set_same s t (suc (place_of s t)) 0 listed in
    sym (alone_completes plan (after s t) t (plan.moves t - 1) valid lt (omega (arith, listed, length-set s t (suc (place_of s t)))) (omega (arith, here)) (omega (arith, here, out, some)) (λ u ne. inside_kept plan s u t ne ∙ nobody_at plan s u done))
appended_completes plan s (u ∷ rest) t valid lt listed some out done =
    let parts = and_parts (is_inside plan s u && is_legal plan s u) (completes plan (after s u) rest) done in
    let inside = (and_parts (is_inside plan s u) (is_legal plan s u) parts.0).0 in
    let ne : t ≢ u = inside_other plan s t u out inside in
    let r : List ℕ = after s t in
    let turned : after r u ≡ after (after s u) t = after_comm s t u ne in
    let whole : List ℕ = rest ++ replicate (plan.moves t - 1) t in
    let rest_is = appended_completes plan (after s u) rest t valid lt (omega (arith, listed, length-set s u (suc (place_of s u)))) some (place_kept s t u ne ∙ out) parts.1 in
    ap (λ b. is_inside plan r u && is_legal plan r u && b)
    (ap (λ q. plays plan q rest) turned ∙ rest_is ∙ ap (λ q. completes plan q whole) (sym turned))

-- what no other train needs later it doesn't need later after a move of another train
clear_on : (plan : Moves) (s : List ℕ) (t u : ℕ) (sections : List ℕ) → is_inside plan s u ≡ true → IsClear plan s t sections → IsClear plan (after s u) t sections
clear_on plan s t u sections inside_u clear = λ v i not_t inside from below.
    ⊎_elim
    (λ is_u.
    let at : place_of (after s u) v ≡ suc (place_of s u) = ap (place_of (after s u)) is_u ∙ get_or-set_same s u (suc (place_of s u)) 0 (inside_listed plan s u inside_u) in
    clear v i not_t (ap (is_inside plan s) is_u ∙ inside_u) (omega (arith, from, at, ap (place_of s) is_u)) below)
    (λ not_u.
    let at : place_of (after s u) v ≡ place_of s v = place_kept s v u not_u in
    clear v i not_t (inside_same plan (after s u) s v (sym at) inside) (omega (arith, from, at)) below)
    (cases_eq v u)

-- the first move of a train that stands outside, beside a move of another train
legal_entered : (plan : Moves) (s : List ℕ) (t u : ℕ) → t < length s → u ≢ t → place_of s t ≡ 0 → is_legal plan s u ≡ true
    → is_legal plan (after s t) u ≡ are_apart (stand plan t 1) (plan.claim u (place_of s u))
legal_entered plan s t u lt ne out legal =
    legal_beside plan s t u lt ne legal ∙ ap (λ p. are_apart (stand plan t (suc p)) (plan.claim u (place_of s u))) out

plays_clear : (plan : Moves) (s list : List ℕ) (t : ℕ) → t < length s → place_of s t ≡ 0 → completes plan s list ≡ true → IsClear plan s t (stand plan t 1) → plays plan (after s t) list ≡ true
plays_clear plan s [] t lt out done clear = refl
plays_clear plan s (u ∷ rest) t lt out done clear =
    let parts = and_parts (is_inside plan s u && is_legal plan s u) (completes plan (after s u) rest) done in
    let now = and_parts (is_inside plan s u) (is_legal plan s u) parts.0 in
    let ne : t ≢ u = inside_other plan s t u out now.0 in
    let other : u ≢ t = λ e. ne (sym e) in
    let r : List ℕ = after s t in
    let apart = clear u (place_of s u) other now.0 (omega arith) (inside_parts plan s u now.0).1 in
    and_from (is_inside plan r u && is_legal plan r u) (plays plan (after r u) rest)
    (and_from (is_inside plan r u) (is_legal plan r u)
    (inside_kept plan s u t other ∙ now.0)
    (legal_entered plan s t u lt other out now.1 ∙ apart_sym (plan.claim u (place_of s u)) (stand plan t 1) apart))
    (ap (λ q. plays plan q rest) (after_comm s t u ne)
    ∙ plays_clear plan (after s u) rest t (omega (arith, lt, length-set s u (suc (place_of s u)))) (place_kept s t u ne ∙ out) parts.1 (clear_on plan s t u (stand plan t 1) now.0 clear))

clear_plays : (plan : Moves) (s list : List ℕ) (t : ℕ) → t < length s → place_of s t ≡ 0 → completes plan s list ≡ true → plays plan (after s t) list ≡ true → IsClear plan s t (stand plan t 1)
clear_plays plan s [] t lt out done played = λ v i not_t inside from below. absurd (false≢true (sym (nobody_at plan s v done) ∙ inside))
clear_plays plan s (u ∷ rest) t lt out done played =
    let parts = and_parts (is_inside plan s u && is_legal plan s u) (completes plan (after s u) rest) done in
    let now = and_parts (is_inside plan s u) (is_legal plan s u) parts.0 in
    let ne : t ≢ u = inside_other plan s t u out now.0 in
    let other : u ≢ t = λ e. ne (sym e) in
    let r : List ℕ = after s t in
    let made = and_parts (is_inside plan r u && is_legal plan r u) (plays plan (after r u) rest) played in
    let legal = (and_parts (is_inside plan r u) (is_legal plan r u) made.0).1 in
    let apart : are_apart (plan.claim u (place_of s u)) (stand plan t 1) ≡ true = apart_sym (stand plan t 1) (plan.claim u (place_of s u)) (sym (legal_entered plan s t u lt other out now.1) ∙ legal) in
    let later = clear_plays plan (after s u) rest t (omega (arith, lt, length-set s u (suc (place_of s u)))) (place_kept s t u ne ∙ out) parts.1 (ap (λ q. plays plan q rest) (sym (after_comm s t u ne)) ∙ made.1) in
    λ v i not_t inside from below.
    ⊎_elim
    (λ is_u.
    let at : place_of (after s u) v ≡ suc (place_of s u) = ap (place_of (after s u)) is_u ∙ get_or-set_same s u (suc (place_of s u)) 0 (inside_listed plan s u now.0) in
    ⊎_elim
    (λ more. later v i not_t (inside_from plan (after s u) v (omega (arith, at)) (omega (arith, at, more, below))) (omega (arith, at, more)) below)
    (λ last.
    let same : i ≡ place_of s u = omega (arith, last, from, ap (place_of s) is_u) in
    ap (λ w. are_apart (plan.claim w i) (stand plan t 1)) is_u ∙ ap (λ k. are_apart (plan.claim u k) (stand plan t 1)) same ∙ apart)
    (cases_lt (place_of s u) i))
    (λ not_u.
    let at : place_of (after s u) v ≡ place_of s v = place_kept s v u not_u in
    later v i not_t (inside_same plan s (after s u) v at inside) (omega (arith, from, at)) below)
    (cases_eq v u)

-- the train's first move, as a leg
abbrev entering : ℕ → Leg
entering t = record { train = t; place = 1 }

-- once the train has made its first move, the list with its other moves at the end completes exactly where that move ended safely
pub appended_where_safe : (plan : Moves) (s list : List ℕ) (t : ℕ) → is_valid plan ≡ true → t < plan.trains
    → t < length s → 0 < plan.moves t → place_of s t ≡ 0 → completes plan s list ≡ true
    → completes plan (after s t) (list ++ replicate (plan.moves t - 1) t) ≡ is_safe plan s (record { train = t; place = 1 })
appended_where_safe plan s list t valid lt listed some out done =
    sym (appended_completes plan s list t valid lt listed some out done)
    ∙ ⊎_elim
    (λ safe. plays_clear plan s list t listed out done (clear_from_safe plan s (entering t) safe) ∙ sym safe)
    (λ free. ⊎_elim
    (λ played. absurd (false≢true (sym free ∙ safe_from_clear plan s (entering t) (clear_plays plan s list t listed out done played))))
    (λ stopped. stopped ∙ sym free)
    (cases_Bool (plays plan (after s t) list)))
    (cases_Bool (is_safe plan s (entering t)))

-- some section is needed for a move left exactly where some move left needs one of the sections
pub needed_either_way : (claim : ℕ → List ℕ) (sections : List ℕ) (p n : ℕ)
    → list_any (λ x. any_below (λ m. leb p m && is_in x (claim m)) n) sections ≡ any_below (λ m. leb p m && not (are_apart (claim m) sections)) n
needed_either_way claim sections p n =
    let by_section : ℕ → Bool = λ x. any_below (λ m. leb p m && is_in x (claim m)) n in
    let by_move : ℕ → Bool = λ m. leb p m && not (are_apart (claim m) sections) in
    ⊎_elim
    (λ some.
    let move = any_below_found by_move n some in
    let parts = and_parts (leb p move.0) (not (are_apart (claim move.0) sections)) move.2 in
    ⊎_elim
    (λ found. found ∙ sym some)
    (λ none. absurd (false≢true (sym (not-true (are_apart (claim move.0) sections) parts.1)
    ∙ apart_from (claim move.0) sections (λ x needed.
    ⊎_elim
    (λ is.
    let unneeded = any_below_at (λ k. leb p k && is_in x (claim k)) n move.0 (list_any_at by_section sections x none is) move.1 in
    absurd (false≢true (sym unneeded ∙ and_from (leb p move.0) (is_in x (claim move.0)) parts.0 needed)))
    (λ out. out)
    (cases_Bool (is_in x sections))))))
    (cases_Bool (list_any by_section sections)))
    (λ none.
    list_any_none by_section sections (λ x is.
    any_below_none (λ m. leb p m && is_in x (claim m)) n (λ m below.
    ⊎_elim
    (λ needed.
    let parts = and_parts (leb p m) (is_in x (claim m)) needed in
    let apart : are_apart (claim m) sections ≡ true = ⊎_elim
    (λ yes. yes)
    (λ meets. absurd (false≢true (sym (any_below_at by_move n m none below) ∙ and_from (leb p m) (not (are_apart (claim m) sections)) parts.0 (not_from_false (are_apart (claim m) sections) meets))))
    (cases_Bool (are_apart (claim m) sections)) in
    absurd (false≢true (sym (apart_at (claim m) sections x apart parts.1) ∙ is)))
    (λ unneeded. unneeded)
    (cases_Bool (leb p m && is_in x (claim m)))))
    ∙ sym none)
    (cases_Bool (any_below by_move n))

-- a section that is needed for a move left is one of those that some move left needs
pub needed_here : (claim : ℕ → List ℕ) (sections : List ℕ) (p n x : ℕ) → is_in x sections ≡ true → any_below (λ m. leb p m && is_in x (claim m)) n ≡ true
    → any_below (λ m. leb p m && not (are_apart (claim m) sections)) n ≡ true
needed_here claim sections p n x is needed =
    let by_section : ℕ → Bool = λ y. any_below (λ m. leb p m && is_in y (claim m)) n in
    sym (needed_either_way claim sections p n)
    ∙ ⊎_elim
    (λ found. found)
    (λ none. absurd (false≢true (sym (list_any_at by_section sections x none is) ∙ needed)))
    (cases_Bool (list_any by_section sections))

-- the state to which a list leads
abbrev end_of : List ℕ → List ℕ → List ℕ
end_of s [] = s
end_of s (t ∷ rest) = end_of (after s t) rest

completing_played : (plan : Moves) (s list : List ℕ) → completes plan s list ≡ true → IsPlayed plan s list (end_of s list)
completing_played plan s [] done = refl
completing_played plan s (t ∷ rest) done =
    let later = and_parts (is_inside plan s t && is_legal plan s t) (completes plan (after s t) rest) done in
    let now = and_parts (is_inside plan s t) (is_legal plan s t) later.0 in
    (now.0, now.1, completing_played plan (after s t) rest later.1)

-- a list that completes has no more entries than the trains have moves
pub completing_fits : (plan : Moves) (s list : List ℕ) → completes plan s list ≡ true → length list ≤ sum_below plan.moves (length s)
completing_fits plan s list done =
    let left = played_left plan s list (end_of s list) (completing_played plan s list done) in
    let all = sum_below-le (λ t. plan.moves t - place_of s t) plan.moves (length s) (λ t _. omega arith) in
    omega (arith, left, all)

-- a list that completes names trains that there are
pub completing_listed : (plan : Moves) (s list : List ℕ) (n : ℕ) → length s ≡ n → completes plan s list ≡ true → All (λ t. t < n) list
completing_listed plan s [] n long done = All-nil (λ t. t < n)
completing_listed plan s (u ∷ rest) n long done =
    let later = and_parts (is_inside plan s u && is_legal plan s u) (completes plan (after s u) rest) done in
    let listed = inside_listed plan s u (and_parts (is_inside plan s u) (is_legal plan s u) later.0).0 in
    All-cons (λ t. t < n) u rest (omega (arith, listed, long)) (completing_listed plan (after s u) rest n (length-set s u (suc (place_of s u)) ∙ long) later.1)
