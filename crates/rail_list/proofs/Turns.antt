-- What is pulled completes exactly where no earlier entry needs what the train then stands on, and the walk over these entries.
use Rattle.std.proofs.Common.{◌≡◌, ◌≢◌, ℕ, zero, suc, ◌+◌, ◌-◌, ◌<◌, ◌≤◌, true, false, not, ◌&&◌, eqb, leb, List, [], ◌∷◌, ◌++◌, length, replicate, get_or, set, refl, sym, ap, ◌∙◌, subst, ⊎_elim, arith}
use Rattle.std.proofs.lemmas.Bool.{and_parts, cases_eq, cond-true, cond-false, eq-eqb, le-leb, ne_eqb, not-false, false≢true}
use Rattle.std.proofs.lemmas.List.{get_or-set_other, get_or-set_same, length-set}
use Rattle.rail_rules.specs.Numbers.{any_below, are_apart}
use Rattle.rail_rules.specs.Moves.{Moves, stand}
use Rattle.rail_rules.specs.Places.{place_of, is_inside, is_legal, after, completes}
use Rattle.rail_rules.specs.Fronts.{without_first}
use Rattle.rail_rules.proofs.CallerLemmas.{any_below_at, apart_sym}
use Rattle.rail_place.proofs.CallerLemmas.{inside_listed}
use Rattle.rail_consequence.specs.Needs.{times}
use Rattle.rail_consequence.proofs.CallerLemmas.{nobody_at}
use Rattle.rail_list.specs.KeptLists.{before_first, is_free_before}
use Rattle.rail_list.specs.declared.entries.Seen.{Seen}
use Rattle.rail_list.specs.declared.entries.Seen.TheVariants.{Idle, Passed}
use Rattle.rail_list.proofs.Pulling.{place_kept, inside_kept, after_comm}
use Rattle.rail_list.proofs.Beside.{legal_beside}
use Rattle.rail_list.proofs.MovesLeft.{entries_left, entry_inside, times-other, times-same}

-- the train's own entry, and an entry of another train
free_here : (plan : Moves) (t u : ℕ) (sections rest : List ℕ) → u ≡ t → is_free_before plan t sections (u ∷ rest) ≡ true
free_here plan t u sections rest same =
    cond-true (eqb u t) true (are_apart sections (plan.claim u (plan.moves u - suc (times u rest))) && is_free_before plan t sections rest) (eq-eqb u t same)

free_next : (plan : Moves) (t u : ℕ) (sections rest : List ℕ) → u ≢ t
    → is_free_before plan t sections (u ∷ rest) ≡ (are_apart sections (plan.claim u (plan.moves u - suc (times u rest))) && is_free_before plan t sections rest)
free_next plan t u sections rest other =
    cond-false (eqb u t) true (are_apart sections (plan.claim u (plan.moves u - suc (times u rest))) && is_free_before plan t sections rest) (ne_eqb u t other)

-- once the train has made its move early, the list without its first entry completes exactly where no entry before that one needs what the train then stands on
pub pulled_where_free : (plan : Moves) (s list : List ℕ) (t : ℕ) → completes plan s list ≡ true → is_inside plan s t ≡ true
    → completes plan (after s t) (without_first t list) ≡ is_free_before plan t (stand plan t (suc (place_of s t))) list
pulled_where_free plan s [] t done inside = absurd (false≢true (sym (nobody_at plan s t done) ∙ inside))
pulled_where_free plan s (u ∷ rest) t done inside =
    let parts = and_parts (is_inside plan s u && is_legal plan s u) (completes plan (after s u) rest) done in
    let now = and_parts (is_inside plan s u) (is_legal plan s u) parts.0 in
    let r : List ℕ = after s t in
    let sections : List ℕ = stand plan t (suc (place_of s t)) in
    ⊎_elim
    (λ same.
    let P : ℕ → Type 0 = λ k. completes plan (after s k) rest ≡ true in
    ap (completes plan r) (cond-true (eqb u t) rest (u ∷ without_first t rest) (eq-eqb u t same))
    ∙ subst P same parts.1
    ∙ sym (free_here plan t u sections rest same))
    (λ other.
    let ne : t ≢ u = λ e. other (sym e) in
    let left = entries_left plan s (u ∷ rest) u done now.0 in
    let turn : place_of s u ≡ plan.moves u - suc (times u rest) = omega (arith, left, times-same u rest) in
    let later = pulled_where_free plan (after s u) rest t parts.1 (inside_kept plan s t u ne ∙ inside) in
    let turned : after r u ≡ after (after s u) t = after_comm s t u ne in
    let legal : is_legal plan r u ≡ are_apart sections (plan.claim u (plan.moves u - suc (times u rest))) =
    legal_beside plan s t u (inside_listed plan s t inside) other now.1 ∙ ap (λ m. are_apart sections (plan.claim u m)) turn in
    let rest_is : completes plan (after r u) (without_first t rest) ≡ is_free_before plan t sections rest =
    ap (λ q. completes plan q (without_first t rest)) turned ∙ later
    ∙ ap (λ p. is_free_before plan t (stand plan t (suc p)) rest) (place_kept s t u ne) in
    ap (completes plan r) (cond-false (eqb u t) rest (u ∷ without_first t rest) (ne_eqb u t other))
    ∙ ap (λ b. b && is_legal plan r u && completes plan (after r u) (without_first t rest)) (inside_kept plan s u t other ∙ now.0)
    ∙ ap (λ b. b && completes plan (after r u) (without_first t rest)) legal
    ∙ ap (λ b. are_apart sections (plan.claim u (plan.moves u - suc (times u rest))) && b) rest_is
    ∙ sym (free_next plan t u sections rest other))
    (cases_eq u t)

-- the entries of a run, and those of other trains behind it
pub times_run : (r u : ℕ) (rest : List ℕ) → times u (replicate r u ++ rest) ≡ r + times u rest
times_run zero u rest = omega arith
times_run (suc r) u rest = omega (arith, times-same u (replicate r u ++ rest), times_run r u rest)

times_past : (r u v : ℕ) (rest : List ℕ) → u ≢ v → times v (replicate r u ++ rest) ≡ times v rest
times_past zero u v rest ne = refl
times_past (suc r) u v rest ne = times-other v u (replicate r u ++ rest) ne ∙ times_past r u v rest ne

-- the entries before the first of the train, where a run of another train stands at the start
pub before_run : (r u t : ℕ) (rest : List ℕ) → u ≢ t → length (before_first t (replicate r u ++ rest)) ≡ r + length (before_first t rest)
before_run zero u t rest other = omega arith
before_run (suc r) u t rest other =
    let behind : List ℕ = replicate r u ++ rest in
    omega (arith, ap length (cond-false (eqb u t) [] (u ∷ before_first t behind) (ne_eqb u t other)), before_run r u t rest other)

-- no entry of a run needs one of the sections for its move: these are the train's moves before those that it has behind the run
abbrev pub IsClearRun : Moves → List ℕ → ℕ → ℕ → List ℕ → Type 0
IsClearRun plan sections r u rest = (m : ℕ) → plan.moves u ≤ m + (r + times u rest) → m + times u rest < plan.moves u → are_apart sections (plan.claim u m) ≡ true

pub free_run : (plan : Moves) (r t u : ℕ) (sections rest : List ℕ) → u ≢ t → r + times u rest ≤ plan.moves u → IsClearRun plan sections r u rest
    → is_free_before plan t sections (replicate r u ++ rest) ≡ is_free_before plan t sections rest
free_run plan zero t u sections rest other few clear = refl
free_run plan (suc r) t u sections rest other few clear =
    let behind : List ℕ = replicate r u ++ rest in
    let count = times_run r u rest in
    free_next plan t u sections behind other
    ∙ ap (λ b. b && is_free_before plan t sections behind) (clear (plan.moves u - suc (times u behind)) (omega (arith, few, count)) (omega (arith, few, count)))
    ∙ free_run plan r t u sections rest other (omega (arith, few)) (λ m from below. clear m (omega (arith, from)) below)

pub clear_run : (plan : Moves) (r t u : ℕ) (sections rest : List ℕ) → u ≢ t → r + times u rest ≤ plan.moves u
    → is_free_before plan t sections (replicate r u ++ rest) ≡ true → IsClearRun plan sections r u rest
clear_run plan zero t u sections rest other few free = λ m from below. absurd (omega (arith, from, below))
clear_run plan (suc r) t u sections rest other few free = λ m from below.
    let behind : List ℕ = replicate r u ++ rest in
    let here : ℕ = plan.moves u - suc (times u behind) in
    let parts = and_parts (are_apart sections (plan.claim u here)) (is_free_before plan t sections behind) (sym (free_next plan t u sections behind other) ∙ free) in
    ⊎_elim
    (λ same. ap (λ k. are_apart sections (plan.claim u k)) same ∙ parts.0)
    (λ later. clear_run plan r t u sections rest other (omega (arith, few)) parts.1 m (omega (arith, from, few, later, times_run r u rest)) below)
    (cases_eq m here)

-- the train needs none of the sections for a move of which an entry stands in the rest of a list
abbrev pub IsClearOf : Moves → List ℕ → List ℕ → ℕ → Type 0
IsClearOf plan sections rest u = (m : ℕ) → plan.moves u ≤ m + times u rest → m < plan.moves u → are_apart sections (plan.claim u m) ≡ true

-- a list, of which a run stands at the start
abbrev pub IsSplit : List ℕ → ℕ → ℕ → List ℕ → Type 0
IsSplit xs r u rest = xs ≡ replicate r u ++ rest

-- what a train needs for none of the entries from a run on it needs for none of those behind it
pub clear_later : (plan : Moves) (sections xs rest : List ℕ) (r u v : ℕ) → IsSplit xs r u rest → IsClearOf plan sections xs v → IsClearOf plan sections rest v
clear_later plan sections xs rest r u v split clear = λ m from below.
    ⊎_elim
    (λ same.
    let count : times v xs ≡ r + times v rest = ap (times v) split ∙ ap (λ k. times v (replicate r k ++ rest)) same ∙ times_run r v rest in
    clear m (omega (arith, from, count)) below)
    (λ other. clear m (omega (arith, from, ap (times v) split, times_past r u v rest other)) below)
    (cases_eq u v)

-- a run of such a train is passed
pub clear_passed : (plan : Moves) (sections xs rest : List ℕ) (r u t : ℕ) → IsSplit xs r u rest → u ≢ t → times u xs ≤ plan.moves u
    → IsClearOf plan sections xs u → is_free_before plan t sections xs ≡ is_free_before plan t sections rest
clear_passed plan sections xs rest r u t split other few clear =
    let count : times u xs ≡ r + times u rest = ap (times u) split ∙ times_run r u rest in
    ap (is_free_before plan t sections) split
    ∙ free_run plan r t u sections rest other (omega (arith, count, few)) (λ m from below. clear m (omega (arith, from, count)) (omega (arith, below)))

-- a train that needs none of the sections from a move on, where no entry stands for an earlier one
pub clear_from : (plan : Moves) (sections rest : List ℕ) (u p : ℕ) → p + times u rest ≤ plan.moves u
    → any_below (λ m. leb p m && not (are_apart (plan.claim u m) sections)) (plan.moves u) ≡ false → IsClearOf plan sections rest u
clear_from plan sections rest u p reached none = λ m from below.
    let late : leb p m ≡ true = le-leb p m (omega (arith, reached, from)) in
    let apart : not (are_apart (plan.claim u m) sections) ≡ false =
    ap (λ b. b && not (are_apart (plan.claim u m) sections)) (sym late)
    ∙ any_below_at (λ k. leb p k && not (are_apart (plan.claim u k) sections)) (plan.moves u) m none below in
    apart_sym (plan.claim u m) sections (not-false (are_apart (plan.claim u m) sections) apart)

-- what a walk knows of a train: how many of its entries were passed, or that it needs none of the sections any more
abbrev pub IsPassed : Moves → List ℕ → List ℕ → List ℕ → ℕ → Seen → Type 0
IsPassed plan sections list rest u Idle = IsClearOf plan sections rest u
IsPassed plan sections list rest u (Passed n) = n + times u rest ≡ times u list

-- the entries passed, those of this run and those behind it are the moves that the train has left
pub reached : (plan : Moves) (s list xs rest : List ℕ) (r u n : ℕ) → completes plan s list ≡ true → IsSplit xs r u rest → 1 ≤ r
    → n + times u xs ≡ times u list → place_of s u + n + (r + times u rest) ≡ plan.moves u
reached plan s list xs rest r u n done split some passed =
    let count : times u xs ≡ r + times u rest = ap (times u) split ∙ times_run r u rest in
    let inside = entry_inside plan s list u done (omega (arith, passed, count, some)) in
    omega (arith, passed, count, entries_left plan s list u done inside)

-- a run of another train changes nothing of what is known of a train
passed_other : (plan : Moves) (list sections xs rest : List ℕ) (r u v : ℕ) (w : Seen) → IsSplit xs r u rest → u ≢ v
    → IsPassed plan sections list xs v w → IsPassed plan sections list rest v w
passed_other plan list sections xs rest r u v Idle split other clear = clear_later plan sections xs rest r u v split clear
passed_other plan list sections xs rest r u v (Passed n) split other passed = omega (arith, passed, ap (times v) split, times_past r u v rest other)

-- what is known of each train whose number a plant may have
abbrev pub AreTold : Moves → List ℕ → List ℕ → List ℕ → List Seen → Type 0
AreTold plan sections list rest ws = (u : ℕ) → u < length ws → IsPassed plan sections list rest u (get_or ws u (Passed 0))

-- what is known behind a run, where of its train this is known
pub told_later : (plan : Moves) (list sections xs rest : List ℕ) (r u : ℕ) (ws : List Seen) (w : Seen) → IsSplit xs r u rest → u < length ws
    → AreTold plan sections list xs ws → IsPassed plan sections list rest u w → AreTold plan sections list rest (set ws u w)
told_later plan list sections xs rest r u ws w split within told own = λ v below.
    ⊎_elim
    (λ same.
    let P : ℕ → Type 0 = λ k. IsPassed plan sections list rest k (get_or (set ws u w) k (Passed 0)) in
    let Q : Seen → Type 0 = λ x. IsPassed plan sections list rest u x in
    subst P same (subst Q (sym (get_or-set_same ws u w (Passed 0) within)) own))
    (λ other.
    let Q : Seen → Type 0 = λ x. IsPassed plan sections list rest v x in
    subst Q (sym (get_or-set_other ws u v w (Passed 0) (λ e. other (sym e))))
    (passed_other plan list sections xs rest r u v (get_or ws v (Passed 0)) split other (told v (omega (arith, below, length-set ws u w)))))
    (cases_eq u v)

-- the same, where of its train it is known that it needs none of the sections any more
pub told_still : (plan : Moves) (list sections xs rest : List ℕ) (r u : ℕ) (ws : List Seen) → IsSplit xs r u rest → get_or ws u (Passed 0) ≡ Idle
    → AreTold plan sections list xs ws → AreTold plan sections list rest ws
told_still plan list sections xs rest r u ws split none told = λ v below.
    ⊎_elim
    (λ same.
    let none_here : get_or ws v (Passed 0) ≡ Idle = ap (λ k. get_or ws k (Passed 0)) (sym same) ∙ none in
    let P : Seen → Type 0 = λ x. IsPassed plan sections list xs v x in
    let Q : Seen → Type 0 = λ x. IsPassed plan sections list rest v x in
    subst Q (sym none_here) (clear_later plan sections xs rest r u v split (subst P none_here (told v below))))
    (λ other. passed_other plan list sections xs rest r u v (get_or ws v (Passed 0)) split other (told v below))
    (cases_eq u v)
