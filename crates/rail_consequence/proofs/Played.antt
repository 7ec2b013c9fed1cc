-- Lists played from one state to another.
use Rattle.std.proofs.Common.{◌≡◌, ℕ, ◌+◌, ◌-◌, ◌*◌, ◌<◌, ◌≤◌, true, ◌&&◌, List, [], ◌∷◌, ◌++◌, length, set, take, drop, refl, sym, ap, ◌∙◌, subst, ⊎_elim, arith}
use Rattle.std.proofs.lemmas.Bool.{and_from, cases_eq}
use Rattle.std.proofs.lemmas.List.{get_or-set_same, get_or-set_other, length-set, append_assoc, take_at, drop_at}
use Rattle.rail_base.specs.declared.limits.TheConstants.{ITINERARY_ROUTES, LIST_TRAINS}
use Rattle.rail_rules.specs.Numbers.{sum_below}
use Rattle.rail_rules.specs.Moves.{Moves, is_valid}
use Rattle.rail_rules.specs.Places.{place_of, is_inside, is_legal, after, is_valid_state, nobody_inside, completes}
use Rattle.rail_rules.specs.Analysis.{moves_left}
use Rattle.rail_rules.proofs.CallerLemmas.{sum_below-lt, state_parts, legal_move_kept}
use Rattle.rail_place.specs.Tables.{moves_in, IsTable, MoveLists}
use Rattle.rail_place.specs.Plays.{IsPlayed}
use Rattle.rail_consequence.specs.Workspace.{Work, IsPlayedFrom, IsReady, GoesOn, IsBack}
use Rattle.rail_consequence.proofs.Counts.{sum_most, sum_shift}

pub played_append : (plan : Moves) (s xs r ys q : List ℕ) → IsPlayed plan s xs r → IsPlayed plan r ys q → IsPlayed plan s (xs ++ ys) q
played_append plan s [] r ys q same later = let P : List ℕ → Type 0 = λ k. IsPlayed plan k ys q in subst P (sym same) later
played_append plan s (x ∷ xs) r ys q first later = (first.0, first.1, played_append plan (after s x) xs r ys q first.2 later)

pub played_parts : (plan : Moves) (s xs ys r : List ℕ) → IsPlayed plan s (xs ++ ys) r → (q : List ℕ) × IsPlayed plan s xs q × IsPlayed plan q ys r
played_parts plan s [] ys r played = (s, refl, played)
played_parts plan s (x ∷ xs) ys r played =
    let rest = played_parts plan (after s x) xs ys r played.2 in
    (rest.0, (played.0, played.1, rest.1), rest.2)

pub played_valid : (plan : Moves) (s xs r : List ℕ) → is_valid plan ≡ true → is_valid_state plan s ≡ true → IsPlayed plan s xs r → is_valid_state plan r ≡ true
played_valid plan s [] r valid state same = ap (is_valid_state plan) (sym same) ∙ state
played_valid plan s (t ∷ rest) r valid state played =
    played_valid plan (after s t) rest r valid (legal_move_kept plan s t valid state played.1) played.2

-- where nobody is inside afterwards, the list completes
pub played_completes : (plan : Moves) (s xs r : List ℕ) → IsPlayed plan s xs r → nobody_inside plan r ≡ true → completes plan s xs ≡ true
played_completes plan s [] r same nobody = ap (nobody_inside plan) same ∙ nobody
played_completes plan s (t ∷ rest) r played nobody =
    and_from (is_inside plan s t && is_legal plan s t) (completes plan (after s t) rest) (and_from (is_inside plan s t) (is_legal plan s t) played.0 played.1)
    (played_completes plan (after s t) rest r played.2 nobody)

-- a place further on leaves so many moves less
pub moves_left_at : (plan : Moves) (s : List ℕ) (t p d : ℕ) → t < length s → place_of s t + d ≡ p → p ≤ plan.moves t → moves_left plan (set s t p) + d ≡ moves_left plan s
moves_left_at plan s t p d lt at within =
    let left : List ℕ → ℕ → ℕ = λ r u. plan.moves u - place_of r u in
    let here : place_of (set s t p) t ≡ p = get_or-set_same s t p 0 lt in
    let P : ℕ → Type 0 = λ n. sum_below (left (set s t p)) n + d ≡ sum_below (left s) (length s) in
    subst P (sym (length-set s t p))
    (omega (
      arith,
      sum_shift (left (set s t p)) (left s) (length s) t d 0 lt (omega (arith, here, at, within))
          (λ u ne. ap (λ k. plan.moves u - k) (get_or-set_other s t u p 0 ne)),
    ))

-- going on to a place leaves fewer moves
pub fewer_at : (plan : Moves) (s : List ℕ) (t p : ℕ) → t < length s → place_of s t < p → p ≤ plan.moves t → moves_left plan (set s t p) < moves_left plan s
fewer_at plan s t p lt ahead within =
    let left : List ℕ → ℕ → ℕ = λ r u. plan.moves u - place_of r u in
    let next : List ℕ = set s t p in
    let here : place_of next t ≡ p = get_or-set_same s t p 0 lt in
    let less : left next t < left s t = omega (arith, here) in
    let no_more : (u : ℕ) → u < length s → left next u ≤ left s u = λ u _. ⊎_elim
    (λ same. let P : ℕ → Type 0 = λ k. left next k ≤ left s k in subst P (sym same) (omega (arith, less)))
    (λ other. omega (arith, get_or-set_other s t u p 0 other))
    (cases_eq u t) in
    let P : ℕ → Type 0 = λ n. sum_below (left next) n < sum_below (left s) (length s) in
    subst P (sym (length-set s t p)) (sum_below-lt (left next) (left s) (length s) t lt no_more less)

-- the moves that are left are within the limits
pub left_few : (table : List MoveLists) (s : List ℕ) → IsTable table → is_valid_state (moves_in table) s ≡ true → moves_left (moves_in table) s ≤ LIST_TRAINS
left_few table s h valid =
    let plan : Moves = moves_in table in
    let long : length s ≡ length table = (state_parts plan s valid).long in
    let bound : moves_left plan s ≤ length s * ITINERARY_ROUTES = sum_most (λ t. plan.moves t - place_of s t) (length s) ITINERARY_ROUTES (λ t lt. omega (arith, h.short t)) in
    omega (arith, long, h.few, bound)

pub goes_further : (plan : Moves) (a b c : Work) → GoesOn plan a b → GoesOn plan b c → GoesOn plan a c
goes_further plan a b c first later = record {
  more = first.more ++ later.more;
  list = later.list ∙ ap (λ xs. xs ++ later.more) first.list ∙ append_assoc a.list first.more later.more;
  played = played_append plan a.places.positions first.more b.places.positions later.more c.places.positions first.played later.played;
}

-- what takes all back that was made since
pub back_by : (plan : Moves) (a b c : Work) (mark : ℕ) → GoesOn plan a b → mark ≡ length a.list → c.list ≡ take mark b.list → ((s : List ℕ) → IsPlayed plan s (drop mark b.list) b.places.positions → c.places.positions ≡ s) → IsBack a c
back_by plan a b c mark goes at list positions =
    let rest : drop mark b.list ≡ goes.more = ap (drop mark) goes.list ∙ drop_at a.list goes.more mark (sym at) in
    let P : List ℕ → Type 0 = λ xs. IsPlayed plan a.places.positions xs b.places.positions in
    record {
      list = list ∙ ap (take mark) goes.list ∙ take_at a.list goes.more mark (sym at);
      positions = positions a.places.positions (subst P (sym rest) goes.played);
    }

-- and it can be taken back
pub goes_played : (table : List MoveLists) (a b : Work) (mark : ℕ) → IsReady table a → GoesOn (moves_in table) a b → mark ≡ length a.list → IsPlayedFrom (moves_in table) mark b
goes_played table a b mark ready goes at =
    let rest : drop mark b.list ≡ goes.more = ap (drop mark) goes.list ∙ drop_at a.list goes.more mark (sym at) in
    let P : List ℕ → Type 0 = λ xs. IsPlayed (moves_in table) a.places.positions xs b.places.positions in
    record { start = a.places.positions; valid = ready.made.valid; played = subst P (sym rest) goes.played }

pub ready_as : (table : List MoveLists) (a b : Work) → a ≡ b → IsReady table b → IsReady table a
ready_as table a b same ready = let P : Work → Type 0 = λ w. IsReady table w in subst P (sym same) ready
