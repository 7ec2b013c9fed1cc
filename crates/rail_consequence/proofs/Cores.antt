-- The core of a search that failed: the trains that safe legs leave inside.
use Rattle.std.proofs.Common.{◌≡◌, ◌≢◌, ℕ, suc, ◌<◌, Bool, true, false, ◌&&◌, List, [], ◌∷◌, length, refl, sym, ap, ◌∙◌, ⊎_elim, inl, inr, arith}
use Rattle.std.proofs.lemmas.Bool.{and_parts, cases_eq, false≢true}
use Rattle.std.proofs.lemmas.List.{get_or-set_same, get_or-set_other, length-set}
use Rattle.rail_rules.specs.Moves.{Moves}
use Rattle.rail_rules.specs.Places.{place_of, is_inside, after}
use Rattle.rail_rules.specs.Analysis.{Leg, is_leg, is_safe, after_leg, Finds}
use Rattle.rail_consequence.specs.Cores.{IsAhead, IsCore, StandAlike, after_legs, are_safe_legs}
use Rattle.rail_consequence.proofs.Safe.{ahead_leg, ahead_still, cost-safe, found_ahead, found_front}

-- safe legs lead ahead
ahead_legs : (plan : Moves) (s r : List ℕ) (legs : List Leg) → IsAhead plan s r → are_safe_legs plan r legs ≡ true → IsAhead plan s (after_legs r legs)
ahead_legs plan s r [] ahead safe = ahead
ahead_legs plan s r (leg ∷ legs) ahead safe =
    let later : Bool = are_safe_legs plan (after_leg r leg) legs in
    let both = and_parts (is_leg plan r leg && is_safe plan r leg) later safe in
    let first = and_parts (is_leg plan r leg) (is_safe plan r leg) both.0 in
    ahead_legs plan s (after_leg r leg) legs (ahead_leg plan s r leg ahead first.0 first.1) both.1

-- a state ahead is ahead of each other one in which those who are inside there stand alike
ahead_alike : (plan : Moves) (s r q : List ℕ) → IsAhead plan s q → length r ≡ length s → ((t : ℕ) → is_inside plan q t ≡ true → place_of r t ≡ place_of s t) → IsAhead plan r q
ahead_alike plan s r q ahead long alike = record {
  long = ahead.long ∙ sym long;
  entered = λ t inside. omega (arith, alike t inside, ahead.entered t inside);
  later = λ t inside. omega (arith, alike t inside, ahead.later t inside);
  clear = λ t inside. ⊎_elim (λ stays. inl (alike t inside ∙ stays)) (λ clear. inr clear) (ahead.clear t inside);
}

-- who is inside ahead, where nothing is found, are a core
pub core_ahead : (plan : Moves) (k : ℕ) (s q : List ℕ) (core : ℕ → Bool) → IsAhead plan s q → ((t : ℕ) → is_inside plan q t ≡ true → core t ≡ true) → (Finds plan k q → ⊥) → IsCore plan k s core
core_ahead plan k s q core ahead all none = λ r long alike found.
    none (found_ahead plan k r q (ahead_alike plan s r q ahead long (λ t inside. alike t (all t inside))) found)

-- what is found after safe legs is found before them
found_before : (plan : Moves) (k : ℕ) (s : List ℕ) (legs : List Leg) → are_safe_legs plan s legs ≡ true → Finds plan k (after_legs s legs) → Finds plan k s
found_before plan k s [] safe found = found
found_before plan k s (leg ∷ legs) safe found =
    let later : Bool = are_safe_legs plan (after_leg s leg) legs in
    let both = and_parts (is_leg plan s leg && is_safe plan s leg) later safe in
    let first = and_parts (is_leg plan s leg) (is_safe plan s leg) both.0 in
    found_front plan k k s leg first.0 (omega (arith, cost-safe plan s leg first.1)) (found_before plan k (after_leg s leg) legs both.1 found)

pub core_of_legs : (plan : Moves) (k : ℕ) (s : List ℕ) (legs : List Leg) (core : ℕ → Bool)
    → are_safe_legs plan s legs ≡ true
    → ((t : ℕ) → is_inside plan (after_legs s legs) t ≡ true → core t ≡ true)
    → (Finds plan k s → ⊥) → IsCore plan k s core
core_of_legs plan k s legs core safe all none =
    core_ahead plan k s (after_legs s legs) core (ahead_legs plan s s legs (ahead_still plan s) safe) all (λ found. none (found_before plan k s legs safe found))

-- a core is one from each state in which its trains stand alike
pub core_lasts : (plan : Moves) (k : ℕ) (s r : List ℕ) (core : ℕ → Bool) → IsCore plan k s core → length r ≡ length s → StandAlike core s r → IsCore plan k r core
core_lasts plan k s r core is long alike = λ q long_q alike_q. is q (long_q ∙ long) (λ t one. alike_q t one ∙ alike t one)

-- a core stands alike behind a move of a train that is none of it, with a further move of another train before or behind it
pub after_alike : (s : List ℕ) (t u : ℕ) (core : ℕ → Bool) → t < length s → u ≢ t → core u ≡ false → StandAlike core (after s t) (after (after s u) t)
after_alike s t u core lt ne out v one =
    let same : (w : ℕ) → w ≢ u → place_of (after s u) w ≡ place_of s w = λ w not_u. get_or-set_other s u w (suc (place_of s u)) 0 not_u in
    let lt_u : t < length (after s u) = omega (arith, length-set s u (suc (place_of s u)), lt) in
    ⊎_elim
    (λ is_t.
    ap (place_of (after (after s u) t)) is_t
    ∙ get_or-set_same (after s u) t (suc (place_of (after s u) t)) 0 lt_u
    ∙ ap suc (same t (λ e. ne (sym e)))
    ∙ sym (get_or-set_same s t (suc (place_of s t)) 0 lt)
    ∙ ap (place_of (after s t)) (sym is_t))
    (λ not_t.
    get_or-set_other (after s u) t v (suc (place_of (after s u) t)) 0 not_t
    ∙ same v (λ is_u. false≢true (sym out ∙ ap core (sym is_u) ∙ one))
    ∙ sym (get_or-set_other s t v (suc (place_of s t)) 0 not_t))
    (cases_eq v t)

-- so it is a core behind both moves
pub core_behind : (plan : Moves) (k : ℕ) (s : List ℕ) (t u : ℕ) (core : ℕ → Bool) → t < length s → u ≢ t → core u ≡ false → IsCore plan k (after s t) core → IsCore plan k (after (after s u) t) core
core_behind plan k s t u core lt ne out is =
    core_lasts plan k (after s t) (after (after s u) t) core is
    (length-set (after s u) t (suc (place_of (after s u) t)) ∙ length-set s u (suc (place_of s u)) ∙ sym (length-set s t (suc (place_of s t))))
    (after_alike s t u core lt ne out)

-- nothing is found from the state of a core itself
pub core_none : (plan : Moves) (k : ℕ) (s : List ℕ) (core : ℕ → Bool) → IsCore plan k s core → Finds plan k s → ⊥
core_none plan k s core is found = is s refl (λ t one. refl) found
