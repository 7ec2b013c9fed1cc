-- Open intervals that are ended one after another.
use Rattle.std.proofs.Common.{◌≡◌, ℕ, zero, suc, ◌+◌, ◌<◌, ◌≤◌, List, [], ◌∷◌, ◌++◌, length, get_or, set, take, drop, map, Some, refl, ap, ◌∙◌, arith}
use Rattle.std.specs.Prelude.{unwrap_or}
use Rattle.std.proofs.Math.Seq.{take-append_seam}
use Rattle.std.proofs.lemmas.List.{append-nil, drop_all, take_all}
use Rattle.rail_base.specs.declared.intervals.Interval.{Interval}
use Rattle.rail_stairs.specs.Stairways.{ended_by}

-- the first intervals ended, and the others as they are
abbrev pub ended_to : ℕ → ℕ → List Interval → List Interval
ended_to ended n intervals = map (ended_by ended) (take n intervals) ++ drop n intervals

next_one : (ended : ℕ) (xs : List Interval) (i : ℕ) (d : Interval) → i < length xs
    → set (ended_to ended i xs) i (ended_by ended (get_or (ended_to ended i xs) i d)) ≡ ended_to ended (i + 1) xs
next_one ended [] i d lt = absurd (omega (arith, lt))
next_one ended (x ∷ xs) zero d lt = refl
next_one ended (x ∷ xs) (suc i) d lt =
    let one : suc (i + 1) ≡ suc i + 1 = omega arith in
    ap (λ ys. ended_by ended x ∷ ys) (next_one ended xs i d (omega (arith, lt))) ∙ ap (λ n. ended_to ended n (x ∷ xs)) one

-- one more is ended
pub end_next : (ended : ℕ) (xs now : List Interval) (i at : ℕ) (d : Interval) → now ≡ ended_to ended i xs → i < length xs
    → at ≡ unwrap_or (get_or now i d).«end» ended → set now i (record (get_or now i d) { «end» = Some at }) ≡ ended_to ended (i + 1) xs
end_next ended xs now i at d is lt at_is =
    (λ k. set now i (record (get_or now i d) { «end» = Some (at_is k) }))
    ∙ (λ k. set (is k) i (ended_by ended (get_or (is k) i d)))
    ∙ next_one ended xs i d lt

-- all are ended
pub end_all : (ended : ℕ) (xs now : List Interval) (i len : ℕ) → now ≡ ended_to ended i xs → length xs ≤ i → len ≡ length now
    → take len (now ++ drop (length now) xs) ≡ map (ended_by ended) xs
end_all ended xs now i len is le long =
    ap (λ n. take n (now ++ drop (length now) xs)) long
    ∙ take-append_seam now (drop (length now) xs)
    ∙ is
    ∙ (λ k. map (ended_by ended) (take_all i xs le k) ++ drop_all i xs le k)
    ∙ append-nil (map (ended_by ended) xs)
