-- The steps over sections and joints in turn, two names at a time.
use Rattle.std.proofs.Common.{◌≡◌, ℕ, suc, ◌-◌, Some, slice_get, ◌≤◌, List, [], ◌∷◌, ◌++◌, append_assoc, length, take, drop, get_or, sym, ap, ◌∙◌, arith}
use Rattle.std.proofs.lemmas.List.{take_all}
use Rattle.rail_routes.specs.declared.items.Step.{Step}
use Rattle.rail_scene.specs.Entries.{steps_from, steps_behind}

pub steps_more : (joint : List ℕ) (names : List (List ℕ)) (section next : List ℕ) → 2 ≤ length names → section ≡ get_or names 0 section → next ≡ get_or names 1 next
    → steps_from joint names ≡ record { section = section; from = joint; to = next } ∷ steps_from next (take (length names - 2) (drop 2 names))
steps_more joint [] section next two a b = absurd (omega arith)
steps_more joint (x ∷ []) section next two a b = absurd (omega arith)
steps_more joint (x ∷ y ∷ names) section next two a b =
    let all : take (length (x ∷ y ∷ names) - 2) names ≡ names = take_all (length (x ∷ y ∷ names) - 2) names (omega arith) in
    λ i. record { section = sym a i; from = joint; to = sym b i } ∷ steps_from (sym b i) (sym all i)

-- a step more keeps what the steps and the names behind them spell
pub steps_kept : (steps pushed : List Step) (joint : List ℕ) (names : List (List ℕ)) (all : List Step) (section next : List ℕ) → 2 ≤ length names → section ≡ get_or names 0 section → next ≡ get_or names 1 next
    → pushed ≡ steps ++ record { section = section; from = joint; to = next } ∷ [] → steps ++ steps_from joint names ≡ all → pushed ++ steps_from next (take (length names - 2) (drop 2 names)) ≡ all
steps_kept steps pushed joint names all section next two a b push kept =
    let rest = steps_from next (take (length names - 2) (drop 2 names)) in
    let step : Step = record { section = section; from = joint; to = next } in
    ap (λ (done : List Step). done ++ rest) push ∙ append_assoc steps (step ∷ []) rest ∙ ap (λ (more : List Step). steps ++ more) (sym (steps_more joint names section next two a b)) ∙ kept

-- behind steps the names go on where the last of them ends
pub steps_behind-last : (steps : List Step) (step : Step) (names : List (List ℕ)) → Some step ≡ slice_get steps (length steps - 1) → steps_behind steps names ≡ steps_from step.to names
steps_behind-last [] step names is = cc
steps_behind-last (one ∷ []) step names is =
    let same : step ≡ one = cc in
    ap (λ (s : Step). steps_from s.to names) (sym same)
steps_behind-last (one ∷ next ∷ rest) step names is =
    let index : length (one ∷ next ∷ rest) - 1 ≡ suc (length (next ∷ rest) - 1) = omega arith in
    steps_behind-last (next ∷ rest) step names (is ∙ ap (slice_get (one ∷ next ∷ rest)) index)
