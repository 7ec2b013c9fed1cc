-- One station more.
use Rattle.std.proofs.Common.{◌≡◌, ℕ, ◌+◌, ◌-◌, ◌≤◌, zero, suc, List, [], ◌∷◌, ◌++◌, ap, ◌∙◌, arith, append_assoc}
use Rattle.std.specs.List.{flat_map, range_with_len}
use Rattle.std.proofs.lemmas.List.{flat_map_more}
use Rattle.rail_track.specs.declared.section.Section.{Section}
use Rattle.rail_routes.specs.declared.items.Route.{Route}
use Rattle.rail_routes.specs.Net.{Net}

range_push : (a n : ℕ) → range_with_len a n ++ (a + n) ∷ [] ≡ range_with_len a (suc n)
range_push a zero = ap (λ (m : ℕ). m ∷ []) (omega arith)
range_push a (suc n) =
    let moved : a + suc n ≡ a + 1 + n = omega arith in
    ap (λ xs. a ∷ xs) (ap (λ (m : ℕ). range_with_len (a + 1) n ++ m ∷ []) moved ∙ range_push (a + 1) n)

range_more : (k : ℕ) → 1 ≤ k → range_with_len 1 (k - 1) ++ k ∷ [] ≡ range_with_len 1 (k + 1 - 1)
range_more k some =
    let here : k ≡ 1 + (k - 1) = omega arith in
    let next : suc (k - 1) ≡ k + 1 - 1 = omega arith in
    ap (λ (m : ℕ). range_with_len 1 (k - 1) ++ m ∷ []) here ∙ range_push 1 (k - 1) ∙ ap (range_with_len 1) next

-- the items of one more station go behind those before
pub station_more : {X : Type 0} (old head : List X) (f : ℕ → List X) (k : ℕ) → 1 ≤ k
    → (old ++ (head ++ flat_map f (range_with_len 1 (k - 1)))) ++ f k ≡ old ++ (head ++ flat_map f (range_with_len 1 (k + 1 - 1)))
station_more old head f k some =
    append_assoc old (head ++ flat_map f (range_with_len 1 (k - 1))) (f k)
    ∙ ap (λ xs. old ++ xs) (flat_map_more f head (range_with_len 1 (k - 1)) k ∙ ap (λ ks. head ++ flat_map f ks) (range_more k some))

-- sections that are added behind those that were added before
pub sections_then : (net mid end : Net) (xs ys : List Section) → mid ≡ record net { sections = net.sections ++ xs } → end ≡ record mid { sections = mid.sections ++ ys }
    → end ≡ record net { sections = net.sections ++ (xs ++ ys) }
sections_then net mid end xs ys before is =
    is ∙ ap (λ (n : Net). record n { sections = n.sections ++ ys }) before ∙ ap (λ zs. record net { sections = zs }) (append_assoc net.sections xs ys)

-- routes that are added behind those that were added before
pub routes_then : (net mid end : Net) (xs ys : List Route) → mid ≡ record net { routes = net.routes ++ xs } → end ≡ record mid { routes = mid.routes ++ ys }
    → end ≡ record net { routes = net.routes ++ (xs ++ ys) }
routes_then net mid end xs ys before is =
    is ∙ ap (λ (n : Net). record n { routes = n.routes ++ ys }) before ∙ ap (λ zs. record net { routes = zs }) (append_assoc net.routes xs ys)
