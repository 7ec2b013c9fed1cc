-- Steps that are read one by one.
use Rattle.std.proofs.Common.{◌≡◌, ℕ, ◌&&◌, false, cond, List, [], ◌∷◌, ◌++◌, Option, Some, None, if◌then◌else◌, option_map, refl, sym, ap, ◌∙◌, append_assoc}
use Rattle.rail_base.specs.NameForms.{is_name}
use Rattle.rail_text.proofs.CallerLemmas.{read_as}
use Rattle.rail_routes.specs.declared.items.Step.{Step}
use Rattle.rail_edit_file.specs.declared.lists.Way.{Way}
use Rattle.rail_edit_file.specs.EditLines.{is_slash, overlap_from, steps_from, way_from}

-- one step more before a way
pub one_more_step : (steps pushed : List Step) (step : Step) (way : Option Way) → pushed ≡ steps ++ step ∷ []
    → option_map (λ (w : Way). record w { steps = pushed ++ w.steps }) way
    ≡ option_map (λ (w : Way). record w { steps = steps ++ w.steps }) (option_map (λ (w : Way). record w { steps = step ∷ w.steps }) way)
one_more_step steps pushed step None is = refl
one_more_step steps pushed step (Some way) is =
    ap (λ (ss : List Step). Some record way { steps = ss }) (ap (λ ss. ss ++ way.steps) is ∙ append_assoc steps (step ∷ []) way.steps)

-- the first step of a way, and the way behind it
pub first_way : (from word section next to : List ℕ) (behind rest : List (List ℕ)) → is_slash word ≡ false → behind ≡ next ∷ rest
    → Some section ≡ (if is_name word then Some word else None) → Some to ≡ (if is_name next then Some next else None)
    → way_from from (word ∷ behind) ≡ option_map (λ (way : Way). record way { steps = record { section = section; from = from; to = to } ∷ way.steps }) (way_from to rest)
first_way from word section next to behind rest other here section_is to_is =
    let s = read_as word section section_is in
    let t = read_as next to to_is in
    ap (λ (ws : List (List ℕ)). way_from from (word ∷ ws)) here
    ∙ (λ i. cond (other i) (option_map (λ (overlap : List Step). record { steps = []; overlap = overlap }) (overlap_from from (next ∷ rest)))
    (cond (s.1 i && t.1 i) (option_map (λ (way : Way). record way { steps = record { section = sym s.0 i; from = from; to = sym t.0 i } ∷ way.steps }) (way_from (sym t.0 i) rest)) None))

-- the first of the steps, and those behind it
pub first_step : (from word section next to : List ℕ) (behind rest : List (List ℕ)) → behind ≡ next ∷ rest → Some section ≡ (if is_name word then Some word else None) → Some to ≡ (if is_name next then Some next else None)
    → steps_from from (word ∷ behind) ≡ option_map (λ (steps : List Step). record { section = section; from = from; to = to } ∷ steps) (steps_from to rest)
first_step from word section next to behind rest here section_is to_is =
    let s = read_as word section section_is in
    let t = read_as next to to_is in
    ap (λ (ws : List (List ℕ)). steps_from from (word ∷ ws)) here
    ∙ (λ i. cond (s.1 i && t.1 i) (option_map (λ (steps : List Step). record { section = sym s.0 i; from = from; to = sym t.0 i } ∷ steps) (steps_from (sym t.0 i) rest)) None)
