-- The names of an accepted plant are names, and distinct.
use Rattle.std.proofs.Common.{◌≡◌, ℕ, zero, suc, ◌<◌, true, not, List, [], ◌∷◌, length, get_or, map, refl, sym, ap, ◌∙◌, arith}
use Rattle.std.specs.List.{list_any}
use Rattle.std.specs.Cmp.Lexicographic.{bytes_decides}
use Rattle.std.proofs.lemmas.Bool.{false≢true, and_parts, or_left, or_right, not-true}
use Rattle.std.proofs.lemmas.List.{get_or-map, length-map}
use Rattle.rail_base.specs.declared.plant.SectionRow.{SectionRow}
use Rattle.rail_base.specs.declared.plant.TrainRow.{TrainRow}
use Rattle.rail_rules.specs.Numbers.{same_numbers}
use Rattle.rail_rules.specs.Plant.{Plant, section, train, trains, no_section, no_train}
use Rattle.rail_rules.specs.Accepted.{is_accepted, are_distinct_names}
use Rattle.rail_rules.proofs.CallerLemmas.{accepted_parts, row_in_range, section_in_range}
use Rattle.rail_rules.specs.WritableLines.{IsNamed}

listed_name : (names : List (List ℕ)) (i : ℕ) (name : List ℕ) → i < length names → name ≡ get_or names i [] → list_any (same_numbers name) names ≡ true
listed_name [] i name lt is = absurd (omega arith)
listed_name (x ∷ names) zero name lt is = or_left (same_numbers name x) (list_any (same_numbers name) names) ((bytes_decides name x).1 is)
listed_name (x ∷ names) (suc i) name lt is = or_right (same_numbers name x) (list_any (same_numbers name) names) (listed_name names i name (omega (arith, lt)) is)

distinct_names : (names : List (List ℕ)) (i j : ℕ) → are_distinct_names names ≡ true → i < length names → j < length names → get_or names i [] ≡ get_or names j [] → i ≡ j
distinct_names [] i j h li lj e = absurd (omega arith)
distinct_names (x ∷ names) zero zero h li lj e = refl
distinct_names (x ∷ names) zero (suc j) h li lj e =
    absurd (false≢true (sym (not-true (list_any (same_numbers x) names) (and_parts (not (list_any (same_numbers x) names)) (are_distinct_names names) h).0) ∙ listed_name names j x (omega (arith, lj)) e))
distinct_names (x ∷ names) (suc i) zero h li lj e =
    absurd (false≢true (sym (not-true (list_any (same_numbers x) names) (and_parts (not (list_any (same_numbers x) names)) (are_distinct_names names) h).0) ∙ listed_name names i x (omega (arith, li)) (sym e)))
distinct_names (x ∷ names) (suc i) (suc j) h li lj e =
    ap suc (distinct_names names i j (and_parts (not (list_any (same_numbers x) names)) (are_distinct_names names) h).1 (omega (arith, li)) (omega (arith, lj)) e)

pub accepted_named : (plant : Plant) → is_accepted plant ≡ true → IsNamed plant
accepted_named plant accepted =
    let h = accepted_parts plant accepted in
    let train_names : List (List ℕ) = map (λ (row : TrainRow). row.name) plant.tables.trains in
    let section_names : List (List ℕ) = map (λ (row : SectionRow). row.name) plant.tables.sections in
    let train_at : (t : ℕ) → t < trains plant → get_or train_names t [] ≡ (train plant t).name = λ t lt. get_or-map (λ (row : TrainRow). row.name) plant.tables.trains t no_train [] lt in
    let section_at : (x : ℕ) → x < length plant.tables.sections → get_or section_names x [] ≡ (section plant x).name = λ x lt. get_or-map (λ (row : SectionRow). row.name) plant.tables.sections x no_section [] lt in
    record {
      train_name = λ t lt. (row_in_range plant h.trains_in_range t lt).named;
      section_name = λ x lt. (section_in_range plant h.sections x lt).named;
      train_of = λ t u lt lu e. distinct_names train_names t u h.train_names (omega (arith, lt, length-map plant.tables.trains (λ (row : TrainRow). row.name))) (omega (arith, lu, length-map plant.tables.trains (λ (row : TrainRow). row.name))) (train_at t lt ∙ e ∙ sym (train_at u lu));
      section_of = λ x y lx ly e.
          distinct_names section_names x y h.section_names
          (omega (arith, lx, length-map plant.tables.sections (λ (row : SectionRow). row.name)))
          (omega (arith, ly, length-map plant.tables.sections (λ (row : SectionRow). row.name)))
          (section_at x lx ∙ e ∙ sym (section_at y ly));
    }
