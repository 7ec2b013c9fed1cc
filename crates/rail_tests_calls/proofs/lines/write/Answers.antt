use Rattle.std.proofs.Common.{◌≡◌, ℕ, ◌<◌, ◌^◌, true, List, [], ◌∷◌, length, map, refl, ap, arith}
use Rattle.std.specs.List.{list_all, AllByRecursion}
use Rattle.std.proofs.lemmas.Bool.{and_from, lt-ltb}
use Rattle.std.proofs.lemmas.List.{length-map}
use Rattle.std.proofs.lemmas.List.Elements.{recursion_from_All}
use Rattle.rail_base.specs.declared.names.Names.{Names}
use Rattle.rail_base.specs.declared.plant.SectionRow.{SectionRow}
use Rattle.rail_base.specs.declared.plant.TrainRow.{TrainRow}
use Rattle.rail_rules.specs.Plant.{Plant, no_section, no_train, trains}
use Rattle.rail_rules.specs.WritableLines.{is_known_train}
use Rattle.rail_text.specs.Names.{HasNames}
use Rattle.rail_tests_calls.proofs.lines.write.Goals as goal

section_row : List ℕ → SectionRow
section_row name = record no_section { name = name }

train_row : List ℕ → TrainRow
train_row name = record no_train { name = name }

-- a plant with these names
plant_of : Names → Plant
plant_of names = record { tables = record { depth = 0; release = 0; overlap_time = 0; sections = map section_row names.sections.keys; trains = map train_row names.trains.keys }; calls = [] }

section_names : (names : List (List ℕ)) → names ≡ map (λ (row : SectionRow). row.name) (map section_row names)
unfolding section_row
section_names [] = refl
section_names (name ∷ names) = ap (λ (rest : List (List ℕ)). name ∷ rest) (section_names names)

train_names : (names : List (List ℕ)) → names ≡ map (λ (row : TrainRow). row.name) (map train_row names)
unfolding train_row
train_names [] = refl
train_names (name ∷ names) = ap (λ (rest : List (List ℕ)). name ∷ rest) (train_names names)

named : (names : Names) → HasNames (plant_of names) names
unfolding plant_of
named names = record { sections = section_names names.sections.keys; trains = train_names names.trains.keys }

count : (names : Names) → trains (plant_of names) ≡ length names.trains.keys
unfolding plant_of
count names = length-map names.trains.keys train_row

each_known : (plant : Plant) (n : ℕ) → trains plant ≡ n → (kept : List ℕ) → AllByRecursion (λ t. t < n) kept → list_all (is_known_train plant) kept ≡ true
each_known plant n e [] h = refl
each_known plant n e (t ∷ kept) h = and_from (is_known_train plant t) (list_all (is_known_train plant) kept) (lt-ltb t (trains plant) (omega (arith, e, h.0))) (each_known plant n e kept h.1)

pub write_entry-requires : goal.write_entry-requires
write_entry-requires g c =
    let names : Names = c.args.names.now in
    let plant : Plant = plant_of names in
    let b_known : 1 < length names.trains.keys = c.if-not-is_named.ensures.0 refl in
    let all_known = c.if-not-are_named.ensures.0 refl in
    let list_known : list_all (is_known_train plant) c.args.kept.now ≡ true =
    each_known plant (length names.trains.keys) (count names) c.args.kept.now (recursion_from_All (λ t. t < length names.trains.keys) c.args.kept.now all_known) in
    let few : length c.args.kept.now < 2 ^ 64 = omega (arith, c.if-kept-gt-LIST_TRAINS.false) in
    (plant, named names, c.what_of.ensures plant c.args.kept.now (omega (arith, count names, b_known)) list_known few)
