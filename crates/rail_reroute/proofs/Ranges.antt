-- The tables in which a train has another row can be planned.
use Rattle.std.proofs.Common.{◌≡◌, ℕ, suc, Bool, true, List, [], ◌∷◌, length, map, None, sym, ap, ◌∙◌, ⊎_elim, arith}
use Rattle.std.proofs.Math.Seq.{map-set_same}
use Rattle.std.proofs.lemmas.Bool.{cases_eq}
use Rattle.std.proofs.lemmas.List.{get_or-map, get_or-set_other, get_or-set_same, length-map, length-set}
use Rattle.rail_base.specs.FirstRefusals.{first_failing}
use Rattle.rail_base.specs.declared.plant.Tables.{Tables}
use Rattle.rail_base.specs.declared.plant.TrainRow.{TrainRow}
use Rattle.rail_rules.specs.Accepted.{are_distinct_names, is_train_in_range}
use Rattle.rail_rules.specs.Plant.{no_train, train}
use Rattle.rail_rules.proofs.CallerLemmas.{all_below_at, all_below_from}
use Rattle.rail_routes.specs.SoundNetworks.{IsSoundNetwork}
use Rattle.rail_plan.specs.PlanFaults.{IsPlannable, bare}
use Rattle.rail_scene.specs.declared.scene.Scene.{Scene}
use Rattle.rail_compile.specs.Itineraries.{tables_of, train_row}
use Rattle.rail_compile.specs.Refusals.{train_tests}
use Rattle.rail_compile.specs.RowTypes.{is_typed_row}
use Rattle.rail_compile.proofs.CallerLemmas.{row_fine}
use Rattle.rail_reroute.specs.Judgements.{IsProposed, no_scene_train}
use Rattle.rail_reroute.proofs.Changed.{with_row}
use Rattle.rail_reroute.proofs.Proposed.{fit, is_scene}
use Rattle.rail_reroute.proofs.Refused.{after, changed, same_tables, unrefused}

module _ (scene : Scene) (s : List ℕ) (t : ℕ) (routes : List (List ℕ)) (h : IsProposed scene s t routes) where
  abbrev row : TrainRow
  row = train_row scene (after scene s t routes h)

  abbrev other : Tables
  other = with_row (tables_of scene) t row

  -- whether a row is within the ranges
  abbrev ranged : TrainRow → Bool
  ranged given = is_train_in_range (bare (record (tables_of scene) { trains = given ∷ [] })) 0

  name_kept : map (λ (r : TrainRow). r.name) other.trains ≡ map (λ (r : TrainRow). r.name) (tables_of scene).trains
  name_kept = map-set_same (λ (r : TrainRow). r.name) (tables_of scene).trains t row no_train
      (sym (ap (λ (r : TrainRow). r.name) (get_or-map (train_row scene) scene.trains t no_scene_train no_train h.train)))

  pub plannable_changed : IsPlannable (tables_of scene) → IsSoundNetwork scene.network → first_failing (train_tests scene (suc t) (after scene s t routes h)) ≡ None → is_typed_row row ≡ true → IsPlannable other
  plannable_changed p sound none typed =
      let size : length other.trains ≡ length (tables_of scene).trains = length-set (tables_of scene).trains t row in
      record {
        few_sections = p.few_sections;
        few_trains = omega (arith, size, p.few_trains);
        release = p.release;
        overlap_time = p.overlap_time;
        depth = p.depth;
        sections = p.sections;
        section_names = p.section_names;
        train_names = ap are_distinct_names name_kept ∙ p.train_names;
        trains = all_below_from (is_train_in_range (bare other)) (length other.trains) (λ u lt. ⊎_elim
            (λ same.
            let here : train (bare other) t ≡ row = get_or-set_same (tables_of scene).trains t row no_train (omega (arith, h.train, length-map scene.trains (train_row scene))) in
            let at : train (bare (tables_of (changed scene s t routes h))) t ≡ row = ap (λ (tables : Tables). train (bare tables) t) (same_tables scene s t routes h) ∙ here in
            let fine = row_fine (changed scene s t routes h) (is_scene scene s t routes h) sound t (after scene s t routes h) at (unrefused scene s t routes h none) (fit scene s t routes h) typed in
            ap (is_train_in_range (bare other)) same ∙ ap (λ (tables : Tables). is_train_in_range (bare tables) t) (sym (same_tables scene s t routes h)) ∙ fine)
            (λ apart.
            let there : train (bare other) u ≡ train (bare (tables_of scene)) u = get_or-set_other (tables_of scene).trains t u row no_train apart in
            ap ranged there ∙ all_below_at (is_train_in_range (bare (tables_of scene))) (length (tables_of scene).trains) u p.trains (omega (arith, lt, size)))
            (cases_eq u t));
      }
