-- Which plants may be run, by their tables and by their calls.
use Rattle.std.proofs.Common.{◌≡◌, ℕ, Bool, true, ◌&&◌, leb, List, [], length, map, Option, None, refl}
use Rattle.std.specs.List.{list_all}
use Rattle.std.proofs.lemmas.Bool.{and_from, le-leb}
use Rattle.rail_base.specs.declared.limits.TheConstants.{SECTIONS, TRAINS, RELEASE, OVERLAP, DEPTH}
use Rattle.rail_base.specs.declared.plant.Call.{Call}
use Rattle.rail_base.specs.declared.plant.Tables.{Tables}
use Rattle.rail_base.specs.declared.plant.SectionRow.{SectionRow}
use Rattle.rail_base.specs.declared.plant.TrainRow.{TrainRow}
use Rattle.rail_rules.specs.Numbers.{all_below}
use Rattle.rail_rules.specs.Moves.{is_valid}
use Rattle.rail_rules.specs.Plant.{Plant, moves, moves_of}
use Rattle.rail_rules.specs.Accepted.{are_distinct_names, is_section_in_range, is_train_in_range, does_fit, are_calls_in_range, is_accepted}
use Rattle.rail_rules.proofs.CallerLemmas.{accepted_parts, all_below_from}
use Rattle.rail_plan.specs.PlanFaults.{IsPlannable, bare, fault_of}
use Rattle.rail_plan.specs.CallTables.{AreCallsFor, with_calls}
use Rattle.rail_plan.proofs.Valid.{each_fits, valid}

-- what is asked beside the tables and their ranges
pub record IsFaultless (plant : Plant) : Type 0 where
  pub fits : all_below (does_fit plant) (length plant.tables.trains) ≡ true
  pub calls : all_below (are_calls_in_range plant) (length plant.tables.trains) ≡ true
  pub valid : is_valid (moves_of plant) ≡ true

pub accepted_from : (tables : Tables) (calls : List (List (Option Call))) → IsPlannable tables → IsFaultless (with_calls tables calls) → is_accepted (with_calls tables calls) ≡ true
accepted_from tables calls h f =
    let plant : Plant = with_calls tables calls in
    let n : ℕ = length tables.trains in
    let b1 : Bool = leb (length tables.sections) SECTIONS in
    let b2 : Bool = leb n TRAINS in
    let b3 : Bool = leb tables.release RELEASE in
    let b4 : Bool = leb tables.overlap_time OVERLAP in
    let b5 : Bool = leb tables.depth DEPTH in
    let b6 : Bool = list_all is_section_in_range tables.sections in
    let b7 : Bool = are_distinct_names (map (λ (row : SectionRow). row.name) tables.sections) in
    let b8 : Bool = are_distinct_names (map (λ (row : TrainRow). row.name) tables.trains) in
    let b9 : Bool = all_below (is_train_in_range plant) n in
    let b10 : Bool = all_below (does_fit plant) n in
    let b11 : Bool = all_below (are_calls_in_range plant) n in
    let p2 = and_from b1 b2 (le-leb (length tables.sections) SECTIONS h.few_sections) (le-leb n TRAINS h.few_trains) in
    let p3 = and_from (b1 && b2) b3 p2 (le-leb tables.release RELEASE h.release) in
    let p4 = and_from (b1 && b2 && b3) b4 p3 (le-leb tables.overlap_time OVERLAP h.overlap_time) in
    let p5 = and_from (b1 && b2 && b3 && b4) b5 p4 (le-leb tables.depth DEPTH h.depth) in
    let p6 = and_from (b1 && b2 && b3 && b4 && b5) b6 p5 h.sections in
    let p7 = and_from (b1 && b2 && b3 && b4 && b5 && b6) b7 p6 h.section_names in
    let p8 = and_from (b1 && b2 && b3 && b4 && b5 && b6 && b7) b8 p7 h.train_names in
    let p9 = and_from (b1 && b2 && b3 && b4 && b5 && b6 && b7 && b8) b9 p8 h.trains in
    let p10 = and_from (b1 && b2 && b3 && b4 && b5 && b6 && b7 && b8 && b9) b10 p9 f.fits in
    let p11 = and_from (b1 && b2 && b3 && b4 && b5 && b6 && b7 && b8 && b9 && b10) b11 p10 f.calls in
    and_from (b1 && b2 && b3 && b4 && b5 && b6 && b7 && b8 && b9 && b10 && b11) (is_valid (moves_of plant)) p11 f.valid

parts : (tables : Tables) (calls : List (List (Option Call))) → is_accepted (with_calls tables calls) ≡ true → IsPlannable tables × IsFaultless (with_calls tables calls)
parts tables calls accepted =
    let h = accepted_parts (with_calls tables calls) accepted in (
      record {
        few_sections = h.few_sections;
        few_trains = h.few_trains;
        release = h.release;
        overlap_time = h.overlap_time;
        depth = h.depth;
        sections = h.sections;
        section_names = h.section_names;
        train_names = h.train_names;
        trains = h.trains_in_range;
      },
      record { fits = h.fitting; calls = h.calls; valid = h.valid },
    )

pub plannable : (tables : Tables) (calls : List (List (Option Call))) → is_accepted (with_calls tables calls) ≡ true → IsPlannable tables
plannable tables calls accepted = (parts tables calls accepted).0

-- other calls that were made for the tables
pub recalled : (tables : Tables) (old new : List (List (Option Call))) → is_accepted (with_calls tables old) ≡ true → AreCallsFor tables new → is_accepted (with_calls tables new) ≡ true
recalled tables old new accepted made =
    let made_before = parts tables old accepted in
    accepted_from tables new made_before.0 (record { fits = made_before.1.fits; calls = all_below_from (are_calls_in_range (with_calls tables new)) (length tables.trains) made.fine; valid = made_before.1.valid })

-- tables without a fault are a plant without calls
pub bare_accepted : (tables : Tables) → IsPlannable tables → fault_of tables ≡ None → is_accepted (with_calls tables []) ≡ true
bare_accepted tables h none =
    accepted_from tables [] h (record {
      fits = each_fits tables none;
      calls = all_below_from (are_calls_in_range (with_calls tables [])) (length tables.trains) (λ t lt. all_below_from _ (moves (bare tables) t) (λ m lm. refl));
      valid = valid tables h none;
    })
