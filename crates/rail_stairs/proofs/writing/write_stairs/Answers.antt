use Rattle.std.proofs.Common.{◌≡◌, ℕ, ◌++◌, List, sym, ap, ◌∙◌, subst}
use Rattle.std.specs.Prelude.{flat_map, unwrap_or}
use Rattle.rail_base.specs.declared.intervals.Interval.{Interval}
use Rattle.rail_rules.specs.Plant.{trains}
use Rattle.rail_stairs.specs.Journeys.{before_train}
use Rattle.rail_stairs.specs.Stairways.{ended_at, stairway}
use Rattle.rail_stairs.specs.StairsTexts.{section_lines, stair_line, stairs_text}
use Rattle.rail_text.specs.Writes.{WritesText}
use Rattle.rail_stairs.proofs.Ready.{noted_admissible, noted_rows, noted_stairway}
use Rattle.rail_stairs.proofs.Written.{same_text}
use Rattle.rail_text.proofs.CallerLemmas.{both_written, part_written}
use Rattle.rail_stairs.proofs.writing.write_stairs.Goals as goal

pub write_intervals-requires-clause-noted : goal.write_intervals-requires-clause-noted
write_intervals-requires-clause-noted g c = noted_rows c.args.plant.now c.requires.noted.front c.args.stairs.now c.requires.noted.noted

pub write_intervals-requires-clause-admissible : goal.write_intervals-requires-clause-admissible
write_intervals-requires-clause-admissible g c = noted_admissible c.args.plant.now c.args.stairs.now c.requires.noted

pub write_intervals-requires-clause-empty : goal.write_intervals-requires-clause-empty
write_intervals-requires-clause-empty g c = c.new-tallies.ensures c.ended-ended.result

pub returns-in_err-write_intervals : goal.returns-in_err-write_intervals
returns-in_err-write_intervals g c = λ front h.
    let plant = c.args.plant.now in
    let lines : List Interval → List ℕ = λ list. flat_map (stair_line plant) list in
    part_written g.O.Sink c.args.out.now c.write_intervals.new.out (lines (stairway plant front)) (section_lines plant (unwrap_or (ended_at front) 0) (stairway plant front)) _ c.from_residual.result c.from_residual.ensures.0
    (same_text g.O.Sink c.args.out.now c.write_intervals.new.out (ap lines (noted_stairway plant front c.args.stairs.now h)) c.in_err-write_intervals.ensures.text)

pub returns : goal.returns
returns g c = λ front h.
    let plant = c.args.plant.now in
    let seen = before_train plant c.args.stairs.now (trains plant) in
    let same = noted_stairway plant front c.args.stairs.now h in
    let ended : c.ended-ended.result ≡ unwrap_or (ended_at front) 0 = ap (λ o. unwrap_or o 0) (sym c.ended-ended.ensures ∙ h.ended) in
    let text : flat_map (stair_line plant) seen ++ section_lines plant c.ended-ended.result seen ≡ stairs_text plant front =
    λ k. flat_map (stair_line plant) (same k) ++ section_lines plant (ended k) (same k) in
    subst (λ (xs : List ℕ). WritesText g.O.Sink c.args.out.now c.write_sections.new.out xs c.write_sections.result) text
    (both_written g.O.Sink c.args.out.now c.write_intervals.new.out c.write_sections.new.out (flat_map (stair_line plant) seen) (section_lines plant c.ended-ended.result seen) c.write_sections.result
    c.in_ok-write_intervals.ensures.text (c.write_sections.ensures c.ended-ended.result seen c.in_ok-write_intervals.ensures.counted))
