use Rattle.std.proofs.Common.{◌≡◌, ℕ, List, Ok, length, refl, ap, subst, arith}
use Rattle.std.proofs.lemmas.List.{length-map}
use Rattle.rail_base.specs.declared.plant.SectionRow.{SectionRow}
use Rattle.rail_rules.specs.Numbers.{gather}
use Rattle.rail_stairs.specs.StairsTexts.{section_line}
use Rattle.rail_text.specs.Writes.{WritesText}
use Rattle.rail_stairs.proofs.Written.{one_more_written, stopped_written}
use Rattle.rail_text.proofs.CallerLemmas.{none_written}
use Rattle.rail_stairs.proofs.writing.write_sections.Goals as goal

pub loop-number-init : goal.loop-number-init
loop-number-init g c = λ ended seen h. none_written g.O.Sink c.args.out.now

pub loop-number-preserved : goal.loop-number-preserved
loop-number-preserved g c = λ ended seen h.
    one_more_written g.O.Sink (λ (xs : List ℕ). xs) (λ xs ys. refl) (section_line c.args.plant.now ended seen) _ _ _ c.loop-number.number _
    (c.loop-number.invariant ended seen h) (c.in_ok-write_section.ensures ended seen h)

pub returns-in_err-write_section : goal.returns-in_err-write_section
returns-in_err-write_section g c = λ ended seen h.
    let many = length-map c.args.plant.now.tables.sections (λ (row : SectionRow). row.name) in
    stopped_written g.O.Sink (λ (xs : List ℕ). xs) (λ xs ys. refl) (section_line c.args.plant.now ended seen) _ _ _ (length c.args.plant.now.tables.sections) c.loop-number.number _ c.from_residual.result
    (omega (arith, c.loop-number-test.true, c.len-number-end.ensures.len, ap length c.names.ensures.sections, many)) c.from_residual.ensures.0
    (c.loop-number.invariant ended seen h) (c.in_err-write_section.ensures ended seen h)

pub returns : goal.returns
returns g c = λ ended seen h.
    let many = length-map c.args.plant.now.tables.sections (λ (row : SectionRow). row.name) in
    let all : c.loop-number.number ≡ length c.args.plant.now.tables.sections =
    omega (arith, c.loop-number-test.false, c.loop-number.auto.number-end, c.len-number-end.ensures.len, ap length c.names.ensures.sections, many) in
    subst (λ (n : ℕ). WritesText g.O.Sink c.args.out.now c.loop-number.out (gather (section_line c.args.plant.now ended seen) n) (Ok tt)) all
    (c.loop-number.invariant ended seen h)
