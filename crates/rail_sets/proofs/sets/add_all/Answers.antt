use Rattle.std.proofs.Common.{◌∙◌, eqb, eq-eqb, sym, ap, refl, arith}
use Rattle.std.proofs.lemmas.List.Folds.{list_any_at}
use Rattle.rail_sets.proofs.sets.add_all.Goals as goal

pub add-requires : goal.add-requires
add-requires c =
    let x = c.section-item.result in
    let narrow = c.requires x (list_any_at (λ y. eqb y x) c.args.sections.now c.loop-section.section-index x c.loop-section-test.true (ap (λ y. eqb y x) (sym c.section-item.is) ∙ eq-eqb x x refl)) in
    omega (arith, narrow, c.loop-section.invariant.long)
