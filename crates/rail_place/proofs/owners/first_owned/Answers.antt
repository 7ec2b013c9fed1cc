use Rattle.std.proofs.Common.{◌≡◌, ◌<◌, length, arith, sym, ap, ◌∙◌, get_or, Some, None}
use Rattle.std.proofs.lemmas.List.{get_or_read}
use Rattle.rail_place.proofs.Giving.{range_at, first_owned-here}
use Rattle.rail_place.specs.declared.barring.Barred.TheVariants.{Held}
use Rattle.rail_place.proofs.owners.first_owned.Goals as goal

pub index-requires : goal.index-requires
index-requires c =
    let range : c.section-item.result < length c.args.owners.now.items = range_at c.args.sections.now c.loop-section.section-index c.section-item.result (length c.args.owners.now.items) c.requires c.loop-section-test.true c.section-item.is in
    omega (arith, range, c.from.ensures, c.section.view_is, c.args.owners.now.ok)

pub returns-in-Some : goal.returns-in-Some
returns-in-Some c =
    let owners = c.args.owners.now.items in
    let x = c.section-item.result in
    let same : c.from.result ≡ x = c.from.ensures ∙ c.section.view_is in
    let range : x < length owners = range_at c.args.sections.now c.loop-section.section-index x (length owners) c.requires c.loop-section-test.true c.section-item.is in
    let read : get_or owners c.from.result None ≡ Some c.in-Some.holder =
    sym (get_or_read owners c.from.result c.index.result.now (omega (arith, same, range)) c.index.ensures None) ∙ c.in-Some.is in
    ap (λ y. Some (Held y c.in-Some.holder)) c.section.view_is
    ∙ sym (first_owned-here owners c.args.sections.now c.loop-section.section-index x c.in-Some.holder c.loop-section-test.true c.section-item.is (ap (λ y. get_or owners y None) (sym same) ∙ read))
    ∙ c.loop-section.invariant
