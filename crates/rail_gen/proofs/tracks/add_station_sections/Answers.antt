use Rattle.std.proofs.Common.{◌≡◌, [], ◌∷◌, ◌++◌, ap, ◌∙◌}
use Rattle.rail_gen.specs.LinePlants.{station_sections}
use Rattle.rail_gen.proofs.Ranges.{sections_then}
use Rattle.rail_gen.proofs.tracks.add_station_sections.Goals as goal

pub returns : goal.returns
returns c =
    let net = c.args.network.now in
    let a = c.in_ok-points.field-0 in
    let b = c.in_ok-plain.field-0 in
    let d = c.in_ok-plain-2.field-0 in
    let e = c.in_ok-points-2.field-0 in
    let f = c.in_ok-line.line in
    let n1 = c.add_section.new.self in
    let n2 = c.add_section-2.new.self in
    let n3 = c.add_section-3.new.self in
    let n4 = c.add_section-4.new.self in
    let n5 = c.add_section-5.new.self in
    let two = sections_then net n1 n2 (a ∷ []) (b ∷ []) c.in_ok-add_section.ensures.added c.in_ok-add_section-2.ensures.added in
    let three = sections_then net n2 n3 (a ∷ b ∷ []) (d ∷ []) two c.in_ok-add_section-3.ensures.added in
    let four = sections_then net n3 n4 (a ∷ b ∷ d ∷ []) (e ∷ []) three c.in_ok-add_section-4.ensures.added in
    let five = sections_then net n4 n5 (a ∷ b ∷ d ∷ e ∷ []) (f ∷ []) four c.in_ok-add_section-5.ensures.added in
    let same : a ∷ b ∷ d ∷ e ∷ f ∷ [] ≡ station_sections c.args.count c.args.k =
    cc (c.in_ok-points.ensures, c.in_ok-plain.ensures, c.in_ok-plain-2.ensures, c.in_ok-points-2.ensures, c.in_ok-line.ensures) in
    five ∙ ap (λ xs. record net { sections = net.sections ++ xs }) same
