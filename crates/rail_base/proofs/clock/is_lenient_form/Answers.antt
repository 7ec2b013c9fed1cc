use Rattle.std.proofs.Common.{refl, sym, codes, rules, ◌≡◌, true, false, eqb, Some, None}
use Rattle.std.specs.Cmp.Lexicographic.{pointwise}
use Rattle.rail_base.proofs.Comparing.{tells_whole}
use Rattle.rail_base.proofs.clock.is_lenient_form.Goals as goal

-- the canonical text without `.0` at its end is the text
pub returns-in-Some : goal.returns-in-Some
returns-in-Some c =
    let same : true ≡ pointwise eqb c.args.text.now c.in-Some.whole.now = search rules in
    tells_whole c.args.text.now c.args.canonical.now (codes ".0") true (sym c.if-eq.ensures) (Some c.in-Some.whole) c.in-Some.ensures.cases same

pub returns-in_default : goal.returns-in_default
returns-in_default c =
    let same : false ≡ pointwise eqb c.args.text.now c.in-Some.whole.now = search rules in
    tells_whole c.args.text.now c.args.canonical.now (codes ".0") false (sym c.if-eq.ensures) (Some c.in-Some.whole) c.in-Some.ensures.cases same

pub returns-in_default-2 : goal.returns-in_default-2
returns-in_default-2 c =
    let none = rw c.in_default.is at c.strip_suffix.ensures.cases in
    tells_whole c.args.text.now c.args.canonical.now (codes ".0") false (sym c.if-eq.ensures) None none refl
