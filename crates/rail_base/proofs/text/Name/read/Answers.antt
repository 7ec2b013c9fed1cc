use Rattle.std.proofs.Common.{◌≡◌, ◌∙◌, Some, sym, ap, true}
use Rattle.rail_base.proofs.Storing.{stored_name, taken_name}
use Rattle.rail_base.specs.NameForms.{is_name}
use Rattle.rail_base.proofs.text.Name.read.Goals as goal

-- what is stored is a name, since the test of the bytes passed
pub invariant_of-result : goal.invariant_of-result
invariant_of-result c =
    stored_name _ _ c.copy_from_slice.ensures.after (c.is_name.ensures.short c.if-not-is_name.false) (sym c.is_name.ensures.value ∙ c.if-not-is_name.false)

pub returns : goal.returns
returns c =
    let named : is_name c.args.bytes.now ≡ true = sym c.is_name.ensures.value ∙ c.if-not-is_name.false in
    rw named (ap Some (taken_name _ _ _ c.copy_from_slice.ensures.after))
