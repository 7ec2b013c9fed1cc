use Rattle.std.proofs.Common.{◌≡◌, ℕ, ◌==◌, ◌<◌, Bool, true, false, map, cond, get_or, refl, ap, ◌∙◌, arith}
use Rattle.std.proofs.lemmas.List.FromFn.{get_or-map-range_with_len}
use Rattle.std.specs.List.{range_with_len}
use Rattle.rail_base.specs.NameForms.{is_name_byte}
use Rattle.rail_base.specs.declared.text.TheConstants.{NAME_BYTE}
use Rattle.rail_base.proofs.text.is_name_byte.Goals as goal

abbrev mark : ℕ → ℕ
mark byte = cond (is_name_byte byte) 1 0

-- the table has the mark of each byte
table_is : NAME_BYTE ≡ map mark (range_with_len 0 256)
table_is = refl

marked : (t : Bool) → (cond t 1 0 == 1) ≡ t
marked true = refl
marked false = refl

read : (byte : ℕ) → byte < 256 → (get_or NAME_BYTE byte 0 == 1) ≡ is_name_byte byte
read byte h =
    ap (λ (n : ℕ). n == 1) (ap (λ t. get_or t byte 0) table_is ∙ get_or-map-range_with_len mark 0 256 byte byte 0 h (omega arith))
    ∙ marked (is_name_byte byte)

pub returns : goal.returns
returns c = rw c.from.ensures (read c.args.byte (omega arith))
