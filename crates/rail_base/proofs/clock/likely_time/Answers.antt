use Rattle.std.proofs.Common.{rules, ◌≡◌, ◌*◌, ◌/◌, Some, ap, inl, inr, arith, ◌∙◌}
use borrow.Author.Tests.{ltb-true}
use Rattle.std.proofs.lemmas.Bool.{eqb-true}
use Rattle.rail_base.proofs.Writing.{lenient_ends}
use Rattle.rail_base.proofs.clock.likely_time.Goals as goal
use Rattle.rail_base.proofs.clock.likely_time.Goals.{in_default-via-then-text-lt2, in_default-via-else-text-lt2+in_default-1}

-- the text ends with a point and the tenths, and the rest spells the whole seconds
pub returns-in_err-likely_seconds-in-46 : goal.returns-in_err-likely_seconds-in-46
returns-in_err-likely_seconds-in-46 c = λ time lenient.
    elim (lenient_ends _ time lenient) [
      | inl dotted ↦ let none = c.in_err-likely_seconds-in-46.ensures (time / 10) (omega (arith, lenient.short)) dotted.front in cc none
      | inr plain ↦ absurd (plain.no_dot (search rules))
    ]

pub returns-in_ok-likely_seconds-in-46 : goal.returns-in_ok-likely_seconds-in-46
returns-in_ok-likely_seconds-in-46 c = λ time lenient.
    elim (lenient_ends _ time lenient) [
      | inl dotted ↦
          let some = c.in_ok-likely_seconds-in-46.ensures (time / 10) (omega (arith, lenient.short)) dotted.front in
          let seconds : c.in_ok-likely_seconds-in-46.field-0 ≡ 10 * (time / 10) = cc some in
          ap Some (omega (arith, c.saturating_add.ensures, c.value.ensures, dotted.tenth, seconds, lenient.short))
      | inr plain ↦ absurd (plain.no_dot (search rules))
    ]

-- the text spells whole seconds
pub returns-in_default : goal.returns-in_default
returns-in_default c = λ time lenient.
    elim (lenient_ends _ time lenient) [
      | inl dotted ↦
          elim c.in_default.branch [
            | in_default-via-then-text-lt2 w ↦ absurd (omega (arith, ltb-true, dotted.long))
            | in_default-via-else-text-lt2+in_default-1 w ↦ absurd (omega (arith, eqb-true, ltb-true, dotted.dot, dotted.long))
          ]
      | inr plain ↦
          let whole : 10 * (time / 10) ≡ time = omega (arith, plain.whole) in
          c.likely_seconds-in_default.ensures (time / 10) (omega (arith, lenient.short)) plain.same ∙ ap Some whole
    ]
