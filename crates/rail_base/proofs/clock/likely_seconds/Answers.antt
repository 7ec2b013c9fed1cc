use Rattle.std.proofs.Common.{◌≡◌, ◌/◌, ◌%◌, Some, ap, arith}
use Rattle.rail_base.proofs.Writing.{parts_of}
use Rattle.rail_base.proofs.clock.likely_seconds.Goals as goal

-- the parts of the text are the parts of the time
pub returns : goal.returns
returns c = λ seconds small spelled.
    let parts = parts_of c.args.text.now seconds spelled in
    let hours = c.in_ok-likely_hours.ensures (seconds / 3600) (omega arith) parts.hours in
    let is_hours : c.in_ok-likely_hours.field-0 ≡ seconds / 3600 = cc hours in
    let m1 : c.value.result ≡ seconds / 60 % 60 / 10 = omega (arith, c.value.ensures, parts.m1) in
    let m0 : c.value-2.result ≡ seconds / 60 % 60 % 10 = omega (arith, c.value-2.ensures, parts.m0) in
    let s1 : c.value-3.result ≡ seconds % 60 / 10 = omega (arith, c.value-3.ensures, parts.s1) in
    let s0 : c.value-4.result ≡ seconds % 60 % 10 = omega (arith, c.value-4.ensures, parts.s0) in
    ap Some (omega (arith, c.saturating_mul.ensures, c.saturating_add.ensures))
