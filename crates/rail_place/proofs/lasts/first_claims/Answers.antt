use Rattle.std.proofs.Common.{◌≡◌, ℕ, suc, ◌-◌, ◌<◌, ◌≤◌, false, [], List, length, get_or, sym, ap, ◌∙◌, subst, arith}
use Rattle.rail_base.specs.declared.limits.TheConstants.{SECTIONS}
use Rattle.rail_rules.specs.Numbers.{is_in}
use Rattle.rail_place.specs.Owners.{given}
use Rattle.rail_place.proofs.Giving.{length-given}
use Rattle.rail_place.proofs.LastMoves.{noted_back}
use Rattle.rail_place.proofs.lasts.first_claims.Goals as goal

pub loop-left-preserved : goal.loop-left-preserved
loop-left-preserved c =
    let claims = c.args.claims.now in
    let firsts = c.loop-left.firsts.items in
    let sections = c.at.result.now in
    let n : ℕ = c.loop-left.left - 1 in
    let next : c.loop-left.left ≡ suc n = omega (arith, c.loop-left-test.true) in
    let P : List ℕ → Type 0 = λ new. (m x : ℕ) → n ≤ m → x < SECTIONS → suc m < get_or new x 0 → is_in x (get_or claims m []) ≡ false in
    record {
      within = omega (arith, c.loop-left.invariant.within);
      wide = ap length c.note.ensures ∙ length-given firsts sections c.loop-left.left ∙ c.loop-left.invariant.wide;
      none = subst P (sym (c.note.ensures ∙ ap (given firsts sections) next))
          (noted_back claims firsts sections n c.loop-left.invariant.wide
          (λ m x from. c.loop-left.invariant.none m x (omega (arith, from, next)))
          c.at.ensures);
    }
