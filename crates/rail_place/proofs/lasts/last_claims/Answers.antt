use Rattle.std.proofs.Common.{◌≡◌, ℕ, ◌+◌, ◌<◌, [], List, length, get_or, sym, ap, ◌∙◌, subst, arith}
use Rattle.rail_base.specs.declared.limits.TheConstants.{SECTIONS}
use Rattle.rail_rules.specs.Numbers.{is_in}
use Rattle.rail_place.specs.Lasts.{last_below}
use Rattle.rail_place.proofs.Giving.{length-given}
use Rattle.rail_place.proofs.LastMoves.{noted_on}
use Rattle.rail_place.proofs.lasts.last_claims.Goals as goal

pub note-requires : goal.note-requires
note-requires c = λ x named.
    omega (arith, c.requires.in_range c.loop-made.made x (ap (is_in x) (sym c.at.ensures) ∙ named), c.loop-made.invariant.wide)

pub loop-made-preserved : goal.loop-made-preserved
loop-made-preserved c =
    let claims = c.args.claims.now in
    let lasts = c.loop-made.lasts.items in
    let n = c.loop-made.made in
    let P : List ℕ → Type 0 = λ new. (x : ℕ) → x < SECTIONS → get_or new x 0 ≡ last_below (λ m. is_in x (get_or claims m [])) (n + 1) in
    record {
      wide = ap length c.note.ensures ∙ length-given lasts c.at.result.now (n + 1) ∙ c.loop-made.invariant.wide;
      told = subst P (sym c.note.ensures) (noted_on claims lasts c.at.result.now n c.loop-made.invariant.wide c.loop-made.invariant.told c.at.ensures);
    }
