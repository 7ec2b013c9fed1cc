-- Which trains are out, and which remain.
use Rattle.std.proofs.Common.{◌≡◌, ℕ, true, false, ◌||◌, [], ◌∷◌, refl, ap, ◌∙◌}
use Rattle.std.proofs.lemmas.Bool.{or_left, eq-eqb}
use Rattle.rail_base.specs.declared.history.What.TheVariants.{Out}
use Rattle.rail_rules.specs.Fronts.{Line, Front}
use Rattle.rail_rules.specs.Lawful.{is_out_line, is_out}

-- who is out
pub nobody_out : (t : ℕ) → is_out [] t ≡ false
nobody_out t = refl

pub out_kept : (line : Line) (front : Front) (t : ℕ) → is_out_line t line.entry.what ≡ false → is_out (line ∷ front) t ≡ is_out front t
out_kept line front t other = ap (λ b. b || is_out front t) other

pub out_by_line : (line : Line) (front : Front) (t : ℕ) → line.entry.what ≡ Out t → is_out (line ∷ front) t ≡ true
out_by_line line front t what = or_left (is_out_line t line.entry.what) (is_out front t) (ap (is_out_line t) what ∙ eq-eqb t t refl)
