use Rattle.std.proofs.Common.{◌||◌, ap, ◌∙◌, sym, arith}
use Rattle.rail_rules.specs.Moves.{Moves, stand}
use Rattle.rail_rules.specs.Numbers.{is_in}
use Rattle.rail_place.specs.Tables.{moves_in}
use Rattle.rail_sets.specs.Sets.{has}
use Rattle.rail_sets.proofs.CallerLemmas.{none_in_zeros}
use Rattle.rail_consequence.specs.Needs.{needs_from}
use Rattle.rail_consequence.proofs.SetLemmas.{claims_past, is_set, needs_at, needs_next}
use Rattle.rail_consequence.proofs.rows.PlaceSets.new.Goals as goal

pub returns : goal.returns
returns c =
    let table = c.args.moves.now in
    let plan : Moves = moves_in table in
    let t = c.args.train in
    let p = c.args.place in
    record {
      need = c.need_at-need.ensures;
      rest = is_set c.join.new.set 8 (needs_from plan t p) (omega (arith, c.join.ensures.long))
          (λ x low. c.join.ensures.set x ∙ ap (λ b. b || has c.args.later.now x) (c.need_at-need.ensures x) ∙ ap (λ b. is_in x (plan.claim t p) || b) (c.requires.later x) ∙ sym (needs_next plan t p x (claims_past table t)))
          (λ x needs. let at = needs_at plan t p x needs in c.requires.table.in_range t at.0 x at.1);
      stand = is_set c.add_all.new.set 8 (λ x. is_in x (stand plan t p)) (omega (arith, c.add_all.ensures.long))
          (λ x low. c.add_all.ensures.set x (omega (arith, low)) ∙ ap (λ b. b || is_in x c.stand.result.now) (none_in_zeros 8 x) ∙ ap (is_in x) c.stand.ensures.sections)
          (λ x is. c.stand.ensures.in_range x (ap (is_in x) c.stand.ensures.sections ∙ is));
    }
