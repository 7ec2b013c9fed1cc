use Rattle.std.proofs.Common.{◌≡◌, ◌||◌, Bool, true, false, refl, ap, ◌∙◌}
use Rattle.rail_rules.specs.Numbers.{is_in}
use Rattle.rail_consequence.proofs.train_list.all_of.Goals as goal

or_false : (b : Bool) → (b || false) ≡ b
or_false true = refl
or_false false = refl

pub returns : goal.returns
returns c = λ t. c.insert_each.ensures t ∙ ap (λ b. is_in t c.args.trains.now || b) (c.none-set.ensures t) ∙ or_false (is_in t c.args.trains.now)
