use Rattle.std.proofs.lemmas.Bool.{and_parts}
use Rattle.rail_rules.specs.Fronts.{has_ended}
use Rattle.rail_rules.specs.Lawful.{is_lawful}
use Rattle.rail_laws_front.proofs.CallerLemmas.{well_formed_from_accepted}
use Rattle.rail_delay.proofs.Stories.{held_sum}
use Rattle.rail_delay.proofs.laws.held_is_the_sum_of_the_four_kinds.Goals as goal

pub returns : goal.returns
returns c = λ input accepted front complete t.
    let both = and_parts (is_lawful input front) (has_ended front) complete in
    held_sum input (well_formed_from_accepted input.plant accepted) front both.0 both.1 t
