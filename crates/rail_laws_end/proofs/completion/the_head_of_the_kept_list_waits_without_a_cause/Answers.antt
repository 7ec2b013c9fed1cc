use Rattle.rail_laws_end.proofs.Ending.{head_waits}
use Rattle.rail_laws_end.proofs.completion.the_head_of_the_kept_list_waits_without_a_cause.Goals as goal

pub returns : goal.returns
returns c = λ input fine front lawful goes_on nothing free. head_waits input fine front lawful nothing free goes_on
