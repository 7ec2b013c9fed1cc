use Rattle.rail_block.proofs.Carrying.{times-more}
use Rattle.rail_block.proofs.laws.later_admissions_change_no_earlier_times.Goals as goal

pub returns : goal.returns
returns c = λ plant t adms more place le. times-more plant t adms more place le
