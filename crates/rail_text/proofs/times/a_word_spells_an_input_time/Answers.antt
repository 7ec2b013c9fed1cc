use Rattle.rail_text.proofs.TimeWords.{input_time_spelled}
use Rattle.rail_text.proofs.times.a_word_spells_an_input_time.Goals as goal

pub returns : goal.returns
returns c = input_time_spelled
