use Rattle.rail_scene_text.proofs.Whole as whole
use Rattle.rail_scene_text.proofs.laws.a_text_with_the_table_of_a_scene_is_read_as_the_scene.Goals as goal

pub returns-clause-accepted : goal.returns-clause-accepted
returns-clause-accepted c = λ scene text kept typed sound utf8 read. whole.accepted scene c.a_text_stands_for_one_time.ensures kept typed sound text utf8 read

pub returns-clause-same : goal.returns-clause-same
returns-clause-same c = λ scene text kept typed sound utf8 read. whole.same scene c.a_text_stands_for_one_time.ensures kept typed sound text utf8 read
