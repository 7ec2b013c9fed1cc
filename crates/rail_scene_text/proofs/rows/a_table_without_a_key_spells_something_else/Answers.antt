use Rattle.std.proofs.Common.{refl}
use Rattle.rail_scene_text.proofs.rows.a_table_without_a_key_spells_something_else.Goals as goal

pub returns-clause-whole : goal.returns-clause-whole
returns-clause-whole c = refl

pub returns-clause-depth : goal.returns-clause-depth
returns-clause-depth c = refl

pub returns-clause-priority : goal.returns-clause-priority
returns-clause-priority c = refl

pub returns-clause-no_priority : goal.returns-clause-no_priority
returns-clause-no_priority c = refl

pub returns-clause-ahead : goal.returns-clause-ahead
returns-clause-ahead c = refl

pub returns-clause-no_ahead : goal.returns-clause-no_ahead
returns-clause-no_ahead c = refl

pub returns-clause-overlap_time : goal.returns-clause-overlap_time
returns-clause-overlap_time c = refl

pub returns-clause-overlap : goal.returns-clause-overlap
returns-clause-overlap c = refl

pub returns-clause-no_overlap : goal.returns-clause-no_overlap
returns-clause-no_overlap c = refl
