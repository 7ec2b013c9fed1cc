use Rattle.std.proofs.Common.{refl}
use Rattle.rail_laws_front.specs.Premises.{IsWellFormed}
use Rattle.rail_laws_front.proofs.CallerLemmas.{well_formed_from_accepted, never_overlap, kept_completes}
use Rattle.rail_laws_end.specs.Remaining.{NobodyIsCancelled, NothingIsBarred}
use Rattle.rail_laws_end.proofs.CallerLemmas.{complete_out, complete_bound}
use Rattle.rail_laws_text.proofs.CallerLemmas.{accepted_named, text_same}
use Rattle.rail_worked.specs.DeadlockAvoided.{plant, input, front}
use Rattle.rail_tests_runs.proofs.laws.the_deadlock_avoided_is_an_instance.Goals as goal

is_well_formed : IsWellFormed plant
is_well_formed = well_formed_from_accepted plant refl

nothing_is_barred : NothingIsBarred input front
nothing_is_barred = record { opened = λ x. refl; going = λ t. refl }

nobody : NobodyIsCancelled input front
nobody = λ t. refl

pub returns-clause-accepted : goal.returns-clause-accepted
returns-clause-accepted c = refl

pub returns-clause-input : goal.returns-clause-input
returns-clause-input c = refl

pub returns-clause-complete : goal.returns-clause-complete
returns-clause-complete c = refl

pub returns-clause-well_formed : goal.returns-clause-well_formed
returns-clause-well_formed c = is_well_formed

pub returns-clause-free : goal.returns-clause-free
returns-clause-free c = nothing_is_barred

pub returns-clause-nobody_cancelled : goal.returns-clause-nobody_cancelled
returns-clause-nobody_cancelled c = nobody

pub returns-clause-apart : goal.returns-clause-apart
returns-clause-apart c = never_overlap input is_well_formed front refl

pub returns-clause-list : goal.returns-clause-list
returns-clause-list c = (kept_completes input is_well_formed front refl).completing

pub returns-clause-all_out : goal.returns-clause-all_out
returns-clause-all_out c = complete_out input is_well_formed front refl nothing_is_barred

pub returns-clause-lines : goal.returns-clause-lines
returns-clause-lines c = complete_bound input is_well_formed front refl nothing_is_barred nobody

pub returns-clause-named : goal.returns-clause-named
returns-clause-named c = accepted_named plant refl

pub returns-clause-writable : goal.returns-clause-writable
returns-clause-writable c = refl

pub returns-clause-only_text : goal.returns-clause-only_text
returns-clause-only_text c = λ other writable same. text_same plant (accepted_named plant refl) front other refl writable same
