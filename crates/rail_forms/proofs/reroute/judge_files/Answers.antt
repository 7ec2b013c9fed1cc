use Rattle.std.proofs.Common.{length, Option, sym, ap, ◌∙◌}
use Rattle.rail_base.specs.declared.refusals.Refusal.{Refusal}
use Rattle.rail_reroute.specs.Proposals.{proposals_refusal, route_names, train_names}
use Rattle.rail_rules.specs.Numbers.{or_else}
use Rattle.rail_compile.specs.Itineraries.{plant_of_scene}
use Rattle.rail_scene.specs.SpelledScenes.{spelled_scene}
use Rattle.rail_io.specs.Writes.{Adds, AddsPrefix}
use Rattle.rail_place.specs.Tables.{moves_in}
use Rattle.rail_forms.specs.Answers.{status_of}
use Rattle.rail_forms.specs.Promises.{is_of_bytes}
use Rattle.rail_forms.proofs.Answers.{answer_after, ended_with, late_part}
use Rattle.rail_forms.proofs.Lists.{fault_answers, list_answers, list_first, list_unwritten}
use Rattle.rail_forms.proofs.Parts.{proposals_fault}
use Rattle.rail_forms.proofs.Reroutings.{compiled_scene, files_judged, list_same, only_proposals, valid_places}
use Rattle.rail_forms.proofs.Writes.{all_written, ended-failed, fault_written, unwritten_fault}
use Rattle.rail_forms.proofs.reroute.judge_files.Goals as goal

pub returns-in_err-placed-clause-answer : goal.returns-in_err-placed-clause-answer
returns-in_err-placed-clause-answer g c =
    answer_after _ _ _ _ _ c.in_ok-planned.ensures.accepted
    (list_answers _ _ _ _ _ c.in_err-placed.field-0.0 (ended_with c.from_residual-in_err-placed.result c.in_err-placed.field-0.0 c.from_residual-in_err-placed.ensures.1)
    (ap (λ (o : Option Refusal). or_else o (proposals_refusal (train_names (spelled_scene c.args.bytes.now)) (route_names (spelled_scene c.args.bytes.now)) c.args.proposals.now))
    (list_same c.args.bytes.now c.args.list.now c.in_ok-planned.planned.plant c.names.result.now.trains.keys (moves_in c.moves.result.now) (length c.moves.result.now) c.in_ok-planned.ensures.plant c.names.ensures.trains c.moves.ensures.moves c.moves.ensures.trains))
    (list_first _ _ c.in_err-placed.field-0.0 c.in_err-placed.ensures.refused))

pub returns-in_err-placed-clause-writes : goal.returns-in_err-placed-clause-writes
returns-in_err-placed-clause-writes g c =
    list_unwritten g.O.Sink _ _ _ c.in_err-placed.field-0.0 (ended_with c.from_residual-in_err-placed.result c.in_err-placed.field-0.0 c.from_residual-in_err-placed.ensures.1) c.in_err-placed.ensures.refused

pub returns-in_err-placed-clause-of_bytes : goal.returns-in_err-placed-clause-of_bytes
returns-in_err-placed-clause-of_bytes g c =
    ap is_of_bytes (ended_with c.from_residual-in_err-placed.result c.in_err-placed.field-0.0 c.from_residual-in_err-placed.ensures.1) ∙ c.in_err-placed.ensures.of_bytes

pub answers_to-requires-clause-compiled : goal.answers_to-requires-clause-compiled
answers_to-requires-clause-compiled g c = compiled_scene c.args.bytes.now c.in_ok-planned.planned.scene c.in_ok-planned.ensures.scene c.in_ok-planned.ensures.accepted

pub answers_to-requires-clause-plant : goal.answers_to-requires-clause-plant
answers_to-requires-clause-plant g c = c.in_ok-planned.ensures.plant ∙ ap plant_of_scene (sym c.in_ok-planned.ensures.scene)

pub answers_to-requires-clause-valid : goal.answers_to-requires-clause-valid
answers_to-requires-clause-valid g c =
    valid_places c.args.bytes.now c.in_ok-planned.planned.scene c.in_ok-planned.planned.plant (moves_in c.moves.result.now) c.in_ok-placed.placed.places.positions c.positions.result.now
    c.in_ok-planned.ensures.scene c.in_ok-planned.ensures.plant c.moves.ensures.moves (c.in_ok-placed.ensures.places ∙ sym c.positions.ensures) c.in_ok-placed.ensures.made.valid

pub returns-in_err-answers-clause-answer : goal.returns-in_err-answers-clause-answer
returns-in_err-answers-clause-answer g c =
    let fine = sym (list_same c.args.bytes.now c.args.list.now c.in_ok-planned.planned.plant c.names.result.now.trains.keys (moves_in c.moves.result.now) (length c.moves.result.now) c.in_ok-planned.ensures.plant c.names.ensures.trains c.moves.ensures.moves c.moves.ensures.trains)
    ∙ c.in_ok-placed.ensures.accepted in
    fault_answers _ _ _ _ c.in_err-answers.field-0.0 _ (ended_with c.from_residual-in_err-answers.result (status_of c.in_err-answers.field-0.0) c.from_residual-in_err-answers.ensures.1)
    (sym (only_proposals c.args.bytes.now c.args.list.now c.args.proposals.now c.in_ok-planned.planned.scene c.in_ok-planned.ensures.scene c.in_ok-planned.ensures.accepted fine)) c.in_err-answers.ensures.refused

pub returns-in_err-answers-clause-writes : goal.returns-in_err-answers-clause-writes
returns-in_err-answers-clause-writes g c =
    unwritten_fault g.O.Sink _ c.in_err-answers.field-0.0 _ (ended_with c.from_residual-in_err-answers.result (status_of c.in_err-answers.field-0.0) c.from_residual-in_err-answers.ensures.1)

pub returns-in_err-answers-clause-of_bytes : goal.returns-in_err-answers-clause-of_bytes
returns-in_err-answers-clause-of_bytes g c =
    ap is_of_bytes (ended_with c.from_residual-in_err-answers.result (status_of c.in_err-answers.field-0.0) c.from_residual-in_err-answers.ensures.1)
    ∙ proposals_fault _ _ c.args.proposals.now c.in_err-answers.field-0.0 c.in_err-answers.ensures.refused

pub returns-in_err-write_answers-clause-answer : goal.returns-in_err-write_answers-clause-answer
returns-in_err-write_answers-clause-answer g c =
    let fine = sym (list_same c.args.bytes.now c.args.list.now c.in_ok-planned.planned.plant c.names.result.now.trains.keys (moves_in c.moves.result.now) (length c.moves.result.now) c.in_ok-planned.ensures.plant c.names.ensures.trains c.moves.ensures.moves c.moves.ensures.trains)
    ∙ c.in_ok-placed.ensures.accepted in
    let none = only_proposals c.args.bytes.now c.args.list.now c.args.proposals.now c.in_ok-planned.planned.scene c.in_ok-planned.ensures.scene c.in_ok-planned.ensures.accepted fine ∙ c.in_ok-answers.ensures.accepted in
    late_part _ _ _ _ none (ended-failed c.from_residual-in_err-write_answers.result c.from_residual-in_err-write_answers.ensures.1)
    (files_judged c.args.bytes.now c.args.list.now c.args.proposals.now c.in_ok-planned.planned.scene c.in_ok-planned.planned.plant c.names.result.now.trains.keys (length c.moves.result.now) c.in_ok-placed.placed.file
    c.deref.result.now (AddsPrefix (g.O.Sink.written c.args.out.now) (g.O.Sink.written c.write_answers.new.out)) c.in_ok-planned.ensures.scene c.in_ok-planned.ensures.plant c.names.ensures.trains c.moves.ensures.trains c.in_ok-placed.ensures.listed
    (rw c.deref.ensures.value (rw (sym c.positions.ensures) c.in_ok-answers.ensures.answered)) c.in_err-write_answers.ensures.failed_adds_prefix)

pub returns-in_err-write_answers-clause-writes : goal.returns-in_err-write_answers-clause-writes
returns-in_err-write_answers-clause-writes g c =
    fault_written g.O.Sink _ _ _ (ended-failed c.from_residual-in_err-write_answers.result c.from_residual-in_err-write_answers.ensures.1)
    c.in_err-write_answers.ensures.failed_rose c.write_answers.ensures.faults_never_fall

pub returns-clause-writes : goal.returns-clause-writes
returns-clause-writes g c = all_written g.O.Sink _ _ c.write_answers.ensures.faults_never_fall

pub returns-clause-answer : goal.returns-clause-answer
returns-clause-answer g c =
    let fine = sym (list_same c.args.bytes.now c.args.list.now c.in_ok-planned.planned.plant c.names.result.now.trains.keys (moves_in c.moves.result.now) (length c.moves.result.now) c.in_ok-planned.ensures.plant c.names.ensures.trains c.moves.ensures.moves c.moves.ensures.trains)
    ∙ c.in_ok-placed.ensures.accepted in (
      only_proposals c.args.bytes.now c.args.list.now c.args.proposals.now c.in_ok-planned.planned.scene c.in_ok-planned.ensures.scene c.in_ok-planned.ensures.accepted fine ∙ c.in_ok-answers.ensures.accepted,
      files_judged c.args.bytes.now c.args.list.now c.args.proposals.now c.in_ok-planned.planned.scene c.in_ok-planned.planned.plant c.names.result.now.trains.keys (length c.moves.result.now) c.in_ok-placed.placed.file
          c.deref.result.now (Adds (g.O.Sink.written c.args.out.now) (g.O.Sink.written c.write_answers.new.out)) c.in_ok-planned.ensures.scene c.in_ok-planned.ensures.plant c.names.ensures.trains c.moves.ensures.trains c.in_ok-placed.ensures.listed
          (rw c.deref.ensures.value (rw (sym c.positions.ensures) c.in_ok-answers.ensures.answered)) c.in_ok-write_answers.ensures.adds,
    )
