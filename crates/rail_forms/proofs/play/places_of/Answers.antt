use Rattle.std.proofs.Common.{◌≡◌, ℕ, List, length, true, Some, ap, sym, subst, ◌∙◌}
use Rattle.rail_place.specs.Overlaps.{IsOverlap}
use Rattle.rail_place.specs.Tables.{moves_in}
use Rattle.rail_rules.specs.Places.{is_valid_state}
use Rattle.rail_forms.specs.Answers.{status_of}
use Rattle.rail_forms.specs.Plays.{IsListAnswer, places_refusal, shared_at}
use Rattle.rail_forms.specs.Promises.{is_of_bytes}
use Rattle.rail_forms.proofs.Lists.{apart_accepted, if_err, line_answered, shared_refused}
use Rattle.rail_forms.proofs.Parts.{list_fault}
use Rattle.rail_forms.proofs.play.places_of.Goals as goal

pub returns-in_err-file-clause-refused : goal.returns-in_err-file-clause-refused
returns-in_err-file-clause-refused c =
    if_err c.from_residual.result (status_of c.in_err-file.field-0.0)
    (IsListAnswer (places_refusal c.args.names.now.trains.keys (moves_in c.args.moves.now) (length c.args.moves.now) c.args.may_move c.args.list.now)) c.from_residual.ensures.1
    (line_answered _ _ c.in_err-file.field-0.0 c.in_err-file.ensures.refused)

pub returns-in_err-file-clause-of_bytes : goal.returns-in_err-file-clause-of_bytes
returns-in_err-file-clause-of_bytes c =
    if_err c.from_residual.result (status_of c.in_err-file.field-0.0) (λ status. is_of_bytes status ≡ true) c.from_residual.ensures.1
    (list_fault c.args.names.now.trains.keys (moves_in c.args.moves.now) c.args.may_move c.args.list.now c.in_err-file.field-0.0 c.in_err-file.ensures.refused)

pub returns-in-Ok-clause-accepted : goal.returns-in-Ok-clause-accepted
returns-in-Ok-clause-accepted c =
    apart_accepted c.args.may_move c.args.list.now c.args.names.now.trains.keys (moves_in c.args.moves.now) (length c.args.moves.now) c.in_ok-file.file
    c.in_ok-file.ensures.accepted c.in_ok-file.ensures.listed
    (subst (λ (s : List ℕ). is_valid_state (moves_in c.args.moves.now) s ≡ true) (c.in-Ok.ensures.positions ∙ c.positions.ensures) c.in-Ok.ensures.made.valid)

pub returns-clause-refused : goal.returns-clause-refused
returns-clause-refused c =
    let overlap : IsOverlap (moves_in c.args.moves.now) c.positions.result.now c.in-Err-Overlap.field-0-0 c.in-Err-Overlap.field-0-1 c.in-Err-Overlap.field-0-2 =
    rw c.in-Err-Overlap.field-0-is at c.in-Err-Overlap.ensures.fault in
    shared_refused c.args.may_move c.args.list.now c.args.names.now.trains.keys (moves_in c.args.moves.now) (length c.args.moves.now) c.in_ok-file.file
    c.in_ok-file.ensures.accepted c.in_ok-file.ensures.listed c.in-Err-Overlap.field-0-0 c.in-Err-Overlap.field-0-1 c.in-Err-Overlap.field-0-2
    (subst (λ (s : List ℕ). IsOverlap (moves_in c.args.moves.now) s c.in-Err-Overlap.field-0-0 c.in-Err-Overlap.field-0-1 c.in-Err-Overlap.field-0-2) c.positions.ensures overlap)
    ∙ ap (λ (n : ℕ). Some (shared_at n)) (sym c.last_at.ensures) ∙ ap Some (sym c.shared.ensures)
