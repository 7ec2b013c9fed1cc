use Rattle.std.proofs.Common.{ℕ, Bool, IfErr, List, ap, ◌∙◌, subst, sym}
use Rattle.rail_base.specs.Refusals.{AnswersFirst}
use Rattle.rail_base.specs.FirstRefusals.{first_failing}
use Rattle.rail_place.specs.Tables.{moves_in}
use Rattle.rail_rules.specs.Moves.{Moves}
use Rattle.rail_text.specs.Lines.{words}
use Rattle.rail_command_line.specs.ListAnswers.{asked_refusal}
use Rattle.rail_command_line.specs.Lists.{words_tests}
use Rattle.rail_command_line.proofs.Judging.{moves_kept, moving_from, both_on_ok}
use Rattle.rail_command_line.proofs.list.ListFile.read_line.Goals as goal

pub returns-in-Move-clause-list : goal.returns-in-Move-clause-list
returns-in-Move-clause-list c =
    both_on_ok c.read_moves.result c.read_moves.ensures.known c.read_moves.ensures.listed
    (λ known listed. rw listed (moves_kept c.args.names.now.trains.keys c.args.moves.now c.args.self.now _ c.requires.names c.requires.list known))

pub returns-in-Move-clause-refused : goal.returns-in-Move-clause-refused
returns-in-Move-clause-refused c =
    let moving = moving_from c.in-Some.verb.now (sym c.verb_of.ensures ∙ c.in-Move.is) in
    let plan : Moves = moves_in c.args.moves.now in
    let tests = ap (λ (ws : List (List ℕ)). first_failing (words_tests c.args.names.now.trains.keys plan c.args.may_move c.args.self.now.has_moved c.args.number ws)) c.in-Some.ensures.words in
    rw tests (subst (λ (may_move : Bool). IfErr c.read_moves.result (AnswersFirst (asked_refusal c.args.names.now.trains.keys plan may_move c.args.self.now c.args.number c.in-Some.verb.now (words c.in-Some.args.now))))
    (sym c.if-may_move.true) (c.read_moves.ensures.refused plan c.in-Some.verb.now moving.other moving.moving))
