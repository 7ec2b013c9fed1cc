use Rattle.std.proofs.Common.{refl, sym, ◌∙◌}
use Rattle.rail_command_line.specs.Forms.{form_in, values_in}
use Rattle.rail_top.proofs.Forms.{all_done}
use Rattle.rail_top.proofs.top.rail.Goals as goal

pub answer-requires-clause-asked : goal.answer-requires-clause-asked
answer-requires-clause-asked g c = (c.args.words.now, c.in-Some.ensures)

pub returns-in-Some-clause-usage : goal.returns-in-Some-clause-usage
returns-in-Some-clause-usage g c = (
  λ usage. absurd (c.answer.ensures.kept.in_table (sym c.status_of.ensures ∙ usage)),
  λ none. absurd (none (form_in c.in-Some.request) (values_in c.in-Some.request) c.in-Some.ensures),
)

pub returns-in-Some-clause-answer : goal.returns-in-Some-clause-answer
returns-in-Some-clause-answer g c = λ form values asked.
    (all_done g.S.Shelf g.O.Sink (form_in c.in-Some.request) (values_in c.in-Some.request) c.args.words.now _ _ _ _ _ _ c.status_of.result c.status_of.ensures
    c.a_text_stands_for_one_time.ensures c.in-Some.ensures c.answer.ensures form values asked).answer

pub returns-in-None-clause-answer : goal.returns-in-None-clause-answer
returns-in-None-clause-answer g c = λ form values asked. absurd (c.in-None.ensures form values asked)

pub returns-in-Some-clause-complete : goal.returns-in-Some-clause-complete
returns-in-Some-clause-complete g c = λ form values asked.
    (all_done g.S.Shelf g.O.Sink (form_in c.in-Some.request) (values_in c.in-Some.request) c.args.words.now _ _ _ _ _ _ c.status_of.result c.status_of.ensures
    c.a_text_stands_for_one_time.ensures c.in-Some.ensures c.answer.ensures form values asked).complete

pub returns-in-None-clause-complete : goal.returns-in-None-clause-complete
returns-in-None-clause-complete g c = λ form values asked. absurd (c.in-None.ensures form values asked)

pub returns-in-Some-clause-reads : goal.returns-in-Some-clause-reads
returns-in-Some-clause-reads g c = λ form values asked.
    (all_done g.S.Shelf g.O.Sink (form_in c.in-Some.request) (values_in c.in-Some.request) c.args.words.now _ _ _ _ _ _ c.status_of.result c.status_of.ensures
    c.a_text_stands_for_one_time.ensures c.in-Some.ensures c.answer.ensures form values asked).kept.reads

pub returns-in-None-clause-reads : goal.returns-in-None-clause-reads
returns-in-None-clause-reads g c = λ form values asked. absurd (c.in-None.ensures form values asked)

pub returns-in-Some-clause-unread : goal.returns-in-Some-clause-unread
returns-in-Some-clause-unread g c = λ form values asked.
    (all_done g.S.Shelf g.O.Sink (form_in c.in-Some.request) (values_in c.in-Some.request) c.args.words.now _ _ _ _ _ _ c.status_of.result c.status_of.ensures
    c.a_text_stands_for_one_time.ensures c.in-Some.ensures c.answer.ensures form values asked).unread

pub returns-in-None-clause-unread : goal.returns-in-None-clause-unread
returns-in-None-clause-unread g c = λ form values asked. absurd (c.in-None.ensures form values asked)

pub returns-in-Some-clause-usage_unread : goal.returns-in-Some-clause-usage_unread
returns-in-Some-clause-usage_unread g c = λ usage. absurd (c.answer.ensures.kept.in_table (sym c.status_of.ensures ∙ usage))

pub returns-in-None-clause-usage : goal.returns-in-None-clause-usage
returns-in-None-clause-usage g c = (λ is. c.in-None.ensures, λ none. refl)
