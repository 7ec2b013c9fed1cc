-- What is done for a request is done for its form with its values.
use Rattle.std.proofs.Common.{subst}
use Rattle.rail_command_line.proofs.CallerLemmas.{paths_bounded}
use Rattle.rail_command_line.specs.Forms.{IsAsked, form_in, values_in}
use Rattle.rail_command_line.specs.declared.forms.Form.TheVariants as form
use Rattle.rail_command_line.specs.declared.forms.Request.{Request}
use Rattle.rail_forms.proofs.CallerLemmas.{capacity_complete, check_complete, edit_complete, gen_complete, infra_complete, insert_complete, migrate_complete, play_complete, report_complete, reroute_complete, resume_complete, run_complete, save_complete, scene_complete, stairs_complete}
use Rattle.rail_top.proofs.Forms.{done_for}
use Rattle.rail_top.proofs.Unread.{keeps_unread}
use Rattle.rail_top.proofs.top.answer.Goals as goal

pub returns-in-Run : goal.returns-in-Run
returns-in-Run g c = rw c.in-Run.is (done_for g.S.Shelf g.O.Sink form.Run _ _ _ _ _ _ _ run_complete c.answer.ensures.kept c.answer.ensures.answer (λ alone. absurd alone))

pub returns-in-Stairs : goal.returns-in-Stairs
returns-in-Stairs g c = rw c.in-Stairs.is (done_for g.S.Shelf g.O.Sink form.Stairs _ _ _ _ _ _ _ stairs_complete c.answer-in-Stairs.ensures.kept c.answer-in-Stairs.ensures.answer (λ alone. absurd alone))

pub returns-in-Report : goal.returns-in-Report
returns-in-Report g c = rw c.in-Report.is (done_for g.S.Shelf g.O.Sink form.Report _ _ _ _ _ _ _ report_complete c.answer-in-Report.ensures.kept c.answer-in-Report.ensures.answer (λ alone. absurd alone))

pub returns-in-Capacity : goal.returns-in-Capacity
returns-in-Capacity g c = rw c.in-Capacity.is (done_for g.S.Shelf g.O.Sink form.Capacity _ _ _ _ _ _ _ capacity_complete c.answer-in-Capacity.ensures.kept c.answer-in-Capacity.ensures.answer c.answer-in-Capacity.ensures.unread)

pub returns-in-Insert : goal.returns-in-Insert
returns-in-Insert g c = rw c.in-Insert.is (done_for g.S.Shelf g.O.Sink form.Insert _ _ _ _ _ _ _ insert_complete c.answer-in-Insert.ensures.kept c.answer-in-Insert.ensures.answer c.answer-in-Insert.ensures.unread)

pub returns-in-Infra : goal.returns-in-Infra
returns-in-Infra g c = rw c.in-Infra.is (done_for g.S.Shelf g.O.Sink form.Infra _ _ _ _ _ _ _ infra_complete c.answer-in-Infra.ensures.kept c.answer-in-Infra.ensures.answer (λ alone. absurd alone))

pub returns-in-Play : goal.returns-in-Play
returns-in-Play g c = rw c.in-Play.is (done_for g.S.Shelf g.O.Sink form.Play _ _ _ _ _ _ _ play_complete c.answer-in-Play.ensures.kept c.answer-in-Play.ensures.answer (λ alone. absurd alone))

pub returns-in-Check : goal.returns-in-Check
returns-in-Check g c = rw c.in-Check.is (done_for g.S.Shelf g.O.Sink form.Check _ _ _ _ _ _ _ check_complete c.answer-in-Check.ensures.kept c.answer-in-Check.ensures.answer (λ alone. absurd alone))

pub returns-in-Edit : goal.returns-in-Edit
returns-in-Edit g c = rw c.in-Edit.is (done_for g.S.Shelf g.O.Sink form.Edit _ _ _ _ _ _ _ edit_complete c.answer-in-Edit.ensures.kept c.answer-in-Edit.ensures.answer (λ alone. absurd alone))

pub returns-in-Reroute : goal.returns-in-Reroute
returns-in-Reroute g c = rw c.in-Reroute.is (done_for g.S.Shelf g.O.Sink form.Reroute _ _ _ _ _ _ _ reroute_complete c.answer-in-Reroute.ensures.kept c.answer-in-Reroute.ensures.answer (λ alone. absurd alone))

pub returns-in-Save : goal.returns-in-Save
returns-in-Save g c = rw c.in-Save.is (done_for g.S.Shelf g.O.Sink form.Save _ _ _ _ _ _ _ save_complete c.answer-in-Save.ensures.kept c.answer-in-Save.ensures.answer (λ alone. absurd alone))

pub returns-in-Resume : goal.returns-in-Resume
returns-in-Resume g c = rw c.in-Resume.is (done_for g.S.Shelf g.O.Sink form.Resume _ _ _ _ _ _ _ resume_complete c.answer-in-Resume.ensures.kept c.answer-in-Resume.ensures.answer (λ alone. absurd alone))

pub returns-in-Migrate : goal.returns-in-Migrate
returns-in-Migrate g c = rw c.in-Migrate.is (done_for g.S.Shelf g.O.Sink form.Migrate _ _ _ _ _ _ _ migrate_complete c.answer-in-Migrate.ensures.kept c.answer-in-Migrate.ensures.answer (λ alone. absurd alone))

pub returns-in-Scene : goal.returns-in-Scene
returns-in-Scene g c = rw c.in-Scene.is (done_for g.S.Shelf g.O.Sink form.Scene _ _ _ _ _ _ _ scene_complete
    (keeps_unread _ _ _ _ _ _ c.answer-in-Scene.ensures.of_bytes c.answer-in-Scene.ensures.writes) c.answer-in-Scene.ensures.answer (λ alone. absurd alone))

pub returns-in-Gen : goal.returns-in-Gen
returns-in-Gen g c = rw c.in-Gen.is (done_for g.S.Shelf g.O.Sink form.Gen _ _ _ _ _ _ _ gen_complete
    (keeps_unread _ _ _ _ _ _ c.answer-in-Gen.ensures.of_bytes c.answer-in-Gen.ensures.writes) c.answer-in-Gen.ensures.answer (λ alone. absurd alone))

pub answer-requires-in-Insert-clause-early : goal.answer-requires-in-Insert-clause-early
answer-requires-in-Insert-clause-early g c =
    (paths_bounded _ _ (subst (λ (request : Request). IsAsked (form_in request) (values_in request) c.requires.asked.0) c.in-Insert.is c.requires.asked.1)).0

pub answer-requires-in-Insert-clause-some : goal.answer-requires-in-Insert-clause-some
answer-requires-in-Insert-clause-some g c =
    (paths_bounded _ _ (subst (λ (request : Request). IsAsked (form_in request) (values_in request) c.requires.asked.0) c.in-Insert.is c.requires.asked.1)).1
