use Rattle.std.proofs.Common.{sym, subst}
use Rattle.std.proofs.lemmas.Result.{IfOk-weaker}
use Rattle.rail_base.specs.declared.history.Note.{Note}
use Rattle.rail_history.specs.LineReads.{AreNotedTrains}
use Rattle.rail_history.proofs.Listed.{noted_appended, noted_fresh, noted_pulled}
use Rattle.rail_history.proofs.read_line.noted_trains.Goals as goal

pub returns-in-Fresh : goal.returns-in-Fresh
returns-in-Fresh c =
    IfOk-weaker c.likely_trains.result _ _
    (λ list likely. subst (λ (note : Note). AreNotedTrains c.args.names.now note c.args.text.now list.items) (sym c.in-Fresh.is) (noted_fresh c.args.names.now c.args.text.now list.items likely))
    c.likely_trains.ensures

pub returns-in-Pulled : goal.returns-in-Pulled
returns-in-Pulled c =
    subst (λ (note : Note). AreNotedTrains c.args.names.now note c.args.text.now c.new.result.items) (sym c.in-Pulled.is) (noted_pulled c.args.names.now c.args.text.now c.new.result.items)

pub returns-in-Appended : goal.returns-in-Appended
returns-in-Appended c =
    subst (λ (note : Note). AreNotedTrains c.args.names.now note c.args.text.now c.new-in-Appended.result.items) (sym c.in-Appended.is) (noted_appended c.args.names.now c.args.text.now c.new-in-Appended.result.items)
