use Rattle.std.proofs.Common.{◌∙◌, drop, sym, subst, ap}
use Rattle.std.proofs.lemmas.Result.{IfOk-weaker}
use Rattle.rail_base.specs.declared.history.What.{What}
use Rattle.rail_history.specs.LineReads.{AreLikelyTrains}
use Rattle.rail_history.specs.Lines.{brought}
use Rattle.rail_history.proofs.Listed.{listed_admit, listed_end, no_list}
use Rattle.rail_history.proofs.Spelled.{spaceless_drop}
use Rattle.rail_history.proofs.read_line.listed_trains.Goals as goal

pub returns-in-Admit : goal.returns-in-Admit
returns-in-Admit c =
    IfOk-weaker c.noted_trains.result _ _
    (λ list noted. subst (λ (what : What). AreLikelyTrains c.args.names.now what c.args.said.now list.items) (sym c.in-Admit.is)
    (listed_admit c.args.names.now c.behind_note.result.now list.items c.args.said.now c.in-Admit.train c.in-Admit.place c.in-Admit.note
    (λ words free same. c.behind_note.ensures (drop 1 words) (spaceless_drop words free) (c.cut.ensures.words words free same).1) noted))
    c.noted_trains.ensures

pub returns-in-End : goal.returns-in-End
returns-in-End c =
    IfOk-weaker c.likely_trains.result _ _
    (λ list likely. subst (λ (what : What). AreLikelyTrains c.args.names.now what c.args.said.now list.items) (sym c.in-End.is)
    (listed_end c.args.names.now c.cut.result.1.now list.items c.args.said.now (λ words free same. (c.cut.ensures.words words free same).1) likely))
    c.likely_trains.ensures

pub returns-in_default : goal.returns-in_default
returns-in_default c = λ plant has named line writable within same.
    ap (brought c.args.entry.now.what) c.new.ensures.items ∙ no_list plant line c.args.entry.now.what c.in_default.not-Admit c.in_default.not-End writable
