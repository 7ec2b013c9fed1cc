use Rattle.std.proofs.Common.{◌≡◌, ℕ, List, sym, subst, ap, ◌∙◌}
use Rattle.rail_base.specs.declared.history.What.{What}
use Rattle.rail_rules.specs.Texts.{line_words}
use Rattle.rail_history.specs.LineReads.{AreLikelyTrains}
use Rattle.rail_history.specs.Lines.{brought}
use Rattle.rail_history.proofs.LineRead.{kept_of, same_line, words_spaceless}
use Rattle.rail_history.proofs.read_line.likely_line.Goals as goal

pub returns-in_default : goal.returns-in_default
returns-in_default c = λ plant has named line is same.
    let parts = c.cut.ensures.words (line_words plant line) (words_spaceless plant named line is) same in
    let some = sym c.in_default.is ∙ c.likely_time.ensures line.entry.at (kept_of plant line is).at parts.0 in
    cc some

pub returns-in_default-likely_what : goal.returns-in_default-likely_what
returns-in_default-likely_what c = λ plant has named line is same.
    let parts = c.cut.ensures.words (line_words plant line) (words_spaceless plant named line is) same in
    let kept = kept_of plant line is in
    let some = sym c.in_default-likely_what.is ∙ c.likely_what.ensures plant has named line line.entry.what kept.writable kept.small parts.1 in
    cc some

pub returns : goal.returns
returns c = λ plant has named line is same.
    let parts = c.cut.ensures.words (line_words plant line) (words_spaceless plant named line is) same in
    let kept = kept_of plant line is in
    let time = sym c.in-Some.is ∙ c.likely_time.ensures line.entry.at kept.at parts.0 in
    let said = sym c.in-Some-likely_what.is ∙ c.likely_what.ensures plant has named line line.entry.what kept.writable kept.small parts.1 in
    let at : c.in-Some.at ≡ line.entry.at = cc time in
    let what : c.in-Some-likely_what.what ≡ line.entry.what = cc said in
    let list : List ℕ = c.in_ok-trains.trains.items in
    let trains = subst (λ (w : What). AreLikelyTrains c.args.names.now w c.cut.result.1.now list) what c.in_ok-trains.ensures plant has named line kept.writable kept.within parts.1 in
    same_line line c.in-Some.at c.in-Some-likely_what.what list at what (ap (λ (w : What). brought w list) what ∙ trains)
