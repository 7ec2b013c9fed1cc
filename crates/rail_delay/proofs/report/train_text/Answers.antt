use Rattle.std.proofs.Common.{ℕ, List, [], ◌∷◌, ◌++◌, codes, Some, ap, ◌∙◌}
use Rattle.rail_base.specs.declared.plant.TrainRow.{TrainRow}
use Rattle.rail_rules.specs.Plant.{train}
use Rattle.rail_rules.specs.Texts.{behind, train_word}
use Rattle.rail_delay.specs.declared.visits.Visit.{Visit}
use Rattle.rail_text.specs.Words.{time_word}
use Rattle.rail_delay.specs.Reports.{entry_words, held_words, times_words, visit_of}
use Rattle.rail_delay.proofs.Words.{ended_line, first_word, more_words, one_word}
use Rattle.rail_delay.proofs.report.train_text.Goals as goal

pub returns : goal.returns
returns c =
    let word : List ℕ = codes "train" in
    let name : List ℕ = train_word c.args.plant.now c.args.train in
    let entry : List (List ℕ) = entry_words c.args.plant.now c.args.train c.args.row.now in
    let out : List ℕ = time_word c.args.account.now.out in
    let first = first_word word c.put.ensures c.new-line.ensures in
    let named = one_word word [] name first (c.put_name.ensures.text ∙ ap (λ (row : TrainRow). c.put.new.self ++ 32 ∷ row.name) c.train-2.ensures.row) in
    let enters = one_word word (name ∷ []) (codes "entry") named c.put_word.ensures in
    let entered = more_words word (name ∷ codes "entry" ∷ []) (times_words (Some (train c.args.plant.now c.args.train).entry) (visit_of c.args.row.now 0).departed) enters
    (c.put_times.ensures.text
    ∙ ap (λ (row : TrainRow). c.put_word.new.self ++ behind (times_words (Some row.entry) c.visit_of.result.departed)) c.train.ensures.row
    ∙ ap (λ (visit : Visit). c.put_word.new.self ++ behind (times_words (Some (train c.args.plant.now c.args.train).entry) visit.departed)) c.visit_of.ensures) in
    let leaves = one_word word (name ∷ entry) (codes "out") entered c.put_word-2.ensures in
    let left = one_word word (name ∷ entry ++ codes "out" ∷ []) out leaves c.put_time_or_dash.ensures.text in
    let held = more_words word (name ∷ entry ++ codes "out" ∷ out ∷ []) (held_words c.args.account.now) left c.put_held.ensures.text in
    ended_line word (name ∷ entry ++ codes "out" ∷ out ∷ held_words c.args.account.now) held c.put-2.ensures
