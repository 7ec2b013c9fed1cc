use Rattle.std.proofs.Common.{◌≡◌, ℕ, suc, List, [], ◌∷◌, ◌++◌, codes, decimal, ap, ◌∙◌, arith}
use Rattle.rail_base.specs.declared.plant.TrainRow.{TrainRow}
use Rattle.rail_rules.specs.Texts.{behind, train_word}
use Rattle.rail_delay.specs.declared.visits.Visit.{Visit}
use Rattle.rail_delay.specs.Reports.{times_words, visit_of}
use Rattle.rail_delay.proofs.Words.{ended_line, first_word, more_words, one_word}
use Rattle.rail_delay.proofs.report.call_text.Goals as goal

pub returns : goal.returns
returns c =
    let word : List ℕ = codes "call" in
    let name : List ℕ = train_word c.args.plant.now c.args.train in
    let place : List ℕ = decimal (suc c.args.index) in
    let arrival : List (List ℕ) = times_words c.args.call.arrival (visit_of c.args.row.now c.args.index).arrived in
    let departure : List (List ℕ) = times_words c.args.call.departure (visit_of c.args.row.now (suc c.args.index)).departed in
    let here : c.visit_of.result ≡ visit_of c.args.row.now c.args.index = c.visit_of.ensures ∙ ap (visit_of c.args.row.now) c.from-visit.ensures in
    let next : c.visit_of-2.result ≡ visit_of c.args.row.now (suc c.args.index) = c.visit_of-2.ensures ∙ ap (visit_of c.args.row.now) (omega (arith, c.from-visit.ensures)) in
    let first = first_word word c.put.ensures c.new-line.ensures in
    let named = one_word word [] name first (c.put_name.ensures.text ∙ ap (λ (row : TrainRow). c.put.new.self ++ 32 ∷ row.name) c.train.ensures.row) in
    let placed = one_word word (name ∷ []) place named (c.put_number.ensures.text ∙ ap (λ (n : ℕ). c.put_name.new.self ++ 32 ∷ decimal n) (omega (arith, c.from.ensures))) in
    let arr = one_word word (name ∷ place ∷ []) (codes "arr") placed c.put_word.ensures in
    let arrived = more_words word (name ∷ place ∷ codes "arr" ∷ []) arrival arr
    (c.put_times.ensures.text ∙ ap (λ (visit : Visit). c.put_word.new.self ++ behind (times_words c.args.call.arrival visit.arrived)) here) in
    let dep = one_word word (name ∷ place ∷ codes "arr" ∷ arrival) (codes "dep") arrived c.put_word-2.ensures in
    let departed = more_words word (name ∷ place ∷ codes "arr" ∷ arrival ++ codes "dep" ∷ []) departure dep
    (c.put_times-2.ensures.text ∙ ap (λ (visit : Visit). c.put_word-2.new.self ++ behind (times_words c.args.call.departure visit.departed)) next) in
    ended_line word (name ∷ place ∷ codes "arr" ∷ arrival ++ codes "dep" ∷ departure) departed c.put-2.ensures
