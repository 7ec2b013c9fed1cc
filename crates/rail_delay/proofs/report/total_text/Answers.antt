use Rattle.std.proofs.Common.{ℕ, List, [], ◌∷◌, ◌++◌, codes, decimal, is_some, ap, ◌∙◌}
use Rattle.std.specs.List.{count_by, sum_by}
use Rattle.rail_rules.specs.Numbers.{sum_below}
use Rattle.rail_rules.specs.Plant.{trains}
use Rattle.rail_rules.specs.Texts.{behind}
use Rattle.rail_delay.specs.declared.account.Account.{Account}
use Rattle.rail_delay.specs.Reports.{train_late}
use Rattle.rail_delay.proofs.Words.{ended_line, first_word, more_words}
use Rattle.rail_delay.proofs.report.total_text.Goals as goal

-- a word and a number
abbrev both : List ℕ → ℕ → List (List ℕ)
both word n = word ∷ decimal n ∷ []

pub returns : goal.returns
returns c =
    let word : List ℕ = codes "total" in
    let all : List Account = c.args.delays.now.accounts in
    let is_out : ℕ = count_by (λ (kept : Account). is_some kept.out) all in
    let is_cancelled : ℕ = count_by (λ (kept : Account). kept.cancelled) all in
    let late : ℕ = sum_below (train_late c.args.plant.now c.args.delays.now.visits) (trains c.args.plant.now) in
    let held : ℕ = sum_by (λ (kept : Account). kept.held) all in
    let first = first_word word c.put.ensures c.new-line.ensures in
    let counted = more_words word [] (both (codes "trains") (trains c.args.plant.now)) first
    (c.put_count.ensures.text ∙ ap (λ (n : ℕ). c.put.new.self ++ behind (both (codes "trains") n)) (c.from.ensures ∙ c.trains.ensures.count ∙ c.moves.ensures.trains)) in
    let left = more_words word (both (codes "trains") (trains c.args.plant.now)) (both (codes "out") is_out) counted
    (c.put_count-2.ensures.text ∙ ap (λ (n : ℕ). c.put_count.new.line ++ behind (both (codes "out") n)) (c.how_many_out.ensures ∙ ap (count_by (λ (kept : Account). is_some kept.out)) c.accounts.ensures)) in
    let dropped = more_words word (both (codes "trains") (trains c.args.plant.now) ++ both (codes "out") is_out) (both (codes "cancelled") is_cancelled) left
    (c.put_count-3.ensures.text ∙ ap (λ (n : ℕ). c.put_count-2.new.line ++ behind (both (codes "cancelled") n)) (c.how_many_cancelled.ensures ∙ ap (count_by (λ (kept : Account). kept.cancelled)) c.accounts-2.ensures)) in
    let delayed = more_words word (both (codes "trains") (trains c.args.plant.now) ++ both (codes "out") is_out ++ both (codes "cancelled") is_cancelled) (both (codes "late") late) dropped
    (c.put_sum.ensures.text ∙ ap (λ (n : ℕ). c.put_count-3.new.line ++ behind (both (codes "late") n)) c.total_late.ensures) in
    let waited = more_words word (both (codes "trains") (trains c.args.plant.now) ++ both (codes "out") is_out ++ both (codes "cancelled") is_cancelled ++ both (codes "late") late)
    (both (codes "held") held) delayed
    (c.put_sum-2.ensures.text ∙ ap (λ (n : ℕ). c.put_sum.new.line ++ behind (both (codes "held") n)) (c.total_held.ensures ∙ ap (sum_by (λ (kept : Account). kept.held)) c.accounts-3.ensures)) in
    ended_line word (both (codes "trains") (trains c.args.plant.now) ++ both (codes "out") is_out ++ both (codes "cancelled") is_cancelled ++ both (codes "late") late ++ both (codes "held") held) waited c.put-2.ensures
