use Rattle.std.proofs.Common.{ℕ, List, [], ◌∷◌, ◌++◌, codes, decimal, ap, ◌∙◌}
use Rattle.rail_base.specs.Clock.{time_text}
use Rattle.rail_rules.specs.Texts.{behind}
use Rattle.rail_delay.proofs.CallerLemmas.{ended_line, first_word, more_words, one_word}
use Rattle.rail_forms.specs.declared.summary.Summary.{Summary}
use Rattle.rail_forms.proofs.summary.text_of.Goals as goal

-- a word and a number
abbrev both : List ℕ → ℕ → List (List ℕ)
both word n = word ∷ decimal n ∷ []

pub returns : goal.returns
returns c =
    let word : List ℕ = codes "gen" in
    let summary : Summary = c.args.summary.now in
    let numbered : List (List ℕ) = decimal c.args.number ∷ both (codes "trains") c.args.trains in
    let admitted : List (List ℕ) = numbered ++ both (codes "moves") summary.moves in
    let lined : List (List ℕ) = admitted ++ both (codes "lines") summary.lines in
    let held : List (List ℕ) = lined ++ both (codes "holds") summary.holds in
    let timed : List (List ℕ) = held ++ codes "last" ∷ time_text summary.last ∷ [] in
    let first = first_word word c.put.ensures c.new-line.ensures in
    let number = one_word word [] (decimal c.args.number) first c.put_number.ensures.text in
    let trains = more_words word (decimal c.args.number ∷ []) (both (codes "trains") c.args.trains) number
    (c.put_count.ensures.text ∙ ap (λ (n : ℕ). c.put_number.new.self ++ behind (both (codes "trains") n)) c.from.ensures) in
    let moves = more_words word numbered (both (codes "moves") summary.moves) trains c.put_count-2.ensures.text in
    let lines = more_words word admitted (both (codes "lines") summary.lines) moves c.put_count-3.ensures.text in
    let holds = more_words word lined (both (codes "holds") summary.holds) lines c.put_count-4.ensures.text in
    let last = one_word word held (codes "last") holds c.put_word.ensures in
    let time = one_word word (held ++ codes "last" ∷ []) (time_text summary.last) last c.put_time.ensures.text in
    let outs = more_words word timed (both (codes "out") summary.outs) time c.put_count-5.ensures.text in
    ended_line word (timed ++ both (codes "out") summary.outs) outs c.put-2.ensures
