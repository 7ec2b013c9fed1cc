use Rattle.std.proofs.Common.{◌+◌, ◌≡◌, ◌∙◌, sym, List, ℕ, eqb, position, drop, Some, None, subst}
use Rattle.rail_text.proofs.Parts.{no_word, word_ended, word_unended, rest_whole}
use Rattle.rail_text.proofs.lines.next_word.Goals as goal

pub returns-in_default-clause-words : goal.returns-in_default-clause-words
returns-in_default-clause-words c = no_word c.args.text.now (sym c.first_other.ensures ∙ c.in_default.is)

pub returns-in_default-clause-less : goal.returns-in_default-clause-less
returns-in_default-clause-less c = no_word c.args.text.now (sym c.first_other.ensures ∙ c.in_default.is)

pub returns-in-Some-first-clause-words : goal.returns-in-Some-first-clause-words
returns-in-Some-first-clause-words c =
    let whole = rest_whole c.args.text.now c.in-Some.start in
    let found : position (λ b. eqb b 32) (drop c.in-Some.start c.args.text.now) ≡ Some c.in-Some-first.end =
    subst (λ (xs : List ℕ). position (λ b. eqb b 32) xs ≡ Some c.in-Some-first.end) whole (sym c.first.ensures ∙ c.in-Some-first.is) in
    rw (whole, rest_whole (drop c.in-Some.start c.args.text.now) (c.in-Some-first.end + 1))
    (word_ended c.args.text.now c.in-Some.start c.in-Some-first.end (sym c.first_other.ensures ∙ c.in-Some.is) found)

pub returns-in-None-clause-words : goal.returns-in-None-clause-words
returns-in-None-clause-words c =
    let whole = rest_whole c.args.text.now c.in-Some.start in
    let found : position (λ b. eqb b 32) (drop c.in-Some.start c.args.text.now) ≡ None =
    subst (λ (xs : List ℕ). position (λ b. eqb b 32) xs ≡ None) whole (sym c.first.ensures ∙ c.in-None.is) in
    rw whole (word_unended c.args.text.now c.in-Some.start (sym c.first_other.ensures ∙ c.in-Some.is) found)
