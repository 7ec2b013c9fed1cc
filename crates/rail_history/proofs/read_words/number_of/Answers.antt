use Rattle.std.proofs.Common.{List, ℕ, ◌∙◌, ap, arith, subst, sym}
use Rattle.std.specs.Result.{result_ok}
use Rattle.rail_history.proofs.Reading.{SpellNumber, decimal_spells, no_text, read_digits}
use Rattle.rail_history.proofs.read_words.number_of.Goals as goal

pub returns-in_err-ok : goal.returns-in_err-ok
returns-in_err-ok c = λ n small is.
    let P : List ℕ → Type 0 = λ ds. SpellNumber ds n in
    let spell = subst P (sym is) (decimal_spells n (omega (arith, small))) in
    absurd (no_text _ n spell _ _ _ c.from_utf8.ensures.cases c.in_err-ok.ensures.variant)

pub returns : goal.returns
returns c = λ n small is.
    let P : List ℕ → Type 0 = λ ds. SpellNumber ds n in
    let spell = subst P (sym is) (decimal_spells n (omega (arith, small))) in
    c.ok-2.ensures.value ∙ ap result_ok (read_digits 16 c.args.word.now n small spell _ _ c.from_utf8.ensures.cases _ c.in_ok-ok.ensures.value _ c.parse.ensures.value.0)
