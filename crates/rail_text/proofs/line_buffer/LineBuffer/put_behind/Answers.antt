-- The digits of a number below 100.
use Rattle.std.proofs.Common.{◌≡◌, ℕ, ◌+◌, ◌/◌, ◌%◌, ◌<◌, ◌≤◌, List, [], ◌∷◌, ◌++◌, decimal, ap, sym, ◌∙◌, arith}
use Rattle.std.proofs.lemmas.Fmt.{decimal_digit, decimal_step}
use Rattle.rail_text.proofs.line_buffer.LineBuffer.put_behind.Goals as goal

two_digits : (n : ℕ) → 10 ≤ n → n < 100 → decimal n ≡ (48 + n / 10) ∷ (48 + n % 10) ∷ []
two_digits n more less =
    decimal_step n more (omega arith) ∙ ap (λ (digits : List ℕ). digits ++ (48 + n % 10) ∷ []) (decimal_digit (n / 10) (omega arith))

pub returns-then-number-lt10-clause-text : goal.returns-then-number-lt10-clause-text
returns-then-number-lt10-clause-text c =
    c.put.ensures
    ∙ ap (λ (d : ℕ). c.args.self.now ++ c.args.mark ∷ d ∷ []) c.digit.ensures
    ∙ sym (ap (λ (digits : List ℕ). c.args.self.now ++ c.args.mark ∷ digits) (decimal_digit c.args.number c.if-number-lt10.true))

pub returns-then-number-lt100-clause-text : goal.returns-then-number-lt100-clause-text
returns-then-number-lt100-clause-text c =
    c.put-then-number-lt100.ensures
    ∙ ap (λ (d : ℕ). c.args.self.now ++ c.args.mark ∷ d ∷ c.digit-then-number-lt100-2.result ∷ []) c.digit-then-number-lt100.ensures
    ∙ ap (λ (d : ℕ). c.args.self.now ++ c.args.mark ∷ (48 + c.args.number / 10) ∷ d ∷ []) c.digit-then-number-lt100-2.ensures
    ∙ sym (ap (λ (digits : List ℕ). c.args.self.now ++ c.args.mark ∷ digits) (two_digits c.args.number c.if-number-lt10.false c.if-number-lt100.true))
