-- The time that a word spells is the one that inputs spell so.
use Rattle.std.proofs.Common.{◌≡◌, ℕ, ◌+◌, ◌*◌, ◌-◌, ◌/◌, ◌%◌, ◌<◌, ◌≤◌, ◌^◌, inl, inr, Bool, true, false, cond, ◌&&◌, nat_le, filter, List, [], ◌∷◌, ◌++◌, codes, decimal, Option, Some, None, refl, sym, ap, ◌∙◌, arith, rules, append_assoc}
use Rattle.std.specs.Str.{all_ascii_digits}
use Rattle.std.specs.Cmp.Lexicographic.{bytes_decides}
use Rattle.std.proofs.lemmas.Bool.{and_parts, le-leb, leb-true}
use Rattle.std.proofs.lemmas.Fmt.{digits_decimal, digits_value-decimal}
use Rattle.std.proofs.lemmas.List.Elements.{filter-append}
use Rattle.std.proofs.lemmas.Str.Parse.{IsNumeralModel, numerals_by_fold}
use Rattle.rail_base.specs.Clock.{IsLenientTime, hours_text, time_text}
use Rattle.rail_base.specs.Limits.{most, InputTime}
use Rattle.rail_base.proofs.CallerLemmas.{hours_cases}
use Rattle.rail_rules.specs.Numbers.{or_else, same_numbers}
use Rattle.rail_text.specs.Decimals.{is_digit, value_of, value_on}
use Rattle.rail_text.specs.Times.{IsInputTime, canonical_time, clock_time, input_time}

own : IsNumeralModel (λ ds. all_ascii_digits ds ≡ true) (value_on 0)
own = numerals_by_fold _ (search rules) value_on (search rules)

value_on-append : (n : ℕ) (xs ys : List ℕ) → value_on n (xs ++ ys) ≡ value_on (value_on n xs) ys
value_on-append n [] ys = refl
value_on-append n (x ∷ xs) ys = value_on-append (10 * n + (x - 48)) xs ys

-- digits are kept
kept : (x : ℕ) (xs : List ℕ) → is_digit x ≡ true → filter is_digit (x ∷ xs) ≡ x ∷ filter is_digit xs
kept x xs h = ap (λ b. cond b (x ∷ filter is_digit xs) (filter is_digit xs)) h

all_kept : (xs : List ℕ) → all_ascii_digits xs ≡ true → filter is_digit xs ≡ xs
all_kept [] h = refl
all_kept (x ∷ xs) h =
    let both = and_parts (is_digit x) (all_ascii_digits xs) h in
    kept x xs both.0 ∙ ap (λ (rest : List ℕ). x ∷ rest) (all_kept xs both.1)

digit : (n : ℕ) → n ≤ 9 → is_digit (48 + n) ≡ true
digit n small = grind (arith, le-leb 48 (48 + n) (omega arith), le-leb (48 + n) 57 (omega arith))

-- the hours of a text are digits, and spell their number
record AreHours (hours : ℕ) (text : List ℕ) : Type 0 where
  pub kept : filter is_digit text ≡ text
  pub value : value_on 0 text ≡ hours

hours_kept : (hours : ℕ) → hours < 2 ^ 64 → AreHours hours (hours_text hours)
hours_kept hours fits =
    let digits = all_kept (decimal hours) (digits_decimal own hours fits) in
    hours_cases (AreHours hours) hours
    (record { kept = ap (λ (rest : List ℕ). 48 ∷ rest) digits; value = digits_value-decimal own hours fits })
    (record { kept = digits; value = digits_value-decimal own hours fits })

-- the digits of the hours of a time spell their number
pub hours_value : (hours : ℕ) → hours < 2 ^ 64 → value_of (hours_text hours) ≡ hours
hours_value hours fits = (hours_kept hours fits).value

-- what stands behind the hours, and its digits
abbrev behind : ℕ → ℕ → ℕ → ℕ → ℕ → List ℕ
behind a b c d e = 58 ∷ (48 + a) ∷ (48 + b) ∷ 58 ∷ (48 + c) ∷ (48 + d) ∷ 46 ∷ (48 + e) ∷ []

behind_kept : (a b c d e : ℕ) → a ≤ 9 → b ≤ 9 → c ≤ 9 → d ≤ 9 → e ≤ 9 → filter is_digit (behind a b c d e) ≡ (48 + a) ∷ (48 + b) ∷ (48 + c) ∷ (48 + d) ∷ (48 + e) ∷ []
behind_kept a b c d e ha hb hc hd he =
    let five : filter is_digit ((48 + e) ∷ []) ≡ (48 + e) ∷ [] = kept (48 + e) [] (digit e he) in
    let four : filter is_digit ((48 + d) ∷ 46 ∷ (48 + e) ∷ []) ≡ (48 + d) ∷ (48 + e) ∷ [] = kept (48 + d) (46 ∷ (48 + e) ∷ []) (digit d hd) ∙ ap (λ (r : List ℕ). (48 + d) ∷ r) five in
    let three : filter is_digit ((48 + c) ∷ (48 + d) ∷ 46 ∷ (48 + e) ∷ []) ≡ (48 + c) ∷ (48 + d) ∷ (48 + e) ∷ [] = kept (48 + c) ((48 + d) ∷ 46 ∷ (48 + e) ∷ []) (digit c hc) ∙ ap (λ (r : List ℕ). (48 + c) ∷ r) four in
    let two : filter is_digit ((48 + b) ∷ 58 ∷ (48 + c) ∷ (48 + d) ∷ 46 ∷ (48 + e) ∷ []) ≡ (48 + b) ∷ (48 + c) ∷ (48 + d) ∷ (48 + e) ∷ [] = kept (48 + b) (58 ∷ (48 + c) ∷ (48 + d) ∷ 46 ∷ (48 + e) ∷ []) (digit b hb) ∙ ap (λ (r : List ℕ). (48 + b) ∷ r) three in
    kept (48 + a) ((48 + b) ∷ 58 ∷ (48 + c) ∷ (48 + d) ∷ 46 ∷ (48 + e) ∷ []) (digit a ha) ∙ ap (λ (r : List ℕ). (48 + a) ∷ r) two

-- the digits of the text of a time
digits_of_text : (time : ℕ) → time < 2 ^ 64 → value_of (filter is_digit (time_text time)) ≡ 100_000 * (time / 36_000) + 1_000 * (time / 600 % 60) + 10 * (time / 10 % 60) + time % 10
digits_of_text time fits =
    let hours : ℕ = time / 36_000 in
    let a : ℕ = time / 600 % 60 / 10 in
    let b : ℕ = time / 600 % 60 % 10 in
    let c : ℕ = time / 10 % 60 / 10 in
    let d : ℕ = time / 10 % 60 % 10 in
    let e : ℕ = time % 10 in
    let front = hours_kept hours (omega arith) in
    let split : time_text time ≡ hours_text hours ++ behind a b c d e = simp append_assoc in
    let digits : filter is_digit (time_text time) ≡ hours_text hours ++ ((48 + a) ∷ (48 + b) ∷ (48 + c) ∷ (48 + d) ∷ (48 + e) ∷ []) =
    ap (filter is_digit) split ∙ filter-append is_digit (hours_text hours) (behind a b c d e)
    ∙ (λ i. front.kept i ++ behind_kept a b c d e (omega arith) (omega arith) (omega arith) (omega arith) (omega arith) i) in
    let value : value_of (filter is_digit (time_text time)) ≡ value_on hours ((48 + a) ∷ (48 + b) ∷ (48 + c) ∷ (48 + d) ∷ (48 + e) ∷ []) =
    ap (value_on 0) digits ∙ value_on-append 0 (hours_text hours) _ ∙ ap (λ n. value_on n ((48 + a) ∷ (48 + b) ∷ (48 + c) ∷ (48 + d) ∷ (48 + e) ∷ [])) front.value in
    omega (arith, value)

clock_of_digits : (time digits : ℕ) → digits ≡ 100_000 * (time / 36_000) + 1_000 * (time / 600 % 60) + 10 * (time / 10 % 60) + time % 10 → clock_time digits ≡ time
clock_of_digits time digits h =
    let hours : digits / 100_000 ≡ time / 36_000 = omega arith in
    let minutes : digits / 1_000 % 100 ≡ time / 600 % 60 = omega arith in
    let seconds : digits % 1_000 ≡ 10 * (time / 10 % 60) + time % 10 = omega arith in
    omega (arith, hours, minutes, seconds)

-- the text of a time of an input is that time's
canonical : (time : ℕ) (text : List ℕ) → time ≤ most InputTime → text ≡ time_text time → canonical_time text ≡ Some time
canonical time text small is =
    let fits : time < 2 ^ 64 = omega arith in
    let here : clock_time (value_of (filter is_digit text)) ≡ time = ap (λ (t : List ℕ). clock_time (value_of (filter is_digit t))) is ∙ clock_of_digits time _ (digits_of_text time fits) in
    let same : same_numbers (time_text time) text ≡ true = (bytes_decides (time_text time) text).1 (sym is) in
    ap (λ (t : ℕ). cond (nat_le t (most InputTime) && same_numbers (time_text t) text) (Some t) None) here
    ∙ ap (λ b. cond (b && same_numbers (time_text time) text) (Some time) None) (le-leb time (most InputTime) small)
    ∙ ap (λ b. cond b (Some time) None) same

-- and no other text
record IsCanonical (text : List ℕ) (time : ℕ) : Type 0 where
  pub small : time ≤ most InputTime
  pub spelled : text ≡ time_text time

is_canonical : (time : ℕ) (text : List ℕ) → canonical_time text ≡ Some time → IsCanonical text time
is_canonical time text found = by (nat_le it (most InputTime)) (same_numbers (time_text it) text) (leb-true it (most InputTime)) ((bytes_decides (time_text it) text).0) found
  where
    it : ℕ
    it = clock_time (value_of (filter is_digit text))

    by : (a b : Bool) → (a ≡ true → it ≤ most InputTime) → (b ≡ true → time_text it ≡ text) → cond (a && b) (Some it) None ≡ Some time → IsCanonical text time
    by true true small same is = let here : it ≡ time = cc in record { small = rw (← here) (small refl); spelled = sym (same refl) ∙ ap time_text here }
    by true false small same is = absurd (cc)
    by false b small same is = absurd (cc)

-- the answer for a word, from those for its canonical forms
input_cases : (word : List ℕ) (plain dotted : Option ℕ) → canonical_time word ≡ plain → canonical_time (word ++ codes ".0") ≡ dotted → IsInputTime word (or_else plain dotted)
input_cases word (Some time) dotted is_plain is_dotted =
    let is = is_canonical time word is_plain in
    (is.small, record { short = omega (arith, is.small); spelled = inl is.spelled })
input_cases word None (Some time) is_plain is_dotted =
    let is = is_canonical time (word ++ codes ".0") is_dotted in
    (is.small, record { short = omega (arith, is.small); spelled = inr is.spelled })
input_cases word None None is_plain is_dotted = λ time small lenient.
    elim lenient.spelled [
      | inl e ↦ let found = canonical time word small e in cc
      | inr e ↦ let found = canonical time (word ++ codes ".0") small e in cc
    ]

pub input_time_spelled : (word : List ℕ) → IsInputTime word (input_time word)
input_time_spelled word = input_cases word (canonical_time word) (canonical_time (word ++ codes ".0")) refl refl

-- an answer of a text that spells one time at most
module _ (word : List ℕ) (one : (a b : ℕ) → IsLenientTime word a → IsLenientTime word b → a ≡ b) where
  same_time : (answer : Option ℕ) → IsInputTime word answer → (time : ℕ) → time ≤ most InputTime → IsLenientTime word time → answer ≡ Some time
  same_time None never time small is = absurd (never time small is)
  same_time (Some other) h time small is = ap Some (one other time h.1 is)

  pub reads_some : (time : ℕ) → time ≤ most InputTime → IsLenientTime word time → input_time word ≡ Some time
  reads_some time small is = same_time (input_time word) (input_time_spelled word) time small is

  no_time : (answer : Option ℕ) → IsInputTime word answer → ((time : ℕ) → time ≤ most InputTime → IsLenientTime word time → ⊥) → answer ≡ None
  no_time None h never = refl
  no_time (Some time) h never = absurd (never time h.0 h.1)

  pub reads_none : ((time : ℕ) → time ≤ most InputTime → IsLenientTime word time → ⊥) → input_time word ≡ None
  reads_none never = no_time (input_time word) (input_time_spelled word) never
