-- The text of a history stands for one history, and has one first line that is none.
use Rattle.std.proofs.Common.{◌≡◌, ◌≢◌, ℕ, zero, suc, ◌+◌, ◌<◌, ◌≤◌, ◌⊎◌, inl, inr, ⊎_elim, true, false, ◌&&◌, cond, List, [], ◌∷◌, ◌++◌, drop, get_or, length, refl, sym, ap, ◌∙◌, subst, arith, append_assoc, length-append}
use Rattle.std.specs.List.{list_all, list_any}
use Rattle.std.specs.Prelude.{reverse}
use Rattle.std.proofs.lemmas.Bool.{and_parts, and_from, false≢true, or_parts}
use Rattle.std.proofs.lemmas.List.{append-nil, reverse-append}
use Rattle.std.proofs.lemmas.List.Folds.{list_all-append}
use Rattle.std.proofs.lemmas.List.Sums.{sum_by-append, sum_by-cons}
use Rattle.rail_rules.specs.Plant.{Plant}
use Rattle.rail_rules.specs.Fronts.{Line}
use Rattle.rail_rules.specs.Texts.{line_text, line_words, text}
use Rattle.rail_rules.specs.WritableLines.{IsNamed}
use Rattle.rail_history.specs.HistoryLines.{AreHistoryLines, IsFirstWrong, IsHistory, is_fresh, is_history_line, lines_text}
use Rattle.rail_history.specs.ReadWords.{joined}
use Rattle.rail_history.proofs.LineFeeds.{is_feed}
use Rattle.rail_history.proofs.Histories.{one_line}
use Rattle.rail_history.proofs.LineRead.{one_feed, text_is}

-- up to the first line feed two equal texts are one
cut_same : (a b r s : List ℕ) → list_any is_feed a ≡ false → list_any is_feed b ≡ false → a ++ 10 ∷ r ≡ b ++ 10 ∷ s → (a ≡ b) × (r ≡ s)
cut_same [] [] r s free other same = (refl, ap (drop 1) same)
cut_same [] (y ∷ b) r s free other same =
    absurd (false≢true (sym (or_parts (is_feed y) (list_any is_feed b) other).0 ∙ ap is_feed (sym (ap (λ (l : List ℕ). get_or l 0 0) same))))
cut_same (x ∷ a) [] r s free other same =
    absurd (false≢true (sym (or_parts (is_feed x) (list_any is_feed a) free).0 ∙ ap is_feed (ap (λ (l : List ℕ). get_or l 0 0) same)))
cut_same (x ∷ a) (y ∷ b) r s free other same =
    let rest = cut_same a b r s (or_parts (is_feed x) (list_any is_feed a) free).1 (or_parts (is_feed y) (list_any is_feed b) other).1 (ap (drop 1) same) in
    let first : x ≡ y = ap (λ (l : List ℕ). get_or l 0 0) same in
    ((λ i. first i ∷ rest.0 i), rest.1)

text_under : (plant : Plant) (lines : List Line) (line : Line) → text plant (lines ++ line ∷ []) ≡ line_text plant line ++ text plant lines
text_under plant [] line = sym (append-nil (line_text plant line))
text_under plant (z ∷ zs) line = ap (λ (t : List ℕ). t ++ line_text plant z) (text_under plant zs line) ∙ append_assoc (line_text plant line) (text plant zs) (line_text plant z)

-- the text of lines begins with that of the first
lines_cons : (plant : Plant) (line : Line) (lines : List Line) → lines_text plant (line ∷ lines) ≡ line_text plant line ++ lines_text plant lines
lines_cons plant line lines = ap (text plant) (reverse-append (line ∷ []) lines) ∙ text_under plant (reverse lines) line

-- a text that begins with a line
begins : (plant : Plant) (line : Line) (r : List ℕ) → line_text plant line ++ r ≡ joined (line_words plant line) ++ 10 ∷ r
begins plant line r = ap (λ (t : List ℕ). t ++ r) (text_is plant line) ∙ append_assoc (joined (line_words plant line)) (10 ∷ []) r

-- the first lines of two equal texts are one
same_first : (plant : Plant) → IsNamed plant → (a b : Line) (r s : List ℕ) → is_history_line plant a ≡ true → is_history_line plant b ≡ true
    → line_text plant a ++ r ≡ line_text plant b ++ s → (a ≡ b) × (r ≡ s)
same_first plant named a b r s is_a is_b same =
    let cut = cut_same (joined (line_words plant a)) (joined (line_words plant b)) r s (one_feed plant named a is_a) (one_feed plant named b is_b)
    (sym (begins plant a r) ∙ same ∙ begins plant b s) in (
      one_line plant named a b (line_text plant b)
          (record { is_line = is_a; spelled = text_is plant a ∙ ap (λ (t : List ℕ). t ++ 10 ∷ []) cut.0 ∙ sym (text_is plant b) })
          (record { is_line = is_b; spelled = refl }),
      cut.1,
    )

-- the second lines go on behind the first ones, and so do their texts
record IsBehind (plant : Plant) (first second : List Line) (r s : List ℕ) : Type 0 where
  more : List Line
  lines : second ≡ first ++ more
  bytes : r ≡ lines_text plant more ++ s

-- of two histories of which one text begins, one goes on behind the other
compared : (plant : Plant) → IsNamed plant → (a b : List Line) (r s : List ℕ) → list_all (is_history_line plant) a ≡ true → list_all (is_history_line plant) b ≡ true
    → lines_text plant a ++ r ≡ lines_text plant b ++ s → IsBehind plant a b r s ⊎ IsBehind plant b a s r
compared plant named [] b r s all_a all_b same = inl (record { more = b; lines = refl; bytes = same })
compared plant named (x ∷ a) [] r s all_a all_b same = inr (record { more = x ∷ a; lines = refl; bytes = sym same })
compared plant named (x ∷ a) (y ∷ b) r s all_a all_b same =
    let one_a = and_parts (is_history_line plant x) (list_all (is_history_line plant) a) all_a in
    let one_b = and_parts (is_history_line plant y) (list_all (is_history_line plant) b) all_b in
    let split : (z : Line) (zs : List Line) (t : List ℕ) → lines_text plant (z ∷ zs) ++ t ≡ line_text plant z ++ (lines_text plant zs ++ t) =
    λ z zs t. ap (λ (u : List ℕ). u ++ t) (lines_cons plant z zs) ∙ append_assoc (line_text plant z) (lines_text plant zs) t in
    let first = same_first plant named x y (lines_text plant a ++ r) (lines_text plant b ++ s) one_a.0 one_b.0 (sym (split x a r) ∙ same ∙ split y b s) in
    ⊎_elim
    (λ (h : IsBehind plant a b r s). inl (record { more = h.more; lines = λ i. sym first.0 i ∷ h.lines i; bytes = h.bytes }))
    (λ (h : IsBehind plant b a s r). inr (record { more = h.more; lines = λ i. first.0 i ∷ h.lines i; bytes = h.bytes }))
    (compared plant named a b r s one_a.1 one_b.1 first.1)

-- the text of a line is not empty
no_lines : (plant : Plant) (lines : List Line) (s : List ℕ) → [] ≡ lines_text plant lines ++ s → lines ≡ []
no_lines plant [] s none = refl
no_lines plant (z ∷ zs) s none =
    absurd (omega (
      arith,
      ap (length {A = ℕ}) (none ∙ ap (λ (t : List ℕ). t ++ s) (lines_cons plant z zs) ∙ append_assoc (line_text plant z) (lines_text plant zs) s ∙ begins plant z (lines_text plant zs ++ s)),
      length-append (joined (line_words plant z)) (10 ∷ (lines_text plant zs ++ s)),
    ))

no_bytes : (plant : Plant) (lines : List Line) (s : List ℕ) → [] ≡ lines_text plant lines ++ s → s ≡ []
no_bytes plant lines s none = ap (λ (ls : List Line). lines_text plant ls ++ s) (sym (no_lines plant lines s none)) ∙ sym none

-- the bytes of a history stand for its lines alone
pub one_history : (plant : Plant) → IsNamed plant → (bytes : List ℕ) (a b : List Line) → IsHistory plant bytes a → IsHistory plant bytes b → a ≡ b
one_history plant named bytes a b is_a is_b =
    ⊎_elim
    (λ (h : IsBehind plant a b [] []). sym (h.lines ∙ ap (λ (ls : List Line). a ++ ls) (no_lines plant h.more [] h.bytes) ∙ append-nil a))
    (λ (h : IsBehind plant b a [] []). h.lines ∙ ap (λ (ls : List Line). b ++ ls) (no_lines plant h.more [] h.bytes) ∙ append-nil b)
    (compared plant named a b [] [] is_a.are_lines.each is_b.are_lines.each
    (append-nil (lines_text plant a) ∙ sym is_a.whole ∙ is_b.whole ∙ sym (append-nil (lines_text plant b))))

-- the first of more lines
lines_first : (plant : Plant) (lines : List Line) (line : Line) (more : List Line) → AreHistoryLines plant (lines ++ line ∷ more) → AreHistoryLines plant (lines ++ line ∷ [])
lines_first plant lines line more are =
    let test = is_history_line plant in
    let parts = and_parts (list_all test lines) (list_all test (line ∷ more)) (sym (list_all-append test lines (line ∷ more)) ∙ are.each) in
    let one = and_parts (test line) (list_all test more) parts.1 in
    let fresh : Line → ℕ = λ l. cond (is_fresh l.entry.what) 1 0 in
    record {
      each = list_all-append test lines (line ∷ []) ∙ and_from (list_all test lines) (test line && true) parts.0 (and_from (test line) true one.0 refl);
      few_fresh = omega (arith, are.few_fresh, sum_by-append fresh lines (line ∷ more), sum_by-append fresh lines (line ∷ []), sum_by-cons fresh line more, sum_by-cons fresh line []);
    }

-- no line goes on behind the lines before the first that is none
ends_there : (plant : Plant) (bytes : List ℕ) (number : ℕ) (wrong : IsFirstWrong plant bytes number) (lines : List Line) (s : List ℕ) → AreHistoryLines plant lines
    → (h : IsBehind plant wrong.before lines wrong.rest s) → h.more ≡ []
ends_there plant bytes number wrong lines s are h = of h.more h.lines h.bytes
  where
    of : (more : List Line) → lines ≡ wrong.before ++ more → wrong.rest ≡ lines_text plant more ++ s → more ≡ []
    of [] goes same = refl
    of (z ∷ zs) goes same =
        absurd (wrong.wrong z (lines_text plant zs ++ s) (lines_first plant wrong.before z zs (subst (AreHistoryLines plant) goes are))
        (same ∙ ap (λ (t : List ℕ). t ++ s) (lines_cons plant z zs) ∙ append_assoc (line_text plant z) (lines_text plant zs) s))

-- bytes of which a line is none are no history
pub no_history : (plant : Plant) → IsNamed plant → (bytes : List ℕ) (number : ℕ) (lines : List Line) → IsFirstWrong plant bytes number → IsHistory plant bytes lines → ⊥
no_history plant named bytes number lines wrong is =
    ⊎_elim
    (λ (h : IsBehind plant wrong.before lines wrong.rest []).
    wrong.some (h.bytes ∙ ap (λ (ls : List Line). lines_text plant ls ++ []) (ends_there plant bytes number wrong lines [] is.are_lines h)))
    (λ (h : IsBehind plant lines wrong.before [] wrong.rest). wrong.some (no_bytes plant h.more wrong.rest h.bytes))
    (compared plant named wrong.before lines wrong.rest [] wrong.are_lines.each is.are_lines.each (sym wrong.whole ∙ is.whole ∙ sym (append-nil (lines_text plant lines))))

-- one line is the first that is none
pub one_wrong : (plant : Plant) → IsNamed plant → (bytes : List ℕ) (a b : ℕ) → IsFirstWrong plant bytes a → IsFirstWrong plant bytes b → a ≡ b
one_wrong plant named bytes a b is_a is_b =
    let same_number : (ls : List Line) (first second : List Line) → second ≡ first ++ ls → ls ≡ [] → length second ≡ length first =
    λ ls first second goes none. ap (length {A = Line}) (goes ∙ ap (λ (l : List Line). first ++ l) none ∙ append-nil first) in
    ⊎_elim
    (λ (h : IsBehind plant is_a.before is_b.before is_a.rest is_b.rest).
    let same = same_number h.more is_a.before is_b.before h.lines (ends_there plant bytes a is_a is_b.before is_b.rest is_b.are_lines h) in
    omega (arith, same, is_a.counted, is_b.counted))
    (λ (h : IsBehind plant is_b.before is_a.before is_b.rest is_a.rest).
    let same = same_number h.more is_b.before is_a.before h.lines (ends_there plant bytes b is_b is_a.before is_a.rest is_a.are_lines h) in
    omega (arith, same, is_a.counted, is_b.counted))
    (compared plant named is_a.before is_b.before is_a.rest is_b.rest is_a.are_lines.each is_b.are_lines.each (sym is_a.whole ∙ is_b.whole))

-- the text of lines ends with that of the last
lines_more : (plant : Plant) (lines : List Line) (line : Line) → lines_text plant (lines ++ line ∷ []) ≡ lines_text plant lines ++ line_text plant line
lines_more plant lines line = ap (text plant) (reverse-append lines (line ∷ []))

-- what stands behind a line is shorter
shorter : (plant : Plant) (line : Line) (rest more : List ℕ) → rest ≡ line_text plant line ++ more → length more < length rest
shorter plant line rest more same =
    omega (
      arith,
      ap (length {A = ℕ}) (same ∙ begins plant line more),
      length-append (joined (line_words plant line)) (10 ∷ more),
    )

-- bytes that are no history have a first line that is none: behind lines of the file so many bytes are left at most
no_third_behind : (plant : Plant) (bytes : List ℕ) → ((lines : List Line) → IsHistory plant bytes lines → ⊥) → ((number : ℕ) → IsFirstWrong plant bytes number → ⊥)
    → (n : ℕ) (before : List Line) (rest : List ℕ) → AreHistoryLines plant before → bytes ≡ lines_text plant before ++ rest → length rest ≤ n → ⊥
no_third_behind plant bytes no_lines no_wrong n before [] are whole short =
    no_lines before (record { are_lines = are; whole = whole ∙ append-nil (lines_text plant before) })
no_third_behind plant bytes no_lines no_wrong zero before (b ∷ rest) are whole short = omega (arith, short)
no_third_behind plant bytes no_lines no_wrong (suc n) before (b ∷ rest) are whole short =
    no_wrong (length before + 1) (record {
      before = before;
      rest = b ∷ rest;
      are_lines = are;
      whole = whole;
      counted = refl;
      some = λ none. omega (arith, ap (length {A = ℕ}) none);
      wrong = λ line more goes same. no_third_behind plant bytes no_lines no_wrong n (before ++ line ∷ []) more goes
          (whole ∙ ap (λ (t : List ℕ). lines_text plant before ++ t) same
          ∙ sym (append_assoc (lines_text plant before) (line_text plant line) more)
          ∙ ap (λ (t : List ℕ). t ++ more) (sym (lines_more plant before line)))
          (omega (arith, short, shorter plant line (b ∷ rest) more same));
    })

-- the bytes are a history or have a first line that is none
pub no_third : (plant : Plant) (bytes : List ℕ) → ((lines : List Line) → IsHistory plant bytes lines → ⊥) → ((number : ℕ) → IsFirstWrong plant bytes number → ⊥) → ⊥
no_third plant bytes no_lines no_wrong =
    no_third_behind plant bytes no_lines no_wrong (length bytes) [] bytes (record { each = refl; few_fresh = omega arith }) refl (omega arith)

-- lines have no fewer bytes than there are lines
lines_within : (plant : Plant) (lines : List Line) → length lines ≤ length (lines_text plant lines)
lines_within plant [] = omega arith
lines_within plant (z ∷ zs) =
    omega (
      arith,
      ap (length {A = ℕ}) (lines_cons plant z zs),
      shorter plant z (line_text plant z ++ lines_text plant zs) (lines_text plant zs) refl,
      lines_within plant zs,
    )

-- the number of the first line that is none is not above the count of bytes
pub wrong_within : (plant : Plant) (bytes : List ℕ) (number : ℕ) → IsFirstWrong plant bytes number → number ≤ length bytes
wrong_within plant bytes number wrong =
    omega (
      arith,
      wrong.counted,
      lines_within plant wrong.before,
      ap (length {A = ℕ}) wrong.whole,
      length-append (lines_text plant wrong.before) wrong.rest,
      long wrong.rest wrong.some,
    )
  where
    long : (rest : List ℕ) → rest ≢ [] → 0 < length rest
    long [] some = absurd (some refl)
    long (b ∷ rest) some = omega arith
