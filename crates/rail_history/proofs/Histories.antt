-- The lines of a history that is read, from the first on.
use Rattle.std.proofs.Common.{◌≡◌, ℕ, suc, ◌+◌, ◌<◌, ◌≤◌, Bool, true, false, ◌&&◌, cond, List, [], ◌∷◌, ◌++◌, length, drop, get_or, refl, sym, ap, ◌∙◌, arith, append_assoc, length-append}
use Rattle.std.specs.List.{count_by, list_all, list_any}
use Rattle.std.proofs.lemmas.Bool.{and_parts, and_from}
use Rattle.std.proofs.lemmas.List.{reverse-append}
use Rattle.std.proofs.lemmas.List.Folds.{list_all-append}
use Rattle.std.proofs.lemmas.List.Sums.{sum_by-append, sum_by-cons}
use Rattle.rail_base.specs.declared.history.Entry.{Entry}
use Rattle.rail_base.specs.declared.history.What.{What}
use Rattle.rail_base.specs.declared.history.What.TheVariants.{Free, Arrive, Enter, Out, Ready, Told, Untold, Admit, Hold, End}
use Rattle.rail_base.specs.declared.history.Note.TheVariants.{Pulled, Appended, Fresh}
use Rattle.rail_base.specs.declared.limits.TheConstants.{FRESH_LINES}
use Rattle.rail_rules.specs.Plant.{Plant}
use Rattle.rail_rules.specs.Fronts.{Line}
use Rattle.rail_rules.specs.Texts.{line_text, line_words, text}
use Rattle.rail_rules.specs.WritableLines.{IsNamed, is_writable}
use Rattle.rail_laws_text.proofs.CallerLemmas.{text_same}
use Rattle.rail_history.specs.HistoryLines.{IsFirstWrong, IsSpelled, does_list, is_fresh, is_history_line, lines_in, lines_text}
use Rattle.rail_history.specs.Lines.{brought, line_of}
use Rattle.rail_history.specs.ReadFiles.{IsFront}
use Rattle.rail_history.specs.ReadWords.{joined}
use Rattle.rail_history.proofs.LineFeeds.{is_feed}
use Rattle.rail_history.proofs.LineRead.{can_write, one_feed, text_is}

-- counting one more
pub count_push : (X : Type 0) (p : X → Bool) (xs : List X) (x : X) → count_by p (xs ++ x ∷ []) ≡ count_by p xs + cond (p x) 1 0
count_push X p xs x =
    let ones : X → ℕ = λ y. cond (p y) 1 0 in
    let last : count_by p (x ∷ []) ≡ ones x = omega (arith, sum_by-cons ones x []) in
    omega (arith, sum_by-append ones xs (x ∷ []), last)

-- an entry without a list has none, whatever is beside it
unlisted : (what : What) (a b : List ℕ) → does_list what ≡ false → brought what a ≡ brought what b
unlisted (Free x t) a b h = refl
unlisted (Arrive t m) a b h = refl
unlisted (Enter t m x) a b h = refl
unlisted (Out t) a b h = refl
unlisted (Ready t m) a b h = refl
unlisted (Told k) a b h = refl
unlisted (Untold k) a b h = refl
unlisted (Admit t m Pulled) a b h = refl
unlisted (Admit t m Appended) a b h = refl
unlisted (Admit t m Fresh) a b h = cc
unlisted (Hold t m why) a b h = refl
unlisted End a b h = cc

line_unlisted : (entry : Entry) (a b : List ℕ) → does_list entry.what ≡ false → line_of entry a ≡ line_of entry b
line_unlisted entry a b h = let same = unlisted entry.what a b h in λ i. record { entry = entry; trains = same i }

abbrev lists_more : Bool → List ℕ → List (List ℕ)
lists_more listed kept = cond listed (kept ∷ []) []

-- one entry in front of others
one_before : (e : Entry) (es after : List Entry) (more : List (List ℕ)) (last : Line)
    → ((ls : List (List ℕ)) → count_by (λ (x : Entry). does_list x.what) es ≡ length ls → lines_in after (ls ++ more) ≡ lines_in es ls ++ last ∷ [])
    → (b : Bool) → does_list e.what ≡ b → (ls : List (List ℕ)) → cond b 1 0 + count_by (λ (x : Entry). does_list x.what) es ≡ length ls
    → line_of e (get_or (ls ++ more) 0 []) ∷ lines_in after (cond b (drop 1 (ls ++ more)) (ls ++ more))
    ≡ (line_of e (get_or ls 0 []) ∷ lines_in es (cond b (drop 1 ls) ls)) ++ last ∷ []
one_before e es after more last next true is [] same = absurd (omega (arith, same))
one_before e es after more last next true is (l ∷ ls) same = ap (λ (rest : List Line). line_of e l ∷ rest) (next ls (omega (arith, same)))
one_before e es after more last next false is ls same =
    let first = line_unlisted e (get_or (ls ++ more) 0 []) (get_or ls 0 []) is in
    let rest = next ls (omega (arith, same)) in
    λ i. first i ∷ rest i

last_line : (entry : Entry) (kept : List ℕ) (b : Bool) → does_list entry.what ≡ b → line_of entry (get_or (lists_more b kept) 0 []) ∷ [] ≡ line_of entry kept ∷ []
last_line entry kept true is = refl
last_line entry kept false is = let e = line_unlisted entry [] kept is in λ i. e i ∷ []

-- a line that is added behind the others
pub lines_push : (entries : List Entry) (lists_of : List (List ℕ)) (entry : Entry) (kept : List ℕ) → count_by (λ (e : Entry). does_list e.what) entries ≡ length lists_of
    → lines_in (entries ++ entry ∷ []) (lists_of ++ lists_more (does_list entry.what) kept) ≡ lines_in entries lists_of ++ line_of entry kept ∷ []
lines_push [] [] entry kept same = last_line entry kept (does_list entry.what) refl
lines_push [] (l ∷ ls) entry kept same = absurd (omega (arith, same))
lines_push (e ∷ es) ls entry kept same =
    one_before e es (es ++ entry ∷ []) (lists_more (does_list entry.what) kept) (line_of entry kept) (λ rest paired. lines_push es rest entry kept paired) (does_list e.what) refl ls
    (sym (sum_by-cons (λ (x : Entry). cond (does_list x.what) 1 0) e es) ∙ same)

pub paired_push : (entries : List Entry) (lists_of : List (List ℕ)) (entry : Entry) (kept : List ℕ) → count_by (λ (e : Entry). does_list e.what) entries ≡ length lists_of
    → count_by (λ (e : Entry). does_list e.what) (entries ++ entry ∷ []) ≡ length (lists_of ++ lists_more (does_list entry.what) kept)
paired_push entries ls entry kept same =
    let one = count_push Entry (λ (e : Entry). does_list e.what) entries entry in
    let long = length-append ls (lists_more (does_list entry.what) kept) in
    by (does_list entry.what) one long
  where
    by : (b : Bool) → count_by (λ (e : Entry). does_list e.what) (entries ++ entry ∷ []) ≡ count_by (λ (e : Entry). does_list e.what) entries + cond b 1 0
        → length (ls ++ lists_more b kept) ≡ length ls + length (lists_more b kept)
        → count_by (λ (e : Entry). does_list e.what) (entries ++ entry ∷ []) ≡ length (ls ++ lists_more b kept)
    by true one long = omega (arith, one, long, same)
    by false one long = omega (arith, one, long, same)

-- an entry is a line
pub length-lines_in : (entries : List Entry) (lists_of : List (List ℕ)) → length (lines_in entries lists_of) ≡ length entries
length-lines_in [] ls = refl
length-lines_in (e ∷ es) ls = ap suc (length-lines_in es (cond (does_list e.what) (drop 1 ls) ls))

text_push : (plant : Plant) (lines : List Line) (line : Line) → lines_text plant (lines ++ line ∷ []) ≡ lines_text plant lines ++ line_text plant line
text_push plant lines line = ap (text plant) (reverse-append lines (line ∷ []))

each_push : (plant : Plant) (lines : List Line) (line : Line) → list_all (is_history_line plant) lines ≡ true → is_history_line plant line ≡ true → list_all (is_history_line plant) (lines ++ line ∷ []) ≡ true
each_push plant lines line each one =
    list_all-append (is_history_line plant) lines (line ∷ []) ∙ and_from (list_all (is_history_line plant) lines) (is_history_line plant line && true) each (and_from (is_history_line plant line) true one refl)

pub front_next : (plant : Plant) (bytes : List ℕ) (lines : List Line) (line : Line) (left piece rest : List ℕ) → IsFront plant bytes lines left → IsSpelled plant line piece → left ≡ piece ++ rest → IsFront plant bytes (lines ++ line ∷ []) rest
front_next plant bytes lines line left piece rest front is split = record {
  each = each_push plant lines line front.each is.is_line;
  whole = front.whole ∙ ap (λ (xs : List ℕ). lines_text plant lines ++ xs) (split ∙ ap (λ (xs : List ℕ). xs ++ rest) (sym is.spelled))
      ∙ sym (append_assoc (lines_text plant lines) (line_text plant line) rest)
      ∙ ap (λ (xs : List ℕ). xs ++ rest) (sym (text_push plant lines line));
}

-- two lines with one text are one
pub one_line : (plant : Plant) → IsNamed plant → (a b : Line) (bytes : List ℕ) → IsSpelled plant a bytes → IsSpelled plant b bytes → a ≡ b
one_line plant named a b bytes is_a is_b =
    ap (λ (lines : List Line). get_or lines 0 a)
    (text_same plant named (a ∷ []) (b ∷ [])
    (and_from (is_writable plant a) true (can_write plant a is_a.is_line) refl)
    (and_from (is_writable plant b) true (can_write plant b is_b.is_line) refl)
    (is_a.spelled ∙ sym is_b.spelled))

-- the first line that is none
pub first_wrong : (plant : Plant) → IsNamed plant → (bytes : List ℕ) (lines : List Line) (left piece : List ℕ) (fresh number : ℕ) → IsFront plant bytes lines left
    → fresh ≡ count_by (λ (line : Line). is_fresh line.entry.what) lines → fresh ≤ FRESH_LINES → number ≡ length lines + 1 → (left ≡ [] → ⊥)
    → ((body more : List ℕ) → list_any is_feed body ≡ false → left ≡ body ++ 10 ∷ more → piece ≡ body ++ 10 ∷ [])
    → ((line : Line) → IsSpelled plant line piece → FRESH_LINES < fresh + cond (is_fresh line.entry.what) 1 0)
    → IsFirstWrong plant bytes number
first_wrong plant named bytes lines left piece fresh number front counted few numbered some cuts wrong = record {
  before = lines;
  rest = left;
  are_lines = record { each = front.each; few_fresh = omega (arith, counted, few) };
  whole = front.whole;
  counted = numbered;
  some = some;
  wrong = λ line more are same.
      let last = (and_parts (list_all (is_history_line plant) lines) (is_history_line plant line && true) (sym (list_all-append (is_history_line plant) lines (line ∷ [])) ∙ are.each)).1 in
      let is = (and_parts (is_history_line plant line) true last).0 in
      let body : List ℕ = joined (line_words plant line) in
      let split : left ≡ body ++ 10 ∷ more = same ∙ ap (λ (xs : List ℕ). xs ++ more) (text_is plant line) ∙ append_assoc body (10 ∷ []) more in
      let spelled : line_text plant line ≡ piece = text_is plant line ∙ sym (cuts body more (one_feed plant named line is) split) in
      let many = wrong line (record { is_line = is; spelled = spelled }) in
      omega (arith, many, counted, are.few_fresh, count_push Line (λ (l : Line). is_fresh l.entry.what) lines line);
}
