-- A line of a list file joins the lines before it and behind it.
use Rattle.std.proofs.Common.{◌≡◌, ℕ, Bool, true, false, ◌||◌, cond, List, [], ◌∷◌, ◌++◌, map, set, replicate, None, refl, sym, ap, ◌∙◌, codes, append_assoc, append-nil}
use Rattle.std.specs.Cmp.Lexicographic.{bytes_decides}
use Rattle.std.specs.List.{flat_map}
use Rattle.std.specs.Option.{option_or}
use Rattle.std.proofs.lemmas.List.Concat.{flat_map-append}
use Rattle.std.proofs.lemmas.List.Folds.{list_any-append}
use Rattle.std.proofs.lemmas.List.Sums.{fold-append}
use Rattle.rail_base.specs.FirstRefusals.{first_failing}
use Rattle.rail_base.specs.Refusals.{AnswersFirst}
use Rattle.rail_base.specs.declared.refusals.Fault.{Fault}
use Rattle.rail_base.specs.declared.refusals.Fault.TheVariants.{Refused, OutOfMemory}
use Rattle.rail_base.proofs.CallerLemmas.{first_failing-append}
use Rattle.rail_rules.specs.Moves.{Moves}
use Rattle.rail_text.specs.Decimals.{value_of}
use Rattle.rail_text.specs.Lines.{Line, lines_of}
use Rattle.rail_command_line.specs.Lists.{is_moving, is_setting, line_tests, lines_tests, list_line_refusal, moved, moves_trains, number_of_train, sets, some_moves, with_position}
use Rattle.rail_command_line.specs.ListAnswers.{ReadList, after_line, after_moves, after_position, read_of, words_refusal}

or_false : (b : Bool) → (b || false) ≡ b
or_false true = refl
or_false false = refl

or_true : (b : Bool) → (b || true) ≡ true
or_true true = refl
or_true false = refl

-- a line that sets a position moves no trains
sets_alone : (verb : List ℕ) → sets verb ≡ true → moves_trains verb ≡ false
sets_alone verb at = ap moves_trains ((bytes_decides verb (codes "at")).0 at)

-- what is kept, by its parts
abbrev kept : List ℕ → List ℕ → ℕ → Bool → ReadList
kept positions list last_at has_moved = record { positions = positions; list = list; last_at = last_at; has_moved = has_moved }

module _ (names : List (List ℕ)) (read : ReadList) (n : ℕ) where
  unchanged : read ≡ kept read.positions (read.list ++ []) read.last_at (read.has_moved || false)
  unchanged = λ i. kept read.positions (sym (append-nil read.list) i) read.last_at (sym (or_false read.has_moved) i)

  put : (train number : List ℕ) → after_position names read n (train ∷ number ∷ []) ≡ kept (set read.positions (number_of_train names train) (value_of number)) (read.list ++ []) n (read.has_moved || false)
  put train number = λ i. kept (set read.positions (number_of_train names train) (value_of number)) (sym (append-nil read.list) i) n (sym (or_false read.has_moved) i)

  pushed : (args : List (List ℕ)) → after_moves names read args ≡ kept read.positions (read.list ++ map (number_of_train names) args) read.last_at (read.has_moved || true)
  pushed args = λ i. kept read.positions (read.list ++ map (number_of_train names) args) read.last_at (sym (or_true read.has_moved) i)

  -- what a line adds
  abbrev added : List (List ℕ) → ReadList
  added words = kept (with_position names read.positions words) (read.list ++ moved names words) (cond (is_setting words) n read.last_at) (read.has_moved || is_moving words)

  -- by whether it sets a position, and whether it moves trains; it doesn't do both
  two : (at move : Bool) → (at ≡ true → move ≡ false) → (train number : List ℕ) →
      cond at (after_position names read n (train ∷ number ∷ [])) (cond move (after_moves names read (train ∷ number ∷ [])) read)
      ≡ kept (cond at (set read.positions (number_of_train names train) (value_of number)) read.positions) (read.list ++ cond move (map (number_of_train names) (train ∷ number ∷ [])) []) (cond at n read.last_at) (read.has_moved || move)
  two true true one train number = let no : true ≡ false = one refl in cc
  two true false one train number = put train number
  two false true one train number = pushed (train ∷ number ∷ [])
  two false false one train number = unchanged

  other : (at move : Bool) → (at ≡ true → move ≡ false) → (args : List (List ℕ)) →
      cond at read (cond move (after_moves names read args) read) ≡ kept read.positions (read.list ++ cond move (map (number_of_train names) args) []) read.last_at (read.has_moved || move)
  other true true one args = let no : true ≡ false = one refl in cc
  other true false one args = unchanged
  other false true one args = pushed args
  other false false one args = unchanged

  pub step : (words : List (List ℕ)) → after_line names read n words ≡ added words
  step [] = unchanged
  step (verb ∷ []) = other (sets verb) (moves_trains verb) (sets_alone verb) []
  step (verb ∷ train ∷ []) = other (sets verb) (moves_trains verb) (sets_alone verb) (train ∷ [])
  step (verb ∷ train ∷ number ∷ []) = two (sets verb) (moves_trains verb) (sets_alone verb) train number
  step (verb ∷ train ∷ number ∷ more ∷ rest) = other (sets verb) (moves_trains verb) (sets_alone verb) (train ∷ number ∷ more ∷ rest)

-- what is kept of one line more
module _ (names : List (List ℕ)) (trains : ℕ) (before : List Line) (line : Line) where
  joined : read_of names trains (before ++ line ∷ []) ≡ added names (read_of names trains before) line.number line.words
  joined =
      let positions = fold-append (λ (ps : List ℕ) (line : Line). with_position names ps line.words) (replicate trains 0) before (line ∷ []) in
      let list : flat_map (λ (line : Line). moved names line.words) (before ++ line ∷ []) ≡ flat_map (λ (line : Line). moved names line.words) before ++ moved names line.words =
      flat_map-append (λ (line : Line). moved names line.words) before (line ∷ []) ∙ ap (λ (ts : List ℕ). flat_map (λ (line : Line). moved names line.words) before ++ ts) (append-nil (moved names line.words)) in
      let last = fold-append (λ (m : ℕ) (line : Line). cond (is_setting line.words) line.number m) 0 before (line ∷ []) in
      let moves : some_moves (before ++ line ∷ []) ≡ (some_moves before || is_moving line.words) =
      list_any-append (λ (line : Line). is_moving line.words) before (line ∷ []) ∙ ap (λ b. some_moves before || b) (or_false (is_moving line.words)) in
      λ i. kept (positions i) (list i) (last i) (moves i)

  -- what is kept after a line is what is kept of the lines with it
  read_on : after_line names (read_of names trains before) line.number line.words ≡ read_of names trains (before ++ line ∷ [])
  read_on = step names (read_of names trains before) line.number line.words ∙ sym joined

-- how far a list file was read: the lines before a place in it, and the lines that are left
pub record IsReadTo (names : List (List ℕ)) (plan : Moves) (may_move : Bool) (trains : ℕ) (bytes : List ℕ) (read : ReadList) (left : List Line) : Type 0 where
  pub before : List Line
  pub whole : lines_of bytes ≡ before ++ left
  pub kept : read ≡ read_of names trains before
  pub refusals : list_line_refusal names plan may_move bytes ≡ first_failing (lines_tests names plan may_move before left)

module _ (names : List (List ℕ)) (plan : Moves) (may_move : Bool) (trains : ℕ) (bytes : List ℕ) (read : ReadList) where
  module _ (left : List Line) (h : IsReadTo names plan may_move trains bytes read left) where
    module _ (line : Line) (rest : List Line) (is : left ≡ line ∷ rest) where
      its_tests : first_failing (line_tests names plan may_move h.before line) ≡ words_refusal names plan may_move read line.number line.words
      its_tests = ap (λ (r : ReadList). words_refusal names plan may_move r line.number line.words) (sym h.kept)

      refused_first : list_line_refusal names plan may_move bytes
          ≡ option_or (words_refusal names plan may_move read line.number line.words) (first_failing (lines_tests names plan may_move (h.before ++ line ∷ []) rest))
      refused_first =
          h.refusals
          ∙ ap (λ (ls : List Line). first_failing (lines_tests names plan may_move h.before ls)) is
          ∙ first_failing-append (line_tests names plan may_move h.before line) (lines_tests names plan may_move (h.before ++ line ∷ []) rest)
          ∙ ap (λ o. option_or o (first_failing (lines_tests names plan may_move (h.before ++ line ∷ []) rest))) its_tests

      -- a line that is not refused
      pub one_more : (after : ReadList) → words_refusal names plan may_move read line.number line.words ≡ None → after ≡ after_line names read line.number line.words → IsReadTo names plan may_move trains bytes after rest
      one_more after ok made = record {
        before = h.before ++ line ∷ [];
        whole = h.whole ∙ ap (λ (ls : List Line). h.before ++ ls) is ∙ sym (append_assoc h.before (line ∷ []) rest);
        kept = made ∙ ap (λ (r : ReadList). after_line names r line.number line.words) h.kept ∙ read_on names trains h.before line;
        refusals = refused_first ∙ ap (λ o. option_or o (first_failing (lines_tests names plan may_move (h.before ++ line ∷ []) rest))) ok;
      }

      -- what answers a line answers the file
      pub answers_file : (fault : Fault) → AnswersFirst (words_refusal names plan may_move read line.number line.words) fault → AnswersFirst (list_line_refusal names plan may_move bytes) fault
      answers_file (Refused r) answer = refused_first ∙ ap (λ o. option_or o (first_failing (lines_tests names plan may_move (h.before ++ line ∷ []) rest))) answer
      answers_file OutOfMemory answer = tt

    -- behind the last line
    module _ (none : left ≡ []) where
      all_before : lines_of bytes ≡ h.before
      all_before = h.whole ∙ ap (λ (ls : List Line). h.before ++ ls) none ∙ append-nil h.before

      pub all_accepted : list_line_refusal names plan may_move bytes ≡ None
      all_accepted = h.refusals ∙ ap (λ (ls : List Line). first_failing (lines_tests names plan may_move h.before ls)) none

      pub all_read : read ≡ read_of names trains (lines_of bytes)
      all_read = h.kept ∙ ap (read_of names trains) (sym all_before)
