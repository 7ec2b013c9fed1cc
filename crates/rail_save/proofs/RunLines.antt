-- Lines behind a front of a run: they are followed one by one.
use Rattle.std.proofs.Common.{◌≡◌, ℕ, suc, Bool, true, false, ◌&&◌, cond, List, [], ◌∷◌, ◌++◌, Option, Some, None, refl, sym, ap, ◌∙◌, arith}
use Rattle.std.specs.Prelude.{MatchOption, reverse}
use Rattle.std.proofs.lemmas.Bool.{and_parts, cond-true}
use Rattle.std.proofs.lemmas.List.{append-nil, reverse-reverse}
use Rattle.rail_check.proofs.CallerLemmas.{behind_is}
use Rattle.rail_rules.specs.Fronts.{Front, Line}
use Rattle.rail_rules.specs.Lawful.{may_follow}
use Rattle.rail_rules.specs.Orders.{Input}
use Rattle.rail_rules.specs.RunHistories.{Seat, is_run}
use Rattle.rail_save.specs.RunLines.{AreFollowed, IsOtherAt, other_behind}

module _ (input : Input) (seats : List Seat) where
  later : (line : Line) (front : Front) (n : ℕ) (lines : List Line) (o : Option ℕ)
      → MatchOption o (AreFollowed input seats (line ∷ front) lines) (IsOtherAt input seats (line ∷ front) (suc n) lines)
      → MatchOption o (AreFollowed input seats front (line ∷ lines)) (IsOtherAt input seats front n (line ∷ lines))
  later line front n lines None followed = followed
  later line front n lines (Some number) at = record {
    before = line ∷ at.before;
    line = at.line;
    after = at.after;
    are = ap (λ ls. line ∷ ls) at.are;
    counted = omega (arith, at.counted);
    run = at.run;
    other = at.other;
  }

  by_line : (front : Front) (n : ℕ) (line : Line) (lines : List Line) → is_run input seats front ≡ true
      → (is_run input seats (line ∷ front) ≡ true
      → MatchOption (other_behind input seats (line ∷ front) (suc n) lines) (AreFollowed input seats (line ∷ front) lines) (IsOtherAt input seats (line ∷ front) (suc n) lines))
      → (b : Bool) → is_run input seats (line ∷ front) ≡ b
      → MatchOption (cond b (other_behind input seats (line ∷ front) (suc n) lines) (Some n)) (AreFollowed input seats front (line ∷ lines)) (IsOtherAt input seats front n (line ∷ lines))
  by_line front n line lines run on true is = later line front n lines (other_behind input seats (line ∷ front) (suc n) lines) (on is)
  by_line front n line lines run on false is = record { before = []; line = line; after = lines; are = refl; counted = omega arith; run = run; other = is }

  -- behind a front of a run either all lines are followed, or one is the first with which it is none of a run
  pub followed : (front : Front) (n : ℕ) (lines : List Line) → is_run input seats front ≡ true
      → MatchOption (other_behind input seats front n lines) (AreFollowed input seats front lines) (IsOtherAt input seats front n lines)
  followed front n [] run = run
  followed front n (line ∷ lines) run = by_line front n line lines run (λ is. followed (line ∷ front) (suc n) lines is) (is_run input seats (line ∷ front)) refl

  -- the first lines of a run are a run
  pub run_before : (later before : Front) → is_run input seats (later ++ before) ≡ true → is_run input seats before ≡ true
  run_before [] before run = run
  run_before (line ∷ later) before run =
      let both = and_parts (is_run input seats (later ++ before) && may_follow input (later ++ before) line) _ run in
      run_before later before (and_parts (is_run input seats (later ++ before)) _ both.0).0

  none_other : (front : Front) (n : ℕ) (lines : List Line) → is_run input seats (reverse lines ++ front) ≡ true → other_behind input seats front n lines ≡ None
  none_other front n [] run = refl
  none_other front n (line ∷ lines) run =
      let whole : is_run input seats (reverse lines ++ line ∷ front) ≡ true =
      ap (is_run input seats) (sym (behind_is (line ∷ front) lines) ∙ behind_is front (line ∷ lines)) ∙ run in
      cond-true (is_run input seats (line ∷ front)) (other_behind input seats (line ∷ front) (suc n) lines) (Some n) (run_before (reverse lines) (line ∷ front) whole)
      ∙ none_other (line ∷ front) (suc n) lines whole

  -- of the lines of a run none is such a line
  pub run_followed : (front : Front) (n : ℕ) → is_run input seats front ≡ true → other_behind input seats [] n (reverse front) ≡ None
  run_followed front n run =
      none_other [] n (reverse front) (ap (is_run input seats) (append-nil (reverse (reverse front)) ∙ reverse-reverse front) ∙ run)
