-- How far the lines of a snapshot were followed.
use Rattle.std.proofs.Common.{◌≡◌, ℕ, suc, ◌+◌, true, List, [], ◌∷◌, length, Some, refl, sym, ap, ◌∙◌, subst, arith}
use Rattle.std.specs.Prelude.{reverse}
use Rattle.std.proofs.lemmas.Bool.{cond-true}
use Rattle.std.proofs.lemmas.List.{append-nil}
use Rattle.rail_base.specs.declared.history.Entry.{Entry}
use Rattle.rail_check.proofs.CallerLemmas.{behind_is, taken_line}
use Rattle.rail_engine.specs.Engines.{StandsFor}
use Rattle.rail_history.specs.declared.lines.Lines.{Lines}
use Rattle.rail_history.specs.Lines.{line_of}
use Rattle.rail_history.specs.LinesLeft.{IsNextLine, beside, lines_left}
use Rattle.rail_laws_verdict.specs.Verdicts.{behind}
use Rattle.rail_ledger.specs.declared.input.RunInput.{RunInput}
use Rattle.rail_ledger.specs.declared.ledger.Ledger.{Ledger}
use Rattle.rail_ledger.specs.Inputs.{input_in}
use Rattle.rail_ledger.specs.Ledgers.{line_taken}
use Rattle.rail_policy.specs.Desks.{Table}
use Rattle.rail_rules.specs.Fronts.{Front, Line}
use Rattle.rail_rules.specs.RunHistories.{Seat, is_run}
use Rattle.rail_save.specs.RunLines.{other_behind}

-- the lines up to this number were followed and these are left; the engine stands for the front of those before
pub record IsFollowed (input : RunInput) (seats : List Seat) (all : List Line) (number : ℕ) (left : List Line) (ledger : Ledger) (table : Table) : Type 0 where
  pub front : Front
  pub stands : StandsFor seats front ledger table
  pub input_is : ledger.input ≡ input
  pub other : other_behind (input_in input) seats front (suc number) left ≡ other_behind (input_in input) seats [] 2 all
  pub whole : behind front left ≡ reverse all
  pub counted : number + length left ≡ suc (length all)

-- before the first of them
pub none_followed : (seats : List Seat) (all left : List Line) (ledger : Ledger) (table : Table) → StandsFor seats [] ledger table → left ≡ all → IsFollowed ledger.input seats all 1 left ledger table
none_followed seats all left ledger table stands is = subst (λ (left : List Line). IsFollowed ledger.input seats all 1 left ledger table) (sym is) (record {
  front = [];
  stands = stands;
  input_is = refl;
  other = refl;
  whole = behind_is [] all ∙ append-nil (reverse all);
  counted = omega arith;
})

module _ (input : RunInput) (seats : List Seat) (all : List Line) (number : ℕ) (old : Lines) (ledger : Ledger) (table : Table)
    (so_far : IsFollowed input seats all number (lines_left old) ledger table) (entry : Entry) (trains : List ℕ) (new : Lines) (beside_is : trains ≡ beside new) (next : IsNextLine old entry new) where
  abbrev line : Line
  line = line_of entry (beside new)

  taken_is : line_taken entry trains ≡ line
  taken_is = ap (line_taken entry) beside_is ∙ taken_line entry (beside new) next.brings

  -- the next line was followed
  pub next_followed : (now : Ledger) (after : Table) → now.input ≡ ledger.input → StandsFor seats (line_taken entry trains ∷ so_far.front) now after
      → IsFollowed input seats all (number + 1) (lines_left new) now after
  next_followed now after same stands =
      let front = so_far.front in
      let is : now.input ≡ input = same ∙ so_far.input_is in
      let at : StandsFor seats (line ∷ front) now after = subst (λ (l : Line). StandsFor seats (l ∷ front) now after) taken_is stands in
      let run : is_run (input_in input) seats (line ∷ front) ≡ true = subst (λ (i : RunInput). is_run (input_in i) seats (line ∷ front) ≡ true) is at.run.of_run in
      let one_more : suc number ≡ number + 1 = omega arith in
      subst (λ (n : ℕ). IsFollowed input seats all n (lines_left new) now after) one_more (record {
        front = line ∷ front;
        stands = at;
        input_is = is;
        other = sym (cond-true (is_run (input_in input) seats (line ∷ front)) (other_behind (input_in input) seats (line ∷ front) (suc (suc number)) (lines_left new)) (Some (suc number)) run)
            ∙ sym (ap (other_behind (input_in input) seats front (suc number)) next.next)
            ∙ so_far.other;
        whole = sym (ap (behind front) next.next) ∙ so_far.whole;
        counted = omega (arith, so_far.counted, ap (length {A = Line}) next.next);
      })
