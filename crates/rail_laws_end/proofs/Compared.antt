-- Two run histories from the oldest line on.
use Rattle.std.proofs.Common.{◌≡◌, ◌≤◌, true, not, ◌&&◌, ◌||◌, List, [], ◌∷◌, ◌++◌, length, refl, sym, ap, ◌∙◌, subst, ◌⊎◌, inl, inr, ⊎_elim, arith, append_assoc}
use Rattle.std.proofs.lemmas.Bool.{cases_lt, false≢true, and_parts, and_from, or_cases, not-true}
use Rattle.std.proofs.lemmas.List.{append-nil}
use Rattle.rail_base.specs.declared.history.Entry.{Entry}
use Rattle.rail_base.specs.declared.limits.TheConstants.{TRAINS}
use Rattle.rail_rules.specs.Plant.{trains}
use Rattle.rail_rules.specs.Fronts.{Line, Front, has_ended, is_admission}
use Rattle.rail_rules.specs.Orders.{Input}
use Rattle.rail_rules.specs.Lawful.{is_lawful, may_follow}
use Rattle.rail_rules.specs.RunHistories.{Seat, is_run_line, is_run, is_run_history}
use Rattle.rail_rules.specs.Accepted.{is_accepted}
use Rattle.rail_laws_front.specs.Premises.{IsWellFormed}
use Rattle.rail_laws_front.proofs.CallerLemmas.{viewed, not_ended, well_formed_from_accepted}
use Rattle.rail_rules.proofs.CallerLemmas.{accepted_parts}
use Rattle.rail_laws_end.specs.Forks.{is_built_in, kind_in_force, is_built_in_throughout, are_marks, IsFork}
use Rattle.rail_laws_end.proofs.Steps.{next_lines}

-- the last of some lines
record EndsWith (lines : List Line) : Type 0 where
  before : List Line
  last : Line
  is : lines ≡ before ++ last ∷ []

ends_with : (line : Line) (lines : List Line) → EndsWith (line ∷ lines)
ends_with line [] = record { before = []; last = line; is = refl }
ends_with line (next ∷ lines) =
    let rest : EndsWith (next ∷ lines) = ends_with next lines in
    record { before = line ∷ rest.before; last = rest.last; is = ap (λ xs. line ∷ xs) rest.is }

module _ (input : Input) (fine : IsWellFormed input.plant) (few : trains input.plant ≤ TRAINS) (seats : List Seat) (marks : are_marks seats ≡ true) where
  run_before : (line : Line) (front : Front) → is_run input seats (line ∷ front) ≡ true → is_run input seats front ≡ true
  run_before line front run = (and_parts (is_run input seats front) (may_follow input front line) (and_parts (is_run input seats front && may_follow input front line) (is_run_line input seats front line.entry.what) run).0).0

  run_follows : (line : Line) (front : Front) → is_run input seats (line ∷ front) ≡ true → may_follow input front line ≡ true
  run_follows line front run = (and_parts (is_run input seats front) (may_follow input front line) (and_parts (is_run input seats front && may_follow input front line) (is_run_line input seats front line.entry.what) run).0).1

  run_last : (line : Line) (front : Front) → is_run input seats (line ∷ front) ≡ true → is_run_line input seats front line.entry.what ≡ true
  run_last line front run = (and_parts (is_run input seats front && may_follow input front line) (is_run_line input seats front line.entry.what) run).1

  run_lawful : (front : Front) → is_run input seats front ≡ true → is_lawful input front ≡ true
  run_lawful [] run = refl
  run_lawful (line ∷ front) run =
      let before : is_lawful input front ≡ true = run_lawful front (run_before line front run) in
      and_from (is_lawful input front) (may_follow input front line) before (run_follows line front run)

  run_dropped : (lines : List Line) (front : Front) → is_run input seats (lines ++ front) ≡ true → is_run input seats front ≡ true
  run_dropped [] front run = run
  run_dropped (line ∷ lines) front run = run_dropped lines front (run_before line (lines ++ front) run)

  built_before : (line : Line) (front : Front) → is_built_in_throughout input seats (line ∷ front) ≡ true → is_built_in_throughout input seats front ≡ true
  built_before line front built = (and_parts (is_built_in_throughout input seats front) (not (is_admission line.entry.what) || is_built_in (kind_in_force input seats front)) built).0

  built_dropped : (lines : List Line) (front : Front) → is_built_in_throughout input seats (lines ++ front) ≡ true → is_built_in_throughout input seats front ≡ true
  built_dropped [] front built = built
  built_dropped (line ∷ lines) front built = built_dropped lines front (built_before line (lines ++ front) built)

  built_at : (line : Line) (front : Front) → is_built_in_throughout input seats (line ∷ front) ≡ true → is_admission line.entry.what ≡ true → is_built_in (kind_in_force input seats front) ≡ true
  built_at line front built admission =
      ⊎_elim
      (λ none. absurd (false≢true (sym (not-true (is_admission line.entry.what) none) ∙ admission)))
      (λ is. is)
      (or_cases (not (is_admission line.entry.what)) (is_built_in (kind_in_force input seats front)) (and_parts (is_built_in_throughout input seats front) (not (is_admission line.entry.what) || is_built_in (kind_in_force input seats front)) built).1)

  -- the shorter of two runs is the older part of the longer one, or they part
  compare : (f g : Front) → is_run input seats f ≡ true → is_run input seats g ≡ true → (is_built_in_throughout input seats f ≡ true) ⊎ (is_built_in_throughout input seats g ≡ true) → length f ≤ length g → ((lines : List Line) × (g ≡ lines ++ f)) ⊎ IsFork f g
  compare [] g run_f run_g built long = inl (g, sym (append-nil g))
  compare (a ∷ f) g run_f run_g built long =
      let less_built : (is_built_in_throughout input seats f ≡ true) ⊎ (is_built_in_throughout input seats g ≡ true) =
      ⊎_elim (λ of_f. inl (built_before a f of_f)) (λ of_g. inr of_g) built in
      step (compare f g (run_before a f run_f) run_g less_built (omega (arith, long)))
    where
      at_lines : (lines : List Line) → g ≡ lines ++ f → ((more : List Line) × (g ≡ more ++ a ∷ f)) ⊎ IsFork (a ∷ f) g
      at_lines [] is = absurd (omega (arith, long, ap (length {A = Line}) is))
      at_lines (line ∷ lines) is =
          let last : EndsWith (line ∷ lines) = ends_with line lines in
          let b : Line = last.last in
          let whole : g ≡ last.before ++ b ∷ f = is ∙ ap (λ xs. xs ++ f) last.is ∙ append_assoc last.before (b ∷ []) f in
          let P : Front → Type 0 = λ h. is_run input seats h ≡ true in
          let Q : Front → Type 0 = λ h. is_built_in_throughout input seats h ≡ true in
          let run_b : is_run input seats (b ∷ f) ≡ true = run_dropped last.before (b ∷ f) (subst P whole run_g) in
          ⊎_elim
          (λ one. inl (last.before, whole ∙ ap (λ (x : Line). last.before ++ x ∷ f) (sym one)))
          (λ forked. inr (record { common = f; line = a; other = b; later = []; other_later = last.before; of_first = refl; of_second = whole; forked = forked }))
          (next_lines input fine few seats marks f (run_lawful f (run_before a f run_f)) a b
          (viewed input f a (run_follows a f run_f)) (viewed input f b (run_follows b f run_b)) (run_last a f run_f) (run_last b f run_b)
          (λ admits_a admits_b. ⊎_elim (λ of_f. built_at a f of_f admits_a) (λ of_g. built_at b f (built_dropped last.before (b ∷ f) (subst Q whole of_g)) admits_b) built))

      step : ((lines : List Line) × (g ≡ lines ++ f)) ⊎ IsFork f g → ((more : List Line) × (g ≡ more ++ a ∷ f)) ⊎ IsFork (a ∷ f) g
      step (inl part) = at_lines part.0 part.1
      step (inr fork) = inr (record {
        common = fork.common;
        line = fork.line;
        other = fork.other;
        later = a ∷ fork.later;
        other_later = fork.other_later;
        of_first = ap (λ xs. a ∷ xs) fork.of_first;
        of_second = fork.of_second;
        forked = fork.forked;
      })

  -- nothing follows a history that has ended
  same_end : (f g : Front) (lines : List Line) → is_run input seats g ≡ true → has_ended f ≡ true → g ≡ lines ++ f → g ≡ f
  same_end f g [] run_g ended is = is
  same_end f g (line ∷ lines) run_g ended is =
      let last : EndsWith (line ∷ lines) = ends_with line lines in
      let b : Line = last.last in
      let P : Front → Type 0 = λ h. is_run input seats h ≡ true in
      let run_b : is_run input seats (b ∷ f) ≡ true = run_dropped last.before (b ∷ f) (subst P (is ∙ ap (λ xs. xs ++ f) last.is ∙ append_assoc last.before (b ∷ []) f) run_g) in
      absurd (false≢true (sym (not_ended input f b (run_follows b f run_b)) ∙ ended))

  turned : (f g : Front) → IsFork g f → IsFork f g
  turned f g fork = record {
    common = fork.common;
    line = fork.other;
    other = fork.line;
    later = fork.other_later;
    other_later = fork.later;
    of_first = fork.of_second;
    of_second = fork.of_first;
    forked = record {
      train = fork.forked.train;
      move = fork.forked.move;
      fresh = sym (ap (λ (e : Entry). e.what) fork.forked.same) ∙ fork.forked.fresh;
      same = sym fork.forked.same;
      different = λ equal. fork.forked.different (sym equal);
    };
  }

  one_history : (f g : Front) → is_run_history input seats f ≡ true → is_run_history input seats g ≡ true → is_built_in_throughout input seats f ≡ true → (f ≡ g) ⊎ IsFork f g
  one_history f g hf hg built =
      let of_f = and_parts (is_run input seats f) (has_ended f) hf in
      let of_g = and_parts (is_run input seats g) (has_ended g) hg in
      ⊎_elim
      (λ shorter. ⊎_elim
      (λ part. inl (same_end g f part.0 of_f.0 of_g.1 part.1))
      (λ fork. inr (turned f g fork))
      (compare g f of_g.0 of_f.0 (inr built) (omega (arith, shorter))))
      (λ longer. ⊎_elim
      (λ part. inl (sym (same_end f g part.0 of_g.0 of_f.1 part.1)))
      (λ fork. inr fork)
      (compare f g of_f.0 of_g.0 (inl built) longer))
      (cases_lt (length g) (length f))

pub one_run : (input : Input) → is_accepted input.plant ≡ true → (seats : List Seat) → are_marks seats ≡ true → (f g : Front) → is_run_history input seats f ≡ true → is_run_history input seats g ≡ true → is_built_in_throughout input seats f ≡ true → (f ≡ g) ⊎ IsFork f g
one_run input accepted seats marks = one_history input (well_formed_from_accepted input.plant accepted) (accepted_parts input.plant accepted).few_trains seats marks
