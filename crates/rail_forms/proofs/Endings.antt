-- What holds at the end of a run.
use Rattle.std.proofs.Common.{◌≡◌, ◌⊎◌, ℕ, zero, suc, ◌+◌, ◌<◌, Bool, true, false, not, ◌||◌, List, [], ◌∷◌, ◌++◌, filter, length, refl, sym, ap, ◌∙◌, subst, ⊎_elim, arith}
use Rattle.std.specs.Cmp.Lexicographic.{bytes_decides}
use Rattle.std.proofs.lemmas.Bool.{and_parts, and_from, cond-false, false≢true, not_from_true, or_left, or_right}
use Rattle.std.proofs.lemmas.List.Elements.{filter-append}
use Rattle.rail_base.specs.declared.history.What.{What}
use Rattle.rail_base.specs.declared.history.What.TheVariants.{Free, Arrive, Enter, Out, Ready, Told, Untold, Admit, Hold, End}
use Rattle.rail_laws_end.specs.Barred.{LeadsToBarred, Remains}
use Rattle.rail_laws_end.proofs.CallerLemmas.{complete_bound, complete_out, leads_to_barred}
use Rattle.rail_laws_events.proofs.CallerLemmas.{input_parts}
use Rattle.rail_laws_front.specs.Premises.{IsWellFormed}
use Rattle.rail_laws_front.proofs.CallerLemmas.{well_formed_from_accepted}
use Rattle.rail_laws_step.proofs.CallerLemmas.{run_lawful}
use Rattle.rail_rules.specs.Accepted.{is_accepted_input}
use Rattle.rail_rules.specs.Fronts.{Front, Line, has_ended, is_end, lines_beside_holds}
use Rattle.rail_rules.specs.LineCounts.{taken_over}
use Rattle.rail_rules.specs.Lawful.{is_complete, is_lawful, is_out, is_out_line, may_follow_as, remaining}
use Rattle.rail_rules.specs.Numbers.{listed, same_numbers}
use Rattle.rail_rules.specs.Orders.{Input, is_cancelled, is_closed, is_stopped, orders_of, told}
use Rattle.rail_rules.specs.Plant.{bound, trains}
use Rattle.rail_rules.specs.RunHistories.{Seat, is_run, is_run_history}
use Rattle.rail_forms.specs.Runs.{IsFinished, NothingIsBarred}
use Rattle.rail_forms.proofs.Barring.{nobody_cancelled, nothing_bars}
use Rattle.rail_forms.proofs.Histories.{last_line}

-- the train is out or cancelled
abbrev HasGone : Input → Front → ℕ → Type 0
HasGone input front t = (is_out front t ≡ true) ⊎ (is_cancelled t (told input.commands front) ≡ true)

-- where each train is out or cancelled, nobody remains
none_remain : (input : Input) (front : Front) → ((t : ℕ) → t < trains input.plant → HasGone input front t) → remaining input front ≡ []
none_remain input front gone = below (trains input.plant) gone
  where
    below : (n : ℕ) → ((t : ℕ) → t < n → HasGone input front t) → filter (λ t. not (is_out front t || is_cancelled t (told input.commands front))) (listed (λ t. t) n) ≡ []
    below zero gone = refl
    below (suc n) gone =
        let test : ℕ → Bool = λ t. not (is_out front t || is_cancelled t (told input.commands front)) in
        let leaves : test n ≡ false = not_from_true (is_out front n || is_cancelled n (told input.commands front))
        (⊎_elim
        (λ out. or_left (is_out front n) (is_cancelled n (told input.commands front)) out)
        (λ cancelled. or_right (is_out front n) (is_cancelled n (told input.commands front)) cancelled)
        (gone n (omega arith))) in
        filter-append test (listed (λ t. t) n) (n ∷ [])
        ∙ ap (λ (ts : List ℕ). ts ++ filter test (n ∷ [])) (below n (λ t lt. gone t (omega (arith, lt))))
        ∙ cond-false (test n) (n ∷ []) [] leaves

end_line : (what : What) → is_end what ≡ true → what ≡ End
end_line (Free x t) h = absurd (false≢true h)
end_line (Arrive t m) h = absurd (false≢true h)
end_line (Enter t m x) h = absurd (false≢true h)
end_line (Out t) h = absurd (false≢true h)
end_line (Ready t m) h = absurd (false≢true h)
end_line (Told k) h = absurd (false≢true h)
end_line (Untold k) h = absurd (false≢true h)
end_line (Admit t m note) h = absurd (false≢true h)
end_line (Hold t m why) h = absurd (false≢true h)
end_line End h = refl

-- an end line names those that remain, before it and so behind it
names_remaining : (input : Input) (line : Line) (before : Front) → line.entry.what ≡ End → may_follow_as input before line End ≡ true → line.trains ≡ remaining input (line ∷ before)
names_remaining input line before is may =
    (bytes_decides line.trains (remaining input before)).0 (and_parts _ (same_numbers line.trains (remaining input before)) may).1
    ∙ ap (λ (what : What). filter (λ t. not ((is_out_line t what || is_out before t) || is_cancelled t (orders_of input.commands what ++ told input.commands before))) (listed (λ t. t) (trains input.plant))) (sym is)

-- nothing was told where there is no command
orders_none : (what : What) → orders_of [] what ≡ []
orders_none (Free x t) = refl
orders_none (Arrive t m) = refl
orders_none (Enter t m x) = refl
orders_none (Out t) = refl
orders_none (Ready t m) = refl
orders_none (Told k) = refl
orders_none (Untold k) = refl
orders_none (Admit t m note) = refl
orders_none (Hold t m why) = refl
orders_none End = refl

told_none : (front : Front) → told [] front ≡ []
told_none [] = refl
told_none (line ∷ front) = rw (orders_none line.entry.what, told_none front) refl

-- so without commands nothing is barred, and no train is cancelled
module _ (input : Input) (none : input.commands ≡ []) (front : Front) where
  nothing_told : told input.commands front ≡ []
  nothing_told = ap (λ commands. told commands front) none ∙ told_none front

  free_without : NothingIsBarred input front
  free_without = record {
    opened = λ x _. ap (is_closed x) nothing_told;
    going = λ t _. ap (is_stopped t) nothing_told;
  }

  running_without : (t : ℕ) → is_cancelled t (told input.commands front) ≡ false
  running_without t = ap (is_cancelled t) nothing_told

-- who has left at the end, and how many lines there are
module _ (input : Input) (ok : is_accepted_input input ≡ true) (front : Front) (complete : is_complete input front ≡ true) where
  fine : IsWellFormed input.plant
  fine = well_formed_from_accepted input.plant (input_parts input ok).0

  -- each train that remains leads to one that an order bars
  all_barred : (t : ℕ) → Remains input front t → LeadsToBarred input front t (trains input.plant)
  all_barred = leads_to_barred input fine front complete

  -- where nothing is barred each train is out or cancelled
  all_gone : NothingIsBarred input front → (t : ℕ) → t < trains input.plant → HasGone input front t
  all_gone free = complete_out input fine front complete (nothing_bars input ok front free)

  -- where moreover no train is cancelled there are as many lines as the bound says, but for what was taken over
  exact_lines : NothingIsBarred input front → ((t : ℕ) → t < trains input.plant → is_cancelled t (told input.commands front) ≡ false) → lines_beside_holds front + taken_over input.plant front ≡ bound input.plant (length input.commands)
  exact_lines free running = complete_bound input fine front complete (nothing_bars input ok front free) (nobody_cancelled input ok front running)

  -- so without commands every train is out
  all_out : input.commands ≡ [] → (t : ℕ) → t < trains input.plant → is_out front t ≡ true
  all_out none t lt =
      ⊎_elim
      (λ out. out)
      (λ cancelled. absurd (false≢true (sym (running_without input none front t) ∙ cancelled)))
      (all_gone (free_without input none front) t lt)

  -- and there are as many lines as the bound says
  lines_without : input.commands ≡ [] → lines_beside_holds front + taken_over input.plant front ≡ bound input.plant 0
  lines_without none = exact_lines (free_without input none front) (λ t _. running_without input none front t) ∙ ap (λ commands. bound input.plant (length commands)) none

-- what holds at the end of each run
pub finished_run : (input : Input) (seats : List Seat) → is_accepted_input input ≡ true → (front : Front) → is_run_history input seats front ≡ true → IsFinished input front
finished_run input seats ok [] history = absurd (false≢true (and_parts true false history).1)
finished_run input seats ok (line ∷ before) history =
    let front : Front = line ∷ before in
    let both = and_parts (is_run input seats front) (has_ended front) history in
    let complete : is_complete input front ≡ true = and_from (is_lawful input front) (has_ended front) (run_lawful input seats front both.0) both.1 in
    let is : line.entry.what ≡ End = end_line line.entry.what both.1 in
    let may : may_follow_as input before line End ≡ true = subst (λ (what : What). may_follow_as input before line what ≡ true) is (last_line input seats line before both.0).0 in
    let names : line.trains ≡ remaining input front = names_remaining input line before is may in
    record {
      last = line;
      before = before;
      is_last = refl;
      is_end = is;
      names = names;
      barred = all_barred input ok front complete;
      nobody = λ free. names ∙ none_remain input front (all_gone input ok front complete free);
      left = all_gone input ok front complete;
      exact = exact_lines input ok front complete;
      all_left = all_out input ok front complete;
      all_lines = lines_without input ok front complete;
    }
