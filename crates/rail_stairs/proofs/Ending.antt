-- Blocking intervals at the end of a lawful history.
use Rattle.std.proofs.Common.{◌≡◌, ℕ, suc, ◌<◌, ◌≤◌, Bool, true, false, cond, List, [], ◌∷◌, length, ⊎_elim, Some, None, refl, sym, ap, ◌∙◌, arith}
use Rattle.std.specs.Prelude.{◌⊎◌, ◌^◌, unwrap_or}
use Rattle.std.proofs.Common.{inl, inr}
use Rattle.std.specs.List.{list_any}
use Rattle.std.proofs.lemmas.Bool.{and_parts, cases_Bool, false≢true}
use Rattle.rail_base.specs.declared.history.Entry.{Entry}
use Rattle.rail_base.specs.declared.history.What.{What}
use Rattle.rail_base.specs.declared.history.What.TheVariants.{Free, End}
use Rattle.rail_rules.specs.Accepted.{is_accepted_input}
use Rattle.rail_rules.specs.Events.{due_lines, enter_line}
use Rattle.rail_rules.specs.Fronts.{Front, Line, admissions, at_time, has_ended, is_admission, is_end, same_entry}
use Rattle.rail_rules.specs.Intervals.{end_time, has_interval, is_open, is_taken_over}
use Rattle.rail_rules.specs.Lawful.{is_complete, is_lawful}
use Rattle.rail_rules.specs.Orders.{Input, is_cancelled, told}
use Rattle.rail_rules.specs.Apart.{IsStep, AreApart}
use Rattle.rail_rules.specs.Apart.AreApart.{one, first, second}
use Rattle.rail_rules.specs.Plant.{Plant, moves, step_section, trains}
use Rattle.rail_rules.specs.Times.{admitted}
use Rattle.rail_rules.proofs.CallerLemmas.{admissions_kept, end_taken, freed_from, taken_parts}
use Rattle.rail_laws_front.specs.EventLines.{IsEvent}
use Rattle.rail_laws_front.specs.EventLines.IsEvent.{entering, freeing}
use Rattle.rail_laws_front.specs.Premises.{IsWellFormed}
use Rattle.rail_laws_front.specs.Views.{Ends, Follows, is_event}
use Rattle.rail_laws_front.specs.Views.Follows.{by_event, by_admission, by_hold, by_end}
use Rattle.rail_laws_front.proofs.CallerLemmas.{go_after_admission, lawful_before, lawful_last, never_overlap, stands_or_due, timely, well_formed_from_accepted}
use Rattle.rail_laws_events.proofs.CallerLemmas.{few_admissions, input_parts, times_below}
use Rattle.rail_laws_step.proofs.CallerLemmas.{interval_lasts}
use Rattle.rail_stairs.specs.EndedIntervals.{AreDisjoint, IsPositive, end_in, interval_in}
use Rattle.rail_stairs.specs.Stairways.{ended_at}

nothing_in : {X : Type 0} (p : X → Bool) (xs : List X) → length xs ≡ 0 → list_any p xs ≡ true → ⊥
nothing_in p [] none is = false≢true is
nothing_in p (x ∷ xs) none is = omega (arith, none)

-- the end line follows as one
ends_line : (input : Input) (line : Line) (before : Front) → is_end line.entry.what ≡ true → Follows input before line → Ends input before line
ends_line input line before is (by_end ends) = ends
ends_line input line before is (by_admission t m note admits) = absurd (false≢true (sym (ap is_end admits.what) ∙ is))
ends_line input line before is (by_hold t m why holds) = absurd (false≢true (sym (ap is_end holds.what) ∙ is))
ends_line input line before is (by_event happens) = absurd (no_event line.entry.what is happens.event)
  where
    no_event : (what : What) → is_end what ≡ true → is_event what ≡ true → ⊥
    no_event End is event = false≢true event
    no_event _ is event = false≢true is

-- when an interval ends, where it is closed
end_closed : (plant : Plant) (front : Front) (t m j : ℕ) → is_open plant t (admissions front t) m j ≡ false
    → end_in front (interval_in plant front t m j) ≡ end_time plant t (admissions front t) m j
end_closed plant front t m j closed =
    ap (λ b. unwrap_or (cond b None (Some (end_time plant t (admissions front t) m j))) (unwrap_or (ended_at front) 0)) closed

module _ (input : Input) (accepted : is_accepted_input input ≡ true) (line : Line) (before : Front) (lawful : is_lawful input (line ∷ before) ≡ true) (is : is_end line.entry.what ≡ true) where
  fine : IsWellFormed input.plant
  fine = well_formed_from_accepted input.plant (input_parts input accepted).0

  earlier : is_lawful input before ≡ true
  earlier = lawful_before input line before lawful

  ends : Ends input before line
  ends = ends_line input line before is (lawful_last input line before lawful)

  -- every event line is past
  past : (t : ℕ) (e : Entry) → t < trains input.plant → IsEvent input.plant t (admissions before t) (is_cancelled t (told input.commands before)) e → e.at ≤ line.entry.at
  past t e known event =
      ⊎_elim
      (λ stood. omega (arith, (timely input fine before earlier).past e stood, ends.now))
      (λ due. absurd (nothing_in (same_entry e) (due_lines input before) ends.nothing_due due))
      (stands_or_due input before t e known event)

  at_end : ended_at (line ∷ before) ≡ Some line.entry.at
  at_end = ap (λ b. cond b (Some line.entry.at) (ended_at before)) is

  small : line.entry.at < 2 ^ 50
  small = times_below input accepted line before lawful

  same : (t : ℕ) → admissions (line ∷ before) t ≡ admissions before t
  same t = admissions_kept line before t (ap is_admission ends.what)

  pub positive : (t m j : ℕ) → IsStep input.plant (line ∷ before) t m j → has_interval input.plant t (admissions (line ∷ before) t) m j ≡ true → IsPositive (line ∷ before) (interval_in input.plant (line ∷ before) t m j)
  positive t m j step there =
      ⊎_elim
      (λ opened.
      let still : end_in front (interval_in plant front t m j) ≡ line.entry.at =
      ap (λ b. unwrap_or (cond b None (Some (end_time plant t adms m j))) (unwrap_or (ended_at front) 0)) opened ∙ ap (λ o. unwrap_or o 0) at_end in
      let entered = past t (enter_line plant t (admissions before t) m 0) step.known (entering m 0 was (fine.some_step t m within) refl) in
      let begun = go_after_admission plant t fine (admissions before t) m within in
      record { positive = omega (arith, still, entered, begun, ap (λ l. admitted l m) (same t)); small = omega (arith, still, small) })
      (λ closed.
      let ended = end_closed plant front t m j closed in
      record {
        positive = omega (arith, ended, interval_lasts input fine front lawful t m j step there);
        small = omega (arith, ended, ap (λ l. end_time plant t l m j) (same t), end_past closed, small);
      })
      (cases_Bool (is_open plant t adms m j))
    where
      plant : Plant
      plant = input.plant

      front : Front
      front = line ∷ before

      adms : List ℕ
      adms = admissions (line ∷ before) t

      was : m < length (admissions before t)
      was = omega (arith, step.admitted_move, ap (length {A = ℕ}) (same t))

      -- an interval that isn't open has ended by the end line: its section was given free, or the next move has taken it over
      end_past : is_open plant t adms m j ≡ false → end_time plant t (admissions before t) m j ≤ line.entry.at
      end_past closed =
          ⊎_elim
          (λ taken. omega (
            arith,
            end_taken plant t (admissions before t) m j taken,
            (timely input fine before earlier).admitted_by t (suc m) (taken_parts plant t (admissions before t) m j taken).more,
            ends.now,
          ))
          (λ untaken. past t (at_time (end_time plant t (admissions before t) m j) (Free (step_section plant t m j) t)) step.known
          (freeing m j was step.step (freed_from plant t (admissions before t) m j (sym (ap (λ l. is_open plant t l m j) (same t)) ∙ closed) untaken) refl))
          (cases_Bool (is_taken_over plant t (admissions before t) m j))

      within : m < moves input.plant t
      within = omega (arith, was, few_admissions input fine before earlier t step.known)

-- at the end of a lawful history
pub positive_at_end : (input : Input) → is_accepted_input input ≡ true → (front : Front) → is_complete input front ≡ true → (t m j : ℕ) → IsStep input.plant front t m j
    → has_interval input.plant t (admissions front t) m j ≡ true → IsPositive front (interval_in input.plant front t m j)
positive_at_end input accepted [] complete t m j step there = absurd (false≢true (and_parts (is_lawful input []) (has_ended []) complete).1)
positive_at_end input accepted (line ∷ before) complete t m j step there =
    let both = and_parts (is_lawful input (line ∷ before)) (has_ended (line ∷ before)) complete in
    positive input accepted line before both.0 both.1 t m j step there

-- and no two of one section overlap
pub disjoint_at_end : (input : Input) → is_accepted_input input ≡ true → (front : Front) → is_lawful input front ≡ true → (t m j u n i : ℕ)
    → IsStep input.plant front t m j → IsStep input.plant front u n i → step_section input.plant t m j ≡ step_section input.plant u n i
    → ((t ≡ u) × (m ≡ n) × (j ≡ i)) ⊎ AreDisjoint front (interval_in input.plant front t m j) (interval_in input.plant front u n i)
disjoint_at_end input accepted front lawful t m j u n i one_step other_step section =
    apart (never_overlap input (well_formed_from_accepted input.plant (input_parts input accepted).0) front lawful t m j u n i one_step other_step section)
  where
    apart : AreApart input.plant front t m j u n i
        → ((t ≡ u) × (m ≡ n) × (j ≡ i)) ⊎ AreDisjoint front (interval_in input.plant front t m j) (interval_in input.plant front u n i)
    apart (one a b c) = inl (a, b, c)
    apart (first ended) = inr (inl (omega (arith, end_closed input.plant front t m j ended.closed, ended.by)))
    apart (second ended) = inr (inr (omega (arith, end_closed input.plant front u n i ended.closed, ended.by)))
