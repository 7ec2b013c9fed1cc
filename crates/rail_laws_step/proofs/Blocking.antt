-- At a decision the holders are the blockers.
use Rattle.std.proofs.Common.{◌≡◌, ℕ, zero, suc, ◌+◌, ◌<◌, ◌≤◌, Bool, true, false, not, ◌&&◌, ◌||◌, cond, eqb, ltb, leb, List, [], ◌∷◌, length, get_or, Option, Some, None, refl, sym, ap, ◌∙◌, subst, ⊎_elim, arith}
use Rattle.std.specs.List.{list_any}
use Rattle.std.specs.Option.{option_map}
use Rattle.std.proofs.lemmas.Bool.{or_left, or_right, or_from, and_parts, and_from, and_left, and_right, cases_Bool, cases_eq, cases_lt, cond-true, cond-false, eqb-true, eq-eqb, not_from_true, not_from_false, false_from_ne_true, ne_eqb, leb-true, le-leb, lt-ltb, le-ltb, false≢true, not-true}
use Rattle.rail_base.specs.declared.history.Cause.TheVariants.{Blocked}
use Rattle.rail_base.specs.declared.history.Entry.{Entry}
use Rattle.rail_rules.specs.Accepted.{is_accepted}
use Rattle.rail_rules.specs.Numbers.{any_below, first_below, is_in, or_else, sum_below}
use Rattle.rail_rules.specs.Orders.{Input}
use Rattle.rail_rules.specs.Plant.{Plant, moves, steps, claims, step_section, trains}
use Rattle.rail_rules.specs.Fronts.{Front, admissions, instant, stands}
use Rattle.rail_rules.specs.Times.{admitted, is_admitted}
use Rattle.rail_rules.specs.Intervals.{barring, bars, blocks, contains_instant, does_stand, end_time, is_open, is_taken_over}
use Rattle.rail_rules.specs.Apart.{AreApart, HasEnded, IsStep}
use Rattle.rail_rules.specs.Apart.AreApart.{one, first, second}
use Rattle.rail_rules.proofs.CallerLemmas.{any_below_found, any_below_from, end_taken, last_not_taken, taken_parts}
use Rattle.rail_rules.specs.Events.{due_lines}
use Rattle.rail_rules.specs.Causes.{blocked_cause, blocker, is_deciding, place}
use Rattle.rail_rules.specs.Lawful.{is_lawful}
use Rattle.rail_laws_front.specs.Premises.{IsWellFormed}
use Rattle.rail_laws_front.proofs.CallerLemmas.{well_formed_from_accepted, bars_claimed, needed_bars, other_bars, never_overlap, end_after_begin, deciding_quiet, same_entry_refl, stands_or_due, same_time, timely, both_found}
use Rattle.rail_laws_front.specs.Invariant.{IsTimely}
use Rattle.rail_laws_events.specs.Accounts.{is_train_event, tally, to_come, written}
use Rattle.rail_laws_events.proofs.CallerLemmas.{account, few_admissions, tally-append}
use Rattle.rail_laws_step.specs.HolderTables.{AreHolders, bar_holder, frees, held_cause, is_train, own_overlap, taken}
use Rattle.rail_laws_step.proofs.Owning.{admissions_rise, own_barring, own_step, step_own}
use Rattle.rail_laws_step.proofs.Amounts.{sum-none, sum-some, sum-two}
use Rattle.rail_laws_step.proofs.Frees.{all_freed, freed, freed_one, frees_by}
use Rattle.rail_laws_step.specs.LinesToCome.{ToCome}
use Rattle.rail_laws_step.proofs.Coming.{to_come_found}
use Rattle.rail_laws_front.specs.EventLines.{IsEvent}
use Rattle.rail_laws_front.specs.EventLines.IsEvent.{entering, arriving, freeing, leaving, readying}
use Rattle.rail_rules.specs.Fronts.{same_entry}
use Rattle.rail_rules.specs.Orders.{is_cancelled, told}

-- the lines written pass the one test where they pass the other
pub written_same : (p q : Entry → Bool) (front : Front) → ((e : Entry) → stands front e ≡ true → p e ≡ q e) → tally p (written front) ≡ tally q (written front)
written_same p q [] same = refl
written_same p q (line ∷ front) same =
    omega (
      arith,
      tally-append p (cond (is_train_event line.entry.what) (line.entry ∷ []) []) (written front),
      tally-append q (cond (is_train_event line.entry.what) (line.entry ∷ []) []) (written front),
      written_same p q front (λ e stood. same e (or_right (same_entry e line.entry) (stands front e) stood)),
      here (is_train_event line.entry.what),
    )
  where
    this : p line.entry ≡ q line.entry
    this = same line.entry (or_left (same_entry line.entry line.entry) (stands front line.entry) (same_entry_refl line.entry))

    here : (b : Bool) → tally p (cond b (line.entry ∷ []) []) ≡ tally q (cond b (line.entry ∷ []) [])
    here true = ap {B = ℕ} (λ c. cond c 1 0 + 0) this
    here false = refl

first_none : (test : ℕ → Bool) (n : ℕ) → ((u : ℕ) → u < n → test u ≡ false) → first_below test n ≡ None
first_none test zero none = refl
first_none test (suc n) none =
    ap (λ o. or_else o (cond (test n) (Some n) None)) (first_none test n (λ u lt. none u (omega (arith, lt))))
    ∙ cond-false (test n) (Some n) None (none n (omega arith))

first_only : (test : ℕ → Bool) (n v : ℕ) → v < n → test v ≡ true → ((u : ℕ) → u < n → (u ≡ v → ⊥) → test u ≡ false) → first_below test n ≡ Some v
first_only test zero v lt is others = absurd (omega (arith, lt))
first_only test (suc n) v lt is others =
    ⊎_elim
    (λ below. ap (λ o. or_else o (cond (test n) (Some n) None)) (first_only test n v below is (λ u lu ne. others u (omega (arith, lu)) ne)))
    (λ above.
    let here : v ≡ n = omega (arith, lt, above) in
    ap (λ o. or_else o (cond (test n) (Some n) None)) (first_none test n (λ u lu. others u (omega (arith, lu)) (λ e. omega (arith, lu, e, here))))
    ∙ cond-true (test n) (Some n) None (subst (λ k. test k ≡ true) here is)
    ∙ ap Some (sym here))
    (cases_lt v n)

-- a free line is an event line whether or not its train is cancelled
free_event : (plant : Plant) (t : ℕ) (adms : List ℕ) (c : Bool) (e : Entry) (x u : ℕ) → frees x u e ≡ true → IsEvent plant t adms false e → IsEvent plant t adms c e
free_event plant t adms c e x u frees_it (freeing m j lm lj freed is) = freeing m j lm lj freed is
free_event plant t adms c e x u frees_it (entering m j lm lj is) = entering m j lm lj is
free_event plant t adms c e x u frees_it (arriving m lm is) = arriving m lm is
free_event plant t adms c e x u frees_it (leaving m lm last is) = leaving m lm last is
free_event plant t adms c e x u frees_it (readying m lm left runs is) = absurd (false≢true (sym (ap (frees x u) is) ∙ frees_it))

module _ (input : Input) (accepted : is_accepted input.plant ≡ true) (front : Front) (lawful : is_lawful input front ≡ true) (deciding : is_deciding input front ≡ true) (h : List (Option ℕ)) (are : AreHolders input.plant front h) where
  fine : IsWellFormed input.plant
  fine = well_formed_from_accepted input.plant accepted

  time : IsTimely input front
  time = timely input fine front lawful

  abbrev past : ℕ → Bool
  past n = leb n (instant front)

  -- no free line is still to come at the instant or before
  none_late : (x t : ℕ) → tally (frees_by x t past) (to_come input.plant front) ≡ 0
  none_late x t =
      ⊎_elim
      (λ some.
      let found : ToCome input.plant front (frees_by x t past) = to_come_found input.plant front (frees_by x t past) some in
      let parts = and_parts (frees x t found.entry) (past found.entry.at) found.passes in
      let is_event = free_event input.plant found.train (admissions front found.train) (is_cancelled found.train (told input.commands front)) found.entry x t parts.0 found.event in
      absurd (late found.entry found.train found.known is_event found.fresh (leb-true found.entry.at (instant front) parts.1)))
      (λ none. omega (arith, none))
      (cases_lt 0 (tally (frees_by x t past) (to_come input.plant front)))
    where
      late : (e : Entry) (u : ℕ) → u < trains input.plant → IsEvent input.plant u (admissions front u) (is_cancelled u (told input.commands front)) e → stands front e ≡ false → e.at ≤ instant front → ⊥
      late e u known is_event fresh le =
          ⊎_elim
          (λ stood. false≢true (sym fresh ∙ stood))
          (λ going.
          let now : e.at ≡ instant front = omega (arith, le, going) in
          let quiet : list_any (λ (d : Entry). eqb d.at (instant front)) (due_lines input front) ≡ false = not-true (list_any (λ (d : Entry). eqb d.at (instant front)) (due_lines input front)) (deciding_quiet input front deciding) in
          ⊎_elim
          (λ stood. false≢true (sym fresh ∙ stood))
          (λ due. false≢true (sym quiet ∙ both_found (same_entry e) (λ (d : Entry). eqb d.at (instant front)) (due_lines input front) due (λ d same. eq-eqb d.at (instant front) (sym (same_time e d same) ∙ now))))
          (stands_or_due input front u e known is_event))
          (time.events u e known is_event)

  abbrev inside : ℕ → ℕ → ℕ → ℕ → ℕ
  inside t x m j = cond ((eqb (step_section input.plant t m j) x) && contains_instant input.plant t (admissions front t) m j (instant front)) 1 0

  -- how many intervals of the train on the section contain the instant
  abbrev containing : ℕ → ℕ → ℕ
  containing t x = sum_below (λ m. sum_below (inside t x m) (claims input.plant t m)) (length (admissions front t))

  -- each interval that isn't taken over has its free line, or contains the instant
  one_interval : (t x m j : ℕ) → m < length (admissions front t) → cond (eqb (step_section input.plant t m j) x && not (is_taken_over input.plant t (admissions front t) m j)) 1 0 ≡ freed_one input.plant t (admissions front t) x past m j + inside t x m j
  one_interval t x m j lm =
      of (eqb (step_section input.plant t m j) x) (is_taken_over input.plant t (admissions front t) m j) (is_open input.plant t (admissions front t) m j) (leb (end_time input.plant t (admissions front t) m j) (instant front)) (ltb (instant front) (end_time input.plant t (admissions front t) m j)) (leb (admitted (admissions front t) m) (instant front))
      (le-leb (admitted (admissions front t) m) (instant front) (time.admitted_by t m lm))
      (λ ended. le-ltb (instant front) (end_time input.plant t (admissions front t) m j) (leb-true (end_time input.plant t (admissions front t) m j) (instant front) ended))
      (λ running. lt-ltb (instant front) (end_time input.plant t (admissions front t) m j) (not_le running))
      taken_closed
      taken_ended
    where
      not_le : leb (end_time input.plant t (admissions front t) m j) (instant front) ≡ false → instant front < end_time input.plant t (admissions front t) m j
      not_le unended = ⊎_elim (λ lt. lt) (λ ge. absurd (false≢true (sym unended ∙ le-leb (end_time input.plant t (admissions front t) m j) (instant front) (omega (arith, ge))))) (cases_lt (instant front) (end_time input.plant t (admissions front t) m j))

      taken_closed : is_taken_over input.plant t (admissions front t) m j ≡ true → is_open input.plant t (admissions front t) m j ≡ false
      taken_closed taken = and_right (does_stand input.plant t m j) (not (is_admitted (admissions front t) (suc m))) (not_from_true (is_admitted (admissions front t) (suc m)) (lt-ltb (suc m) (length (admissions front t)) (taken_parts input.plant t (admissions front t) m j taken).more))

      taken_ended : is_taken_over input.plant t (admissions front t) m j ≡ true → ltb (instant front) (end_time input.plant t (admissions front t) m j) ≡ false
      taken_ended taken = le-ltb (instant front) (end_time input.plant t (admissions front t) m j) (omega (
        arith,
        end_taken input.plant t (admissions front t) m j taken,
        time.admitted_by t (suc m) (taken_parts input.plant t (admissions front t) m j taken).more,
      ))

      of : (here taken_there open_still ended running begun : Bool) → begun ≡ true → (ended ≡ true → running ≡ false) → (ended ≡ false → running ≡ true)
          → (taken_there ≡ true → open_still ≡ false) → (taken_there ≡ true → running ≡ false)
          → cond (here && not taken_there) 1 0 ≡ cond (open_still || taken_there) 0 (cond (here && ended) 1 0) + cond (here && (begun && (open_still || running))) 1 0
      of here taken_there open_still ended running false b r s c d = absurd (false≢true b)
      of true true true ended running true b r s c d = absurd (false≢true (sym (c refl)))
      of true true false ended running true b r s c d = ap {B = ℕ} (λ k. cond k 1 0) (sym (d refl)) ∙ omega arith
      of false true true ended running true b r s c d = refl
      of false true false ended running true b r s c d = refl
      of true false true ended running true b r s c d = refl
      of false false true ended running true b r s c d = refl
      of true false false true running true b r s c d = ap {B = ℕ} (λ k. 1 + cond k 1 0) (sym (r refl)) ∙ omega arith
      of true false false false running true b r s c d = ap {B = ℕ} (λ k. cond k 1 0) (sym (s refl)) ∙ omega arith
      of false false false ended running true b r s c d = refl

  taken_is : (t x : ℕ) → taken input.plant t (admissions front t) x ≡ freed input.plant t (admissions front t) x past + containing t x
  taken_is t x =
      let took : ℕ → ℕ → ℕ = λ m j. cond (eqb (step_section input.plant t m j) x && not (is_taken_over input.plant t (admissions front t) m j)) 1 0 in
      sum-two (λ m. sum_below (took m) (claims input.plant t m)) (λ m. sum_below (freed_one input.plant t (admissions front t) x past m) (claims input.plant t m)) (λ m. sum_below (inside t x m) (claims input.plant t m)) (length (admissions front t))
      (λ m lm. sum-two (took m) (freed_one input.plant t (admissions front t) x past m) (inside t x m) (claims input.plant t m) (λ j lj. one_interval t x m j lm))

  holds_one : (t x : ℕ) → t < trains input.plant → cond (is_train t (get_or h x None)) 1 0 ≡ containing t x
  holds_one t x known =
      omega (
        arith,
        are.each t x known,
        taken_is t x,
        all_freed input.plant front x t past known,
        account input fine front lawful (frees_by x t past),
        none_late x t,
        written_same (frees x t) (frees_by x t past) front (λ e stood. with_past (frees x t e) (past e.at) (le-leb e.at (instant front) (time.past e stood))),
      )
    where
      with_past : (a b : Bool) → b ≡ true → a ≡ (a && b)
      with_past true b is = sym is
      with_past false b is = refl

  pub blocks_is : (t x : ℕ) → t < trains input.plant → blocks input.plant t (admissions front t) x (instant front) ≡ is_train t (get_or h x None)
  blocks_is t x known =
      ⊎_elim
      (λ some. some ∙ sym (held (omega (
        arith,
        holds_one t x known,
        sum-some (λ m. any_below (test m) (claims input.plant t m)) (λ m. sum_below (inside t x m) (claims input.plant t m)) (length (admissions front t))
            (λ m lm any. sum-some (test m) (inside t x m) (claims input.plant t m) (λ j lj is. omega (arith, cond-true {A = ℕ} (test m j) 1 0 is)) any) some,
      ))))
      (λ none. none ∙ sym (unheld (omega (
        arith,
        holds_one t x known,
        sum-none (λ m. any_below (test m) (claims input.plant t m)) (λ m. sum_below (inside t x m) (claims input.plant t m)) (length (admissions front t))
            (λ m lm no_any. sum-none (test m) (inside t x m) (claims input.plant t m) (λ j lj is. cond-false {A = ℕ} (test m j) 1 0 is) no_any) none,
      ))))
      (cases_Bool (blocks input.plant t (admissions front t) x (instant front)))
    where
      test : ℕ → ℕ → Bool
      test m j = (eqb (step_section input.plant t m j) x) && contains_instant input.plant t (admissions front t) m j (instant front)

      held : 0 < cond (is_train t (get_or h x None)) 1 0 → is_train t (get_or h x None) ≡ true
      held lt = ⊎_elim (λ yes_held. yes_held) (λ no_held. absurd (omega (arith, lt, cond-false {A = ℕ} (is_train t (get_or h x None)) 1 0 no_held))) (cases_Bool (is_train t (get_or h x None)))

      unheld : ◌≡◌ {A = ℕ} (cond (is_train t (get_or h x None)) 1 0) 0 → is_train t (get_or h x None) ≡ false
      unheld zero_held = ⊎_elim (λ yes_held. absurd (omega (arith, zero_held, cond-true {A = ℕ} (is_train t (get_or h x None)) 1 0 yes_held))) (λ no_held. no_held) (cases_Bool (is_train t (get_or h x None)))

  -- an interval that has ended contains the instant no more
  ended_apart : (t m j at : ℕ) → HasEnded input.plant t (admissions front t) m j at → at ≤ instant front → contains_instant input.plant t (admissions front t) m j (instant front) ≡ false
  ended_apart t m j at e by =
      let running : Bool = ltb (instant front) (end_time input.plant t (admissions front t) m j) in
      and_right (leb (admitted (admissions front t) m) (instant front)) (is_open input.plant t (admissions front t) m j || running)
      (or_from (is_open input.plant t (admissions front t) m j) running e.closed (le-ltb (instant front) (end_time input.plant t (admissions front t) m j) (omega (arith, e.by, by))))

  -- one interval of a section at most contains the instant
  one_containing : (t m j n i : ℕ) → IsStep input.plant front t m j → IsStep input.plant front t n i → step_section input.plant t m j ≡ step_section input.plant t n i
      → contains_instant input.plant t (admissions front t) m j (instant front) ≡ true
      → contains_instant input.plant t (admissions front t) n i (instant front) ≡ true → (m ≡ n) × (j ≡ i)
  one_containing t m j n i first_step second_step same c d = decide (never_overlap input fine front lawful t m j t n i first_step second_step same)
    where
      decide : AreApart input.plant front t m j t n i → (m ≡ n) × (j ≡ i)
      decide (one a b e) = (b, e)
      decide (first e) = absurd (false≢true (sym (ended_apart t m j (admitted (admissions front t) n) e (time.admitted_by t n second_step.admitted_move)) ∙ c))
      decide (second e) = absurd (false≢true (sym (ended_apart t n i (admitted (admissions front t) m) e (time.admitted_by t m first_step.admitted_move)) ∙ d))

  -- where a train blocks a section of the overlap of its last admitted move, it is this overlap that contains the instant
  pub own_contains : (t m j : ℕ) → IsStep input.plant front t m j → suc m ≡ place front t → steps input.plant t m ≤ j
      → blocks input.plant t (admissions front t) (step_section input.plant t m j) (instant front) ≡ true
      → contains_instant input.plant t (admissions front t) m j (instant front) ≡ true
  own_contains t m j step last over some =
      let adms : List ℕ = admissions front t in
      let x : ℕ = step_section input.plant t m j in
      let inner : ℕ → ℕ → Bool = λ n i. eqb (step_section input.plant t n i) x && contains_instant input.plant t adms n i (instant front) in
      let at_move = any_below_found (λ n. any_below (inner n) (claims input.plant t n)) (length adms) some in
      let n : ℕ = at_move.0 in
      let at_step = any_below_found (inner n) (claims input.plant t n) at_move.2 in
      let i : ℕ = at_step.0 in
      let both = and_parts (eqb (step_section input.plant t n i) x) (contains_instant input.plant t adms n i (instant front)) at_step.2 in
      let other : IsStep input.plant front t n i = record { known = step.known; admitted_move = at_move.1; step = at_step.1 } in
      decide n i both.1 at_move.1 (never_overlap input fine front lawful t m j t n i step other (sym (eqb-true (step_section input.plant t n i) x both.0)))
    where
      room : m < moves input.plant t
      room = omega (arith, step.admitted_move, few_admissions input fine front lawful t step.known)

      decide : (n i : ℕ) → contains_instant input.plant t (admissions front t) n i (instant front) ≡ true → n < length (admissions front t) → AreApart input.plant front t m j t n i → contains_instant input.plant t (admissions front t) m j (instant front) ≡ true
      decide n i c ln (one a b e) =
          let P : ℕ → ℕ → Type 0 = λ k l. contains_instant input.plant t (admissions front t) k l (instant front) ≡ true in
          let Q : ℕ → Type 0 = λ k. P k i in
          let R : ℕ → Type 0 = λ l. P m l in
          subst R (sym e) (subst Q (sym b) c)
      decide n i c ln (first e) =
          absurd (omega (
            arith,
            e.by,
            admissions_rise input fine front lawful t n m (omega (arith, ln, last)) step.admitted_move,
            end_after_begin input.plant t fine (admissions front t) m j room (last_not_taken input.plant t (admissions front t) m j (omega (arith, last))),
          ))
      decide n i c ln (second e) = absurd (false≢true (sym (ended_apart t n i (admitted (admissions front t) m) e (time.admitted_by t m step.admitted_move)) ∙ c))

  -- which of its own intervals bar a train: all but those of the overlap of its last admitted move
  own_bars_is : (t x : ℕ) → t < trains input.plant → bars input.plant t t (admissions front t) x (instant front) ≡ (is_train t (get_or h x None) && not (is_in x (own_overlap input.plant t (place front t))))
  own_bars_is t x known =
      let adms : List ℕ = admissions front t in
      let own : List ℕ = own_overlap input.plant t (place front t) in
      let inner : ℕ → ℕ → Bool = λ n i. eqb (step_section input.plant t n i) x && contains_instant input.plant t (admissions front t) n i (instant front) in
      ⊎_elim
      (λ some.
      let at_move = any_below_found (λ n. any_below (inner n) (barring input.plant t t (place front t) n)) (length adms) some in
      let n : ℕ = at_move.0 in
      let at_step = any_below_found (inner n) (barring input.plant t t (place front t) n) at_move.2 in
      let i : ℕ = at_step.0 in
      let li : i < claims input.plant t n = bars_claimed input.plant t t (place front t) n i at_step.1 in
      let both = and_parts (eqb (step_section input.plant t n i) x) (contains_instant input.plant t adms n i (instant front)) at_step.2 in
      let some_block : blocks input.plant t adms x (instant front) ≡ true = any_below_from (λ k. any_below (inner k) (claims input.plant t k)) (length adms) n at_move.1 (any_below_from (inner n) (claims input.plant t n) i li at_step.2) in
      let held : is_train t (get_or h x None) ≡ true = sym (blocks_is t x known) ∙ some_block in
      let apart : is_in x own ≡ false = false_from_ne_true (is_in x own) (λ there.
      let of = own_step input.plant t (place front t) x there in
      let step : IsStep input.plant front t of.move of.step = record { known = known; admitted_move = omega (arith, of.last); step = of.claimed } in
      let P : ℕ → Type 0 = λ y. blocks input.plant t adms y (instant front) ≡ true in
      let mine = own_contains t of.move of.step step of.last of.over (subst P (sym of.section) some_block) in
      let same = one_containing t of.move of.step n i step (record { known = known; admitted_move = at_move.1; step = li }) (of.section ∙ sym (eqb-true (step_section input.plant t n i) x both.0)) mine both.1 in
      let Q : ℕ → Type 0 = λ k. i < barring input.plant t t (place front t) k in
      let low : i < steps input.plant t of.move = own_barring input.plant t (place front t) of.move i of.last (subst Q (sym same.0) at_step.1) in
      omega (arith, low, same.1, of.over)) in
      some ∙ sym (and_from (is_train t (get_or h x None)) (not (is_in x own)) held (not_from_false (is_in x own) apart)))
      (λ none. none ∙ sym (⊎_elim
      (λ held.
      let some_block : blocks input.plant t adms x (instant front) ≡ true = blocks_is t x known ∙ held in
      let at_move = any_below_found (λ n. any_below (inner n) (claims input.plant t n)) (length adms) some_block in
      let n : ℕ = at_move.0 in
      let at_step = any_below_found (inner n) (claims input.plant t n) at_move.2 in
      let i : ℕ = at_step.0 in
      let both = and_parts (eqb (step_section input.plant t n i) x) (contains_instant input.plant t adms n i (instant front)) at_step.2 in
      let bar_at : i < barring input.plant t t (place front t) n → ⊥ = λ lb.
      false≢true (sym none ∙ any_below_from (λ k. any_below (inner k) (barring input.plant t t (place front t) k)) (length adms) n at_move.1 (any_below_from (inner n) (barring input.plant t t (place front t) n) i lb at_step.2)) in
      let there : is_in x own ≡ true =
      ⊎_elim
      (λ last. ⊎_elim
      (λ need. absurd (bar_at (needed_bars input.plant t t (place front t) n i need)))
      (λ over.
      let P : ℕ → Type 0 = λ y. is_in y own ≡ true in
      subst P (eqb-true (step_section input.plant t n i) x both.0) (step_own input.plant t (place front t) n i last over at_step.1))
      (cases_lt i (steps input.plant t n)))
      (λ earlier. absurd (bar_at (other_bars input.plant t t (place front t) n i (λ _ is. earlier is) at_step.1)))
      (cases_eq (suc n) (place front t)) in
      and_right (is_train t (get_or h x None)) (not (is_in x own)) (not_from_true (is_in x own) there))
      (λ unheld. and_left (is_train t (get_or h x None)) (not (is_in x own)) unheld)
      (cases_Bool (is_train t (get_or h x None)))))
      (cases_Bool (bars input.plant t t adms x (instant front)))

  -- the intervals of another train bar a train wherever they block
  other_bars_is : (t u x : ℕ) → u < trains input.plant → (u ≡ t → ⊥) → bars input.plant t u (admissions front u) x (instant front) ≡ is_train u (get_or h x None)
  other_bars_is t u x known other =
      let barred : Bool → Bool = λ b. any_below (λ m. any_below (λ j. eqb (step_section input.plant u m j) x && contains_instant input.plant u (admissions front u) m j (instant front))
      (cond (b && eqb (suc m) (length (admissions front u))) (steps input.plant u m) (claims input.plant u m))) (length (admissions front u)) in
      ap barred (ne_eqb u t other) ∙ blocks_is u x known

  -- so who blocks a section for a train is the holder that bars it
  pub blocker_is : (t x : ℕ) → blocker input front t x ≡ bar_holder h t (own_overlap input.plant t (place front t)) x
  blocker_is t x = of (get_or h x None) refl
    where
      nobody_bars : ((u : ℕ) → u < trains input.plant → bars input.plant t u (admissions front u) x (instant front) ≡ false) → (o : Option ℕ) → get_or h x None ≡ o → cond (is_train t o && is_in x (own_overlap input.plant t (place front t))) None o ≡ None → blocker input front t x ≡ bar_holder h t (own_overlap input.plant t (place front t)) x
      nobody_bars none o is gone =
          first_none (λ u. bars input.plant t u (admissions front u) x (instant front)) (trains input.plant) none
          ∙ sym gone ∙ ap (λ z. cond (is_train t z && is_in x (own_overlap input.plant t (place front t))) None z) (sym is)

      of : (o : Option ℕ) → get_or h x None ≡ o → blocker input front t x ≡ bar_holder h t (own_overlap input.plant t (place front t)) x
      of None is =
          nobody_bars (λ u lt. ⊎_elim
          (λ same.
          let P : ℕ → Type 0 = λ v. bars input.plant t v (admissions front v) x (instant front) ≡ false in
          let Q : ℕ → Type 0 = λ v. v < trains input.plant in
          subst P (sym same) (own_bars_is t x (subst Q same lt) ∙ ap (λ z. is_train t z && not (is_in x (own_overlap input.plant t (place front t)))) is))
          (λ other. other_bars_is t u x lt other ∙ ap (is_train u) is)
          (cases_eq u t)) None is refl
      of (Some v) is =
          ⊎_elim
          (λ mine.
          let both = and_parts (eqb v t) (is_in x (own_overlap input.plant t (place front t))) mine in
          let v_is : v ≡ t = eqb-true v t both.0 in
          nobody_bars (λ u lt. ⊎_elim
          (λ same.
          let P : ℕ → Type 0 = λ w. bars input.plant t w (admissions front w) x (instant front) ≡ false in
          let Q : ℕ → Type 0 = λ w. w < trains input.plant in
          subst P (sym same) (own_bars_is t x (subst Q same lt) ∙ and_right (is_train t (get_or h x None)) (not (is_in x (own_overlap input.plant t (place front t)))) (not_from_true (is_in x (own_overlap input.plant t (place front t))) both.1)))
          (λ other. other_bars_is t u x lt other ∙ ap (is_train u) is ∙ ne_eqb v u (λ e. other (sym e ∙ v_is)))
          (cases_eq u t)) (Some v) is (cond-true (eqb v t && is_in x (own_overlap input.plant t (place front t))) None (Some v) mine))
          (λ foreign.
          let v_known : v < trains input.plant = are.known v x is in
          let v_bars : bars input.plant t v (admissions front v) x (instant front) ≡ true =
          ⊎_elim
          (λ same.
          let P : ℕ → Type 0 = λ w. bars input.plant t w (admissions front w) x (instant front) ≡ true in
          let Q : ℕ → Type 0 = λ w. w < trains input.plant in
          let apart : is_in x (own_overlap input.plant t (place front t)) ≡ false = false_from_ne_true (is_in x (own_overlap input.plant t (place front t))) (λ there. false≢true (sym foreign ∙ and_from (eqb v t) (is_in x (own_overlap input.plant t (place front t))) (eq-eqb v t same) there)) in
          subst P (sym same) (own_bars_is t x (subst Q same v_known)
          ∙ and_from (is_train t (get_or h x None)) (not (is_in x (own_overlap input.plant t (place front t)))) (ap (is_train t) is ∙ eq-eqb v t same) (not_from_false (is_in x (own_overlap input.plant t (place front t))) apart)))
          (λ other. other_bars_is t v x v_known other ∙ ap (is_train v) is ∙ eq-eqb v v refl)
          (cases_eq v t) in
          first_only (λ u. bars input.plant t u (admissions front u) x (instant front)) (trains input.plant) v v_known v_bars
          (λ u lt other. ⊎_elim
          (λ same.
          let P : ℕ → Type 0 = λ w. bars input.plant t w (admissions front w) x (instant front) ≡ false in
          let Q : ℕ → Type 0 = λ w. w < trains input.plant in
          subst P (sym same) (own_bars_is t x (subst Q same lt) ∙ and_left (is_train t (get_or h x None)) (not (is_in x (own_overlap input.plant t (place front t)))) (ap (is_train t) is ∙ ne_eqb v t (λ e. other (same ∙ sym e)))))
          (λ another. other_bars_is t u x lt another ∙ ap (is_train u) is ∙ ne_eqb v u (λ e. other (sym e)))
          (cases_eq u t))
          ∙ sym (ap (λ z. cond (is_train t z && is_in x (own_overlap input.plant t (place front t))) None z) is ∙ cond-false (eqb v t && is_in x (own_overlap input.plant t (place front t))) None (Some v) foreign))
          (cases_Bool (eqb v t && is_in x (own_overlap input.plant t (place front t))))

  pub blocked_is : (t : ℕ) (sections : List ℕ) → blocked_cause input front t sections ≡ held_cause h t (own_overlap input.plant t (place front t)) sections
  blocked_is t [] = refl
  blocked_is t (x ∷ xs) =
      ap (λ o. or_else (option_map (Blocked x) o) (blocked_cause input front t xs)) (blocker_is t x)
      ∙ ap (or_else (option_map (Blocked x) (bar_holder h t (own_overlap input.plant t (place front t)) x))) (blocked_is t xs)
