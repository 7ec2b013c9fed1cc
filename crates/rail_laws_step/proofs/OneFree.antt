-- Of a section of its own overlap that a train still holds, the free line is the only one of the section that is due.
use Rattle.std.proofs.Common.{◌≡◌, ℕ, suc, ◌+◌, ◌<◌, ◌≤◌, ◌⊎◌, Bool, true, false, not, ◌&&◌, cond, eqb, ltb, List, [], ◌∷◌, get_or, Option, Some, None, refl, sym, ap, ◌∙◌, subst, ⊎_elim, arith}
use Rattle.std.proofs.lemmas.Bool.{and_from, and_parts, cases_Bool, cases_eq, cases_lt, cond-true, cond-false, eq-eqb, ne_eqb, false≢true, ltb-true, or_cases}
use Rattle.rail_base.specs.declared.history.Entry.{Entry}
use Rattle.rail_base.specs.declared.history.What.{What}
use Rattle.rail_base.specs.declared.history.What.TheVariants.{Free, Arrive, Enter, Out, Ready, Told, Untold, Admit, Hold, End}
use Rattle.rail_base.specs.declared.orders.Order.{Order}
use Rattle.rail_rules.specs.Accepted.{is_accepted}
use Rattle.rail_rules.specs.Causes.{is_deciding, place}
use Rattle.rail_rules.specs.Events.{commands_due, due_lines}
use Rattle.rail_rules.specs.Orders.{Input, told}
use Rattle.rail_rules.specs.Plant.{steps, step_section, trains}
use Rattle.rail_rules.specs.Fronts.{Front, admissions, at_time, instant, same_entry, stands}
use Rattle.rail_rules.specs.Intervals.{end_time, is_open, is_taken_over, timer_end}
use Rattle.rail_rules.specs.Apart.{IsStep}
use Rattle.rail_rules.specs.Lawful.{is_lawful}
use Rattle.rail_rules.proofs.CallerLemmas.{end_timed, freed_from, last_not_taken}
use Rattle.rail_laws_front.specs.Premises.{IsWellFormed}
use Rattle.rail_laws_front.specs.EventLines.{IsEvent}
use Rattle.rail_laws_front.specs.EventLines.IsEvent.{entering, arriving, freeing, leaving, readying}
use Rattle.rail_laws_front.proofs.CallerLemmas.{over_not_open, same_entry_refl, timely, well_formed_from_accepted}
use Rattle.rail_laws_events.specs.Accounts.{all_events, tally, to_come}
use Rattle.rail_laws_events.proofs.CallerLemmas.{account, one_entry, tally-filter, tally-le, tally-same, tally-split}
use Rattle.rail_laws_step.specs.HolderTables.{AreHolders, frees, gives_free, is_train}
use Rattle.rail_laws_step.specs.KeptLines.{is_kept}
use Rattle.rail_laws_step.specs.LinesToCome.{ToCome}
use Rattle.rail_laws_step.proofs.Blocking.{blocks_is, own_contains}
use Rattle.rail_laws_step.proofs.Coming.{to_come_found, to_come_from}
use Rattle.rail_laws_step.proofs.Commands.{commands_same}
use Rattle.rail_laws_step.proofs.Frees.{all_freed, frees_by}
use Rattle.rail_laws_step.proofs.HoldersKept.{freed_few, is_one}
use Rattle.rail_laws_step.proofs.Split.{due_split}

and_true : (b : Bool) → (b && true) ≡ b
and_true true = refl
and_true false = refl

-- a list counted by a test, split by another one
tally-parts : (p q : Entry → Bool) (es : List Entry) → tally p es ≡ tally (λ e. q e && p e) es + tally (λ e. not (q e) && p e) es
tally-parts p q es = omega (arith, tally-split p q es, tally-filter p q es, tally-filter p (λ e. not (q e)) es)

tally-nothing : (es : List Entry) → tally (λ e. false) es ≡ 0
tally-nothing [] = refl
tally-nothing (e ∷ es) = omega (arith, tally-nothing es)

-- a test that is the same for each entry that passes
tally-fixed : (q : Entry → Bool) (b : Bool) (es : List Entry) → tally (λ e. q e && b) es ≡ cond b (tally q es) 0
tally-fixed q true es = tally-same (λ e. q e && true) q es (λ e. and_true (q e))
tally-fixed q false es = tally-same (λ e. q e && false) (λ e. false) es (λ e. and_none (q e)) ∙ tally-nothing es
  where
    and_none : (b : Bool) → (b && false) ≡ false
    and_none true = refl
    and_none false = refl

-- a line that gives the section free stays due whatever is told
stays_due : (orders : List Order) (x : ℕ) (b : Bool) (w : What) → (is_kept orders w && (gives_free x w && b)) ≡ (gives_free x w && b)
stays_due orders x b (Free y u) = refl
stays_due orders x b (Arrive u m) = refl
stays_due orders x b (Enter u m y) = refl
stays_due orders x b (Out u) = refl
stays_due orders x b (Ready u m) = none (is_kept orders (Ready u m))
  where
    none : (k : Bool) → (k && false) ≡ false
    none true = refl
    none false = refl
stays_due orders x b (Told k) = refl
stays_due orders x b (Untold k) = refl
stays_due orders x b (Admit u m note) = refl
stays_due orders x b (Hold u m why) = refl
stays_due orders x b End = refl

module _ (input : Input) (accepted : is_accepted input.plant ≡ true) (front : Front) (lawful : is_lawful input front ≡ true) (deciding : is_deciding input front ≡ true)
    (h : List (Option ℕ)) (are : AreHolders input.plant front h) where
  fine : IsWellFormed input.plant
  fine = well_formed_from_accepted input.plant accepted

  -- no more free lines of a train on a section are to come than it holds the section
  few_to_come : (u x : ℕ) → u < trains input.plant → tally (frees x u) (to_come input.plant front) ≤ cond (is_train u (get_or h x None)) 1 0
  few_to_come u x known =
      let by : ℕ → Bool = λ n. true in
      omega (
        arith,
        are.each u x known,
        account input fine front lawful (frees x u),
        all_freed input.plant front x u by known,
        tally-same (frees_by x u by) (frees x u) (all_events input.plant front) (λ e. and_true (frees x u e)),
        freed_few input.plant u (admissions front u) x by,
      )

  module _ (t k j : ℕ) (step : IsStep input.plant front t k j) (last : suc k ≡ place front t) (over : steps input.plant t k ≤ j)
      (held : is_train t (get_or h (step_section input.plant t k j) None) ≡ true) where
    abbrev x : ℕ
    x = step_section input.plant t k j

    abbrev adms : List ℕ
    adms = admissions front t

    -- the free line of the overlap
    abbrev line : Entry
    line = at_time (timer_end input.plant t adms k) (Free x t)

    abbrev same : Entry → Bool
    same = same_entry line

    untaken : is_taken_over input.plant t adms k j ≡ false
    untaken = last_not_taken input.plant t adms k j (omega (arith, last))

    closed : is_open input.plant t adms k j ≡ false
    closed = over_not_open input.plant fine t k j over step.step adms

    ends : end_time input.plant t adms k j ≡ timer_end input.plant t adms k
    ends = end_timed input.plant t adms k j over untaken

    -- it doesn't stand
    fresh : stands front line ≡ false
    fresh =
        let contains = own_contains input accepted front lawful deciding h are t k j step last over (blocks_is input accepted front lawful deciding h are t x step.known ∙ held) in
        let running = (and_parts _ _ contains).1 in
        let before : instant front < end_time input.plant t adms k j =
        ⊎_elim
        (λ opens. absurd (false≢true (sym closed ∙ opens)))
        (λ lt. ltb-true (instant front) (end_time input.plant t adms k j) lt)
        (or_cases (is_open input.plant t adms k j) (ltb (instant front) (end_time input.plant t adms k j)) running) in
        ⊎_elim
        (λ stood. absurd (omega (arith, before, ends, (timely input fine front lawful).past line stood)))
        (λ no. no)
        (cases_Bool (stands front line))

    event : IsEvent input.plant t adms false line
    event = freeing k j step.admitted_move step.step (freed_from input.plant t adms k j closed untaken) (λ i. at_time (sym ends i) (Free x t))

    some : 0 < tally same (to_come input.plant front)
    some = to_come_from input.plant front same t line step.known event fresh (same_entry_refl line)

    by_line : (e : Entry) → same e ≡ true → frees x t e ≡ true
    by_line e is = let P : Entry → Type 0 = λ d. frees x t d ≡ true in subst P (one_entry line e is) (and_from (eqb x x) (eqb t t) (eq-eqb x x refl) (eq-eqb t t refl))

    one : tally (frees x t) (to_come input.plant front) ≤ 1
    one = omega (arith, few_to_come t x step.known, cond-true {A = ℕ} (is_train t (get_or h x None)) 1 0 held)

    holder : get_or h x None ≡ Some t
    holder = is_one t (get_or h x None) (omega (arith, cond-true {A = ℕ} (is_train t (get_or h x None)) 1 0 held))

    no_other_train : (u : ℕ) → u < trains input.plant → (u ≡ t → ⊥) → tally (frees x u) (to_come input.plant front) ≡ 0
    no_other_train u known other =
        omega (
          arith,
          few_to_come u x known,
          ap {B = ℕ} (λ o. cond (is_train u o) 1 0) holder,
          cond-false {A = ℕ} (eqb t u) 1 0 (ne_eqb t u (λ e. other (sym e))),
        )

    -- no other line gives the section free
    abbrev rest : Entry → Bool
    rest e = not (same e) && gives_free x e.what

    none_else : tally rest (to_come input.plant front) ≡ 0
    none_else =
        ⊎_elim
        (λ positive. absurd (of_line (to_come_found input.plant front rest positive)))
        (λ none. omega (arith, none))
        (cases_lt 0 (tally rest (to_come input.plant front)))
      where
        not_free : (e : Entry) (w : What) → e.what ≡ w → gives_free x w ≡ false → rest e ≡ true → ⊥
        not_free e w is none passes = false≢true (sym none ∙ sym (ap (gives_free x) is) ∙ (and_parts (not (same e)) (gives_free x e.what) passes).1)

        of_line : ToCome input.plant front rest → ⊥
        of_line found = of found.event
          where
            of : IsEvent input.plant found.train (admissions front found.train) false found.entry → ⊥
            of (freeing m i lm li untold is) =
                let e : Entry = found.entry in
                let u : ℕ = found.train in
                let y : ℕ = step_section input.plant u m i in
                let parts = and_parts (not (same e)) (gives_free x e.what) found.passes in
                let section : eqb y x ≡ true = sym (ap (λ (d : Entry). gives_free x d.what) is) ∙ parts.1 in
                let passes : frees x u e ≡ true = ap (λ (d : Entry). frees x u d) is ∙ and_from (eqb y x) (eqb u u) section (eq-eqb u u refl) in
                ⊎_elim
                (λ own.
                let P : ℕ → Type 0 = λ v. frees x v e ≡ true in
                let mine : frees x t e ≡ true = subst P own passes in
                let more : 0 < tally (λ d. not (same d) && frees x t d) (to_come input.plant front) = to_come_from input.plant front (λ d. not (same d) && frees x t d) u e found.known found.event found.fresh (and_from (not (same e)) (frees x t e) parts.0 mine) in
                let both : tally same (to_come input.plant front) ≤ tally (λ d. same d && frees x t d) (to_come input.plant front) = tally-le same (λ d. same d && frees x t d) (to_come input.plant front) (λ d is_line. and_from (same d) (frees x t d) is_line (by_line d is_line)) in
                omega (arith, one, some, more, both, tally-parts (frees x t) same (to_come input.plant front)))
                (λ other. omega (arith, no_other_train u found.known other, to_come_from input.plant front (frees x u) u e found.known found.event found.fresh passes))
                (cases_eq u t)
            of (entering m i lm li is) = not_free found.entry _ (ap (λ (d : Entry). d.what) is) refl found.passes
            of (arriving m lm is) = not_free found.entry _ (ap (λ (d : Entry). d.what) is) refl found.passes
            of (leaving m lm last_move is) = not_free found.entry _ (ap (λ (d : Entry). d.what) is) refl found.passes
            of (readying m lm left runs is) = not_free found.entry _ (ap (λ (d : Entry). d.what) is) refl found.passes

    -- so any test counts the due lines that give the section free by this line alone
    pub one_free_due : (p : Entry → Bool) → tally (λ e. gives_free x e.what && p e) (due_lines input front) ≡ cond (p line) 1 0
    one_free_due p =
        let es : List Entry = to_come input.plant front in
        let q : Entry → Bool = λ e. gives_free x e.what && p e in
        let orders : List Order = told input.commands front in
        let kept : tally (λ e. is_kept orders e.what && q e) es ≡ tally q es = tally-same (λ e. is_kept orders e.what && q e) q es (λ e. stays_due orders x (p e) e.what) in
        let no_command = commands_same q (λ e. false) (λ at n. refl) (λ at n. refl) input front (λ at n. refl) in
        let by_this : tally (λ e. same e && q e) es ≡ tally (λ e. same e && p line) es = tally-same (λ e. same e && q e) (λ e. same e && p line) es (λ e. at_line e (cases_Bool (same e))) in
        let few : tally same es ≤ 1 = omega (arith, one, tally-le same (frees x t) es by_line) in
        let once : tally same es ≡ 1 = omega (arith, few, some) in
        let fixed : cond (p line) (tally same es) 0 ≡ cond (p line) 1 0 = ap (λ n. cond (p line) n 0) once in
        omega (
          arith,
          due_split input front q,
          kept,
          no_command,
          tally-nothing (commands_due input front 0 input.commands),
          tally-parts q same es,
          by_this,
          tally-fixed same (p line) es,
          fixed,
          tally-le (λ e. not (same e) && q e) rest es left_over,
          none_else,
        )
      where
        at_line : (e : Entry) → (same e ≡ true) ⊎ (same e ≡ false) → (same e && (gives_free x e.what && p e)) ≡ (same e && p line)
        at_line e =
            let P : Entry → Type 0 = λ d. (same d && (gives_free x d.what && p d)) ≡ (same d && p line) in
            ⊎_elim
            (λ is. subst P (one_entry line e is) (ap (λ b. same line && (b && p line)) (eq-eqb x x refl)))
            (λ no. ap (λ b. b && (gives_free x e.what && p e)) no ∙ sym (ap (λ b. b && p line) no))

        left_over : (e : Entry) → (not (same e) && (gives_free x e.what && p e)) ≡ true → rest e ≡ true
        left_over e passes =
            let parts = and_parts (not (same e)) (gives_free x e.what && p e) passes in
            and_from (not (same e)) (gives_free x e.what) parts.0 (and_parts (gives_free x e.what) (p e) parts.1).0
