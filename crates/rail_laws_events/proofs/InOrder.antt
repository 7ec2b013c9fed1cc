-- Commands come in order.
use Rattle.std.proofs.Common.{◌≡◌, ℕ, zero, suc, ◌+◌, ◌<◌, ◌≤◌, Bool, true, false, ◌&&◌, ◌||◌, eqb, leb, List, [], ◌∷◌, length, Some, refl, sym, ap, ◌∙◌, subst, ⊎_elim, arith}
use Rattle.std.specs.Prelude.{nat_lt}
use Rattle.std.specs.List.{list_any, slice_get}
use Rattle.std.proofs.lemmas.Bool.{and_parts, and_from, cases_Bool, cases_lt, cond-true, cond-false, eqb-true, eq-eqb, false≢true, false_from_ne_true, lt-ltb, le-ltb, leb-true, or_left, or_right}
use Rattle.rail_base.specs.declared.history.Entry.{Entry}
use Rattle.rail_base.specs.declared.history.What.{What}
use Rattle.rail_base.specs.declared.history.What.TheVariants.{Told, Untold}
use Rattle.rail_base.specs.declared.limits.TheConstants.{INPUT_TIME}
use Rattle.rail_base.specs.declared.orders.Command.{Command}
use Rattle.rail_rules.specs.Accepted.{are_commands_in_range, is_accepted_input, is_order_in_range}
use Rattle.rail_rules.specs.Numbers.{comes_before}
use Rattle.rail_rules.specs.Plant.{Plant}
use Rattle.rail_rules.specs.Fronts.{Line, Front, at_time, rank, same_entry, stands}
use Rattle.rail_rules.specs.Orders.{Input, takes_effect, told}
use Rattle.rail_rules.specs.Events.{command_line, due_lines, is_written}
use Rattle.rail_rules.specs.Lawful.{is_lawful}
use Rattle.rail_laws_front.specs.Views.{Follows, Happens}
use Rattle.rail_laws_front.specs.Views.Follows.{by_event, by_admission, by_hold, by_end}
use Rattle.rail_laws_front.proofs.CallerLemmas.{lawful_before, lawful_last, same_entry_refl, due_from_command}
use Rattle.rail_laws_events.proofs.Coding.{one_entry}
use Rattle.rail_laws_events.proofs.Reached.{input_parts}
use Rattle.rail_rules.specs.LineCounts.{is_command, lines_that}
use Rattle.rail_laws_events.proofs.Commands.{IsNewCommand, command_new}
use Rattle.rail_laws_events.specs.CommandOrder.{AreFirst}

-- commands are in order of time
later : (plant : Plant) (earliest : ℕ) (commands : List Command) (i j : ℕ) (a b : Command) → are_commands_in_range plant earliest commands ≡ true → slice_get commands i ≡ Some a → slice_get commands j ≡ Some b → i ≤ j → a.at ≤ b.at
later plant earliest [] i j a b fine ia ib le = absurd (nothing ia)
  where
    nothing : slice_get [] i ≡ Some a → ⊥
    nothing e = cc
later plant earliest (first ∷ commands) i j a b fine ia ib le = of (λ k m ka mb km. later plant first.at commands k m a b rest ka mb km) i j ia ib le
  where
    rest : are_commands_in_range plant first.at commands ≡ true
    rest = (and_parts (leb earliest first.at && leb first.at INPUT_TIME && is_order_in_range plant first.what) (are_commands_in_range plant first.at commands) fine).1

    not_before : (e : ℕ) (cs : List Command) (k : ℕ) (c : Command) → are_commands_in_range plant e cs ≡ true → slice_get cs k ≡ Some c → e ≤ c.at
    not_before e [] k c f is = absurd (nothing is)
      where
        nothing : slice_get [] k ≡ Some c → ⊥
        nothing x = cc
    not_before e (d ∷ cs) zero c f is =
        let same : d ≡ c = cc in
        let p = and_parts (leb e d.at) (leb d.at INPUT_TIME) (and_parts (leb e d.at && leb d.at INPUT_TIME) (is_order_in_range plant d.what) (and_parts (leb e d.at && leb d.at INPUT_TIME && is_order_in_range plant d.what) (are_commands_in_range plant d.at cs) f).0).0 in
        omega (arith, leb-true e d.at p.0, ap (λ (x : Command). x.at) same)
    not_before e (d ∷ cs) (suc k) c f is =
        let q = and_parts (leb e d.at && leb d.at INPUT_TIME && is_order_in_range plant d.what) (are_commands_in_range plant d.at cs) f in
        let p = and_parts (leb e d.at) (leb d.at INPUT_TIME) (and_parts (leb e d.at && leb d.at INPUT_TIME) (is_order_in_range plant d.what) q.0).0 in
        omega (arith, leb-true e d.at p.0, not_before d.at cs k c q.1 is)

    of : ((k m : ℕ) → slice_get commands k ≡ Some a → slice_get commands m ≡ Some b → k ≤ m → a.at ≤ b.at) → (i j : ℕ) → slice_get (first ∷ commands) i ≡ Some a → slice_get (first ∷ commands) j ≡ Some b → i ≤ j → a.at ≤ b.at
    of deeper zero zero ia ib le = let x : first ≡ a = cc in let y : first ≡ b = cc in omega (arith, ap (λ (c : Command). c.at) x, ap (λ (c : Command). c.at) y)
    of deeper zero (suc j) ia ib le = let x : first ≡ a = cc in omega (arith, ap (λ (c : Command). c.at) x, not_before first.at commands j b rest ib)
    of deeper (suc i) zero ia ib le = absurd (omega (arith, le))
    of deeper (suc i) (suc j) ia ib le = deeper i j ia ib (omega (arith, le))

-- the rank of a command's line
rank_of : (input : Input) (front : Front) (command : Command) (k : ℕ) → rank (command_line input front command k) ≡ command.at ∷ 5 ∷ suc k ∷ []
rank_of input front command k =
    ⊎_elim
    (λ is. ap (λ w. rank (at_time command.at w)) (cond-true (takes_effect input front (told input.commands front) command.what) (Told (suc k)) (Untold (suc k)) is))
    (λ isnt. ap (λ w. rank (at_time command.at w)) (cond-false (takes_effect input front (told input.commands front) command.what) (Told (suc k)) (Untold (suc k)) isnt))
    (cases_Bool (takes_effect input front (told input.commands front) command.what))

before_later : (s t k i : ℕ) → s ≤ t → k < i → comes_before (s ∷ 5 ∷ suc k ∷ []) (t ∷ 5 ∷ suc i ∷ []) ≡ true
before_later s t k i le lt =
    ⊎_elim
    (λ earlier. or_left (nat_lt s t) (eqb s t && comes_before (5 ∷ suc k ∷ []) (5 ∷ suc i ∷ [])) (lt-ltb s t earlier))
    (λ no. or_right (nat_lt s t) (eqb s t && comes_before (5 ∷ suc k ∷ []) (5 ∷ suc i ∷ []))
    (and_from (eqb s t) (comes_before (5 ∷ suc k ∷ []) (5 ∷ suc i ∷ [])) (eq-eqb s t (omega (arith, le, no)))
    (or_left (nat_lt (suc k) (suc i)) (eqb (suc k) (suc i) && false) (lt-ltb (suc k) (suc i) (omega (arith, lt))))))
    (cases_lt s t)

-- a line that isn't this command's leaves whether it stands
number_in : What → ℕ
number_in (Told k) = k
number_in (Untold k) = k
number_in _ = 0

number_told : {w : What} {i : ℕ} → w ≡ Told (suc i) → number_in w ≡ suc i
unfolding number_in
number_told e = ap number_in e

number_untold : {w : What} {i : ℕ} → w ≡ Untold (suc i) → number_in w ≡ suc i
unfolding number_in
number_untold e = ap number_in e

other_entry : (line : Line) (at : ℕ) (w : What) → (line.entry.what ≡ w → ⊥) → same_entry (at_time at w) line.entry ≡ false
other_entry line at w other = false_from_ne_true (same_entry (at_time at w) line.entry) (λ same. other (ap (λ (e : Entry). e.what) (sym (one_entry (at_time at w) line.entry same))))

still_written : (line : Line) (front : Front) (command : Command) (k : ℕ) → (line.entry.what ≡ Told (suc k) → ⊥) → (line.entry.what ≡ Untold (suc k) → ⊥) → is_written (line ∷ front) command k ≡ is_written front command k
still_written line front command k no_told no_untold =
    let a = other_entry line command.at (Told (suc k)) no_told in
    let b = other_entry line command.at (Untold (suc k)) no_untold in
    λ i. (a i || stands front (at_time command.at (Told (suc k)))) || (b i || stands front (at_time command.at (Untold (suc k))))

-- a line that was written stands
now_written : (input : Input) (front : Front) (line : Line) (new : IsNewCommand input front line) → is_written (line ∷ front) new.command new.index ≡ true
now_written input front line new =
    let t : Entry = at_time new.command.at (Told (suc new.index)) in
    let u : Entry = at_time new.command.at (Untold (suc new.index)) in
    ⊎_elim
    (λ is.
    let here : line.entry ≡ t = new.line_is ∙ ap (at_time new.command.at) (cond-true (takes_effect input front (told input.commands front) new.command.what) (Told (suc new.index)) (Untold (suc new.index)) is) in
    or_left (same_entry t line.entry || stands front t) (same_entry u line.entry || stands front u)
    (or_left (same_entry t line.entry) (stands front t) (subst (λ (e : Entry). same_entry t e ≡ true) (sym here) (same_entry_refl t))))
    (λ isnt.
    let here : line.entry ≡ u = new.line_is ∙ ap (at_time new.command.at) (cond-false (takes_effect input front (told input.commands front) new.command.what) (Told (suc new.index)) (Untold (suc new.index)) isnt) in
    or_right (same_entry t line.entry || stands front t) (same_entry u line.entry || stands front u)
    (or_left (same_entry u line.entry) (stands front u) (subst (λ (e : Entry). same_entry u e ≡ true) (sym here) (same_entry_refl u))))
    (cases_Bool (takes_effect input front (told input.commands front) new.command.what))

command_number : (input : Input) (front : Front) (command : Command) (k : ℕ) → number_in (command_line input front command k).what ≡ suc k
unfolding number_in
command_number input front command k =
    ⊎_elim
    (λ is. ap number_in (cond-true (takes_effect input front (told input.commands front) command.what) (Told (suc k)) (Untold (suc k)) is))
    (λ isnt. ap number_in (cond-false (takes_effect input front (told input.commands front) command.what) (Told (suc k)) (Untold (suc k)) isnt))
    (cases_Bool (takes_effect input front (told input.commands front) command.what))

some_there : (xs : List Command) (k i : ℕ) (c : Command) → slice_get xs i ≡ Some c → k ≤ i → (d : Command) × (slice_get xs k ≡ Some d)
some_there [] k i c is le = absurd (nothing is)
  where
    nothing : slice_get [] i ≡ Some c → ⊥
    nothing e = cc
some_there (x ∷ xs) zero i c is le = (x, refl)
some_there (x ∷ xs) (suc k) zero c is le = absurd (omega (arith, le))
some_there (x ∷ xs) (suc k) (suc i) c is le = some_there xs k i c is (omega (arith, le))

index_below : (xs : List Command) (i : ℕ) (c : Command) → slice_get xs i ≡ Some c → i < length xs
index_below [] i c is = absurd (nothing is)
  where
    nothing : slice_get [] i ≡ Some c → ⊥
    nothing e = cc
index_below (x ∷ xs) zero c is = omega arith
index_below (x ∷ xs) (suc i) c is = omega (arith, index_below xs i c is)

module _ (input : Input) (fine : are_commands_in_range input.plant 0 input.commands ≡ true) (line : Line) (front : Front) where
  no_command_line : (k : ℕ) → AreFirst input front k → is_command line.entry.what ≡ false → AreFirst input (line ∷ front) k
  no_command_line k first none = record {
    few = first.few;
    written = λ i command is. still_written line front command i (λ e. false≢true (sym none ∙ ap is_command e)) (λ e. false≢true (sym none ∙ ap is_command e)) ∙ first.written i command is;
  }

  command_line_next : (k : ℕ) → AreFirst input front k → Happens input front line → is_command line.entry.what ≡ true → AreFirst input (line ∷ front) (suc k)
  command_line_next k first happens kind =
      let new : IsNewCommand input front line = command_new input front line happens kind in
      let i0 : ℕ = new.index in
      let not_below : k ≤ i0 =
      ⊎_elim (λ lt. absurd (false≢true (sym new.unwritten ∙ first.written i0 new.command new.listed ∙ lt-ltb i0 k lt))) (λ le. le) (cases_lt i0 k) in
      let is_next : i0 ≡ k =
      ⊎_elim
      (λ past. absurd (overtakes new past))
      (λ none. omega (arith, none, not_below))
      (cases_lt k i0) in
      let number : number_in line.entry.what ≡ suc i0 = ap (λ (e : Entry). number_in e.what) new.line_is ∙ command_number input front new.command i0 in
      record {
        few = omega (arith, is_next, index_below input.commands i0 new.command new.listed);
        written = λ i command is.
            ⊎_elim
            (λ here.
            let e : i ≡ i0 = omega (arith, eqb-true i k here, is_next) in
            let same : command ≡ new.command = some_is (sym is ∙ ap (slice_get input.commands) e ∙ new.listed) in
            (λ j. is_written (line ∷ front) (same j) (e j)) ∙ now_written input front line new ∙ sym (lt-ltb i (suc k) (omega (arith, e, is_next))))
            (λ elsewhere.
            let apart : suc i0 ≡ suc i → ⊥ = λ e. false≢true (sym elsewhere ∙ eq-eqb i k (omega (arith, e, is_next))) in
            still_written line front command i (λ w. apart (sym number ∙ number_told w)) (λ w. apart (sym number ∙ number_untold w))
            ∙ first.written i command is ∙ same_test i k elsewhere)
            (cases_Bool (eqb i k));
      }
    where
      some_is : {x y : Command} → Some x ≡ Some y → x ≡ y
      some_is e = cc

      overtakes : (new : IsNewCommand input front line) → k < new.index → ⊥
      overtakes new past =
          let there = some_there input.commands k new.index new.command new.listed (omega (arith, past)) in
          let unwritten : is_written front there.0 k ≡ false = first.written k there.0 there.1 ∙ le-ltb k k (omega arith) in
          let ahead : Entry → Bool = λ d. comes_before (rank d) (rank line.entry) in
          let goes : ahead (command_line input front there.0 k) ≡ true =
          (λ j. comes_before (rank_of input front there.0 k j) ((ap rank new.line_is ∙ rank_of input front new.command new.index) j))
          ∙ before_later there.0.at new.command.at k new.index (later input.plant 0 input.commands k new.index there.0 new.command fine there.1 new.listed (omega (arith, past))) past in
          let due : list_any ahead (due_lines input front) ≡ true =
          due_from_command input front ahead (record { index = k; command = there.0; listed = there.1; unwritten = unwritten_at there.0 k unwritten; passing = passing_at there.0 ahead k goes }) in
          false≢true (sym happens.least ∙ due)
        where
          zero_add : (n : ℕ) → n ≡ 0 + n
          zero_add n = omega arith

          unwritten_at : (c : Command) (n : ℕ) → is_written front c n ≡ false → is_written front c (0 + n) ≡ false
          unwritten_at c n h = ap (is_written front c) (sym (zero_add n)) ∙ h

          passing_at : (c : Command) (p : Entry → Bool) (n : ℕ) → p (command_line input front c n) ≡ true → p (command_line input front c (0 + n)) ≡ true
          passing_at c p n h = ap (λ m. p (command_line input front c m)) (sym (zero_add n)) ∙ h

      same_test : (i n : ℕ) → eqb i n ≡ false → nat_lt i n ≡ nat_lt i (suc n)
      same_test i n differ =
          ⊎_elim
          (λ lt. lt-ltb i n lt ∙ sym (lt-ltb i (suc n) (omega (arith, lt))))
          (λ ge. le-ltb i n ge ∙ sym (le-ltb i (suc n) (above ge)))
          (cases_lt i n)
        where
          above : n ≤ i → suc n ≤ i
          above ge = ⊎_elim (λ lt. omega (arith, lt)) (λ le. absurd (false≢true (sym differ ∙ eq-eqb i n (omega (arith, le, ge))))) (cases_lt n i)

pub in_order : (input : Input) → is_accepted_input input ≡ true → (front : Front) → is_lawful input front ≡ true → AreFirst input front (lines_that is_command front)
in_order input accepted [] lawful = record { few = omega arith; written = λ i command is. sym (le-ltb i 0 (omega arith)) }
in_order input accepted (line ∷ front) lawful =
    let fine = (input_parts input accepted).1 in
    let before = in_order input accepted front (lawful_before input line front lawful) in
    of (lawful_last input line front lawful) fine before
  where
    is_none : is_command line.entry.what ≡ false → are_commands_in_range input.plant 0 input.commands ≡ true → AreFirst input front (lines_that is_command front) → AreFirst input (line ∷ front) (lines_that is_command (line ∷ front))
    is_none none fine before =
        let count : lines_that is_command (line ∷ front) ≡ lines_that is_command front = ap (λ n. n + lines_that is_command front) (cond-false {A = ℕ} (is_command line.entry.what) 1 0 none) ∙ omega arith in
        subst (AreFirst input (line ∷ front)) (sym count) (no_command_line input fine line front (lines_that is_command front) before none)

    of : Follows input front line → are_commands_in_range input.plant 0 input.commands ≡ true → AreFirst input front (lines_that is_command front) → AreFirst input (line ∷ front) (lines_that is_command (line ∷ front))
    of (by_event h) fine before =
        ⊎_elim
        (λ command.
        let count : lines_that is_command (line ∷ front) ≡ suc (lines_that is_command front) = ap (λ n. n + lines_that is_command front) (cond-true {A = ℕ} (is_command line.entry.what) 1 0 command) ∙ omega arith in
        subst (AreFirst input (line ∷ front)) (sym count) (command_line_next input fine line front (lines_that is_command front) before h command))
        (λ none. is_none none fine before)
        (cases_Bool (is_command line.entry.what))
    of (by_admission t m note h) fine before = is_none (ap is_command h.what) fine before
    of (by_hold t m why h) fine before = is_none (ap is_command h.what) fine before
    of (by_end h) fine before = is_none (ap is_command h.what) fine before
