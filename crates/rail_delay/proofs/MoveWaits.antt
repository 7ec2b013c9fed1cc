-- What a train was held is what it waited for its moves.
use Rattle.std.proofs.Common.{◌≡◌, ℕ, ◌+◌, ◌-◌, ◌<◌, ◌≤◌, Bool, true, false, not, ◌&&◌, ◌||◌, cond, eqb, ltb, List, [], ◌∷◌, ◌++◌, length, Option, Some, None, refl, sym, ap, ◌∙◌, ⊎_elim, arith}
use Rattle.std.specs.List.{list_any}
use Rattle.std.specs.Option.{option_map_or}
use Rattle.std.proofs.lemmas.Bool.{and_parts, cases_Bool, eq-eqb, eqb-true, false_from_ne_true, false≢true, ltb-true, or_parts}
use Rattle.rail_base.specs.declared.history.Cause.{Cause}
use Rattle.rail_base.specs.declared.history.Entry.{Entry}
use Rattle.rail_base.specs.declared.history.Note.{Note}
use Rattle.rail_base.specs.declared.history.What.{What}
use Rattle.rail_base.specs.declared.history.What.TheVariants.{Free, Arrive, Enter, Out, Ready, Told, Untold, Admit, Hold, End}
use Rattle.rail_base.specs.declared.orders.Command.{Command}
use Rattle.rail_rules.specs.Numbers.{comes_before, or_else, sum_below}
use Rattle.rail_rules.specs.Plant.{Plant, moves, trains}
use Rattle.rail_rules.specs.Fronts.{Front, Line, admissions, admits, has_ended, is_end, rank, stands}
use Rattle.rail_rules.specs.Orders.{Input, is_cancelled, orders_of, told}
use Rattle.rail_rules.specs.Times.{ready}
use Rattle.rail_rules.specs.Events.{due_lines, ready_line}
use Rattle.rail_rules.specs.Causes.{is_deciding, is_ready, place}
use Rattle.rail_rules.specs.Lawful.{is_lawful, may_follow}
use Rattle.rail_rules.proofs.CallerLemmas.{sum_below_same}
use Rattle.rail_laws_front.specs.EventLines.IsEvent.{readying}
use Rattle.rail_laws_front.specs.Premises.{IsWellFormed}
use Rattle.rail_laws_front.specs.Views.{Follows, is_event}
use Rattle.rail_laws_front.specs.Views.Follows.{by_event, by_admission, by_hold, by_end}
use Rattle.rail_laws_front.proofs.CallerLemmas.{admission_added, admitted_added, agree_added, due_from_event, lawful_before, lawful_last, length_added, not_earlier, not_ended, ready_agrees}
use Rattle.rail_laws_step.specs.LineKinds.{is_ready_line}
use Rattle.rail_laws_step.proofs.CallerLemmas.{ready_by_line}
use Rattle.rail_delay.specs.HeldTimes.{first_time, is_cancel_of, move_wait, move_waits, time_until, waits_until}
use Rattle.rail_delay.specs.Waits.{does_end_wait, held, waits_since, with_wait_until}
use Rattle.rail_delay.proofs.Stories.{Rest, Story, cancelled_both, cancelled_rests, story_of}
use Rattle.rail_delay.proofs.Stories.Rest.{unready, dropped, over}
use Rattle.rail_delay.proofs.Stories.Story.{idle, waiting, delayed}

-- one admission more adds its wait
one_more : (plant : Plant) (t : ℕ) (adms : List ℕ) (a : ℕ) → sum_below (move_wait plant t (adms ++ a ∷ [])) (length (adms ++ a ∷ []))
    ≡ sum_below (move_wait plant t adms) (length adms) + (a - ready plant t adms (length adms))
one_more plant t adms a =
    let n : ℕ = length adms in
    let both : List ℕ = adms ++ a ∷ [] in
    let agree = agree_added adms a in
    let ready_same : (m : ℕ) → m ≤ n → ready plant t both m ≡ ready plant t adms m = λ m le. ready_agrees plant t both adms n m agree le in
    let before : sum_below (move_wait plant t both) n ≡ sum_below (move_wait plant t adms) n =
    sum_below_same (move_wait plant t both) (move_wait plant t adms) n (λ i lt. λ j. agree.same i lt j - ready_same i (omega (arith, lt)) j) in
    let here : move_wait plant t both n ≡ a - ready plant t adms n = λ j. admitted_added adms a j - ready_same n (omega arith) j in
    ap (sum_below (move_wait plant t both)) (length_added adms a) ∙ (λ j. before j + here j)

-- when a cancel was told
none_told : (commands : List Command) (front : Front) (t : ℕ) → is_cancelled t (told commands front) ≡ false → first_time (is_cancel_of commands t) front ≡ None
none_told commands [] t runs = refl
none_told commands (line ∷ before) t runs =
    let both = or_parts (is_cancelled t (orders_of commands line.entry.what)) (is_cancelled t (told commands before))
    (sym (cancelled_both t (orders_of commands line.entry.what) (told commands before)) ∙ runs) in
    let earlier = none_told commands before t both.1 in
    λ i. or_else (earlier i) (cond (both.0 i) (Some line.entry.at) None)

some_told : (commands : List Command) (front : Front) (t : ℕ) → is_cancelled t (told commands front) ≡ true → (at : ℕ) × (first_time (is_cancel_of commands t) front ≡ Some at)
some_told commands [] t is = absurd (false≢true is)
some_told commands (line ∷ before) t is =
    ⊎_elim
    (λ (was : is_cancelled t (told commands before) ≡ true).
    let found = some_told commands before t was in
    (found.0, ap (λ (o : Option ℕ). or_else o (cond (is_cancel_of commands t line.entry.what) (Some line.entry.at) None)) found.1))
    (λ (ran : is_cancelled t (told commands before) ≡ false).
    let here : is_cancel_of commands t line.entry.what ≡ true = left_true (is_cancel_of commands t line.entry.what) (is_cancelled t (told commands before)) ran
    (sym (cancelled_both t (orders_of commands line.entry.what) (told commands before)) ∙ is) in
    (line.entry.at, λ i. or_else (none_told commands before t ran i) (cond (here i) (Some line.entry.at) None)))
    (cases_Bool (is_cancelled t (told commands before)))
  where
    left_true : (b c : Bool) → c ≡ false → b || c ≡ true → b ≡ true
    left_true true c ran is = refl
    left_true false c ran is = absurd (false≢true (sym ran ∙ is))

-- a front that has not ended has no end line
none_ended : (input : Input) (front : Front) → is_lawful input front ≡ true → has_ended front ≡ false → first_time is_end front ≡ None
none_ended input [] lawful goes = refl
none_ended input (line ∷ before) lawful goes =
    let earlier = none_ended input before (lawful_before input line before lawful)
    (not_ended input before line (and_parts (is_lawful input before) (may_follow input before line) lawful).1) in
    λ i. or_else (earlier i) (cond (goes i) (Some line.entry.at) None)

none_behind : (o : Option ℕ) → or_else o None ≡ o
none_behind None = refl
none_behind (Some x) = refl

none_some : {x : ℕ} → None ≡ Some x → ⊥
none_some e = cc

nothing : (b : Bool) → cond {A = ℕ} b 0 0 ≡ 0
nothing true = refl
nothing false = refl

-- what a train waited in a lawful front, and since when it waits
record Waited (input : Input) (front : Front) (t : ℕ) : Type 0 where
  pub sum : held input.commands front t ≡ move_waits input.plant input.commands front t
  pub since : (s : ℕ) → waits_since input.commands front t ≡ Some s → s ≡ ready input.plant t (admissions front t) (place front t)

module _ (input : Input) (fine : IsWellFormed input.plant) (line : Line) (front : Front) (lawful : is_lawful input (line ∷ front) ≡ true) (t : ℕ) (known : t < trains input.plant) (before : Waited input front t) where
  -- what the train waited for its admitted moves, and when it is ready for the next one
  abbrev moved : ℕ
  moved = sum_below (move_wait input.plant t (admissions front t)) (place front t)

  abbrev next_ready : ℕ
  next_ready = ready input.plant t (admissions front t) (place front t)

  -- what it waits for the next one until an instant
  abbrev open_until : Option ℕ → ℕ
  open_until until = cond (ltb (place front t) (moves input.plant t)) (time_until until next_ready) 0

  -- what it was held where its wait ends now
  abbrev now_held : ℕ
  now_held = with_wait_until line.entry.at (waits_since input.commands front t) (held input.commands front t)

  goes_on : has_ended front ≡ false
  goes_on = not_ended input front line (and_parts (is_lawful input front) (may_follow input front line) lawful).1

  story : Story input front t
  story = story_of input fine front (lawful_before input line front lawful) t

  not_over : first_time is_end front ≡ None
  not_over = none_ended input front (lawful_before input line front lawful) goes_on

  -- the parts of what a line changes
  ends_not : admits t line.entry.what ≡ false → is_cancel_of input.commands t line.entry.what ≡ false → is_end line.entry.what ≡ false → does_end_wait input.commands t line.entry.what ≡ false
  ends_not a c e = λ i. (a i || c i) || e i

  same_admissions : admits t line.entry.what ≡ false → admissions (line ∷ front) t ≡ admissions front t
  same_admissions elsewhere = ap (λ (b : Bool). cond b (admissions front t ++ line.entry.at ∷ []) (admissions front t)) elsewhere

  same_until : is_cancel_of input.commands t line.entry.what ≡ false → is_end line.entry.what ≡ false → waits_until input.commands (line ∷ front) t ≡ waits_until input.commands front t
  same_until c e =
      (λ i. or_else (or_else (first_time (is_cancel_of input.commands t) front) (cond (c i) (Some line.entry.at) None)) (or_else (first_time is_end front) (cond (e i) (Some line.entry.at) None)))
      ∙ (λ i. or_else (none_behind (first_time (is_cancel_of input.commands t) front) i) (none_behind (first_time is_end front) i))

  waits_with : (until : Option ℕ) → admits t line.entry.what ≡ false → waits_until input.commands (line ∷ front) t ≡ until
      → move_waits input.plant input.commands (line ∷ front) t ≡ moved + open_until until
  waits_with until elsewhere is =
      let adms = same_admissions elsewhere in
      λ i. sum_below (move_wait input.plant t (adms i)) (length (adms i))
      + cond (ltb (length (adms i)) (moves input.plant t)) (time_until (is i) (ready input.plant t (adms i) (length (adms i)))) 0

  -- no wait is open in what was counted, where no cancel was told
  unopened : is_cancelled t (told input.commands front) ≡ false → held input.commands front t ≡ moved + 0
  unopened runs =
      before.sum
      ∙ (λ i. moved + open_until (or_else (none_told input.commands front t runs i) (not_over i)))
      ∙ ap (λ (n : ℕ). moved + n) (nothing (ltb (place front t) (moves input.plant t)))

  -- a line that is neither of the train nor ends the history, or a hold line
  passes : admits t line.entry.what ≡ false → is_cancel_of input.commands t line.entry.what ≡ false → is_end line.entry.what ≡ false → is_ready_line t line.entry.what ≡ false → Waited input (line ∷ front) t
  passes a c e r =
      let ends = ends_not a c e in
      let adms = same_admissions a in
      record {
        sum = ap (λ (b : Bool). cond b now_held (held input.commands front t)) ends ∙ before.sum ∙ sym (waits_with (waits_until input.commands front t) a (same_until c e));
        since = λ s is. before.since s (sym (λ i. cond (ends i) None (cond (r i) (Some line.entry.at) (waits_since input.commands front t))) ∙ is)
            ∙ sym (λ i. ready input.plant t (adms i) (length (adms i)));
      }

  -- the ready line of the train
  readied : (m : ℕ) → line.entry.what ≡ Ready t m → Waited input (line ∷ front) t
  readied m what =
      let a : admits t line.entry.what ≡ false = ap (admits t) what in
      let c : is_cancel_of input.commands t line.entry.what ≡ false = ap (is_cancel_of input.commands t) what in
      let e : is_end line.entry.what ≡ false = ap is_end what in
      let ends = ends_not a c e in
      let adms = same_admissions a in
      let here : is_ready_line t line.entry.what ≡ true = ap (is_ready_line t) what ∙ eq-eqb t t refl in
      record {
        sum = ap (λ (b : Bool). cond b now_held (held input.commands front t)) ends ∙ before.sum ∙ sym (waits_with (waits_until input.commands front t) a (same_until c e));
        since = λ s is.
            ap (λ (o : Option ℕ). option_map_or (λ (x : ℕ). x) o s) (sym (sym (λ i. cond (ends i) None (cond (here i) (Some line.entry.at) (waits_since input.commands front t))) ∙ is))
            ∙ (ready_by_line input line front t m lawful what).3
            ∙ sym (λ i. ready input.plant t (adms i) (length (adms i)));
      }

  -- a line that ends the wait of a train that is not admitted, where no ready line is due before it
  ended : admits t line.entry.what ≡ false → does_end_wait input.commands t line.entry.what ≡ true
      → waits_until input.commands (line ∷ front) t ≡ or_else (first_time (is_cancel_of input.commands t) front) (Some line.entry.at)
      → (is_ready input front t ≡ false → is_cancelled t (told input.commands front) ≡ false → ltb (place front t) (moves input.plant t) ≡ true → line.entry.at ≤ next_ready)
      → Waited input (line ∷ front) t
  ended elsewhere ends until not_due = record {
    sum = ap (λ (b : Bool). cond b now_held (held input.commands front t)) ends ∙ ⊎_elim cancelled running (cases_Bool (is_cancelled t (told input.commands front)));
    since = λ s is. absurd (none_some (sym (ap (λ (b : Bool). cond b None (cond (is_ready_line t line.entry.what) (Some line.entry.at) (waits_since input.commands front t))) ends) ∙ is));
  }
    where
      -- a cancelled train does not wait, and its wait is counted
      cancelled : is_cancelled t (told input.commands front) ≡ true → now_held ≡ move_waits input.plant input.commands (line ∷ front) t
      cancelled was =
          let found = some_told input.commands front t was in
          let same : waits_until input.commands front t ≡ Some found.0 = ap (λ (o : Option ℕ). or_else o (first_time is_end front)) found.1 in
          let then : waits_until input.commands (line ∷ front) t ≡ Some found.0 = until ∙ ap (λ (o : Option ℕ). or_else o (Some line.entry.at)) found.1 in
          by story ∙ before.sum ∙ ap (λ (o : Option ℕ). moved + open_until o) same
          ∙ sym (waits_with (Some found.0) elsewhere then)
        where
          by : Story input front t → now_held ≡ held input.commands front t
          by (idle none free same rest) = ap (λ (s : Option ℕ). with_wait_until line.entry.at s (held input.commands front t)) none
          by (waiting since is at free same ready none) = absurd (cancelled_rests input front t was ready)
          by (delayed since hold is held_so from until sum ready) = absurd (cancelled_rests input front t was ready)

      running : is_cancelled t (told input.commands front) ≡ false → now_held ≡ move_waits input.plant input.commands (line ∷ front) t
      running runs =
          by story ∙ sym (waits_with (Some line.entry.at) elsewhere (until ∙ ap (λ (o : Option ℕ). or_else o (Some line.entry.at)) (none_told input.commands front t runs)))
        where
          room_of : is_ready input front t ≡ true → ltb (place front t) (moves input.plant t) ≡ true
          room_of is = (and_parts (ltb (place front t) (moves input.plant t)) (not (is_cancelled t (told input.commands front)))
              (and_parts (ltb (place front t) (moves input.plant t) && not (is_cancelled t (told input.commands front))) (stands front (ready_line input.plant t (admissions front t) (place front t))) is).0).0

          since_ready : (since : ℕ) → waits_since input.commands front t ≡ Some since → is_ready input front t ≡ true
              → now_held ≡ moved + open_until (Some line.entry.at)
          since_ready since is now =
              let opened : open_until (Some line.entry.at) ≡ line.entry.at - next_ready = ap (λ (b : Bool). cond b (line.entry.at - next_ready) 0) (room_of now) in
              ap (λ (s : Option ℕ). with_wait_until line.entry.at s (held input.commands front t)) is
              ∙ omega (arith, unopened runs, opened, before.since since is)

          unopened_now : Rest input front t → (b : Bool) → ltb (place front t) (moves input.plant t) ≡ b → cond b (line.entry.at - next_ready) 0 ≡ 0
          unopened_now rest false room = refl
          unopened_now (unready not_ready none) true room = omega (arith, not_due not_ready runs room)
          unopened_now (dropped is) true room = absurd (false≢true (sym runs ∙ is))
          unopened_now (over is) true room = absurd (false≢true (sym goes_on ∙ is))

          by : Story input front t → now_held ≡ moved + open_until (Some line.entry.at)
          by (idle none free same rest) =
              ap (λ (s : Option ℕ). with_wait_until line.entry.at s (held input.commands front t)) none
              ∙ unopened runs
              ∙ ap (λ (n : ℕ). moved + n) (sym (unopened_now rest (ltb (place front t) (moves input.plant t)) refl))
          by (waiting since is at free same ready none) = since_ready since is ready
          by (delayed since hold is held_so from until sum ready) = since_ready since is ready

  -- a ready line that does not stand is due
  due_by : (p : Entry → Bool) → is_ready input front t ≡ false → is_cancelled t (told input.commands front) ≡ false → ltb (place front t) (moves input.plant t) ≡ true
      → p (ready_line input.plant t (admissions front t) (place front t)) ≡ true → list_any p (due_lines input front) ≡ true
  due_by p not_ready runs room passing =
      due_from_event input front p t (ready_line input.plant t (admissions front t) (place front t)) known
      (readying (place front t) (omega arith) (omega (arith, ltb-true (place front t) (moves input.plant t) room)) runs refl)
      (sym (λ i. room i && not (runs i) && stands front (ready_line input.plant t (admissions front t) (place front t))) ∙ not_ready)
      passing

  -- a told cancel
  told_cancel : (k : ℕ) → line.entry.what ≡ Told k → is_cancel_of input.commands t line.entry.what ≡ true → Waited input (line ∷ front) t
  told_cancel k what is =
      ended (ap (admits t) what) (λ i. (admits t (what i) || is_at i) || is_end (what i)) until (by (lawful_last input line front lawful))
    where
      is_at : is_cancel_of input.commands t line.entry.what ≡ true
      is_at = is

      until : waits_until input.commands (line ∷ front) t ≡ or_else (first_time (is_cancel_of input.commands t) front) (Some line.entry.at)
      until = (λ i. or_else (or_else (first_time (is_cancel_of input.commands t) front) (cond (is i) (Some line.entry.at) None)) (or_else (not_over i) (cond (is_end (what i)) (Some line.entry.at) None)))
          ∙ none_behind (or_else (first_time (is_cancel_of input.commands t) front) (Some line.entry.at))

      by : Follows input front line → is_ready input front t ≡ false → is_cancelled t (told input.commands front) ≡ false → ltb (place front t) (moves input.plant t) ≡ true
          → line.entry.at ≤ next_ready
      by (by_event happens) not_ready runs room =
          not_earlier (ready_line input.plant t (admissions front t) (place front t)) line.entry
          (false_from_ne_true (comes_before (rank (ready_line input.plant t (admissions front t) (place front t))) (rank line.entry)) (λ sooner.
          false≢true (sym happens.least ∙ due_by (λ d. comes_before (rank d) (rank line.entry)) not_ready runs room sooner)))
      by (by_admission u m note admits_it) not_ready runs room = absurd (false≢true (sym (ap is_event admits_it.what) ∙ ap is_event what))
      by (by_hold u m why holds) not_ready runs room = absurd (false≢true (sym (ap is_event holds.what) ∙ ap is_event what))
      by (by_end ends) not_ready runs room = absurd (false≢true (sym (ap is_event ends.what) ∙ ap is_event what))

  -- the end line
  at_end : line.entry.what ≡ End → Waited input (line ∷ front) t
  at_end what = ended (ap (admits t) what) (ap (does_end_wait input.commands t) what) until (by (lawful_last input line front lawful))
    where
      until : waits_until input.commands (line ∷ front) t ≡ or_else (first_time (is_cancel_of input.commands t) front) (Some line.entry.at)
      until = (λ i. or_else (or_else (first_time (is_cancel_of input.commands t) front) (cond (is_cancel_of input.commands t (what i)) (Some line.entry.at) None)) (or_else (not_over i) (cond (is_end (what i)) (Some line.entry.at) None)))
          ∙ ap (λ (o : Option ℕ). or_else o (Some line.entry.at)) (none_behind (first_time (is_cancel_of input.commands t) front))

      none_due : (due : List Entry) → length due ≡ 0 → list_any (λ (d : Entry). true) due ≡ false
      none_due [] none = refl
      none_due (d ∷ due) none = absurd (omega (arith, none))

      by : Follows input front line → is_ready input front t ≡ false → is_cancelled t (told input.commands front) ≡ false → ltb (place front t) (moves input.plant t) ≡ true
          → line.entry.at ≤ next_ready
      by (by_event happens) not_ready runs room = absurd (false≢true (sym (ap is_event what) ∙ happens.event))
      by (by_admission u m note admits_it) not_ready runs room = absurd (clash (sym what ∙ admits_it.what))
        where
          clash : {u m : ℕ} {note : Note} → End ≡ Admit u m note → ⊥
          clash e = cc
      by (by_hold u m why holds) not_ready runs room = absurd (clash (sym what ∙ holds.what))
        where
          clash : {u m : ℕ} {why : Cause} → End ≡ Hold u m why → ⊥
          clash e = cc
      by (by_end ends) not_ready runs room = absurd (false≢true (sym (none_due (due_lines input front) ends.nothing_due) ∙ due_by (λ d. true) not_ready runs room refl))

  -- an admission of the train
  admitted_now : (m : ℕ) (note : Note) → line.entry.what ≡ Admit t m note → Waited input (line ∷ front) t
  admitted_now m note what = record {
    sum = ap (λ (b : Bool). cond b now_held (held input.commands front t)) ends ∙ by story
        ∙ sym ((λ i. sum_below (move_wait input.plant t (adms i)) (length (adms i)) + cond (ltb (place (line ∷ front) t) (moves input.plant t)) (time_until (until i) (ready input.plant t (admissions (line ∷ front) t) (place (line ∷ front) t))) 0)
        ∙ (λ i. one_more input.plant t (admissions front t) line.entry.at i + nothing (ltb (place (line ∷ front) t) (moves input.plant t)) i));
    since = λ s is. absurd (none_some (sym (ap (λ (b : Bool). cond b None (cond (is_ready_line t line.entry.what) (Some line.entry.at) (waits_since input.commands front t))) ends) ∙ is));
  }
    where
      ends : does_end_wait input.commands t line.entry.what ≡ true
      ends = ap (does_end_wait input.commands t) what ∙ ap (λ (b : Bool). (b || false) || false) (eq-eqb t t refl)

      adms : admissions (line ∷ front) t ≡ admissions front t ++ line.entry.at ∷ []
      adms = admission_added line front t m note what

      train_in : What → ℕ
      train_in (Admit u n any) = u
      train_in _ = 0

      is_ready_now : Follows input front line → is_ready input front t ≡ true
      is_ready_now (by_event happens) = absurd (false≢true (sym (ap is_event what) ∙ happens.event))
      is_ready_now (by_admission u n any admits_it) =
          let same : u ≡ t = ap train_in (sym admits_it.what ∙ what) in
          ap (is_ready input front) (sym same) ∙ (and_parts (is_deciding input front) (is_ready input front u) admits_it.waiting).1
      is_ready_now (by_hold u n why holds) = absurd (clash (sym what ∙ holds.what))
        where
          clash : {u n : ℕ} {why : Cause} → Admit t m note ≡ Hold u n why → ⊥
          clash e = cc
      is_ready_now (by_end ends_it) = absurd (clash (sym what ∙ ends_it.what))
        where
          clash : Admit t m note ≡ End → ⊥
          clash e = cc

      ready_before : is_ready input front t ≡ true
      ready_before = is_ready_now (lawful_last input line front lawful)

      runs : is_cancelled t (told input.commands front) ≡ false
      runs = false_from_ne_true (is_cancelled t (told input.commands front)) (λ is. cancelled_rests input front t is ready_before)

      until : waits_until input.commands (line ∷ front) t ≡ None
      until = λ i. or_else (or_else (none_told input.commands front t runs i) (cond (is_cancel_of input.commands t (what i)) (Some line.entry.at) None)) (or_else (not_over i) (cond (is_end (what i)) (Some line.entry.at) None))

      from : (since : ℕ) → waits_since input.commands front t ≡ Some since
          → now_held ≡ moved + (line.entry.at - next_ready) + 0
      from since is =
          ap (λ (s : Option ℕ). with_wait_until line.entry.at s (held input.commands front t)) is
          ∙ omega (arith, unopened runs, before.since since is)

      by : Story input front t
          → now_held ≡ moved + (line.entry.at - next_ready) + 0
      by (idle none free same (unready not_ready _)) = absurd (false≢true (sym not_ready ∙ ready_before))
      by (idle none free same (dropped is)) = absurd (cancelled_rests input front t is ready_before)
      by (idle none free same (over is)) = absurd (false≢true (sym goes_on ∙ is))
      by (waiting since is at free same ready none) = from since is
      by (delayed since hold is held_so starts until sum ready) = from since is

  -- one more line
  waited_on : Waited input (line ∷ front) t
  waited_on = by line.entry.what refl
    where
      plain : (what : What) → line.entry.what ≡ what → admits t what ≡ false → is_cancel_of input.commands t what ≡ false → is_end what ≡ false → is_ready_line t what ≡ false → Waited input (line ∷ front) t
      plain what is a c e r =
          passes (ap (admits t) is ∙ a) (ap (is_cancel_of input.commands t) is ∙ c) (ap is_end is ∙ e) (ap (is_ready_line t) is ∙ r)

      of_ready : (u m : ℕ) → line.entry.what ≡ Ready u m → (b : Bool) → eqb u t ≡ b → Waited input (line ∷ front) t
      of_ready u m is true same = readied m (is ∙ ap (λ (v : ℕ). Ready v m) (eqb-true u t same))
      of_ready u m is false same = plain (Ready u m) is refl refl refl same

      of_told : (k : ℕ) → line.entry.what ≡ Told k → (b : Bool) → is_cancel_of input.commands t (Told k) ≡ b → Waited input (line ∷ front) t
      of_told k is true same = told_cancel k is (ap (is_cancel_of input.commands t) is ∙ same)
      of_told k is false same = plain (Told k) is refl same refl refl

      of_admit : (u m : ℕ) (note : Note) → line.entry.what ≡ Admit u m note → (b : Bool) → eqb u t ≡ b → Waited input (line ∷ front) t
      of_admit u m note is true same = admitted_now m note (is ∙ ap (λ (v : ℕ). Admit v m note) (eqb-true u t same))
      of_admit u m note is false same = plain (Admit u m note) is same refl refl refl

      by : (what : What) → line.entry.what ≡ what → Waited input (line ∷ front) t
      by (Free x u) is = plain (Free x u) is refl refl refl refl
      by (Arrive u m) is = plain (Arrive u m) is refl refl refl refl
      by (Enter u m x) is = plain (Enter u m x) is refl refl refl refl
      by (Out u) is = plain (Out u) is refl refl refl refl
      by (Ready u m) is = of_ready u m is (eqb u t) refl
      by (Told k) is = of_told k is (is_cancel_of input.commands t (Told k)) refl
      by (Untold k) is = plain (Untold k) is refl refl refl refl
      by (Admit u m note) is = of_admit u m note is (eqb u t) refl
      by (Hold u m why) is = plain (Hold u m why) is refl refl refl refl
      by End is = at_end is

waited_of : (input : Input) → IsWellFormed input.plant → (front : Front) → is_lawful input front ≡ true → (t : ℕ) → t < trains input.plant → Waited input front t
waited_of input fine [] lawful t known = record { sum = omega (arith, nothing (ltb 0 (moves input.plant t))); since = λ s is. absurd (none_some is) }
waited_of input fine (line ∷ front) lawful t known =
    waited_on input fine line front lawful t known (waited_of input fine front (lawful_before input line front lawful) t known)

-- what a train was held is what it waited for its moves
pub held_for_moves : (input : Input) → IsWellFormed input.plant → (front : Front) → is_lawful input front ≡ true → (t : ℕ) → t < trains input.plant
    → held input.commands front t ≡ move_waits input.plant input.commands front t
held_for_moves input fine front lawful t known = (waited_of input fine front lawful t known).sum
