-- Two lines that a run may write after one front are one, or fresh admissions of one train.
use Rattle.std.proofs.Common.{◌≡◌, ℕ, suc, ◌<◌, ◌≤◌, Bool, true, false, not, ◌&&◌, ◌||◌, eqb, ltb, List, [], ◌∷◌, length, is_some, Some, refl, sym, ap, ◌∙◌, subst, ◌⊎◌, inl, inr, ⊎_elim, arith}
use Rattle.std.specs.List.{list_any}
use Rattle.std.specs.Cmp.Lexicographic.{bytes_decides}
use Rattle.std.proofs.lemmas.Bool.{cases_Bool, cases_lt, false≢true, and_parts, and_from, or_cases, eqb-true, eq-eqb, ltb-true, cond-true, cond-false, not-true}
use Rattle.rail_base.specs.declared.history.Entry.{Entry}
use Rattle.rail_base.specs.declared.history.What.{What}
use Rattle.rail_base.specs.declared.history.What.TheVariants.{Admit, Hold}
use Rattle.rail_base.specs.declared.history.Note.{Note}
use Rattle.rail_base.specs.declared.history.Note.TheVariants.{Pulled, Appended, Fresh}
use Rattle.rail_base.specs.declared.history.Cause.{Cause}
use Rattle.rail_base.specs.declared.limits.TheConstants.{TRAINS}
use Rattle.rail_rules.specs.Numbers.{all_below, comes_before, same_numbers}
use Rattle.rail_rules.specs.Places.{completes}
use Rattle.rail_rules.specs.Plant.{trains, moves_of}
use Rattle.rail_rules.specs.Fronts.{Line, Front, instant, is_admission, kept, kept_after, without_first, with_rest_of, cause_code, option_code, same_cause, code_of, rank, same_entry}
use Rattle.rail_rules.specs.Orders.{Input}
use Rattle.rail_rules.specs.Events.{due_lines, is_quiet}
use Rattle.rail_rules.specs.Causes.{place, is_ready, is_deciding, cause, could_go, is_told_so, is_settled, is_repairable, places_after}
use Rattle.rail_rules.specs.Lawful.{is_lawful, is_bare, note_fits, remaining}
use Rattle.rail_rules.specs.RunHistories.{Seat, repairs_first, is_chosen, is_run_line}
use Rattle.rail_rules.proofs.CallerLemmas.{all_below_at}
use Rattle.rail_laws_front.specs.Premises.{IsWellFormed}
use Rattle.rail_laws_front.specs.Views.{Happens, Admits, Holds, Ends, Follows}
use Rattle.rail_laws_front.specs.Views.Follows.{by_event, by_admission, by_hold, by_end}
use Rattle.rail_laws_front.proofs.CallerLemmas.{never_goes, waiting_parts, deciding_quiet}
use Rattle.rail_laws_events.proofs.CallerLemmas.{same_what, has_rank, due_once}
use Rattle.rail_laws_end.specs.Forks.{is_built_in, kind_in_force, are_marks, AreForked}
use Rattle.rail_laws_end.proofs.Ordered.{neither_before, event_rank, none_at, only_one}
use Rattle.rail_laws_end.proofs.Chosen.{one_chosen}

bare_trains : (a b : Line) → is_bare a ≡ true → is_bare b ≡ true → a.trains ≡ b.trains
bare_trains a b ha hb = nothing a.trains ha ∙ sym (nothing b.trains hb)
  where
    nothing : (xs : List ℕ) → eqb (length xs) 0 ≡ true → xs ≡ []
    nothing [] h = refl
    nothing (x ∷ xs) h = absurd (omega (arith, eqb-true (suc (length xs)) 0 h))

one_line : (a b : Line) → a.entry ≡ b.entry → a.trains ≡ b.trains → a ≡ b
one_line a b entries lists = λ i. record { entry = entries i; trains = lists i }

entry_from : (a b : Entry) → a.at ≡ b.at → a.what ≡ b.what → a ≡ b
entry_from a b times whats = λ i. record { at = times i; what = whats i }

-- a due line isn't at an instant where nothing is due
pub not_now : (due : List Entry) (e : Entry) (now : ℕ) → list_any (same_entry e) due ≡ true → is_quiet due now ≡ true → e.at ≡ now → ⊥
not_now due e now is quiet at =
    let none = none_at (λ (d : Entry). eqb d.at now) due e is (not-true (list_any (λ (d : Entry). eqb d.at now) due) quiet) in
    false≢true (sym none ∙ eq-eqb e.at now at)

nothing_due : (due : List Entry) (e : Entry) → length due ≡ 0 → list_any (same_entry e) due ≡ true → ⊥
nothing_due [] e none is = false≢true is
nothing_due (d ∷ due) e none is = omega (arith, none)

module _ (input : Input) (fine : IsWellFormed input.plant) (few : trains input.plant ≤ TRAINS) (seats : List Seat) (marks : are_marks seats ≡ true) (front : Front) (lawful : is_lawful input front ≡ true) where
  -- a settled front has a told cause for each ready train
  pub settled_parts : (t : ℕ) → t < trains input.plant → is_settled input front ≡ true → is_ready input front t ≡ true → (is_some (cause input front t) ≡ true) × (is_told_so input front t ≡ true)
  settled_parts t lt settled ready = at_front front settled ready
    where
      at_front : (f : Front) → is_settled input f ≡ true → is_ready input f t ≡ true → (is_some (cause input f t) ≡ true) × (is_told_so input f t ≡ true)
      at_front [] settled ready = absurd (false≢true (and_parts _ false ready).1)
      at_front (line ∷ before) settled ready =
          let f : Front = line ∷ before in
          let test : ℕ → Bool = λ u. not (is_ready input f u) || (is_some (cause input f u) && is_told_so input f u) in
          let here = all_below_at test (trains input.plant) t (and_parts _ (all_below test (trains input.plant)) settled).1 lt in
          ⊎_elim
          (λ idle. absurd (false≢true (sym (not-true (is_ready input f t) idle) ∙ ready)))
          (λ both. and_parts (is_some (cause input f t)) (is_told_so input f t) both)
          (or_cases (not (is_ready input f t)) (is_some (cause input f t) && is_told_so input f t) here)

  pub ready_known : (t : ℕ) → is_ready input front t ≡ true → t < trains input.plant
  ready_known t ready =
      ⊎_elim
      (λ lt. lt)
      (λ past. absurd (false≢true (sym (never_goes input front t past) ∙ ready)))
      (cases_lt t (trains input.plant))

  -- a run's admission is of a train without a cause
  record Runs (line : Line) (t : ℕ) (note : Note) : Type 0 where
    ready : is_ready input front t ≡ true
    uncaused : is_some (cause input front t) ≡ false
    goes : could_go input front t ≡ true
    repairs : repairs_first input front t note ≡ true
    chosen : is_chosen input seats front t ≡ true

  runs_from : (line : Line) (t m : ℕ) (note : Note) → Admits input front line t m note → is_run_line input seats front line.entry.what ≡ true → Runs line t note
  runs_from line t m note admits run =
      let P : What → Type 0 = λ what. is_run_line input seats front what ≡ true in
      let both = and_parts (not (is_some (cause input front t)) && repairs_first input front t note) (is_chosen input seats front t) (subst P admits.what run) in
      let two = and_parts (not (is_some (cause input front t))) (repairs_first input front t note) both.0 in
      let ready = (waiting_parts input front t admits.waiting).ready in
      record {
        ready = ready;
        uncaused = not-true (is_some (cause input front t)) two.0;
        goes = and_from (is_ready input front t) (not (is_some (cause input front t))) ready two.0;
        repairs = two.1;
        chosen = both.1;
      }

  -- lines of two kinds exclude each other
  pub event_alone : (a : Line) → Happens input front a → is_deciding input front ≡ true → (is_settled input front ≡ true → ⊥) → ⊥
  event_alone a happens deciding unsettled =
      ⊎_elim
      (λ now. not_now (due_lines input front) a.entry (instant front) happens.due (deciding_quiet input front deciding) now)
      (λ settled. unsettled settled)
      happens.when

  admission_unsettles : (line : Line) (t : ℕ) (note : Note) → Runs line t note → is_settled input front ≡ true → ⊥
  admission_unsettles line t note runs settled = false≢true (sym runs.uncaused ∙ (settled_parts t (ready_known t runs.ready) settled runs.ready).0)

  pub hold_unsettles : (line : Line) (t m : ℕ) (why : Cause) → Holds input front line t m why → is_settled input front ≡ true → ⊥
  hold_unsettles line t m why holds settled =
      let both = and_parts (is_ready input front t) (not (is_told_so input front t)) holds.due in
      false≢true (sym (not-true (is_told_so input front t) both.1) ∙ (settled_parts t (ready_known t both.0) settled both.0).1)

  event_event : (a b : Line) → Happens input front a → Happens input front b → a ≡ b
  event_event a b ha hb =
      let due : List Entry = due_lines input front in
      let first : comes_before (rank b.entry) (rank a.entry) ≡ false = none_at (λ d. comes_before (rank d) (rank a.entry)) due b.entry hb.due ha.least in
      let second : comes_before (rank a.entry) (rank b.entry) ≡ false = none_at (λ d. comes_before (rank d) (rank b.entry)) due a.entry ha.due hb.least in
      let ranks : rank a.entry ≡ rank b.entry = neither_before (rank a.entry) (rank b.entry) (event_rank a.entry ha.event ∙ sym (event_rank b.entry hb.event)) second first in
      let same : a.entry ≡ b.entry =
      only_one (has_rank (rank b.entry)) due a.entry b.entry ha.due hb.due
      ((bytes_decides (rank a.entry) (rank b.entry)).1 ranks) ((bytes_decides (rank b.entry) (rank b.entry)).1 refl)
      (due_once input fine front lawful (rank b.entry)) in
      one_line a b same (bare_trains a b ha.bare hb.bare)

  hold_hold : (a b : Line) (t m u n : ℕ) (why other : Cause) → Holds input front a t m why → Holds input front b u n other → a ≡ b
  hold_hold a b t m u n why other ha hb =
      let same : t ≡ u =
      ⊎_elim
      (λ less. absurd (false≢true (sym (hb.first t less) ∙ ha.due)))
      (λ no_less. ⊎_elim
      (λ more. absurd (false≢true (sym (ha.first u more) ∙ hb.due)))
      (λ no_more. omega (arith, no_less, no_more))
      (cases_lt u t))
      (cases_lt t u) in
      let moves_same : m ≡ n = ha.next ∙ ap (λ v. suc (place front v)) same ∙ sym hb.next in
      let P : ℕ → Type 0 = λ v. same_cause (Some other) (cause input front v) ≡ true in
      let causes : cause_code why ≡ cause_code other =
      (bytes_decides (option_code (Some why)) (option_code (cause input front t))).0 ha.true_cause ∙ sym ((bytes_decides (option_code (Some other)) (option_code (cause input front t))).0 (subst P (sym same) hb.true_cause)) in
      let codes : code_of (Hold t m why) ≡ code_of (Hold u n other) = λ i. 7 ∷ same i ∷ moves_same i ∷ causes i in
      let what : a.entry.what ≡ b.entry.what = ha.what ∙ same_what (Hold t m why) (Hold u n other) ((bytes_decides (code_of (Hold t m why)) (code_of (Hold u n other))).1 codes) ∙ sym hb.what in
      one_line a b (entry_from a.entry b.entry (ha.now ∙ sym hb.now) what) (bare_trains a b ha.bare hb.bare)

  end_end : (a b : Line) → Ends input front a → Ends input front b → a ≡ b
  end_end a b ha hb =
      one_line a b (entry_from a.entry b.entry (ha.now ∙ sym hb.now) (ha.what ∙ sym hb.what))
      ((bytes_decides a.trains (remaining input front)).0 ha.names ∙ sym ((bytes_decides b.trains (remaining input front)).0 hb.names))

  -- where the repaired list is kept, it completes
  keeps_repaired : (line : Line) (t m : ℕ) (note : Note) → Admits input front line t m note → (note ≡ Fresh → ⊥) → (is_bare line ≡ true) × (is_repairable input front t ≡ true)
  keeps_repaired line t m note admits not_fresh = by_note note refl
    where
      completing : (n : Note) → note ≡ n → completes (moves_of input.plant) (places_after input front t) (kept_after input.plant (kept input.plant front) line (Admit t m n)) ≡ true
      completing n is =
          let P : What → Type 0 = λ what. completes (moves_of input.plant) (places_after input front t) (kept_after input.plant (kept input.plant front) line what) ≡ true in
          subst P (admits.what ∙ ap (Admit t m) is) admits.completing

      by_note : (n : Note) → note ≡ n → (is_bare line ≡ true) × (is_repairable input front t ≡ true)
      by_note Pulled is =
          let P : Note → Type 0 = λ k. note_fits line (place front t) k ≡ true in
          let fits = and_parts (is_bare line) (ltb 0 (place front t)) (subst P is admits.fits) in
          (fits.0, ap (completes (moves_of input.plant) (places_after input front t)) (cond-false (eqb (place front t) 0) (with_rest_of input.plant t (kept input.plant front)) (without_first t (kept input.plant front)) (positive (place front t) fits.1)) ∙ completing Pulled is)
        where
          positive : (p : ℕ) → ltb 0 p ≡ true → eqb p 0 ≡ false
          positive p h = ⊎_elim (λ zero_p. absurd (omega (arith, ltb-true 0 p h, eqb-true p 0 zero_p))) (λ none. none) (cases_Bool (eqb p 0))
      by_note Appended is =
          let P : Note → Type 0 = λ k. note_fits line (place front t) k ≡ true in
          let fits = and_parts (is_bare line) (eqb (place front t) 0) (subst P is admits.fits) in
          (fits.0, ap (completes (moves_of input.plant) (places_after input front t)) (cond-true (eqb (place front t) 0) (with_rest_of input.plant t (kept input.plant front)) (without_first t (kept input.plant front)) fits.1) ∙ completing Appended is)
      by_note Fresh is = absurd (not_fresh is)

  -- the note that keeps the repaired list is fixed by the place
  note_same : (a b : Line) (t m n : ℕ) (first second : Note) → Admits input front a t m first → Admits input front b t n second → (first ≡ Fresh → ⊥) → (second ≡ Fresh → ⊥) → first ≡ second
  note_same a b t m n Pulled Pulled ha hb fa fb = refl
  note_same a b t m n Appended Appended ha hb fa fb = refl
  note_same a b t m n Pulled Appended ha hb fa fb = absurd (omega (arith, ltb-true 0 (place front t) (and_parts (is_bare a) (ltb 0 (place front t)) ha.fits).1, eqb-true (place front t) 0 (and_parts (is_bare b) (eqb (place front t) 0) hb.fits).1))
  note_same a b t m n Appended Pulled ha hb fa fb = absurd (omega (arith, eqb-true (place front t) 0 (and_parts (is_bare a) (eqb (place front t) 0) ha.fits).1, ltb-true 0 (place front t) (and_parts (is_bare b) (ltb 0 (place front t)) hb.fits).1))
  note_same a b t m n Fresh second ha hb fa fb = absurd (fa refl)
  note_same a b t m n first Fresh ha hb fa fb = absurd (fb refl)

  is_fresh : (note : Note) → (note ≡ Fresh) ⊎ (note ≡ Fresh → ⊥)
  is_fresh Pulled = inr (λ e. cc)
  is_fresh Appended = inr (λ e. cc)
  is_fresh Fresh = inl refl

  same_train : (a b : Line) (t m n : ℕ) (first second : Note) → Admits input front a t m first → Admits input front b t n second → repairs_first input front t first ≡ true → repairs_first input front t second ≡ true → (a ≡ b) ⊎ AreForked a b
  same_train a b t m n first second ha hb ra rb =
      let moves_same : m ≡ n = ha.next ∙ sym hb.next in
      let entries : (first ≡ second) → a.entry ≡ b.entry = λ notes.
      entry_from a.entry b.entry (ha.now ∙ sym hb.now) (ha.what ∙ (λ i. Admit t (moves_same i) (notes i)) ∙ sym hb.what) in
      let clash : (line : Line) (k : ℕ) (note other : Note) → Admits input front line t k note → (note ≡ Fresh → ⊥) → repairs_first input front t other ≡ true → other ≡ Fresh → ⊥ = λ line k note other admits not_fresh repairs fresh.
      let P : Note → Type 0 = λ v. repairs_first input front t v ≡ true in
      false≢true (sym (not-true (is_repairable input front t) (subst P fresh repairs)) ∙ (keeps_repaired line t k note admits not_fresh).1) in
      ⊎_elim
      (λ fresh_a. ⊎_elim
      (λ fresh_b.
      let same = entries (fresh_a ∙ sym fresh_b) in
      ⊎_elim
      (λ lists. inl (one_line a b same ((bytes_decides a.trains b.trains).0 lists)))
      (λ differ. inr (record {
        train = t;
        move = m;
        fresh = ha.what ∙ ap (Admit t m) fresh_a;
        same = same;
        different = λ equal. false≢true (sym differ ∙ (bytes_decides a.trains b.trains).1 equal);
      }))
      (cases_Bool (same_numbers a.trains b.trains)))
      (λ kept_b. absurd (clash b n second first hb kept_b ra fresh_a))
      (is_fresh second))
      (λ kept_a. ⊎_elim
      (λ fresh_b. absurd (clash a m first second ha kept_a rb fresh_b))
      (λ kept_b. inl (one_line a b (entries (note_same a b t m n first second ha hb kept_a kept_b)) (bare_trains a b (keeps_repaired a t m first ha kept_a).0 (keeps_repaired b t n second hb kept_b).0)))
      (is_fresh second))
      (is_fresh first)

  admission_admission : (a b : Line) (t m u n : ℕ) (first second : Note) → is_built_in (kind_in_force input seats front) ≡ true → Admits input front a t m first → Admits input front b u n second → Runs a t first → Runs b u second → (a ≡ b) ⊎ AreForked a b
  admission_admission a b t m u n first second built ha hb ra rb =
      let one : t ≡ u = one_chosen input seats front t u built marks few (ready_known t ra.ready) (ready_known u rb.ready) ra.goes rb.goes ra.chosen rb.chosen in
      let P : ℕ → Type 0 = λ v. Admits input front b v n second in
      let Q : ℕ → Type 0 = λ v. repairs_first input front v second ≡ true in
      same_train a b t m n first second ha (subst P (sym one) hb) ra.repairs (subst Q (sym one) rb.repairs)

  -- two next lines of a run
  pub next_lines : (a b : Line) → Follows input front a → Follows input front b
      → is_run_line input seats front a.entry.what ≡ true → is_run_line input seats front b.entry.what ≡ true
      → (is_admission a.entry.what ≡ true → is_admission b.entry.what ≡ true
      → is_built_in (kind_in_force input seats front) ≡ true)
      → (a ≡ b) ⊎ AreForked a b
  next_lines a b (by_event ha) (by_event hb) ra rb built = inl (event_event a b ha hb)
  next_lines a b (by_event ha) (by_admission u n note hb) ra rb built = absurd (event_alone a ha (waiting_parts input front u hb.waiting).deciding (admission_unsettles b u note (runs_from b u n note hb rb)))
  next_lines a b (by_event ha) (by_hold u n why hb) ra rb built = absurd (event_alone a ha hb.deciding (hold_unsettles b u n why hb))
  next_lines a b (by_event ha) (by_end hb) ra rb built = absurd (nothing_due (due_lines input front) a.entry hb.nothing_due ha.due)
  next_lines a b (by_admission t m note ha) (by_event hb) ra rb built = absurd (event_alone b hb (waiting_parts input front t ha.waiting).deciding (admission_unsettles a t note (runs_from a t m note ha ra)))
  next_lines a b (by_admission t m note ha) (by_admission u n other hb) ra rb built =
      admission_admission a b t m u n note other (built (ap is_admission ha.what) (ap is_admission hb.what)) ha hb (runs_from a t m note ha ra) (runs_from b u n other hb rb)
  next_lines a b (by_admission t m note ha) (by_hold u n why hb) ra rb built = absurd (false≢true (sym (hb.nobody t) ∙ (runs_from a t m note ha ra).goes))
  next_lines a b (by_admission t m note ha) (by_end hb) ra rb built = absurd (admission_unsettles a t note (runs_from a t m note ha ra) hb.settled)
  next_lines a b (by_hold t m why ha) (by_event hb) ra rb built = absurd (event_alone b hb ha.deciding (hold_unsettles a t m why ha))
  next_lines a b (by_hold t m why ha) (by_admission u n note hb) ra rb built = absurd (false≢true (sym (ha.nobody u) ∙ (runs_from b u n note hb rb).goes))
  next_lines a b (by_hold t m why ha) (by_hold u n other hb) ra rb built = inl (hold_hold a b t m u n why other ha hb)
  next_lines a b (by_hold t m why ha) (by_end hb) ra rb built = absurd (hold_unsettles a t m why ha hb.settled)
  next_lines a b (by_end ha) (by_event hb) ra rb built = absurd (nothing_due (due_lines input front) b.entry ha.nothing_due hb.due)
  next_lines a b (by_end ha) (by_admission u n note hb) ra rb built = absurd (admission_unsettles b u note (runs_from b u n note hb rb) ha.settled)
  next_lines a b (by_end ha) (by_hold u n why hb) ra rb built = absurd (hold_unsettles b u n why hb ha.settled)
  next_lines a b (by_end ha) (by_end hb) ra rb built = inl (end_end a b ha hb)
