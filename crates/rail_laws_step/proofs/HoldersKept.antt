-- The table of holders from line to line.
use Rattle.std.proofs.Common.{◌≡◌, ℕ, zero, suc, ◌+◌, ◌<◌, ◌≤◌, Bool, true, false, not, ◌&&◌, ◌||◌, cond, eqb, List, [], ◌∷◌, length, get_or, set, replicate, Option, Some, None, refl, sym, ap, ◌∙◌, subst, ⊎_elim, arith}
use Rattle.std.proofs.lemmas.Bool.{and_left, and_from, cases_Bool, cases_lt, cond-true, cond-false, eqb-true, eq-eqb, ne_eqb, false≢true, or_cases, or_left, or_right}
use Rattle.std.proofs.lemmas.List.{length-set, get_or-set_same, get_or-set_other, get_or_past}
use Rattle.std.proofs.lemmas.Option.{none-some}
use Rattle.rail_base.specs.declared.history.Entry.{Entry}
use Rattle.rail_base.specs.declared.history.What.{What}
use Rattle.rail_base.specs.declared.history.What.TheVariants.{Free, Arrive, Enter, Out, Ready, Told, Untold, Admit, Hold, End}
use Rattle.rail_rules.specs.Accepted.{is_accepted}
use Rattle.rail_rules.specs.Numbers.{is_in, sum_below}
use Rattle.rail_rules.specs.Orders.{Input}
use Rattle.rail_rules.specs.Plant.{Plant, claims, step_section, trains}
use Rattle.rail_rules.specs.Fronts.{Front, Line, admissions, is_admission, same_entry}
use Rattle.rail_rules.specs.Intervals.{end_time, is_open, is_taken_over}
use Rattle.rail_rules.specs.Lawful.{is_lawful}
use Rattle.rail_rules.proofs.CallerLemmas.{admissions_kept}
use Rattle.rail_laws_front.specs.Premises.{IsWellFormed}
use Rattle.rail_laws_front.proofs.CallerLemmas.{well_formed_from_accepted, lawful_before, same_entry_refl}
use Rattle.rail_laws_events.specs.Accounts.{all_events, is_train_event, tally, written}
use Rattle.rail_laws_events.proofs.CallerLemmas.{account, one_entry, train_event_change, tally-append, tally-same}
use Rattle.rail_laws_front.specs.EventLines.{IsEvent}
use Rattle.rail_laws_front.specs.EventLines.IsEvent.{entering, arriving, freeing, leaving, readying}
use Rattle.rail_laws_step.specs.LinesToCome.{ToCome}
use Rattle.rail_laws_step.proofs.Coming.{to_come_found}
use Rattle.rail_laws_step.specs.HolderTables.{AreHolders, frees, frees_for, is_train, taken, taken_by}
use Rattle.rail_laws_step.proofs.Amounts.{sum-le}
use Rattle.rail_laws_step.proofs.Frees.{all_freed, freed, freed_one, frees_by}

-- nobody holds any of so many sections
nobody : ℕ → List (Option ℕ)
nobody n = replicate n None

replicate_none : (n x : ℕ) → get_or (nobody n) x None ≡ None
unfolding nobody
replicate_none zero x = refl
replicate_none (suc n) zero = refl
replicate_none (suc n) (suc x) = replicate_none n x

length_replicate : (n : ℕ) → length (nobody n) ≡ n
unfolding nobody
length_replicate zero = refl
length_replicate (suc n) = ap suc (length_replicate n)

pub at_first : (plant : Plant) → AreHolders plant [] (replicate (length plant.tables.sections) None)
unfolding nobody
at_first plant = record {
  long = length_replicate (length plant.tables.sections);
  each = λ t x lt. ap {B = ℕ} (λ o. cond (is_train t o) 1 0 + 0) (replicate_none (length plant.tables.sections) x);
  known = λ t x is. absurd (none-some t (sym (replicate_none (length plant.tables.sections) x) ∙ is));
}

-- the lines written after a line
pub written_after : (p : Entry → Bool) (line : Line) (front : Front) → tally p (written (line ∷ front)) ≡ tally p (cond (is_train_event line.entry.what) (line.entry ∷ []) []) + tally p (written front)
written_after p line front = tally-append p (cond (is_train_event line.entry.what) (line.entry ∷ []) []) (written front)

pub one_line : (p : Entry → Bool) (b : Bool) (e : Entry) → p e ≡ false → tally p (cond b (e ∷ []) []) ≡ 0
one_line p true e none = omega (arith, cond-false {A = ℕ} (p e) 1 0 none)
one_line p false e none = refl

no_free : (x t : ℕ) (w : What) → ((y u : ℕ) → w ≡ Free y u → ⊥) → frees_for x t w ≡ false
no_free x t (Free y u) other = absurd (other y u refl)
no_free x t (Arrive u m) other = refl
no_free x t (Enter u m y) other = refl
no_free x t (Out u) other = refl
no_free x t (Ready u m) other = refl
no_free x t (Told k) other = refl
no_free x t (Untold k) other = refl
no_free x t (Admit u m note) other = refl
no_free x t (Hold u m why) other = refl
no_free x t End other = refl

pub kept : (plant : Plant) (line : Line) (front : Front) → is_admission line.entry.what ≡ false → ((x t : ℕ) → line.entry.what ≡ Free x t → ⊥) → (h : List (Option ℕ)) → AreHolders plant front h → AreHolders plant (line ∷ front) h
kept plant line front idle other h are = record {
  long = are.long;
  each = λ t x lt.
      omega (
        arith,
        are.each t x lt,
        written_after (frees x t) line front,
        one_line (frees x t) (is_train_event line.entry.what) line.entry (no_free x t line.entry.what other),
        ap (λ adms. taken plant t adms x) (admissions_kept line front t idle),
      );
  known = are.known;
}

-- the free lines of a train on a section are at most as many as it took it
pub freed_few : (plant : Plant) (t : ℕ) (adms : List ℕ) (x : ℕ) (by : ℕ → Bool) → freed plant t adms x by ≤ taken plant t adms x
freed_few plant t adms x by =
    let took : ℕ → ℕ → ℕ = λ m j. cond (eqb (step_section plant t m j) x && not (is_taken_over plant t adms m j)) 1 0 in
    sum-le (λ m. sum_below (freed_one plant t adms x by m) (claims plant t m)) (λ m. sum_below (took m) (claims plant t m)) (length adms)
    (λ m lt. sum-le (freed_one plant t adms x by m) (took m) (claims plant t m)
    (λ j lj. of (is_open plant t adms m j) (is_taken_over plant t adms m j) (eqb (step_section plant t m j) x) (by (end_time plant t adms m j))))
  where
    of : (open_still taken_there here passes : Bool) → cond (open_still || taken_there) 0 (cond (here && passes) 1 0) ≤ cond (here && not taken_there) 1 0
    of true taken_there here passes = omega arith
    of false true here passes = omega arith
    of false false true true = omega arith
    of false false true false = omega arith
    of false false false passes = omega arith

pub is_one : (t : ℕ) (o : Option ℕ) → 0 < cond (is_train t o) 1 0 → o ≡ Some t
is_one t None h = absurd (omega (arith, h))
is_one t (Some u) h =
    ⊎_elim
    (λ same. ap Some (eqb-true u t same))
    (λ other. absurd (omega (arith, h, cond-false {A = ℕ} (eqb u t) 1 0 other)))
    (cases_Bool (eqb u t))

frees_self : (x t : ℕ) → frees_for x t (Free x t) ≡ true
frees_self x t = and_from (eqb x x) (eqb t t) (eq-eqb x x refl) (eq-eqb t t refl)

-- a free line is one of a train of the plant
free_train : What → ℕ
free_train (Free x t) = t
free_train w = 0

freed_known : (input : Input) → IsWellFormed input.plant → (line : Line) (front : Front) → is_lawful input (line ∷ front) ≡ true → (x t : ℕ) → line.entry.what ≡ Free x t → t < trains input.plant
unfolding free_train
freed_known input fine line front lawful x t what =
    let found : ToCome input.plant front (same_entry line.entry) = to_come_found input.plant front (same_entry line.entry)
    (omega (arith, train_event_change input fine line front lawful (ap is_train_event what) (same_entry line.entry), cond-true {A = ℕ} (same_entry line.entry line.entry) 1 0 (same_entry_refl line.entry))) in
    of found.entry found.train found.known found.event (sym (ap (λ (e : Entry). e.what) (one_entry line.entry found.entry found.passes)) ∙ what)
  where
    of : (e : Entry) (u : ℕ) → u < trains input.plant → IsEvent input.plant u (admissions front u) false e → e.what ≡ Free x t → t < trains input.plant
    of e u known (freeing m j lm lj closed is) free = subst (λ v. v < trains input.plant) (ap free_train (sym (ap (λ (d : Entry). d.what) is) ∙ free)) known
    of e u known (entering m j lm lj is) free = absurd (false≢true (ap (frees_for x t) (sym (ap (λ (d : Entry). d.what) is) ∙ free) ∙ frees_self x t))
    of e u known (arriving m lm is) free = absurd (false≢true (ap (frees_for x t) (sym (ap (λ (d : Entry). d.what) is) ∙ free) ∙ frees_self x t))
    of e u known (leaving m lm last is) free = absurd (false≢true (ap (frees_for x t) (sym (ap (λ (d : Entry). d.what) is) ∙ free) ∙ frees_self x t))
    of e u known (readying m lm left runs is) free = absurd (false≢true (ap (frees_for x t) (sym (ap (λ (d : Entry). d.what) is) ∙ free) ∙ frees_self x t))

pub frees_one : (input : Input) → is_accepted input.plant ≡ true → (line : Line) (front : Front)
    → is_lawful input (line ∷ front) ≡ true → (x t : ℕ) → line.entry.what ≡ Free x t
    → (h : List (Option ℕ)) → AreHolders input.plant front h
    → (get_or h x None ≡ Some t) × AreHolders input.plant (line ∷ front) (set h x None)
frees_one input accepted line front lawful x t what h are = (
  holder,
  record {
    long = length-set h x None ∙ are.long;
    each = λ u y lt. each_after u y lt;
    known = λ u y is.
        ⊎_elim
        (λ here. absurd (none-some u (sym (subst (λ z. get_or (set h x None) z None ≡ None) (sym (eqb-true y x here)) freed_there) ∙ is)))
        (λ other. are.known u y (sym (get_or-set_other h x y None None (λ e. false≢true (sym other ∙ eq-eqb y x e))) ∙ is))
        (cases_Bool (eqb y x));
  },
)
  where
    fine : IsWellFormed input.plant
    fine = well_formed_from_accepted input.plant accepted

    known : t < trains input.plant
    known = freed_known input fine line front lawful x t what

    by_any : ℕ → Bool
    by_any n = true

    event : is_train_event line.entry.what ≡ true
    event = ap is_train_event what

    passes : frees x t line.entry ≡ true
    passes = ap (frees_for x t) what ∙ and_from (eqb x x) (eqb t t) (eq-eqb x x refl) (eq-eqb t t refl)

    some : 0 < cond (is_train t (get_or h x None)) 1 0
    some =
        omega (
          arith,
          are.each t x known,
          account input fine front (lawful_before input line front lawful) (frees x t),
          train_event_change input fine line front lawful event (frees x t),
          cond-true {A = ℕ} (frees x t line.entry) 1 0 passes,
          all_freed input.plant front x t (λ n. true) known,
          tally-same (frees_by x t (λ n. true)) (frees x t) (all_events input.plant front) (λ e. and_true (frees x t e)),
          freed_few input.plant t (admissions front t) x (λ n. true),
        )
      where
        and_true : (b : Bool) → (b && true) ≡ b
        and_true true = refl
        and_true false = refl

    holder : get_or h x None ≡ Some t
    holder = is_one t (get_or h x None) some

    in_table : x < length h
    in_table = ⊎_elim (λ lt. lt) (λ past. absurd (none-some t (sym (get_or_past h x None (omega (arith, past))) ∙ holder))) (cases_lt x (length h))

    freed_there : get_or (set h x None) x None ≡ None
    freed_there = get_or-set_same h x None None in_table

    idle : is_admission line.entry.what ≡ false
    idle = ap is_admission what

    line_counts : (u y : ℕ) → tally (frees y u) (written (line ∷ front)) ≡ cond ((eqb x y) && (eqb t u)) 1 0 + tally (frees y u) (written front)
    line_counts u y = omega (arith, written_after (frees y u) line front, ap (tally (frees y u)) (cond-true (is_train_event line.entry.what) (line.entry ∷ []) [] event), ap {B = ℕ} (λ w. cond (frees_for y u w) 1 0) what)

    each_after : (u y : ℕ) → u < trains input.plant → cond (is_train u (get_or (set h x None) y None)) 1 0 + tally (frees y u) (written (line ∷ front)) ≡ taken input.plant u (admissions (line ∷ front) u) y
    each_after u y lt =
        ⊎_elim
        (λ here.
        let same : x ≡ y = sym (eqb-true y x here) in
        let none_now : cond (is_train u (get_or (set h x None) y None)) 1 0 ≡ 0 = ap {B = ℕ} (λ o. cond (is_train u o) 1 0) (subst (λ z. get_or (set h x None) z None ≡ None) same freed_there) in
        let was : cond (is_train u (get_or h y None)) 1 0 ≡ cond (eqb t u) 1 0 = ap {B = ℕ} (λ o. cond (is_train u o) 1 0) (subst (λ z. get_or h z None ≡ Some t) same holder) in
        let counted : cond ((eqb x y) && (eqb t u)) 1 0 ≡ cond (eqb t u) 1 0 = ap {B = ℕ} (λ b. cond (b && (eqb t u)) 1 0) (eq-eqb x y same) in
        omega (arith, none_now, was, counted, line_counts u y, are.each u y lt, ap (λ adms. taken input.plant u adms y) (admissions_kept line front u idle)))
        (λ other.
        let apart : y ≡ x → ⊥ = λ e. false≢true (sym other ∙ eq-eqb y x e) in
        let counted : cond ((eqb x y) && (eqb t u)) 1 0 ≡ 0 = ap {B = ℕ} (λ b. cond b 1 0) (and_left (eqb x y) (eqb t u) (ne_eqb x y (λ e. apart (sym e)))) in
        omega (arith, ap {B = ℕ} (λ o. cond (is_train u o) 1 0) (get_or-set_other h x y None None apart), counted, line_counts u y, are.each u y lt, ap (λ adms. taken input.plant u adms y) (admissions_kept line front u idle)))
        (cases_Bool (eqb y x))

-- the table after a train takes sections
pub taken_out : (h : List (Option ℕ)) (xs : List ℕ) (t y : ℕ) → is_in y xs ≡ false → get_or (taken_by h xs t) y None ≡ get_or h y None
taken_out h [] t y out = refl
taken_out h (x ∷ xs) t y out =
    let here : eqb x y ≡ false = ⊎_elim (λ same. absurd (false≢true (sym out ∙ or_left (eqb x y) (is_in y xs) same))) (λ no_same. no_same) (cases_Bool (eqb x y)) in
    let later : is_in y xs ≡ false = ⊎_elim (λ there. absurd (false≢true (sym out ∙ or_right (eqb x y) (is_in y xs) there))) (λ no_there. no_there) (cases_Bool (is_in y xs)) in
    taken_out (set h x (Some t)) xs t y later ∙ get_or-set_other h x y (Some t) None (λ e. false≢true (sym here ∙ eq-eqb x y (sym e)))

pub taken_in : (h : List (Option ℕ)) (xs : List ℕ) (t y : ℕ) → y < length h → is_in y xs ≡ true → get_or (taken_by h xs t) y None ≡ Some t
taken_in h [] t y lt there = absurd (false≢true there)
taken_in h (x ∷ xs) t y lt there =
    ⊎_elim
    (λ later. taken_in (set h x (Some t)) xs t y (omega (arith, lt, length-set h x (Some t))) later)
    (λ not_later.
    ⊎_elim
    (λ here. taken_out (set h x (Some t)) xs t y not_later ∙ subst (λ z. get_or (set h x (Some t)) z None ≡ Some t) (eqb-true x y here) (get_or-set_same h x (Some t) None (omega (arith, lt, eqb-true x y here))))
    (λ later. absurd (false≢true (sym not_later ∙ later)))
    (or_cases (eqb x y) (is_in y xs) there))
    (cases_Bool (is_in y xs))

pub taken_long : (h : List (Option ℕ)) (xs : List ℕ) (t : ℕ) → length (taken_by h xs t) ≡ length h
taken_long h [] t = refl
taken_long h (x ∷ xs) t = taken_long (set h x (Some t)) xs t ∙ length-set h x (Some t)
