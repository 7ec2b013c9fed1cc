-- Counting the free lines of a train on a section.
use Rattle.std.proofs.Common.{◌≡◌, ℕ, suc, ◌+◌, ◌<◌, min, Bool, true, false, ◌&&◌, cond, eqb, List, [], ◌∷◌, ◌++◌, length, Option, Some, None, refl, sym, ap, ◌∙◌, arith}
use Rattle.std.proofs.lemmas.Bool.{and_right, cond-false, eq-eqb, ne_eqb}
use Rattle.rail_base.specs.declared.history.Entry.{Entry}
use Rattle.rail_base.specs.declared.history.What.TheVariants.{Free}
use Rattle.rail_rules.specs.Numbers.{gather, sum_below}
use Rattle.rail_rules.specs.Plant.{Plant, moves, steps, claims, step_section, trains}
use Rattle.rail_rules.specs.Fronts.{Front, admissions, at_time}
use Rattle.rail_rules.specs.Intervals.{end_time, freed_at, is_unfreed}
use Rattle.rail_rules.specs.Events.{arrive_line, enter_line, free_lines, move_events, moved_events, out_lines, ready_events, ready_line, train_events}
use Rattle.rail_laws_events.specs.Accounts.{all_events, tally}
use Rattle.rail_laws_events.proofs.CallerLemmas.{tally-gather, tally-append}
use Rattle.rail_laws_step.specs.HolderTables.{frees}
use Rattle.rail_laws_step.proofs.Amounts.{sum-equal, sum-only, sum-zero}

-- the free line of a section that is given free, and passes a test of its time
abbrev pub freed_one : Plant → ℕ → List ℕ → ℕ → (ℕ → Bool) → ℕ → ℕ → ℕ
freed_one plant t adms x by m j = cond (is_unfreed plant t adms m j) 0 (cond ((eqb (step_section plant t m j) x) && by (end_time plant t adms m j)) 1 0)

-- how many free lines of the train on the section there are whose time passes a test
abbrev pub freed : Plant → ℕ → List ℕ → ℕ → (ℕ → Bool) → ℕ
freed plant t adms x by = sum_below (λ m. sum_below (freed_one plant t adms x by m) (claims plant t m)) (length adms)

-- the test of an entry
abbrev pub frees_by : ℕ → ℕ → (ℕ → Bool) → Entry → Bool
frees_by x t by e = frees x t e && by e.at

none_of : (p : Entry → Bool) (f : ℕ → Entry) (n : ℕ) → ((i : ℕ) → p (f i) ≡ false) → tally p (gather (λ i. f i ∷ []) n) ≡ 0
none_of p f n none = tally-gather p (λ i. f i ∷ []) n ∙ sum-zero (λ i. tally p (f i ∷ [])) n (λ i lt. omega (arith, cond-false {A = ℕ} (p (f i)) 1 0 (none i)))

of_free : (x t : ℕ) (by : ℕ → Bool) (u y : ℕ) (o : Option ℕ) (closed : Bool) (end : ℕ) → o ≡ cond closed None (Some end) → (u ≡ t) → tally (frees_by x t by) (free_lines u y o) ≡ cond closed 0 (cond ((eqb y x) && by end) 1 0)
of_free x t by u y o true end is same = ap (λ z. tally (frees_by x t by) (free_lines u y z)) is
of_free x t by u y o false end is same =
    ap (λ z. tally (frees_by x t by) (free_lines u y z)) is
    ∙ ap {B = ℕ} (λ b. cond (b && by end) 1 0 + 0) (of_train (eqb y x) (eqb u t) (eq-eqb u t same))
    ∙ omega arith
  where
    of_train : (a b : Bool) → b ≡ true → (a && b) ≡ a
    of_train true b h = h
    of_train false b h = refl

of_other : (x t : ℕ) (by : ℕ → Bool) (u y : ℕ) (o : Option ℕ) → (u ≡ t → ⊥) → tally (frees_by x t by) (free_lines u y o) ≡ 0
of_other x t by u y None other = refl
of_other x t by u y (Some end) other =
    ap {B = ℕ} (λ b. cond (b && by end) 1 0 + 0) (and_right (eqb y x) (eqb u t) (ne_eqb u t other))

out_none : (plant : Plant) (x t : ℕ) (by : ℕ → Bool) (u : ℕ) (adms : List ℕ) (m : ℕ) (b : Bool) → b ≡ eqb (suc m) (moves plant u) → tally (frees_by x t by) (out_lines plant u adms m) ≡ 0
out_none plant x t by u adms m true is = ap (λ b. tally (frees_by x t by) (cond b (at_time (Rattle.rail_rules.specs.Times.out plant u adms m) (Rattle.rail_base.specs.declared.history.What.TheVariants.Out u) ∷ []) [])) (sym is)
out_none plant x t by u adms m false is = ap (λ b. tally (frees_by x t by) (cond b (at_time (Rattle.rail_rules.specs.Times.out plant u adms m) (Rattle.rail_base.specs.declared.history.What.TheVariants.Out u) ∷ []) [])) (sym is)

-- of a move
of_move : (plant : Plant) (x t : ℕ) (by : ℕ → Bool) (u : ℕ) (adms : List ℕ) (m : ℕ) → tally (frees_by x t by) (move_events plant u adms m) ≡ tally (frees_by x t by) (gather (λ j. free_lines u (step_section plant u m j) (freed_at plant u adms m j)) (claims plant u m))
of_move plant x t by u adms m =
    let p : Entry → Bool = frees_by x t by in
    let enters : List Entry = gather (λ j. enter_line plant u adms m j ∷ []) (steps plant u m) in
    let arrives : List Entry = arrive_line plant u adms m ∷ [] in
    let frees_lines : List Entry = gather (λ j. free_lines u (step_section plant u m j) (freed_at plant u adms m j)) (claims plant u m) in
    let no_arrival : tally p arrives ≡ 0 = refl in
    omega (
      arith,
      tally-append p (enters ++ arrives ++ frees_lines) (out_lines plant u adms m),
      tally-append p (enters ++ arrives) frees_lines,
      tally-append p enters arrives,
      none_of p (enter_line plant u adms m) (steps plant u m) (λ j. refl),
      no_arrival,
      out_none plant x t by u adms m (eqb (suc m) (moves plant u)) refl,
    )

-- of all moves of a train
of_train_events : (plant : Plant) (x t : ℕ) (by : ℕ → Bool) (u : ℕ) (adms : List ℕ)
    → tally (frees_by x t by) (train_events plant u adms false)
    ≡ sum_below
    (λ m. tally (frees_by x t by)
    (gather (λ j. free_lines u (step_section plant u m j) (freed_at plant u adms m j)) (claims plant u m)))
    (length adms)
of_train_events plant x t by u adms =
    let p : Entry → Bool = frees_by x t by in
    omega (
      arith,
      tally-append p (moved_events plant u adms) (ready_events plant u adms),
      none_of p (ready_line plant u adms) (min (suc (length adms)) (moves plant u)) (λ m. refl),
      tally-gather p (move_events plant u adms) (length adms),
      sum-equal (λ m. tally p (move_events plant u adms m)) (λ m. tally p (gather (λ j. free_lines u (step_section plant u m j) (freed_at plant u adms m j)) (claims plant u m))) (length adms) (λ m lt. of_move plant x t by u adms m),
    )

own : (plant : Plant) (x t : ℕ) (by : ℕ → Bool) (adms : List ℕ) → tally (frees_by x t by) (train_events plant t adms false) ≡ freed plant t adms x by
own plant x t by adms =
    of_train_events plant x t by t adms
    ∙ sum-equal (λ m. tally (frees_by x t by) (gather (λ j. free_lines t (step_section plant t m j) (freed_at plant t adms m j)) (claims plant t m))) (λ m. sum_below (freed_one plant t adms x by m) (claims plant t m)) (length adms)
    (λ m lt. tally-gather (frees_by x t by) (λ j. free_lines t (step_section plant t m j) (freed_at plant t adms m j)) (claims plant t m)
    ∙ sum-equal (λ j. tally (frees_by x t by) (free_lines t (step_section plant t m j) (freed_at plant t adms m j))) (freed_one plant t adms x by m) (claims plant t m)
    (λ j lj. of_free x t by t (step_section plant t m j) (freed_at plant t adms m j) (is_unfreed plant t adms m j) (end_time plant t adms m j) refl refl))

foreign : (plant : Plant) (x t : ℕ) (by : ℕ → Bool) (u : ℕ) (adms : List ℕ) → (u ≡ t → ⊥) → tally (frees_by x t by) (train_events plant u adms false) ≡ 0
foreign plant x t by u adms other =
    of_train_events plant x t by u adms
    ∙ sum-zero (λ m. tally (frees_by x t by) (gather (λ j. free_lines u (step_section plant u m j) (freed_at plant u adms m j)) (claims plant u m))) (length adms)
    (λ m lt. tally-gather (frees_by x t by) (λ j. free_lines u (step_section plant u m j) (freed_at plant u adms m j)) (claims plant u m)
    ∙ sum-zero (λ j. tally (frees_by x t by) (free_lines u (step_section plant u m j) (freed_at plant u adms m j))) (claims plant u m) (λ j lj. of_other x t by u (step_section plant u m j) (freed_at plant u adms m j) other))

-- the free lines of a train among all event lines are those of its sections that are given free
pub all_freed : (plant : Plant) (front : Front) (x t : ℕ) (by : ℕ → Bool) → t < trains plant → tally (frees_by x t by) (all_events plant front) ≡ freed plant t (admissions front t) x by
all_freed plant front x t by known =
    tally-gather (frees_by x t by) (λ u. train_events plant u (admissions front u) false) (trains plant)
    ∙ sum-only (λ u. tally (frees_by x t by) (train_events plant u (admissions front u) false)) (trains plant) t known (λ u lt other. foreign plant x t by u (admissions front u) other)
    ∙ own plant x t by (admissions front t)
