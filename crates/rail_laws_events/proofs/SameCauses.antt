-- The cause of a train's waiting comes from the orders, the admissions, the instant and the kept list alone.
use Rattle.std.proofs.Common.{◌≡◌, ℕ, false, ◌||◌, cond, eqb, List, [], ◌∷◌, length, Some, None, refl, ap, ◌∙◌}
use Rattle.std.specs.Option.{option_map}
use Rattle.rail_base.specs.declared.history.Cause.TheVariants.{Blocked, NoList}
use Rattle.rail_base.specs.declared.history.What.TheVariants.{Told}
use Rattle.rail_rules.specs.Numbers.{or_else, first_below}
use Rattle.rail_rules.specs.Places.{after, completes}
use Rattle.rail_rules.specs.Analysis.{finds}
use Rattle.rail_rules.specs.Plant.{trains, claimed, moves_of}
use Rattle.rail_rules.specs.Fronts.{Line, Front, instant, is_admission, admissions, places, kept, without_first, with_rest_of}
use Rattle.rail_rules.specs.Orders.{Input, told}
use Rattle.rail_rules.specs.Intervals.{bars}
use Rattle.rail_rules.specs.Causes.{place, stop_cause, closed_cause, blocked_cause, bar, is_repairable, cause}
use Rattle.rail_rules.proofs.CallerLemmas.{admissions_kept, gather_same}
use Rattle.rail_laws_front.proofs.CallerLemmas.{told_kept, kept_idle}

-- two fronts with the same orders, admissions, instant and kept list
pub record AreAlike (input : Input) (first second : Front) : Type 0 where
  pub orders : told input.commands first ≡ told input.commands second
  pub admitted : (u : ℕ) → admissions first u ≡ admissions second u
  pub now : instant first ≡ instant second
  pub list : kept input.plant first ≡ kept input.plant second

module _ (input : Input) (first second : Front) (h : AreAlike input first second) where
  blocked_same : (t : ℕ) (sections : List ℕ) → blocked_cause input first t sections ≡ blocked_cause input second t sections
  blocked_same t [] = refl
  blocked_same t (x ∷ sections) =
      let rest = blocked_same t sections in
      λ i. or_else (option_map (Blocked x) (first_below (λ u. bars input.plant t u (h.admitted u i) x (h.now i)) (trains input.plant))) (rest i)

  pub place_same : (t : ℕ) → place first t ≡ place second t
  place_same t = ap length (h.admitted t)

  pub bar_same : (t : ℕ) → bar input first t ≡ bar input second t
  bar_same t =
      let sections : claimed input.plant t (place first t) ≡ claimed input.plant t (place second t) = ap (claimed input.plant t) (place_same t) in
      let blocked : blocked_cause input first t (claimed input.plant t (place first t)) ≡ blocked_cause input second t (claimed input.plant t (place second t)) =
      ap (blocked_cause input first t) sections ∙ blocked_same t (claimed input.plant t (place second t)) in
      λ i. or_else (stop_cause t (h.orders i)) (or_else (closed_cause (sections i) (h.orders i)) (blocked i))

  pub places_same : places input.plant first ≡ places input.plant second
  places_same = gather_same (λ t. length (admissions first t) ∷ []) (λ t. length (admissions second t) ∷ []) (trains input.plant) (λ t _. ap (λ (n : ℕ). n ∷ []) (place_same t))

  pub repairable_same : (t : ℕ) → is_repairable input first t ≡ is_repairable input second t
  repairable_same t =
      let at = place_same t in
      λ i. completes (moves_of input.plant) (after (places_same i) t) (cond (eqb (at i) 0) (with_rest_of input.plant t (h.list i)) (without_first t (h.list i)))

  pub cause_same : (t : ℕ) → cause input first t ≡ cause input second t
  cause_same t =
      let barred = bar_same t in
      let repairs = repairable_same t in
      λ i. or_else (barred i) (cond (repairs i || finds (moves_of input.plant) input.plant.tables.depth (after (places_same i) t)) None (Some NoList))

-- a line at the instant that admits and tells nothing leaves all this
pub alike_after : (input : Input) (line : Line) (front : Front) → is_admission line.entry.what ≡ false → ((k : ℕ) → line.entry.what ≡ Told k → ⊥) → line.entry.at ≡ instant front → AreAlike input (line ∷ front) front
alike_after input line front idle untold now = record {
  orders = told_kept input.commands line front untold;
  admitted = λ u. admissions_kept line front u idle;
  now = now;
  list = kept_idle input.plant (kept input.plant front) line line.entry.what idle;
}
