use Rattle.std.proofs.Common.{◌≡◌, ℕ, ◌<◌, ◌≤◌, ◌==◌, List, length, get_or, refl, sym, ◌∙◌, arith, Result, Ok, Err, MatchResult, eq-eqb, ⊎_elim}
use Rattle.std.specs.List.{list_any}
use Rattle.std.specs.Result.{is_ok}
use Rattle.std.proofs.lemmas.Bool.{ne_eqb, cases_lt}
use Rattle.std.proofs.lemmas.List.Folds.{list_any_at}
use Rattle.std.proofs.lemmas.List.Recursion.{or_from_places}
use Rattle.std.proofs.lemmas.List.Sorted.{searched}
use Rattle.rail_capacity.proofs.blocking_times.is_on.Goals as goal

answers :
    (r : Result ℕ ℕ) (sections : List ℕ) (section : ℕ)
    → MatchResult r (λ i. (i < length sections) × (get_or sections i 0 ≡ section)) (λ i. (i ≤ length sections) × ((k : ℕ) → k < i → get_or sections k 0 < section) × ((k : ℕ) → i ≤ k → k < length sections → section < get_or sections k 0))
    → is_ok r ≡ list_any (λ (other : ℕ). other == section) sections
answers (Ok i) sections section found = sym (list_any_at (λ (other : ℕ). other == section) sections i 0 found.0 (eq-eqb (get_or sections i 0) section found.1))
answers (Err i) sections section none =
    sym (or_from_places (list_any (λ (other : ℕ). other == section)) (λ (other : ℕ). other == section) refl (λ _ _. refl) sections 0
    (λ k within. ne_eqb (get_or sections k 0) section (λ same. ⊎_elim
    (λ (low : k < i). let l = none.1 k low in let s = same in absurd (omega arith))
    (λ (high : i ≤ k). let l = none.2 k high within in let s = same in absurd (omega arith))
    (cases_lt k i))))

pub returns : goal.returns
returns c = c.is_ok.ensures.value
    ∙ answers c.binary_search.result c.args.sections.now c.args.section
    (searched c.args.sections.now c.args.section c.binary_search.result c.binary_search.ensures.position (λ i j order within. c.requires i j 0 order within))
