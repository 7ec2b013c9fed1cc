-- Sections that fall to one train where another one goes on.
use Rattle.std.proofs.Common.{◌≡◌, ◌≢◌, ℕ, ◌+◌, ◌<◌, true, false, List, length, set, sym, ap, ◌∙◌, subst, ⊎_elim, arith}
use Rattle.std.proofs.lemmas.Bool.{cases_Bool, cases_eq, false≢true}
use Rattle.std.proofs.lemmas.List.{get_or-set_same, get_or-set_other, length-set}
use Rattle.rail_rules.specs.Numbers.{is_in, sum_below}
use Rattle.rail_rules.specs.Moves.{Moves, is_valid}
use Rattle.rail_rules.specs.Places.{place_of, is_inside, is_valid_state}
use Rattle.rail_sets.specs.Counts.{Columns}
use Rattle.rail_sets.specs.Sets.{has}
use Rattle.rail_consequence.specs.Needs.{IsCounted, count_of, needs_from, needs_left, one_if}
use Rattle.rail_consequence.specs.declared.notes.SearchNotes.{SearchNotes}
use Rattle.rail_consequence.specs.declared.notes.Stop.{Stop}
use Rattle.rail_consequence.specs.declared.notes.Stop.TheVariants.{Unknown, Free, Next, Later}
use Rattle.rail_consequence.specs.Stops.{IsNoted, IsNotedTo, IsUntouched, stop_of}
use Rattle.rail_consequence.proofs.Counts.{left_at, left_entered, one_false, one_true, sum_shift}
use Rattle.rail_consequence.proofs.Legs.{inside_listed, inside_parts, inside_same}
use Rattle.rail_consequence.proofs.Stopping.{behind_still, IsPassed}

-- where a train went on, and the set has the sections that it and one other needed and it needs no more, a train that needs none of the set is left alone in need of no section
pub passed_by : (plan : Moves) (s : List ℕ) (counts : Columns) (t p u : ℕ) (fell : List ℕ) → IsCounted plan s counts → is_inside plan s t ≡ true → place_of s t < p
    → ((x : ℕ) → needs_from plan t (place_of s t) x ≡ true → needs_from plan t p x ≡ false → count_of counts x ≡ 2 → has fell x ≡ true)
    → IsUntouched plan s fell u → u ≢ t → IsPassed plan (set s t p) t u (place_of s t)
passed_by plan s counts t p u fell counted inside ahead falls untouched ne i x from below within needed gone one =
    let lt : t < length s = inside_listed plan s t inside in
    let entered : 0 < place_of s t = (inside_parts plan s t inside).0 in
    let here : place_of (set s t p) t ≡ p = get_or-set_same s t p 0 lt in
    let f : ℕ → ℕ = λ v. one_if (needs_left plan v (place_of (set s t p) v) x) in
    let g : ℕ → ℕ = λ v. one_if (needs_left plan v (place_of s v) x) in
    let before : needs_left plan t (place_of s t) x ≡ true = left_at plan t (place_of s t) x i entered from within needed in
    let shift : sum_below f (length s) + 1 ≡ sum_below g (length s) + 0 =
    sum_shift f g (length s) t 1 0 lt (omega (arith, one_false (needs_left plan t (place_of (set s t p) t) x) gone, one_true (needs_left plan t (place_of s t) x) before))
    (λ v other. ap (λ q. one_if (needs_left plan v q x)) (get_or-set_other s t v p 0 other)) in
    let two : count_of counts x ≡ 2 = omega (arith, counted x, shift, one, ap (sum_below f) (length-set s t p)) in
    let past : needs_from plan t p x ≡ false = sym (left_entered plan t p x (omega (arith, ahead))) ∙ ap (λ k. needs_left plan t k x) (sym here) ∙ gone in
    let fallen : has fell x ≡ true = falls x (sym (left_entered plan t (place_of s t) x entered) ∙ before) past two in
    ap (λ k. needs_left plan u k x) (get_or-set_other s t u p 0 ne)
    ∙ ⊎_elim (λ needs. absurd (false≢true (sym (untouched x needs) ∙ fallen))) (λ out. out) (cases_Bool (needs_left plan u (place_of s u) x))

module _ (plan : Moves) (s : List ℕ) (counts : Columns) (t p : ℕ) (old new : SearchNotes) (valid : is_valid plan ≡ true) (state : is_valid_state plan s ≡ true) (counted : IsCounted plan s counts)
    (was : is_inside plan s t ≡ true) (ahead : place_of s t < p) (kept : (x : ℕ) → has old.fell x ≡ true → has new.fell x ≡ true)
    (falls : (x : ℕ) → needs_from plan t (place_of s t) x ≡ true → needs_from plan t p x ≡ false → count_of counts x ≡ 2 → has new.fell x ≡ true) where
  -- a train that needs none of the sections of a set needed none of those that it had before
  untouched_before : (u : ℕ) → u ≢ t → IsUntouched plan (set s t p) new.fell u → IsUntouched plan s new.fell u
  untouched_before u ne untouched y needs = untouched y (ap (λ q. needs_left plan u q y) (get_or-set_other s t u p 0 ne) ∙ needs)

  untouched_less : (u : ℕ) → IsUntouched plan s new.fell u → IsUntouched plan s old.fell u
  untouched_less u untouched y needs =
      ⊎_elim
      (λ fallen. absurd (false≢true (sym (untouched y needs) ∙ kept y fallen)))
      (λ out. out)
      (cases_Bool (has old.fell y))

  -- what is noted of another train holds still
  noted_still : (u : ℕ) (stop : Stop) → u ≢ t → is_inside plan s u ≡ true → IsNoted plan s old.fell u stop → IsNoted plan (set s t p) new.fell u stop
  noted_still u Unknown ne inside told = tt
  noted_still u Free ne inside told = tt
  noted_still u (Next x) ne inside told = ap (λ q. is_in x (plan.claim u q)) (get_or-set_other s t u p 0 ne) ∙ told
  noted_still u (Later x) ne inside told = λ untouched.
      let none = untouched_before u ne untouched in
      behind_still plan s t p u valid state was ahead ne (passed_by plan s counts t p u new.fell counted was ahead falls none ne) x inside (told (untouched_less u none))

  -- so where a train goes on of which nothing is noted, and the sections are added that fall to one train, the notes hold as before
  pub noted_on : IsNotedTo plan s old → stop_of new.stops t ≡ Unknown → ((u : ℕ) → u ≢ t → stop_of new.stops u ≡ stop_of old.stops u) → (new.has_fallen ≡ false → (x : ℕ) → has new.fell x ≡ false)
      → IsNotedTo plan (set s t p) new
  noted_on noted here others none = record {
    each = λ u inside.
        let P : Stop → Type 0 = λ stop. IsNoted plan (set s t p) new.fell u stop in
        ⊎_elim
        (λ same. subst P (sym (ap (stop_of new.stops) same ∙ here)) tt)
        (λ ne.
        let before = inside_same plan (set s t p) s u (sym (get_or-set_other s t u p 0 ne)) inside in
        subst P (sym (others u ne)) (noted_still u (stop_of old.stops u) ne before (noted.each u before)))
        (cases_eq u t);
    none = none;
  }
