-- What is noted of trains where another one is at another place than before.
use Rattle.std.proofs.Common.{◌≡◌, ◌≢◌, ℕ, ◌+◌, ◌<◌, true, false, List, length, set, sym, ap, ◌∙◌, subst, ⊎_elim, arith}
use Rattle.std.proofs.lemmas.Bool.{cases_Bool, cases_eq, false≢true}
use Rattle.std.proofs.lemmas.List.{get_or-set_same, get_or-set_other, length-set}
use Rattle.rail_rules.specs.Numbers.{is_in, sum_below}
use Rattle.rail_rules.specs.Moves.{Moves, is_valid, stand}
use Rattle.rail_rules.specs.Places.{is_inside, place_of}
use Rattle.rail_rules.specs.Analysis.{Leg, is_safe}
use Rattle.rail_sets.specs.Counts.{Columns}
use Rattle.rail_sets.specs.Sets.{has}
use Rattle.rail_consequence.specs.Needs.{IsCounted, count_of, needs_left, one_if}
use Rattle.rail_consequence.specs.Stops.{IsBehind, IsNoted, IsNotedTo, IsUntouched, stop_of}
use Rattle.rail_consequence.specs.declared.notes.SearchNotes.{SearchNotes}
use Rattle.rail_consequence.specs.declared.notes.Stop.{Stop}
use Rattle.rail_consequence.specs.declared.notes.Stop.TheVariants.{Unknown, Free, Next, Later}
use Rattle.rail_consequence.proofs.Clear.{clear_from_none, none_from_clear, own_needed, sum_alone}
use Rattle.rail_consequence.proofs.Counts.{one_false, one_true, sum_shift}
use Rattle.rail_consequence.proofs.Legs.{inside_listed, inside_parts, inside_same}
use Rattle.rail_consequence.proofs.Safe.{clear_from_safe, safe_from_clear}

module _ (plan : Moves) (s : List ℕ) (counts : Columns) (t p : ℕ) (old new : SearchNotes) (valid : is_valid plan ≡ true) (long : length s ≡ plan.trains) (listed : t < length s) (counted : IsCounted plan s counts)
    (kept : (x : ℕ) → has old.fell x ≡ true → has new.fell x ≡ true)
    (falls : (x : ℕ) → needs_left plan t (place_of s t) x ≡ true → needs_left plan t p x ≡ false → count_of counts x ≡ 2 → has new.fell x ≡ true) where
  abbrev next : List ℕ
  next = set s t p

  there : (v : ℕ) → v ≢ t → place_of next v ≡ place_of s v
  there v ne = get_or-set_other s t v p 0 ne

  here : place_of next t ≡ p
  here = get_or-set_same s t p 0 listed

  -- a section that the one train needed and needs no more, and that this one alone needs then, is needed by two before
  two_before : (u x : ℕ) → u ≢ t → u < length s → needs_left plan u (place_of s u) x ≡ true → needs_left plan t (place_of s t) x ≡ true
      → ((v : ℕ) → v < length next → v ≢ u → needs_left plan v (place_of next v) x ≡ false) → count_of counts x ≡ 2
  two_before u x ne known needs was none =
      let f : ℕ → ℕ = λ v. one_if (needs_left plan v (place_of next v) x) in
      let g : ℕ → ℕ = λ v. one_if (needs_left plan v (place_of s v) x) in
      let own : f u ≡ 1 = one_true (needs_left plan u (place_of next u) x) (ap (λ q. needs_left plan u q x) (there u ne) ∙ needs) in
      let gone : f t ≡ 0 = one_false (needs_left plan t (place_of next t) x) (none t (omega (arith, listed, length-set s t p)) (λ e. ne (sym e))) in
      let alone : sum_below f (length next) ≡ f u = sum_alone f (length next) u (omega (arith, known, length-set s t p)) (λ v lt other. one_false (needs_left plan v (place_of next v) x) (none v lt other)) in
      let shift : sum_below f (length s) + 1 ≡ sum_below g (length s) + 0 =
      sum_shift f g (length s) t 1 0 listed (omega (arith, gone, one_true (needs_left plan t (place_of s t) x) was)) (λ v other. ap (λ q. one_if (needs_left plan v q x)) (there v other)) in
      omega (arith, counted x, shift, alone, own, ap (sum_below f) (length-set s t p))

  -- so a leg that was not safe is not, where nothing that the train needs fell
  unsafe_kept : (u q : ℕ) → u ≢ t → is_inside plan s u ≡ true → IsUntouched plan s new.fell u → place_of s u < q → q < plan.moves u → is_safe plan s (record { train = u; place = q }) ≡ false → is_safe plan next (record { train = u; place = q }) ≡ false
  unsafe_kept u q ne inside untouched ahead inner unsafe =
      let leg : Leg = record { train = u; place = q } in
      let known : u < length s = inside_listed plan s u inside in
      let sections : List ℕ = stand plan u q in
      ⊎_elim
      (λ safe.
      let none = none_from_clear plan next u sections (clear_from_safe plan next leg safe) in
      let before : (x v : ℕ) → is_in x sections ≡ true → v < length s → v ≢ u → needs_left plan v (place_of s v) x ≡ false = λ x v is below other.
      ⊎_elim
      (λ same.
      let gone : needs_left plan t p x ≡ false = ap (λ k. needs_left plan t k x) (sym here) ∙ none x t is (omega (arith, listed, length-set s t p)) (λ e. ne (sym e)) in
      let needs = own_needed plan s u q x valid (omega (arith, known, long)) (inside_parts plan s u inside).0 ahead (omega (arith, inner)) is in
      let out : needs_left plan t (place_of s t) x ≡ false =
      ⊎_elim
      (λ was. absurd (false≢true (sym (untouched x needs) ∙ falls x was gone (two_before u x ne known needs was (λ w lt apart. none x w is lt apart)))))
      (λ no. no)
      (cases_Bool (needs_left plan t (place_of s t) x)) in
      ap (λ w. needs_left plan w (place_of s w) x) same ∙ out)
      (λ third. ap (λ k. needs_left plan v k x) (sym (there v third)) ∙ none x v is (omega (arith, below, length-set s t p)) other)
      (cases_eq v t) in
      absurd (false≢true (sym unsafe ∙ safe_from_clear plan s leg (clear_from_none plan s u sections before (λ v is. inside_listed plan s v is)))))
      (λ out. out)
      (cases_Bool (is_safe plan next leg))

  moved_one : (u : ℕ) (stop : Stop) → u ≢ t → is_inside plan s u ≡ true → IsNoted plan s old.fell u stop → IsNoted plan next new.fell u stop
  moved_one u Unknown ne inside told = tt
  moved_one u Free ne inside told = tt
  moved_one u (Next x) ne inside told = ap (λ q. is_in x (plan.claim u q)) (there u ne) ∙ told
  moved_one u (Later x) ne inside told = λ untouched.
      let at : place_of next u ≡ place_of s u = there u ne in
      let before : IsUntouched plan s new.fell u = λ y needs. untouched y (ap (λ q. needs_left plan u q y) at ∙ needs) in
      let behind : IsBehind plan s u x = told (λ y needs.
      ⊎_elim (λ fallen. absurd (false≢true (sym (before y needs) ∙ kept y fallen))) (λ out. out) (cases_Bool (has old.fell y))) in
      record {
        apart = ap (λ q. is_in x (stand plan u q)) at ∙ behind.apart;
        place = behind.place;
        from = omega (arith, at, behind.from);
        below = behind.below;
        needed = behind.needed;
        unsafe = λ q low high. unsafe_kept u q ne inside before (omega (arith, low, at)) (omega (arith, high, behind.below)) (behind.unsafe q (omega (arith, low, at)) high);
      }

  -- what is noted of the trains holds where one of them, of which nothing is, is at another place, and the sections are added that fell
  pub noted_moved : IsNotedTo plan s old → stop_of new.stops t ≡ Unknown → ((u : ℕ) → u ≢ t → stop_of new.stops u ≡ stop_of old.stops u) → (new.has_fallen ≡ false → (x : ℕ) → has new.fell x ≡ false)
      → IsNotedTo plan next new
  noted_moved noted unknown others none = record {
    each = λ u inside.
        let P : Stop → Type 0 = λ stop. IsNoted plan next new.fell u stop in
        ⊎_elim
        (λ same. subst P (sym (ap (stop_of new.stops) same ∙ unknown)) tt)
        (λ ne.
        let before = inside_same plan next s u (sym (there u ne)) inside in
        subst P (sym (others u ne)) (moved_one u (stop_of old.stops u) ne before (noted.each u before)))
        (cases_eq u t);
    none = none;
  }
