-- Which line an admission can be, for a train that has no cause to wait.
use Rattle.std.proofs.Common.{◌≡◌, ℕ, suc, ◌-◌, ◌<◌, Bool, true, false, not, ◌&&◌, cond, eqb, ltb, List, [], ◌∷◌, length, is_some, Some, None, replicate, refl, sym, ap, ◌∙◌, subst, ⊎_elim, arith}
use Rattle.std.proofs.lemmas.Bool.{cases_Bool, cases_eq, cases_lt, false≢true, and_parts, and_from, or_cases, eq-eqb, ne_eqb, ltb-true, lt-ltb, cond-true, cond-false, not-true, not_from_false}
use Rattle.std.proofs.lemmas.List.{get_or-set_same, get_or-set_other, length-set, get_or_past}
use Rattle.rail_base.specs.declared.history.Note.{Note}
use Rattle.rail_base.specs.declared.history.Note.TheVariants.{Pulled, Appended, Fresh}
use Rattle.rail_base.specs.declared.history.What.TheVariants.{Admit}
use Rattle.rail_base.specs.declared.history.Cause.TheVariants.{NoList}
use Rattle.rail_rules.specs.Numbers.{any_below}
use Rattle.rail_rules.specs.Moves.{Moves}
use Rattle.rail_rules.specs.Places.{place_of, is_inside, is_legal, after, nobody_inside, completes}
use Rattle.rail_rules.specs.Analysis.{finds}
use Rattle.rail_rules.specs.Plant.{trains, moves, moves_of}
use Rattle.rail_rules.specs.Fronts.{Line, Front, at_time, instant, has_held, places, kept, without_first, with_rest_of}
use Rattle.rail_rules.specs.Orders.{Input}
use Rattle.rail_rules.specs.Causes.{place, waits, bar, cause, list_cause, repaired, is_repairable, places_after}
use Rattle.rail_rules.specs.Lawful.{is_lawful, note_fits, may_admit}
use Rattle.rail_rules.proofs.CallerLemmas.{any_below_at, any_below_none, finds_exactly}
use Rattle.rail_laws_front.specs.Premises.{IsWellFormed}
use Rattle.rail_laws_front.proofs.CallerLemmas.{neither, place_in, places_long, kept_completes}
use Rattle.rail_laws_list.specs.Locked.{HasList}
use Rattle.rail_laws_list.proofs.CallerLemmas.{unrolled}

-- the line that admits the next move of a train
unfoldable pub admit_line : Input → Front → ℕ → Note → List ℕ → Line
admit_line input front t note list = record { entry = at_time (instant front) (Admit t (suc (place front t)) note); trains = list }

-- with nobody inside no train can make the first move of a list
no_first : (plan : Moves) (s : List ℕ) (list : List ℕ) → nobody_inside plan s ≡ true → completes plan s list ≡ true → list ≡ []
no_first plan s [] nobody completing = refl
no_first plan s (u ∷ rest) nobody completing =
    let both = and_parts (is_inside plan s u && is_legal plan s u) (completes plan (after s u) rest) completing in
    let inside = (and_parts (is_inside plan s u) (is_legal plan s u) both.0).0 in
    let positive : 0 < place_of s u = ltb-true 0 (place_of s u) (and_parts (ltb 0 (place_of s u)) (ltb (place_of s u) (plan.moves u)) inside).0 in
    ⊎_elim
    (λ lt. absurd (false≢true (sym (any_below_at (is_inside plan s) (length s) u (not-true (any_below (is_inside plan s) (length s)) nobody) lt) ∙ inside)))
    (λ past. absurd (omega (arith, positive, get_or_past s u 0 past)))
    (cases_lt u (length s))

module _ (input : Input) (fine : IsWellFormed input.plant) (front : Front) (lawful : is_lawful input front ≡ true) (t : ℕ) (known : t < trains input.plant) (room : place front t < moves input.plant t) where
  plan : Moves
  plan = moves_of input.plant

  now : List ℕ
  now = places input.plant front

  here : place_of now t ≡ place front t
  unfolding now
  here = place_in input.plant front t known

  completing : completes plan now (kept input.plant front) ≡ true
  unfolding plan now
  completing = (kept_completes input fine front lawful).completing

  listed : t < length now
  unfolding now
  listed = omega (arith, known, places_long input.plant front)

  moved : place_of (after now t) t ≡ suc (place front t)
  moved = get_or-set_same now t (suc (place_of now t)) 0 listed ∙ ap suc here

  -- nobody else is inside where nobody is inside after the move
  no_other : nobody_inside plan (after now t) ≡ true → (u : ℕ) → (u ≡ t → ⊥) → is_inside plan now u ≡ false
  no_other nobody u other =
      let P : ℕ → Type 0 = λ p. (ltb 0 p && ltb p (plan.moves u)) ≡ false in
      let same : place_of (after now t) u ≡ place_of now u = get_or-set_other now t u (suc (place_of now t)) 0 other in
      ⊎_elim
      (λ lt. subst P same (any_below_at (is_inside plan (after now t)) (length (after now t)) u (not-true (any_below (is_inside plan (after now t)) (length (after now t))) nobody) (omega (arith, lt, length-set now t (suc (place_of now t))))))
      (λ past. subst P (sym (get_or_past now u 0 past)) refl)
      (cases_lt u (length now))

  repaired_inside : 0 < place front t → repaired input front t ≡ without_first t (kept input.plant front)
  repaired_inside some = cond-false (eqb (place front t) 0) (with_rest_of input.plant t (kept input.plant front)) (without_first t (kept input.plant front)) (ne_eqb (place front t) 0 (λ e. omega (arith, some, e)))

  repaired_outside : place front t ≡ 0 → repaired input front t ≡ with_rest_of input.plant t (kept input.plant front)
  repaired_outside none = cond-true (eqb (place front t) 0) (with_rest_of input.plant t (kept input.plant front)) (without_first t (kept input.plant front)) (eq-eqb (place front t) 0 none)

  -- where nobody is inside after the move, the kept list is repaired
  entering_repairs : place front t ≡ 0 → nobody_inside plan (after now t) ≡ true → is_repairable input front t ≡ true
  unfolding plan now
  entering_repairs outside nobody =
      let one : moves input.plant t ≡ 1 = one_move (place_of (after now t) t) moved (nobody_at t) in
      let before : nobody_inside plan now ≡ true = not_from_false (any_below (is_inside plan now) (length now)) (any_below_none (is_inside plan now) (length now) (λ u _. ⊎_elim (λ same. itself u same) (λ other. no_other nobody u other) (cases_eq u t))) in
      let empty : kept input.plant front ≡ [] = no_first plan now (kept input.plant front) before completing in
      let rest : repaired input front t ≡ [] = repaired_outside outside ∙ ap (with_rest_of input.plant t) empty ∙ ap (λ n. replicate n t) (less_one one) in
      ap (completes plan (after now t)) rest ∙ nobody
    where
      less_one : moves input.plant t ≡ 1 → moves input.plant t - 1 ≡ 0
      less_one one = omega (arith, one)

      nobody_at : (u : ℕ) → is_inside (moves_of input.plant) (after (places input.plant front) t) u ≡ false
      nobody_at u =
          ⊎_elim
          (λ lt. any_below_at (is_inside (moves_of input.plant) (after (places input.plant front) t))
          (length (after (places input.plant front) t))
          u
          (not-true
          (any_below (is_inside (moves_of input.plant) (after (places input.plant front) t))
          (length (after (places input.plant front) t)))
          nobody)
          lt)
          (λ past.
          let P : ℕ → Type 0 = λ p. (ltb 0 p && ltb p (moves input.plant u)) ≡ false in
          subst P (sym (get_or_past (after (places input.plant front) t) u 0 past)) refl)
          (cases_lt u (length (after (places input.plant front) t)))

      one_move : (p : ℕ) → p ≡ suc (place front t) → (ltb 0 p && ltb p (moves input.plant t)) ≡ false → moves input.plant t ≡ 1
      one_move p is none =
          ⊎_elim
          (λ more. absurd (false≢true (sym none ∙ and_from (ltb 0 p) (ltb p (moves input.plant t)) (lt-ltb 0 p (omega (arith, is))) (lt-ltb p (moves input.plant t) (omega (arith, is, outside, more))))))
          (λ few. omega (arith, few, room, outside))
          (cases_lt 1 (moves input.plant t))

      itself : (u : ℕ) → u ≡ t → is_inside (moves_of input.plant) (places input.plant front) u ≡ false
      itself u same =
          let P : ℕ → Type 0 = λ v. is_inside (moves_of input.plant) (places input.plant front) v ≡ false in
          let Q : ℕ → Type 0 = λ p. (ltb 0 p && ltb p (moves input.plant t)) ≡ false in
          subst P (sym same) (subst Q (sym (here ∙ outside)) refl)

  going_repairs : 0 < place front t → nobody_inside plan (after now t) ≡ true → is_repairable input front t ≡ true
  unfolding plan now
  going_repairs some nobody = at_list (kept input.plant front) refl completing
    where
      at_list : (list : List ℕ) → kept input.plant front ≡ list → completes (moves_of input.plant) (places input.plant front) list ≡ true → is_repairable input front t ≡ true
      at_list [] is complete =
          let nobody_now = not-true (any_below (is_inside (moves_of input.plant) (places input.plant front)) (length (places input.plant front))) complete in
          let Q : ℕ → Type 0 = λ p. (ltb 0 p && ltb p (moves input.plant t)) ≡ true in
          let inside : is_inside (moves_of input.plant) (places input.plant front) t ≡ true = subst Q (sym here) (and_from (ltb 0 (place front t)) (ltb (place front t) (moves input.plant t)) (lt-ltb 0 (place front t) some) (lt-ltb (place front t) (moves input.plant t) room)) in
          absurd (false≢true (sym (any_below_at (is_inside (moves_of input.plant) (places input.plant front)) (length (places input.plant front)) t nobody_now listed) ∙ inside))
      at_list (u ∷ rest) is complete =
          let both = and_parts (is_inside (moves_of input.plant) (places input.plant front) u && is_legal (moves_of input.plant) (places input.plant front) u) (completes (moves_of input.plant) (after (places input.plant front) u) rest) complete in
          let inside = (and_parts (is_inside (moves_of input.plant) (places input.plant front) u) (is_legal (moves_of input.plant) (places input.plant front) u) both.0).0 in
          ⊎_elim
          (λ same.
          let P : ℕ → Type 0 = λ v. completes (moves_of input.plant) (after (places input.plant front) v) rest ≡ true in
          ap (completes (moves_of input.plant) (after (places input.plant front) t)) (repaired_inside some ∙ ap (without_first t) is ∙ cond-true (eqb u t) rest (u ∷ without_first t rest) (eq-eqb u t same))
          ∙ subst P same both.1)
          (λ other. absurd (false≢true (sym (no_other nobody u other) ∙ inside)))
          (cases_eq u t)

  nobody_repairs : nobody_inside plan (after now t) ≡ true → is_repairable input front t ≡ true
  nobody_repairs nobody =
      ⊎_elim
      (λ some. going_repairs some nobody)
      (λ none. entering_repairs (omega (arith, none)) nobody)
      (cases_lt 0 (place front t))

-- a line that admits the train
pub record CanAdmit (input : Input) (front : Front) (t : ℕ) : Type 0 where
  pub note : Note
  pub list : List ℕ
  pub may : may_admit input front (admit_line input front t note list) t (suc (place front t)) note ≡ true

may_from : (input : Input) (front : Front) (t : ℕ) (note : Note) (list : List ℕ) → waits input front t ≡ true
    → is_some (bar input front t) ≡ false → has_held front ≡ false
    → note_fits (admit_line input front t note list) (place front t) note ≡ true
    → completes (moves_of input.plant)
    (places_after input front t)
    (kept input.plant (admit_line input front t note list ∷ front))
    ≡ true → may_admit input front (admit_line input front t note list) t (suc (place front t)) note ≡ true
unfolding admit_line
may_from input front t note list waiting unbarred no_hold fits complete =
    let line : Line = record { entry = at_time (instant front) (Admit t (suc (place front t)) note); trains = list } in
    let at_now : Bool = eqb (instant front) (instant front) in
    let next : Bool = eqb (suc (place front t)) (suc (place front t)) in
    let one = and_from at_now (waits input front t) (eq-eqb (instant front) (instant front) refl) waiting in
    let two = and_from (at_now && waits input front t) (not (is_some (bar input front t))) one (not_from_false (is_some (bar input front t)) unbarred) in
    let three = and_from (at_now && waits input front t && not (is_some (bar input front t))) next two (eq-eqb (suc (place front t)) (suc (place front t)) refl) in
    let four = and_from (at_now && waits input front t && not (is_some (bar input front t)) && next) (not (has_held front)) three (not_from_false (has_held front) no_hold) in
    let five = and_from (at_now && waits input front t && not (is_some (bar input front t)) && next && not (has_held front)) (note_fits line (place front t) note) four fits in
    and_from (at_now && waits input front t && not (is_some (bar input front t)) && next && not (has_held front) && note_fits line (place front t) note) (completes (moves_of input.plant) (places_after input front t) (kept input.plant (line ∷ front))) five complete

-- where no list is needed there is one
list_known : (b : Bool) → is_some (cond b None (Some NoList)) ≡ false → b ≡ true
list_known true h = refl
list_known false h = absurd (false≢true (sym h))

pub can_admit : (input : Input) → IsWellFormed input.plant → (front : Front) → is_lawful input front ≡ true
    → (t : ℕ) → t < trains input.plant → place front t < moves input.plant t → waits input front t ≡ true
    → has_held front ≡ false → is_some (cause input front t) ≡ false → CanAdmit input front t
unfolding admit_line now plan
can_admit input fine front lawful t known room waiting no_hold none =
    ⊎_elim
    (λ repairs. ⊎_elim
    (λ inside. record { note = Pulled; list = []; may = may_from input front t Pulled [] waiting clear.0 no_hold (lt-ltb 0 (place front t) inside) (ap (completes (moves_of input.plant) (places_after input front t)) (sym (repaired_inside input fine front lawful t known room inside)) ∙ repairs) })
    (λ outside.
    record {
      note = Appended;
      list = [];
      may = may_from input front t Appended [] waiting clear.0 no_hold
          (eq-eqb (place front t) 0 (omega (arith, outside)))
          (ap (completes (moves_of input.plant) (places_after input front t))
          (sym (repaired_outside input fine front lawful t known room (omega (arith, outside))))
          ∙ repairs);
    })
    (cases_lt 0 (place front t)))
    (λ broken.
    let found : finds (moves_of input.plant) input.plant.tables.depth (places_after input front t) ≡ true =
    ⊎_elim
    (λ repairs. absurd (false≢true (sym broken ∙ repairs)))
    (λ found. found)
    (or_cases (is_repairable input front t) (finds (moves_of input.plant) input.plant.tables.depth (places_after input front t)) (list_known _ clear.1)) in
    let legs = (finds_exactly (moves_of input.plant) input.plant.tables.depth (places_after input front t)).0 found in
    let has : HasList (moves_of input.plant) (places_after input front t) = unrolled (moves_of input.plant) (places_after input front t) legs.0 legs.1 in
    record { note = Fresh; list = has.list; may = may_from input front t Fresh has.list waiting clear.0 no_hold (not_bare has.list has.completing broken) has.completing })
    (cases_Bool (is_repairable input front t))
  where
    clear : (is_some (bar input front t) ≡ false) × (is_some (list_cause input front t) ≡ false)
    clear = neither (bar input front t) (list_cause input front t) none

    not_bare : (list : List ℕ) → completes (moves_of input.plant) (places_after input front t) list ≡ true → is_repairable input front t ≡ false → not (eqb (length list) 0) ≡ true
    not_bare [] complete broken = absurd (false≢true (sym broken ∙ nobody_repairs input fine front lawful t known room complete))
    not_bare (u ∷ rest) complete broken = not_from_false (eqb (suc (length rest)) 0) (ne_eqb (suc (length rest)) 0 (λ e. omega (arith, e)))
