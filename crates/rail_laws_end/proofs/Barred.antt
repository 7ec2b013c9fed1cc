-- At the end of a history each train that remains waits for an order, by itself or for others that do.
use Rattle.std.proofs.Common.{◌≡◌, ℕ, zero, suc, ◌<◌, Bool, true, false, not, ◌&&◌, ◌||◌, ltb, List, [], ◌∷◌, length, is_some, Option, Some, refl, sym, ap, ◌∙◌, subst, ⊎_elim, arith}
use Rattle.std.proofs.lemmas.Bool.{cases_lt, cases_Bool, false≢true, and_parts, or_right, or_cases, ltb-true, not-true}
use Rattle.rail_base.specs.declared.history.Cause.{Cause}
use Rattle.rail_rules.specs.Numbers.{all_below, or_else, is_in}
use Rattle.rail_rules.specs.Places.{place_of, is_inside, nobody_inside, completes}
use Rattle.rail_rules.specs.Plant.{trains, moves, moves_of, claimed}
use Rattle.rail_rules.specs.Fronts.{Line, Front, has_ended, places, kept, kept_after, hold_of, same_cause}
use Rattle.rail_rules.specs.Orders.{Input, told, is_closed, is_stopped, is_cancelled}
use Rattle.rail_rules.specs.Events.{due_lines}
use Rattle.rail_rules.specs.Causes.{place, is_deciding, is_ready, cause, last_hold, is_told_so, is_settled}
use Rattle.rail_rules.specs.Lawful.{is_lawful, is_complete, is_out_line, is_out}
use Rattle.rail_rules.proofs.CallerLemmas.{all_below_at, any_below_from}
use Rattle.rail_laws_front.specs.Premises.{IsWellFormed}
use Rattle.rail_laws_front.proofs.CallerLemmas.{place_in, places_long, kept_completes}
use Rattle.rail_laws_events.proofs.CallerLemmas.{cancelled_never_goes, few_admissions}
use Rattle.rail_laws_end.specs.Barred.{waits_for, Remains, IsBarred, WaitsOn, LeadsToBarred}
use Rattle.rail_laws_end.specs.Barred.IsBarred.{by_stop, by_closure}
use Rattle.rail_laws_end.specs.Barred.WaitsOn.{by_section, by_list}
use Rattle.rail_laws_end.specs.Barred.LeadsToBarred.{here, onward}
use Rattle.rail_laws_end.proofs.Alone.{nobody_there}
use Rattle.rail_laws_end.proofs.Ending.{CanMove, IsAtEnd, at_end, head_moves, nobody_left, entering_moves, still_outside, ready_now, out_when_made}
use Rattle.rail_laws_end.proofs.Reasons.{IsReason, reason, blocker_holds, some_cause, one_cause}
use Rattle.rail_laws_end.proofs.Reasons.IsReason.{stop, closure, block, list}
use Rattle.rail_laws_end.proofs.Earlier.{holder_inside, holder_earlier, rank, rank_falls, rank_below}

-- the train's cause, which its last hold line states
record IsHeld (input : Input) (front : Front) (t : ℕ) : Type 0 where
  why : Cause
  is : cause input front t ≡ Some why
  stated : waits_for front t ≡ Some why

-- where everything is settled each ready train has one
held : (input : Input) (front : Front) (t : ℕ) → is_settled input front ≡ true → t < trains input.plant → is_ready input front t ≡ true → IsHeld input front t
held input [] t settled known ready = absurd (false≢true (and_parts _ false ready).1)
held input (line ∷ before) t settled known ready =
    let front : Front = line ∷ before in
    let test : ℕ → Bool = λ u. not (is_ready input front u) || (is_some (cause input front u) && is_told_so input front u) in
    let each = all_below_at test (trains input.plant) t (and_parts (is_deciding input front) (all_below test (trains input.plant)) settled).1 known in
    let told_one = ⊎_elim (λ idle. absurd (false≢true (sym (not-true (is_ready input front t) idle) ∙ ready))) (λ both. both)
    (or_cases (not (is_ready input front t)) (is_some (cause input front t) && is_told_so input front t) each) in
    let both = and_parts (is_some (cause input front t)) (is_told_so input front t) told_one in
    let why = some_cause (cause input front t) both.0 in
    let hold : Option Cause = last_hold front t (suc (place front t)) in
    record { why = why.0; is = why.1; stated = one_cause hold why.0 (ap (same_cause hold) (sym why.1) ∙ both.1) }

-- a train of the plant with moves left, that isn't cancelled
record IsLeft (input : Input) (front : Front) (t : ℕ) : Type 0 where
  known : t < trains input.plant
  room : place front t < moves input.plant t
  runs : is_cancelled t (told input.commands front) ≡ false

module _ (input : Input) (fine : IsWellFormed input.plant) (front : Front) (lawful : is_lawful input front ≡ true) (nothing : length (due_lines input front) ≡ 0) (settled : is_settled input front ≡ true) where
  left_ready : (t : ℕ) → IsLeft input front t → is_ready input front t ≡ true
  left_ready t left = ready_now input front t nothing left.known left.room left.runs

  -- who can move is barred
  barred : (t : ℕ) → CanMove input front t → IsBarred input front t
  barred t can =
      let h = held input front t settled can.known can.ready in
      by h.why h.stated (reason input front t h.why h.is)
    where
      by : (why : Cause) → waits_for front t ≡ Some why → IsReason input front t why → IsBarred input front t
      by why stated (stop same on) = by_stop (stated ∙ ap Some same) on
      by why stated (closure x same is on) = by_closure x (stated ∙ ap Some same) is on
      by why stated (block x u same is on) =
          let holder = blocker_holds input fine front lawful nothing t x u on in
          absurd (false≢true (sym (can.unheld x is) ∙ any_below_from _ (length (places input.plant front)) u (omega (arith, holder.0, places_long input.plant front)) holder.1))
      by why stated (list same none) = absurd (false≢true (sym none ∙ can.repairs))

  head_barred : (t : ℕ) (rest : List ℕ) → kept input.plant front ≡ t ∷ rest → IsBarred input front t
  head_barred t rest is = barred t (head_moves input fine front lawful nothing t rest is)

  left_barred : kept input.plant front ≡ [] → (t : ℕ) → IsLeft input front t → IsBarred input front t
  left_barred empty t left =
      let nobody = nobody_there (moves_of input.plant) (places input.plant front) t (nobody_left input fine front lawful nothing empty) in
      barred t (entering_moves input fine front lawful nothing empty t left.known (left_ready t left) (still_outside input front t left.known nobody left.room))

  -- who holds a section is left
  holder_left : (u : ℕ) → u < trains input.plant → is_inside (moves_of input.plant) (places input.plant front) u ≡ true → IsLeft input front u
  holder_left u known inside =
      let parts = and_parts (ltb 0 (place_of (places input.plant front) u)) (ltb (place_of (places input.plant front) u) (moves input.plant u)) inside in
      let same : place_of (places input.plant front) u ≡ place front u = place_in input.plant front u known in
      let low = ltb-true 0 (place_of (places input.plant front) u) parts.0 in
      let high = ltb-true (place_of (places input.plant front) u) (moves input.plant u) parts.1 in
      record {
        known = known;
        room = omega (arith, same, high);
        runs = ⊎_elim (λ cancelled. absurd (omega (arith, low, same, cancelled_never_goes input front lawful u cancelled))) (λ going. going) (cases_Bool (is_cancelled u (told input.commands front)));
      }

  -- with a list each train leads to one that is barred, in fewer steps than its rank in the list and one
  chain : (first : ℕ) (rest : List ℕ) → kept input.plant front ≡ first ∷ rest → (n t : ℕ) → IsLeft input front t
      → rank (trains input.plant) (kept input.plant front) t < n → LeadsToBarred input front t n
  chain first rest is zero t left low = absurd (omega (arith, low))
  chain first rest is (suc m) t left low =
      let h = held input front t settled left.known (left_ready t left) in
      by (λ u u_left lower. chain first rest is m u u_left lower) h.why h.stated (reason input front t h.why h.is)
    where
      by : ((u : ℕ) → IsLeft input front u → rank (trains input.plant) (kept input.plant front) u < m → LeadsToBarred input front u m)
          → (why : Cause) → waits_for front t ≡ Some why → IsReason input front t why → LeadsToBarred input front t (suc m)
      by go why stated (stop same on) = here t (suc m) (by_stop (stated ∙ ap Some same) on)
      by go why stated (closure x same claims on) = here t (suc m) (by_closure x (stated ∙ ap Some same) claims on)
      by go why stated (block x u same claims on) =
          let holder = blocker_holds input fine front lawful nothing t x u on in
          let inside = holder_inside (moves_of input.plant) (places input.plant front) u x holder.1 in
          let P : ℕ → Type 0 = λ p. is_in x (claimed input.plant t p) ≡ true in
          let earlier = holder_earlier (moves_of input.plant) (kept input.plant front) (places input.plant front) t u x
          (kept_completes input fine front lawful).completing (subst P (sym (place_in input.plant front t left.known)) claims) holder.1 in
          let falls = rank_falls (trains input.plant) (kept input.plant front) t u holder.0 earlier in
          onward t u m (by_section x (stated ∙ ap Some same)) (go u (holder_left u holder.0 inside) (omega (arith, falls, low)))
      by go why stated (list same none) = onward t first m (by_list rest (stated ∙ ap Some same) is) (here first m (head_barred first rest is))

  leads : (t : ℕ) → IsLeft input front t → LeadsToBarred input front t (trains input.plant)
  leads t left = of (kept input.plant front) refl
    where
      of : (l : List ℕ) → kept input.plant front ≡ l → LeadsToBarred input front t (trains input.plant)
      of [] is = here t (trains input.plant) (left_barred is t left)
      of (first ∷ rest) is = chain first rest is (trains input.plant) t left (rank_below (trains input.plant) (kept input.plant front) t left.known)

-- the end line changes nothing of it
module _ (input : Input) (line : Line) (front : Front) (h : IsAtEnd input line front) where
  place_same : (t : ℕ) → place (line ∷ front) t ≡ place front t
  place_same t = ap length (h.adms_same t)

  kept_same : kept input.plant (line ∷ front) ≡ kept input.plant front
  kept_same = ap (kept_after input.plant (kept input.plant front) line) h.ends.what

  waits_same : (t : ℕ) → waits_for (line ∷ front) t ≡ waits_for front t
  waits_same t =
      ap (λ what. or_else (hold_of t (suc (place (line ∷ front) t)) what) (last_hold front t (suc (place (line ∷ front) t)))) h.ends.what
      ∙ ap (λ p. last_hold front t (suc p)) (place_same t)

  barred_on : (t : ℕ) → IsBarred input front t → IsBarred input (line ∷ front) t
  barred_on t (by_stop stated on) = by_stop (waits_same t ∙ stated) (ap (is_stopped t) h.told_same ∙ on)
  barred_on t (by_closure x stated is on) =
      by_closure x (waits_same t ∙ stated) (ap (λ p. is_in x (claimed input.plant t p)) (place_same t) ∙ is) (ap (is_closed x) h.told_same ∙ on)

  waits_on : (t u : ℕ) → WaitsOn input front t u → WaitsOn input (line ∷ front) t u
  waits_on t u (by_section x stated) = by_section x (waits_same t ∙ stated)
  waits_on t u (by_list rest stated is) = by_list rest (waits_same t ∙ stated) (kept_same ∙ is)

  leads_on : (t n : ℕ) → LeadsToBarred input front t n → LeadsToBarred input (line ∷ front) t n
  leads_on t n (here _ _ is) = here t n (barred_on t is)
  leads_on t (suc n) (onward _ u _ waits later) = onward t u n (waits_on t u waits) (leads_on u n later)

  -- who remains at the end is left before it
  was_left : (fine : IsWellFormed input.plant) (t : ℕ) → Remains input (line ∷ front) t → IsLeft input front t
  was_left fine t remains =
      record {
        known = remains.known;
        room = ⊎_elim
            (λ room. room)
            (λ made.
            let out = out_when_made input fine front t h.ends.nothing_due remains.known (omega (arith, made, few_admissions input fine front h.before t remains.known)) in
            absurd (false≢true (sym remains.not_out ∙ or_right (is_out_line t line.entry.what) (is_out front t) out)))
            (cases_lt (place front t) (moves input.plant t));
        runs = ap (is_cancelled t) (sym h.told_same) ∙ remains.not_cancelled;
      }

module _ (input : Input) (fine : IsWellFormed input.plant) where
  pub first_barred : (front : Front) → is_complete input front ≡ true → (t : ℕ) (rest : List ℕ) → kept input.plant front ≡ t ∷ rest → IsBarred input front t
  first_barred [] complete t rest is = absurd (false≢true (and_parts (is_lawful input []) (has_ended []) complete).1)
  first_barred (line ∷ front) complete t rest is =
      let both = and_parts (is_lawful input (line ∷ front)) (has_ended (line ∷ front)) complete in
      let h = at_end input line front both.0 both.1 in
      barred_on input line front h t (head_barred input fine front h.before h.ends.nothing_due h.ends.settled t rest (sym (kept_same input line front h) ∙ is))

  pub empty_barred : (front : Front) → is_complete input front ≡ true → kept input.plant front ≡ [] → (t : ℕ) → Remains input front t → IsBarred input front t
  empty_barred [] complete is t remains = absurd (false≢true (and_parts (is_lawful input []) (has_ended []) complete).1)
  empty_barred (line ∷ front) complete is t remains =
      let both = and_parts (is_lawful input (line ∷ front)) (has_ended (line ∷ front)) complete in
      let h = at_end input line front both.0 both.1 in
      barred_on input line front h t (left_barred input fine front h.before h.ends.nothing_due h.ends.settled (sym (kept_same input line front h) ∙ is) t (was_left input line front h fine t remains))

  pub empty_nobody : (front : Front) → is_complete input front ≡ true → kept input.plant front ≡ [] → nobody_inside (moves_of input.plant) (places input.plant front) ≡ true
  empty_nobody front complete empty =
      let P : List ℕ → Type 0 = λ l. completes (moves_of input.plant) (places input.plant front) l ≡ true in
      subst P empty (kept_completes input fine front (and_parts (is_lawful input front) (has_ended front) complete).0).completing

  pub leads_to_barred : (front : Front) → is_complete input front ≡ true → (t : ℕ) → Remains input front t → LeadsToBarred input front t (trains input.plant)
  leads_to_barred [] complete t remains = absurd (false≢true (and_parts (is_lawful input []) (has_ended []) complete).1)
  leads_to_barred (line ∷ front) complete t remains =
      let both = and_parts (is_lawful input (line ∷ front)) (has_ended (line ∷ front)) complete in
      let h = at_end input line front both.0 both.1 in
      leads_on input line front h t (trains input.plant) (leads input fine front h.before h.ends.nothing_due h.ends.settled t (was_left input line front h fine t remains))
