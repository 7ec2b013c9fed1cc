-- The train that a built-in policy chooses.
use Rattle.std.proofs.Common.{◌≡◌, ℕ, ◌<◌, ◌≤◌, Bool, true, false, not, ◌&&◌, cond, ltb, List, [], ◌∷◌, get_or, refl, sym, ap, ◌∙◌, ⊎_elim, arith}
use Rattle.std.proofs.lemmas.Bool.{cases_Bool, false≢true, and_parts, and_from, ltb-true, cond_both, not-true}
use Rattle.rail_base.specs.declared.orders.PolicyKind.{PolicyKind}
use Rattle.rail_base.specs.declared.orders.PolicyKind.TheVariants.{Priority, Timetable, Fcfs, Rotating, Custom}
use Rattle.rail_base.specs.declared.history.What.{What}
use Rattle.rail_base.specs.declared.history.What.TheVariants.{Free, Arrive, Enter, Out, Ready, Told, Untold, Admit, Hold, End}
use Rattle.rail_base.specs.declared.limits.TheConstants.{TRAINS}
use Rattle.rail_rules.specs.Numbers.{comes_before, same_numbers}
use Rattle.rail_rules.specs.Plant.{trains}
use Rattle.rail_rules.specs.Fronts.{Front}
use Rattle.rail_rules.specs.Orders.{Input}
use Rattle.rail_rules.specs.Causes.{could_go}
use Rattle.rail_rules.specs.RunHistories.{Seat, seat_of, force_of, mark_after, mark_of, key, is_chosen}
use Rattle.rail_rules.proofs.CallerLemmas.{all_below_at}
use Rattle.rail_laws_end.specs.Forks.{is_built_in, kind_in_force, are_marks}
use Rattle.rail_laws_end.proofs.Ordered.{neither_before}

-- marks stay 16-bit numbers
seat_mark : (seats : List Seat) (name : List ℕ) → are_marks seats ≡ true → (seat_of seats name).mark < 65536
seat_mark [] name h = omega arith
seat_mark (seat ∷ seats) name h =
    let both = and_parts (ltb seat.mark 65536) (are_marks seats) h in
    let rest : (seat_of seats name).mark < 65536 = seat_mark seats name both.1 in
    let P : Seat → Type 0 = λ s. s.mark < 65536 in
    choose (same_numbers seat.name name) seat (seat_of seats name) (ltb-true seat.mark 65536 both.0) rest
  where
    choose : (b : Bool) (x y : Seat) → x.mark < 65536 → y.mark < 65536 → (cond b x y).mark < 65536
    choose true x y hx hy = hx
    choose false x y hx hy = hy

after_mark : (what : What) (old : ℕ) → old < 65536 → mark_after what old < 65536
after_mark (Admit t m note) old h = omega arith
after_mark (Free x t) old h = h
after_mark (Arrive t m) old h = h
after_mark (Enter t m x) old h = h
after_mark (Out t) old h = h
after_mark (Ready t m) old h = h
after_mark (Told k) old h = h
after_mark (Untold k) old h = h
after_mark (Hold t m why) old h = h
after_mark End old h = h

mark_below : (input : Input) (seats : List Seat) (name : List ℕ) (front : Front) → are_marks seats ≡ true → mark_of input seats name front < 65536
mark_below input seats name [] h = seat_mark seats name h
mark_below input seats name (line ∷ before) h =
    let earlier : mark_of input seats name before < 65536 = mark_below input seats name before h in
    cond_both (same_numbers (force_of input before) name) (mark_after line.entry.what (mark_of input seats name before)) (mark_of input seats name before) (λ x. x < 65536)
    (λ _. after_mark line.entry.what (mark_of input seats name before) earlier)
    (λ _. earlier)

-- keys of a built-in kind tell trains
key_tells : (input : Input) (seats : List Seat) (front : Front) (t u : ℕ) (kind : PolicyKind)
    → is_built_in kind ≡ true → are_marks seats ≡ true → t < TRAINS → u < TRAINS
    → comes_before (key input seats front t kind) (key input seats front u kind) ≡ false
    → comes_before (key input seats front u kind) (key input seats front t kind) ≡ false → t ≡ u
key_tells input seats front t u Priority built marks lt lu first second = ap (λ k. get_or k 2 0) (neither_before (key input seats front t Priority) (key input seats front u Priority) refl first second)
key_tells input seats front t u Timetable built marks lt lu first second = ap (λ k. get_or k 1 0) (neither_before (key input seats front t Timetable) (key input seats front u Timetable) refl first second)
key_tells input seats front t u Fcfs built marks lt lu first second = ap (λ k. get_or k 1 0) (neither_before (key input seats front t Fcfs) (key input seats front u Fcfs) refl first second)
key_tells input seats front t u Rotating built marks lt lu first second =
    omega (arith, lt, lu, mark_below input seats (force_of input front) front marks, ap (λ k. get_or k 0 0) (neither_before (key input seats front t Rotating) (key input seats front u Rotating) refl first second))
key_tells input seats front t u Custom built marks lt lu first second = absurd (false≢true built)

-- two trains that are both chosen are one
pub one_chosen : (input : Input) (seats : List Seat) (front : Front) (t u : ℕ)
    → is_built_in (kind_in_force input seats front) ≡ true → are_marks seats ≡ true
    → trains input.plant ≤ TRAINS → t < trains input.plant → u < trains input.plant
    → could_go input front t ≡ true → could_go input front u ≡ true → is_chosen input seats front t ≡ true
    → is_chosen input seats front u ≡ true → t ≡ u
one_chosen input seats front t u built marks few lt lu goes_t goes_u chosen_t chosen_u =
    key_tells input seats front t u (kind_in_force input seats front) built marks (omega (arith, lt, few)) (omega (arith, lu, few)) (not_before u t goes_t chosen_u lt) (not_before t u goes_u chosen_t lu)
  where
    not_before : (a b : ℕ) → could_go input front b ≡ true → is_chosen input seats front a ≡ true → b < trains input.plant → comes_before (key input seats front b (kind_in_force input seats front)) (key input seats front a (kind_in_force input seats front)) ≡ false
    not_before a b goes chosen lb =
        let kind : PolicyKind = kind_in_force input seats front in
        let test : ℕ → Bool = λ v. not (could_go input front v && comes_before (key input seats front v kind) (key input seats front a kind)) in
        ⊎_elim
        (λ is. absurd
        (false≢true
        (sym (not-true
        (could_go input front b
        && comes_before (key input seats front b kind) (key input seats front a kind))
        (all_below_at test (trains input.plant) b chosen lb))
        ∙ and_from (could_go input front b)
        (comes_before (key input seats front b kind) (key input seats front a kind))
        goes is)))
        (λ none. none)
        (cases_Bool (comes_before (key input seats front b kind) (key input seats front a kind)))
