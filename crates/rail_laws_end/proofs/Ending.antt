-- At the end of a history every train is out or cancelled, unless a closure or a stop remains.
use Rattle.std.proofs.Common.{◌≡◌, ℕ, zero, suc, ◌+◌, ◌-◌, ◌<◌, ◌≤◌, Bool, true, false, not, ◌&&◌, ◌||◌, cond, eqb, ltb, List, [], ◌∷◌, ◌++◌, length, filter, is_some, slice_get, Some, replicate, refl, sym, ap, ◌∙◌, subst, ◌⊎◌, inl, inr, ⊎_elim, arith}
use Rattle.std.specs.List.{list_any}
use Rattle.std.specs.Cmp.Lexicographic.{bytes_decides}
use Rattle.std.proofs.lemmas.Bool.{cases_Bool, cases_lt, false≢true, and_parts, and_from, or_left, or_right, or_cases, eq-eqb, ne_eqb, ltb-true, ltb-false, lt-ltb, and_cases, or_parts, or_from, not_from_true, cond-true, cond-false, not-true, not_from_false, false_from_ne_true}
use Rattle.std.proofs.lemmas.List.{get_or_past, length-append}
use Rattle.std.proofs.lemmas.List.Folds.{list_any-append}
use Rattle.rail_base.specs.declared.history.Entry.{Entry}
use Rattle.rail_base.specs.declared.history.What.{What}
use Rattle.rail_base.specs.declared.history.What.TheVariants.{Free, Arrive, Enter, Out, Ready, Told, Untold, Admit, Hold, End}
use Rattle.rail_base.specs.declared.orders.Command.{Command}
use Rattle.rail_rules.specs.Numbers.{all_below, is_in, listed}
use Rattle.rail_rules.specs.Moves.{Moves}
use Rattle.rail_rules.specs.Places.{place_of, is_inside, has_holder, is_legal, nobody_inside, completes}
use Rattle.rail_rules.specs.Plant.{trains, moves, moves_of, claimed, bound}
use Rattle.rail_rules.specs.Fronts.{Line, Front, at_time, is_end, has_ended, is_admission, admissions, places, kept, without_first, with_rest_of, same_entry, stands, lines_beside_holds}
use Rattle.rail_rules.specs.LineCounts.{taken_over}
use Rattle.rail_rules.specs.Orders.{Input, told, is_closed, is_stopped, is_cancelled}
use Rattle.rail_rules.specs.Times.{out}
use Rattle.rail_rules.specs.Events.{is_quiet, ready_line, due_lines, train_events, events, is_written, commands_due}
use Rattle.rail_rules.specs.Causes.{place, is_deciding, waits, is_ready, is_repairable, cause, is_told_so, is_settled, places_after}
use Rattle.rail_rules.specs.Lawful.{is_lawful, is_complete, is_out_line, is_out, remaining}
use Rattle.rail_rules.proofs.CallerLemmas.{all_below_at, list_any_at, gather_same, admissions_kept}
use Rattle.rail_laws_front.specs.Premises.{IsWellFormed}
use Rattle.rail_laws_front.specs.EventLines.IsEvent.{leaving, readying}
use Rattle.rail_laws_front.specs.Views.{Ends, Follows, is_event}
use Rattle.rail_laws_front.specs.Views.Follows.{by_event, by_admission, by_hold, by_end}
use Rattle.rail_laws_front.proofs.CallerLemmas.{lawful_before, lawful_last, told_kept, due_from_command, place_in, places_long, kept_completes}
use Rattle.rail_laws_events.specs.Accounts.{tally, is_train_event, written, all_events, to_come}
use Rattle.rail_laws_events.proofs.CallerLemmas.{one_entry, account, few_admissions, tally_all, all_written, few_written, written_no_less, met}
use Rattle.rail_laws_end.specs.Remaining.{NothingIsBarred, NobodyIsCancelled}
use Rattle.rail_laws_events.proofs.CallerLemmas.{cancelled_never_goes}
use Rattle.rail_laws_end.proofs.Quiet.{none_due, all_stand, legal_unbarred, no_cause}
use Rattle.rail_laws_end.proofs.Alone.{nobody_there, nothing_held, enters_alone}

-- where everything is settled, each ready train has a cause
settled_cause : (input : Input) (front : Front) (t : ℕ) → is_settled input front ≡ true → t < trains input.plant → is_ready input front t ≡ true → is_some (cause input front t) ≡ true
settled_cause input [] t settled lt ready = absurd (false≢true (and_parts _ false ready).1)
settled_cause input (line ∷ before) t settled lt ready =
    let front : Front = line ∷ before in
    let test : ℕ → Bool = λ u. not (is_ready input front u) || (is_some (cause input front u) && is_told_so input front u) in
    let here = all_below_at test (trains input.plant) t (and_parts _ (all_below test (trains input.plant)) settled).1 lt in
    ⊎_elim
    (λ idle. absurd (false≢true (sym (not-true (is_ready input front t) idle) ∙ ready)))
    (λ both. (and_parts (is_some (cause input front t)) (is_told_so input front t) both).0)
    (or_cases (not (is_ready input front t)) (is_some (cause input front t) && is_told_so input front t) here)

-- where nothing is due, each train that isn't out or cancelled is ready
pub ready_now : (input : Input) (front : Front) (t : ℕ) → length (due_lines input front) ≡ 0 → t < trains input.plant → place front t < moves input.plant t → is_cancelled t (told input.commands front) ≡ false → is_ready input front t ≡ true
ready_now input front t nothing lt room runs =
    let line : Entry = ready_line input.plant t (admissions front t) (place front t) in
    let stood : stands front line ≡ true = all_stand input front t line nothing lt (readying (place front t) (omega arith) room runs refl) in
    and_from _ (stands front line)
    (and_from (ltb (place front t) (moves input.plant t)) (not (is_cancelled t (told input.commands front))) (lt-ltb (place front t) (moves input.plant t) room) (not_from_false (is_cancelled t (told input.commands front)) runs))
    stood

-- a train that is ready, nobody holds what its next move claims, and the list repaired for it completes
pub record CanMove (input : Input) (front : Front) (t : ℕ) : Type 0 where
  pub known : t < trains input.plant
  pub ready : is_ready input front t ≡ true
  pub unheld : (x : ℕ) → is_in x (claimed input.plant t (place front t)) ≡ true → has_holder (moves_of input.plant) (places input.plant front) x ≡ false
  pub repairs : is_repairable input front t ≡ true

-- a front where nothing is due
module _ (input : Input) (fine : IsWellFormed input.plant) (front : Front) (lawful : is_lawful input front ≡ true) (nothing : length (due_lines input front) ≡ 0) where
  plan : Moves
  plan = moves_of input.plant

  -- the head of the kept list is ready, and its move is legal
  pub head_moves : (u : ℕ) (rest : List ℕ) → kept input.plant front ≡ u ∷ rest → CanMove input front u
  unfolding plan
  head_moves u rest is =
      let P : List ℕ → Type 0 = λ list. completes plan (places input.plant front) list ≡ true in
      let completing = subst P is (kept_completes input fine front lawful).completing in
      let both = and_parts (is_inside plan (places input.plant front) u && is_legal plan (places input.plant front) u) _ completing in
      let moved = and_parts (is_inside plan (places input.plant front) u) (is_legal plan (places input.plant front) u) both.0 in
      let ends = and_parts (ltb 0 (place_of (places input.plant front) u)) (ltb (place_of (places input.plant front) u) (moves input.plant u)) moved.0 in
      let positive : 0 < place_of (places input.plant front) u = ltb-true 0 (place_of (places input.plant front) u) ends.0 in
      let known : u < trains input.plant =
      ⊎_elim
      (λ lt. lt)
      (λ past. absurd (omega (arith, positive, get_or_past (places input.plant front) u 0 (omega (arith, past, places_long input.plant front)))))
      (cases_lt u (trains input.plant)) in
      let here : place_of (places input.plant front) u ≡ place front u = place_in input.plant front u known in
      let room : place front u < moves input.plant u = omega (arith, here, ltb-true (place_of (places input.plant front) u) (moves input.plant u) ends.1) in
      let runs : is_cancelled u (told input.commands front) ≡ false =
      ⊎_elim
      (λ cancelled. absurd (omega (arith, positive, here, cancelled_never_goes input front lawful u cancelled)))
      (λ going. going)
      (cases_Bool (is_cancelled u (told input.commands front))) in
      let legal = and_parts (ltb (place_of (places input.plant front) u) (moves input.plant u)) (not (list_any (has_holder plan (places input.plant front)) (claimed input.plant u (place_of (places input.plant front) u)))) moved.1 in
      let Q : ℕ → Type 0 = λ p. list_any (has_holder plan (places input.plant front)) (claimed input.plant u p) ≡ false in
      let unheld = subst Q here (not-true _ legal.1) in
      record {
        known = known;
        ready = ready_now input front u nothing known room runs;
        unheld = λ x is_claimed. list_any_at (has_holder plan (places input.plant front)) (claimed input.plant u (place front u)) x unheld is_claimed;
        repairs = sym (ap (completes plan (places_after input front u)) (pulled (kept input.plant front) is (omega (arith, positive, here)))) ∙ both.1;
      }
    where
      first_is : without_first u (u ∷ rest) ≡ rest
      first_is = cond-true (eqb u u) rest (u ∷ without_first u rest) (eq-eqb u u refl)

      pulled : (list : List ℕ) → list ≡ u ∷ rest → 0 < place front u → rest ≡ cond (eqb (place front u) 0) (with_rest_of input.plant u list) (without_first u list)
      pulled list is some = sym (cond-false (eqb (place front u) 0) (with_rest_of input.plant u list) (without_first u list) (not_zero (place front u) some) ∙ ap (without_first u) is ∙ first_is)
        where
          not_zero : (p : ℕ) → 0 < p → eqb p 0 ≡ false
          not_zero zero lt = absurd (omega arith)
          not_zero (suc p) lt = ne_eqb (suc p) 0 (λ same. omega (arith, same))

  -- where the kept list is empty, nobody is inside
  pub nobody_left : kept input.plant front ≡ [] → nobody_inside (moves_of input.plant) (places input.plant front) ≡ true
  nobody_left empty =
      let P : List ℕ → Type 0 = λ list. completes (moves_of input.plant) (places input.plant front) list ≡ true in
      subst P empty (kept_completes input fine front lawful).completing

  -- and a train that is still to enter could go
  pub entering_moves : kept input.plant front ≡ [] → (t : ℕ) → t < trains input.plant → is_ready input front t ≡ true → place front t ≡ 0 → CanMove input front t
  entering_moves empty t known ready outside =
      let nobody = nobody_left empty in
      record {
        known = known;
        ready = ready;
        unheld = λ x _. nothing_held (moves_of input.plant) (places input.plant front) x nobody;
        repairs = ap (completes (moves_of input.plant) (places_after input front t)) (appended (kept input.plant front) empty (place front t) outside)
            ∙ enters_alone (moves_of input.plant) fine.valid (places input.plant front) nobody t known (omega (arith, known, places_long input.plant front)) (place_in input.plant front t known ∙ outside) (fine.some_move t known);
      }
    where
      appended : (list : List ℕ) → list ≡ [] → (p : ℕ) → p ≡ 0 → cond (eqb p 0) (with_rest_of input.plant t list) (without_first t list) ≡ replicate (moves input.plant t - 1) t
      appended list is p zero_place = cond-true (eqb p 0) (with_rest_of input.plant t list) (without_first t list) (eq-eqb p 0 zero_place) ∙ ap (with_rest_of input.plant t) is

-- who isn't inside and has moves left is still to enter
pub still_outside : (input : Input) (front : Front) (t : ℕ) → t < trains input.plant → is_inside (moves_of input.plant) (places input.plant front) t ≡ false → place front t < moves input.plant t → place front t ≡ 0
still_outside input front t known none room = at_place (place_of (places input.plant front) t) (place_in input.plant front t known) none
  where
    at_place : (p : ℕ) → p ≡ place front t → (ltb 0 p && ltb p (moves input.plant t)) ≡ false → place front t ≡ 0
    at_place p here none =
        ⊎_elim
        (λ low. omega (arith, here, ltb-false 0 p low))
        (λ high. absurd (omega (arith, here, room, ltb-false p (moves input.plant t) high)))
        (and_cases (ltb 0 p) (ltb p (moves input.plant t)) none)

-- the same where no closure and no stop remains
module _ (input : Input) (fine : IsWellFormed input.plant) (front : Front) (lawful : is_lawful input front ≡ true) (nothing : length (due_lines input front) ≡ 0) (free : NothingIsBarred input front) where
  -- a train that can move has no cause
  goes : (t : ℕ) → CanMove input front t → is_some (cause input front t) ≡ false
  goes t can = no_cause input front t (legal_unbarred input fine front lawful nothing free t can.unheld) can.repairs

  -- in a front that hasn't ended it waits
  pub head_waits : has_ended front ≡ false → (u : ℕ) (rest : List ℕ) → kept input.plant front ≡ u ∷ rest → (waits input front u ≡ true) × (is_some (cause input front u) ≡ false)
  head_waits goes_on u rest is =
      let head = head_moves input fine front lawful nothing u rest is in
      (and_from (is_deciding input front) (is_ready input front u) (deciding front goes_on nothing is) head.ready, goes u head)
    where
      deciding : (front : Front) → has_ended front ≡ false → length (due_lines input front) ≡ 0 → kept input.plant front ≡ u ∷ rest → is_deciding input front ≡ true
      deciding [] goes_on nothing is = absurd (nothing_kept is)
        where
          nothing_kept : [] ≡ u ∷ rest → ⊥
          nothing_kept e = cc
      deciding (line ∷ before) goes_on nothing is =
          and_from (not (is_end line.entry.what)) (is_quiet (due_lines input (line ∷ before)) line.entry.at) (not_from_false (is_end line.entry.what) goes_on)
          (not_from_false (list_any (λ (d : Entry). eqb d.at line.entry.at) (due_lines input (line ∷ before)))
          (false_from_ne_true (list_any (λ (d : Entry). eqb d.at line.entry.at) (due_lines input (line ∷ before))) (none_due (λ (d : Entry). eqb d.at line.entry.at) (due_lines input (line ∷ before)) nothing)))

  -- so the kept list is empty where everything is settled
  list_is_empty : is_settled input front ≡ true → kept input.plant front ≡ []
  list_is_empty settled = at_list (kept input.plant front) refl
    where
      at_list : (list : List ℕ) → kept input.plant front ≡ list → list ≡ []
      at_list [] is = refl
      at_list (u ∷ rest) is =
          let head = head_moves input fine front lawful nothing u rest is in
          absurd (false≢true (sym (goes u head) ∙ settled_cause input front u settled head.known head.ready))

  -- so each train has made its moves or was cancelled
  pub all_made : is_settled input front ≡ true → (t : ℕ) → t < trains input.plant → (place front t ≡ moves input.plant t) ⊎ (is_cancelled t (told input.commands front) ≡ true)
  all_made settled t known =
      let empty = list_is_empty settled in
      let nobody = nobody_there (moves_of input.plant) (places input.plant front) t (nobody_left input fine front lawful nothing empty) in
      let few = few_admissions input fine front lawful t known in
      ⊎_elim
      (λ cancelled. inr cancelled)
      (λ runs.
      ⊎_elim
      (λ room.
      let ready = ready_now input front t nothing known room runs in
      absurd (false≢true (sym (goes t (entering_moves input fine front lawful nothing empty t known ready (still_outside input front t known nobody room))) ∙ settled_cause input front t settled known ready)))
      (λ all. inl (omega (arith, all, few)))
      (cases_lt (place front t) (moves input.plant t)))
      (cases_Bool (is_cancelled t (told input.commands front)))

-- an out line that stands names its train
stands_out : (front : Front) (time t : ℕ) → stands front (at_time time (Out t)) ≡ true → is_out front t ≡ true
stands_out [] time t stood = absurd (false≢true stood)
stands_out (line ∷ front) time t stood =
    ⊎_elim
    (λ here.
    let P : What → Type 0 = λ what. is_out_line t what ≡ true in
    or_left (is_out_line t line.entry.what) (is_out front t) (subst P (ap (λ (e : Entry). e.what) (one_entry (at_time time (Out t)) line.entry here)) (eq-eqb t t refl)))
    (λ earlier. or_right (is_out_line t line.entry.what) (is_out front t) (stands_out front time t earlier))
    (or_cases (same_entry (at_time time (Out t)) line.entry) (stands front (at_time time (Out t))) stood)

-- a train that has made its moves is out where nothing is due
pub out_when_made : (input : Input) → IsWellFormed input.plant → (front : Front) (t : ℕ) → length (due_lines input front) ≡ 0 → t < trains input.plant → place front t ≡ moves input.plant t → is_out front t ≡ true
out_when_made input fine front t nothing known made =
    let some = fine.some_move t known in
    let m : ℕ = moves input.plant t - 1 in
    stands_out front (out input.plant t (admissions front t) m) t
    (all_stand input front t (at_time (out input.plant t (admissions front t) m) (Out t)) nothing known (leaving m (omega (arith, some, made)) (omega (arith, some)) refl))

-- the end line is one by its kind
no_event_ends : (what : What) → is_event what ≡ true → is_end what ≡ true → ⊥
no_event_ends (Free x t) event ends = false≢true ends
no_event_ends (Arrive t m) event ends = false≢true ends
no_event_ends (Enter t m x) event ends = false≢true ends
no_event_ends (Out t) event ends = false≢true ends
no_event_ends (Ready t m) event ends = false≢true ends
no_event_ends (Told k) event ends = false≢true ends
no_event_ends (Untold k) event ends = false≢true ends
no_event_ends (Admit t m note) event ends = false≢true ends
no_event_ends (Hold t m why) event ends = false≢true ends
no_event_ends End event ends = false≢true event

pub ends_so : (input : Input) (front : Front) (line : Line) → is_end line.entry.what ≡ true → Follows input front line → Ends input front line
ends_so input front line ends (by_event happens) = absurd (no_event_ends line.entry.what happens.event ends)
ends_so input front line ends (by_admission t m note admits) = absurd (false≢true (sym (ap is_end admits.what) ∙ ends))
ends_so input front line ends (by_hold t m why holds) = absurd (false≢true (sym (ap is_end holds.what) ∙ ends))
ends_so input front line ends (by_end ends_here) = ends_here

-- the end line tells nothing
pub told_at_end : (input : Input) (line : Line) (front : Front) → Ends input front line → told input.commands (line ∷ front) ≡ told input.commands front
told_at_end input line front ends = told_kept input.commands line front (λ k is. clash k (sym ends.what ∙ is))
  where
    clash : (k : ℕ) → End ≡ Told k → ⊥
    clash k e = cc

none_pass : {X : Type 0} (p : X → Bool) (xs : List X) → list_any p xs ≡ false → filter p xs ≡ []
none_pass p [] h = refl
none_pass p (x ∷ xs) h =
    let both = or_parts (p x) (list_any p xs) h in
    cond-false (p x) (x ∷ filter p xs) (filter p xs) both.0 ∙ none_pass p xs both.1

-- where each train is out or cancelled, nobody remains
pub nobody_remains : (input : Input) (front : Front) → ((t : ℕ) → t < trains input.plant → (is_out front t ≡ true) ⊎ (is_cancelled t (told input.commands front) ≡ true)) → remaining input front ≡ []
nobody_remains input front each = at_bound (trains input.plant) (omega arith)
  where
    at_bound : (n : ℕ) → n ≤ trains input.plant → filter (λ t. not (is_out front t || is_cancelled t (told input.commands front))) (listed (λ t. t) n) ≡ []
    at_bound n le = none_pass (λ t. not (is_out front t || is_cancelled t (told input.commands front))) (listed (λ t. t) n) (none_below n le)
      where
        here : (t : ℕ) → t < trains input.plant → not (is_out front t || is_cancelled t (told input.commands front)) ≡ false
        here t lt = not_from_true (is_out front t || is_cancelled t (told input.commands front))
            (⊎_elim
            (λ is. or_left (is_out front t) (is_cancelled t (told input.commands front)) is)
            (λ is. or_right (is_out front t) (is_cancelled t (told input.commands front)) is)
            (each t lt))

        none_below : (n : ℕ) → n ≤ trains input.plant → list_any (λ t. not (is_out front t || is_cancelled t (told input.commands front))) (listed (λ t. t) n) ≡ false
        none_below zero le = refl
        none_below (suc n) le =
            list_any-append (λ t. not (is_out front t || is_cancelled t (told input.commands front))) (listed (λ t. t) n) (n ∷ [])
            ∙ or_from (list_any (λ t. not (is_out front t || is_cancelled t (told input.commands front))) (listed (λ t. t) n)) (not (is_out front n || is_cancelled n (told input.commands front)) || false)
            (none_below n (omega (arith, le)))
            (or_from (not (is_out front n || is_cancelled n (told input.commands front))) false (here n (omega (arith, le))) refl)

-- a front that ended, with what held before its end line
pub record IsAtEnd (input : Input) (line : Line) (front : Front) : Type 0 where
  pub before : is_lawful input front ≡ true
  pub ends : Ends input front line
  pub told_same : told input.commands (line ∷ front) ≡ told input.commands front
  pub adms_same : (t : ℕ) → admissions (line ∷ front) t ≡ admissions front t

pub at_end : (input : Input) (line : Line) (front : Front) → is_lawful input (line ∷ front) ≡ true → has_ended (line ∷ front) ≡ true → IsAtEnd input line front
at_end input line front lawful ended =
    let ends = ends_so input front line ended (lawful_last input line front lawful) in
    record {
      before = lawful_before input line front lawful;
      ends = ends;
      told_same = told_at_end input line front ends;
      adms_same = λ t. admissions_kept line front t (ap is_admission ends.what);
    }

free_before : (input : Input) (line : Line) (front : Front) → IsAtEnd input line front → NothingIsBarred input (line ∷ front) → NothingIsBarred input front
free_before input line front h free =
    record {
      opened = λ x. ap (is_closed x) (sym h.told_same) ∙ free.opened x;
      going = λ t. ap (is_stopped t) (sym h.told_same) ∙ free.going t;
    }

-- at the end each train is out or was cancelled
pub all_out : (input : Input) → IsWellFormed input.plant → (front : Front) → is_lawful input front ≡ true
    → has_ended front ≡ true → NothingIsBarred input front → (t : ℕ) → t < trains input.plant
    → (is_out front t ≡ true) ⊎ (is_cancelled t (told input.commands front) ≡ true)
all_out input fine [] lawful ended free t known = absurd (false≢true ended)
all_out input fine (line ∷ front) lawful ended free t known =
    let h = at_end input line front lawful ended in
    ⊎_elim
    (λ made. inl (or_right (is_out_line t line.entry.what) (is_out front t) (out_when_made input fine front t h.ends.nothing_due known made)))
    (λ cancelled. inr (ap (is_cancelled t) h.told_same ∙ cancelled))
    (all_made input fine front h.before h.ends.nothing_due (free_before input line front h free) h.ends.settled t known)

-- and the end line names nobody
pub end_names_nobody : (input : Input) → IsWellFormed input.plant → (line : Line) (front : Front) → is_lawful input (line ∷ front) ≡ true → has_ended (line ∷ front) ≡ true → NothingIsBarred input (line ∷ front) → line.trains ≡ []
end_names_nobody input fine line front lawful ended free =
    let h = at_end input line front lawful ended in
    let each : (t : ℕ) → t < trains input.plant → (is_out front t ≡ true) ⊎ (is_cancelled t (told input.commands front) ≡ true) = λ t known.
    ⊎_elim
    (λ made. inl (out_when_made input fine front t h.ends.nothing_due known made))
    (λ cancelled. inr cancelled)
    (all_made input fine front h.before h.ends.nothing_due (free_before input line front h free) h.ends.settled t known) in
    (bytes_decides line.trains (remaining input front)).0 h.ends.names ∙ nobody_remains input front each

-- where nothing is due, each command is written
commands_stand : (input : Input) (front : Front) → length (due_lines input front) ≡ 0 → (k : ℕ) (command : Command) → slice_get input.commands k ≡ Some command → is_written front command k ≡ true
commands_stand input front nothing k command is =
    let from_zero : 0 + k ≡ k = omega arith in
    ⊎_elim
    (λ written_one. written_one)
    (λ none. absurd (none_due (λ _. true) (due_lines input front) nothing (due_from_command input front (λ _. true) (record { index = k; command = command; listed = is; unwritten = ap (is_written front command) from_zero ∙ none; passing = refl }))))
    (cases_Bool (is_written front command k))

-- where nothing is due and nobody was cancelled, nothing is to come
nothing_to_come : (input : Input) (front : Front) → length (due_lines input front) ≡ 0 → NobodyIsCancelled input front → tally (λ _. true) (to_come input.plant front) ≡ 0
nothing_to_come input front nothing nobody =
    let same : all_events input.plant front ≡ events input front =
    gather_same (λ t. train_events input.plant t (admissions front t) false) (λ t. train_events input.plant t (admissions front t) (is_cancelled t (told input.commands front))) (trains input.plant)
    (λ t _. ap (train_events input.plant t (admissions front t)) (sym (nobody t))) in
    let waiting : List Entry = filter (λ e. not (stands front e)) (events input front) in
    omega (
      arith,
      ap (λ es. tally (λ _. true) (filter (λ e. not (stands front e)) es)) same,
      tally_all waiting,
      length-append waiting (commands_due input front 0 input.commands),
      nothing,
    )

-- at the end of a front whose every train is out, the bound is met by the lines and the sections of overlaps that were taken over
pub exactly_bound : (input : Input) → IsWellFormed input.plant → (front : Front) → is_lawful input front ≡ true → has_ended front ≡ true → NothingIsBarred input front → NobodyIsCancelled input front → lines_beside_holds front + taken_over input.plant front ≡ bound input.plant (length input.commands)
exactly_bound input fine [] lawful ended free nobody = absurd (false≢true ended)
exactly_bound input fine (line ∷ front) lawful ended free nobody =
    let h = at_end input line front lawful ended in
    let running : NobodyIsCancelled input front = λ t. ap (is_cancelled t) (sym h.told_same) ∙ nobody t in
    let events_same : all_events input.plant (line ∷ front) ≡ all_events input.plant front =
    gather_same (λ t. train_events input.plant t (admissions (line ∷ front) t) false) (λ t. train_events input.plant t (admissions front t) false) (trains input.plant)
    (λ t _. ap (λ adms. train_events input.plant t adms false) (h.adms_same t)) in
    let none : tally (λ _. true) (to_come input.plant (line ∷ front)) ≡ 0 = omega (
      arith,
      account input fine (line ∷ front) lawful (λ _. true),
      account input fine front h.before (λ _. true),
      ap (tally (λ _. true)) events_same,
      ap (λ what. tally (λ _. true) (cond (is_train_event what) (line.entry ∷ []) [] ++ written front)) h.ends.what,
      nothing_to_come input front h.ends.nothing_due running,
    ) in
    met input fine (line ∷ front) lawful ended none
    (omega (arith, all_written input front (commands_stand input front h.ends.nothing_due), written_no_less input line front, few_written input (line ∷ front)))
    (λ t known. (
      ap length (h.adms_same t) ∙
          ⊎_elim (λ made. made) (λ cancelled. absurd (false≢true (sym (running t) ∙ cancelled))) (all_made input fine front h.before h.ends.nothing_due (free_before input line front h free) h.ends.settled t known),
      fine.some_move t known,
    ))

-- the same of a front that is lawful to the end
pub complete_out : (input : Input) → IsWellFormed input.plant → (front : Front) → is_complete input front ≡ true → NothingIsBarred input front → (t : ℕ) → t < trains input.plant → (is_out front t ≡ true) ⊎ (is_cancelled t (told input.commands front) ≡ true)
complete_out input fine front complete =
    let both = and_parts (is_lawful input front) (has_ended front) complete in
    all_out input fine front both.0 both.1

pub complete_names : (input : Input) → IsWellFormed input.plant → (line : Line) (front : Front) → is_complete input (line ∷ front) ≡ true → NothingIsBarred input (line ∷ front) → line.trains ≡ []
complete_names input fine line front complete =
    let both = and_parts (is_lawful input (line ∷ front)) (has_ended (line ∷ front)) complete in
    end_names_nobody input fine line front both.0 both.1

pub complete_bound : (input : Input) → IsWellFormed input.plant → (front : Front) → is_complete input front ≡ true → NothingIsBarred input front → NobodyIsCancelled input front → lines_beside_holds front + taken_over input.plant front ≡ bound input.plant (length input.commands)
complete_bound input fine front complete =
    let both = and_parts (is_lawful input front) (has_ended front) complete in
    exactly_bound input fine front both.0 both.1
