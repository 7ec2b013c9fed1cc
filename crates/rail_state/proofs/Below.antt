-- The laws below, in the forms in which they are used here.
use Rattle.std.proofs.Common.{◌∙◌, ◌≡◌, ℕ, suc, ◌<◌, Bool, true, false, not, List, [], ◌∷◌, eqb, length, get_or, set, replicate, Option, Some, None, refl, sym, ap, ⊎_elim, arith}
use Rattle.std.proofs.lemmas.Bool.{not-true, and_parts, cases_Bool, eqb-true, ltb-true, false≢true}
use Rattle.std.specs.Prelude.{nat_lt, is_some, ◌&&◌}
use Rattle.rail_base.specs.declared.history.Note.{Note}
use Rattle.rail_base.specs.declared.history.Cause.{Cause}
use Rattle.rail_base.specs.declared.history.Entry.{Entry}
use Rattle.rail_base.specs.declared.history.What.{What}
use Rattle.rail_base.specs.declared.history.What.TheVariants.{Free, Arrive, Enter, Out, Ready, Told, Untold, Admit, Hold, End}
use Rattle.rail_rules.specs.Numbers.{is_in}
use Rattle.rail_rules.specs.Fronts.{Line, Front, has_ended, instant, same_cause, is_admission, is_hold, admissions, stands}
use Rattle.rail_rules.specs.Orders.{Input, is_cancelled, told}
use Rattle.rail_rules.specs.Plant.{Plant, claimed, trains, moves, steps}
use Rattle.rail_rules.specs.Times.{ready, enter}
use Rattle.rail_rules.specs.Events.{enter_line, ready_line}
use Rattle.rail_rules.proofs.CallerLemmas.{admissions_kept}
use Rattle.rail_laws_step.specs.LineKinds.{is_ready_line}
use Rattle.rail_laws_step.proofs.CallerLemmas.{ready_by_line, held_last, held_other, hold_due, settled_where_told, unheld, ends_follows, happens_follows, holds_follows, out_by_line, out_kept as kept_out, to_come_found as pending_found, ready_same, head_enters as pending_enters, head_first, head_kept as pending_kept, next_enter as pending_enter, blocked_is, at_first, frees_one, kept as kept_holders, takes}
use Rattle.rail_rules.specs.Causes.{blocked_cause, cause, is_settled, is_deciding, is_ready, last_hold, place}
use Rattle.rail_rules.specs.Lawful.{is_lawful, is_out, is_out_line, may_follow}
use Rattle.rail_laws_front.specs.Premises.{IsWellFormed}
use Rattle.rail_laws_front.specs.Views.{Admits, Happens, Holds, Ends}
use Rattle.rail_laws_events.specs.Accounts.{tally, to_come}
use Rattle.rail_laws_step.specs.HolderTables.{AreHolders, bar_holder, held_cause, own_overlap, taken_by}
use Rattle.rail_laws_step.specs.LinesToCome.{ToCome}
use Rattle.rail_laws_front.proofs.CallerLemmas.{lawful_before, told_kept, well_formed_from_accepted}
use Rattle.rail_rules.specs.LineCounts.{is_command}
use Rattle.rail_state.proofs.Early.{no_early_hold as told_no_early}
use Rattle.rail_laws_step.specs.Heads.{IsHead, enters, next_move, next_step}
use Rattle.rail_rules.specs.Accepted.{is_accepted}
use Rattle.rail_state.specs.Representation.{bare_at}

idle_ready : (w : What) (t m : ℕ) → w ≡ Ready t m → is_admission w ≡ false
idle_ready w t m is = ap is_admission is

-- a train that is ready has a move left
ready_left : (input : Input) (line : Line) (front : Front) (t : ℕ) → is_ready input (line ∷ front) t ≡ true → is_admission line.entry.what ≡ false → place front t < moves input.plant t
ready_left input line front t ready idle =
    let p : ℕ = place (line ∷ front) t in
    let inner = and_parts (nat_lt p (moves input.plant t) && not (is_cancelled t (told input.commands (line ∷ front)))) (stands (line ∷ front) (ready_line input.plant t (admissions (line ∷ front) t) p)) ready in
    let left = ltb-true p (moves input.plant t) (and_parts (nat_lt p (moves input.plant t)) (not (is_cancelled t (told input.commands (line ∷ front)))) inner.0).0 in
    omega (arith, left, ap length (admissions_kept line front t idle))

no_ready_line : (t : ℕ) (w : What) → ((m : ℕ) → w ≡ Ready t m → ⊥) → is_ready_line t w ≡ false
no_ready_line t (Ready u m) other = ⊎_elim (λ here. absurd (other m (ap (λ v. Ready v m) (eqb-true u t here)))) (λ no_here. no_here) (cases_Bool (eqb u t))
no_ready_line t (Free x u) other = refl
no_ready_line t (Arrive u m) other = refl
no_ready_line t (Enter u m x) other = refl
no_ready_line t (Out u) other = refl
no_ready_line t (Told k) other = refl
no_ready_line t (Untold k) other = refl
no_ready_line t (Admit u m note) other = refl
no_ready_line t (Hold u m why) other = refl
no_ready_line t End other = refl

is_out_of : (t : ℕ) (w : What) → is_out_line t w ≡ true → w ≡ Out t
is_out_of t (Out u) h = ap Out (eqb-true u t h)
is_out_of t (Ready u m) h = absurd (false≢true h)
is_out_of t (Free x u) h = absurd (false≢true h)
is_out_of t (Arrive u m) h = absurd (false≢true h)
is_out_of t (Enter u m x) h = absurd (false≢true h)
is_out_of t (Told k) h = absurd (false≢true h)
is_out_of t (Untold k) h = absurd (false≢true h)
is_out_of t (Admit u m note) h = absurd (false≢true h)
is_out_of t (Hold u m why) h = absurd (false≢true h)
is_out_of t End h = absurd (false≢true h)

-- of waiting trains
pub record BecomesReady (input : Input) (line : Line) (front : Front) (t m : ℕ) : Type 0 where
  pub next : m ≡ suc (place front t)
  pub before : is_ready input front t ≡ false
  pub after : is_ready input (line ∷ front) t ≡ true
  pub when : line.entry.at ≡ ready input.plant t (admissions front t) (place front t)
  pub left : place front t < moves input.plant t

pub becomes_ready : (input : Input) → IsWellFormed input.plant → (line : Line) (front : Front) → is_lawful input (line ∷ front) ≡ true → (t m : ℕ) → line.entry.what ≡ Ready t m → BecomesReady input line front t m
becomes_ready input fine line front lawful t m what =
    let facts = ready_by_line input line front t m lawful what in
    record { next = facts.0; before = facts.1; after = facts.2; when = facts.3; left = ready_left input line front t facts.2 (idle_ready line.entry.what t m what) }

pub unheld_before_ready : (input : Input) (front : Front) → is_lawful input front ≡ true → (t : ℕ) → is_cancelled t (told input.commands front) ≡ false → is_ready input front t ≡ false → last_hold front t (suc (place front t)) ≡ None
unheld_before_ready input front lawful t runs h = told_no_early input front t lawful runs h

pub to_come_found : (plant : Plant) (front : Front) (p : Entry → Bool) → 0 < tally p (to_come plant front) → ToCome plant front p
to_come_found plant front p some = pending_found plant front p some

pub next_enter : (input : Input) → IsWellFormed input.plant → (front : Front) → is_lawful input front ≡ true → (t n i m j : ℕ) → t < trains input.plant → IsHead input.plant front t n i → m < place front t → j < steps input.plant t m
    → stands front (enter_line input.plant t (admissions front t) m j) ≡ false
    → tally (λ d. enters t d.what && nat_lt d.at (enter input.plant t (admissions front t) m j)) (to_come input.plant front) ≡ 0
    → (m ≡ n) × (j ≡ i)
next_enter input fine front lawful t n i m j known head lm lj fresh least = pending_enter input fine front lawful t n i m j known head lm lj fresh least

-- of holders
pub holders_block : (input : Input) → is_accepted input.plant ≡ true → (front : Front) → is_lawful input front ≡ true → is_deciding input front ≡ true → (holders : List (Option ℕ))
    → AreHolders input.plant front holders → (t : ℕ) (sections : List ℕ) → blocked_cause input front t sections ≡ held_cause holders t (own_overlap input.plant t (place front t)) sections
holders_block input accepted front lawful deciding holders are t sections = blocked_is input accepted front lawful deciding holders are t sections

-- of what is settled
pub record HasCauseTold (input : Input) (front : Front) (t : ℕ) : Type 0 where
  pub why : Cause
  pub is_cause : cause input front t ≡ Some why
  pub is_told : last_hold front t (suc (place front t)) ≡ Some why

pub settled_when_told : (input : Input) → (front : Front) → is_deciding input front ≡ true → ((t : ℕ) → t < trains input.plant → is_ready input front t ≡ true → HasCauseTold input front t) → is_settled input front ≡ true
settled_when_told input front deciding told_each = settled_where_told input front deciding (λ t known ready. let told = told_each t known ready in (told.why, told.is_cause, told.is_told))

pub well_formed_plant : (plant : Plant) → is_accepted plant ≡ true → IsWellFormed plant
well_formed_plant = well_formed_from_accepted

-- of waiting trains
pub ready_kept : (input : Input) (line : Line) (front : Front) → is_lawful input (line ∷ front) ≡ true → is_admission line.entry.what ≡ false → is_command line.entry.what ≡ false → (t : ℕ) → ((m : ℕ) → line.entry.what ≡ Ready t m → ⊥) → is_ready input (line ∷ front) t ≡ is_ready input front t
ready_kept input line front lawful idle quiet t other = ready_same input line front t (admissions_kept line front t idle) (told_kept input.commands line front (λ k is. false≢true (sym quiet ∙ ap is_command is))) (no_ready_line t line.entry.what other)

-- a train that is ready isn't cancelled
pub ready_runs : (input : Input) (front : Front) (t : ℕ) → is_ready input front t ≡ true → is_cancelled t (told input.commands front) ≡ false
ready_runs input front t ready =
    let p : ℕ = place front t in
    let inner = and_parts (nat_lt p (moves input.plant t) && not (is_cancelled t (told input.commands front))) (stands front (ready_line input.plant t (admissions front t) p)) ready in
    not-true (is_cancelled t (told input.commands front)) (and_parts (nat_lt p (moves input.plant t)) (not (is_cancelled t (told input.commands front))) inner.0).1

pub hold_kept : (line : Line) (front : Front) (t m : ℕ) → is_hold line.entry.what ≡ false → last_hold (line ∷ front) t m ≡ last_hold front t m
hold_kept line front t m no_hold = unheld line front t m no_hold

pub out_kept : (line : Line) (front : Front) (t : ℕ) → is_out_line t line.entry.what ≡ false → is_out (line ∷ front) t ≡ is_out front t
out_kept line front t other = kept_out line front t other

pub out_now : (line : Line) (front : Front) (t : ℕ) → is_out_line t line.entry.what ≡ true → is_out (line ∷ front) t ≡ true
out_now line front t now = out_by_line line front t (is_out_of t line.entry.what now)

pub follows_event : (input : Input) (front : Front) (line : Line) → has_ended front ≡ false → Happens input front line → may_follow input front line ≡ true
follows_event input front line going happens = happens_follows input front line going happens

-- of holders
pub holder_frees : (input : Input) → is_accepted input.plant ≡ true → (line : Line) (front : Front) → is_lawful input (line ∷ front) ≡ true → (x t : ℕ) → line.entry.what ≡ Free x t
    → (h : List (Option ℕ)) → AreHolders input.plant front h → (get_or h x None ≡ Some t) × AreHolders input.plant (line ∷ front) (set h x None)
holder_frees input accepted line front lawful x t what h are = frees_one input accepted line front lawful x t what h are

pub holders_kept : (input : Input) → is_accepted input.plant ≡ true → (line : Line) (front : Front) → is_lawful input (line ∷ front) ≡ true → is_admission line.entry.what ≡ false
    → ((x t : ℕ) → line.entry.what ≡ Free x t → ⊥) → (h : List (Option ℕ)) → AreHolders input.plant front h → AreHolders input.plant (line ∷ front) h
holders_kept input accepted line front lawful idle no_free h are = kept_holders input.plant line front idle no_free h are

-- of lines to come
pub head_enters : (input : Input) → IsWellFormed input.plant → (line : Line) (front : Front) → is_lawful input (line ∷ front) ≡ true → (t n i : ℕ) → n < place front t
    → line.entry ≡ enter_line input.plant t (admissions front t) n i → IsHead input.plant front t n i
    → IsHead input.plant (line ∷ front) t (next_move input.plant t n i) (next_step input.plant t n i)
head_enters input fine line front lawful t n i lt same head = pending_enters input fine line front lawful t n i lt same head

pub head_kept : (input : Input) → IsWellFormed input.plant → (line : Line) (front : Front) → is_lawful input (line ∷ front) ≡ true → (t n i : ℕ) → enters t line.entry.what ≡ false → IsHead input.plant front t n i → IsHead input.plant (line ∷ front) t n i
head_kept input fine line front lawful t n i other head = pending_kept input fine line front lawful t n i other head

-- of waiting trains
pub hold_here : (line : Line) (front : Front) (t m : ℕ) (why : Cause) → line.entry.what ≡ Hold t m why → last_hold (line ∷ front) t m ≡ Some why
hold_here line front t m why what = held_last line front t m why what

pub hold_of_other : (line : Line) (front : Front) (t m u n : ℕ) (why : Cause) → line.entry.what ≡ Hold t m why → (u ≡ t → ⊥) → last_hold (line ∷ front) u n ≡ last_hold front u n
hold_of_other line front t m u n why what other = held_other line front u n t m why what (λ same _. other (sym same))

pub holds_when_known : (input : Input) (front : Front) (t : ℕ) (why : Cause) (at : ℕ) → is_deciding input front ≡ true → at ≡ instant front
    → ((u : ℕ) → u < trains input.plant → is_ready input front u ≡ true → is_some (cause input front u) ≡ true)
    → t < trains input.plant → is_ready input front t ≡ true → cause input front t ≡ Some why
    → same_cause (last_hold front t (suc (place front t))) (Some why) ≡ false
    → ((u : ℕ) → u < t → is_ready input front u ≡ true → last_hold front u (suc (place front u)) ≡ cause input front u)
    → Holds input front (bare_at at (Hold t (suc (place front t)) why)) t (suc (place front t)) why
holds_when_known input front t why at deciding now each known ready is untold before = hold_due input (bare_at at (Hold t (suc (place front t)) why)) front t why refl now refl deciding each known ready is untold before

pub follows_hold : (input : Input) (front : Front) (line : Line) (t m : ℕ) (why : Cause) → has_ended front ≡ false → Holds input front line t m why → may_follow input front line ≡ true
follows_hold input front line t m why going holds = holds_follows input front line t m why going holds

pub follows_end : (input : Input) (front : Front) (line : Line) → has_ended front ≡ false → Ends input front line → may_follow input front line ≡ true
follows_end input front line going ends = ends_follows input front line going ends

-- of holders
pub holders_taken : (input : Input) → is_accepted input.plant ≡ true → (line : Line) (front : Front) → is_lawful input (line ∷ front) ≡ true → (t m : ℕ) (note : Note)
    → Admits input front line t m note → (h : List (Option ℕ)) → ((x : ℕ) → is_in x (claimed input.plant t (place front t)) ≡ true → bar_holder h t (own_overlap input.plant t (place front t)) x ≡ None)
    → AreHolders input.plant front h → AreHolders input.plant (line ∷ front) (taken_by h (claimed input.plant t (place front t)) t)
holders_taken input accepted line front lawful t m note admits h free are = takes input accepted line front (lawful_before input line front lawful) t m note admits h are free

-- before the first line
pub first_head : (plant : Plant) → IsWellFormed plant → (t : ℕ) → t < trains plant → IsHead plant [] t 0 0
first_head plant fine t lt = head_first plant fine t

pub first_holders : (plant : Plant) → is_accepted plant ≡ true → AreHolders plant [] (replicate (length plant.tables.sections) None)
first_holders plant accepted = at_first plant
