-- Every lawful front of a plant that may be run has a table of the holders of its sections.
use Rattle.std.proofs.Common.{◌≡◌, ℕ, true, false, eqb, List, [], ◌∷◌, length, set, replicate, is_some, Option, Some, None, refl, sym, ap, ◌∙◌, subst, ⊎_elim}
use Rattle.std.specs.Option.{option_map}
use Rattle.std.proofs.lemmas.Bool.{eqb-true, eq-eqb, false≢true, or_cases}
use Rattle.rail_base.specs.declared.history.Cause.TheVariants.{Blocked}
use Rattle.rail_base.specs.declared.history.Note.{Note}
use Rattle.rail_base.specs.declared.history.What.{What}
use Rattle.rail_base.specs.declared.history.What.TheVariants.{Free, Arrive, Enter, Out, Ready, Told, Untold, Admit, Hold, End}
use Rattle.rail_base.specs.declared.orders.Order.{Order}
use Rattle.rail_rules.specs.Accepted.{is_accepted}
use Rattle.rail_rules.specs.Causes.{blocked_cause, closed_cause, place, stop_cause}
use Rattle.rail_rules.specs.Fronts.{Front, Line, is_admission}
use Rattle.rail_rules.specs.Lawful.{is_lawful}
use Rattle.rail_rules.specs.Numbers.{is_in, or_else}
use Rattle.rail_rules.specs.Orders.{Input, told}
use Rattle.rail_rules.specs.Plant.{Plant, claimed}
use Rattle.rail_laws_front.specs.Views.{Admits, Follows, is_event}
use Rattle.rail_laws_front.specs.Views.Follows.{by_event, by_admission, by_hold, by_end}
use Rattle.rail_laws_front.proofs.CallerLemmas.{lawful_before, lawful_last, neither, waiting_parts}
use Rattle.rail_laws_step.specs.HolderTables.{AreHolders, bar_holder, gives_free, held_cause, own_overlap, taken_by}
use Rattle.rail_laws_step.proofs.Blocking.{blocked_is}
use Rattle.rail_laws_step.proofs.HoldersKept.{at_first, frees_one, kept}
use Rattle.rail_laws_step.proofs.Taking.{takes}

-- a table of the holders after the front
pub record HasHolders (plant : Plant) (front : Front) : Type 0 where
  pub holders : List (Option ℕ)
  pub are : AreHolders plant front holders

-- where no holder bars a train over sections, none bars it over one of them
unbarred_at : (h : List (Option ℕ)) (t : ℕ) (own sections : List ℕ) → is_some (held_cause h t own sections) ≡ false → (x : ℕ) → is_in x sections ≡ true → bar_holder h t own x ≡ None
unbarred_at h t own [] free x there = absurd (false≢true there)
unbarred_at h t own (y ∷ ys) free x there =
    let parts = neither (option_map (Blocked y) (bar_holder h t own y)) (held_cause h t own ys) free in
    let P : ℕ → Type 0 = λ z. bar_holder h t own z ≡ None in
    ⊎_elim
    (λ here. subst P (eqb-true y x here) (nobody (bar_holder h t own y) parts.0))
    (λ later. unbarred_at h t own ys parts.1 x later)
    (or_cases (eqb y x) (is_in x ys) there)
  where
    nobody : (o : Option ℕ) → is_some (option_map (Blocked y) o) ≡ false → o ≡ None
    nobody None none = refl
    nobody (Some u) none = absurd (false≢true (sym none))

module _ (input : Input) (accepted : is_accepted input.plant ≡ true) (line : Line) (front : Front) (lawful : is_lawful input (line ∷ front) ≡ true) (before : HasHolders input.plant front) where
  earlier : is_lawful input front ≡ true
  earlier = lawful_before input line front lawful

  -- the holders don't bar a train that is admitted
  unbarred : (t m : ℕ) (note : Note) → Admits input front line t m note → (x : ℕ) → is_in x (claimed input.plant t (place front t)) ≡ true → bar_holder before.holders t (own_overlap input.plant t (place front t)) x ≡ None
  unbarred t m note admits =
      let sections : List ℕ = claimed input.plant t (place front t) in
      let own : List ℕ = own_overlap input.plant t (place front t) in
      let orders : List Order = told input.commands front in
      let going = neither (stop_cause t orders) (or_else (closed_cause sections orders) (blocked_cause input front t sections)) admits.unbarred in
      let opened = neither (closed_cause sections orders) (blocked_cause input front t sections) going.1 in
      let same = blocked_is input accepted front earlier (waiting_parts input front t admits.waiting).deciding before.holders before.are t sections in
      unbarred_at before.holders t own sections (ap is_some (sym same) ∙ opened.1)

  admitted : (t m : ℕ) (note : Note) → line.entry.what ≡ Admit t m note → Follows input front line → HasHolders input.plant (line ∷ front)
  admitted t m note is (by_event happens) = absurd (false≢true (ap is_event (sym is) ∙ happens.event))
  admitted t m note is (by_admission u n kind admits) = record {
    holders = taken_by before.holders (claimed input.plant u (place front u)) u;
    are = takes input accepted line front earlier u n kind admits before.holders before.are (unbarred u n kind admits);
  }
  admitted t m note is (by_hold u n why holds) = absurd (false≢true (ap is_admission (sym holds.what ∙ is)))
  admitted t m note is (by_end ends) = absurd (false≢true (ap is_admission (sym ends.what ∙ is)))

  idle : (w : What) → line.entry.what ≡ w → is_admission w ≡ false → ((x : ℕ) → gives_free x w ≡ false) → HasHolders input.plant (line ∷ front)
  idle w is unadmitted no_free = record {
    holders = before.holders;
    are = kept input.plant line front (ap is_admission is ∙ unadmitted)
        (λ x t frees. false≢true (sym (no_free x) ∙ ap (gives_free x) (sym is ∙ frees) ∙ eq-eqb x x refl))
        before.holders before.are;
  }

  by_line : (w : What) → line.entry.what ≡ w → HasHolders input.plant (line ∷ front)
  by_line (Free x t) is = record {
    holders = set before.holders x None;
    are = (frees_one input accepted line front lawful x t is before.holders before.are).1;
  }
  by_line (Admit t m note) is = admitted t m note is (lawful_last input line front lawful)
  by_line (Arrive t m) is = idle (Arrive t m) is refl (λ x. refl)
  by_line (Enter t m y) is = idle (Enter t m y) is refl (λ x. refl)
  by_line (Out t) is = idle (Out t) is refl (λ x. refl)
  by_line (Ready t m) is = idle (Ready t m) is refl (λ x. refl)
  by_line (Told k) is = idle (Told k) is refl (λ x. refl)
  by_line (Untold k) is = idle (Untold k) is refl (λ x. refl)
  by_line (Hold t m why) is = idle (Hold t m why) is refl (λ x. refl)
  by_line End is = idle End is refl (λ x. refl)

pub holders_there : (input : Input) → is_accepted input.plant ≡ true → (front : Front) → is_lawful input front ≡ true → HasHolders input.plant front
holders_there input accepted [] lawful = record {
  holders = replicate (length input.plant.tables.sections) None;
  are = at_first input.plant;
}
holders_there input accepted (line ∷ front) lawful = by_line input accepted line front lawful (holders_there input accepted front (lawful_before input line front lawful)) line.entry.what refl
