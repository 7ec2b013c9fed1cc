-- Each line that is no hold line is an event line of a train, the line of a command, an admission or the end line.
use Rattle.std.proofs.Common.{◌≡◌, ℕ, zero, suc, ◌+◌, Bool, true, false, cond, List, [], ◌∷◌, ◌++◌, length, refl, sym, ap, ◌∙◌, arith, length-append}
use Rattle.std.proofs.lemmas.Bool.{cond-false, and_parts}
use Rattle.rail_base.specs.declared.history.Entry.{Entry}
use Rattle.rail_base.specs.declared.history.What.{What}
use Rattle.rail_base.specs.declared.history.What.TheVariants.{Free, Arrive, Enter, Out, Ready, Told, Untold, Admit, Hold, End}
use Rattle.rail_rules.specs.Numbers.{sum_below}
use Rattle.rail_rules.specs.Plant.{trains}
use Rattle.rail_rules.specs.Fronts.{Front, is_end, has_ended, is_hold, is_admission, admissions, lines_beside_holds}
use Rattle.rail_rules.specs.Orders.{Input}
use Rattle.rail_rules.specs.Causes.{place}
use Rattle.rail_rules.specs.Lawful.{is_lawful, may_follow}
use Rattle.rail_rules.proofs.CallerLemmas.{sum_below_same, admissions_kept}
use Rattle.rail_laws_front.specs.Views.{Follows}
use Rattle.rail_laws_front.specs.Views.Follows.{by_event, by_admission, by_hold, by_end}
use Rattle.rail_laws_front.proofs.CallerLemmas.{lawful_before, lawful_last, not_ended, admission_added, admission_of_other, event_admits_nothing, waiting_parts, waiting_known}
use Rattle.rail_laws_events.specs.Accounts.{is_train_event, written}
use Rattle.rail_rules.specs.LineCounts.{is_command, lines_that}
use Rattle.rail_laws_events.proofs.Sums.{sum-one_more}

-- the kinds of a line
kinds : (what : What) → cond (is_hold what) 0 1 ≡ cond (is_train_event what) 1 0 + cond (is_command what) 1 0 + cond (is_admission what) 1 0 + cond (is_end what) 1 0
kinds (Free x t) = refl
kinds (Arrive t m) = refl
kinds (Enter t m x) = refl
kinds (Out t) = refl
kinds (Ready t m) = refl
kinds (Told k) = refl
kinds (Untold k) = refl
kinds (Admit t m note) = refl
kinds (Hold t m why) = refl
kinds End = refl

written_one : (b : Bool) (e : Entry) (rest : List Entry) → length (cond b (e ∷ []) [] ++ rest) ≡ cond b 1 0 + length rest
written_one true e rest = omega arith
written_one false e rest = omega arith

pub lines_counted : (front : Front) → lines_beside_holds front ≡ length (written front) + lines_that is_command front + lines_that is_admission front + lines_that is_end front
lines_counted [] = refl
lines_counted (line ∷ front) = omega (arith, lines_counted front, kinds line.entry.what, written_one (is_train_event line.entry.what) line.entry (written front))

-- the admissions of all trains together
pub admissions_counted : (input : Input) (front : Front) → is_lawful input front ≡ true → lines_that is_admission front ≡ sum_below (place front) (trains input.plant)
admissions_counted input [] lawful = sym (sum-zero (trains input.plant))
  where
    sum-zero : (n : ℕ) → sum_below (place []) n ≡ 0
    sum-zero zero = refl
    sum-zero (suc n) = omega (arith, sum-zero n)
admissions_counted input (line ∷ front) lawful = step (lawful_last input line front lawful) (admissions_counted input front (lawful_before input line front lawful))
  where
    idle : is_admission line.entry.what ≡ false → lines_that is_admission front ≡ sum_below (place front) (trains input.plant) → lines_that is_admission (line ∷ front) ≡ sum_below (place (line ∷ front)) (trains input.plant)
    idle none h =
        omega (arith, h, cond-false {A = ℕ} (is_admission line.entry.what) 1 0 none, sum_below_same (place (line ∷ front)) (place front) (trains input.plant) (λ t _. ap length (admissions_kept line front t none)))

    step : Follows input front line → lines_that is_admission front ≡ sum_below (place front) (trains input.plant) → lines_that is_admission (line ∷ front) ≡ sum_below (place (line ∷ front)) (trains input.plant)
    step (by_event happens) h = idle (event_admits_nothing line.entry.what happens.event) h
    step (by_hold t m why holds) h = idle (ap is_admission holds.what) h
    step (by_end ends) h = idle (ap is_admission ends.what) h
    step (by_admission t m note admits) h =
        let known = waiting_known input.plant t (place front t) (waiting_parts input front t admits.waiting).room in
        omega (
          arith,
          h,
          ap {B = ℕ} (λ what. cond (is_admission what) 1 0) admits.what,
          sum-one_more (place front) (place (line ∷ front)) (trains input.plant) t known
              (ap length (admission_added line front t m note admits.what) ∙ length-append (admissions front t) (line.entry.at ∷ []) ∙ omega arith)
              (λ u _ other. ap length (admission_of_other line front t m note u admits.what other)),
        )

-- a history has one end line at most
pub ends_counted : (input : Input) (front : Front) → is_lawful input front ≡ true → lines_that is_end front ≡ cond (has_ended front) 1 0
ends_counted input [] lawful = refl
ends_counted input (line ∷ front) lawful =
    let going = not_ended input front line (and_parts (is_lawful input front) (may_follow input front line) lawful).1 in
    omega (arith, ends_counted input front (lawful_before input line front lawful), cond-false {A = ℕ} (has_ended front) 1 0 going)
