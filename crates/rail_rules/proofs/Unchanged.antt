-- A line that is no admission changes no event line of an admitted move.
use Rattle.std.proofs.Common.{◌≡◌, ℕ, zero, suc, ◌<◌, false, List, ◌++◌, ◌∷◌, [], refl, sym, ap, arith}
use Rattle.std.proofs.lemmas.Bool.{cond-false, false≢true}
use Rattle.rail_base.specs.declared.history.What.{What}
use Rattle.rail_base.specs.declared.history.What.TheVariants.{Free, Arrive, Enter, Out, Ready, Told, Untold, Admit, Hold, End}
use Rattle.rail_rules.specs.Numbers.{gather}
use Rattle.rail_rules.specs.Plant.{Plant, trains}
use Rattle.rail_rules.specs.Fronts.{Line, Front, is_admission, admits, admissions}
use Rattle.rail_rules.specs.Events.{moved_events, moved_lines}

pub gather_same : {X : Type 0} (f g : ℕ → List X) (n : ℕ) → ((i : ℕ) → i < n → f i ≡ g i) → gather f n ≡ gather g n
gather_same f g zero h = refl
gather_same f g (suc n) h = λ k. gather_same f g n (λ i below. h i (omega arith)) k ++ h n (omega arith) k

pub no_admission : (t : ℕ) (what : What) → is_admission what ≡ false → admits t what ≡ false
no_admission t (Admit u m note) h = absurd (false≢true (sym h))
no_admission t (Free x u) h = refl
no_admission t (Arrive u m) h = refl
no_admission t (Enter u m x) h = refl
no_admission t (Out u) h = refl
no_admission t (Ready u m) h = refl
no_admission t (Told k) h = refl
no_admission t (Untold k) h = refl
no_admission t (Hold u m cause) h = refl
no_admission t End h = refl

-- the admissions are those before the line
pub admissions_kept : (line : Line) (front : Front) (t : ℕ) → is_admission line.entry.what ≡ false → admissions (line ∷ front) t ≡ admissions front t
admissions_kept line front t h = cond-false (admits t line.entry.what) (admissions front t ++ line.entry.at ∷ []) (admissions front t) (no_admission t line.entry.what h)

pub moved_lines_kept : (plant : Plant) (line : Line) (front : Front) → is_admission line.entry.what ≡ false → moved_lines plant (line ∷ front) ≡ moved_lines plant front
moved_lines_kept plant line front h =
    gather_same (λ t. moved_events plant t (admissions (line ∷ front) t)) (λ t. moved_events plant t (admissions front t)) (trains plant)
    (λ t _. ap (moved_events plant t) (admissions_kept line front t h))
