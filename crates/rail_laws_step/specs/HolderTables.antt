-- A table of the holders of sections.
use Rattle.std.specs.Prelude.{◌≡◌, ℕ, zero, suc, ◌+◌, ◌<◌, ◌==◌, Bool, false, not, ◌&&◌, cond, List, [], ◌∷◌, length, get_or, set, Option, Some, None}
use Rattle.std.specs.Option.{option_map}
use Rattle.rail_base.specs.declared.history.Entry.{Entry}
use Rattle.rail_base.specs.declared.history.What.{What}
use Rattle.rail_base.specs.declared.history.What.TheVariants.{Free}
use Rattle.rail_base.specs.declared.history.Cause.{Cause}
use Rattle.rail_base.specs.declared.history.Cause.TheVariants.{Blocked}
use Rattle.rail_rules.specs.Numbers.{is_in, or_else, sum_below}
use Rattle.rail_rules.specs.Plant.{Plant, overlap, trains, claims, step_section}
use Rattle.rail_rules.specs.Intervals.{is_taken_over}
use Rattle.rail_rules.specs.Fronts.{Front, admissions}
use Rattle.rail_laws_events.specs.Accounts.{tally, written}

-- the holder is this train
abbrev pub is_train : ℕ → Option ℕ → Bool
is_train t None = false
is_train t (Some u) = u == t

-- how often the train took the section: the admitted moves that claim it, without what their next moves took over
abbrev pub taken : Plant → ℕ → List ℕ → ℕ → ℕ
taken plant t adms x = sum_below (λ m. sum_below (λ j.
    cond ((step_section plant t m j == x) && not (is_taken_over plant t adms m j)) 1 0) (claims plant t m)) (length adms)

-- the overlap of the move that brought the train to a place
abbrev pub own_overlap : Plant → ℕ → ℕ → List ℕ
own_overlap plant t zero = []
own_overlap plant t (suc m) = overlap plant t m

-- the line gives the section free behind the train
abbrev pub frees_for : ℕ → ℕ → What → Bool
frees_for x t (Free y u) = (y == x) && (u == t)
frees_for x t _ = false

-- the same of an entry
abbrev pub frees : ℕ → ℕ → Entry → Bool
frees x t e = frees_for x t e.what

-- the line gives the section free, behind whatever train
abbrev pub gives_free : ℕ → What → Bool
gives_free x (Free y u) = y == x
gives_free x _ = false

-- the table names the train as the holder of a section exactly where the train took it once more than it freed it
pub record AreHolders (plant : Plant) (front : Front) (holders : List (Option ℕ)) : Type 0 where
  pub long : length holders ≡ length plant.tables.sections
  pub each : (t x : ℕ) → t < trains plant
      → cond (is_train t (get_or holders x None)) 1 0 + tally (frees x t) (written front)
      ≡ taken plant t (admissions front t) x
  pub known : (t x : ℕ) → get_or holders x None ≡ Some t → t < trains plant

-- the train takes the sections
abbrev pub taken_by : List (Option ℕ) → List ℕ → ℕ → List (Option ℕ)
taken_by holders [] t = holders
taken_by holders (x ∷ xs) t = taken_by (set holders x (Some t)) xs t

-- the holder of a section that bars the train: not the train itself where the section is one of its own overlap
abbrev pub bar_holder : List (Option ℕ) → ℕ → List ℕ → ℕ → Option ℕ
bar_holder holders t own x = cond (is_train t (get_or holders x None) && is_in x own) None (get_or holders x None)

-- the cause that the first of these sections is whose holder bars the train
abbrev pub held_cause : List (Option ℕ) → ℕ → List ℕ → List ℕ → Option Cause
held_cause holders t own [] = None
held_cause holders t own (x ∷ xs) = or_else (option_map (Blocked x) (bar_holder holders t own x)) (held_cause holders t own xs)
