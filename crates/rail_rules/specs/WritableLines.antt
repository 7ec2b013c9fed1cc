-- Lines that can be written: their numbers are those of the plant and fit the counters.
use Rattle.std.specs.Prelude.{◌≡◌, ℕ, ◌<◌, ◌^◌, Bool, true, ◌&&◌, nat_lt, length}
use Rattle.std.specs.List.{list_all}
use Rattle.rail_base.specs.NameForms.{is_name}
use Rattle.rail_base.specs.declared.history.What.{What}
use Rattle.rail_base.specs.declared.history.What.TheVariants.{Free, Arrive, Enter, Out, Ready, Told, Untold, Admit, Hold, End}
use Rattle.rail_base.specs.declared.history.Note.{Note}
use Rattle.rail_base.specs.declared.history.Note.TheVariants.{Fresh}
use Rattle.rail_base.specs.declared.history.Cause.{Cause}
use Rattle.rail_base.specs.declared.history.Cause.TheVariants.{Closed, Blocked}
use Rattle.rail_rules.specs.Plant.{Plant, section, train, trains}
use Rattle.rail_rules.specs.Fronts.{Line}
use Rattle.rail_rules.specs.Lawful.{is_bare}

-- a number that fits a 64-bit counter
abbrev pub does_fit_counter : ℕ → Bool
does_fit_counter n = nat_lt n (2 ^ 64)

-- a train of the plant
abbrev pub is_known_train : Plant → ℕ → Bool
is_known_train plant t = nat_lt t (trains plant)

-- a section of the plant
abbrev pub is_known_section : Plant → ℕ → Bool
is_known_section plant x = nat_lt x (length plant.tables.sections)

-- a move, counted from 1, of a train of the plant
abbrev pub is_known_move : Plant → ℕ → ℕ → Bool
is_known_move plant t m = is_known_train plant t && does_fit_counter m

-- a cause that names trains and sections of the plant
abbrev pub is_writable_cause : Plant → Cause → Bool
is_writable_cause plant (Closed x) = is_known_section plant x
is_writable_cause plant (Blocked x u) = is_known_section plant x && is_known_train plant u
is_writable_cause plant _ = true

-- a note with the trains that it brings: those of a fresh list are of the plant, and another note brings none
abbrev pub is_writable_note : Plant → Line → Note → Bool
is_writable_note plant line Fresh = list_all (is_known_train plant) line.trains && does_fit_counter (length line.trains)
is_writable_note plant line _ = is_bare line

-- what a line says names trains and sections of the plant, and only a fresh list and an end line bring trains
abbrev pub is_writable_what : Plant → Line → What → Bool
is_writable_what plant line (Free x t) = is_known_section plant x && is_known_train plant t && is_bare line
is_writable_what plant line (Arrive t m) = is_known_move plant t m && is_bare line
is_writable_what plant line (Enter t m x) = is_known_move plant t m && is_known_section plant x && is_bare line
is_writable_what plant line (Out t) = is_known_train plant t && is_bare line
is_writable_what plant line (Ready t m) = is_known_move plant t m && is_bare line
is_writable_what plant line (Told k) = does_fit_counter k && is_bare line
is_writable_what plant line (Untold k) = does_fit_counter k && is_bare line
is_writable_what plant line (Admit t m note) = is_known_move plant t m && is_writable_note plant line note
is_writable_what plant line (Hold t m cause) = is_known_move plant t m && is_writable_cause plant cause && is_bare line
is_writable_what plant line End = list_all (is_known_train plant) line.trains

-- a line that can be written
abbrev pub is_writable : Plant → Line → Bool
is_writable plant line = does_fit_counter line.entry.at && is_writable_what plant line line.entry.what

-- each train and each section of the plant has a name, and no two trains and no two sections have the same
pub record IsNamed (plant : Plant) : Type 0 where
  pub train_name : (t : ℕ) → t < trains plant → is_name (train plant t).name ≡ true
  pub section_name : (x : ℕ) → x < length plant.tables.sections → is_name (section plant x).name ≡ true
  pub train_of : (t u : ℕ) → t < trains plant → u < trains plant → (train plant t).name ≡ (train plant u).name → t ≡ u
  pub section_of : (x y : ℕ) → x < length plant.tables.sections → y < length plant.tables.sections
      → (section plant x).name ≡ (section plant y).name → x ≡ y
