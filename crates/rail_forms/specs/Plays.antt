-- The form `play`: what the player of a list answers, as a line.
use Rattle.std.specs.Prelude.{◌≡◌, ℕ, ◌-◌, Bool, true, List, [], ◌∷◌, ◌++◌, get_or, codes, decimal, Option, Some}
use Rattle.rail_base.specs.declared.refusals.Refusal.{Refusal}
use Rattle.rail_base.specs.declared.refusals.Reason.TheVariants.{ListPlaces}
use Rattle.rail_base.specs.declared.refusals.Part.TheVariants.{Line}
use Rattle.rail_rules.specs.Numbers.{or_else}
use Rattle.rail_rules.specs.Moves.{Moves}
use Rattle.rail_rules.specs.Plant.{Plant, moves_of, trains}
use Rattle.rail_base.specs.FirstRefusals.{first_failing}
use Rattle.rail_place.specs.Bars.{outcome}
use Rattle.rail_place.specs.declared.barring.Barred.{Barred}
use Rattle.rail_place.specs.declared.barring.Barred.TheVariants.{Outside, Out, Held}
use Rattle.rail_place.specs.declared.barring.Played.{Played}
use Rattle.rail_place.specs.declared.barring.Played.TheVariants.{Completes, Illegal, Inside}
use Rattle.rail_rules.specs.Texts.{behind}
use Rattle.rail_command_line.specs.Lists.{Listed, list_line_refusal, listed_in, places_test}
use Rattle.rail_command_line.specs.declared.files.FileRole.TheVariants as role
use Rattle.rail_forms.specs.declared.status.Status.{Status}
use Rattle.rail_forms.specs.declared.status.Status.TheVariants as status
use Rattle.rail_io.specs.Writes.{Adds, AddsPrefix}
use Rattle.rail_input.specs.Inputs.{plant_in, plant_refusal}
use Rattle.rail_forms.specs.Answers.{Told}
use Rattle.rail_forms.specs.TwoFiles.{AnswersTwoFiles, AreAccepted}
use Rattle.rail_text.specs.Names.{NameLists, names_of, section_name, train_name}
use Rattle.rail_command_line.specs.Forms.{SceneAnd}
use Rattle.rail_forms.specs.Terms.{Terms, is_done, never}

-- why a train of the list may not move
abbrev pub bar_words : NameLists → ℕ → Barred → List (List ℕ)
bar_words names t Outside = codes "outside" ∷ train_name names t ∷ []
bar_words names t Out = codes "out" ∷ train_name names t ∷ []
bar_words names t (Held x u) = codes "held" ∷ train_name names t ∷ section_name names x ∷ train_name names u ∷ []

-- the answer, without its line feed
abbrev pub played_words : NameLists → List ℕ → Played → List ℕ
played_words names list Completes = codes "completes"
played_words names list (Inside t) = codes "inside" ++ behind (train_name names t ∷ [])
played_words names list (Illegal index why) =
    codes "illegal" ++ 32 ∷ decimal index ++ behind (bar_words names (get_or list (index - 1) 0) why)

-- the line of the answer; the trains of the list count from 1
abbrev pub played_line : NameLists → List ℕ → Played → List ℕ
played_line names list played = played_words names list played ++ 10 ∷ []

-- what a list file spells for the plant
abbrev pub listed_for : Plant → List ℕ → Listed
listed_for plant list = listed_in (names_of plant).trains (trains plant) list

-- the refusal of a list where two trains hold one section, at this line
abbrev pub shared_at : ℕ → Refusal
shared_at line = record { reason = ListPlaces; part = Line; item = line; step = 0 }

-- why a list file is refused, for so many trains with these names and moves, where lines may move trains or not: a line, or
-- two trains that hold one section
abbrev pub places_refusal : List (List ℕ) → Moves → ℕ → Bool → List ℕ → Option Refusal
places_refusal names plan trains may_move list =
    or_else (list_line_refusal names plan may_move list) (first_failing (places_test names plan trains list ∷ []))

-- the same for the trains of a plant
abbrev pub list_refusal : Plant → Bool → List ℕ → Option Refusal
list_refusal plant may_move list = places_refusal (names_of plant).trains (moves_of plant) (trains plant) may_move list

-- what a list that cannot be placed ends with: its first refusal, or want of memory
abbrev pub IsListAnswer : Option Refusal → Status → Type 0
IsListAnswer first (status.Refused refusal) = first ≡ Some refusal
IsListAnswer first status.OutOfMemory = Unit {0}
IsListAnswer first _ = ⊥

-- why the player refuses a scene and a list
abbrev pub play_refusal : List ℕ → List ℕ → Option Refusal
play_refusal bytes list = or_else (plant_refusal bytes) (list_refusal (plant_in bytes) true list)

-- the line that is written for a list
abbrev pub play_text : Plant → List ℕ → List ℕ
play_text plant list = let listed : Listed = listed_for plant list in
    played_line (names_of plant) listed.list (outcome (moves_of plant) listed.positions 1 listed.list)

-- what the player of the scene answers to the list
abbrev pub AnswersPlay : List ℕ → List ℕ → Told → Option (List ℕ) → Option (List ℕ) → Status → Type 0
AnswersPlay scene list told before now status = AnswersTwoFiles role.List (λ bytes listed. list_refusal (plant_in bytes) true listed)
    (λ bytes listed. Adds before now (play_text (plant_in bytes) listed))
    (λ bytes listed. AddsPrefix before now (play_text (plant_in bytes) listed)) scene list told status

-- the terms of `play`
abbrev pub play_terms : Terms SceneAnd
play_terms = record {
  answers = λ files deck told before now status. AnswersPlay files.scene files.other told before now status;
  accepted = λ files deck told. AreAccepted role.List play_refusal files told;
  done = is_done;
  alone = never;
}
