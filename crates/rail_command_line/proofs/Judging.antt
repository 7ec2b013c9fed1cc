-- What a line of a list file adds.
use Rattle.std.proofs.Common.{◌≡◌, ℕ, ◌<◌, Bool, true, false, cond, is_some, List, [], ◌∷◌, length, map, Option, Some, None, Result, Ok, Err, OnOk, refl, subst}
use Rattle.std.specs.List.{All, list_all}
use Rattle.std.specs.Prelude.{unwrap_or}
use Rattle.std.proofs.lemmas.Bool.{and_parts, false≢true}
use Rattle.std.proofs.lemmas.List.Elements.{All-append, All-nil, All-cons}
use Rattle.rail_base.specs.NameForms.{same_name}
use Rattle.rail_command_line.specs.Lists.{knows, moves_trains, number_of_train, sets}
use Rattle.rail_text.specs.Lines.{number_of_name}
use Rattle.rail_command_line.specs.ListAnswers.{IsListFor, ReadList, after_moves}
use Rattle.rail_command_line.specs.Verbs.{verb_of}
use Rattle.rail_command_line.specs.declared.checking.ListVerb.TheVariants.{At, Move, Other}
use Rattle.rail_text.proofs.CallerLemmas.{found_at}
use Rattle.rail_place.specs.Tables.{MoveLists}

-- a known train has a number below the count of the trains
number_below : (names : List (List ℕ)) (word : List ℕ) (o : Option ℕ) → number_of_name names word ≡ o → is_some o ≡ true → unwrap_or o 0 < length names
number_below names word None is some = absurd (false≢true some)
number_below names word (Some k) is some = (found_at (same_name word) names k is).1

numbers_below : (names : List (List ℕ)) (args : List (List ℕ)) → list_all (knows names) args ≡ true → All (λ t. t < length names) (map (number_of_train names) args)
numbers_below names [] h = All-nil (λ t. t < length names)
numbers_below names (word ∷ args) h =
    let both = and_parts (knows names word) (list_all (knows names) args) h in
    All-cons (λ t. t < length names) (number_of_train names word) (map (number_of_train names) args)
    (number_below names word (number_of_name names word) refl both.0) (numbers_below names args both.1)

-- a line that moves known trains keeps a list
pub moves_kept : (names : List (List ℕ)) (table : List MoveLists) (listed : ReadList) (args : List (List ℕ)) → length names ≡ length table → IsListFor table listed → list_all (knows names) args ≡ true → IsListFor table (after_moves names listed args)
moves_kept names table listed args same fit known = record {
  long = fit.long;
  within = fit.within;
  trains = All-append (λ t. t < length table) listed.list (map (number_of_train names) args) fit.trains
      (subst (λ (n : ℕ). All (λ t. t < n) (map (number_of_train names) args)) same (numbers_below names args known));
}

-- a line that moves trains has the verb for it
pub record IsMoving (verb : List ℕ) : Type 0 where
  pub other : sets verb ≡ false
  pub moving : moves_trains verb ≡ true

moving_by : (at move : Bool) → cond at At (cond move Move Other) ≡ Move → (at ≡ false) × (move ≡ true)
moving_by true move h = absurd (cc)
moving_by false true h = (refl, refl)
moving_by false false h = absurd (cc)

pub moving_from : (verb : List ℕ) → verb_of verb ≡ Move → IsMoving verb
moving_from verb h =
    let parts = moving_by (sets verb) (moves_trains verb) h in
    record { other = parts.0; moving = parts.1 }

-- two facts of an `Ok` give a third
pub both_on_ok : {X E : Type 0} (r : Result X E) {A B C : Type 0} → OnOk r A → OnOk r B → (A → B → C) → OnOk r C
both_on_ok (Ok x) a b f = f a b
both_on_ok (Err e) a b f = tt
