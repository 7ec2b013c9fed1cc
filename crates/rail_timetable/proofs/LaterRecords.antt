-- A record behind the header, and those behind it.
use Rattle.std.proofs.Common.{◌≡◌, ℕ, ◌+◌, List, ◌∷◌, Option, ap, ◌∙◌}
use Rattle.std.specs.Option.{option_or}
use Rattle.rail_base.specs.FirstRefusals.{first_failing}
use Rattle.rail_base.specs.Refusals.{AnswersFirst}
use Rattle.rail_base.specs.declared.plant.Call.{Call}
use Rattle.rail_base.specs.declared.plant.Tables.{Tables}
use Rattle.rail_base.specs.declared.refusals.Fault.{Fault}
use Rattle.rail_base.specs.declared.refusals.Fault.TheVariants.{Refused, OutOfMemory}
use Rattle.rail_base.specs.declared.refusals.Refusal.{Refusal}
use Rattle.rail_base.proofs.CallerLemmas.{first_failing-append}
use Rattle.rail_timetable.specs.Timetables.{record_tests, records_tests, with_record}

module _ (tables : Tables) (calls : List (List (Option Call))) (n : ℕ) (fields : List (List ℕ)) (later : List (List (List ℕ))) where
  apart : first_failing (records_tests tables calls n (fields ∷ later))
      ≡ option_or (first_failing (record_tests tables calls n fields)) (first_failing (records_tests tables (with_record tables calls fields) (n + 1) later))
  apart = first_failing-append (record_tests tables calls n fields) (records_tests tables (with_record tables calls fields) (n + 1) later)

  -- the refusal of a record is that of the records from it on
  pub refused : (fault : Fault) → AnswersFirst (first_failing (record_tests tables calls n fields)) fault → AnswersFirst (first_failing (records_tests tables calls n (fields ∷ later))) fault
  refused (Refused refusal) h = apart ∙ ap (λ (o : Option Refusal). option_or o (first_failing (records_tests tables (with_record tables calls fields) (n + 1) later))) h
  refused OutOfMemory h = tt
