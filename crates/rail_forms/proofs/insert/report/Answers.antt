use Rattle.std.proofs.Common.{◌≡◌, ℕ, List, Option, None, refl, sym, ap, ◌∙◌, subst}
use Rattle.rail_base.specs.Refusals.{AnswersFirst}
use Rattle.rail_input.specs.Inputs.{train_names}
use Rattle.rail_io.specs.Writes.{Adds, AddsPrefix}
use Rattle.rail_base.specs.declared.refusals.Refusal.{Refusal}
use Rattle.rail_rules.specs.Numbers.{or_else}
use Rattle.rail_rules.specs.Plant.{Plant}
use Rattle.rail_forms.specs.declared.status.Status.TheVariants.{Done, OutOfMemory, WriteFault}
use Rattle.rail_forms.specs.Answers.{status_of}
use Rattle.rail_forms.specs.BegunRuns.{input_of}
use Rattle.rail_forms.specs.Insertions.{name_refusal, train_named, train_refusal}
use Rattle.rail_text.specs.Names.{names_in, names_of}
use Rattle.rail_forms.specs.Promises.{is_of_bytes}
use Rattle.rail_forms.proofs.Answers.{ended_with}
use Rattle.rail_forms.proofs.Parts.{of_bytes_fault}
use Rattle.rail_forms.proofs.Behind.{fault_refuses, no_refusal_of, run_cut, run_refused, word_refused, word_refuses}
use Rattle.rail_forms.proofs.NotedRuns.{insertion_told, noted_timely, refused_told, stairs_noted}
use Rattle.rail_forms.proofs.Writes.{all_written, ended-failed, fault_written, none_written, unwritten_fault}
use Rattle.rail_forms.proofs.insert.report.Goals as goal

pub returns-in_err-train-clause-answer : goal.returns-in_err-train-clause-answer
returns-in_err-train-clause-answer g c =
    let keys : c.names.result.now.trains.keys ≡ train_names (input_of c.args.begun).plant.tables = c.names.ensures.trains ∙ ap (λ (p : Plant). train_names p.tables) c.plant.ensures in
    word_refused _ _ _ _ c.in_err-train.field-0.0 _ (ended_with c.from_residual.result (status_of c.in_err-train.field-0.0) c.from_residual.ensures.1)
    (subst (λ (names : List (List ℕ)). AnswersFirst (name_refusal names c.args.word.now) c.in_err-train.field-0.0) keys c.in_err-train.ensures.refused)

pub returns-in_err-train-clause-behind : goal.returns-in_err-train-clause-behind
returns-in_err-train-clause-behind g c =
    let keys : c.names.result.now.trains.keys ≡ train_names (input_of c.args.begun).plant.tables = c.names.ensures.trains ∙ ap (λ (p : Plant). train_names p.tables) c.plant.ensures in
    word_refuses _ c.in_err-train.field-0.0 _ _ (ended_with c.from_residual.result (status_of c.in_err-train.field-0.0) c.from_residual.ensures.1)
    (subst (λ (names : List (List ℕ)). AnswersFirst (name_refusal names c.args.word.now) c.in_err-train.field-0.0) keys c.in_err-train.ensures.refused)

pub returns-in_err-train-clause-writes : goal.returns-in_err-train-clause-writes
returns-in_err-train-clause-writes g c =
    unwritten_fault g.O.Sink _ c.in_err-train.field-0.0 _ (ended_with c.from_residual.result (status_of c.in_err-train.field-0.0) c.from_residual.ensures.1)

pub intervals-requires : goal.intervals-requires
intervals-requires g c = stairs_noted (input_of c.args.begun) _ c.follow_to_end.new.notes c.plant-3.result.now (c.plant-3.ensures ∙ c.in-Ok.ensures.plant) c.in-Ok.ensures.noted

pub inserted_into-requires-clause-timely : goal.inserted_into-requires-clause-timely
inserted_into-requires-clause-timely g c =
    noted_timely (input_of c.args.begun) _ c.follow_to_end.new.notes c.plant-3.result.now (c.plant-3.ensures ∙ c.in-Ok.ensures.plant) c.in-Ok.ensures.noted c.deref.result.now
    (λ front h. c.deref.ensures.value ∙ c.in_ok-intervals.ensures front h)
    (λ front complete. c.intervals_are_timely.ensures (input_of c.args.begun) c.in-Ok.ensures.noted.run.accepted front complete)

pub returns-in_err-stairs-clause-writes : goal.returns-in_err-stairs-clause-writes
returns-in_err-stairs-clause-writes g c = none_written g.O.Sink _ _ (ended_with c.from_residual-in_err-stairs.result OutOfMemory c.from_residual-in_err-stairs.ensures.1)

pub returns-in_err-stairs-clause-behind : goal.returns-in_err-stairs-clause-behind
returns-in_err-stairs-clause-behind g c = no_refusal_of _ OutOfMemory (ended_with c.from_residual-in_err-stairs.result OutOfMemory c.from_residual-in_err-stairs.ensures.1) refl _

pub returns-in_err-intervals-clause-writes : goal.returns-in_err-intervals-clause-writes
returns-in_err-intervals-clause-writes g c = none_written g.O.Sink _ _ (ended_with c.from_residual-in_err-intervals.result OutOfMemory c.from_residual-in_err-intervals.ensures.1)

pub returns-in_err-intervals-clause-behind : goal.returns-in_err-intervals-clause-behind
returns-in_err-intervals-clause-behind g c = no_refusal_of _ OutOfMemory (ended_with c.from_residual-in_err-intervals.result OutOfMemory c.from_residual-in_err-intervals.ensures.1) refl _

pub returns-in_err-inserted-clause-writes : goal.returns-in_err-inserted-clause-writes
returns-in_err-inserted-clause-writes g c =
    unwritten_fault g.O.Sink _ c.in_err-inserted.field-0.0 _ (ended_with c.from_residual-in_err-inserted.result (status_of c.in_err-inserted.field-0.0) c.from_residual-in_err-inserted.ensures.1)

pub returns-in_err-inserted-clause-answer : goal.returns-in_err-inserted-clause-answer
returns-in_err-inserted-clause-answer g c =
    let word : List ℕ = c.args.word.now in
    let keys : c.names.result.now.trains.keys ≡ train_names (input_of c.args.begun).plant.tables = c.names.ensures.trains ∙ ap (λ (p : Plant). train_names p.tables) c.plant.ensures in
    let fine : train_refusal (input_of c.args.begun).plant word ≡ None = ap (λ (names : List (List ℕ)). name_refusal names word) (sym keys) ∙ c.in_ok-train.ensures.accepted in
    run_refused _ _ _ c.in_err-inserted.field-0.0 _ fine (ended_with c.from_residual-in_err-inserted.result (status_of c.in_err-inserted.field-0.0) c.from_residual-in_err-inserted.ensures.1)

pub returns-in_err-inserted-clause-behind : goal.returns-in_err-inserted-clause-behind
returns-in_err-inserted-clause-behind g c = λ refusal ends none.
    let word : List ℕ = c.args.word.now in
    let keys : c.names.result.now.trains.keys ≡ train_names (input_of c.args.begun).plant.tables = c.names.ensures.trains ∙ ap (λ (p : Plant). train_names p.tables) c.plant.ensures in
    let named = ap (λ (names : List (List ℕ)). train_named names word) (sym keys) ∙ c.in_ok-train.ensures.train in
    refused_told (input_of c.args.begun) _ c.follow_to_end.new.notes c.plant-3.result.now (c.plant-3.ensures ∙ c.in-Ok.ensures.plant) c.in-Ok.ensures.noted c.deref.result.now
    (λ front h. c.deref.ensures.value ∙ c.in_ok-intervals.ensures front h) word c.in_ok-train.train c.args.window refusal named
    (c.in_err-inserted.ensures.none refusal
    (fault_refuses c.in_err-inserted.field-0.0 _ refusal (ended_with c.from_residual-in_err-inserted.result (status_of c.in_err-inserted.field-0.0) c.from_residual-in_err-inserted.ensures.1) ends))

pub returns-in_err-inserted-clause-of_bytes : goal.returns-in_err-inserted-clause-of_bytes
returns-in_err-inserted-clause-of_bytes g c =
    ap is_of_bytes (ended_with c.from_residual-in_err-inserted.result (status_of c.in_err-inserted.field-0.0) c.from_residual-in_err-inserted.ensures.1)
    ∙ of_bytes_fault c.in_err-inserted.field-0.0 c.in_err-inserted.ensures.of_bytes

pub returns-in_err-write_inserted-clause-writes : goal.returns-in_err-write_inserted-clause-writes
returns-in_err-write_inserted-clause-writes g c =
    fault_written g.O.Sink _ _ _ (ended-failed c.from_residual-in_err-write_inserted.result c.from_residual-in_err-write_inserted.ensures.1)
    c.in_err-write_inserted.ensures.failed_rose c.write_inserted.ensures.faults_never_fall

pub returns-in_err-write_inserted-clause-behind : goal.returns-in_err-write_inserted-clause-behind
returns-in_err-write_inserted-clause-behind g c = no_refusal_of _ WriteFault (ended-failed c.from_residual-in_err-write_inserted.result c.from_residual-in_err-write_inserted.ensures.1) refl _

pub returns-in_err-write_inserted-clause-answer : goal.returns-in_err-write_inserted-clause-answer
returns-in_err-write_inserted-clause-answer g c =
    let word : List ℕ = c.args.word.now in
    let keys : c.names.result.now.trains.keys ≡ train_names (input_of c.args.begun).plant.tables = c.names.ensures.trains ∙ ap (λ (p : Plant). train_names p.tables) c.plant.ensures in
    let named = ap (λ (names : List (List ℕ)). train_named names word) (sym keys) ∙ c.in_ok-train.ensures.train in
    let fine : train_refusal (input_of c.args.begun).plant word ≡ None = ap (λ (names : List (List ℕ)). name_refusal names word) (sym keys) ∙ c.in_ok-train.ensures.accepted in
    let shown : names_in c.names-2.result.now ≡ names_of c.plant-4.result.now = λ i. record { sections = c.names-2.ensures.sections i; trains = c.names-2.ensures.trains i } in
    let names : names_in c.names-2.result.now ≡ names_of (input_of c.args.begun).plant = shown ∙ ap names_of (c.plant-4.ensures ∙ c.in-Ok.ensures.plant) in
    run_cut _ _ _ _ fine (ended-failed c.from_residual-in_err-write_inserted.result c.from_residual-in_err-write_inserted.ensures.1)
    (insertion_told (input_of c.args.begun) _ c.follow_to_end.new.notes c.plant-3.result.now (c.plant-3.ensures ∙ c.in-Ok.ensures.plant) c.in-Ok.ensures.noted c.deref.result.now
    (λ front h. c.deref.ensures.value ∙ c.in_ok-intervals.ensures front h) word c.in_ok-train.train c.args.window c.args.count (names_in c.names-2.result.now)
    c.in_ok-inserted.inserted.copies.items (AddsPrefix (g.O.Sink.written c.args.out.now) (g.O.Sink.written c.write_inserted.new.out)) named names c.in_ok-inserted.ensures.inserted
    c.in_err-write_inserted.ensures.failed_adds_prefix)

pub returns-clause-writes : goal.returns-clause-writes
returns-clause-writes g c = all_written g.O.Sink _ _ c.write_inserted.ensures.faults_never_fall

pub returns-clause-behind : goal.returns-clause-behind
returns-clause-behind g c = no_refusal_of _ Done refl refl _

pub returns-clause-answer : goal.returns-clause-answer
returns-clause-answer g c =
    let word : List ℕ = c.args.word.now in
    let keys : c.names.result.now.trains.keys ≡ train_names (input_of c.args.begun).plant.tables = c.names.ensures.trains ∙ ap (λ (p : Plant). train_names p.tables) c.plant.ensures in
    let named = ap (λ (names : List (List ℕ)). train_named names word) (sym keys) ∙ c.in_ok-train.ensures.train in
    let fine : train_refusal (input_of c.args.begun).plant word ≡ None = ap (λ (names : List (List ℕ)). name_refusal names word) (sym keys) ∙ c.in_ok-train.ensures.accepted in
    let shown : names_in c.names-2.result.now ≡ names_of c.plant-4.result.now = λ i. record { sections = c.names-2.ensures.sections i; trains = c.names-2.ensures.trains i } in
    let names : names_in c.names-2.result.now ≡ names_of (input_of c.args.begun).plant = shown ∙ ap names_of (c.plant-4.ensures ∙ c.in-Ok.ensures.plant) in (
      ap (λ (o : Option Refusal). or_else o None) fine,
      insertion_told (input_of c.args.begun) _ c.follow_to_end.new.notes c.plant-3.result.now (c.plant-3.ensures ∙ c.in-Ok.ensures.plant) c.in-Ok.ensures.noted c.deref.result.now
          (λ front h. c.deref.ensures.value ∙ c.in_ok-intervals.ensures front h) word c.in_ok-train.train c.args.window c.args.count (names_in c.names-2.result.now)
          c.in_ok-inserted.inserted.copies.items (Adds (g.O.Sink.written c.args.out.now) (g.O.Sink.written c.write_inserted.new.out)) named names c.in_ok-inserted.ensures.inserted
          c.in_ok-write_inserted.ensures.adds,
    )
