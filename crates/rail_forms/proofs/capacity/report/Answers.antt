use Rattle.std.proofs.Common.{◌≡◌, ℕ, List, [], None, sym, ap, ◌∙◌}
use Rattle.rail_input.specs.Inputs.{section_names}
use Rattle.rail_io.specs.Writes.{Adds, AddsPrefix}
use Rattle.rail_rules.specs.Plant.{Plant}
use Rattle.rail_forms.specs.declared.status.Status.TheVariants.{OutOfMemory}
use Rattle.rail_forms.specs.Answers.{status_of}
use Rattle.rail_forms.specs.BegunRuns.{input_of}
use Rattle.rail_forms.specs.Capacity.{line_of, line_refusal, pieces, pieces_refusal, sections_on}
use Rattle.rail_text.specs.Names.{names_in, names_of}
use Rattle.rail_forms.proofs.Answers.{ended_with, late_part}
use Rattle.rail_forms.proofs.NotedRuns.{capacity_told, noted_apart, noted_intervals, stairs_ended, stairs_noted}
use Rattle.rail_forms.proofs.Writes.{all_written, ended-failed, fault_written, none_written, unwritten_fault}
use Rattle.rail_forms.proofs.capacity.report.Goals as goal

pub intervals-requires : goal.intervals-requires
intervals-requires g c = stairs_noted (input_of c.args.begun) _ c.follow_to_end.new.notes c.plant-3.result.now (c.plant-3.ensures ∙ c.in-Ok.ensures.plant) c.in-Ok.ensures.noted

pub ended-requires : goal.ended-requires
ended-requires g c = stairs_ended (input_of c.args.begun) _ c.follow_to_end.new.notes c.plant-3.result.now (c.plant-3.ensures ∙ c.in-Ok.ensures.plant) c.in-Ok.ensures.noted

pub compressed_by-requires-clause-apart : goal.compressed_by-requires-clause-apart
compressed_by-requires-clause-apart g c =
    noted_apart (input_of c.args.begun) _ c.follow_to_end.new.notes c.plant-3.result.now (c.plant-3.ensures ∙ c.in-Ok.ensures.plant) c.in-Ok.ensures.noted c.deref.result.now
    (noted_intervals c.plant-3.result.now c.follow_to_end.new.notes c.in_ok-stairway.stairway.items c.deref.result.now c.ended.result c.in_ok-stairway.ensures c.ended.ensures (c.deref.ensures.value ∙ c.ended_by-intervals.ensures))
    (λ front complete. c.ended_intervals_are_without_conflict.ensures (input_of c.args.begun) c.in-Ok.ensures.noted.run.accepted front complete)

pub returns-in_err-sections-clause-writes : goal.returns-in_err-sections-clause-writes
returns-in_err-sections-clause-writes g c =
    unwritten_fault g.O.Sink _ c.in_err-sections.field-0.0 _ (ended_with c.from_residual.result (status_of c.in_err-sections.field-0.0) c.from_residual.ensures.1)

pub returns-in_err-stairs-clause-writes : goal.returns-in_err-stairs-clause-writes
returns-in_err-stairs-clause-writes g c = none_written g.O.Sink _ _ (ended_with c.from_residual-in_err-stairs.result OutOfMemory c.from_residual-in_err-stairs.ensures.1)

pub returns-in_err-stairway-clause-writes : goal.returns-in_err-stairway-clause-writes
returns-in_err-stairway-clause-writes g c = none_written g.O.Sink _ _ (ended_with c.from_residual-in_err-stairway.result OutOfMemory c.from_residual-in_err-stairway.ensures.1)

pub returns-in_err-compressed-clause-writes : goal.returns-in_err-compressed-clause-writes
returns-in_err-compressed-clause-writes g c = none_written g.O.Sink _ _ (ended_with c.from_residual-in_err-compressed.result OutOfMemory c.from_residual-in_err-compressed.ensures.1)

pub returns-in_err-write_compressed-clause-writes : goal.returns-in_err-write_compressed-clause-writes
returns-in_err-write_compressed-clause-writes g c =
    fault_written g.O.Sink _ _ _ (ended-failed c.from_residual-in_err-write_compressed.result c.from_residual-in_err-write_compressed.ensures.1)
    c.in_err-write_compressed.ensures.failed_rose c.write_compressed.ensures.faults_never_fall

pub returns-clause-writes : goal.returns-clause-writes
returns-clause-writes g c = all_written g.O.Sink _ _ c.write_compressed.ensures.faults_never_fall

pub returns-in_err-write_compressed-clause-answer : goal.returns-in_err-write_compressed-clause-answer
returns-in_err-write_compressed-clause-answer g c =
    let word : List ℕ = c.args.line.now in
    let keys : c.names.result.now.sections.keys ≡ section_names (input_of c.args.begun).plant.tables = c.names.ensures.sections ∙ ap (λ (p : Plant). section_names p.tables) c.plant.ensures in
    let line : c.deref-2.result.now ≡ line_of (input_of c.args.begun).plant word = c.deref-2.ensures.value ∙ c.in_ok-sections.ensures.sections ∙ ap (λ (names : List (List ℕ)). sections_on names (pieces word)) keys in
    let fine : line_refusal (input_of c.args.begun).plant word ≡ None = ap (λ (names : List (List ℕ)). pieces_refusal names [] 1 (pieces word)) (sym keys) ∙ c.in_ok-sections.ensures.accepted in
    let shown : names_in c.names-2.result.now ≡ names_of c.plant-4.result.now = λ i. record { sections = c.names-2.ensures.sections i; trains = c.names-2.ensures.trains i } in
    let names : names_in c.names-2.result.now ≡ names_of (input_of c.args.begun).plant = shown ∙ ap names_of (c.plant-4.ensures ∙ c.in-Ok.ensures.plant) in
    late_part _ _ _ _ fine (ended-failed c.from_residual-in_err-write_compressed.result c.from_residual-in_err-write_compressed.ensures.1)
    (capacity_told (input_of c.args.begun) _ c.follow_to_end.new.notes c.plant-3.result.now (c.plant-3.ensures ∙ c.in-Ok.ensures.plant) c.in-Ok.ensures.noted c.deref.result.now
    (noted_intervals c.plant-3.result.now c.follow_to_end.new.notes c.in_ok-stairway.stairway.items c.deref.result.now c.ended.result c.in_ok-stairway.ensures c.ended.ensures (c.deref.ensures.value ∙ c.ended_by-intervals.ensures)) c.args.line.now c.deref-2.result.now c.args.window (names_in c.names-2.result.now)
    c.in_ok-compressed.compressed.trains.items c.in_ok-compressed.compressed.occupancy c.in_ok-compressed.compressed.rate
    (AddsPrefix (g.O.Sink.written c.args.out.now) (g.O.Sink.written c.write_compressed.new.out)) line names c.in_ok-compressed.ensures c.in_err-write_compressed.ensures.failed_adds_prefix)

pub returns-clause-answer : goal.returns-clause-answer
returns-clause-answer g c =
    let word : List ℕ = c.args.line.now in
    let keys : c.names.result.now.sections.keys ≡ section_names (input_of c.args.begun).plant.tables = c.names.ensures.sections ∙ ap (λ (p : Plant). section_names p.tables) c.plant.ensures in
    let line : c.deref-2.result.now ≡ line_of (input_of c.args.begun).plant word = c.deref-2.ensures.value ∙ c.in_ok-sections.ensures.sections ∙ ap (λ (names : List (List ℕ)). sections_on names (pieces word)) keys in
    let fine : line_refusal (input_of c.args.begun).plant word ≡ None = ap (λ (names : List (List ℕ)). pieces_refusal names [] 1 (pieces word)) (sym keys) ∙ c.in_ok-sections.ensures.accepted in
    let shown : names_in c.names-2.result.now ≡ names_of c.plant-4.result.now = λ i. record { sections = c.names-2.ensures.sections i; trains = c.names-2.ensures.trains i } in
    let names : names_in c.names-2.result.now ≡ names_of (input_of c.args.begun).plant = shown ∙ ap names_of (c.plant-4.ensures ∙ c.in-Ok.ensures.plant) in (
      fine,
      capacity_told (input_of c.args.begun) _ c.follow_to_end.new.notes c.plant-3.result.now (c.plant-3.ensures ∙ c.in-Ok.ensures.plant) c.in-Ok.ensures.noted c.deref.result.now
          (noted_intervals c.plant-3.result.now c.follow_to_end.new.notes c.in_ok-stairway.stairway.items c.deref.result.now c.ended.result c.in_ok-stairway.ensures c.ended.ensures (c.deref.ensures.value ∙ c.ended_by-intervals.ensures)) c.args.line.now c.deref-2.result.now c.args.window (names_in c.names-2.result.now)
          c.in_ok-compressed.compressed.trains.items c.in_ok-compressed.compressed.occupancy c.in_ok-compressed.compressed.rate
          (Adds (g.O.Sink.written c.args.out.now) (g.O.Sink.written c.write_compressed.new.out)) line names c.in_ok-compressed.ensures c.in_ok-write_compressed.ensures.adds,
    )
