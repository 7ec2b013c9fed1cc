use Rattle.std.proofs.Common.{ℕ, List, Option, None, refl, sym, subst}
use Rattle.rail_io.specs.Writes.{Adds, AddsPrefix}
use Rattle.rail_forms.specs.declared.status.Status.{Status}
use Rattle.rail_forms.specs.Answers.{IsAnswer}
use Rattle.rail_forms.specs.SceneTexts.{WritesScene}
use Rattle.rail_forms.proofs.Writes.{ended-failed}
use Rattle.rail_forms.proofs.scene.write_text.Goals as goal

pub returns-in_err-write_whole-clause-answer : goal.returns-in_err-write_whole-clause-answer
returns-in_err-write_whole-clause-answer g c =
    let scene = c.args.scene.now in
    let before : Option (List ℕ) = g.O.Sink.written c.args.out.now in
    let now : Option (List ℕ) = g.O.Sink.written c.write_whole.new.sink in
    let told = c.in_ok-text.ensures in
    let cut : AddsPrefix before now c.in_ok-text.text.items = subst (AddsPrefix before now) c.deref.ensures.value c.in_err-write_whole.ensures.failed_adds_prefix in
    subst (λ (status : Status). IsAnswer None (WritesScene scene (Adds before now)) (WritesScene scene (AddsPrefix before now)) status)
    (sym (ended-failed c.from_residual-in_err-write_whole.result c.from_residual-in_err-write_whole.ensures.1))
    (refl, record { text = c.in_ok-text.text.items; laid_out = told.text; accepted = told.accepted; same = told.same; version = told.version; added = cut })
