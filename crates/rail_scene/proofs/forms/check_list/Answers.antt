use Rattle.std.proofs.Common.{◌≡◌, ◌+◌, List, Some, None, sym, ap, subst, ◌∙◌}
use Rattle.toml.specs.View.{view}
use Rattle.rail_base.specs.FirstRefusals.{first_failing}
use Rattle.rail_track.proofs.CallerLemmas.{answers_first}
use Rattle.rail_scene.specs.declared.keys.Key.{Key}
use Rattle.rail_scene.specs.Keys.{keys_of, part_of}
use Rattle.rail_scene.specs.Forms.{form_tests}
use Rattle.rail_base.specs.Refusals.{AnswersFirst}
use Rattle.rail_scene.specs.Order.{fault_at, item_number}
use Rattle.rail_scene.proofs.FormSteps.{form_stop, form_pass}
use Rattle.rail_scene.proofs.forms.check_list.Goals as goal

pub returns-in-Some-clause-refused : goal.returns-in-Some-clause-refused
returns-in-Some-clause-refused c =
    let part = c.args.part in
    let version = c.args.version in
    let i = c.loop-index.index in
    let table = c.index-tables-index.result in
    let fault = c.in-Some.fault in
    let found : first_failing (form_tests (keys_of part version) (view table)) ≡ Some fault = ap (λ (keys : List Key). first_failing (form_tests keys (view table))) (sym c.keys-keys.ensures.keys) ∙ sym c.in-Some.ensures in
    let stops = form_stop part version c.args.tables.now i table c.loop-index-test.true c.index-tables-index.is fault (answers_first (first_failing (form_tests (keys_of part version) (view table))) fault found) in
    let placed : c.located.result ≡ fault_at (part_of part) (item_number (i + 1)) fault = c.located.ensures ∙ (λ k. fault_at (c.part.ensures k) (c.item_number.ensures k) fault) in
    rw placed (subst (λ first. AnswersFirst first (fault_at (part_of part) (item_number (i + 1)) fault)) c.loop-index.invariant stops)

pub loop-index-preserved : goal.loop-index-preserved
loop-index-preserved c =
    let part = c.args.part in
    let version = c.args.version in
    let table = c.index-tables-index.result in
    let none : first_failing (form_tests (keys_of part version) (view table)) ≡ None = ap (λ (keys : List Key). first_failing (form_tests keys (view table))) (sym c.keys-keys.ensures.keys) ∙ sym c.in-None.ensures in
    sym (form_pass part version c.args.tables.now c.loop-index.index table c.loop-index-test.true c.index-tables-index.is none) ∙ c.loop-index.invariant

pub loop-index-preserved-then-is_of_form : goal.loop-index-preserved-then-is_of_form
loop-index-preserved-then-is_of_form c =
    let part = c.args.part in
    let version = c.args.version in
    let table = c.index-tables-index.result in
    let none : first_failing (form_tests (keys_of part version) (view table)) ≡ None = ap (λ (keys : List Key). first_failing (form_tests keys (view table))) (sym c.keys-keys.ensures.keys) ∙ c.is_of_form.ensures c.if-is_of_form.true in
    sym (form_pass part version c.args.tables.now c.loop-index.index table c.loop-index-test.true c.index-tables-index.is none) ∙ c.loop-index.invariant
