use Rattle.std.proofs.Common.{◌≡◌, ◌<◌, ◌++◌, ◌∷◌, [], true, not, length, get_or, map, take, None, refl, sym, ap, ◌∙◌, arith}
use Rattle.std.specs.List.{list_all}
use Rattle.std.specs.Result.{is_ok}
use Rattle.std.proofs.lemmas.Bool.{and_from}
use Rattle.std.proofs.lemmas.List.{map-append, take_more}
use Rattle.std.proofs.lemmas.List.Folds.{list_all-append}
use Rattle.rail_base.specs.FirstRefusals.{first_failing}
use Rattle.rail_base.specs.Refusals.{AnswersFirst}
use Rattle.rail_base.proofs.CallerLemmas.{passed_up}
use Rattle.rail_compile.specs.Itineraries.{train_row, with_trains}
use Rattle.rail_compile.specs.Refusals.{trains_tests}
use Rattle.rail_compile.specs.RowTypes.{is_typed_row}
use Rattle.rail_compile.proofs.Trains.{answers_at, each_passed, train_passed_at}
use Rattle.rail_compile.proofs.compiling.trains.train_rows.Goals as goal

pub returns-in_err-row-clause-refused : goal.returns-in_err-row-clause-refused
returns-in_err-row-clause-refused c =
    let scene = with_trains c.args.scene.now c.args.trains.now in
    let i = c.loop-index.index in
    let train = c.index-trains-index.result in
    passed_up c.from_residual-in_err-row.result c.in_err-row.field-0.0 (AnswersFirst (first_failing (trains_tests scene 1 scene.trains))) c.from_residual-in_err-row.ensures.1
    (answers_at scene scene.trains i train c.in_err-row.field-0.0 (omega (arith, c.loop-index-test.true)) c.index-trains-index.is
    c.loop-index.invariant.passed c.in_err-row.ensures.refused)

pub loop-index-preserved : goal.loop-index-preserved
loop-index-preserved c =
    let scene = with_trains c.args.scene.now c.args.trains.now in
    let i = c.loop-index.index in
    let train = c.index-trains-index.result in
    let within : i < length scene.trains = omega (arith, c.loop-index-test.true) in
    let here : train ≡ get_or scene.trains i train = c.index-trains-index.is in
    let rows = c.loop-index.rows.items in
    let row = c.in_ok-row.row in
    let pushed : is_ok c.push.result ≡ true = c.is_err.ensures.negation ∙ ap not c.if-is_err.false in
    let more : c.push.new.self.items ≡ rows ++ row ∷ [] = rw pushed at c.push.ensures.items in
    record {
      passed = sym (train_passed_at scene scene.trains i train None within here (sym c.in_ok-row.ensures.accepted) refl) ∙ c.loop-index.invariant.passed;
      rows = more
          ∙ ap (λ rs. rs ++ row ∷ []) c.loop-index.invariant.rows
          ∙ ap (λ r. map (train_row scene) (take i scene.trains) ++ r ∷ []) c.in_ok-row.ensures.row
          ∙ sym (map-append (train_row scene) (take i scene.trains) (train ∷ []))
          ∙ ap (λ t. map (train_row scene) (take i scene.trains ++ t ∷ [])) here
          ∙ sym (ap (map (train_row scene)) (take_more scene.trains i train within));
      each = λ k before lt is. each_passed scene i train within here c.in_ok-row.ensures.accepted c.loop-index.invariant.each k before lt is;
      typed = ap (list_all is_typed_row) more
          ∙ list_all-append is_typed_row rows (row ∷ [])
          ∙ and_from (list_all is_typed_row rows) (list_all is_typed_row (row ∷ [])) c.loop-index.invariant.typed (and_from (is_typed_row row) true c.in_ok-row.ensures.typed refl);
    }
