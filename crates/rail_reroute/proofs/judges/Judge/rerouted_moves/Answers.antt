use Rattle.std.proofs.Common.{◌≡◌, true, [], ◌∷◌, suc, ◌+◌, None, Option, length, get_or, sym, ap, ◌∙◌, subst, arith}
use Rattle.std.proofs.lemmas.List.{get_or_default, length-map}
use Rattle.rail_base.proofs.CallerLemmas.{passed_up}
use Rattle.rail_base.specs.declared.plant.TrainRow.{TrainRow}
use Rattle.rail_base.specs.declared.refusals.Fault.{Fault}
use Rattle.rail_base.specs.FirstRefusals.{first_failing}
use Rattle.rail_base.specs.Refusals.{AnswersFirst}
use Rattle.rail_base.specs.declared.plant.Tables.{Tables}
use Rattle.rail_base.specs.declared.refusals.Refusal.{Refusal}
use Rattle.rail_plan.specs.PlanFaults.{IsAnswer, IsPlannable, bare, fault_of_train}
use Rattle.rail_plan.specs.MoveTables.{row_with, spelled, table_of, with_moves}
use Rattle.rail_plan.proofs.CallerLemmas.{moves_spelled}
use Rattle.rail_place.specs.Tables.{moves_in}
use Rattle.rail_scene.specs.declared.scene.SceneTrain.{SceneTrain}
use Rattle.rail_compile.specs.Itineraries.{tables_of, train_row}
use Rattle.rail_compile.specs.Refusals.{compile_refusal, train_tests}
use Rattle.rail_compile.specs.RowTypes.{is_typed_row}
use Rattle.rail_reroute.specs.Judgements.{no_scene_train, rerouted, rerouted_train}
use Rattle.rail_reroute.specs.Judges.{moves_with}
use Rattle.rail_reroute.proofs.Changed.{with_row}
use Rattle.rail_reroute.proofs.Exchanged.{table_changed}
use Rattle.rail_reroute.proofs.Proposed.{place_within}
use Rattle.rail_reroute.proofs.Ranges.{plannable_changed}
use Rattle.rail_reroute.proofs.Refused.{after, fault_answers, refusal_for, refused_first, row_rerouted, same_tables, told_fault}
use Rattle.rail_reroute.proofs.judges.Judge.rerouted_moves.Goals as goal

pub rerouted_train-requires : goal.rerouted_train-requires
rerouted_train-requires c =
    let scene = c.args.scene.now in
    let s = c.args.positions.now in
    let t = c.args.train in
    let routes = c.args.routes.now in
    let h = c.requires.proposed in
    let at : c.from-index.result ≡ t = c.from-index.ensures ∙ c.train.view_is in
    let own : SceneTrain = c.index-as_slice-index.result in
    let here : own ≡ get_or scene.trains t no_scene_train =
    c.index-as_slice-index.is
    ∙ (λ i. get_or (c.as_slice.ensures i) (at i) own)
    ∙ get_or_default scene.trains t own no_scene_train h.train in
    omega (arith, ap (λ k. get_or s k 0) at, place_within scene s t routes h, ap (λ (train : SceneTrain). length train.routes) here)

pub moves_over-requires-clause-tables : goal.moves_over-requires-clause-tables
moves_over-requires-clause-tables c =
    let P : Tables → Type 0 = λ tables. IsPlannable tables in
    subst P (sym c.requires.own.tables) c.requires.own.own.plannable

pub moves_over-requires-clause-train : goal.moves_over-requires-clause-train
moves_over-requires-clause-train c =
    let scene = c.args.scene.now in
    omega (arith, c.requires.proposed.train, ap (λ (tables : Tables). length tables.trains) c.requires.own.tables, length-map scene.trains (train_row scene))

pub moves_over-requires-clause-changed : goal.moves_over-requires-clause-changed
moves_over-requires-clause-changed c =
    let scene = c.args.scene.now in
    let s = c.args.positions.now in
    let t = c.args.train in
    let routes = c.args.routes.now in
    let h = c.requires.proposed in
    let at : c.from-index.result ≡ t = c.from-index.ensures ∙ c.train.view_is in
    let own : SceneTrain = c.index-as_slice-index.result in
    let here : own ≡ get_or scene.trains t no_scene_train =
    c.index-as_slice-index.is
    ∙ (λ i. get_or (c.as_slice.ensures i) (at i) own)
    ∙ get_or_default scene.trains t own no_scene_train h.train in
    let given : c.in_ok-after.after ≡ after scene s t routes h = c.in_ok-after.ensures ∙ (λ i. rerouted_train (here i) (get_or s (at i) 0) routes) in
    let number : c.from-item.result + 1 ≡ suc t = omega (arith, c.from-item.ensures, c.train.view_is) in
    let none : first_failing (train_tests scene (suc t) (after scene s t routes h)) ≡ None =
    sym (λ i. first_failing (train_tests scene (number i) (given i))) ∙ c.in_ok-rows.ensures.accepted in
    let own_row : TrainRow = train_row scene (after scene s t routes h) in
    let rows : c.as_slice-2.result.now ≡ own_row.moves = c.as_slice-2.ensures.value ∙ c.in_ok-rows.ensures.moves ∙ ap (λ (train : SceneTrain). (train_row scene train).moves) given in
    let row_is : row_with c.args.self.now.tables t c.as_slice-2.result.now ≡ own_row =
    (λ i. row_with (c.requires.own.tables i) t (rows i)) ∙ row_rerouted scene s t routes h in
    let changed_is : with_moves c.args.self.now.tables t c.as_slice-2.result.now ≡ with_row (tables_of scene) t own_row =
    λ i. with_row (c.requires.own.tables i) t (row_is i) in
    let typed : is_typed_row own_row ≡ true = sym (ap (λ (train : SceneTrain). is_typed_row (train_row scene train)) given) ∙ c.compile_moves.ensures.typed in
    let P : Tables → Type 0 = λ tables. IsPlannable tables in
    subst P (sym changed_is) (plannable_changed scene s t routes h c.requires.own.own.plannable c.sections.ensures.sound none typed)

pub returns-in-Ok-clause-accepted : goal.returns-in-Ok-clause-accepted
returns-in-Ok-clause-accepted c =
    let scene = c.args.scene.now in
    let s = c.args.positions.now in
    let t = c.args.train in
    let routes = c.args.routes.now in
    let h = c.requires.proposed in
    let at : c.from-index.result ≡ t = c.from-index.ensures ∙ c.train.view_is in
    let own : SceneTrain = c.index-as_slice-index.result in
    let here : own ≡ get_or scene.trains t no_scene_train =
    c.index-as_slice-index.is
    ∙ (λ i. get_or (c.as_slice.ensures i) (at i) own)
    ∙ get_or_default scene.trains t own no_scene_train h.train in
    let given : c.in_ok-after.after ≡ after scene s t routes h = c.in_ok-after.ensures ∙ (λ i. rerouted_train (here i) (get_or s (at i) 0) routes) in
    let number : c.from-item.result + 1 ≡ suc t = omega (arith, c.from-item.ensures, c.train.view_is) in
    let none : first_failing (train_tests scene (suc t) (after scene s t routes h)) ≡ None =
    sym (λ i. first_failing (train_tests scene (number i) (given i))) ∙ c.in_ok-rows.ensures.accepted in
    let own_row : TrainRow = train_row scene (after scene s t routes h) in
    let rows : c.as_slice-2.result.now ≡ own_row.moves = c.as_slice-2.ensures.value ∙ c.in_ok-rows.ensures.moves ∙ ap (λ (train : SceneTrain). (train_row scene train).moves) given in
    let row_is : row_with c.args.self.now.tables t c.as_slice-2.result.now ≡ own_row =
    (λ i. row_with (c.requires.own.tables i) t (rows i)) ∙ row_rerouted scene s t routes h in
    let changed_is : with_moves c.args.self.now.tables t c.as_slice-2.result.now ≡ with_row (tables_of scene) t own_row =
    λ i. with_row (c.requires.own.tables i) t (row_is i) in
    told_fault scene s t routes h none
    ∙ ap refusal_for (sym (ap (λ (tables : Tables). fault_of_train (bare tables) t) changed_is) ∙ c.in-Ok.ensures.accepted)

pub returns-in-Ok-clause-moves : goal.returns-in-Ok-clause-moves
returns-in-Ok-clause-moves c =
    let scene = c.args.scene.now in
    let s = c.args.positions.now in
    let t = c.args.train in
    let routes = c.args.routes.now in
    let h = c.requires.proposed in
    let at : c.from-index.result ≡ t = c.from-index.ensures ∙ c.train.view_is in
    let own : SceneTrain = c.index-as_slice-index.result in
    let here : own ≡ get_or scene.trains t no_scene_train =
    c.index-as_slice-index.is
    ∙ (λ i. get_or (c.as_slice.ensures i) (at i) own)
    ∙ get_or_default scene.trains t own no_scene_train h.train in
    let given : c.in_ok-after.after ≡ after scene s t routes h = c.in_ok-after.ensures ∙ (λ i. rerouted_train (here i) (get_or s (at i) 0) routes) in
    let number : c.from-item.result + 1 ≡ suc t = omega (arith, c.from-item.ensures, c.train.view_is) in
    let none : first_failing (train_tests scene (suc t) (after scene s t routes h)) ≡ None =
    sym (λ i. first_failing (train_tests scene (number i) (given i))) ∙ c.in_ok-rows.ensures.accepted in
    let own_row : TrainRow = train_row scene (after scene s t routes h) in
    let rows : c.as_slice-2.result.now ≡ own_row.moves = c.as_slice-2.ensures.value ∙ c.in_ok-rows.ensures.moves ∙ ap (λ (train : SceneTrain). (train_row scene train).moves) given in
    let row_is : row_with c.args.self.now.tables t c.as_slice-2.result.now ≡ own_row =
    (λ i. row_with (c.requires.own.tables i) t (rows i)) ∙ row_rerouted scene s t routes h in
    let changed_is : with_moves c.args.self.now.tables t c.as_slice-2.result.now ≡ with_row (tables_of scene) t own_row =
    λ i. with_row (c.requires.own.tables i) t (row_is i) in
    let spelt : c.in-Ok.moves ≡ spelled (bare (tables_of scene)) own_row ∷ [] =
    c.in-Ok.ensures.moves ∙ (λ i. spelled (bare (c.requires.own.tables i)) (row_is i) ∷ []) in
    record {
      one = ap length spelt;
      moves = ap (moves_with (table_of (tables_of scene)) t) spelt
          ∙ ap moves_in (sym (table_changed (tables_of scene) t own_row))
          ∙ ap (λ (tables : Tables). moves_in (table_of tables)) (sym (same_tables scene s t routes h))
          ∙ moves_spelled (bare (tables_of (rerouted scene s t routes)));
    }

pub returns-clause-refused : goal.returns-clause-refused
returns-clause-refused c =
    let scene = c.args.scene.now in
    let s = c.args.positions.now in
    let t = c.args.train in
    let routes = c.args.routes.now in
    let h = c.requires.proposed in
    let at : c.from-index.result ≡ t = c.from-index.ensures ∙ c.train.view_is in
    let own : SceneTrain = c.index-as_slice-index.result in
    let here : own ≡ get_or scene.trains t no_scene_train =
    c.index-as_slice-index.is
    ∙ (λ i. get_or (c.as_slice.ensures i) (at i) own)
    ∙ get_or_default scene.trains t own no_scene_train h.train in
    let given : c.in_ok-after.after ≡ after scene s t routes h = c.in_ok-after.ensures ∙ (λ i. rerouted_train (here i) (get_or s (at i) 0) routes) in
    let number : c.from-item.result + 1 ≡ suc t = omega (arith, c.from-item.ensures, c.train.view_is) in
    let none : first_failing (train_tests scene (suc t) (after scene s t routes h)) ≡ None =
    sym (λ i. first_failing (train_tests scene (number i) (given i))) ∙ c.in_ok-rows.ensures.accepted in
    let own_row : TrainRow = train_row scene (after scene s t routes h) in
    let rows : c.as_slice-2.result.now ≡ own_row.moves = c.as_slice-2.ensures.value ∙ c.in_ok-rows.ensures.moves ∙ ap (λ (train : SceneTrain). (train_row scene train).moves) given in
    let row_is : row_with c.args.self.now.tables t c.as_slice-2.result.now ≡ own_row =
    (λ i. row_with (c.requires.own.tables i) t (rows i)) ∙ row_rerouted scene s t routes h in
    let changed_is : with_moves c.args.self.now.tables t c.as_slice-2.result.now ≡ with_row (tables_of scene) t own_row =
    λ i. with_row (c.requires.own.tables i) t (row_is i) in
    let P : Tables → Type 0 = λ tables. IsAnswer (fault_of_train (bare tables) t) c.in-Err.fault in
    let Q : Fault → Type 0 = λ fault. AnswersFirst (compile_refusal (rerouted scene s t routes)) fault in
    subst Q (sym c.fault_for.ensures) (fault_answers scene s t routes h c.in-Err.fault none (subst P changed_is c.in-Err.ensures.refused))

pub returns-in_err-rows-clause-refused : goal.returns-in_err-rows-clause-refused
returns-in_err-rows-clause-refused c =
    let scene = c.args.scene.now in
    let s = c.args.positions.now in
    let t = c.args.train in
    let routes = c.args.routes.now in
    let h = c.requires.proposed in
    let at : c.from-index.result ≡ t = c.from-index.ensures ∙ c.train.view_is in
    let own : SceneTrain = c.index-as_slice-index.result in
    let here : own ≡ get_or scene.trains t no_scene_train =
    c.index-as_slice-index.is
    ∙ (λ i. get_or (c.as_slice.ensures i) (at i) own)
    ∙ get_or_default scene.trains t own no_scene_train h.train in
    let given : c.in_ok-after.after ≡ after scene s t routes h = c.in_ok-after.ensures ∙ (λ i. rerouted_train (here i) (get_or s (at i) 0) routes) in
    let number : c.from-item.result + 1 ≡ suc t = omega (arith, c.from-item.ensures, c.train.view_is) in
    let told : AnswersFirst (first_failing (train_tests scene (suc t) (after scene s t routes h))) c.in_err-rows.field-0.0 =
    subst (λ (first : Option Refusal). AnswersFirst first c.in_err-rows.field-0.0) (λ i. first_failing (train_tests scene (number i) (given i))) c.in_err-rows.ensures.refused in
    passed_up c.from_residual-in_err-rows.result c.in_err-rows.field-0.0 (AnswersFirst (compile_refusal (rerouted scene s t routes))) c.from_residual-in_err-rows.ensures.1
    (refused_first scene s t routes h c.in_err-rows.field-0.0 told)
