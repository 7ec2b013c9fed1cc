use Rattle.std.proofs.Common.{◌≡◌, true, false, Some, refl, sym, ap, ◌∙◌}
use Rattle.std.specs.List.{list_any}
use Rattle.rail_base.specs.NameForms.{same_name}
use Rattle.rail_base.specs.declared.plant.TrainKind.{TrainKind}
use Rattle.rail_compile.specs.Refusals.{are_known}
use Rattle.rail_compile.proofs.Trains.{kind_among, passed_behind, train_is}
use Rattle.rail_compile.proofs.compiling.trains.row_behind.Goals as goal

pub returns-then-not-contains-clause-refused : goal.returns-then-not-contains-clause-refused
returns-then-not-contains-clause-refused c =
    let scene = c.args.scene.now in
    let train = c.args.train.now in
    let kind : false ≡ list_any (λ (k : TrainKind). same_name train.kind k.name) scene.kinds = sym c.if-not-contains.true ∙ c.contains.ensures ∙ kind_among scene.kinds c.args.kinds.now.keys train.kind c.requires.kinds in
    train_is scene c.args.item train false (are_known scene.network train.routes) kind refl ∙ sym (ap Some c.of_train.ensures)

pub kind_of-kind-requires-clause-known : goal.kind_of-kind-requires-clause-known
kind_of-kind-requires-clause-known c =
    let kinds = c.args.scene.now.kinds in
    let name = c.args.train.now.kind in
    ap (list_any (λ (k : TrainKind). same_name name k.name)) c.as_slice.ensures ∙ sym (kind_among kinds c.args.kinds.now.keys name c.requires.kinds) ∙ sym c.contains.ensures ∙ c.if-not-contains.false

pub returns-clause-accepted : goal.returns-clause-accepted
returns-clause-accepted c =
    let scene = c.args.scene.now in
    let train = c.args.train.now in
    let kind : list_any (λ (k : TrainKind). same_name train.kind k.name) scene.kinds ≡ true = sym (kind_among scene.kinds c.args.kinds.now.keys train.kind c.requires.kinds) ∙ sym c.contains.ensures ∙ c.if-not-contains.false in
    passed_behind scene c.args.item train c.args.before.now kind c.requires.same c.requires.passed
