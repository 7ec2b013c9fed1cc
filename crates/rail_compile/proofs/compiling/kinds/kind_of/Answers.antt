use Rattle.std.proofs.Common.{◌≡◌, true, is_some, sym, ap, ◌∙◌}
use Rattle.std.specs.List.{find, list_any}
use Rattle.rail_base.specs.NameForms.{same_name}
use Rattle.rail_base.specs.declared.plant.TrainKind.{TrainKind}
use Rattle.rail_rules.specs.Plant.{no_kind}
use Rattle.rail_track.proofs.CallerLemmas.{found_item, list_any-map}
use Rattle.rail_compile.proofs.Finds.{position_some, unwrapped}
use Rattle.rail_compile.proofs.compiling.kinds.kind_of.Goals as goal

pub unwrap-requires : goal.unwrap-requires
unwrap-requires c =
    let test = same_name c.args.name in
    let known : list_any test c.args.names.now.keys ≡ true = ap (list_any test) c.requires.names ∙ list_any-map test (λ (kind : TrainKind). kind.name) c.args.kinds.now ∙ c.requires.known in
    ap is_some c.get_index_of.ensures.index ∙ position_some test c.args.names.now.keys known

pub returns : goal.returns
returns c =
    let test = same_name c.args.name in
    let kinds = c.args.kinds.now in
    let kind = c.index-kinds-unwrap.result in
    let found = found_item test (λ (k : TrainKind). k.name) c.args.names.now.keys kinds c.requires.names c.unwrap.result kind (sym c.get_index_of.ensures.index ∙ c.unwrap.ensures) c.index-kinds-unwrap.is in
    sym (unwrapped (find (λ (k : TrainKind). test k.name) kinds) kind no_kind (sym found))
