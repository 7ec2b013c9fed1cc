use Rattle.std.proofs.Common.{◌≡◌, true, false, is_some, Some, refl, sym, ap, ◌∙◌}
use Rattle.std.specs.List.{list_any}
use Rattle.rail_base.specs.NameForms.{same_name}
use Rattle.rail_base.specs.declared.plant.TrainKind.{TrainKind}
use Rattle.rail_base.specs.FirstRefusals.{first_failing}
use Rattle.rail_compile.specs.Itineraries.{routes_of}
use Rattle.rail_compile.specs.Refusals.{are_known, route_tests}
use Rattle.rail_compile.specs.Ways.{are_numbers, routes_at}
use Rattle.rail_compile.proofs.Trains.{kind_among, train_is}
use Rattle.rail_compile.proofs.Ways.{are_found, are_known_by}
use Rattle.rail_compile.proofs.compiling.trains.itinerary_of.Goals as goal

pub returns-then-not-contains-clause-refused : goal.returns-then-not-contains-clause-refused
returns-then-not-contains-clause-refused c =
    let scene = c.args.scene.now in
    let train = c.args.train.now in
    let kind : false ≡ list_any (λ (k : TrainKind). same_name train.kind k.name) scene.kinds = sym c.if-not-contains.true ∙ c.contains.ensures ∙ kind_among scene.kinds c.args.kinds.now.keys train.kind c.requires.kinds in
    train_is scene c.args.item train false (are_known scene.network train.routes) kind refl ∙ sym (ap Some c.of_train.ensures)

pub returns-in_default-clause-refused : goal.returns-in_default-clause-refused
returns-in_default-clause-refused c =
    let scene = c.args.scene.now in
    let train = c.args.train.now in
    let names = c.args.ways.now.names.keys in
    let itinerary = c.as_slice.result.now in
    let kind : true ≡ list_any (λ (k : TrainKind). same_name train.kind k.name) scene.kinds = sym c.if-not-contains.false ∙ c.contains.ensures ∙ kind_among scene.kinds c.args.kinds.now.keys train.kind c.requires.kinds in
    let routes : false ≡ are_known scene.network train.routes =
    sym (ap is_some c.in_default.is) ∙ c.in_ok-numbers.ensures.known ∙ are_known_by scene.network names c.requires.ways.names itinerary ∙ ap (are_known scene.network) c.as_slice.ensures in
    train_is scene c.args.item train true false kind routes ∙ sym (ap Some c.of_train-in_default.ensures)

pub route_refusal-requires-clause-numbers : goal.route_refusal-requires-clause-numbers
route_refusal-requires-clause-numbers c =
    let net = c.args.scene.now.network in
    let found = are_found net c.args.ways.now.names.keys c.requires.ways.names c.as_slice.result.now c.in_ok-numbers.field-0 c.in-Some.numbers c.in-Some.is c.in_ok-numbers.ensures.known c.in_ok-numbers.ensures.numbers in
    ap (are_numbers net) c.deref.ensures.value ∙ found.within

pub returns-in-Some-route_refusal-clause-refused : goal.returns-in-Some-route_refusal-clause-refused
returns-in-Some-route_refusal-clause-refused c =
    let scene = c.args.scene.now in
    let net = scene.network in
    let train = c.args.train.now in
    let kind : true ≡ list_any (λ (k : TrainKind). same_name train.kind k.name) scene.kinds = sym c.if-not-contains.false ∙ c.contains.ensures ∙ kind_among scene.kinds c.args.kinds.now.keys train.kind c.requires.kinds in
    let found = are_found net c.args.ways.now.names.keys c.requires.ways.names c.as_slice.result.now c.in_ok-numbers.field-0 c.in-Some.numbers c.in-Some.is c.in_ok-numbers.ensures.known c.in_ok-numbers.ensures.numbers in
    let known : true ≡ are_known net train.routes = sym found.known ∙ ap (are_known net) c.as_slice.ensures in
    let routes : routes_of net train.routes ≡ routes_at net c.deref.result.now = sym (ap (routes_at net) c.deref.ensures.value ∙ found.routes ∙ ap (routes_of net) c.as_slice.ensures) in
    train_is scene c.args.item train true true kind known ∙ ap (λ rs. first_failing (route_tests net c.args.item rs)) routes ∙ sym c.route_refusal.ensures ∙ c.in-Some-route_refusal.is

pub returns-in-None-clause-accepted : goal.returns-in-None-clause-accepted
returns-in-None-clause-accepted c =
    let scene = c.args.scene.now in
    let net = scene.network in
    let train = c.args.train.now in
    let kind : true ≡ list_any (λ (k : TrainKind). same_name train.kind k.name) scene.kinds = sym c.if-not-contains.false ∙ c.contains.ensures ∙ kind_among scene.kinds c.args.kinds.now.keys train.kind c.requires.kinds in
    let found = are_found net c.args.ways.now.names.keys c.requires.ways.names c.as_slice.result.now c.in_ok-numbers.field-0 c.in-Some.numbers c.in-Some.is c.in_ok-numbers.ensures.known c.in_ok-numbers.ensures.numbers in
    let known : true ≡ are_known net train.routes = sym found.known ∙ ap (are_known net) c.as_slice.ensures in
    let routes : routes_of net train.routes ≡ routes_at net c.deref.result.now = sym (ap (routes_at net) c.deref.ensures.value ∙ found.routes ∙ ap (routes_of net) c.as_slice.ensures) in
    train_is scene c.args.item train true true kind known ∙ ap (λ rs. first_failing (route_tests net c.args.item rs)) routes ∙ sym c.route_refusal.ensures ∙ c.in-None.is

pub returns-in-None-clause-numbers : goal.returns-in-None-clause-numbers
returns-in-None-clause-numbers c =
    (are_found c.args.scene.now.network c.args.ways.now.names.keys c.requires.ways.names c.as_slice.result.now c.in_ok-numbers.field-0 c.in-Some.numbers c.in-Some.is c.in_ok-numbers.ensures.known c.in_ok-numbers.ensures.numbers).within

pub returns-in-None-clause-routes : goal.returns-in-None-clause-routes
returns-in-None-clause-routes c =
    let net = c.args.scene.now.network in
    let found = are_found net c.args.ways.now.names.keys c.requires.ways.names c.as_slice.result.now c.in_ok-numbers.field-0 c.in-Some.numbers c.in-Some.is c.in_ok-numbers.ensures.known c.in_ok-numbers.ensures.numbers in
    found.routes ∙ ap (routes_of net) c.as_slice.ensures
