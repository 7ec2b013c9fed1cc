use Rattle.std.proofs.Common.{◌≡◌, ℕ, None, map, unwrap_or, sym, ap, ◌∙◌}
use Rattle.std.specs.List.{list_all}
use Rattle.rail_routes.specs.declared.items.Step.{Step}
use Rattle.rail_routes.specs.Net.{Net, post_named, no_post}
use Rattle.rail_compile.specs.Itineraries.{number_of}
use Rattle.rail_compile.specs.Ways.{is_known_step}
use Rattle.rail_compile.proofs.Routes.{led_from}
use Rattle.rail_compile.proofs.compiling.ways.move_over.Goals as goal

pub numbers_of-requires : goal.numbers_of-requires
numbers_of-requires c =
    let net : Net = c.args.network.now in
    ap (list_all (is_known_step net.sections)) c.as_slice.ensures ∙ (led_from net c.args.route.now c.requires.route).known

pub numbers_of-requires-2 : goal.numbers_of-requires-2
numbers_of-requires-2 c =
    let net : Net = c.args.network.now in
    ap (list_all (is_known_step net.sections)) c.as_slice-2.ensures ∙ (led_from net c.args.route.now c.requires.route).over_known

pub returns : goal.returns
returns c =
    let net : Net = c.args.network.now in
    let route = c.args.route.now in
    let number : Step → ℕ = λ step. number_of net step.section in
    let post : unwrap_or (post_named route.from net) no_post ≡ c.args.begin.now = ap (λ o. unwrap_or o no_post) c.requires.begin in
    let sections : c.from_vec.result ≡ map number route.steps = c.from_vec.ensures ∙ c.in_ok-sections.ensures ∙ ap (map number) c.as_slice.ensures in
    let overlap : c.from_vec-2.result ≡ map number route.overlap = c.from_vec-2.ensures ∙ c.in_ok-overlap.ensures ∙ ap (map number) c.as_slice-2.ensures in
    λ i. record { sections = sections i; overlap = overlap i; setting = (sym post i).setting; watching = (sym post i).watching; approach = (sym post i).approach; turn = None }
