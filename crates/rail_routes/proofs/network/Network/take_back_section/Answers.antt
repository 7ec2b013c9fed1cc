use Rattle.std.proofs.Common.{◌≡◌, Bool, List, None, Result, Ok, Err, OnOk, OnErr, sym, ap, ◌∙◌}
use Rattle.std.specs.List.{find}
use Rattle.rail_track.specs.Joints.{is_named}
use Rattle.rail_track.specs.Lists.{without}
use Rattle.rail_track.proofs.CallerLemmas.{without-absent}
use Rattle.rail_routes.specs.Net.{Net}
use Rattle.rail_routes.proofs.network.Network.take_back_section.Goals as goal

-- what is left, whether there was such an item or not
left : {X E : Type 0} (p : X → Bool) (xs new : List X) (r : Result X E) → OnOk r (new ≡ without p xs) → OnErr r (find p xs ≡ None) → OnErr r (new ≡ xs) → new ≡ without p xs
left p xs new (Ok x) rest none unchanged = rest
left p xs new (Err e) rest none unchanged = unchanged ∙ sym (without-absent p xs none)

pub returns-clause-rest : goal.returns-clause-rest
returns-clause-rest c =
    let test = is_named c.args.name in
    let rest = left test c.self.inside.track _ c.remove_section.result c.remove_section.ensures.rest c.remove_section.ensures.absent c.remove_section.ensures.unchanged in
    rw rest (ap (λ (net : Net). record net { sections = without test net.sections }) c.self.view_is)
