use Rattle.std.proofs.Common.{◌≡◌, ℕ, false, insert, ap, ◌∙◌}
use Rattle.std.specs.List.{list_any}
use Rattle.rail_track.specs.Joints.{is_named, section_named}
use Rattle.rail_track.specs.Lists.{without}
use Rattle.rail_track.specs.SoundTracks.{have_one_name}
use Rattle.rail_track.specs.declared.section.Section.{Section}
use Rattle.rail_track.proofs.CallerLemmas.{find-insert, fresh_from, same_name-comm, same_name-self, without-insert}
use Rattle.rail_routes.specs.Net.{Net}
use Rattle.rail_routes.specs.SoundNetworks.{IsSoundNetwork}
use Rattle.rail_routes.proofs.Restorings.{on_ok_more}
use Rattle.rail_routes.proofs.network.Network.put_back_section.Goals as goal

-- a section with which a network is sound has a new name
fresh : (net : Net) (index : ℕ) (section : Section) → IsSoundNetwork (record net { sections = insert net.sections index section }) → list_any (is_named section.name) net.sections ≡ false
fresh net index section sound = fresh_from have_one_name (λ x y. same_name-comm x.name y.name) net.sections index section sound.distinct.track.distinct

pub returns-clause-found : goal.returns-clause-found
returns-clause-found c =
    let section = c.args.section in
    let sections = c.self.inside.track in
    let new = ap (λ (net : Net). list_any (is_named section.name) net.sections) c.self.view_is ∙ fresh c.args.self.now c.args.index section c.requires.sound in
    on_ok_more c.put_back.result c.put_back.ensures.put (λ (put : c.put_back.new.self ≡ insert sections c.args.index section). ap (section_named section.name) put ∙ find-insert (is_named section.name) sections c.args.index section new (same_name-self section.name))

pub returns-clause-back : goal.returns-clause-back
returns-clause-back c =
    let section = c.args.section in
    let sections = c.self.inside.track in
    let new = ap (λ (net : Net). list_any (is_named section.name) net.sections) c.self.view_is ∙ fresh c.args.self.now c.args.index section c.requires.sound in
    on_ok_more c.put_back.result c.put_back.ensures.put
    (λ (put : c.put_back.new.self ≡ insert sections c.args.index section). ap (without (is_named section.name)) put ∙ without-insert (is_named section.name) sections c.args.index section new (same_name-self section.name) ∙ ap (λ (net : Net). net.sections) c.self.view_is)
