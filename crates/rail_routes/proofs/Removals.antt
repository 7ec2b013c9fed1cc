-- What may be taken out.
use Rattle.std.proofs.Common.{◌≡◌, ℕ, ◌∙◌, Bool, true, false, cond, not, if◌then◌else◌, List, ◌++◌, Option, Some, None, Result, Ok, Err, is_some, refl, sym, ap}
use Rattle.std.specs.List.{list_any, find}
use Rattle.std.specs.Option.{option_map_or, option_or}
use Rattle.std.proofs.lemmas.List.Folds.{find-append}
use Rattle.rail_routes.specs.declared.items.Post.{Post}
use Rattle.std.specs.Result.{OnErr, IfErr}
use Rattle.rail_base.specs.declared.refusals.Reason.TheVariants.{Unknown, InUse}
use Rattle.rail_track.specs.declared.section.NetFault.{NetFault}
use Rattle.rail_track.specs.declared.section.NetFault.TheVariants.{Refused}
use Rattle.rail_track.specs.declared.section.Section.{Section}
use Rattle.rail_track.specs.Joints.{is_named, section_named}
use Rattle.rail_routes.specs.Net.{Net, posts, is_post, post_named}
use Rattle.rail_routes.specs.Uses.{section_removal, post_removal, is_section_used, is_post_used}
use Rattle.rail_routes.proofs.Uses.{list_any-find}

abbrev removal : Bool → Bool → Option NetFault
removal known used = cond (not known) (Some (Refused Unknown 0)) (cond used (Some (Refused InUse 0)) None)

pub section_removal_used : (net : Net) (name : List ℕ) (section : Section) → section_named name net.sections ≡ Some section → section_removal net name ≡ (if is_section_used net section then Some (Refused InUse 0) else None)
section_removal_used net name section found =
    λ i. removal ((list_any-find (is_named name) net.sections ∙ ap is_some found) i) (option_map_or (is_section_used net) (found i) false)

pub section_removal_unknown : (net : Net) (name : List ℕ) → section_named name net.sections ≡ None → section_removal net name ≡ Some (Refused Unknown 0)
section_removal_unknown net name none =
    λ i. removal ((list_any-find (is_named name) net.sections ∙ ap is_some none) i) (option_map_or (is_section_used net) (none i) false)

-- what may be taken out is there
pub removal_known : (known used : Bool) → removal known used ≡ None → known ≡ true
removal_known true used h = refl
removal_known false used h = cc

pub section_known : (net : Net) (name : List ℕ) → section_removal net name ≡ None → section_named name net.sections ≡ None → ⊥
section_known net name none absent =
    let there = removal_known (list_any (is_named name) net.sections) (option_map_or (is_section_used net) (section_named name net.sections) false) none in
    let gone : list_any (is_named name) net.sections ≡ false = list_any-find (is_named name) net.sections ∙ ap is_some absent in
    cc

removal_unused : (known used : Bool) → removal known used ≡ None → used ≡ false
removal_unused true true h = cc
removal_unused true false h = refl
removal_unused false used h = cc

-- what may be taken out is not in use
pub unused : (net : Net) (name : List ℕ) → post_removal net name ≡ None → is_post_used net name ≡ false
unused net name none = removal_unused (list_any (is_post name) (posts net)) (is_post_used net name) none

pub unused_section : (net : Net) (name : List ℕ) (section : Section) → section_removal net name ≡ None → section_named name net.sections ≡ Some section → is_section_used net section ≡ false
unused_section net name section none found =
    sym (ap (λ o. option_map_or (is_section_used net) o false) found)
    ∙ removal_unused (list_any (is_named name) net.sections) (option_map_or (is_section_used net) (section_named name net.sections) false) none

pub post_known : (net : Net) (name : List ℕ) → post_removal net name ≡ None → post_named name net ≡ None → ⊥
post_known net name none absent =
    let there = removal_known (list_any (is_post name) (posts net)) (is_post_used net name) none in
    let gone : list_any (is_post name) (posts net) ≡ false = list_any-find (is_post name) (posts net) ∙ ap is_some absent in
    cc

-- a refusal that cannot come
pub never_refused : {A E : Type 0} (r : Result A E) (Q : Type 0) (P : E → Type 0) → OnErr r Q → (Q → ⊥) → IfErr r P
never_refused (Ok x) Q P on never = tt
never_refused (Err e) Q P on never = absurd (never on)

-- the post of a name, list by list
pub post_of_lists : (name : List ℕ) (portals signals boards : List Post) (p s b r : Option Post) → p ≡ find (is_post name) portals → s ≡ find (is_post name) signals → b ≡ find (is_post name) boards
    → r ≡ option_or (option_or p s) b → r ≡ find (is_post name) (portals ++ signals ++ boards)
post_of_lists name portals signals boards p s b r ps ss bs rs =
    rs ∙ (λ i. option_or (option_or (ps i) (ss i)) (bs i))
    ∙ sym (find-append (is_post name) (portals ++ signals) boards ∙ ap (λ o. option_or o (find (is_post name) boards)) (find-append (is_post name) portals signals))
