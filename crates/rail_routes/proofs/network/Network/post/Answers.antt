use Rattle.std.proofs.Common.{◌≡◌, ◌++◌, List, ℕ, Option, Some, None, ap, ◌∙◌, sym, arith, count_by}
use Rattle.std.specs.List.{find}
use Rattle.std.specs.Option.{option_or}
use Rattle.std.proofs.lemmas.List.Folds.{find-append}
use Rattle.rail_routes.specs.declared.items.Post.{Post}
use Rattle.rail_routes.specs.Net.{Net, is_post, post_named}
use Rattle.rail_routes.specs.DistinctNetworks.{IsDistinctNetwork}
use Rattle.rail_routes.specs.NetworkFields.{lists_of}
use Rattle.rail_routes.proofs.Restorings.{none_else}
use Rattle.rail_routes.proofs.network.Network.post.Goals as goal

-- the posts are looked through role by role
by_role : (name : List ℕ) (net : Net) → post_named name net ≡ option_or (option_or (find (is_post name) net.portals) (find (is_post name) net.signals)) (find (is_post name) net.boards)
by_role name net =
    find-append (is_post name) (net.portals ++ net.signals) net.boards
    ∙ ap (λ o. option_or o (find (is_post name) net.boards)) (find-append (is_post name) net.portals net.signals)

module _ (name : List ℕ) (net : Net) (is : IsDistinctNetwork net) where
  -- where a signal has the name, no portal has it
  signal_is : (signal : Post) → find (is_post name) net.signals ≡ Some signal → post_named name net ≡ Some signal
  signal_is signal found =
      let one = is.posts_by_name name in
      let none : find (is_post name) net.portals ≡ None = none_else (is_post name) net.signals net.portals (count_by (is_post name) net.boards) signal found (omega (arith, one)) in
      by_role name net ∙ (λ i. option_or (option_or (none i) (found i)) (find (is_post name) net.boards))

-- where no signal has the name, the other lists tell
no_signal : (name : List ℕ) (net : Net) → find (is_post name) net.signals ≡ None → post_named name net ≡ option_or (find (is_post name) net.portals) (find (is_post name) net.boards)
no_signal name net none = by_role name net ∙ by (find (is_post name) net.portals)
  where
    by : (o : Option Post) → option_or (option_or o (find (is_post name) net.signals)) (find (is_post name) net.boards) ≡ option_or o (find (is_post name) net.boards)
    by (Some x) = λ i. Some x
    by None = ap (λ o. option_or o (find (is_post name) net.boards)) none

pub returns-in-Some : goal.returns-in-Some
returns-in-Some c =
    let name = c.args.name in
    sym (ap (post_named name) (sym c.self.view_is) ∙ signal_is name (lists_of c.self.inside) c.self.invariant.sound.distinct _ (sym c.get.ensures ∙ c.in-Some.is))

pub returns-in-Some-get : goal.returns-in-Some-get
returns-in-Some-get c =
    let name = c.args.name in
    sym (
    ap (post_named name) (sym c.self.view_is)
    ∙ no_signal name (lists_of c.self.inside) (sym c.get.ensures ∙ c.in_default.is)
    ∙ ap (λ o. option_or o (find (is_post name) (lists_of c.self.inside).boards)) (sym c.get-2.ensures ∙ c.in-Some-get.is))

pub returns : goal.returns
returns c =
    let name = c.args.name in
    let net = lists_of c.self.inside in
    c.get-3.ensures
    ∙ sym (
    ap (post_named name) (sym c.self.view_is)
    ∙ no_signal name net (sym c.get.ensures ∙ c.in_default.is)
    ∙ ap (λ o. option_or o (find (is_post name) net.boards)) (sym c.get-2.ensures ∙ c.in_default-get.is))
