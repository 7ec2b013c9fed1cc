-- What stands in a table after an insert.
use Rattle.std.proofs.Common.{◌≡◌, List, [], ◌∷◌, String, Global, string_bytes, Ordering, Less, Equal, Greater, refl, ap, ◌∙◌}
use Rattle.std.specs.Ordering.{nat_cmp, match_ordering}
use Rattle.std.specs.Cmp.Lexicographic.{slice_cmp}
use Rattle.std.specs.BTreeMap.{insert_entry}
use Rattle.toml.specs.Data.{Members, member}
use Rattle.toml.specs.View.{view, members_view}
use Rattle.toml.specs.declared.value.Value.{Value}
use Rattle.rail_scene_text.specs.Tables.{put}

abbrev Entry : Type 0
Entry = String Global × Value

abbrev by_bytes : String Global → String Global → Ordering
by_bytes k l = slice_cmp nat_cmp (string_bytes k) (string_bytes l)

matched : (o : Ordering) (a b c : List Entry) → members_view (match_ordering o a b c) ≡ match_ordering o (members_view a) (members_view b) (members_view c)
matched Less a b c = refl
matched Equal a b c = refl
matched Greater a b c = refl

pub members_view-insert : (es : List Entry) (k : String Global) (v : Value) → members_view (insert_entry by_bytes es k v) ≡ put (string_bytes k) (view v) (members_view es)
members_view-insert [] k v = refl
members_view-insert (e ∷ es) k v =
    let here : Members = member (string_bytes k) (view v) (member (string_bytes e.0) (view e.1) (members_view es)) in
    let same : Members = member (string_bytes e.0) (view v) (members_view es) in
    matched (by_bytes k e.0) _ _ _
    ∙ ap (λ ms. match_ordering (by_bytes k e.0) here same (member (string_bytes e.0) (view e.1) ms)) (members_view-insert es k v)
