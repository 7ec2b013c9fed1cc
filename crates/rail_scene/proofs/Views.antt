-- The lists of a TOML value beside the vectors that hold them.
use Rattle.std.proofs.Common.{◌≡◌, ℕ, ◌+◌, ◌<◌, Bool, ◌&&◌, ◌||◌, List, [], ◌∷◌, map, length, drop, get_or, String, Global, string_bytes, refl, sym, ap, ◌∙◌}
use Rattle.std.specs.List.{list_all, list_any}
use Rattle.std.specs.Map.{keys_of}
use Rattle.std.proofs.lemmas.List.{at_drop_more}
use Rattle.toml.specs.Data.{Data}
use Rattle.toml.specs.View.{view, items_view, members_view}
use Rattle.toml.specs.declared.value.Value.{Value}
use Rattle.rail_scene.specs.Fields.{listed}
use Rattle.rail_scene.specs.Forms.{member_keys}

pub listed_view : (vs : List Value) → listed (items_view vs) ≡ map view vs
listed_view [] = refl
listed_view (v ∷ vs) = ap (λ ds. view v ∷ ds) (listed_view vs)

pub all_view : (p : Data → Bool) (vs : List Value) → list_all (λ v. p (view v)) vs ≡ list_all p (listed (items_view vs))
all_view p [] = refl
all_view p (v ∷ vs) = ap (λ b. p (view v) && b) (all_view p vs)

pub any_key : (p : List ℕ → Bool) (es : List (String Global × Value)) → list_any (λ k. p (string_bytes k)) (keys_of es) ≡ list_any p (member_keys (members_view es))
any_key p [] = refl
any_key p (e ∷ es) = ap (λ b. p (string_bytes e.0) || b) (any_key p es)

-- the values from an index on, seen as data
pub view_more : {A : Type 0} (G : List Data → A) (vs : List Value) (i : ℕ) (v : Value) → i < length vs → v ≡ get_or vs i v → G (map view (drop i vs)) ≡ G (view v ∷ map view (drop (i + 1) vs))
view_more G vs i v within is = at_drop_more (λ ys. G (map view ys)) vs i v within ∙ ap (λ y. G (view y ∷ map view (drop (i + 1) vs))) (sym is)
