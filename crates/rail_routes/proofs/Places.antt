-- Posts by their places.
use Rattle.std.proofs.Common.{◌≡◌, ℕ, ◌+◌, Bool, true, false, cond, ◌&&◌, List, [], ◌∷◌, ◌++◌, count_by, Some, None, refl, ap, ◌∙◌, arith}
use Rattle.std.specs.Option.{option_map_or}
use Rattle.std.proofs.lemmas.List.Sums.{sum_by_push}
use Rattle.rail_base.specs.NameForms.{same_name}
use Rattle.rail_track.proofs.CallerLemmas.{same_name-self, count_by-without}
use Rattle.rail_routes.specs.declared.items.Post.{Post}
use Rattle.rail_routes.specs.Net.{guards_at, is_post}
use Rattle.rail_routes.specs.PostFields.{same_pair}
use Rattle.std.specs.List.{find}
use Rattle.rail_track.specs.Lists.{without}

-- 1 where the test passed
abbrev pub one_if : Bool → ℕ
one_if b = cond b 1 0

pub count_by-push : {X : Type 0} (p : X → Bool) (xs : List X) (x : X) → count_by p (xs ++ x ∷ []) ≡ count_by p xs + cond (p x) 1 0
count_by-push p xs x = sum_by_push (λ y. cond (p y) 1 0) xs x

module _ (post : Post) (joint ahead : List ℕ) where
  guarded : (section : List ℕ) → post.ahead ≡ Some section → one_if (guards_at joint ahead post) ≡ one_if (same_pair (joint, ahead) (post.joint, section))
  guarded section is = ap {B = ℕ} (λ o. cond (same_name joint post.joint && option_map_or (same_name ahead) o false) 1 0) is

  unguarded : post.ahead ≡ None → one_if (guards_at joint ahead post) ≡ 0
  unguarded none = ap {B = ℕ} (λ o. cond (same_name joint post.joint && option_map_or (same_name ahead) o false) 1 0) none ∙ by (same_name joint post.joint)
    where
      by : (b : Bool) → one_if (b && false) ≡ 0
      by true = refl
      by false = refl

module _ (posts : List Post) (post : Post) (joint ahead : List ℕ) where
  -- one more post, which has the section ahead or none
  pub guards-push : (section : List ℕ) → post.ahead ≡ Some section → count_by (guards_at joint ahead) (posts ++ post ∷ []) ≡ count_by (guards_at joint ahead) posts + cond (same_pair (joint, ahead) (post.joint, section)) 1 0
  guards-push section is = omega (arith, count_by-push (guards_at joint ahead) posts post, guarded post joint ahead section is)

  module _ (name : List ℕ) (found : find (is_post name) posts ≡ Some post) where
    pub guards-without : (section : List ℕ) → post.ahead ≡ Some section → count_by (guards_at joint ahead) (without (is_post name) posts) + cond (same_pair (joint, ahead) (post.joint, section)) 1 0 ≡ count_by (guards_at joint ahead) posts
    guards-without section is = omega (arith, count_by-without (is_post name) (guards_at joint ahead) posts post found, guarded post joint ahead section is)

    pub guards-without_none : post.ahead ≡ None → count_by (guards_at joint ahead) (without (is_post name) posts) ≡ count_by (guards_at joint ahead) posts
    guards-without_none none = omega (arith, count_by-without (is_post name) (guards_at joint ahead) posts post found, unguarded post joint ahead none)

pub own_pair : (joint section : List ℕ) → one_if (same_pair (joint, section) (joint, section)) ≡ 1
own_pair joint section = ap {B = ℕ} (λ b. cond (b && same_name section section) 1 0) (same_name-self joint) ∙ ap {B = ℕ} (λ b. cond b 1 0) (same_name-self section)
