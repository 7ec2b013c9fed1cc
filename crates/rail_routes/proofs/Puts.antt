-- The tables beside lists with an item put in at a place.
use Rattle.std.proofs.Common.{◌≡◌, ℕ, zero, suc, ◌+◌, ◌≤◌, Bool, true, false, cond, nat_lt, List, [], ◌∷◌, count_by, Some, insert, ap, ◌∙◌, arith}
use Rattle.std.specs.List.{sum_by, list_any}
use Rattle.std.proofs.lemmas.Bool.Decides.{nat_tests}
use Rattle.rail_track.proofs.CallerLemmas.{list_any-count_by}
use Rattle.std.proofs.lemmas.List.Sums.{sum_by-cons}
use Rattle.rail_track.proofs.CallerLemmas.{count_by-insert}
use Rattle.rail_routes.specs.declared.items.Post.{Post}
use Rattle.rail_routes.specs.Net.{guards_at}
use Rattle.rail_routes.specs.PostFields.{same_pair}
use Rattle.rail_routes.proofs.Places.{count_by-push, guards-push}

pub sum_by-insert : {X : Type 0} (f : X → ℕ) (xs : List X) (i : ℕ) (x : X) → sum_by f (insert xs i x) ≡ sum_by f xs + f x
sum_by-insert f xs zero x = omega (arith, sum_by-cons f x xs)
sum_by-insert f [] (suc i) x = omega (arith, sum_by-cons f x [])
sum_by-insert f (y ∷ ys) (suc i) x = omega (arith, sum_by-cons f y ys, sum_by-cons f y (insert ys i x), sum_by-insert f ys i x)

-- a post put in at a place is counted as one put in last
module _ (posts : List Post) (i : ℕ) (post : Post) (joint ahead : List ℕ) where
  pub guards-insert : (section : List ℕ) → post.ahead ≡ Some section → count_by (guards_at joint ahead) (insert posts i post) ≡ count_by (guards_at joint ahead) posts + cond (same_pair (joint, ahead) (post.joint, section)) 1 0
  guards-insert section is = omega (arith, count_by-insert (guards_at joint ahead) posts i post, count_by-push (guards_at joint ahead) posts post, guards-push posts post joint ahead section is)

-- an item of which a list has one at most is none of the others
pub fresh_by_count : {X : Type 0} (p : X → Bool) (xs : List X) (i : ℕ) (x : X) (others : ℕ) → p x ≡ true → count_by p (insert xs i x) + others ≤ 1 → list_any p xs ≡ false
fresh_by_count p xs i x others is few =
    let one : cond (p x) 1 0 ≡ 1 = ap {B = ℕ} (λ b. cond b 1 0) is in
    let more = count_by-insert p xs i x in
    let none : nat_lt 0 (count_by p xs) ≡ false = grind (arith, nat_tests) in
    list_any-count_by p xs ∙ none
