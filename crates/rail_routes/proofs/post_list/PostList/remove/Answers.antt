use Rattle.std.proofs.Common.{◌≡◌, ℕ, cond, arith, ap, sym, ◌∙◌}
use Rattle.rail_base.specs.NameForms.{same_name}
use Rattle.rail_track.proofs.CallerLemmas.{same_name-self, without-absent, count_by-without}
use Rattle.rail_routes.specs.Net.{is_post, stands_at}
use Rattle.rail_routes.proofs.Places.{guards-without, guards-without_none, own_pair}
use Rattle.rail_routes.proofs.post_list.PostList.remove.Goals as goal

pub invariant_of-self : goal.invariant_of-self
invariant_of-self c =
    rw (c.remove.ensures.rest ∙ without-absent (is_post c.args.name) c.self.inside.posts (sym c.in_err-post.ensures.item)) c.self.invariant

pub discount-requires : goal.discount-requires
discount-requires c =
    let joint = c.in_ok-post.post.joint in
    let own : cond (same_name joint joint) 1 0 ≡ 1 = ap {B = ℕ} (λ b. cond b 1 0) (same_name-self joint) in
    record {
      counted = omega (arith, own, c.self.invariant.counted joint, count_by-without (is_post c.args.name) (stands_at joint) c.self.inside.posts c.in_ok-post.post (sym c.in_ok-post.ensures.item));
    }

pub discount-requires-in-Some : goal.discount-requires-in-Some
discount-requires-in-Some c =
    let post = c.in_ok-post.post in
    let ahead = c.in-Some.ahead in
    record {
      counted = omega (arith, own_pair post.joint ahead, c.self.invariant.guarded post.joint ahead, guards-without c.self.inside.posts post post.joint ahead c.args.name (sym c.in_ok-post.ensures.item) ahead c.in-Some.is);
    }

pub invariant_of-self-in-Some : goal.invariant_of-self-in-Some
invariant_of-self-in-Some c =
    let post = c.in_ok-post.post in
    rw c.remove.ensures.rest record {
      counted = λ joint.
          omega (arith, c.self.invariant.counted joint, c.discount.ensures.discounted joint, count_by-without (is_post c.args.name) (stands_at joint) c.self.inside.posts post (sym c.in_ok-post.ensures.item));
      guarded = λ joint ahead.
          omega (arith, c.self.invariant.guarded joint ahead, c.discount-in-Some.ensures.discounted (joint, ahead), guards-without c.self.inside.posts post joint ahead c.args.name (sym c.in_ok-post.ensures.item) c.in-Some.ahead c.in-Some.is);
    }

pub invariant_of-self-in_default : goal.invariant_of-self-in_default
invariant_of-self-in_default c =
    let post = c.in_ok-post.post in
    rw c.remove.ensures.rest record {
      counted = λ joint.
          omega (arith, c.self.invariant.counted joint, c.discount.ensures.discounted joint, count_by-without (is_post c.args.name) (stands_at joint) c.self.inside.posts post (sym c.in_ok-post.ensures.item));
      guarded = λ joint ahead.
          omega (arith, c.self.invariant.guarded joint ahead, guards-without_none c.self.inside.posts post joint ahead c.args.name (sym c.in_ok-post.ensures.item) c.in_default.is);
    }
