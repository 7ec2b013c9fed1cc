use Rattle.std.proofs.Common.{◌≡◌, length, unwrap_or, ap, sym, ◌∙◌, arith}
use Rattle.std.specs.Map.{lookup}
use Rattle.std.proofs.lemmas.List.Sums.{count_by-le-length}
use Rattle.rail_base.specs.NameForms.{same_name}
use Rattle.rail_track.specs.KeyCounts.{times}
use Rattle.rail_track.proofs.CallerLemmas.{count_by-insert, on_ok}
use Rattle.rail_routes.specs.Net.{stands_at, guards_at}
use Rattle.rail_routes.specs.PostFields.{same_pair}
use Rattle.rail_routes.proofs.Puts.{guards-insert}
use Rattle.rail_routes.proofs.post_list.PostList.insert.Goals as goal

pub count-requires-in-Some-clause-fits : goal.count-requires-in-Some-clause-fits
count-requires-in-Some-clause-fits c =
    let joint = c.args.post.joint in
    let ahead = c.in-Some.ahead in
    let posts = c.self.inside.posts in
    let kept : times same_pair c.reserve-2.new.self (joint, ahead) ≡ times same_pair c.self.inside.guards (joint, ahead) = ap (λ es. unwrap_or (lookup (same_pair (joint, ahead)) es) 0) c.reserve-2.ensures.entries in
    omega (arith, kept, c.self.invariant.guarded joint ahead, count_by-le-length (guards_at joint ahead) posts, ap length c.self.view_is, c.requires.few)

pub invariant_of-self-in-Some : goal.invariant_of-self-in-Some
invariant_of-self-in-Some c =
    let post = c.args.post in
    let posts = c.self.inside.posts in
    let put = on_ok c.insert.result (sym c.is_err.ensures.value ∙ c.if-is_err.false) c.insert.ensures.ok in
    rw put record {
      counted = λ joint.
          let kept : times same_name c.reserve.new.self joint ≡ times same_name c.self.inside.at joint = ap (λ es. unwrap_or (lookup (same_name joint) es) 0) c.reserve.ensures.entries in
          omega (arith, kept, c.count.ensures.counted joint, c.self.invariant.counted joint, count_by-insert (stands_at joint) posts c.args.index post);
      guarded = λ joint ahead.
          let kept : times same_pair c.reserve-2.new.self (joint, ahead) ≡ times same_pair c.self.inside.guards (joint, ahead) = ap (λ es. unwrap_or (lookup (same_pair (joint, ahead)) es) 0) c.reserve-2.ensures.entries in
          omega (arith, kept, c.count-in-Some.ensures.counted (joint, ahead), c.self.invariant.guarded joint ahead, guards-insert posts c.args.index post joint ahead c.in-Some.ahead c.in-Some.is);
    }
