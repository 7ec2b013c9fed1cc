use Rattle.std.proofs.Common.{rules, ◌≡◌, ℕ, ◌<◌, ◌≤◌, List, length, slice_index, sym, ap, ◌∙◌, arith}
use Rattle.std.proofs.lemmas.List.{get_or_default}
use Rattle.rail_list.specs.KeptLists.{entries_at_start}
use Rattle.rail_list.proofs.SideBySide.{start_equal}
use Rattle.rail_list.proofs.runs.run_at_start.Goals as goal

pub returns-clause-run : goal.returns-clause-run
returns-clause-run c =
    let list : List ℕ = c.args.list.now in
    let t : ℕ = c.index-list-0.result in
    let most : c.min-count.result ≤ c.repeats.result = search (rules, arith) in
    let some : 0 < length list = search (rules, arith) in
    let read : slice_index list 0 ≡ t = get_or_default list 0 0 t some ∙ sym c.index-list-0.is in
    let same : c.repeats.result ≡ entries_at_start (slice_index list 0) list =
    c.repeats.ensures.count ∙ sym (start_equal t list) ∙ ap (λ u. entries_at_start u list) (sym read) in
    omega (arith, most, same)
