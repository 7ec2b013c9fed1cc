use Rattle.std.proofs.Common.{◌≡◌, ◌<◌, List, [], length, get_or, map, max, set, ap, ◌∙◌, sym, arith}
use Rattle.std.proofs.lemmas.List.{get_or_default, get_or-map, length-map, map-set}
use Rattle.rail_consequence.specs.Needs.{SetRows}
use Rattle.rail_consequence.proofs.SharedRows.{Shared, sets_of}
use Rattle.rail_consequence.proofs.rows.Rows.exchange.Goals as goal

pub returns-clause-here : goal.returns-clause-here
returns-clause-here c =
    let rows : List Shared = c.self.inside.rows.items in
    let others : List Shared = c.others.inside.rows.items in
    let row : Shared = c.swap.new.x in
    let number : c.from.result ≡ c.args.train = c.from.ensures ∙ c.train.view_is in
    let mine : map sets_of rows ≡ c.args.self.now.rows = ap (λ (r : SetRows). r.rows) c.self.view_is in
    let theirs : map sets_of others ≡ c.args.others.now.rows = ap (λ (r : SetRows). r.rows) c.others.view_is in
    let some : 0 < length others = omega (arith, c.requires.some, ap length theirs, length-map others sets_of) in
    let is : row ≡ get_or others 0 row = c.swap.ensures.x_after ∙ c.index_mut-2.ensures.value ∙ get_or_default others 0 c.index_mut-2.result.now row some in
    let sets : sets_of row ≡ get_or c.args.others.now.rows 0 [] =
    ap sets_of is ∙ sym (get_or-map sets_of others 0 row [] some) ∙ ap (λ n. get_or n 0 []) theirs in
    let wide : c.max-width.result ≡ max c.args.self.now.width c.args.others.now.width =
    c.max-width.ensures ∙ (λ i. max ((c.self.view_is i).width) ((c.others.view_is i).width)) in
    let all : map sets_of (set rows c.from.result row) ≡ set c.args.self.now.rows c.args.train (get_or c.args.others.now.rows 0 []) =
    map-set sets_of rows c.from.result row ∙ (λ i. set (mine i) (number i) (sets i)) in
    λ i. record { width = wide i; rows = all i }
