use Rattle.std.proofs.Common.{rules, ◌≡◌, ℕ, ◌+◌, ◌<◌, List, ◌++◌, replicate, length, get_or, drop, sym, ap, ◌∙◌, arith}
use Rattle.std.proofs.lemmas.List.{get_or-drop, get_or_default, length-drop}
use Rattle.rail_list.proofs.SideBySide.{split_run}
use Rattle.rail_list.proofs.kept_list.KeptList.look.Goals as goal

-- an entry of the list, as one of the table that it lies in
read : (xs : List ℕ) (front i u : ℕ) → front + i < length xs → u ≡ get_or xs (front + i) u → u ≡ get_or (drop front xs) i 0
read xs front i u lt is = is ∙ sym (get_or_default xs (front + i) 0 u lt) ∙ sym (get_or-drop front xs i 0)

pub returns-clause-run : goal.returns-clause-run
returns-clause-run c =
    let trains : List ℕ = c.self.inside.trains.items in
    let counts : List ℕ = c.self.inside.runs.items in
    let front = c.self.inside.front in
    let i = c.args.before in
    let list : drop front trains ≡ c.args.self.now.trains = search rules in
    let lt : front + i < length trains = omega (arith, c.requires, ap length list, length-drop front trains) in
    let run = split_run (drop front trains) (drop front counts) i c.index.result.now c.index-2.result.now c.self.invariant.runs (omega (arith, lt, length-drop front trains))
    (read trains front i c.index.result.now lt c.index.ensures)
    (read counts front i c.index-2.result.now (omega (arith, lt, c.self.invariant.beside)) c.index-2.ensures) in
    ap (drop i) (sym list) ∙ run ∙ ap (λ xs. replicate c.index-2.result.now c.index.result.now ++ drop (i + c.index-2.result.now) xs) list
