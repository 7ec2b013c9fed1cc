use Rattle.std.proofs.Common.{rules, ◌≡◌, ℕ, ◌+◌, ◌-◌, ◌<◌, List, length, get_or, drop, set, sym, ap, ◌∙◌, subst, arith}
use Rattle.std.proofs.lemmas.List.{drop-set-add, get_or-drop, get_or_default, length-drop}
use Rattle.rail_list.specs.KeptLists.{AreRuns}
use Rattle.rail_list.proofs.SideBySide.{IsNextOf, run_next, runs_set}
use Rattle.rail_list.proofs.runs.pass_on.Goals as goal

-- the entry behind the one that was read
behind : (list counts : List ℕ) (front before n : ℕ) → AreRuns (drop front list) (drop front counts) → front + before < length list → length counts ≡ length list
    → n ≡ get_or counts (front + before) n → 1 < n → IsNextOf (drop front list) before (n - 1)
behind list counts front before n are lt long is some =
    let read : n ≡ get_or (drop front counts) before 0 = is ∙ sym (get_or_default counts (front + before) 0 n (omega (arith, lt, long))) ∙ sym (get_or-drop front counts before 0) in
    let P : ℕ → Type 0 = λ m. IsNextOf (drop front list) before (m - 1) in
    subst P (sym read) (run_next (drop front list) (drop front counts) before are (omega (arith, lt, length-drop front list)) (omega (arith, read, some)))

pub index_mut-requires : goal.index_mut-requires
index_mut-requires c =
    let list = c.args.list.now in
    let next = behind list c.args.runs.now.items c.args.front c.args.before c.index-count.result.now c.requires.runs c.requires.within (search rules) c.index-count.ensures c.if-count-gt1.true in
    omega (arith, next.within, length-drop c.args.front list, c.requires.long)

pub returns-then-count-gt1-clause-runs : goal.returns-then-count-gt1-clause-runs
returns-then-count-gt1-clause-runs c =
    let list = c.args.list.now in
    let counts : List ℕ = c.args.runs.now.items in
    let front = c.args.front in
    let before = c.args.before in
    let n = c.index-count.result.now in
    let long : length counts ≡ length list = search rules in
    let next = behind list counts front before n c.requires.runs c.requires.within long c.index-count.ensures c.if-count-gt1.true in
    let at : front + before + 1 ≡ front + (before + 1) = omega arith in
    let P : List ℕ → Type 0 = λ xs. AreRuns (drop front list) xs in
    subst P (sym (ap (λ j. drop front (set counts j (n - 1))) at ∙ drop-set-add front counts (before + 1) (n - 1)))
    (runs_set (drop front list) (drop front counts) (before + 1) (n - 1) (omega (arith, next.within, length-drop front list, length-drop front counts, long)) (omega (arith, c.if-count-gt1.true)) next.few c.requires.runs)
