use Rattle.std.proofs.Common.{rules, ◌≡◌, ℕ, ◌+◌, ◌<◌, ◌≤◌, List, length, get_or, set, sym, ◌∙◌, subst, arith}
use Rattle.std.specs.Prelude.{vec_len}
use Rattle.std.proofs.lemmas.List.{get_or_default}
use Rattle.rail_list.proofs.MovedBack.{AreMoved, moved_list, moved_run, moved_runs, none_moved, run_ends}
use Rattle.rail_list.proofs.runs.close_gap.Goals as goal

-- what was read of a table
read : (xs : List ℕ) (i u : ℕ) → i < length xs → u ≡ get_or xs i u → get_or xs i 0 ≡ u
read xs i u lt is = sym (is ∙ sym (get_or_default xs i 0 u lt))

pub loop-index-init : goal.loop-index-init
loop-index-init c =
    let list : List ℕ = c.args.trains.now.items in
    let counts : List ℕ = c.args.runs.now.items in
    let front = c.args.front in
    let within : front + c.args.before < length list = search rules in
    let lt : front < length list = omega (arith, within) in
    let beside : length counts ≡ length list = search rules in
    let P : ℕ → Type 0 = λ u. AreMoved list list counts front front u c.index-count.result.now in
    let Q : ℕ → Type 0 = λ n. AreMoved list list counts front front (get_or list front 0) n in
    record {
      moved = subst P (read list front c.index-train.result.now lt c.index-train.ensures)
          (subst Q (read counts front c.index-count.result.now (omega (arith, lt, beside)) c.index-count.ensures) (none_moved list counts front lt beside c.requires.runs));
      within = omega arith;
      len = search rules;
      beside = search rules;
      room = search rules;
      room_of_runs = search rules;
    }

pub overflow_add-next : goal.overflow_add-next
overflow_add-next c =
    let list : List ℕ = c.args.trains.now.items in
    let trains : List ℕ = c.loop-index.trains.items in
    let counts : List ℕ = c.loop-index.runs.items in
    let front = c.args.front in
    let before = c.args.before in
    let i = c.loop-index.index in
    let n = c.loop-index.count in
    let are = c.loop-index.invariant.moved in
    let ends : i + n ≤ front + before = run_ends list trains counts front before i c.loop-index.train n are c.loop-index-test.true c.requires.first in
    let fits : vec_len c.args.trains.now < 18446744073709551616 = search rules in
    omega (arith, ends, c.from.ensures, c.requires.within, fits)

pub index-next_train-requires : goal.index-next_train-requires
index-next_train-requires c =
    let list : List ℕ = c.args.trains.now.items in
    let trains : List ℕ = c.loop-index.trains.items in
    let counts : List ℕ = c.loop-index.runs.items in
    let front = c.args.front in
    let before = c.args.before in
    let i = c.loop-index.index in
    let n = c.loop-index.count in
    let are = c.loop-index.invariant.moved in
    let ends : i + n ≤ front + before = run_ends list trains counts front before i c.loop-index.train n are c.loop-index-test.true c.requires.first in
    omega (arith, ends, c.from.ensures, c.requires.within, c.loop-index.invariant.len, c.loop-index.invariant.beside)

pub index-next_count-requires : goal.index-next_count-requires
index-next_count-requires c =
    let list : List ℕ = c.args.trains.now.items in
    let trains : List ℕ = c.loop-index.trains.items in
    let counts : List ℕ = c.loop-index.runs.items in
    let front = c.args.front in
    let before = c.args.before in
    let i = c.loop-index.index in
    let n = c.loop-index.count in
    let are = c.loop-index.invariant.moved in
    let ends : i + n ≤ front + before = run_ends list trains counts front before i c.loop-index.train n are c.loop-index-test.true c.requires.first in
    omega (arith, ends, c.from.ensures, c.requires.within, c.loop-index.invariant.len, c.loop-index.invariant.beside)

pub index_mut-requires : goal.index_mut-requires
index_mut-requires c =
    let list : List ℕ = c.args.trains.now.items in
    let trains : List ℕ = c.loop-index.trains.items in
    let counts : List ℕ = c.loop-index.runs.items in
    let front = c.args.front in
    let before = c.args.before in
    let i = c.loop-index.index in
    let n = c.loop-index.count in
    let are = c.loop-index.invariant.moved in
    let ends : i + n ≤ front + before = run_ends list trains counts front before i c.loop-index.train n are c.loop-index-test.true c.requires.first in
    omega (arith, ends, c.from.ensures, c.requires.within, c.loop-index.invariant.len, c.loop-index.invariant.beside)

pub index_mut-requires-in-loop-index : goal.index_mut-requires-in-loop-index
index_mut-requires-in-loop-index c =
    let list : List ℕ = c.args.trains.now.items in
    let trains : List ℕ = c.loop-index.trains.items in
    let counts : List ℕ = c.loop-index.runs.items in
    let front = c.args.front in
    let before = c.args.before in
    let i = c.loop-index.index in
    let n = c.loop-index.count in
    let are = c.loop-index.invariant.moved in
    let ends : i + n ≤ front + before = run_ends list trains counts front before i c.loop-index.train n are c.loop-index-test.true c.requires.first in
    omega (arith, ends, c.from.ensures, c.requires.within, c.loop-index.invariant.len, c.loop-index.invariant.beside)

pub loop-index-preserved : goal.loop-index-preserved
loop-index-preserved c =
    let list : List ℕ = c.args.trains.now.items in
    let trains : List ℕ = c.loop-index.trains.items in
    let counts : List ℕ = c.loop-index.runs.items in
    let front = c.args.front in
    let before = c.args.before in
    let i = c.loop-index.index in
    let n = c.loop-index.count in
    let are = c.loop-index.invariant.moved in
    let ends : i + n ≤ front + before = run_ends list trains counts front before i c.loop-index.train n are c.loop-index-test.true c.requires.first in
    let u = c.loop-index.train in
    let within : front + before < length list = search rules in
    let lt : i + n < length list = omega (arith, ends, within) in
    let next : ℕ = i + c.from.result in
    let there : next < length list = omega (arith, lt, c.from.ensures) in
    let P : ℕ → Type 0 = λ k. AreMoved list (set trains (i + k) u) (set (set counts (i + k) 1) (i + 1) n) front (i + k) (get_or trains (i + k) 0) (get_or counts (i + k) 0) in
    let moved = subst P (sym c.from.ensures) (moved_run list trains counts front i u n are lt) in
    let Q : ℕ → Type 0 = λ v. AreMoved list (set trains next u) (set (set counts next 1) (i + 1) n) front next v c.index-next_count.result.now in
    let R : ℕ → Type 0 = λ m. AreMoved list (set trains next u) (set (set counts next 1) (i + 1) n) front next (get_or trains next 0) m in
    record {
      moved = subst Q (read trains next c.index-next_train.result.now (omega (arith, there, are.long)) c.index-next_train.ensures)
          (subst R (read counts next c.index-next_count.result.now (omega (arith, there, are.beside)) c.index-next_count.ensures) moved);
      within = omega (arith, ends, c.from.ensures);
      len = c.loop-index.invariant.len;
      beside = c.loop-index.invariant.beside;
      room = c.loop-index.invariant.room;
      room_of_runs = c.loop-index.invariant.room_of_runs;
    }

pub returns-clause-trains : goal.returns-clause-trains
returns-clause-trains c =
    let list : List ℕ = c.args.trains.now.items in
    let trains : List ℕ = c.loop-index.trains.items in
    let counts : List ℕ = c.loop-index.runs.items in
    let front = c.args.front in
    let before = c.args.before in
    let end : c.loop-index.index ≡ front + before = omega (arith, c.loop-index-test.false, c.loop-index.invariant.within) in
    let P : ℕ → Type 0 = λ k. AreMoved list trains counts front k c.loop-index.train c.loop-index.count in
    let are = subst P end c.loop-index.invariant.moved in
    moved_list list trains counts front before c.loop-index.train c.loop-index.count are

pub returns-clause-runs : goal.returns-clause-runs
returns-clause-runs c =
    let list : List ℕ = c.args.trains.now.items in
    let trains : List ℕ = c.loop-index.trains.items in
    let counts : List ℕ = c.loop-index.runs.items in
    let front = c.args.front in
    let before = c.args.before in
    let end : c.loop-index.index ≡ front + before = omega (arith, c.loop-index-test.false, c.loop-index.invariant.within) in
    let P : ℕ → Type 0 = λ k. AreMoved list trains counts front k c.loop-index.train c.loop-index.count in
    let are = subst P end c.loop-index.invariant.moved in
    moved_runs list trains counts front before c.loop-index.train c.loop-index.count are c.requires.first
