use Rattle.std.proofs.Common.{rules, ◌≡◌, ℕ, ◌≤◌, ◌++◌, List, length, replicate, drop, sym, ap, ◌∙◌, subst, arith}
use Rattle.std.proofs.lemmas.List.{drop-append-le, length-append, length-drop, length-replicate}
use Rattle.rail_list.specs.KeptLists.{AreRuns, counts_of_run}
use Rattle.rail_list.proofs.SideBySide.{long_run, runs_append, runs_of_one}
use Rattle.rail_list.proofs.kept_list.KeptList.add.Goals as goal

-- a run behind the list, which begins at the front
run_added : (trains counts : List ℕ) (front n u : ℕ) → front ≤ length trains → length counts ≡ length trains → AreRuns (drop front trains) (drop front counts)
    → AreRuns (drop front (trains ++ replicate n u)) (drop front (counts ++ counts_of_run n))
run_added trains counts front n u within long are =
    let P : List ℕ → Type 0 = λ xs. AreRuns xs (drop front (counts ++ counts_of_run n)) in
    let Q : List ℕ → Type 0 = λ ys. AreRuns (drop front trains ++ replicate n u) ys in
    subst P (sym (drop-append-le front trains (replicate n u) within))
    (subst Q (sym (drop-append-le front counts (counts_of_run n) (omega (arith, within, long))))
    (runs_append (drop front trains) (drop front counts) (replicate n u) (counts_of_run n) (omega (arith, long, length-drop front trains, length-drop front counts)) are (runs_of_one n u)))

pub invariant_of-self : goal.invariant_of-self
invariant_of-self c =
    let n = c.args.count in
    let u = c.args.train in
    let front = c.make_room-self-inside.result in
    let trains : List ℕ = c.make_room-self-inside.new.trains.items in
    let counts : List ℕ = c.make_room-self-inside.new.runs.items in
    let trains_are : c.add_copies.new.table.items ≡ trains ++ replicate n u = c.add_copies.ensures.rows ∙ ap (λ k. trains ++ replicate k u) c.from.ensures in
    let within : front ≤ length trains = search rules in
    let beside : length counts ≡ length trains = search rules in
    let P : List ℕ → Type 0 = λ xs. AreRuns xs (drop front counts) in
    let Q : List ℕ → Type 0 = λ ys. AreRuns (drop c.self.inside.front c.self.inside.trains.items) ys in
    let are : AreRuns (drop front trains) (drop front counts) = subst P (sym c.make_room-self-inside.ensures.trains) (subst Q (sym c.make_room-self-inside.ensures.runs) c.self.invariant.runs) in
    let R : List ℕ → Type 0 = λ xs. AreRuns (drop front xs) (drop front c.add_run.new.runs.items) in
    let S : List ℕ → Type 0 = λ ys. AreRuns (drop front (trains ++ replicate n u)) (drop front ys) in
    record {
      within = omega (arith, within, ap length trains_are, length-append trains (replicate n u));
      beside = omega (arith, beside, ap length trains_are, ap length c.add_run.ensures.rows, length-append trains (replicate n u), length-append counts (counts_of_run n), length-replicate n u, long_run n);
      runs = subst R (sym trains_are) (subst S (sym c.add_run.ensures.rows) (run_added trains counts front n u within beside are));
      full = search rules;
      full_counts = search rules;
    }
