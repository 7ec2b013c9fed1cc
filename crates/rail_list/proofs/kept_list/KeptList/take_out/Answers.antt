use Rattle.std.proofs.Common.{rules, ◌≡◌, ℕ, ◌+◌, ◌<◌, List, length, get_or, drop, sym, ap, ◌∙◌, subst, arith}
use Rattle.std.proofs.lemmas.List.{length-drop}
use Rattle.rail_list.specs.KeptLists.{AreRuns, before_first}
use Rattle.rail_list.proofs.kept_list.KeptList.take_out.Goals as goal

pub close_gap-requires-clause-runs : goal.close_gap-requires-clause-runs
close_gap-requires-clause-runs c =
    let front = c.self.inside.front in
    let P : List ℕ → Type 0 = λ xs. AreRuns (drop front xs) (drop front c.pass_on.new.runs.items) in
    subst P c.deref.ensures.value c.pass_on.ensures.runs

pub close_gap-requires-clause-first : goal.close_gap-requires-clause-first
close_gap-requires-clause-first c =
    let before = c.args.before in
    let list_is : drop c.self.inside.front c.self.inside.trains.items ≡ c.args.self.now.trains = search rules in
    c.requires.first ∙ ap (λ xs. length (before_first (get_or xs before 0) xs)) (sym list_is)

pub invariant_of-self : goal.invariant_of-self
invariant_of-self c =
    let front = c.self.inside.front in
    let list_is : drop front c.self.inside.trains.items ≡ c.args.self.now.trains = search rules in
    let lt : front + c.args.before < length c.self.inside.trains.items = omega (arith, c.requires.within, ap length list_is, length-drop front c.self.inside.trains.items) in
    record {
      within = search rules;
      beside = search rules;
      runs = c.close_gap.ensures.runs;
      full = search rules;
      full_counts = search rules;
    }
