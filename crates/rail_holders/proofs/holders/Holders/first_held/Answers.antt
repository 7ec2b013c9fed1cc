use Rattle.std.proofs.Common.{rules, ◌≡◌, ℕ, ◌<◌, length, List, Option, None, take, drop, subst, sym}
use Rattle.std.specs.List.{All}
use Rattle.std.proofs.lemmas.List.Elements.{All-drop}
use Rattle.rail_holders.specs.FirstHeld.{first_held}
use Rattle.rail_holders.proofs.Looking.{none_in_front}
use Rattle.rail_holders.proofs.holders.Holders.first_held.Goals as goal

pub loop-four-preserved : goal.loop-four-preserved
loop-four-preserved c =
    let holders : List (Option ℕ) = c.args.self.now in
    let left : List ℕ = c.loop-four.left.now in
    let free : first_held holders (take 4 left) ≡ None = search rules in
    let behind : c.in-Some.behind.now ≡ drop 4 left = search rules in
    record {
      same = search (rules, none_in_front holders 4 left free, behind, c.loop-four.invariant.same);
      known = subst (All (λ x. x < length holders)) (sym behind) (All-drop (λ x. x < length holders) 4 left c.loop-four.invariant.known);
    }
