use Rattle.std.proofs.Common.{◌≡◌, ℕ, ◌<◌, get_or, replicate, arith}
use Rattle.std.proofs.lemmas.List.{get_or-replicate, length-replicate}
use Rattle.rail_stairs.proofs.tallies.Tallies.new.Goals as goal

nothing : (x : ℕ) → x < 512 → get_or (replicate {A = ℕ} 512 0) x 0 ≡ 0
nothing x lt = get_or-replicate {A = ℕ} 512 x 0 0 lt

pub returns : goal.returns
returns c = λ ended. record {
  sections = length-replicate {A = ℕ} 512 0;
  sums = length-replicate {A = ℕ} 512 0;
  visits = λ x lt. nothing x lt;
  occupied = λ x lt. nothing x lt;
  few = λ x lt. omega (arith, nothing x lt);
  short = λ x lt. omega (arith, nothing x lt);
}
