-- The items of each line plant are accepted one after the other: by evaluation, plant by plant.
use Rattle.std.proofs.Common.{◌≡◌, ℕ, ◌≤◌, zero, suc, true, refl, arith}
use Rattle.rail_gen.specs.AcceptedNetworks.{is_accepted_in_order}
use Rattle.rail_gen.specs.LinePlants.{line_network}

pub line_accepted : (count : ℕ) → 2 ≤ count → count ≤ 8 → is_accepted_in_order (line_network count) ≡ true
line_accepted zero low high = absurd (omega arith)
line_accepted (suc zero) low high = absurd (omega arith)
line_accepted (suc (suc zero)) low high = refl
line_accepted (suc (suc (suc zero))) low high = refl
line_accepted (suc (suc (suc (suc zero)))) low high = refl
line_accepted (suc (suc (suc (suc (suc zero))))) low high = refl
line_accepted (suc (suc (suc (suc (suc (suc zero)))))) low high = refl
line_accepted (suc (suc (suc (suc (suc (suc (suc zero))))))) low high = refl
line_accepted (suc (suc (suc (suc (suc (suc (suc (suc zero)))))))) low high = refl
line_accepted (suc (suc (suc (suc (suc (suc (suc (suc (suc more))))))))) low high = absurd (omega arith)
