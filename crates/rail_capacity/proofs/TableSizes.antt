-- A table keeps its length.
use Rattle.std.proofs.Common.{◌≡◌, ℕ, ◌+◌, length, List, [], ◌∷◌, refl, ◌∙◌, nat_lt}
use Rattle.std.specs.List.{fold}
use Rattle.std.proofs.lemmas.Bool.{cond_both}
use Rattle.std.proofs.lemmas.List.{length-set}
use Rattle.rail_capacity.specs.declared.gaps.Gap.{Gap}
use Rattle.rail_capacity.specs.declared.bounds.TrainBound.{TrainBound}
use Rattle.rail_capacity.specs.Bounds.{tighter_table, limit_of, with_fixed}

pub length-tighter_table : (table : List TrainBound) (gap : Gap) → length (tighter_table table gap) ≡ length table
length-tighter_table table gap =
    cond_both (nat_lt (limit_of table gap.before + gap.room) (limit_of table gap.after)) _ table (λ (rs : List TrainBound). length rs ≡ length table)
    (λ low. length-set table gap.after _) (λ high. refl)

pub length-fold_tighter_table : (gaps : List Gap) (table : List TrainBound) → length (fold tighter_table table gaps) ≡ length table
length-fold_tighter_table [] table = refl
length-fold_tighter_table (gap ∷ gaps) table = length-fold_tighter_table gaps (tighter_table table gap) ∙ length-tighter_table table gap

pub length-with_fixed : (table : List TrainBound) (t : ℕ) → length (with_fixed table t) ≡ length table
length-with_fixed table t = length-set table t _
