-- The blocking times as they lie in the compression, by the table and by the shifts.
use Rattle.std.proofs.Common.{◌≡◌, ℕ, ◌+◌, ◌-◌, ◌<◌, ◌^◌, List, [], ◌∷◌, map, refl, sym, ap, ◌∙◌, arith}
use Rattle.std.specs.List.{Contains, All}
use Rattle.std.proofs.lemmas.List.Elements.{All-map, All-contains_itself, All-weaker}
use Rattle.rail_capacity.specs.declared.blocking_times.BlockingTime.{BlockingTime}
use Rattle.rail_capacity.specs.declared.bounds.TrainBound.{TrainBound}
use Rattle.rail_capacity.specs.BlockingTimes.{AreConflictFree}
use Rattle.rail_capacity.specs.Placings.{duration}
use Rattle.rail_capacity.specs.Shifts.{earlier_of, placed_by}
use Rattle.rail_capacity.specs.Bounds.{limit_of, IsTableOf}
use Rattle.rail_capacity.specs.Compression.{moved_block}
use Rattle.rail_capacity.specs.LeastBounds.{shifts_from}
use Rattle.rail_capacity.proofs.ShiftLists.{earlier_is}
use Rattle.rail_capacity.proofs.Members.{at_head, in_rest}

same_maps : {X Y : Type 0} (f g : X → Y) (xs : List X) → ((x : X) → Contains xs x → f x ≡ g x) → map f xs ≡ map g xs
same_maps f g [] agree = refl
same_maps {Y = Y} f g (x ∷ xs) agree = ap (λ (y : Y). y ∷ map f xs) (agree x (at_head x xs x refl)) ∙ ap (λ (ys : List Y). g x ∷ ys) (same_maps f g xs (λ y has. agree y (in_rest x xs y has)))

pub same_moved :
    (blocks : List BlockingTime) (from : ℕ) (table : List TrainBound) → IsTableOf blocks from table
    → map (moved_block (λ other. other.begin - limit_of table other.train)) blocks ≡ map (moved_block (placed_by (shifts_from 0 table))) blocks
same_moved blocks from table are =
    same_maps (moved_block (λ other. other.begin - limit_of table other.train)) (moved_block (placed_by (shifts_from 0 table))) blocks (λ x has.
    let e : 0 + x.train ≡ x.train = omega arith in
    let by : earlier_of (shifts_from 0 table) x.train ≡ limit_of table x.train = ap (λ n. earlier_of (shifts_from 0 table) n) (sym e) ∙ earlier_is 0 table x.train (are.seen x has) in
    ap (λ (n : ℕ). let s : BlockingTime = record { section = x.section; train = x.train; begin = x.begin - n; «end» = x.begin - n + duration x } in s) (sym by))

pub moved_low :
    (blocks : List BlockingTime) (table : List TrainBound) → AreConflictFree blocks
    → All (λ (block : BlockingTime). block.«end» < 2 ^ 50) (map (moved_block (λ other. other.begin - limit_of table other.train)) blocks)
moved_low blocks table apart =
    All-map (λ (block : BlockingTime). block.«end» < 2 ^ 50) (moved_block (λ other. other.begin - limit_of table other.train)) blocks
    (All-weaker (Contains blocks) (λ (x : BlockingTime). x.begin - limit_of table x.train + duration x < 2 ^ 50)
    (λ x has. let long = apart.positive x has in let low = apart.below x has in omega arith) blocks (All-contains_itself blocks))
