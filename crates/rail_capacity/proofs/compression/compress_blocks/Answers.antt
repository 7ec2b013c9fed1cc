use Rattle.std.proofs.Common.{◌≡◌, ℕ, ◌-◌, ◌*◌, ◌/◌, ◌<◌, ◌^◌, length, List, map, sym, ap, ◌∙◌, subst, arith}
use Rattle.std.specs.List.{All}
use Rattle.rail_capacity.specs.declared.blocking_times.BlockingTime.{BlockingTime}
use Rattle.rail_capacity.specs.declared.shifts.Shift.{Shift}
use Rattle.rail_capacity.specs.declared.bounds.TrainBound.{TrainBound}
use Rattle.rail_capacity.specs.declared.compression.Window.{Window}
use Rattle.rail_capacity.specs.BlockingTimes.{AreConflictFree}
use Rattle.rail_capacity.specs.Bounds.{limit_of}
use Rattle.rail_capacity.specs.Compression.{AreLeast, moved_block}
use Rattle.rail_capacity.specs.LeastBounds.{AreLeastBounds, shifts_from}
use Rattle.rail_capacity.specs.Occupancy.{IsOccupancy}
use Rattle.rail_capacity.specs.Compression.{IsCompression, compressed_blocks}
use Rattle.rail_capacity.proofs.LeastShifts.{are_least}
use Rattle.rail_capacity.proofs.MovedBlocks.{same_moved, moved_low}
use Rattle.rail_capacity.proofs.compression.compress_blocks.Goals as goal

abbrev by_table : List TrainBound → List BlockingTime → List BlockingTime
by_table table blocks = map (moved_block (λ other. other.begin - limit_of table other.train)) blocks

low_enough :
    (blocks shown : List BlockingTime) (table : List TrainBound) (occupancy : ℕ) → AreConflictFree blocks → shown ≡ by_table table blocks
    → (All (λ (block : BlockingTime). block.«end» < 2 ^ 50) shown → occupancy < 2 ^ 50) → occupancy < 2 ^ 50
low_enough blocks shown table occupancy apart is bound =
    let P : List BlockingTime → Type 0 = λ xs. All (λ (block : BlockingTime). block.«end» < 2 ^ 50) xs in
    bound (subst P (sym is) (moved_low blocks table apart))

pub overflow_mul-rate : goal.overflow_mul-rate
overflow_mul-rate c =
    let shown : c.deref-3.result.now ≡ by_table c.deref-2.result.now c.args.blocks.now = c.deref-3.ensures.value ∙ c.in_ok-moved.ensures in
    let low : c.in_ok-occupancy.occupancy < 2 ^ 50 = low_enough c.args.blocks.now c.deref-3.result.now c.deref-2.result.now c.in_ok-occupancy.occupancy c.requires.conflict_free shown c.in_ok-occupancy.ensures.bound in
    record { fits = omega arith }

whole :
    (blocks moved : List BlockingTime) (window : Window) (table listed counted : List TrainBound) (trains : List Shift) (occupancy length : ℕ)
    → AreConflictFree blocks → AreLeastBounds blocks window.from table → listed ≡ table → counted ≡ table
    → trains ≡ shifts_from 0 listed → moved ≡ by_table counted blocks → IsOccupancy moved occupancy → length ≡ window.to - window.from
    → IsCompression blocks window trains occupancy (10000 * occupancy / length)
whole blocks moved window table listed counted trains occupancy length apart bounds same too are is occupied lasts =
    let now : trains ≡ shifts_from 0 table = are ∙ ap (λ (rs : List TrainBound). shifts_from 0 rs) same in
    let P : List Shift → Type 0 = λ xs. AreLeast blocks window.from xs in
    let Q : List BlockingTime → Type 0 = λ xs. IsOccupancy xs occupancy in
    let lie : moved ≡ compressed_blocks trains blocks =
    is ∙ ap (λ (rs : List TrainBound). by_table rs blocks) too ∙ same_moved blocks window.from table bounds.settled.bounds.known
    ∙ ap (λ (xs : List Shift). compressed_blocks xs blocks) (sym now) in
    record {
      least = subst P (sym now) (are_least blocks window.from bounds.gaps table apart bounds.are bounds.settled);
      occupied = subst Q lie occupied;
      rated = ap (λ n. 10000 * occupancy / n) lasts;
    }

pub returns : goal.returns
returns c =
    whole c.args.blocks.now c.deref-3.result.now c.args.window c.in_ok-table.table.items c.deref.result.now c.deref-2.result.now c.in_ok-trains.trains.items c.in_ok-occupancy.occupancy c.duration.result
    c.requires.conflict_free c.in_ok-table.ensures c.deref.ensures.value c.deref-2.ensures.value c.in_ok-trains.ensures (c.deref-3.ensures.value ∙ c.in_ok-moved.ensures) c.in_ok-occupancy.ensures.occupancy c.duration.ensures
