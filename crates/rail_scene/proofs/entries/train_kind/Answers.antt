use Rattle.std.proofs.Common.{◌≡◌, ℕ, true, ◌&&◌, Option, Some, None, get_or, is_some, nat_le, unwrap_or, refl, sym, ap, ◌∙◌, subst, ⊎_elim, arith, option_and_then, option_map}
use Rattle.std.proofs.lemmas.Bool.{and_parts, cases_Bool, false≢true}
use Rattle.std.specs.Prelude.{if◌then◌else◌}
use Rattle.std.specs.Option.{option_copied, option_map_or}
use Rattle.toml.specs.Data.{Data, as_integer}
use Rattle.rail_base.specs.Limits.{is_from_one, most, Speed, TrainLength, StartSupplement, StopSupplement}
use Rattle.rail_scene.specs.declared.keys.TheConstants.{KIND_KEYS, NAME, SPEED, START, STOP, TRAIN_LENGTH}
use Rattle.rail_scene.specs.declared.keys.Bounds.{Bounds}
use Rattle.rail_scene.specs.declared.keys.KeyForm.TheVariants.{Whole}
use Rattle.rail_scene.specs.Fields.{bounded, counted, name_at, name_in, number_at, number_by}
use Rattle.toml.specs.View.{view}
use Rattle.rail_scene.proofs.MemberWalk.{at_key}
use Rattle.rail_scene.proofs.entries.train_kind.Goals as goal

-- a number that was read is in its range
read_within : (bounds : Bounds) (read : Option ℕ) (n : ℕ) → option_and_then (bounded bounds) read ≡ Some n → (nat_le bounds.low n && nat_le n bounds.high) ≡ true
read_within bounds None n found = absurd (false≢true (ap is_some found))
read_within bounds (Some m) n found =
    ⊎_elim
    (λ yes.
    let same : Some m ≡ Some n = sym (ap (λ t. if t then Some m else None) yes) ∙ found in
    subst (λ k. (nat_le bounds.low k && nat_le k bounds.high) ≡ true) (ap (λ o. unwrap_or o m) same) yes)
    (λ no. absurd (false≢true (ap is_some (sym (ap (λ t. if t then Some m else None) no) ∙ found))))
    (cases_Bool (nat_le bounds.low m && nat_le m bounds.high))

within : (bounds : Bounds) (value : Option Data) (n : ℕ) → number_by (Whole bounds) value ≡ Some n → (nat_le bounds.low n && nat_le n bounds.high) ≡ true
within bounds value n found = read_within bounds (option_map_or (λ d. option_and_then counted (as_integer d)) value (Some bounds.default)) n found

pub returns-clause-spelled : goal.returns-clause-spelled
returns-clause-spelled c =
    let node = view c.args.table.now in
    let name_is : name_at NAME node ≡ Some c.in_ok-read_name.field-0 = ap (option_and_then name_in) (sym (at_key KIND_KEYS c.values_of.result node 0 c.index-values_of-0.result NAME (omega arith) c.values_of.ensures)) ∙ c.in_ok-read_name.ensures in
    let train_length_is : number_at TRAIN_LENGTH node ≡ Some c.in_ok-read_number.field-0 = ap (number_by TRAIN_LENGTH.form) (sym (at_key KIND_KEYS c.values_of.result node 1 c.index-values_of-1.result TRAIN_LENGTH (omega arith) c.values_of.ensures)) ∙ c.in_ok-read_number.ensures in
    let speed_is : number_at SPEED node ≡ Some c.in_ok-read_number-2.field-0 = ap (number_by SPEED.form) (sym (at_key KIND_KEYS c.values_of.result node 2 c.index-values_of-2.result SPEED (omega arith) c.values_of.ensures)) ∙ c.in_ok-read_number-2.ensures in
    let start_is : number_at START node ≡ Some c.in_ok-read_number-3.field-0 = ap (number_by START.form) (sym (at_key KIND_KEYS c.values_of.result node 3 c.index-values_of-3.result START (omega arith) c.values_of.ensures)) ∙ c.in_ok-read_number-3.ensures in
    let stop_is : number_at STOP node ≡ Some c.in_ok-read_number-4.field-0 = ap (number_by STOP.form) (sym (at_key KIND_KEYS c.values_of.result node 4 c.index-values_of-4.result STOP (omega arith) c.values_of.ensures)) ∙ c.in_ok-read_number-4.ensures in
    rw (name_is, train_length_is, speed_is, start_is, stop_is) refl

pub returns-clause-fit : goal.returns-clause-fit
returns-clause-fit c =
    let long : is_from_one (most TrainLength) c.in_ok-read_number.field-0 ≡ true = within (record { low = 1; high = most TrainLength; default = 1 }) (option_map view (option_copied (get_or c.values_of.result 1 c.index-values_of-1.result))) c.in_ok-read_number.field-0 c.in_ok-read_number.ensures in
    let fast : is_from_one (most Speed) c.in_ok-read_number-2.field-0 ≡ true = within (record { low = 1; high = most Speed; default = 1 }) (option_map view (option_copied (get_or c.values_of.result 2 c.index-values_of-2.result))) c.in_ok-read_number-2.field-0 c.in_ok-read_number-2.ensures in
    let start : nat_le c.in_ok-read_number-3.field-0 (most StartSupplement) ≡ true = (and_parts (nat_le 0 c.in_ok-read_number-3.field-0) (nat_le c.in_ok-read_number-3.field-0 (most StartSupplement)) (within (record { low = 0; high = most StartSupplement; default = 0 }) (option_map view (option_copied (get_or c.values_of.result 3 c.index-values_of-3.result))) c.in_ok-read_number-3.field-0 c.in_ok-read_number-3.ensures)).1 in
    let stop : nat_le c.in_ok-read_number-4.field-0 (most StopSupplement) ≡ true = (and_parts (nat_le 0 c.in_ok-read_number-4.field-0) (nat_le c.in_ok-read_number-4.field-0 (most StopSupplement)) (within (record { low = 0; high = most StopSupplement; default = 0 }) (option_map view (option_copied (get_or c.values_of.result 4 c.index-values_of-4.result))) c.in_ok-read_number-4.field-0 c.in_ok-read_number-4.ensures)).1 in
    λ i. long i && fast i && start i && stop i
