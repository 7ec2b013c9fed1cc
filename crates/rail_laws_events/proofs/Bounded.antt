-- A lawful front has no more lines than the bound, hold lines aside.
use Rattle.std.proofs.Common.{◌≡◌, ℕ, ◌+◌, ◌<◌, ◌≤◌, Bool, true, false, cond, length, refl, ap, ◌∙◌, arith}
use Rattle.rail_rules.specs.Numbers.{sum_below}
use Rattle.rail_rules.specs.Plant.{Plant, trains, moves, claims, move_lines, bound}
use Rattle.rail_rules.specs.Fronts.{Front, has_ended, admissions, lines_beside_holds}
use Rattle.rail_rules.specs.LineCounts.{taken_over}
use Rattle.rail_rules.specs.Intervals.{is_taken_over}
use Rattle.rail_rules.specs.Orders.{Input}
use Rattle.rail_rules.specs.Causes.{place}
use Rattle.rail_rules.specs.Events.{train_events}
use Rattle.rail_rules.specs.Lawful.{is_lawful}
use Rattle.rail_rules.proofs.CallerLemmas.{sum_below-le, sum_below_same}
use Rattle.rail_laws_front.specs.Premises.{IsWellFormed}
use Rattle.rail_laws_events.specs.Accounts.{tally, written, all_events, to_come}
use Rattle.rail_laws_events.proofs.Balance.{account}
use Rattle.rail_laws_events.proofs.Written.{few_admissions}
use Rattle.rail_laws_events.proofs.Sums.{length-gather, sum-plus, sum-constant}
use Rattle.rail_laws_events.proofs.Lines.{lines_counted, admissions_counted, ends_counted}
use Rattle.rail_laws_events.proofs.Shares.{tally_all, train_bound, train_whole}
use Rattle.rail_laws_events.proofs.Commands.{commands_written, few_written, commands_counted, commands_exact}

one_at_most : (b : Bool) → cond b 1 0 ≤ 1
one_at_most true = omega arith
one_at_most false = omega arith

-- the shares of all trains together
pub shares_of : Plant → ℕ
shares_of plant = sum_below (λ t. sum_below (move_lines plant t) (moves plant t)) (trains plant) + trains plant

pub bound_is : (plant : Plant) (commands : ℕ) → bound plant commands ≡ shares_of plant + commands + 1
unfolding shares_of
bound_is plant commands = refl

shares_sum : (plant : Plant) → sum_below (λ t. sum_below (move_lines plant t) (moves plant t) + 1) (trains plant) ≡ shares_of plant
unfolding shares_of
shares_sum plant =
    sum-plus (λ t. sum_below (move_lines plant t) (moves plant t)) (λ _. 1) (trains plant)
    ∙ omega (arith, sum-constant 1 (trains plant))

-- the event lines and admissions of a front
pub events_and_admissions : (plant : Plant) (front : Front) → length (all_events plant front) + sum_below (place front) (trains plant) ≡ sum_below (λ t. length (train_events plant t (admissions front t) false) + place front t) (trains plant)
events_and_admissions plant front =
    omega (
      arith,
      length-gather (λ t. train_events plant t (admissions front t) false) (trains plant),
      sum-plus (λ t. length (train_events plant t (admissions front t) false)) (place front) (trains plant),
    )

pub written_bound : (input : Input) → IsWellFormed input.plant → (front : Front) → is_lawful input front ≡ true → length (written front) + sum_below (place front) (trains input.plant) ≤ shares_of input.plant
written_bound input fine front lawful =
    omega (
      arith,
      account input fine front lawful (λ _. true),
      tally_all (written front),
      tally_all (all_events input.plant front),
      events_and_admissions input.plant front,
      sum_below-le (λ t. length (train_events input.plant t (admissions front t) false) + place front t) (λ t. sum_below (move_lines input.plant t) (moves input.plant t) + 1) (trains input.plant)
          (λ t lt. train_bound input.plant t (admissions front t) (few_admissions input fine front lawful t lt)),
      shares_sum input.plant,
    )

pub bounded : (input : Input) → IsWellFormed input.plant → (front : Front) → is_lawful input front ≡ true → lines_beside_holds front ≤ bound input.plant (length input.commands)
bounded input fine front lawful =
    omega (
      arith,
      lines_counted front,
      admissions_counted input front lawful,
      ends_counted input front lawful,
      one_at_most (has_ended front),
      commands_counted input front lawful,
      few_written input front,
      written_bound input fine front lawful,
      bound_is input.plant (length input.commands),
    )

-- where nothing is to come, every train has made its moves, every command is written and the end line stands, the bound is met
-- by the lines and the sections of overlaps that were taken over
pub met : (input : Input) → IsWellFormed input.plant → (front : Front) → is_lawful input front ≡ true
    → has_ended front ≡ true → tally (λ _. true) (to_come input.plant front) ≡ 0
    → commands_written input front ≡ length input.commands
    → ((t : ℕ) → t < trains input.plant → (place front t ≡ moves input.plant t) × (0 < moves input.plant t))
    → lines_beside_holds front + taken_over input.plant front ≡ bound input.plant (length input.commands)
met input fine front lawful ended nothing all_commands whole =
    let taken : ℕ → ℕ = λ t. sum_below (λ m. sum_below (λ j. cond (is_taken_over input.plant t (admissions front t) m j) 1 0) (claims input.plant t m)) (length (admissions front t)) in
    omega (
      arith,
      lines_counted front,
      admissions_counted input front lawful,
      ends_counted input front lawful,
      ap {B = ℕ} (λ b. cond b 1 0) ended,
      commands_counted input front lawful,
      commands_exact input front,
      all_commands,
      account input fine front lawful (λ _. true),
      tally_all (written front),
      tally_all (all_events input.plant front),
      nothing,
      events_and_admissions input.plant front,
      sum-plus (λ t. length (train_events input.plant t (admissions front t) false) + place front t) taken (trains input.plant),
      sum_below_same (λ t. length (train_events input.plant t (admissions front t) false) + place front t + taken t) (λ t. sum_below (move_lines input.plant t) (moves input.plant t) + 1) (trains input.plant)
          (λ t lt. train_whole input.plant t (admissions front t) (whole t lt).0 (whole t lt).1),
      shares_sum input.plant,
      bound_is input.plant (length input.commands),
    )
