-- Times of a move, whose places and steps the code counts from 1.
use Rattle.std.proofs.Common.{◌≡◌, ℕ, zero, suc, ◌+◌, ◌-◌, ◌≤◌, Bool, List, refl, ap, ◌∙◌, arith}
use Rattle.rail_rules.specs.Plant.{Plant}
use Rattle.rail_rules.specs.Times.{start_loss, head_time, enter}
use Rattle.rail_block.specs.declared.moves.KnownMove.{KnownMove}
use Rattle.rail_block.specs.declared.times.MoveTimes.{MoveTimes}
use Rattle.rail_block.specs.CarriedTimes.{times_at}
use Rattle.rail_block.specs.KnownMoves.{of_move}
use Rattle.rail_block.specs.Steps.{step_time}

-- the move that leads to a place
pub before : (place : ℕ) → 1 ≤ place → place ≡ suc (place - 1)
before place le = omega arith

-- what holds of a move that was made for this plant, train and place
pub of-same : {A : Type 0} (f : Plant → ℕ → ℕ → A) (own : KnownMove) (plant : Plant) (t place : ℕ) → own.plant.now ≡ plant → own.train ≡ t → own.place ≡ place → of_move f own ≡ f plant t (place - 1)
of-same f own plant t place a b c = λ k. f (a k) (b k) (c k - 1)

-- the times of a move, that leads to a place
pub made_at : (plant : Plant) (t : ℕ) (adms : List ℕ) (place : ℕ) (times : MoveTimes) → 1 ≤ place → times ≡ times_at plant t adms place → times ≡ times_at plant t adms (suc (place - 1))
made_at plant t adms place times le h = h ∙ ap (times_at plant t adms) (before place le)

pub enter-at : (plant : Plant) (t : ℕ) (adms : List ℕ) (place : ℕ) (times : MoveTimes) (j : ℕ) → 1 ≤ place → times ≡ times_at plant t adms place → head_time plant t (place - 1) times.go times.passes j ≡ enter plant t adms (place - 1) j
enter-at plant t adms place times j le h =
    ap (λ (own : MoveTimes). head_time plant t (place - 1) own.go own.passes j) (made_at plant t adms place times le h)

head_time-first : (plant : Plant) (t m begun : ℕ) (passing : Bool) → begun + start_loss plant t passing + step_time plant t m 0 ≡ head_time plant t m begun passing 1
head_time-first plant t m begun passing = omega arith

head_time-more : (plant : Plant) (t m begun : ℕ) (passing : Bool) (j : ℕ) → head_time plant t m begun passing (suc j) + step_time plant t m (suc j) ≡ head_time plant t m begun passing (suc (suc j))
head_time-more plant t m begun passing j = omega arith

-- one step more, whose number counts from 1
pub head_time-next : (plant : Plant) (t m begun : ℕ) (passing : Bool) (step entered lost run : ℕ) → 1 ≤ step
    → entered ≡ head_time plant t m begun passing (step - 1) → run ≡ step_time plant t m (step - 1)
    → (step ≡ 1 → lost ≡ start_loss plant t passing) → (2 ≤ step → lost ≡ 0)
    → entered + lost + run ≡ head_time plant t m begun passing step
head_time-next plant t m begun passing zero entered lost run le e r first later = absurd (omega arith)
head_time-next plant t m begun passing (suc zero) entered lost run le e r first later =
    let none : suc zero - 1 ≡ 0 = omega arith in
    omega (arith, first refl, e ∙ ap (head_time plant t m begun passing) none, r ∙ ap (step_time plant t m) none, head_time-first plant t m begun passing)
head_time-next plant t m begun passing (suc (suc j)) entered lost run le e r first later =
    let one_less : suc (suc j) - 1 ≡ suc j = omega arith in
    omega (arith, later (omega arith), e ∙ ap (head_time plant t m begun passing) one_less, r ∙ ap (step_time plant t m) one_less, head_time-more plant t m begun passing j)
