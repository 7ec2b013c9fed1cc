-- The times of a train, from the times of its admissions.
use Rattle.std.specs.Prelude.{ℕ, zero, suc, ◌+◌, ◌-◌, ◌==◌, max, Bool, not, ◌&&◌, cond, nat_lt, List, ◌∷◌, length, get_or}
use Rattle.rail_rules.specs.Plant.{Plant, train, moves, move_row, steps, step_section, section, is_forced, dwell, departure, run_over, clear_time}

-- Of one move, from numbers: admitted is the time of its admission, previous that of the move before (0 for the
-- first move), arrived the free running time at its beginning.

-- the time of a stop at a place: the free running time and the stop supplement
abbrev pub stop_time : Plant → ℕ → ℕ → ℕ
stop_time plant t arrived = arrived + (train plant t).kind.stop

-- the departure time at a place: after the dwell and not before the departure of
-- the call where the place is forced, else the time of a stop
abbrev pub depart_time : Plant → ℕ → ℕ → ℕ → ℕ
depart_time plant t p arrived = cond (is_forced plant t p)
    (max (stop_time plant t arrived + dwell plant t p) (departure plant t p))
    (stop_time plant t arrived)

-- the time for clearing and watching the signal at which the move begins
abbrev pub signal_time : Plant → ℕ → ℕ → ℕ
signal_time plant t m = (move_row plant t m).setting + (move_row plant t m).watching

-- the ready time of a move: early enough that the signal is clear when the train departs or, where it may pass, before its approach
abbrev pub ready_time : Plant → ℕ → ℕ → ℕ → ℕ → ℕ
ready_time plant t m previous arrived = cond (is_forced plant t m)
    (max previous (depart_time plant t m arrived - signal_time plant t m))
    (max previous (arrived - (signal_time plant t m + (move_row plant t m).approach)))

-- the train passes the beginning of the move: the place isn't forced, and the move is admitted at its ready time
abbrev pub does_pass : Plant → ℕ → ℕ → ℕ → ℕ → ℕ → Bool
does_pass plant t m previous arrived admitted = not (is_forced plant t m) && (admitted == ready_time plant t m previous arrived)

-- when the move begins: after signal and approach where the train passes, else after the signal and not before the departure time
abbrev pub start_time : Plant → ℕ → ℕ → ℕ → ℕ → Bool → ℕ
start_time plant t m arrived admitted passing = cond passing
    (admitted + signal_time plant t m + (move_row plant t m).approach)
    (max (depart_time plant t m arrived) (admitted + signal_time plant t m))

-- the start supplement of a move, which a train that passes doesn't lose
abbrev pub start_loss : Plant → ℕ → Bool → ℕ
start_loss plant t passing = cond passing 0 (train plant t).kind.start

-- when the head has run over the first steps of a move that began at a time
abbrev pub head_time : Plant → ℕ → ℕ → ℕ → Bool → ℕ → ℕ
head_time plant t m begun passing zero = begun
head_time plant t m begun passing (suc j) = begun + start_loss plant t passing + run_over plant t m (suc j)

-- Of a train, from the list of its admissions, the first one first.

-- the time of an admission
abbrev pub admitted : List ℕ → ℕ → ℕ
admitted adms m = get_or adms m 0

-- the time of the admission before it, 0 for the first one
abbrev pub previous : List ℕ → ℕ → ℕ
previous adms m = get_or (0 ∷ adms) m 0

-- the move is admitted
abbrev pub is_admitted : List ℕ → ℕ → Bool
is_admitted adms m = nat_lt m (length adms)

-- when the head reaches the end of a move that began with this free running time at its beginning
abbrev pub run_end : Plant → ℕ → List ℕ → ℕ → ℕ → ℕ
run_end plant t adms m arrived =
    let passing : Bool = is_admitted adms m && does_pass plant t m (previous adms m) arrived (admitted adms m) in
    head_time plant t m (start_time plant t m arrived (admitted adms m) passing) passing (steps plant t m)

-- the free running time at a place: the entry at the first, then the end of the run without a stop there
abbrev pub free_run : Plant → ℕ → List ℕ → ℕ → ℕ
free_run plant t adms zero = (train plant t).entry
free_run plant t adms (suc m) = run_end plant t adms m (free_run plant t adms m)

-- the ready time of a move
abbrev pub ready : Plant → ℕ → List ℕ → ℕ → ℕ
ready plant t adms m = ready_time plant t m (previous adms m) (free_run plant t adms m)

-- the move is admitted, and the train passes its beginning
abbrev pub passes : Plant → ℕ → List ℕ → ℕ → Bool
passes plant t adms m = is_admitted adms m && does_pass plant t m (previous adms m) (free_run plant t adms m) (admitted adms m)

-- when the train goes over the beginning of the move
abbrev pub go : Plant → ℕ → List ℕ → ℕ → ℕ
go plant t adms m = start_time plant t m (free_run plant t adms m) (admitted adms m) (passes plant t adms m)

-- when the head enters the section of a step, counted from 0
abbrev pub enter : Plant → ℕ → List ℕ → ℕ → ℕ → ℕ
enter plant t adms m j = head_time plant t m (go plant t adms m) (passes plant t adms m) j

-- the time of a stop at the end of the move
abbrev pub stop_at : Plant → ℕ → List ℕ → ℕ → ℕ
stop_at plant t adms m = stop_time plant t (free_run plant t adms (suc m))

-- when the train arrives at the end of the move: with its next move where it passes there, at
-- its free running time at the end of its last move, else with a stop
abbrev pub arrive : Plant → ℕ → List ℕ → ℕ → ℕ
arrive plant t adms m = cond (suc m == moves plant t) (free_run plant t adms (suc m))
    (cond (passes plant t adms (suc m)) (go plant t adms (suc m)) (stop_at plant t adms m))

-- when the head leaves the section of a step
abbrev pub leave : Plant → ℕ → List ℕ → ℕ → ℕ → ℕ
leave plant t adms m j = cond (suc j == steps plant t m) (arrive plant t adms m) (enter plant t adms m (suc j))

-- the clearing time of a section
abbrev pub clearing : Plant → ℕ → ℕ → ℕ
clearing plant t x = clear_time (train plant t).kind (section plant x)

-- when the whole train is out, after its last move
abbrev pub out : Plant → ℕ → List ℕ → ℕ → ℕ
out plant t adms m = arrive plant t adms m + clearing plant t (step_section plant t m (steps plant t m - 1))
