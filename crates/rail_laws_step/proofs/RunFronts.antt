-- Run fronts: what continues a run.
use Rattle.std.proofs.Common.{◌≡◌, ℕ, ◌<◌, true, false, ◌&&◌, List, [], ◌∷◌, refl, sym, ⊎_elim}
use Rattle.std.proofs.lemmas.Bool.{false≢true, and_parts, and_from}
use Rattle.rail_base.specs.declared.history.What.{What}
use Rattle.rail_base.specs.declared.history.What.TheVariants.{Free, Arrive, Enter, Out, Ready, Told, Untold, Admit, Hold, End}
use Rattle.rail_rules.specs.Fronts.{Line, Front, is_admission}
use Rattle.rail_rules.specs.Orders.{Input}
use Rattle.rail_rules.specs.Lawful.{may_follow, is_lawful}
use Rattle.rail_rules.specs.RunHistories.{Seat, is_run_line, is_run}

-- a run front is lawful
pub run_lawful : (input : Input) (seats : List Seat) (front : Front) → is_run input seats front ≡ true → is_lawful input front ≡ true
run_lawful input seats [] run = refl
run_lawful input seats (line ∷ front) run =
    let both = and_parts (is_run input seats front && may_follow input front line) (is_run_line input seats front line.entry.what) run in
    let first = and_parts (is_run input seats front) (may_follow input front line) both.0 in
    and_from (is_lawful input front) (may_follow input front line) (run_lawful input seats front first.0) first.1

pub run_continued : (input : Input) (seats : List Seat) (line : Line) (front : Front) → is_run input seats front ≡ true → may_follow input front line ≡ true → is_run_line input seats front line.entry.what ≡ true → is_run input seats (line ∷ front) ≡ true
run_continued input seats line front run may of_run =
    and_from (is_run input seats front && may_follow input front line) (is_run_line input seats front line.entry.what) (and_from (is_run input seats front) (may_follow input front line) run may) of_run

-- a line that is no admission is one of a run
idle_of_run : (input : Input) (seats : List Seat) (front : Front) (what : What) → is_admission what ≡ false → is_run_line input seats front what ≡ true
idle_of_run input seats front (Admit t m note) idle = absurd (false≢true (sym idle))
idle_of_run input seats front (Hold t m why) idle = refl
idle_of_run input seats front End idle = refl
idle_of_run input seats front (Free x t) idle = refl
idle_of_run input seats front (Arrive t m) idle = refl
idle_of_run input seats front (Enter t m x) idle = refl
idle_of_run input seats front (Out t) idle = refl
idle_of_run input seats front (Ready t m) idle = refl
idle_of_run input seats front (Told k) idle = refl
idle_of_run input seats front (Untold k) idle = refl

pub run_idle : (input : Input) (seats : List Seat) (line : Line) (front : Front) → is_run input seats front ≡ true → may_follow input front line ≡ true → is_admission line.entry.what ≡ false → is_run input seats (line ∷ front) ≡ true
run_idle input seats line front run may idle = run_continued input seats line front run may (idle_of_run input seats front line.entry.what idle)
