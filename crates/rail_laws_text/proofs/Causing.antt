-- A cause names trains and sections of the plant.
use Rattle.std.proofs.Common.{◌≡◌, ℕ, zero, suc, ◌<◌, ◌≤◌, Bool, true, cond, eqb, List, [], ◌∷◌, length, get_or, Option, Some, None, refl, sym, ap, ◌∙◌, arith}
use Rattle.std.specs.List.{list_all, find}
use Rattle.std.specs.Option.{option_map}
use Rattle.std.specs.Cmp.Lexicographic.{bytes_decides}
use Rattle.std.proofs.lemmas.Bool.{and_parts, and_from, cond_both}
use Rattle.rail_base.specs.declared.history.Cause.{Cause}
use Rattle.rail_base.specs.declared.history.Cause.TheVariants.{Stopped, Closed, Blocked, NoList}
use Rattle.rail_base.specs.declared.orders.Order.{Order}
use Rattle.rail_rules.specs.Accepted.{is_accepted}
use Rattle.rail_rules.specs.Numbers.{first_below, or_else}
use Rattle.rail_rules.specs.Plant.{Plant, trains, moves, claimed}
use Rattle.rail_rules.specs.Fronts.{Front, option_code, same_cause}
use Rattle.rail_rules.specs.Orders.{Input, told, is_closed, is_stopped}
use Rattle.rail_rules.specs.Causes.{place, blocker, stop_cause, closed_cause, blocked_cause, bar, list_cause, cause}
use Rattle.rail_rules.specs.WritableLines.{is_known_train, is_known_section, is_writable_cause}
use Rattle.rail_laws_text.proofs.Known.{train_known, claims_known}

-- the cause, if there is one, can be written
abbrev pub names_known : Plant → Option Cause → Bool
names_known plant None = true
names_known plant (Some why) = is_writable_cause plant why

either : (plant : Plant) (a b : Option Cause) → names_known plant a ≡ true → names_known plant b ≡ true → names_known plant (or_else a b) ≡ true
either plant None b ok_a ok_b = ok_b
either plant (Some why) b ok_a ok_b = ok_a

closed_known : (plant : Plant) (orders : List Order) (sections : List ℕ) → list_all (is_known_section plant) sections ≡ true → names_known plant (closed_cause sections orders) ≡ true
closed_known plant orders [] ok = refl
closed_known plant orders (x ∷ sections) ok =
    let both = and_parts (is_known_section plant x) (list_all (is_known_section plant) sections) ok in
    cond_both (is_closed x orders) (Some x) (find (λ y. is_closed y orders) sections) (λ found. names_known plant (option_map Closed found) ≡ true)
    (λ _. both.0)
    (λ _. closed_known plant orders sections both.1)

either_blocker : (plant : Plant) (x : ℕ) (a b : Option ℕ) → names_known plant (option_map (Blocked x) a) ≡ true → names_known plant (option_map (Blocked x) b) ≡ true → names_known plant (option_map (Blocked x) (or_else a b)) ≡ true
either_blocker plant x None b ok_a ok_b = ok_b
either_blocker plant x (Some u) b ok_a ok_b = ok_a

blocker_known : (plant : Plant) (test : ℕ → Bool) (x : ℕ) → is_known_section plant x ≡ true → (n : ℕ) → n ≤ trains plant → names_known plant (option_map (Blocked x) (first_below test n)) ≡ true
blocker_known plant test x ok zero le = refl
blocker_known plant test x ok (suc n) le =
    let last : names_known plant (option_map (Blocked x) (cond (test n) (Some n) None)) ≡ true =
    cond_both (test n) (Some n) None (λ found. names_known plant (option_map (Blocked x) found) ≡ true)
    (λ _. and_from (is_known_section plant x) (is_known_train plant n) ok (train_known plant n (omega arith)))
    (λ _. refl) in
    either_blocker plant x (first_below test n) (cond (test n) (Some n) None) (blocker_known plant test x ok n (omega arith)) last

blocked_known : (input : Input) (front : Front) (t : ℕ) (sections : List ℕ) → list_all (is_known_section input.plant) sections ≡ true → names_known input.plant (blocked_cause input front t sections) ≡ true
blocked_known input front t [] ok = refl
blocked_known input front t (x ∷ sections) ok =
    let both = and_parts (is_known_section input.plant x) (list_all (is_known_section input.plant) sections) ok in
    either input.plant (option_map (Blocked x) (blocker input front t x)) (blocked_cause input front t sections)
    (blocker_known input.plant _ x both.0 (trains input.plant) (omega arith))
    (blocked_known input front t sections both.1)

stop_known : (plant : Plant) (t : ℕ) (orders : List Order) → names_known plant (stop_cause t orders) ≡ true
stop_known plant t orders = cond_both (is_stopped t orders) (Some Stopped) None (λ why. names_known plant why ≡ true) (λ _. refl) (λ _. refl)

no_list_known : (plant : Plant) (b : Bool) → names_known plant (cond b None (Some NoList)) ≡ true
no_list_known plant b = cond_both b None (Some NoList) (λ why. names_known plant why ≡ true) (λ _. refl) (λ _. refl)

-- the cause of a train that has a move left names trains and sections of the plant
pub cause_known : (input : Input) → is_accepted input.plant ≡ true → (front : Front) (t : ℕ) → place front t < moves input.plant t → names_known input.plant (cause input front t) ≡ true
cause_known input ok front t lt =
    let orders : List Order = told input.commands front in
    let sections : List ℕ = claimed input.plant t (place front t) in
    let known : list_all (is_known_section input.plant) sections ≡ true = claims_known input.plant ok t (place front t) lt in
    either input.plant (bar input front t) (list_cause input front t)
    (either input.plant (stop_cause t orders) (or_else (closed_cause sections orders) (blocked_cause input front t sections)) (stop_known input.plant t orders)
    (either input.plant (closed_cause sections orders) (blocked_cause input front t sections) (closed_known input.plant orders sections known) (blocked_known input front t sections known)))
    (no_list_known input.plant _)

-- what the numbers of a cause say
cause_back : List ℕ → Option Cause
cause_back code = cond (eqb (length code) 0) None (Some (cond (eqb (get_or code 0 0) 0) Stopped (cond (eqb (get_or code 0 0) 1) (Closed (get_or code 1 0)) (cond (eqb (get_or code 0 0) 2) (Blocked (get_or code 1 0) (get_or code 2 0)) NoList))))

back : (why : Option Cause) → cause_back (option_code why) ≡ why
unfolding cause_back
back None = refl
back (Some Stopped) = refl
back (Some (Closed x)) = refl
back (Some (Blocked x u)) = refl
back (Some NoList) = refl

-- causes that are one by their numbers are one
pub one_cause : (a b : Option Cause) → same_cause a b ≡ true → a ≡ b
one_cause a b h = sym (back a) ∙ ap cause_back ((bytes_decides (option_code a) (option_code b)).0 h) ∙ back b
