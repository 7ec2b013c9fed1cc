-- What the tests of lines say of the commands, and how they join.
use Rattle.std.proofs.Common.{◌≡◌, ℕ, suc, ◌+◌, ◌<◌, ◌≤◌, Bool, true, false, not, cond, ◌&&◌, is_some, nat_le, nat_lt, List, [], ◌∷◌, length, Option, Some, None, option_and_then, refl, sym, ap, ◌∙◌, subst, arith}
use Rattle.std.specs.List.{cons_option}
use Rattle.std.specs.Option.{option_map, option_map_or, option_or}
use Rattle.std.proofs.lemmas.Bool.{and_from, le-leb, lt-ltb}
use Rattle.rail_base.specs.FirstRefusals.{first_failing}
use Rattle.rail_base.specs.Limits.{most, Commands, InputTime}
use Rattle.rail_base.specs.NameForms.{is_name, same_name}
use Rattle.rail_base.specs.declared.orders.Command.{Command}
use Rattle.rail_base.specs.declared.orders.Order.{Order}
use Rattle.rail_base.specs.declared.orders.Order.TheVariants as order
use Rattle.rail_base.specs.declared.refusals.Refusal.{Refusal}
use Rattle.rail_base.proofs.CallerLemmas.{all_passed, first_failing-append}
use Rattle.rail_rules.specs.Accepted.{are_commands_in_range, is_order_in_range}
use Rattle.rail_rules.specs.Plant.{Plant, trains}
use Rattle.rail_command_file.specs.declared.orders.NamedOrder.{NamedOrder}
use Rattle.rail_command_file.specs.declared.orders.NamedOrder.TheVariants.{Policy, Retire, Close, Open, Stop, Go, Cancel, Priority}
use Rattle.rail_command_file.specs.declared.orders.NamedCommand.{NamedCommand}
use Rattle.rail_text.specs.Decimals.{is_decimal, value_of}
use Rattle.rail_text.specs.Lines.{Line, number_of_name, words}
use Rattle.rail_text.specs.Times.{IsInputTime, input_time}
use Rattle.rail_command_file.specs.Orders.{commanded, named_command, named_order, order_of}
use Rattle.rail_command_file.specs.Commands.{command_on, commands_on, known_command, line_tests, lines_tests, time_on}
use Rattle.rail_text.proofs.CallerLemmas.{found_at, input_time_spelled}

-- what is the case where a test fails not
passes : (b : Bool) → not b ≡ false → b ≡ true
passes true h = refl
passes false h = cc

-- a line that passes its tests
pub record IsPassed (sections trains : List (List ℕ)) (before earliest : ℕ) (line : Line) : Type 0 where
  pub few : before < most Commands
  pub named : NamedCommand
  pub is_named : named_command line.words ≡ Some named
  pub what : Order
  pub is_what : order_of sections trains named.what ≡ Some what
  pub later : earliest ≤ named.at

-- its command
abbrev pub command_of : {sections trains : List (List ℕ)} {before earliest : ℕ} {line : Line} → IsPassed sections trains before earliest line → Command
command_of passed = record { at = passed.named.at; what = passed.what }

abbrev lookup : List (List ℕ) → List (List ℕ) → NamedCommand → Option Order → Option Command
lookup sections trains named what = option_map (λ (w : Order). record { at = named.at; what = w }) what

passed_by : (sections trains : List (List ℕ)) (before earliest : ℕ) (line : Line) → before < most Commands → (o : Option NamedCommand) → named_command line.words ≡ o → is_some o ≡ true
    → is_some (option_and_then (known_command sections trains) o) ≡ true → earliest ≤ option_map_or (λ (c : NamedCommand). c.at) o 0 → IsPassed sections trains before earliest line
passed_by sections trains before earliest line few None is form known later = absurd (cc)
passed_by sections trains before earliest line few (Some named) is form known later = by (order_of sections trains named.what) refl known
  where
    by : (w : Option Order) → order_of sections trains named.what ≡ w → is_some (lookup sections trains named w) ≡ true → IsPassed sections trains before earliest line
    by None is_what none = absurd (cc)
    by (Some what) is_what some = record { few = few; named = named; is_named = is; what = what; is_what = is_what; later = later }

pub line_passed : (sections trains : List (List ℕ)) (before earliest : ℕ) (line : Line) → first_failing (line_tests sections trains before earliest line) ≡ None → IsPassed sections trains before earliest line
line_passed sections trains before earliest line h =
    let parts = all_passed (line_tests sections trains before earliest line) h in
    let few : before < most Commands = grind (arith, parts.0, le-leb (most Commands) before) in
    let later : earliest ≤ time_on line = grind (arith, parts.1.1.1.0, lt-ltb (time_on line) earliest) in
    passed_by sections trains before earliest line few (named_command line.words) refl (passes (is_some (named_command line.words)) parts.1.0) (passes (is_some (command_on sections trains line)) parts.1.1.0) later

module _ {sections trains : List (List ℕ)} {before earliest : ℕ} {line : Line} (p : IsPassed sections trains before earliest line) where
  pub its_command : command_on sections trains line ≡ Some (command_of p)
  its_command = ap (option_and_then (known_command sections trains)) p.is_named ∙ ap (lookup sections trains p.named) p.is_what

  pub its_time : time_on line ≡ p.named.at
  its_time = ap (λ (o : Option NamedCommand). option_map_or (λ (c : NamedCommand). c.at) o 0) p.is_named

-- lines behind one that is not skipped
pub lines_apart : (sections trains : List (List ℕ)) (before earliest : ℕ) (line : Line) (rest : List Line) →
    first_failing (lines_tests sections trains before earliest (line ∷ rest)) ≡ option_or (first_failing (line_tests sections trains before earliest line)) (first_failing (lines_tests sections trains (suc before) (time_on line) rest))
lines_apart sections trains before earliest line rest = first_failing-append (line_tests sections trains before earliest line) (lines_tests sections trains (suc before) (time_on line) rest)

-- lines that pass: the first one, and those behind it
pub record ArePassed (sections trains : List (List ℕ)) (before earliest : ℕ) (line : Line) (rest : List Line) : Type 0 where
  pub none : first_failing (line_tests sections trains before earliest line) ≡ None
  pub first : IsPassed sections trains before earliest line
  pub others : first_failing (lines_tests sections trains (suc before) (time_on line) rest) ≡ None

pub lines_passed : (sections trains : List (List ℕ)) (before earliest : ℕ) (line : Line) (rest : List Line) → first_failing (lines_tests sections trains before earliest (line ∷ rest)) ≡ None → ArePassed sections trains before earliest line rest
lines_passed sections trains before earliest line rest h =
    by (first_failing (line_tests sections trains before earliest line)) refl (sym (lines_apart sections trains before earliest line rest) ∙ h)
  where
    others : Option Refusal
    others = first_failing (lines_tests sections trains (suc before) (time_on line) rest)

    by : (o : Option Refusal) → first_failing (line_tests sections trains before earliest line) ≡ o → option_or o others ≡ None → ArePassed sections trains before earliest line rest
    by None is none = record { none = is; first = line_passed sections trains before earliest line is; others = none }
    by (Some r) is none = absurd (cc)

-- the commands of lines that pass are few
pub commands_few : (sections trains : List (List ℕ)) (before earliest : ℕ) (ls : List Line) → before ≤ most Commands → first_failing (lines_tests sections trains before earliest ls) ≡ None → before + length (commands_on sections trains ls) ≤ most Commands
commands_few sections trains before earliest [] small h = omega arith
commands_few sections trains before earliest (line ∷ rest) small h =
    let p = lines_passed sections trains before earliest line rest h in
    let others = commands_few sections trains (suc before) (time_on line) rest (omega (arith, p.first.few)) p.others in
    let one = ap (λ (o : Option Command). length (cons_option o (commands_on sections trains rest))) (its_command p.first) in
    omega (arith, others, one)

-- an order by names that are names, with a priority up to 255
abbrev pub IsNamed : Option NamedOrder → Type 0
IsNamed None = Unit {0}
IsNamed (Some (Policy name)) = is_name name ≡ true
IsNamed (Some (Retire name)) = is_name name ≡ true
IsNamed (Some (Priority name n)) = nat_le n 255 ≡ true
IsNamed (Some other) = Unit {0}

named_by : (name : List ℕ) → is_name name ≡ true → (a b c d e f g : Bool) → IsNamed (cond a (Some (Policy name)) (cond b (Some (Retire name)) (cond c (Some (Close name)) (cond d (Some (Open name)) (cond e (Some (Stop name)) (cond f (Some (Go name)) (cond g (Some (Cancel name)) None)))))))
named_by name h true b c d e f g = h
named_by name h false true c d e f g = h
named_by name h false false true d e f g = tt
named_by name h false false false true e f g = tt
named_by name h false false false false true f g = tt
named_by name h false false false false false true g = tt
named_by name h false false false false false false true = tt
named_by name h false false false false false false false = tt

priority_by : (name : List ℕ) (n : ℕ) (verb digits small : Bool) → (small ≡ true → nat_le n 255 ≡ true) → IsNamed (cond (verb && (digits && small)) (Some (Priority name n)) None)
priority_by name n true true true h = h refl
priority_by name n true true false h = tt
priority_by name n true false small h = tt
priority_by name n false digits small h = tt

where_named : (b : Bool) (o : Option NamedOrder) → (b ≡ true → IsNamed o) → IsNamed (cond b o None)
where_named true o h = h refl
where_named false o h = tt

order_is_named : (words : List (List ℕ)) → IsNamed (named_order words)
order_is_named [] = tt
order_is_named (verb ∷ []) = tt
order_is_named (verb ∷ name ∷ []) = where_named (is_name name) _ (λ h. named_by name h _ _ _ _ _ _ _)
order_is_named (verb ∷ name ∷ number ∷ []) = where_named (is_name name) _ (λ h. priority_by name (value_of number) _ (is_decimal number) (nat_le (value_of number) 255) (λ small. small))
order_is_named (verb ∷ name ∷ number ∷ more ∷ words) = tt

-- a command by names that is one of a line
record IsSpelled (named : NamedCommand) : Type 0 where
  pub small : named.at ≤ most InputTime
  pub is_named : IsNamed (Some named.what)

spelled_by : (word : List ℕ) (at : Option ℕ) (what : Option NamedOrder) (named : NamedCommand) → IsInputTime word at → IsNamed what → commanded at what ≡ Some named → IsSpelled named
spelled_by word (Some at) (Some what) named time order is =
    let same : record { at = at; what = what } ≡ named = cc in
    subst IsSpelled same (record { small = time.0; is_named = order })
spelled_by word (Some at) None named time order is = absurd (cc)
spelled_by word None what named time order is = absurd (cc)

spelled : (words : List (List ℕ)) (named : NamedCommand) → named_command words ≡ Some named → IsSpelled named
spelled [] named is = absurd (cc)
spelled (word ∷ words) named is = spelled_by word (input_time word) (named_order words) named (input_time_spelled word) (order_is_named words) is

-- an order of what is known
module _ (plant : Plant) where
  found : (make : ℕ → Order) (names : List (List ℕ)) (name : List ℕ) (what : Order) (count : ℕ) → count ≡ length names → ((k : ℕ) → nat_lt k count ≡ true → is_order_in_range plant (make k) ≡ true)
      → (o : Option ℕ) → number_of_name names name ≡ o → option_map make o ≡ Some what → is_order_in_range plant what ≡ true
  found make names name what count same fine None is none = absurd (cc)
  found make names name what count same fine (Some k) is some =
      let e : make k ≡ what = cc in
      subst (λ (w : Order). is_order_in_range plant w ≡ true) e (fine k (lt-ltb k count (omega (arith, same, found_at (same_name name) names k is))))

  pub order_in_range : (sections trains_named : List (List ℕ)) → length plant.tables.sections ≡ length sections → trains plant ≡ length trains_named → (named : NamedOrder) (what : Order)
      → IsNamed (Some named) → order_of sections trains_named named ≡ Some what → is_order_in_range plant what ≡ true
  order_in_range sections trains_named xs ts (Policy name) what fine is = let e : order.Policy name ≡ what = cc in subst (λ (w : Order). is_order_in_range plant w ≡ true) e fine
  order_in_range sections trains_named xs ts (Retire name) what fine is = let e : order.Retire name ≡ what = cc in subst (λ (w : Order). is_order_in_range plant w ≡ true) e fine
  order_in_range sections trains_named xs ts (Close name) what fine is = found order.Close sections name what (length plant.tables.sections) xs (λ k h. h) (number_of_name sections name) refl is
  order_in_range sections trains_named xs ts (Open name) what fine is = found order.Reopen sections name what (length plant.tables.sections) xs (λ k h. h) (number_of_name sections name) refl is
  order_in_range sections trains_named xs ts (Stop name) what fine is = found order.Stop trains_named name what (trains plant) ts (λ k h. h) (number_of_name trains_named name) refl is
  order_in_range sections trains_named xs ts (Go name) what fine is = found order.Go trains_named name what (trains plant) ts (λ k h. h) (number_of_name trains_named name) refl is
  order_in_range sections trains_named xs ts (Cancel name) what fine is = found order.Cancel trains_named name what (trains plant) ts (λ k h. h) (number_of_name trains_named name) refl is
  order_in_range sections trains_named xs ts (Priority name n) what fine is = found (λ t. order.Priority t n) trains_named name what (trains plant) ts (λ k h. and_from (nat_lt k (trains plant)) (nat_le n 255) h fine) (number_of_name trains_named name) refl is

  -- the commands of lines that pass are in range
  pub commands_in_range : (sections trains_named : List (List ℕ)) → length plant.tables.sections ≡ length sections → trains plant ≡ length trains_named → (before earliest : ℕ) (ls : List Line)
      → first_failing (lines_tests sections trains_named before earliest ls) ≡ None → are_commands_in_range plant earliest (commands_on sections trains_named ls) ≡ true
  commands_in_range sections trains_named xs ts before earliest [] h = refl
  commands_in_range sections trains_named xs ts before earliest (line ∷ rest) h =
      let p = lines_passed sections trains_named before earliest line rest h in
      let f = p.first in
      let spells = spelled line.words f.named f.is_named in
      let others = commands_in_range sections trains_named xs ts (suc before) f.named.at rest (ap (λ (t : ℕ). first_failing (lines_tests sections trains_named (suc before) t rest)) (sym (its_time f)) ∙ p.others) in
      ap (λ (o : Option Command). are_commands_in_range plant earliest (cons_option o (commands_on sections trains_named rest))) (its_command f)
      ∙ and_from (nat_le earliest f.named.at && nat_le f.named.at (most InputTime) && is_order_in_range plant f.what) _
      (and_from (nat_le earliest f.named.at && nat_le f.named.at (most InputTime)) (is_order_in_range plant f.what)
      (and_from (nat_le earliest f.named.at) (nat_le f.named.at (most InputTime)) (le-leb earliest f.named.at f.later) (le-leb f.named.at (most InputTime) spells.small))
      (order_in_range sections trains_named xs ts f.named.what f.what spells.is_named f.is_what))
      others
