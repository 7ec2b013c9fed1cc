-- Commands by names, as lines spell them.
use Rattle.std.specs.Prelude.{ℕ, ◌&&◌, Bool, cond, nat_le, List, [], ◌∷◌, codes, Option, Some, None}
use Rattle.std.specs.Option.{option_map}
use Rattle.rail_base.specs.NameForms.{is_name}
use Rattle.rail_base.specs.declared.orders.Order.{Order}
use Rattle.rail_base.specs.declared.orders.Order.TheVariants as order
use Rattle.rail_rules.specs.Numbers.{same_numbers}
use Rattle.rail_command_file.specs.declared.orders.NamedOrder.{NamedOrder}
use Rattle.rail_command_file.specs.declared.orders.NamedOrder.TheVariants.{Policy, Retire, Close, Open, Stop, Go, Cancel, Priority}
use Rattle.rail_command_file.specs.declared.orders.NamedCommand.{NamedCommand}
use Rattle.rail_text.specs.Decimals.{is_decimal, value_of}
use Rattle.rail_text.specs.Lines.{number_of_name}
use Rattle.rail_text.specs.Times.{input_time}

-- the orders of a verb and a name
abbrev pub order_named : List ℕ → List ℕ → Option NamedOrder
order_named verb name =
    cond (same_numbers verb (codes "policy")) (Some (Policy name))
    (cond (same_numbers verb (codes "retire")) (Some (Retire name))
    (cond (same_numbers verb (codes "close")) (Some (Close name))
    (cond (same_numbers verb (codes "open")) (Some (Open name))
    (cond (same_numbers verb (codes "stop")) (Some (Stop name))
    (cond (same_numbers verb (codes "go")) (Some (Go name))
    (cond (same_numbers verb (codes "cancel")) (Some (Cancel name)) None))))))

-- a priority is a number from 0 to 255
abbrev pub is_priority : List ℕ → Bool
is_priority word = is_decimal word && nat_le (value_of word) 255

-- the order of a verb, a name and a number
abbrev pub priority_named : List ℕ → List ℕ → List ℕ → Option NamedOrder
priority_named verb name number =
    cond (same_numbers verb (codes "priority") && is_priority number) (Some (Priority name (value_of number))) None

-- the order that words spell
abbrev pub named_order : List (List ℕ) → Option NamedOrder
named_order (verb ∷ name ∷ []) = cond (is_name name) (order_named verb name) None
named_order (verb ∷ name ∷ number ∷ []) = cond (is_name name) (priority_named verb name number) None
named_order _ = None

-- a command, where there are a time and an order
abbrev pub commanded : Option ℕ → Option NamedOrder → Option NamedCommand
commanded (Some at) (Some what) = Some (record { at = at; what = what })
commanded _ _ = None

-- the command that the words of a line spell, a time and an order; none where they are not of a command's form
abbrev pub named_command : List (List ℕ) → Option NamedCommand
named_command (time ∷ words) = commanded (input_time time) (named_order words)
named_command _ = None

-- the order, where a section or train has the name; the name of a policy is not looked up
abbrev pub order_of : List (List ℕ) → List (List ℕ) → NamedOrder → Option Order
order_of sections trains (Policy name) = Some (order.Policy name)
order_of sections trains (Retire name) = Some (order.Retire name)
order_of sections trains (Close name) = option_map order.Close (number_of_name sections name)
order_of sections trains (Open name) = option_map order.Reopen (number_of_name sections name)
order_of sections trains (Stop name) = option_map order.Stop (number_of_name trains name)
order_of sections trains (Go name) = option_map order.Go (number_of_name trains name)
order_of sections trains (Cancel name) = option_map order.Cancel (number_of_name trains name)
order_of sections trains (Priority name n) = option_map (λ t. order.Priority t n) (number_of_name trains name)
