-- By which key each kind of policy chooses among the offers.
use Rattle.std.specs.Prelude.{ℕ, ◌+◌, ◌-◌, ◌%◌, Bool, List, [], ◌∷◌}
use Rattle.rail_base.specs.declared.orders.PolicyKind.{PolicyKind}
use Rattle.rail_base.specs.declared.orders.PolicyKind.TheVariants.{Priority, Timetable, Fcfs, Rotating, Custom}
use Rattle.rail_rules.specs.Numbers.{comes_before}
use Rattle.rail_policy.specs.declared.offer.Offer.{Offer}

-- the key of an offer by a policy of this kind with this mark: the least one is chosen
abbrev pub offer_key : PolicyKind → ℕ → Offer → List ℕ
offer_key Priority mark offer = offer.priority ∷ offer.entry ∷ offer.train ∷ []
offer_key Timetable mark offer = offer.due ∷ offer.train ∷ []
offer_key Fcfs mark offer = offer.ready ∷ offer.train ∷ []
offer_key Rotating mark offer = (offer.train + 65536 - mark) % 65536 ∷ []
offer_key Custom mark offer = []

-- the first offer goes before the second: its key is less
abbrev pub goes_before : PolicyKind → ℕ → Offer → Offer → Bool
goes_before kind mark first second = comes_before (offer_key kind mark first) (offer_key kind mark second)
