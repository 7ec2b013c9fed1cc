use Rattle.std.proofs.Common.{◌≡◌, ℕ, ◌<◌, List, [], ◌∷◌, length, get_or, set, ap, ◌∙◌, arith}
use Rattle.std.proofs.lemmas.List.{length-set}
use Rattle.rail_slots.specs.Slots.{Stands, StandsAt}
use Rattle.rail_tests_calls.proofs.chains.told.Goals.{After-put_first-ten, After-put_after-twenty, After-put_first}
use Rattle.rail_tests_calls.proofs.chains.told.Goals as goal

-- a slot of the first of two chains is in use
at_first : (chains : List (List (ℕ × ℕ))) (slot item : ℕ) (rest : List (ℕ × ℕ)) (others : List (List (ℕ × ℕ))) → chains ≡ ((slot, item) ∷ rest) ∷ others → StandsAt chains slot 0 [] item rest
at_first chains slot item rest others is = record { within = omega (arith, ap length is); is = ap (λ cs. get_or cs 0 []) is }

first_stands : (chains : List (List (ℕ × ℕ))) (slot item : ℕ) (rest : List (ℕ × ℕ)) (others : List (List (ℕ × ℕ))) → chains ≡ ((slot, item) ∷ rest) ∷ others → Stands chains slot
first_stands chains slot item rest others is = record { chain = 0; before = []; item = item; rest = rest; at = at_first chains slot item rest others is }

second_stands : (chains : List (List (ℕ × ℕ))) (first : ℕ × ℕ) (slot item : ℕ) (rest : List (ℕ × ℕ)) (others : List (List (ℕ × ℕ))) → chains ≡ (first ∷ (slot, item) ∷ rest) ∷ others → Stands chains slot
second_stands chains first slot item rest others is = record { chain = 0; before = first ∷ []; item = item; rest = rest; at = record { within = omega (arith, ap length is); is = ap (λ cs. get_or cs 0 []) is } }

-- the chains, call by call
one_in : (c : After-put_first-ten) → c.put_first-ten.new.self.chains ≡ ((c.put_first-ten.result, 10) ∷ []) ∷ [] ∷ []
one_in c = c.put_first-ten.ensures.chains ∙ ap (λ cs. set cs 0 ((c.put_first-ten.result, 10) ∷ get_or cs 0 [])) c.in_ok-slots.ensures.chains

two_in : (c : After-put_after-twenty) → c.put_after-twenty.new.self.chains ≡ ((c.put_first-ten.result, 10) ∷ (c.put_after-twenty.result, 20) ∷ []) ∷ [] ∷ []
two_in c =
    let ten = c.put_first-ten.result in
    let one = c.put_first-ten.ensures.chains ∙ ap (λ cs. set cs 0 ((ten, 10) ∷ get_or cs 0 [])) c.in_ok-slots.ensures.chains in
    c.put_after-twenty.ensures.chains 0 [] [] 10 (at_first _ ten 10 [] ([] ∷ []) one) ∙ ap (λ cs. set cs 0 ((ten, 10) ∷ (c.put_after-twenty.result, 20) ∷ [])) one

three_in : (c : After-put_first) → c.put_first.new.self.chains ≡ ((c.put_first-ten.result, 10) ∷ (c.put_after-twenty.result, 20) ∷ []) ∷ ((c.put_first.result, 1) ∷ []) ∷ []
three_in c =
    let ten = c.put_first-ten.result in
    let one = c.put_first-ten.ensures.chains ∙ ap (λ cs. set cs 0 ((ten, 10) ∷ get_or cs 0 [])) c.in_ok-slots.ensures.chains in
    let two = c.put_after-twenty.ensures.chains 0 [] [] 10 (at_first _ ten 10 [] ([] ∷ []) one) ∙ ap (λ cs. set cs 0 ((ten, 10) ∷ (c.put_after-twenty.result, 20) ∷ [])) one in
    c.put_first.ensures.chains ∙ ap (λ cs. set cs 1 ((c.put_first.result, 1) ∷ get_or cs 1 [])) two

pub put_after-twenty-requires-clause-slot : goal.put_after-twenty-requires-clause-slot
put_after-twenty-requires-clause-slot c = first_stands _ c.put_first-ten.result 10 [] _ (one_in (goal.at.put_after-twenty-requires-clause-slot c).After-put_first-ten)

pub put_first-requires-clause-chain : goal.put_first-requires-clause-chain
put_first-requires-clause-chain c = omega (arith, ap length (two_in (goal.at.put_first-requires-clause-chain c).After-put_after-twenty))

pub first-requires-2 : goal.first-requires-2
first-requires-2 c = omega (arith, ap length (three_in (goal.at.first-requires-2 c).After-put_first))

pub item-item-requires : goal.item-item-requires
item-item-requires c = second_stands _ (c.put_first-ten.result, 10) c.put_after-twenty.result 20 [] _ (three_in (goal.at.item-item-requires c).After-put_first)

pub next-requires : goal.next-requires
next-requires c = first_stands _ c.put_first-ten.result 10 _ _ (three_in (goal.at.next-requires c).After-put_first)

pub next-requires-2 : goal.next-requires-2
next-requires-2 c = second_stands _ (c.put_first-ten.result, 10) c.put_after-twenty.result 20 [] _ (c.next.ensures.chains ∙ three_in (goal.at.next-requires-2 c).After-put_first)

pub take_after-second-requires : goal.take_after-second-requires
take_after-second-requires c = first_stands _ c.put_first-ten.result 10 _ _ (c.next-2.ensures.chains ∙ c.next.ensures.chains ∙ three_in (goal.at.take_after-second-requires c).After-put_first)

pub take_first-first-requires : goal.take_first-first-requires
take_first-first-requires c =
    let three = c.next-2.ensures.chains ∙ c.next.ensures.chains ∙ three_in (goal.at.take_first-first-requires c).After-put_first in
    let left : length c.take_after-second.new.self.chains ≡ length c.next-2.new.self.chains = ap length (c.take_after-second.ensures.chains 0 [] _ 10 (at_first _ c.put_first-ten.result 10 _ _ three)) ∙ length-set _ _ _ in
    omega (arith, left, ap length three)

pub take_first-none-requires : goal.take_first-none-requires
take_first-none-requires c =
    let three = c.next-2.ensures.chains ∙ c.next.ensures.chains ∙ three_in (goal.at.take_first-none-requires c).After-put_first in
    let left : length c.take_after-second.new.self.chains ≡ length c.next-2.new.self.chains = ap length (c.take_after-second.ensures.chains 0 [] _ 10 (at_first _ c.put_first-ten.result 10 _ _ three)) ∙ length-set _ _ _ in
    let first : length c.take_first-first.new.self.chains ≡ length c.take_after-second.new.self.chains = ap length c.take_first-first.ensures.chains ∙ length-set _ _ _ in
    omega (arith, first, left, ap length three)

pub take_first-other-requires : goal.take_first-other-requires
take_first-other-requires c =
    let three = c.next-2.ensures.chains ∙ c.next.ensures.chains ∙ three_in (goal.at.take_first-other-requires c).After-put_first in
    let left : length c.take_after-second.new.self.chains ≡ length c.next-2.new.self.chains = ap length (c.take_after-second.ensures.chains 0 [] _ 10 (at_first _ c.put_first-ten.result 10 _ _ three)) ∙ length-set _ _ _ in
    let first : length c.take_first-first.new.self.chains ≡ length c.take_after-second.new.self.chains = ap length c.take_first-first.ensures.chains ∙ length-set _ _ _ in
    let second : length c.take_first-none.new.self.chains ≡ length c.take_first-first.new.self.chains = ap length c.take_first-none.ensures.chains ∙ length-set _ _ _ in
    omega (arith, second, first, left, ap length three)
