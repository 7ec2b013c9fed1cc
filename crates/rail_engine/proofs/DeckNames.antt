-- Whose names are left at the desk: those of the deck without the retired ones, in the order of the deck.
use Rattle.std.proofs.Common.{◌≡◌, ◌≢◌, ℕ, zero, suc, ◌<◌, Bool, true, false, not, cond, ◌&&◌, ◌||◌, List, [], ◌∷◌, length, get_or, refl, sym, ap, ◌∙◌, subst, arith}
use Rattle.std.specs.Cmp.Lexicographic.{bytes_decides}
use Rattle.std.specs.List.{AllPairs, filter, list_any, remove}
use Rattle.std.proofs.lemmas.Bool.{and_parts, false_from_ne_true}
use Rattle.std.proofs.lemmas.List.Elements.{filter_agree}
use Rattle.std.proofs.lemmas.List.Folds.{list_any_at}
use Rattle.rail_base.specs.declared.orders.Order.{Order}
use Rattle.rail_base.specs.declared.orders.Order.TheVariants.{Retire}
use Rattle.rail_rules.specs.Numbers.{same_numbers}
use Rattle.rail_rules.specs.Orders.{is_in_deck, is_retired}
use Rattle.rail_policy.specs.Seats.{DeskSeat, is_named, names_of, no_seat, seat_at}

-- where each element passes, a filter keeps all
filter_all : {X : Type 0} (p : X → Bool) (xs : List X) → ((k : ℕ) (d : X) → k < length xs → p (get_or xs k d) ≡ true) → filter p xs ≡ xs
filter_all p [] all = refl
filter_all p (x ∷ rest) all =
    ap (λ (b : Bool). cond b (x ∷ filter p rest) (filter p rest)) (all 0 x (omega arith))
    ∙ ap (λ l. x ∷ l) (filter_all p rest (λ k d lt. all (suc k) d (omega (arith, lt))))

-- a filter by two tests is one behind the other
filter_both : {X : Type 0} (p q : X → Bool) (xs : List X) → filter (λ x. p x && q x) xs ≡ filter q (filter p xs)
filter_both p q [] = refl
filter_both p q (x ∷ rest) = at_first (p x) (filter_both p q rest)
  where
    at_first : (b : Bool) → filter (λ y. p y && q y) rest ≡ filter q (filter p rest)
        → cond (b && q x) (x ∷ filter (λ y. p y && q y) rest) (filter (λ y. p y && q y) rest) ≡ filter q (cond b (x ∷ filter p rest) (filter p rest))
    at_first true behind = ap (λ l. cond (q x) (x ∷ l) l) behind
    at_first false behind = behind

-- the names of the seats without one are those of the others, where no two seats have one name
pub names_without : (seats : List DeskSeat) (index : ℕ) (name : List ℕ) → index < length seats → (seat_at seats index).name ≡ name
    → AllPairs (λ (first second : DeskSeat). first.name ≢ second.name) seats
    → filter (λ other. not (same_numbers name other)) (names_of seats) ≡ names_of (remove seats index)
names_without [] index name lt named apart = absurd (omega (arith, lt))
names_without (seat ∷ rest) zero name lt named apart =
    ap (λ b. cond (not b) (seat.name ∷ filter (λ other. not (same_numbers name other)) (names_of rest)) (filter (λ other. not (same_numbers name other)) (names_of rest)))
    ((bytes_decides name seat.name).1 (sym named))
    ∙ others rest (λ k d inside same. apart 0 (suc k) d (omega arith) (omega (arith, inside)) (named ∙ same))
  where
    others : (behind : List DeskSeat) → ((k : ℕ) (d : DeskSeat) → k < length behind → name ≢ (get_or behind k d).name)
        → filter (λ other. not (same_numbers name other)) (names_of behind) ≡ names_of behind
    others [] far = refl
    others (next ∷ behind) far =
        ap (λ b. cond (not b) (next.name ∷ filter (λ other. not (same_numbers name other)) (names_of behind)) (filter (λ other. not (same_numbers name other)) (names_of behind)))
        (false_from_ne_true (same_numbers name next.name) (λ same. far 0 next (omega arith) ((bytes_decides name next.name).0 same)))
        ∙ ap (λ l. next.name ∷ l) (others behind (λ k d inside. far (suc k) d (omega (arith, inside))))
names_without (seat ∷ rest) (suc index) name lt named apart =
    ap (λ b. cond (not b) (seat.name ∷ filter (λ other. not (same_numbers name other)) (names_of rest)) (filter (λ other. not (same_numbers name other)) (names_of rest)))
    (false_from_ne_true (same_numbers name seat.name) (λ same. apart 0 (suc index) no_seat (omega arith) lt (sym ((bytes_decides name seat.name).0 same) ∙ sym named)))
    ∙ ap (λ l. seat.name ∷ l) (names_without rest index name (omega (arith, lt)) named (λ i j d below inside. apart (suc i) (suc j) d (omega (arith, below)) (omega (arith, inside))))

-- the names that are left once one more is retired
pub names_retired : (deck : List (List ℕ)) (name : List ℕ) (orders : List Order)
    → filter (λ other. is_in_deck deck other (Retire name ∷ orders)) deck ≡ filter (λ other. not (same_numbers name other)) (filter (λ other. is_in_deck deck other orders) deck)
names_retired deck name orders =
    filter_agree (λ other. is_in_deck deck other (Retire name ∷ orders)) (λ other. is_in_deck deck other orders && not (same_numbers name other))
    (λ other. swapped (list_any (same_numbers other) deck) (same_numbers name other) (is_retired other orders)) deck
    ∙ filter_both (λ other. is_in_deck deck other orders) (λ other. not (same_numbers name other)) deck
  where
    swapped : (a b c : Bool) → (a && not (b || c)) ≡ ((a && not c) && not b)
    swapped false b c = refl
    swapped true false false = refl
    swapped true false true = refl
    swapped true true false = refl
    swapped true true true = refl

-- before any order all names of the deck are left
pub names_at_first : (deck : List (List ℕ)) → deck ≡ filter (λ name. is_in_deck deck name []) deck
names_at_first deck = sym (filter_all (λ name. is_in_deck deck name []) deck (λ k d lt. kept (list_any (same_numbers (get_or deck k d)) deck) (found deck k d lt)))
  where
    kept : (b : Bool) → b ≡ true → (b && not false) ≡ true
    kept b is = ap (λ c. c && true) is

    found : (names : List (List ℕ)) (k : ℕ) (d : List ℕ) → k < length names → list_any (same_numbers (get_or names k d)) names ≡ true
    found names k d lt = list_any_at (same_numbers (get_or names k d)) names k d lt ((bytes_decides (get_or names k d) (get_or names k d)).1 refl)

-- a name that passes is among those that are kept
kept_first : (name first : List ℕ) (p : List ℕ → Bool) (rest : List (List ℕ)) (b : Bool) → same_numbers name first ≡ b → p name ≡ true
    → (list_any (same_numbers name) rest ≡ true → list_any (same_numbers name) (filter p rest) ≡ true)
    → (b || list_any (same_numbers name) rest) ≡ true → list_any (same_numbers name) (cond (p first) (first ∷ filter p rest) (filter p rest)) ≡ true
kept_first name first p rest true same passes behind there =
    subst (λ (b : Bool). list_any (same_numbers name) (cond b (first ∷ filter p rest) (filter p rest)) ≡ true)
    (sym (ap p (sym ((bytes_decides name first).0 same)) ∙ passes))
    (ap (λ (b : Bool). b || list_any (same_numbers name) (filter p rest)) same)
kept_first name first p rest false same passes behind there = either (p first)
  where
    either : (b : Bool) → list_any (same_numbers name) (cond b (first ∷ filter p rest) (filter p rest)) ≡ true
    either true = ap (λ (c : Bool). c || list_any (same_numbers name) (filter p rest)) same ∙ behind there
    either false = behind there

kept_name : (name : List ℕ) (p : List ℕ → Bool) → p name ≡ true → (names : List (List ℕ))
    → list_any (same_numbers name) names ≡ true → list_any (same_numbers name) (filter p names) ≡ true
kept_name name p passes [] there = there
kept_name name p passes (first ∷ rest) there = kept_first name first p rest (same_numbers name first) refl passes (kept_name name p passes rest) there

-- a name among those of the seats is that of a seat
seat_first : (name : List ℕ) (seat : DeskSeat) (rest : List DeskSeat) (b : Bool) → same_numbers name seat.name ≡ b
    → (list_any (same_numbers name) (names_of rest) ≡ true → list_any (is_named name) rest ≡ true)
    → (b || list_any (same_numbers name) (names_of rest)) ≡ true → list_any (is_named name) (seat ∷ rest) ≡ true
seat_first name seat rest true same behind there =
    ap (λ (b : Bool). b || list_any (is_named name) rest) ((bytes_decides seat.name name).1 (sym ((bytes_decides name seat.name).0 same)))
seat_first name seat rest false same behind there = or_right (is_named name seat) (list_any (is_named name) rest) (behind there)
  where
    or_right : (b c : Bool) → c ≡ true → (b || c) ≡ true
    or_right true c is = refl
    or_right false c is = is

seat_named : (name : List ℕ) (seats : List DeskSeat) → list_any (same_numbers name) (names_of seats) ≡ true → list_any (is_named name) seats ≡ true
seat_named name [] there = there
seat_named name (seat ∷ rest) there = seat_first name seat rest (same_numbers name seat.name) refl (seat_named name rest) there

-- a policy of the deck that was not retired has a seat
pub seat_left : (deck : List (List ℕ)) (orders : List Order) (seats : List DeskSeat) (name : List ℕ) → names_of seats ≡ filter (λ other. is_in_deck deck other orders) deck
    → is_in_deck deck name orders ≡ true → list_any (is_named name) seats ≡ true
seat_left deck orders seats name names in_deck =
    seat_named name seats (ap (list_any (same_numbers name)) names
    ∙ kept_name name (λ other. is_in_deck deck other orders) in_deck deck (and_parts (list_any (same_numbers name) deck) (not (is_retired name orders)) in_deck).0)
