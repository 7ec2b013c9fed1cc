-- What tables that are planned say of their sections, trains and moves.
use Rattle.std.proofs.Common.{◌≡◌, ℕ, suc, ◌+◌, ◌*◌, ◌<◌, ◌≤◌, true, ltb, List, [], ◌∷◌, length, get_or, drop, sym, ap, ◌∙◌, arith}
use Rattle.std.specs.List.{list_all}
use Rattle.std.proofs.lemmas.Bool.{and_parts, ltb-true}
use Rattle.std.proofs.lemmas.List.{drop_more, get_or_read}
use Rattle.std.proofs.lemmas.List.Folds.{list_all-append}
use Rattle.std.proofs.lemmas.List.Sums.{sum_by-cons}
use Rattle.rail_base.specs.declared.limits.TheConstants.{SECTION_LENGTH}
use Rattle.rail_base.specs.declared.plant.Tables.{Tables}
use Rattle.rail_base.specs.declared.plant.MoveRow.{MoveRow}
use Rattle.rail_rules.specs.Numbers.{sum_below}
use Rattle.rail_rules.specs.Plant.{Plant, section}
use Rattle.rail_rules.specs.Accepted.{is_move_in_range}
use Rattle.rail_rules.proofs.CallerLemmas.{list_all_get, move_in_range, section_in_range}
use Rattle.rail_plan.specs.PlanFaults.{IsPlannable, bare, metres_of}

-- a section is no longer than the limit
pub section_short : (tables : Tables) → IsPlannable tables → (x : ℕ) → x < length tables.sections → (section (bare tables) x).length ≤ SECTION_LENGTH
section_short tables h x lt = (section_in_range (bare tables) h.sections x lt).length

pub metres-cons : (plant : Plant) (x : ℕ) (xs : List ℕ) → metres_of plant (x ∷ xs) ≡ (section plant x).length + metres_of plant xs
metres-cons plant x xs = sum_by-cons (λ y. (section plant y).length) x xs

-- so is the sum of so many
pub metres_bound : (tables : Tables) → IsPlannable tables → (xs : List ℕ) → list_all (λ x. ltb x (length tables.sections)) xs ≡ true → metres_of (bare tables) xs ≤ length xs * SECTION_LENGTH
metres_bound tables h [] known = omega arith
metres_bound tables h (x ∷ xs) known =
    let parts = and_parts (ltb x (length tables.sections)) (list_all (λ y. ltb y (length tables.sections)) xs) known in
    omega (arith, metres-cons (bare tables) x xs, section_short tables h x (ltb-true x (length tables.sections) parts.0), metres_bound tables h xs parts.1)

-- one section of a route
pub metres_more : (plant : Plant) (xs : List ℕ) (i x : ℕ) → i < length xs → x ≡ get_or xs i x → metres_of plant (drop i xs) ≡ (section plant x).length + metres_of plant (drop (i + 1) xs)
metres_more plant xs i x lt is =
    let step : drop i xs ≡ x ∷ drop (i + 1) xs = drop_more xs i x lt ∙ ap (λ y. y ∷ drop (i + 1) xs) (sym is) in
    ap (metres_of plant) step ∙ metres-cons plant x (drop (i + 1) xs)

-- what the code reads of a list at an index
pub item_read : {X : Type 0} (rows xs : List X) (k i : ℕ) (x d : X) → rows ≡ xs → k ≡ i → i < length xs → x ≡ get_or rows k x → x ≡ get_or xs i d
item_read rows xs k i x d same at lt is =
    get_or_read rows k x (omega (arith, ap length same)) is d ∙ ap (λ ys. get_or ys k d) same ∙ ap (λ n. get_or xs n d) at

-- an item of a list of known sections is known
pub known_at : (n : ℕ) (xs : List ℕ) (i x : ℕ) → list_all (λ y. ltb y n) xs ≡ true → i < length xs → x ≡ get_or xs i x → x < n
known_at n xs i x all lt is = omega (arith, ltb-true (get_or xs i x) n (list_all_get (λ y. ltb y n) xs i x all lt))

-- the needed sections of a move are known
known_steps : (n : ℕ) (row : MoveRow) → is_move_in_range n row ≡ true → list_all (λ y. ltb y n) row.sections ≡ true
known_steps n row fine =
    (and_parts (list_all (λ y. ltb y n) row.sections) (list_all (λ y. ltb y n) row.overlap) (sym (list_all-append (λ y. ltb y n) row.sections row.overlap) ∙ (move_in_range n row fine).known)).0

-- what a loop over the sections of a move knows at one of them: the section is known, it is the first of the rest, and the sum up to it stays within the bound
pub record IsAtSection (tables : Tables) (row : MoveRow) (i x : ℕ) : Type 0 where
  pub known : x < length tables.sections
  pub more : metres_of (bare tables) (drop i row.sections) ≡ (section (bare tables) x).length + metres_of (bare tables) (drop (i + 1) row.sections)
  pub bound : metres_of (bare tables) row.sections ≤ 3200000
  pub within : i < length row.sections
  pub is : x ≡ get_or row.sections i x

pub at_section : (tables : Tables) → IsPlannable tables → (row : MoveRow) → is_move_in_range (length tables.sections) row ≡ true → (xs : List ℕ) (i x : ℕ) → xs ≡ row.sections → i < length xs → x ≡ get_or xs i x → IsAtSection tables row i x
at_section tables h row fine xs i x same lt is =
    let facts = move_in_range (length tables.sections) row fine in
    let here : i < length row.sections = omega (arith, ap length same) in
    let item : x ≡ get_or row.sections i x = is ∙ ap (λ ys. get_or ys i x) same in
    record {
      known = known_at (length tables.sections) row.sections i x (known_steps (length tables.sections) row fine) here item;
      more = metres_more (bare tables) row.sections i x here item;
      bound = omega (arith, metres_bound tables h row.sections (known_steps (length tables.sections) row fine), facts.few_steps);
      within = here;
      is = item;
    }

-- one line more in a sum
pub sum_more : (f : ℕ → ℕ) (i lines more : ℕ) → lines ≡ sum_below f i → more ≡ f i → lines + more ≡ sum_below f (i + 1)
sum_more f i lines more before here =
    let next : suc i ≡ i + 1 = omega arith in
    let sum : lines + more ≡ sum_below f i + f i = omega (arith, before, here) in
    sum ∙ ap (sum_below f) next
