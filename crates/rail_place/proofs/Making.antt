-- Places that were made for moves: what they tell, and what a move of one train changes.
use Rattle.std.proofs.Common.{◌≡◌, ◌≢◌, ◌↔◌, ℕ, suc, ◌<◌, ◌≤◌, ◌^◌, true, false, not, ltb, List, [], ◌∷◌, length, get_or, set, Option, Some, None, refl, sym, ap, ◌∙◌, subst, ⊎_elim, arith}
use Rattle.std.proofs.lemmas.Bool.{and_parts, and_from, or_parts, or_from, cases_lt, cases_eq, cases_Bool, false≢true, ltb-true, lt-ltb, not-true, not_from_false, cond-true, cond-false}
use Rattle.std.proofs.lemmas.List.{get_or-set_same, get_or-set_other, get_or_read, length-set, get_or_past}
use Rattle.std.proofs.lemmas.Option.{none-some, same_Some}
use Rattle.std.specs.List.{list_any}
use Rattle.rail_base.specs.declared.limits.TheConstants.{SECTIONS}
use Rattle.rail_rules.specs.Numbers.{or_else, is_in, are_apart}
use Rattle.rail_rules.specs.Moves.{Moves, stand, is_valid}
use Rattle.rail_rules.specs.Places.{place_of, holds, has_holder, is_legal, is_valid_state}
use Rattle.rail_rules.proofs.CallerLemmas.{any_below_at, list_any_at, apart_at, apart_from, state_parts, state_from_parts, stand_needed}
use Rattle.rail_place.specs.declared.barring.Barred.{Barred}
use Rattle.rail_place.specs.declared.barring.Barred.TheVariants.{Out, Held}
use Rattle.rail_place.specs.Tables.{moves_in, MoveLists}
use Rattle.rail_place.specs.PlaceStates.{State, IsMadeFor}
use Rattle.rail_place.specs.Owners.{given, first_owned_in}
use Rattle.rail_place.specs.Bars.{holder_of, barred_by, first_taken, bar_of}
use Rattle.rail_place.proofs.Tables.{stand_in_range}
use Rattle.rail_place.proofs.Giving.{length-given, given-other, given-named}
use Rattle.rail_place.proofs.Firsts.{first_below_nothing, first_below_at, first_below_any}

-- a number that no train has stands nowhere
pub holds_past : (plan : Moves) (s : List ℕ) (u x : ℕ) → length s ≤ u → holds plan s u x ≡ false
holds_past plan s u x past = ap (λ p. is_in x (stand plan u p)) (get_or_past s u 0 past)

pub holder_listed : (plan : Moves) (s : List ℕ) (u x : ℕ) → holds plan s u x ≡ true → u < length s
holder_listed plan s u x is = ⊎_elim (λ lt. lt) (λ past. absurd (false≢true (sym (holds_past plan s u x past) ∙ is))) (cases_lt u (length s))

abbrev pub Told : Moves → List ℕ → List (Option ℕ) → Type 0
Told plan s owners = (x u : ℕ) → (get_or owners x None ≡ Some u) ↔ (holds plan s u x ≡ true)

-- two trains never hold one section
pub one_holder : (plan : Moves) (s : List ℕ) (owners : List (Option ℕ)) (x u v : ℕ) → Told plan s owners → holds plan s u x ≡ true → holds plan s v x ≡ true → u ≡ v
one_holder plan s owners x u v told a b = same_Some u v (sym ((told x u).1 a) ∙ (told x v).1 b)

holder_is : (plan : Moves) (s : List ℕ) (owners : List (Option ℕ)) (x : ℕ) (o : Option ℕ) → Told plan s owners → get_or owners x None ≡ o → o ≡ holder_of plan s x
holder_is plan s owners x None told e =
    sym (first_below_nothing (λ u. holds plan s u x) (length s) (λ u lt.
    ⊎_elim (λ is. absurd (none-some u (sym e ∙ (told x u).1 is))) (λ out. out) (cases_Bool (holds plan s u x))))
holder_is plan s owners x (Some u) told e =
    let is : holds plan s u x ≡ true = (told x u).0 e in
    sym (first_below_at (λ v. holds plan s v x) (length s) u (holder_listed plan s u x is) is (λ v lt.
    ⊎_elim
    (λ other. let same : v ≡ u = one_holder plan s owners x v u told other is in absurd (omega arith))
    (λ out. out)
    (cases_Bool (holds plan s v x))))

-- the table's owner is the holder
pub owner_is : (plan : Moves) (s : List ℕ) (owners : List (Option ℕ)) (x : ℕ) → Told plan s owners → get_or owners x None ≡ holder_of plan s x
owner_is plan s owners x told = holder_is plan s owners x (get_or owners x None) told refl

pub first_owned-taken : (plan : Moves) (s : List ℕ) (owners : List (Option ℕ)) (xs : List ℕ) → Told plan s owners → first_owned_in owners xs ≡ first_taken plan s xs
first_owned-taken plan s owners [] told = refl
first_owned-taken plan s owners (x ∷ xs) told =
    ap (λ o. or_else (barred_by x o) (first_owned_in owners xs)) (owner_is plan s owners x told)
    ∙ ap (λ o. or_else (barred_by x (holder_of plan s x)) o) (first_owned-taken plan s owners xs told)

-- nobody holds the section where there is no first holder
holder_none : (plan : Moves) (s : List ℕ) (x : ℕ) (o rest : Option Barred) (h : Option ℕ) → holder_of plan s x ≡ h → or_else (barred_by x h) rest ≡ None → (has_holder plan s x ≡ false) × (rest ≡ None)
holder_none plan s x o rest None e h = (first_below_any (λ u. holds plan s u x) (length s) e, h)
holder_none plan s x o rest (Some u) e h = absurd (none-some (Held x u) (sym h))

pub untaken_from_none : (plan : Moves) (s xs : List ℕ) → first_taken plan s xs ≡ None → list_any (has_holder plan s) xs ≡ false
untaken_from_none plan s [] h = refl
untaken_from_none plan s (x ∷ xs) h =
    let parts = holder_none plan s x None (first_taken plan s xs) (holder_of plan s x) refl h in
    or_from (has_holder plan s x) (list_any (has_holder plan s) xs) parts.0 (untaken_from_none plan s xs parts.1)

pub none_from_untaken : (plan : Moves) (s xs : List ℕ) → list_any (has_holder plan s) xs ≡ false → first_taken plan s xs ≡ None
none_from_untaken plan s [] h = refl
none_from_untaken plan s (x ∷ xs) h =
    let parts = or_parts (has_holder plan s x) (list_any (has_holder plan s) xs) h in
    let nobody : holder_of plan s x ≡ None = first_below_nothing (λ u. holds plan s u x) (length s) (λ u lt. any_below_at (λ v. holds plan s v x) (length s) u parts.0 lt) in
    ap (λ o. or_else (barred_by x o) (first_taken plan s xs)) nobody ∙ none_from_untaken plan s xs parts.1

-- a move is legal exactly where nothing bars it
pub legal_from_none : (plan : Moves) (s : List ℕ) (t : ℕ) → bar_of plan s t ≡ None → is_legal plan s t ≡ true
legal_from_none plan s t h =
    let xs : List ℕ = plan.claim t (place_of s t) in
    let rest : Option Barred = first_taken plan s xs in
    ⊎_elim
    (λ more.
    let none : rest ≡ None = sym (cond-true (ltb (place_of s t) (plan.moves t)) rest (Some Out) more) ∙ h in
    and_from (ltb (place_of s t) (plan.moves t)) (not (list_any (has_holder plan s) xs)) more (not_from_false (list_any (has_holder plan s) xs) (untaken_from_none plan s xs none)))
    (λ out. absurd (none-some Out (sym h ∙ cond-false (ltb (place_of s t) (plan.moves t)) rest (Some Out) out)))
    (cases_Bool (ltb (place_of s t) (plan.moves t)))

pub none_from_legal : (plan : Moves) (s : List ℕ) (t : ℕ) → is_legal plan s t ≡ true → bar_of plan s t ≡ None
none_from_legal plan s t h =
    let xs : List ℕ = plan.claim t (place_of s t) in
    let parts = and_parts (ltb (place_of s t) (plan.moves t)) (not (list_any (has_holder plan s) xs)) h in
    cond-true (ltb (place_of s t) (plan.moves t)) (first_taken plan s xs) (Some Out) parts.0
    ∙ none_from_untaken plan s xs (not-true (list_any (has_holder plan s) xs) parts.1)

pub legal_ahead : (plan : Moves) (s : List ℕ) (t : ℕ) → is_legal plan s t ≡ true → place_of s t < plan.moves t
legal_ahead plan s t h =
    let parts = and_parts (ltb (place_of s t) (plan.moves t)) (not (list_any (has_holder plan s) (plan.claim t (place_of s t)))) h in
    ltb-true (place_of s t) (plan.moves t) parts.0

-- nobody holds a section that a legal move needs
pub legal_free : (plan : Moves) (s : List ℕ) (t x u : ℕ) → is_legal plan s t ≡ true → is_in x (plan.claim t (place_of s t)) ≡ true → holds plan s u x ≡ false
legal_free plan s t x u h is =
    let parts = and_parts (ltb (place_of s t) (plan.moves t)) (not (list_any (has_holder plan s) (plan.claim t (place_of s t)))) h in
    let nobody = list_any_at (has_holder plan s) (plan.claim t (place_of s t)) x (not-true (list_any (has_holder plan s) (plan.claim t (place_of s t))) parts.1) is in
    ⊎_elim
    (λ lt. any_below_at (λ v. holds plan s v x) (length s) u nobody lt)
    (λ past. holds_past plan s u x past)
    (cases_lt u (length s))

-- so the standing set after it is apart from all others
pub legal_apart : (plan : Moves) (s : List ℕ) (t u : ℕ) → is_valid plan ≡ true → t < plan.trains → is_legal plan s t ≡ true → are_apart (stand plan t (suc (place_of s t))) (stand plan u (place_of s u)) ≡ true
legal_apart plan s t u valid lt legal =
    apart_from (stand plan t (suc (place_of s t))) (stand plan u (place_of s u)) (λ x is.
    legal_free plan s t x u legal (stand_needed plan t (place_of s t) x valid lt is))

-- the owners after the train went from its place to another
abbrev pub owners_moved : Moves → List ℕ → List (Option ℕ) → ℕ → ℕ → List (Option ℕ)
owners_moved plan s owners t p = given (given owners (stand plan t (place_of s t)) None) (stand plan t p) (Some t)

told_moved : (plan : Moves) (s : List ℕ) (owners : List (Option ℕ)) (t p n : ℕ) → Told plan s owners
    → t < length s → n ≡ length owners → ((q x : ℕ) → is_in x (stand plan t q) ≡ true → x < n)
    → ((u x : ℕ) → u ≢ t → is_in x (stand plan t p) ≡ true → holds plan s u x ≡ false)
    → Told plan (set s t p) (owners_moved plan s owners t p)
told_moved plan s owners t p n told lt size range free =
    λ x u.
    let old : List ℕ = stand plan t (place_of s t) in
    let new : List ℕ = stand plan t p in
    let freed : List (Option ℕ) = given owners old None in
    let here : place_of (set s t p) t ≡ p = get_or-set_same s t p 0 lt in
    let mine : holds plan (set s t p) t x ≡ is_in x new = ap (λ q. is_in x (stand plan t q)) here in
    let theirs : u ≢ t → holds plan (set s t p) u x ≡ holds plan s u x = λ ne. ap (λ q. is_in x (stand plan u q)) (get_or-set_other s t u p 0 ne) in
    let goal : Type 0 = (get_or (given freed new (Some t)) x None ≡ Some u) ↔ (holds plan (set s t p) u x ≡ true) in
    let in_case : is_in x new ≡ true → goal = λ is.
    let now : get_or (given freed new (Some t)) x None ≡ Some t = given-named freed new (Some t) None x is (omega (arith, size, length-given owners old None, range p x is)) in (
      λ owned.
          let same : t ≡ u = same_Some t u (sym now ∙ owned) in
          ap (λ v. holds plan (set s t p) v x) (sym same) ∙ mine ∙ is,
      λ taken.
          ⊎_elim
          (λ same. now ∙ ap (λ v. Some v) (sym same))
          (λ other. absurd (false≢true (sym (free u x other is) ∙ sym (theirs other) ∙ taken)))
          (cases_eq u t),
    ) in
    let out_case : is_in x new ≡ false → goal = λ out.
    let now : get_or (given freed new (Some t)) x None ≡ get_or freed x None = given-other freed new (Some t) None x out in
    let was_case : is_in x old ≡ true → goal = λ was.
    let none : get_or freed x None ≡ None = given-named owners old None None x was (omega (arith, size, range (place_of s t) x was)) in (
      λ owned. absurd (none-some u (sym none ∙ sym now ∙ owned)),
      λ taken.
          ⊎_elim
          (λ same. absurd (false≢true (sym out ∙ sym mine ∙ ap (λ v. holds plan (set s t p) v x) (sym same) ∙ taken)))
          (λ other. absurd (other (sym (one_holder plan s owners x t u told was (sym (theirs other) ∙ taken)))))
          (cases_eq u t),
    ) in
    let not_case : is_in x old ≡ false → goal = λ was.
    let kept : get_or freed x None ≡ get_or owners x None = given-other owners old None None x was in (
      λ owned.
          let taken : holds plan s u x ≡ true = (told x u).0 (sym kept ∙ sym now ∙ owned) in
          ⊎_elim
          (λ same. absurd (false≢true (sym was ∙ ap (λ v. holds plan s v x) (sym same) ∙ taken)))
          (λ other. theirs other ∙ taken)
          (cases_eq u t),
      λ taken.
          ⊎_elim
          (λ same. absurd (false≢true (sym out ∙ sym mine ∙ ap (λ v. holds plan (set s t p) v x) (sym same) ∙ taken)))
          (λ other. now ∙ kept ∙ (told x u).1 (sym (theirs other) ∙ taken))
          (cases_eq u t),
    ) in
    ⊎_elim was_case not_case (cases_Bool (is_in x old)) in
    ⊎_elim in_case out_case (cases_Bool (is_in x new))

-- a state whose holders are told is valid
pub told_valid : (plan : Moves) (s : List ℕ) (owners : List (Option ℕ)) → length s ≡ plan.trains → ((t : ℕ) → t < length s → place_of s t ≤ plan.moves t) → Told plan s owners → is_valid_state plan s ≡ true
told_valid plan s owners long within told = state_from_parts plan s (record {
  long = long;
  within = within;
  apart = λ t u lt under. apart_from (stand plan t (place_of s t)) (stand plan u (place_of s u)) (λ x is.
      ⊎_elim
      (λ other. let same : t ≡ u = one_holder plan s owners x t u told is other in absurd (omega arith))
      (λ out. out)
      (cases_Bool (holds plan s u x)));
})

pub made_long : (table : List MoveLists) (s : State) → IsMadeFor table s → length s.positions ≡ length table
made_long table s made = (state_parts (moves_in table) s.positions made.valid).long

pub made_within : (table : List MoveLists) (s : State) (t : ℕ) → IsMadeFor table s → place_of s.positions t ≤ (moves_in table).moves t
made_within table s t made =
    ⊎_elim
    (λ lt. (state_parts (moves_in table) s.positions made.valid).within t lt)
    (λ past. omega (arith, get_or_past s.positions t 0 past))
    (cases_lt t (length s.positions))

-- a train goes to a place where its standing set is apart from all others
pub made_moved : (table : List MoveLists) (s : State) (t p n : ℕ) → n < 2 ^ 64 → IsMadeFor table s
    → t < length table → p ≤ (moves_in table).moves t
    → ((u : ℕ) → u ≢ t
    → are_apart (stand (moves_in table) t p) (stand (moves_in table) u (place_of s.positions u)) ≡ true)
    → IsMadeFor table
    (record {
      positions = set s.positions t p;
      owners = owners_moved (moves_in table) s.positions s.owners t p;
      played = n;
    })
made_moved table s t p n counted made lt high apart =
    let plan : Moves = moves_in table in
    let parts = state_parts plan s.positions made.valid in
    let lt_s : t < length s.positions = omega (arith, parts.long) in
    let old : List ℕ = stand plan t (place_of s.positions t) in
    let told : Told plan (set s.positions t p) (owners_moved plan s.positions s.owners t p) =
    told_moved plan s.positions s.owners t p SECTIONS made.told lt_s (sym made.room)
    (λ q x is. stand_in_range table t q x made.moves lt is)
    (λ u x ne is. apart_at (stand plan t p) (stand plan u (place_of s.positions u)) x (apart u ne) is) in
    let long : length (set s.positions t p) ≡ length s.positions = length-set s.positions t p in
    record {
      moves = made.moves;
      valid = told_valid plan (set s.positions t p) (owners_moved plan s.positions s.owners t p) (long ∙ parts.long)
          (λ u lu. ⊎_elim
          (λ same. let P : ℕ → Type 0 = λ k. place_of (set s.positions t p) k ≤ plan.moves k in subst P (sym same) (omega (arith, high, get_or-set_same s.positions t p 0 lt_s)))
          (λ other. omega (arith, get_or-set_other s.positions t u p 0 other, parts.within u (omega (arith, lu, long))))
          (cases_eq u t))
          told;
      room = length-given (given s.owners old None) (stand plan t p) (Some t) ∙ length-given s.owners old None ∙ made.room;
      counted = counted;
      told = told;
    }

-- the place that the code reads
pub place_read : (positions : List ℕ) (t k place : ℕ) → k ≡ t → t < length positions → place ≡ get_or positions k place → place ≡ place_of positions t
place_read positions t k place same lt is =
    let within : k < length positions = omega arith in
    get_or_read positions k place within is 0 ∙ ap (λ i. place_of positions i) same

pub made_as : (table : List MoveLists) (s now : State) → s ≡ now → IsMadeFor table now → IsMadeFor table s
made_as table s now same made = let P : State → Type 0 = λ r. IsMadeFor table r in subst P (sym same) made

-- what was played is no part of what places are made for
pub made_alike : (table : List MoveLists) (s other : State) → s.positions ≡ other.positions → s.owners ≡ other.owners → s.played < 2 ^ 64 → IsMadeFor table other → IsMadeFor table s
made_alike table s other positions owners counted made =
    let same : s ≡ record { positions = other.positions; owners = other.owners; played = s.played } = λ i. record { positions = positions i; owners = owners i; played = s.played } in
    made_as table s (record { positions = other.positions; owners = other.owners; played = s.played }) same (record { moves = made.moves; valid = made.valid; room = made.room; counted = counted; told = made.told })

-- the same move, as the code makes it
pub made_stepped :
    (table : List MoveLists)
    (s : State)
    (t p n : ℕ)
    (positions : List ℕ)
    (owners1 owners2 : List (Option ℕ))
    (old new : List ℕ)
    → n < 2 ^ 64 → IsMadeFor table s → t < length table → p ≤ (moves_in table).moves t
    → ((u : ℕ) → u ≢ t
    → are_apart (stand (moves_in table) t p) (stand (moves_in table) u (place_of s.positions u)) ≡ true)
    → positions ≡ set s.positions t p → old ≡ stand (moves_in table) t (place_of s.positions t)
    → owners1 ≡ given s.owners old None → new ≡ stand (moves_in table) t p
    → owners2 ≡ given owners1 new (Some t)
    → IsMadeFor table (record { positions = positions; owners = owners2; played = n })
made_stepped table s t p n positions owners1 owners2 old new counted made lt high apart at was freed next taken =
    let plan : Moves = moves_in table in
    let owners : owners2 ≡ owners_moved plan s.positions s.owners t p =
    taken ∙ ap (λ o. given o new (Some t)) (freed ∙ ap (λ xs. given s.owners xs None) was)
    ∙ ap (λ xs. given (given s.owners (stand plan t (place_of s.positions t)) None) xs (Some t)) next in
    let moved : State = record { positions = set s.positions t p; owners = owners_moved plan s.positions s.owners t p; played = n } in
    let result : State = record { positions = positions; owners = owners2; played = n } in
    let same : result ≡ moved = λ i. record { positions = at i; owners = owners i; played = n } in
    made_as table result moved same (made_moved table s t p n counted made lt high apart)

pub room_freed : (owners owners1 : List (Option ℕ)) (old : List ℕ) → owners1 ≡ given owners old None → length owners ≡ SECTIONS → length owners1 ≡ SECTIONS
room_freed owners owners1 old freed room = ap length freed ∙ length-given owners old None ∙ room

-- what bars the next move of a train that isn't out
pub bar_ahead : (plan : Moves) (s : List ℕ) (owners : List (Option ℕ)) (t place : ℕ) (xs : List ℕ) → Told plan s owners → place ≡ place_of s t → place < plan.moves t → xs ≡ plan.claim t place → bar_of plan s t ≡ first_owned_in owners xs
bar_ahead plan s owners t place xs told same more needed =
    let now : place_of s t < plan.moves t = omega arith in
    cond-true (ltb (place_of s t) (plan.moves t)) (first_taken plan s (plan.claim t (place_of s t))) (Some Out) (lt-ltb (place_of s t) (plan.moves t) now)
    ∙ ap (λ p. first_taken plan s (plan.claim t p)) (sym same)
    ∙ ap (first_taken plan s) (sym needed)
    ∙ sym (first_owned-taken plan s owners xs told)
