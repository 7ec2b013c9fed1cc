-- Places in which one train is outside, and where it is put.
use Rattle.std.proofs.Common.{◌≡◌, ◌≢◌, ℕ, zero, suc, ◌<◌, ◌≤◌, true, not, cond, List, [], length, get_or, set, is_some, Option, Some, None, refl, sym, ap, ◌∙◌, ⊎_elim, arith}
use Rattle.std.specs.Prelude.{nat_lt}
use Rattle.std.specs.List.{list_all}
use Rattle.std.proofs.lemmas.Bool.{cases_Bool, cases_eq, false≢true}
use Rattle.std.proofs.lemmas.List.{get_or-set_other, length-set}
use Rattle.rail_rules.specs.Moves.{stand}
use Rattle.rail_rules.specs.Numbers.{are_apart, is_in}
use Rattle.rail_rules.specs.Places.{holds, place_of}
use Rattle.rail_rules.proofs.CallerLemmas.{apart_from, list_all_at, state_from_parts, state_parts}
use Rattle.rail_place.specs.PlaceStates.{IsMadeFor, State}
use Rattle.rail_place.specs.Tables.{IsTable, MoveLists, moves_in, no_lists}
use Rattle.rail_place.proofs.CallerLemmas.{state_apart}
use Rattle.rail_reroute.specs.Judges.{is_unheld}

-- where a train stands is told by its own lists
stand_same : (table now : List MoveLists) (u : ℕ) → get_or now u no_lists ≡ get_or table u no_lists → (p : ℕ) → stand (moves_in now) u p ≡ stand (moves_in table) u p
stand_same table now u same zero = refl
stand_same table now u same (suc m) = ap (λ (lists : MoveLists). cond (nat_lt (suc m) (length lists.claims)) (get_or lists.stands m []) []) same

module _ (table : List MoveLists) (t : ℕ) (row : MoveLists) (s : State) (made : IsMadeFor table s) (outside : place_of s.positions t ≡ 0) where
  abbrev now : List MoveLists
  now = set table t row

  -- while a train is outside, its moves say of no train where it stands
  stand_kept : (u : ℕ) → stand (moves_in now) u (place_of s.positions u) ≡ stand (moves_in table) u (place_of s.positions u)
  stand_kept u = ⊎_elim
      (λ same.
      let here : place_of s.positions u ≡ 0 = ap (place_of s.positions) same ∙ outside in
      ap (stand (moves_in now) u) here ∙ sym (ap (stand (moves_in table) u) here))
      (λ other. stand_same table now u (get_or-set_other table t u row no_lists other) (place_of s.positions u))
      (cases_eq u t)

  within : (u : ℕ) → u < length s.positions → place_of s.positions u ≤ (moves_in now).moves u
  within u lt = ⊎_elim
      (λ same. omega (arith, ap (place_of s.positions) same, outside))
      (λ other. omega (
        arith,
        (state_parts (moves_in table) s.positions made.valid).within u lt,
        ap (λ (lists : MoveLists). length lists.claims) (get_or-set_other table t u row no_lists other),
      ))
      (cases_eq u t)

  -- so the places are made for any moves of it
  pub made_alike : IsTable now → IsMadeFor now s
  made_alike is = record {
    moves = is;
    valid = state_from_parts (moves_in now) s.positions (record {
      long = (state_parts (moves_in table) s.positions made.valid).long ∙ sym (length-set table t row);
      within = within;
      apart = λ u v lt under.
          (λ i. are_apart (stand_kept u i) (stand_kept v i)) ∙ (state_parts (moves_in table) s.positions made.valid).apart u v lt under;
    });
    room = made.room;
    counted = made.counted;
    told = λ x u.
        let same : holds (moves_in now) s.positions u x ≡ holds (moves_in table) s.positions u x = ap (is_in x) (stand_kept u) in
        (λ owned. same ∙ (made.told x u).0 owned, λ taken. (made.told x u).1 (sym same ∙ taken));
  }

-- a section that nobody holds is no section of another train
unheld_by : (owners : List (Option ℕ)) (x u : ℕ) → is_unheld owners x ≡ true → get_or owners x None ≡ Some u → ⊥
unheld_by owners x u unheld held = false≢true (ap (λ o. not (is_some o)) (sym held) ∙ unheld)

-- where nobody holds a section of these, no train stands on one
pub free_apart : (table : List MoveLists) (s : State) (xs : List ℕ) (u : ℕ) → IsMadeFor table s → list_all (is_unheld s.owners) xs ≡ true
    → are_apart xs (stand (moves_in table) u (place_of s.positions u)) ≡ true
free_apart table s xs u made free = apart_from xs (stand (moves_in table) u (place_of s.positions u)) (λ x is.
    ⊎_elim
    (λ taken. absurd (unheld_by s.owners x u (list_all_at (is_unheld s.owners) xs x free is) ((made.told x u).1 taken)))
    (λ out. out)
    (cases_Bool (holds (moves_in table) s.positions u x)))

-- a train that was taken away finds its place free
pub back_apart : (table : List MoveLists) (s : List ℕ) (t p u : ℕ) (before : State) → IsMadeFor table before → before.positions ≡ s → t < length s → u ≢ t
    → are_apart (stand (moves_in table) t (place_of s t)) (stand (moves_in table) u (place_of (set s t p) u)) ≡ true
back_apart table s t p u before made is lt other =
    let apart = state_apart (moves_in table) before.positions t u made.valid (omega (arith, lt, ap length is)) other in
    (λ i. are_apart (stand (moves_in table) t (place_of s t)) (stand (moves_in table) u (get_or-set_other s t u p 0 other i)))
    ∙ (λ i. are_apart (stand (moves_in table) t (place_of (sym is i) t)) (stand (moves_in table) u (place_of (sym is i) u)))
    ∙ apart
