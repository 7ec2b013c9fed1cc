-- Policies in a row, and how they are seen.
use Rattle.std.proofs.Common.{◌≡◌, ℕ, suc, ◌+◌, ◌<◌, ◌≤◌, Bool, true, not, cond, nat_lt, ◌||◌, List, [], ◌∷◌, ◌++◌, length, get_or, set, take, drop, map, refl, sym, ap, ◌∙◌, arith}
use Rattle.std.specs.Prelude.{Some, None, position}
use Rattle.std.specs.List.{list_all, list_any, prefix_len, remove}
use Rattle.std.proofs.lemmas.Bool.{and_from}
use Rattle.std.proofs.lemmas.Bool.Decides.{nat_tests}
use Rattle.std.proofs.lemmas.List.{drop-map, get_or-map, length-map, map-append, map-set, take-map, take_all}
use Rattle.std.proofs.lemmas.List.Folds.{list_all-map, list_all_more}
use Rattle.rail_policy.specs.Seats.{DeskSeat, are_marks_small, no_seat, seat_at}

module _ {X : Type 0} (seat : X → DeskSeat) where
  -- one policy is replaced by another, which is seen as the change says; all others stay
  pub map-changed : (change : DeskSeat → DeskSeat) (deck : List X) (index : ℕ) (old new : X) → index < length deck
      → seat new ≡ change (seat (get_or deck index old)) → map seat (set deck index new) ≡ set (map seat deck) index (change (seat_at (map seat deck) index))
  map-changed change deck index old new lt new_is =
      map-set seat deck index new
      ∙ ap (set (map seat deck) index) (new_is ∙ ap change (sym (get_or-map seat deck index old no_seat lt)))

  pub list_any-map : (test : DeskSeat → Bool) (deck : List X) → list_any test (map seat deck) ≡ list_any (λ x. test (seat x)) deck
  list_any-map test [] = refl
  list_any-map test (x ∷ deck) = ap (λ (b : Bool). test (seat x) || b) (list_any-map test deck)

  prefix_len-map : (test : DeskSeat → Bool) (deck : List X) → prefix_len test (map seat deck) ≡ prefix_len (λ x. test (seat x)) deck
  prefix_len-map test [] = refl
  prefix_len-map test (x ∷ deck) = ap (λ (n : ℕ). cond (test (seat x)) (1 + n) 0) (prefix_len-map test deck)

  pub position-map : (test : DeskSeat → Bool) (deck : List X) → position test (map seat deck) ≡ position (λ x. test (seat x)) deck
  position-map test deck =
      let found = prefix_len-map (λ s. not (test s)) deck in
      λ i. cond (nat_lt (found i) (length-map deck seat i)) (Some (found i)) None

  pub map-remove : (deck : List X) (index : ℕ) → map seat (remove deck index) ≡ remove (map seat deck) index
  map-remove deck index =
      map-append seat (take index deck) (drop (suc index) deck)
      ∙ ap (λ (front : List DeskSeat). front ++ map seat (drop (suc index) deck)) (sym (take-map seat index deck))
      ∙ ap (λ (back : List DeskSeat). take index (map seat deck) ++ back) (sym (drop-map seat (suc index) deck))

  -- a small mark passes the test
  small_test : (mark : ℕ) → mark < 65536 → nat_lt mark 65536 ≡ true
  small_test mark small = grind (arith, nat_tests)

  -- each mark is small
  abbrev is_small : X → Bool
  is_small x = nat_lt (seat x).mark 65536

  -- the marks of the first policies, and of one more
  pub small_more : (deck : List X) (i : ℕ) (policy : X) → i < length deck → policy ≡ get_or deck i policy → (seat policy).mark < 65536
      → list_all (λ x. nat_lt (seat x).mark 65536) (take i deck) ≡ true → list_all (λ x. nat_lt (seat x).mark 65536) (take (i + 1) deck) ≡ true
  small_more deck i policy lt is small before =
      list_all_more is_small deck i policy lt
      ∙ and_from (list_all is_small (take i deck)) (is_small (get_or deck i policy)) before (ap is_small (sym is) ∙ small_test (seat policy).mark small)

  -- the marks of all policies
  pub small_all : (deck : List X) (i : ℕ) → length deck ≤ i → list_all (λ x. nat_lt (seat x).mark 65536) (take i deck) ≡ true → are_marks_small (map seat deck) ≡ true
  small_all deck i all before =
      list_all-map (λ (s : DeskSeat). nat_lt s.mark 65536) seat deck ∙ ap (list_all is_small) (sym (take_all i deck all)) ∙ before
