-- Claims made of needed sections and overlaps.
use Rattle.std.proofs.Common.{◌≡◌, ℕ, true, zero, suc, ◌+◌, ◌-◌, ◌<◌, List, [], ◌∷◌, ◌++◌, length, get_or, take, refl, sym, ap, ◌∙◌, arith}
use Rattle.std.specs.List.{list_all}
use Rattle.std.proofs.lemmas.Bool.{and_parts, eqb-true}
use Rattle.std.proofs.lemmas.List.{append-nil, length-append, take_at}
use Rattle.rail_place.specs.Lists.{is_empty}
use Rattle.rail_place.specs.Tables.{EndWith, joined}

more : (needs overs : List (List ℕ)) (i : ℕ) → i < length needs → i < length overs
    → joined (take (suc i) needs) (take (suc i) overs) ≡ joined (take i needs) (take i overs) ++ (get_or needs i [] ++ get_or overs i []) ∷ []
more [] overs i low high = absurd (omega (arith, low))
more (need ∷ needs) [] i low high = absurd (omega (arith, high))
more (need ∷ needs) (over ∷ overs) zero low high = refl
more (need ∷ needs) (over ∷ overs) (suc i) low high = ap (λ rest. (need ++ over) ∷ rest) (more needs overs i (omega (arith, low)) (omega (arith, high)))

-- one claim more
pub joined_more : (needs overs : List (List ℕ)) (i : ℕ) → i < length needs → i < length overs
    → joined (take (i + 1) needs) (take (i + 1) overs) ≡ joined (take i needs) (take i overs) ++ (get_or needs i [] ++ get_or overs i []) ∷ []
joined_more needs overs i low high =
    let next : i + 1 ≡ suc i = omega arith in
    ap (λ n. joined (take n needs) (take n overs)) next ∙ more needs overs i low high

-- as many claims as there are moves
pub length-joined : (needs overs : List (List ℕ)) → length (joined needs overs) ≡ length needs
length-joined [] overs = refl
length-joined (need ∷ needs) [] = refl
length-joined (need ∷ needs) (over ∷ overs) = ap suc (length-joined needs overs)

-- each is what the move needs, and then its overlap
get_or-joined : (needs overs : List (List ℕ)) (m : ℕ) → length overs ≡ length needs → get_or (joined needs overs) m [] ≡ get_or needs m [] ++ get_or overs m []
get_or-joined [] [] m wide = refl
get_or-joined [] (over ∷ overs) m wide = absurd (omega (arith, wide))
get_or-joined (need ∷ needs) [] m wide = absurd (omega (arith, wide))
get_or-joined (need ∷ needs) (over ∷ overs) zero wide = refl
get_or-joined (need ∷ needs) (over ∷ overs) (suc m) wide = get_or-joined needs overs m (omega (arith, wide))

-- what is left of a list in front of its end
front_of : (xs ys : List ℕ) → take (length (xs ++ ys) - length ys) (xs ++ ys) ≡ xs
front_of xs ys =
    let long : length (xs ++ ys) - length ys ≡ length xs = omega (arith, length-append xs ys) in
    ap (λ n. take n (xs ++ ys)) long ∙ take_at xs ys (length xs) refl

-- claims end with the overlaps that they are made of
pub joined_end : (needs overs : List (List ℕ)) → length overs ≡ length needs → EndWith (joined needs overs) overs
joined_end needs overs wide = record {
  wide = wide ∙ sym (length-joined needs overs);
  fits = λ m. omega (arith, ap length (get_or-joined needs overs m wide), length-append (get_or needs m []) (get_or overs m []));
  ends = λ m.
      let over : List ℕ = get_or overs m [] in
      let is : get_or (joined needs overs) m [] ≡ get_or needs m [] ++ over = get_or-joined needs overs m wide in
      is
      ∙ sym (ap (λ xs. xs ++ over) (front_of (get_or needs m []) over))
      ∙ sym (ap (λ xs. take (length xs - length over) xs ++ over) is);
}

-- where no move has an overlap, the claims are what the moves need
pub joined_empty : (needs overs : List (List ℕ)) → list_all is_empty overs ≡ true → joined needs overs ≡ needs
joined_empty [] overs none = refl
joined_empty (need ∷ needs) [] none = refl
joined_empty (need ∷ needs) ([] ∷ overs) none = ap (λ n. n ∷ joined needs overs) (append-nil need) ∙ ap (λ rest. need ∷ rest) (joined_empty needs overs none)
joined_empty (need ∷ needs) ((x ∷ over) ∷ overs) none =
    let parts = and_parts (is_empty (x ∷ over)) (list_all is_empty overs) none in
    absurd (omega (arith, eqb-true (length (x ∷ over)) 0 parts.0))
