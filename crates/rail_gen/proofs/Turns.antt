-- One word, one station or one train more.
use Rattle.std.proofs.Common.{◌≡◌, ℕ, ◌+◌, ◌-◌, ◌<◌, ◌≤◌, suc, Bool, false, List, [], ◌∷◌, ◌++◌, codes, length, drop, get_or, sym, ap, ◌∙◌, arith, append_assoc}
use Rattle.std.proofs.lemmas.List.{at_drop_more, at_drop_all, append-nil}
use Rattle.rand_pcg.specs.Lcg.{Lcg}
use Rattle.rail_scene.specs.declared.scene.SceneTrain.{SceneTrain}
use Rattle.rail_gen.specs.LinePlants.{route_name}
use Rattle.rail_gen.specs.MadeScenes.{drawn, coin, coins, track_of, eastward, westward, train_of, train_words, trains_from}

module _ (all more : List Bool) (b : Bool) (w rest : Lcg) (count turn : ℕ) (less : turn < count) (pushed : more ≡ all ++ b ∷ []) (is : b ≡ (coin w).0) (left : rest ≡ (coin w).1) where
  one_less : count - turn ≡ suc (count - (turn + 1))
  one_less = omega arith

  pub coin_value : (total : List Bool) → all ++ (coins (count - turn) w).0 ≡ total → more ++ (coins (count - (turn + 1)) rest).0 ≡ total
  unfolding coins
  coin_value total so_far =
      (λ i. pushed i ++ (coins (count - (turn + 1)) (left i)).0)
      ∙ append_assoc all (b ∷ []) (coins (count - (turn + 1)) (coin w).1).0
      ∙ ap (λ x. all ++ x ∷ (coins (count - (turn + 1)) (coin w).1).0) is
      ∙ ap (λ m. all ++ (coins m w).0) (sym one_less) ∙ so_far

  pub coin_rest : (end : Lcg) → (coins (count - turn) w).1 ≡ end → (coins (count - (turn + 1)) rest).1 ≡ end
  unfolding coins
  coin_rest end so_far = ap (λ g. (coins (count - (turn + 1)) g).1) left ∙ ap (λ m. (coins m w).1) (sym one_less) ∙ so_far

module _ (all : List Bool) (w : Lcg) (count turn : ℕ) (done : count ≤ turn) where
  none_left : count - turn ≡ 0
  none_left = omega arith

  pub coins_value : (total : List Bool) → all ++ (coins (count - turn) w).0 ≡ total → all ≡ total
  unfolding coins
  coins_value total so_far = sym (append-nil all) ∙ ap (λ m. all ++ (coins m w).0) (sym none_left) ∙ so_far

  pub coins_rest : (end : Lcg) → (coins (count - turn) w).1 ≡ end → w ≡ end
  unfolding coins
  coins_rest end so_far = ap (λ m. (coins m w).1) (sym none_left) ∙ so_far

module _ (routes one both : List (List ℕ)) (tracks : List Bool) (i : ℕ) (total : List (List ℕ)) (less : i < length tracks) where
  -- the track of the next station
  abbrev b : Bool
  b = get_or tracks i false

  pub east_more : one ≡ routes ++ route_name (codes "ein") (i + 1) (track_of b) ∷ [] → both ≡ one ++ route_name (codes "eout") (i + 1) (track_of b) ∷ []
      → routes ++ eastward (i + 1) (drop i tracks) ≡ total → both ++ eastward (i + 1 + 1) (drop (i + 1) tracks) ≡ total
  east_more first second so_far =
      let r = route_name (codes "ein") (i + 1) (track_of b) in
      let s = route_name (codes "eout") (i + 1) (track_of b) in
      let rest = eastward (i + 1 + 1) (drop (i + 1) tracks) in
      ap (λ xs. xs ++ rest) (second ∙ (λ j. first j ++ s ∷ []))
      ∙ append_assoc (routes ++ r ∷ []) (s ∷ []) rest ∙ append_assoc routes (r ∷ []) (s ∷ rest)
      ∙ sym (at_drop_more (λ ts. routes ++ eastward (i + 1) ts) tracks i false less) ∙ so_far

  pub west_more : one ≡ routes ++ route_name (codes "win") (length tracks - i) (track_of b) ∷ [] → both ≡ one ++ route_name (codes "wout") (length tracks - i) (track_of b) ∷ []
      → routes ++ westward (length tracks - i) (drop i tracks) ≡ total → both ++ westward (length tracks - (i + 1)) (drop (i + 1) tracks) ≡ total
  west_more first second so_far =
      let n = length tracks - i in
      let r = route_name (codes "win") n (track_of b) in
      let s = route_name (codes "wout") n (track_of b) in
      let rest = westward (n - 1) (drop (i + 1) tracks) in
      let back : length tracks - (i + 1) ≡ n - 1 = omega arith in
      ap (λ (m : ℕ). both ++ westward m (drop (i + 1) tracks)) back
      ∙ ap (λ xs. xs ++ rest) (second ∙ (λ j. first j ++ s ∷ []))
      ∙ append_assoc (routes ++ r ∷ []) (s ∷ []) rest ∙ append_assoc routes (r ∷ []) (s ∷ rest)
      ∙ sym (at_drop_more (λ ts. routes ++ westward n ts) tracks i false less) ∙ so_far

pub train_more : (trains more : List SceneTrain) (train : SceneTrain) (w rest : Lcg) (count n total : ℕ) (all : List SceneTrain) → n < total + 1 → more ≡ trains ++ train ∷ []
    → train ≡ train_of count n (train_words count w).0 → rest ≡ (train_words count w).1
    → trains ++ trains_from count n (total + 1 - n) w ≡ all → more ++ trains_from count (n + 1) (total + 1 - (n + 1)) rest ≡ all
unfolding trains_from
train_more trains more train w rest count n total all less pushed is left so_far =
    let m = total + 1 - (n + 1) in
    let one_less : total + 1 - n ≡ suc m = omega arith in
    (λ i. pushed i ++ trains_from count (n + 1) m (left i))
    ∙ append_assoc trains (train ∷ []) (trains_from count (n + 1) m (train_words count w).1)
    ∙ ap (λ x. trains ++ x ∷ trains_from count (n + 1) m (train_words count w).1) is
    ∙ ap (λ k. trains ++ trains_from count n k w) (sym one_less) ∙ so_far

pub trains_end : (trains : List SceneTrain) (w : Lcg) (count n total : ℕ) (all : List SceneTrain) → total + 1 ≤ n → trains ++ trains_from count n (total + 1 - n) w ≡ all → trains ≡ all
unfolding trains_from
trains_end trains w count n total all done so_far =
    let none : total + 1 - n ≡ 0 = omega arith in
    sym (append-nil trains) ∙ ap (λ k. trains ++ trains_from count n k w) (sym none) ∙ so_far

module _ (routes : List (List ℕ)) (tracks : List Bool) (i : ℕ) (total : List (List ℕ)) (done : length tracks ≤ i) where
  pub east_end : routes ++ eastward (i + 1) (drop i tracks) ≡ total → routes ≡ total
  east_end so_far = sym (append-nil routes) ∙ sym (at_drop_all (λ ts. routes ++ eastward (i + 1) ts) tracks i done) ∙ so_far

  pub west_end : routes ++ westward (length tracks - i) (drop i tracks) ≡ total → routes ≡ total
  west_end so_far = sym (append-nil routes) ∙ sym (at_drop_all (λ ts. routes ++ westward (length tracks - i) ts) tracks i done) ∙ so_far

-- the words of a train, drawn one by one
module _ (count : ℕ) (w0 w1 w2 w3 w4 w5 : Lcg) (west : Bool) (entry kind priority : ℕ) (tracks : List Bool)
    (west_is : west ≡ (coin w0).0) (left1 : w1 ≡ (coin w0).1) (entry_is : entry ≡ (drawn 7_200 w1).0) (left2 : w2 ≡ (drawn 7_200 w1).1)
    (kind_is : kind ≡ (drawn 3 w2).0) (left3 : w3 ≡ (drawn 3 w2).1) (priority_is : priority ≡ (drawn 4 w3).0) (left4 : w4 ≡ (drawn 4 w3).1)
    (tracks_are : tracks ≡ (coins count w4).0) (left5 : w5 ≡ (coins count w4).1) where
  at2 : w2 ≡ (drawn 7_200 (coin w0).1).1
  at2 = left2 ∙ ap (λ g. (drawn 7_200 g).1) left1

  at3 : w3 ≡ (drawn 3 (drawn 7_200 (coin w0).1).1).1
  at3 = left3 ∙ ap (λ g. (drawn 3 g).1) at2

  at4 : w4 ≡ (drawn 4 (drawn 3 (drawn 7_200 (coin w0).1).1).1).1
  at4 = left4 ∙ ap (λ g. (drawn 4 g).1) at3

  pub words_drawn : record { is_westbound = west; entry = entry; kind = kind; priority = priority; tracks = tracks } ≡ (train_words count w0).0
  unfolding train_words
  words_drawn = λ i. record {
    is_westbound = west_is i;
    entry = (entry_is ∙ ap (λ g. (drawn 7_200 g).0) left1) i;
    kind = (kind_is ∙ ap (λ g. (drawn 3 g).0) at2) i;
    priority = (priority_is ∙ ap (λ g. (drawn 4 g).0) at3) i;
    tracks = (tracks_are ∙ ap (λ g. (coins count g).0) at4) i;
  }

  pub rest_drawn : w5 ≡ (train_words count w0).1
  unfolding train_words
  rest_drawn = left5 ∙ ap (λ g. (coins count g).1) at4
