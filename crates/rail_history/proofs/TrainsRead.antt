-- The trains of a line, read item by item.
use Rattle.std.proofs.Common.{◌≡◌, ℕ, ◌+◌, ◌-◌, ◌<◌, ◌≤◌, Bool, true, false, cond, eqb, nat_lt, List, [], ◌∷◌, ◌++◌, length, map, take, drop, replicate, decimal, Some, None, refl, sym, ap, ◌∙◌, subst, ⊎_elim, arith, append_assoc, length-append}
use Rattle.std.specs.List.{list_all, list_any, position}
use Rattle.std.proofs.Math.Seq.{take-append_seam, drop-append-add}
use Rattle.std.proofs.lemmas.Bool.{and_parts, and_from, cases_Bool, cond-true, cond-false, eqb-false, eqb-true, ltb-true, or_from, not_from_false}
use Rattle.std.proofs.lemmas.List.{append-nil, length-replicate, take_all}
use Rattle.std.proofs.lemmas.List.Folds.{list_any-append}
use Rattle.rail_base.specs.NameForms.{is_name, is_name_byte}
use Rattle.rail_rules.specs.Plant.{Plant, trains}
use Rattle.rail_rules.specs.Texts.{Item, item_word, train_word}
use Rattle.rail_rules.specs.WritableLines.{IsNamed, is_known_train}
use Rattle.rail_laws_text.proofs.CallerLemmas.{name_free}
use Rattle.rail_history.specs.HistoryLines.{expanded, is_small_item}
use Rattle.rail_history.specs.ReadWords.{is_small, is_spaceless, joined}
use Rattle.rail_history.proofs.Cut.{mark_found, mark_nowhere}
use Rattle.rail_history.proofs.Reading.{decimal_spells}
use Rattle.rail_history.proofs.Times.{digits_free}

abbrev pub is_star : ℕ → Bool
is_star b = eqb b 42

-- an item by the place of its star
pub data ItemSeen (plant : Plant) (t n : ℕ) (word : List ℕ) : Type 0 where
  alone : position is_star word ≡ None → word ≡ train_word plant t → 1 ≡ n → ItemSeen plant t n word
  counted : (end : ℕ) → position is_star word ≡ Some end → take end word ≡ train_word plant t → drop (end + 1) word ≡ decimal n → ItemSeen plant t n word

module _ (plant : Plant) (named : IsNamed plant) where
  pub train_lt : (item : Item) → is_small_item plant item ≡ true → item.train < trains plant
  train_lt item small = ltb-true item.train (trains plant) (and_parts (is_known_train plant item.train) (is_small item.count) small).0

  pub count_lt : (item : Item) → is_small_item plant item ≡ true → item.count < 65536
  count_lt item small = ltb-true item.count 65536 (and_parts (is_known_train plant item.train) (is_small item.count) small).1

  name_of : (item : Item) → is_small_item plant item ≡ true → is_name (train_word plant item.train) ≡ true
  name_of item small = named.train_name item.train (train_lt item small)

  item_seen : (item : Item) → is_small_item plant item ≡ true → ItemSeen plant item.train item.count (item_word plant item)
  item_seen item small =
      let name : List ℕ = train_word plant item.train in
      let tail : List ℕ = 42 ∷ decimal item.count in
      let free : list_any is_star name ≡ false = name_free 42 refl name (name_of item small) in
      let P : List ℕ → Type 0 = λ rest. ItemSeen plant item.train item.count (name ++ rest) in
      ⊎_elim
      (λ one. subst P (sym (cond-true (eqb item.count 1) [] tail one))
      (alone (ap (position is_star) (append-nil name) ∙ mark_nowhere is_star name free) (append-nil name) (sym (eqb-true item.count 1 one))))
      (λ more. subst P (sym (cond-false (eqb item.count 1) [] tail more))
      (counted (length name) (mark_found is_star 42 refl name (decimal item.count) free) (take-append_seam name tail) (drop-append-add name tail 1)))
      (cases_Bool (eqb item.count 1))

  module _ (word : List ℕ) (item : Item) (small : is_small_item plant item ≡ true) (is : word ≡ item_word plant item) where
    seen : ItemSeen plant item.train item.count word
    seen = let P : List ℕ → Type 0 = λ w. ItemSeen plant item.train item.count w in subst P (sym is) (item_seen item small)

    pub with_star : (end : ℕ) → position is_star word ≡ Some end → (take end word ≡ train_word plant item.train) × (drop (end + 1) word ≡ decimal item.count)
    with_star end found = of seen
      where
        of : ItemSeen plant item.train item.count word → (take end word ≡ train_word plant item.train) × (drop (end + 1) word ≡ decimal item.count)
        of (alone nowhere same one) = absurd (differ (sym nowhere ∙ found))
          where
            differ : None ≡ Some end → ⊥
            differ e = cc
        of (counted n at front back) =
            let same : n ≡ end = some_is (sym at ∙ found) in
            (ap (λ (k : ℕ). take k word) (sym same) ∙ front, ap (λ (k : ℕ). drop (k + 1) word) (sym same) ∙ back)
          where
            some_is : {x y : ℕ} → Some x ≡ Some y → x ≡ y
            some_is e = cc

    pub without_star : position is_star word ≡ None → (word ≡ train_word plant item.train) × (1 ≡ item.count)
    without_star found = of seen
      where
        of : ItemSeen plant item.train item.count word → (word ≡ train_word plant item.train) × (1 ≡ item.count)
        of (alone nowhere same one) = (same, one)
        of (counted n at front back) = absurd (differ (sym found ∙ at))
          where
            differ : {x : ℕ} → None ≡ Some x → ⊥
            differ e = cc

  none_in_both : (q : ℕ → Bool) (xs ys : List ℕ) → list_any q xs ≡ false → list_any q ys ≡ false → list_any q (xs ++ ys) ≡ false
  none_in_both q xs ys first second = list_any-append q xs ys ∙ or_from (list_any q xs) (list_any q ys) first second

  item_spaceless : (item : Item) → is_small_item plant item ≡ true → is_spaceless (item_word plant item) ≡ true
  item_spaceless item small =
      let is_space : ℕ → Bool = λ c. eqb c 32 in
      let name : List ℕ = train_word plant item.train in
      let tail : List ℕ = 42 ∷ decimal item.count in
      let digits = digits_free 32 (omega arith) (decimal item.count) (decimal_spells item.count (omega (arith, count_lt item small))).digits in
      let free : list_any is_space name ≡ false = name_free 32 refl name (name_of item small) in
      let P : List ℕ → Type 0 = λ rest. list_any is_space rest ≡ false in
      not_from_false _ (none_in_both is_space name (cond (eqb item.count 1) [] tail) free
      (⊎_elim
      (λ one. subst P (sym (cond-true (eqb item.count 1) [] tail one)) refl)
      (λ more. subst P (sym (cond-false (eqb item.count 1) [] tail more)) digits)
      (cases_Bool (eqb item.count 1))))

  pub items_spaceless : (items : List Item) → list_all (is_small_item plant) items ≡ true → list_all is_spaceless (map (item_word plant) items) ≡ true
  items_spaceless [] small = refl
  items_spaceless (item ∷ items) small =
      let both = and_parts (is_small_item plant item) (list_all (is_small_item plant) items) small in
      and_from (is_spaceless (item_word plant item)) (list_all is_spaceless (map (item_word plant) items)) (item_spaceless item both.0) (items_spaceless items both.1)

  some_byte : (item : Item) → is_small_item plant item ≡ true → 0 < length (item_word plant item)
  some_byte item small =
      let name : List ℕ = train_word plant item.train in
      let long = and_parts _ (list_all is_name_byte name) (name_of item small) in
      let some = and_parts (nat_lt 0 (length name)) _ long.0 in
      omega (arith, ltb-true 0 (length name) some.0, length-append name (cond (eqb item.count 1) [] (42 ∷ decimal item.count)))

  joined_longer : (w : List ℕ) (ws : List (List ℕ)) → length w ≤ length (joined (w ∷ ws))
  joined_longer w [] = omega arith
  joined_longer w (v ∷ ws) = omega (arith, length-append w (32 ∷ joined (v ∷ ws)))

-- the trains so far, and the items that are left of the text
pub record AreBehind (plant : Plant) (items : List Item) (list left : List ℕ) : Type 0 where
  pub rest : List Item
  pub small : list_all (is_small_item plant) rest ≡ true
  pub spelled : left ≡ joined (map (item_word plant) rest)
  pub so_far : list ++ expanded rest ≡ expanded items

-- the next of the items that are left
pub record IsNext (plant : Plant) (items : List Item) (list left : List ℕ) : Type 0 where
  pub item : Item
  pub rest : List Item
  pub small : is_small_item plant item ≡ true
  pub small_rest : list_all (is_small_item plant) rest ≡ true
  pub spaceless : list_all is_spaceless (map (item_word plant) (item ∷ rest)) ≡ true
  pub spelled : left ≡ joined (map (item_word plant) (item ∷ rest))
  pub so_far : list ++ (replicate item.count item.train ++ expanded rest) ≡ expanded items

module _ {plant : Plant} (named : IsNamed plant) {items : List Item} {list left : List ℕ} where
  pub none_left : AreBehind plant items list left → eqb (length left) 0 ≡ true → list ≡ expanded items
  none_left at empty = by at.rest at.small at.spelled at.so_far
    where
      none : length left ≡ 0
      none = eqb-true (length left) 0 empty

      by : (rest : List Item) → list_all (is_small_item plant) rest ≡ true → left ≡ joined (map (item_word plant) rest) → list ++ expanded rest ≡ expanded items → list ≡ expanded items
      by [] small spelled so_far = sym (append-nil list) ∙ so_far
      by (item ∷ rest) small spelled so_far =
          let both = and_parts (is_small_item plant item) (list_all (is_small_item plant) rest) small in
          absurd (omega (arith, none, ap (length {A = ℕ}) spelled, some_byte plant named item both.0, joined_longer plant named (item_word plant item) (map (item_word plant) rest)))

  pub next_left : AreBehind plant items list left → eqb (length left) 0 ≡ false → IsNext plant items list left
  next_left at some = by at.rest at.small at.spelled at.so_far
    where
      by : (rest : List Item) → list_all (is_small_item plant) rest ≡ true → left ≡ joined (map (item_word plant) rest) → list ++ expanded rest ≡ expanded items → IsNext plant items list left
      by [] small spelled so_far = absurd (eqb-false (length left) 0 some (ap (length {A = ℕ}) spelled))
      by (item ∷ rest) small spelled so_far =
          let both = and_parts (is_small_item plant item) (list_all (is_small_item plant) rest) small in
          record { item = item; rest = rest; small = both.0; small_rest = both.1; spaceless = items_spaceless plant named (item ∷ rest) small; spelled = spelled; so_far = so_far }

  -- the next item fits the trains
  pub next_fits : (next : IsNext plant items list left) → length list + next.item.count ≤ length (expanded items)
  next_fits next =
      let n : ℕ = next.item.count in
      let copies : List ℕ = replicate n next.item.train in
      omega (arith, ap (length {A = ℕ}) next.so_far, length-append list (copies ++ expanded next.rest), length-append copies (expanded next.rest), length-replicate n next.item.train)

  -- behind the next item
  pub behind_next : (next : IsNext plant items list left) (rest : List ℕ) → rest ≡ joined (map (item_word plant) next.rest) → AreBehind plant items (list ++ replicate next.item.count next.item.train) rest
  behind_next next rest same = record {
    rest = next.rest;
    small = next.small_rest;
    spelled = same;
    so_far = append_assoc list (replicate next.item.count next.item.train) (expanded next.rest) ∙ next.so_far;
  }

-- a list that was made longer by copies
pub copies_behind : (list after : List ℕ) (long size n t : ℕ) → long ≡ length list → size ≡ length list → after ≡ take (long + n) list ++ replicate (long + n - size) t → after ≡ list ++ replicate n t
copies_behind list after long size n t same sized is =
    let count : long + n - size ≡ n = omega (arith, same, sized) in
    let all : take (long + n) list ≡ list = take_all (long + n) list (omega (arith, same)) in
    is ∙ (λ i. all i ++ replicate (count i) t)
