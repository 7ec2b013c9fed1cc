-- Neighbouring equal trains of a list.
use Rattle.std.proofs.Common.{◌≡◌, ℕ, suc, ◌+◌, Bool, true, false, List, [], ◌∷◌, ◌++◌, cond, drop, nat_eq, replicate, refl, sym, ap, ◌∙◌, subst, arith}
use Rattle.std.specs.List.{prefix_len}
use Rattle.std.proofs.lemmas.Bool.{eqb-true}
use Rattle.std.proofs.lemmas.Grind.{flat_map-append}
use Rattle.std.proofs.lemmas.List.{append-nil, append_assoc}
use Rattle.rail_history.specs.declared.items.ListItem.{ListItem}
use Rattle.rail_history.specs.ListItems.{copies_of, spelled_by}

module _ (t u : ℕ) (list : List ℕ) (n : ℕ) (whole : replicate n t ++ drop n list ≡ list) where
  one : 1 + n ≡ suc n
  one = omega arith

  one_before : (b : Bool) → nat_eq t u ≡ b → replicate (cond b (1 + n) 0) t ++ drop (cond b (1 + n) 0) (u ∷ list) ≡ u ∷ list
  one_before true is = ap (λ (m : ℕ). replicate m t ++ drop m (u ∷ list)) one ∙ (λ i. eqb-true t u is i ∷ whole i)
  one_before false is = refl

-- the copies at the front and what stands behind them are the whole list
pub repeats_whole : (t : ℕ) (list : List ℕ) → replicate (prefix_len (nat_eq t) list) t ++ drop (prefix_len (nat_eq t) list) list ≡ list
repeats_whole t [] = refl
repeats_whole t (u ∷ list) = one_before t u list (prefix_len (nat_eq t) list) (repeats_whole t list) (nat_eq t u) refl

-- with one item more the list is longer by its copies
pub spelled_more : (items : List ListItem) (item : ListItem) → spelled_by (items ++ item ∷ []) ≡ spelled_by items ++ copies_of item
spelled_more items item = flat_map-append copies_of items (item ∷ []) ∙ ap (λ l. spelled_by items ++ l) (append-nil (copies_of item))

-- an item for a train and for those behind it that are equal to it
pub spelled_on : (items : List ListItem) (t n : ℕ) (others list : List ℕ) → n ≡ prefix_len (nat_eq t) others → spelled_by items ++ t ∷ others ≡ list
    → spelled_by (items ++ record { train = t; count = n + 1 } ∷ []) ++ drop n others ≡ list
spelled_on items t n others list count whole =
    let item : ListItem = record { train = t; count = n + 1 } in
    let one_more : n + 1 ≡ suc n = omega arith in
    let rest : replicate n t ++ drop n others ≡ others = subst (λ (m : ℕ). replicate m t ++ drop m others ≡ others) (sym count) (repeats_whole t others) in
    ap (λ l. l ++ drop n others) (spelled_more items item)
    ∙ append_assoc (spelled_by items) (copies_of item) (drop n others)
    ∙ ap (λ (m : ℕ). spelled_by items ++ (replicate m t ++ drop n others)) one_more
    ∙ ap (λ l. spelled_by items ++ t ∷ l) rest
    ∙ whole
