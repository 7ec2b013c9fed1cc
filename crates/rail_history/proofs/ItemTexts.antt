-- The words of a list, from its front on.
use Rattle.std.proofs.Common.{◌≡◌, ℕ, List, ◌∷◌, ◌++◌, map, sym, ap, ◌∙◌}
use Rattle.std.proofs.lemmas.List.{append-nil}
use Rattle.rail_base.specs.declared.names.Names.{Names}
use Rattle.rail_rules.specs.Texts.{behind}
use Rattle.rail_text.specs.Names.{names_in, train_name}
use Rattle.rail_history.specs.Lines.{item_text}

-- the words of a list whose trains are each named by themselves: the first one's, and those of the others
pub first_name : (names : Names) (list : List ℕ) (t : ℕ) (others : List ℕ) → list ≡ t ∷ others
    → behind (map (train_name (names_in names)) list) ≡ (32 ∷ item_text names (record { train = t; count = 1 })) ++ behind (map (train_name (names_in names)) others)
first_name names list t others front =
    ap (λ (ts : List ℕ). behind (map (train_name (names_in names)) ts)) front
    ∙ sym (ap (λ (word : List ℕ). (32 ∷ word) ++ behind (map (train_name (names_in names)) others)) (append-nil (train_name (names_in names) t)))
