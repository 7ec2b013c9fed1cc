-- How the bytes of a name are stored.
use Rattle.std.proofs.Common.{◌≡◌, ℕ, ◌≤◌, ◌-◌, List, ◌++◌, length, drop, take, replicate, arith, length-append, length-drop, ap, sym, ◌∙◌, IsTrue, subst}
use Rattle.std.specs.Cmp.{both_ways}
use Rattle.std.specs.Cmp.Lexicographic.{bytes_decides}
use Rattle.std.proofs.lemmas.List.{take-append-drop}
use Rattle.std.proofs.lemmas.List.{drop-replicate, drop_at, take_at, length-replicate}
use Rattle.rail_base.specs.declared.text.Name.TheInside.{Inside}
use Rattle.rail_base.specs.NameForms.{is_name, same_name}
use Rattle.rail_base.specs.NameFields.{IsNameInside, bytes_of}

-- a name in front of zeros, sixteen bytes in all, is stored as a name
pub stored_name : (bytes front : List ℕ) → front ≡ bytes → length bytes ≤ 16 → IsTrue (is_name bytes) → IsNameInside (record { bytes = front ++ drop (length bytes) (replicate 16 0); len = length bytes })
stored_name bytes front same short named =
    let zeros : List ℕ = drop (length bytes) (replicate 16 0) in
    let front_is : length front ≡ length bytes = ap length same in
    let taken : take (length bytes) (front ++ zeros) ≡ bytes = take_at front zeros (length bytes) front_is ∙ same in
    record {
      whole = length-append front zeros ∙ omega (arith, length-drop {A = ℕ} (length bytes) (replicate 16 0), length-replicate {A = ℕ} 16 0, short);
      short = short;
      padded = drop_at front zeros (length bytes) front_is ∙ drop-replicate (length bytes) 16 0;
      named = let P : List ℕ → Type 0 = λ xs. IsTrue (is_name xs) in subst P (sym taken) named;
    }

-- what was stored reads back
pub taken_name : (bytes front rest : List ℕ) → front ≡ bytes → take (length bytes) (front ++ rest) ≡ bytes
taken_name bytes front rest same = take_at front rest (length bytes) (ap length same) ∙ same

-- names of one length are the same where their rooms hold the same, since zeros stand behind both
pub same_stored : (a b : Inside) → IsNameInside a → IsNameInside b → a.len ≡ b.len → same_name a.bytes b.bytes ≡ same_name (bytes_of a) (bytes_of b)
same_stored a b in_a in_b len =
    both_ways (same_name a.bytes b.bytes) (same_name (bytes_of a) (bytes_of b))
    (λ h. (bytes_decides (bytes_of a) (bytes_of b)).1 (λ i. take (len i) ((bytes_decides a.bytes b.bytes).0 h i)))
    (λ h. (bytes_decides a.bytes b.bytes).1 (
    sym (take-append-drop a.len a.bytes)
    ∙ (λ i. (bytes_decides (bytes_of a) (bytes_of b)).0 h i ++ in_a.padded i)
    ∙ ap (λ (k : ℕ). bytes_of b ++ replicate (16 - k) 0) len
    ∙ ap (λ (rest : List ℕ). bytes_of b ++ rest) (sym in_b.padded)
    ∙ take-append-drop b.len b.bytes))
