-- The list of any part, from its items: what holds of each item holds of the list.
use Rattle.std.proofs.Common.{◌≡◌, ℕ, ◌+◌, Bool, true, false, cond, ◌&&◌, List, [], ◌∷◌, ◌++◌, map, Some, None, refl, sym, ap, ◌∙◌, append_assoc}
use Rattle.std.specs.List.{list_all}
use Rattle.std.proofs.lemmas.Bool.{and_parts}
use Rattle.toml.specs.Data.{Data}
use Rattle.rail_base.specs.FirstRefusals.{first_failing}
use Rattle.rail_base.specs.declared.refusals.Reason.TheVariants.{TooMany}
use Rattle.rail_track.specs.declared.section.NetFault.TheVariants.{Refused}
use Rattle.rail_scene.specs.declared.keys.ListPart.{ListPart}
use Rattle.rail_scene.specs.declared.versions.Version.{Version}
use Rattle.rail_scene.specs.Forms.{form_tests, is_table}
use Rattle.rail_scene.specs.Keys.{keys_of, part_of}
use Rattle.rail_scene.specs.Order.{located, list_forms, list_values}
use Rattle.rail_scene.specs.SceneItems.{SceneItems, item_tests, own_tests, place_tests, is_full, with_items}
use Rattle.rail_scene.specs.Values.{value_tests}
use Rattle.rail_scene.proofs.CallerLemmas.{both_passed, located_none}

-- a fact of each item
abbrev pub Each : {X : Type 0} → (X → Type 0) → List X → Type 0
Each G [] = Unit {0}
Each G (x ∷ xs) = G x × Each G xs

-- two tests that all items pass
pub each_both : {X : Type 0} (p q : X → Bool) (xs : List X) → list_all p xs ≡ true → list_all q xs ≡ true → Each (λ x. (p x ≡ true) × (q x ≡ true)) xs
each_both p q [] a b = tt
each_both p q (x ∷ xs) a b =
    let (here, more) = and_parts (p x) (list_all p xs) a in
    let (there, rest) = and_parts (q x) (list_all q xs) b in
    ((here, there), each_both p q xs more rest)

-- an item passes after those before it: the list is not full, its values pass, and it is accepted
pub item_none : (p : ListPart) (version : Version) (items : SceneItems) (d : Data) → is_full p items ≡ false → first_failing (value_tests 1 (keys_of p version) d) ≡ None
    → first_failing (place_tests p version items d) ≡ None → first_failing (item_tests p version items d) ≡ None
item_none p version items d room values place =
    ap (λ b. cond b (Some (Refused TooMany 0)) (first_failing (own_tests p version items d))) room
    ∙ both_passed (value_tests 1 (keys_of p version) d) (place_tests p version items d) values place

module _ (p : ListPart) (version : Version) {X : Type 0} (f : X → Data) (G : X → Type 0) where
  pub are_tables : ((x : X) → is_table (f x) ≡ true) → (xs : List X) → list_all is_table (map f xs) ≡ true
  are_tables each [] = refl
  are_tables each (x ∷ xs) = λ i. each x i && are_tables each xs i

  pub forms_pass : ((x : X) → G x → first_failing (form_tests (keys_of p version) (f x)) ≡ None)
      → (n : ℕ) (xs : List X) → Each G xs → first_failing (list_forms p version n (map f xs)) ≡ None
  forms_pass each n [] all = refl
  forms_pass each n (x ∷ xs) all =
      both_passed (located (part_of p) n (form_tests (keys_of p version) (f x))) (list_forms p version (n + 1) (map f xs))
      (located_none (part_of p) n (form_tests (keys_of p version) (f x)) (each x all.0)) (forms_pass each (n + 1) xs all.1)

  pub spelled : (read : Data → X) → ((x : X) → G x → read (f x) ≡ x) → (xs : List X) → Each G xs → map read (map f xs) ≡ xs
  spelled read each [] all = refl
  spelled read each (x ∷ xs) all = λ i. each x all.0 i ∷ spelled read each xs all.1 i

  -- D has the items so far
  module _ (D : List X → SceneItems) (xs : List X)
      (passes : (before : List X) (x : X) (after : List X) → xs ≡ before ++ x ∷ after → G x → first_failing (item_tests p version (D before) (f x)) ≡ None)
      (next : (before : List X) (x : X) → G x → with_items p version (f x ∷ []) (D before) ≡ D (before ++ x ∷ [])) where
    pub values_pass : (n : ℕ) (before rest : List X) → xs ≡ before ++ rest → Each G rest → first_failing (list_values p version n (D before) (map f rest)) ≡ None
    values_pass n before [] is all = refl
    values_pass n before (x ∷ rest) is all =
        both_passed (located (part_of p) n (item_tests p version (D before) (f x))) (list_values p version (n + 1) (with_items p version (f x ∷ []) (D before)) (map f rest))
        (located_none (part_of p) n (item_tests p version (D before) (f x)) (passes before x rest is all.0))
        (ap (λ items. first_failing (list_values p version (n + 1) items (map f rest))) (next before x all.0)
        ∙ values_pass (n + 1) (before ++ x ∷ []) rest (is ∙ sym (append_assoc before (x ∷ []) rest)) all.1)
