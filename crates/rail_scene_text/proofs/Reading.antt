-- What the fields of a table are read as: names, numbers, and lists of names.
use Rattle.std.proofs.Common.{◌≡◌, ℕ, suc, ◌≤◌, true, false, not, ◌&&◌, if◌then◌else◌, List, [], ◌∷◌, map, length, Option, Some, None, is_some, unwrap_or, nat_le, refl, ap, arith}
use Rattle.std.specs.List.{list_all}
use Rattle.std.proofs.lemmas.Bool.{and_parts}
use Rattle.std.proofs.lemmas.Bool.Decides.{nat_tests}
use Rattle.toml.specs.Data.{Data, string}
use Rattle.toml.specs.View.{items_of}
use Rattle.rail_base.specs.NameForms.{is_name}
use Rattle.rail_scene.specs.Fields.{listed, names_in, are_names, name_read, bounded}
use Rattle.rail_scene.specs.Forms.{is_string}

-- the items that an array lists
pub listed_items : (ds : List Data) → listed (items_of ds) ≡ ds
listed_items [] = refl
listed_items (d ∷ ds) = ap (λ es. d ∷ es) (listed_items ds)

-- what was read does not fail
pub found : {A : Type 0} (o : Option A) (a : A) → o ≡ Some a → not (is_some o) ≡ false
found o a is = ap (λ p. not (is_some p)) is

pub name_is : (name : List ℕ) → is_name name ≡ true → name_read name ≡ Some name
name_is name is = ap (λ b. if b then Some name else None) is

pub number_is : (low high default n : ℕ) → (nat_le low n && nat_le n high) ≡ true → bounded (record { low = low; high = high; default = default }) n ≡ Some n
number_is low high default n is = ap (λ b. if b then Some n else None) is

-- a number up to a limit is one from 0 to it
pub from_zero : (high n : ℕ) → nat_le n high ≡ true → (nat_le 0 n && nat_le n high) ≡ true
from_zero high n is = let low : nat_le 0 n ≡ true = grind (arith, nat_tests) in λ i. low i && is i

pub up_to : (high n : ℕ) → n ≤ high → nat_le n high ≡ true
up_to high n le = grind (arith, nat_tests)

-- the names that an array of names lists
pub names_listed : (names : List (List ℕ)) → list_all is_name names ≡ true → names_in (listed (items_of (map string names))) ≡ names
names_listed [] all = refl
names_listed (x ∷ xs) all =
    let (here, more) = and_parts (is_name x) (list_all is_name xs) all in
    λ i. unwrap_or (name_is x here i) [] ∷ names_listed xs more i

pub names_are : (names : List (List ℕ)) → list_all is_name names ≡ true → are_names (listed (items_of (map string names))) ≡ true
names_are [] all = refl
names_are (x ∷ xs) all =
    let (here, more) = and_parts (is_name x) (list_all is_name xs) all in
    λ i. is_some (name_is x here i) && names_are xs more i

pub names_count : (names : List (List ℕ)) → length (listed (items_of (map string names))) ≡ length names
names_count [] = refl
names_count (x ∷ xs) = ap suc (names_count xs)

pub strings : (names : List (List ℕ)) → list_all is_string (listed (items_of (map string names))) ≡ true
strings [] = refl
strings (x ∷ xs) = strings xs
