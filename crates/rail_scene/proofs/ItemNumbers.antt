-- The number of an item in a refusal.
use Rattle.std.proofs.Common.{◌≡◌, ℕ, suc, ◌+◌, ◌≤◌, Bool, true, false, cond, List, [], length, Option, Some, None, refl, arith}
use Rattle.std.specs.Prelude.{IfSome, min, unwrap_or}
use Rattle.std.specs.Option.{option_map_or}
use Rattle.std.specs.Str.{is_utf8}
use Rattle.toml.specs.Data.{Data, string, integer, float, boolean, datetime, array, table, Members, no_members, get_member}
use Rattle.toml.specs.Parse.{parse_document}
use Rattle.rail_scene.specs.declared.keys.Key.{Key}
use Rattle.rail_scene.specs.declared.keys.ListPart.{ListPart}
use Rattle.rail_scene.specs.Fields.{elements_at, elements_of}
use Rattle.rail_scene.specs.Keys.{list_key, text_of}
use Rattle.rail_scene.specs.Order.{item_number}
use Rattle.rail_scene.specs.SpelledScenes.{document, root_of}
use Rattle.rail_scene.proofs.TomlLists.{document-narrow, width}

-- the elements of a value are its items
elements_are : (d : Data) → length (elements_of d) ≡ width d
elements_are (string s) = refl
elements_are (integer z) = refl
elements_are (float x) = refl
elements_are (boolean b) = refl
elements_are (datetime dt) = refl
elements_are (array ds) = refl
elements_are (table ms) = refl

-- so are those at a key
at_key : (n : ℕ) (o : Option Data) → IfSome o (λ d. width d ≤ n) → length (option_map_or elements_of o []) ≤ n
at_key n None h = omega arith
at_key n (Some d) h = omega (arith, h, elements_are d)

-- no list of a file has more tables than twice its bytes, and one
few_elements : (bytes : List ℕ) (key : Key) → length (elements_at key (root_of bytes)) ≤ length bytes + suc (length bytes)
unfolding root_of document
few_elements bytes key = of (is_utf8 bytes) (parse_document bytes) (document-narrow bytes)
  where
    n : ℕ
    n = length bytes + suc (length bytes)

    of : (b : Bool) (o : Option Members) → IfSome o (λ members. (k : List ℕ) → IfSome (get_member k members) (λ d. width d ≤ n))
        → length (elements_at key (table (unwrap_or (cond b o None) no_members))) ≤ n
    of true (Some members) h = at_key n (get_member (text_of key.name) members) (h (text_of key.name))
    of true None h = omega arith
    of false o h = omega arith

-- the lesser of two numbers
smaller : (n m : ℕ) → n ≤ m → min n m ≡ n
smaller n m le = omega (arith, le)

-- so the number of an item is told as it is
pub told_number : (bytes : List ℕ) → length bytes ≤ 1_048_576 → (part : ListPart) (n : ℕ) → n ≤ length (elements_at (list_key part) (root_of bytes)) → item_number n ≡ n
told_number bytes short part n le =
    let few = few_elements bytes (list_key part) in
    let small : n ≤ 4_294_967_295 = omega (arith, few, le, short) in
    smaller n 4_294_967_295 small
