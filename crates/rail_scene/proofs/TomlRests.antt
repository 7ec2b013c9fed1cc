-- What is read of a text leaves a text that is no longer.
use Rattle.std.proofs.Common.{ℕ, zero, suc, ◌≤◌, ◌==◌, ◌&&◌, nat_lt, Bool, true, false, if◌then◌else◌, List, [], ◌∷◌, ◌++◌, length, take, drop, slice_index, Option, Some, None, is_some, unwrap_or, arith}
use Rattle.std.specs.Prelude.{IfSome, option_map, option_and_then}
use Rattle.std.specs.List.{prefix_len}
use Rattle.std.proofs.lemmas.List.{length-drop}
use Rattle.toml_parser.specs.Lexical.{Read, first, skip_ws, skip_from, skip_blank, skip_turn, is_ws, is_bare, dot, backslash, starts_newline}
use Rattle.toml_parser.specs.Strings.{hex_escape, escape_char, escape, special, body, quoted, one_line, simple_key, key_after, key, simple_escape, hex_len, at_delims, after_piece, prepend, is_plain, trim_newline, starts_string, recursion_limit}
use Rattle.toml_parser.specs.Lexical.{comma, equals, left_bracket, right_bracket, left_brace, right_brace}
use Rattle.toml_parser.specs.Numbers.{unquoted, word_len, word_value}
use Rattle.toml.specs.Data.{Data, Items, no_items, push_item}
use Rattle.toml.specs.Tables.{Nodes, no_nodes, array_table, put}
use Rattle.toml.specs.Parse.{after_byte, after_element, key_equals, keyval, items, members, atom, val, header_key, expression}

-- what is read leaves at most so many bytes
abbrev pub Within : {A : Type 0} → ℕ → Read A → Type 0
Within n r = IfSome r (λ p. length p.1 ≤ n)

pub within-bind : {A B : Type 0} (n : ℕ) (r : Read A) (f : A × List ℕ → Read B) → Within n r → ((p : A × List ℕ) → length p.1 ≤ n → Within n (f p)) → Within n (option_and_then f r)
within-bind n None f h g = tt
within-bind n (Some p) f h g = g p h

pub within-map : {A B : Type 0} (n : ℕ) (r : Read A) (f : A × List ℕ → B × List ℕ) → Within n r → ((p : A × List ℕ) → length p.1 ≤ n → length (f p).1 ≤ n) → Within n (option_map f r)
within-map n None f h g = tt
within-map n (Some p) f h g = g p h

pub within-if : {A : Type 0} (n : ℕ) (b : Bool) (x y : Read A) → Within n x → Within n y → Within n (if b then x else y)
within-if n true x y h g = h
within-if n false x y h g = g

pub shorter-if : (n : ℕ) (b : Bool) (x y : List ℕ) → length x ≤ n → length y ≤ n → length (if b then x else y) ≤ n
shorter-if n true x y h g = h
shorter-if n false x y h g = g

-- what is dropped
pub dropped : (n k : ℕ) (text : List ℕ) → length text ≤ n → length (drop k text) ≤ n
dropped n k text le = omega (arith, le, length-drop k text)

pub after_ws : (n : ℕ) (text : List ℕ) → length text ≤ n → length (skip_ws text) ≤ n
unfolding skip_ws
after_ws n text le = dropped n (prefix_len is_ws text) text le

from-within : (comments inside : Bool) (n : ℕ) (text : List ℕ) → length text ≤ n → length (skip_from comments inside text) ≤ n
unfolding skip_from
from-within comments inside n [] le = le
from-within comments inside n (c ∷ cs) le =
    let turn = skip_turn comments inside c (first cs) in
    shorter-if n (is_some turn) (skip_from comments (unwrap_or turn false) cs) (c ∷ cs) (from-within comments (unwrap_or turn false) n cs (omega (arith, le))) le

pub after_blank : (n : ℕ) (text : List ℕ) → length text ≤ n → length (skip_blank text) ≤ n
after_blank n text le = from-within true false n text le

-- escapes
hex-within : (n k : ℕ) (text : List ℕ) → length text ≤ n → Within n (hex_escape k text)
unfolding hex_escape
hex-within n k text le = within-if n _ (Some _) None (dropped n k text le) tt

simple-within : (n : ℕ) (o : Option ℕ) (rest : List ℕ) → length rest ≤ n → Within {A = ℕ} n (option_map (λ c. (c, rest)) o)
simple-within n None rest le = tt
simple-within n (Some c) rest le = le

char-within : (n : ℕ) (text : List ℕ) → length text ≤ n → Within n (escape_char text)
unfolding escape_char
char-within n text le =
    within-if n (nat_lt 0 (hex_len (first text))) (hex_escape (hex_len (first text)) (drop 1 text)) _ (hex-within n (hex_len (first text)) (drop 1 text) (dropped n 1 text le))
    (simple-within n (simple_escape (first text)) (drop 1 text) (dropped n 1 text le))

escape-within : (n : ℕ) (multi : Bool) (text : List ℕ) → length text ≤ n → Within n (escape multi text)
unfolding escape
escape-within n multi text le =
    within-if n (multi && starts_newline (skip_ws text)) _ _ (from-within false false n text le)
    (within-map n (escape_char text) _ (char-within n text le) (λ p h. h))

-- strings
delims-within : (n delim : ℕ) (text : List ℕ) → length text ≤ n → Within n (at_delims delim text)
delims-within n delim text le =
    let count = prefix_len (λ c. c == delim) text in
    within-if n (count == 3) _ _ (dropped n 3 text le) (within-if n (nat_lt count 6) _ None (dropped n 1 text le) tt)

special-within : (n delim : ℕ) (multi : Bool) (text : List ℕ) → length text ≤ n → Within n (special delim multi text)
unfolding special
special-within n delim multi text le =
    within-if n (first text == delim) _ _
    (within-if n multi (at_delims delim text) _ (delims-within n delim text le) (dropped n 1 text le))
    (within-if n (first text == backslash) _ _
    (within-map n (escape multi (drop 1 text)) _ (escape-within n multi (drop 1 text) (dropped n 1 text le)) (λ p h. h))
    (within-if n (multi && starts_newline text) _ None (dropped n 1 text le) tt))

prepend-within : (n : ℕ) (front : List ℕ) (r : Read (List ℕ)) → Within n r → Within n (prepend front r)
prepend-within n front r h = within-map n r _ h (λ p le. le)

-- what follows a piece
piece-within : (n : ℕ) (more : List ℕ → Read (List ℕ)) → ((rest : List ℕ) → length rest ≤ n → Within n (more rest)) → (o : Option (List ℕ)) (rest : List ℕ) → length rest ≤ n
    → Within n (after_piece more o rest)
piece-within n more each None rest h = h
piece-within n more each (Some bytes) rest h = prepend-within n bytes (more rest) (each rest h)

body-within : (n delim : ℕ) (multi : Bool) (m : ℕ) (text : List ℕ) → length text ≤ n → Within n (body delim multi m text)
unfolding body
body-within n delim multi zero text le = tt
body-within n delim multi (suc m) text le =
    within-if n (is_plain delim multi (first text)) _ _
    (prepend-within n (first text ∷ []) _ (body-within n delim multi m (drop 1 text) (dropped n 1 text le)))
    (within-bind n (special delim multi text) _ (special-within n delim multi text le) (λ p h. piece-within n (body delim multi m) (body-within n delim multi m) p.0 p.1 h))

one-within : (n : ℕ) (text : List ℕ) → length text ≤ n → Within n (one_line text)
unfolding one_line
one-within n text le = body-within n (first text) false (length text) (drop 1 text) (dropped n 1 text le)

trim-within : (n : ℕ) (text : List ℕ) → length text ≤ n → length (trim_newline text) ≤ n
trim-within n text le = shorter-if n _ _ _ (dropped n 1 text le) (shorter-if n (starts_newline text) _ text (dropped n 2 text le) le)

pub quoted-within : (n : ℕ) (text : List ℕ) → length text ≤ n → Within n (quoted text)
unfolding quoted
quoted-within n text le =
    within-if n _ _ _ (body-within n (first text) true (length text) (trim_newline (drop 3 text)) (trim-within n (drop 3 text) (dropped n 3 text le)))
    (one-within n text le)

-- keys
simple_key-within : (n : ℕ) (text : List ℕ) → length text ≤ n → Within n (simple_key text)
unfolding simple_key
simple_key-within n text le =
    within-if n (starts_string text) (one_line text) _ (one-within n text le)
    (within-if n (is_bare (first text)) _ None (dropped n (prefix_len is_bare text) text le) tt)

key_after-within : (n m : ℕ) (path : List (List ℕ)) (text : List ℕ) → length text ≤ n → Within n (key_after m path text)
unfolding key_after
key_after-within n zero path text le = tt
key_after-within n (suc m) path text le =
    within-bind n (simple_key text) _ (simple_key-within n text le) (λ p h.
    let rest = skip_ws p.1 in
    let fits = after_ws n p.1 h in
    within-if n (first rest == dot) _ _ (key_after-within n m (path ++ p.0 ∷ []) (skip_ws (drop 1 rest)) (after_ws n (drop 1 rest) (dropped n 1 rest fits))) fits)

pub key-within : (n : ℕ) (text : List ℕ) → length text ≤ n → Within n (key text)
key-within n text le = key_after-within n recursion_limit [] text le

-- scalars
word-within : {A : Type 0} (n k : ℕ) (text : List ℕ) (o : Option A) → length text ≤ n → Within {A = A} n (option_map (λ d. (d, drop k text)) o)
word-within n k text None le = tt
word-within n k text (Some d) le = dropped n k text le

unquoted-within : (n : ℕ) (text : List ℕ) → length text ≤ n → Within n (unquoted text)
unfolding unquoted
unquoted-within n text le = within-if n (word_len text == 0) None _ tt (word-within n (word_len text) text (word_value (take (word_len text) text)) le)

atom-within : (n : ℕ) (text : List ℕ) → length text ≤ n → Within n (atom text)
unfolding atom
atom-within n text le =
    within-if n (starts_string text) _ _ (within-map n (quoted text) _ (quoted-within n text le) (λ p h. h)) (within-map n (unquoted text) _ (unquoted-within n text le) (λ p h. h))

-- a byte that has to stand at the front
rest-within : {A : Type 0} (n : ℕ) (a : A) (o : Option (List ℕ)) → IfSome o (λ rest. length rest ≤ n) → Within {A = A} n (option_map (λ rest. (a, rest)) o)
rest-within n a None h = tt
rest-within n a (Some rest) h = h

skipped-within : {A : Type 0} (n : ℕ) (a : A) (o : Option (List ℕ)) → IfSome o (λ rest. length rest ≤ n) → Within {A = A} n (option_map (λ rest. (a, skip_ws rest)) o)
skipped-within n a None h = tt
skipped-within n a (Some rest) h = after_ws n rest h

byte-within : (n byte : ℕ) (text : List ℕ) → length text ≤ n → IfSome (after_byte byte text) (λ rest. length rest ≤ n)
byte-within n byte text le = of (first text == byte)
  where
    of : (b : Bool) → IfSome (if b then Some (drop 1 text) else None) (λ rest. length rest ≤ n)
    of true = dropped n 1 text le
    of false = tt

element-within : (n closing : ℕ) (text : List ℕ) → length text ≤ n → IfSome (after_element closing text) (λ rest. length rest ≤ n)
unfolding after_element
element-within n closing text le = of (first (skip_blank text) == comma) (first (skip_blank text) == closing)
  where
    of : (b c : Bool) → IfSome (if b then Some (drop 1 (skip_blank text)) else if c then Some (skip_blank text) else None) (λ rest. length rest ≤ n)
    of true c = dropped n 1 (skip_blank text) (after_blank n text le)
    of false true = after_blank n text le
    of false false = tt

-- what goes on behind a byte or an element
some-bind : {B : Type 0} (n : ℕ) (o : Option (List ℕ)) (f : List ℕ → Read B) → IfSome o (λ rest. length rest ≤ n) → ((rest : List ℕ) → length rest ≤ n → Within n (f rest)) → Within n (option_and_then f o)
some-bind n None f h g = tt
some-bind n (Some rest) f h g = g rest h

nodes-bind : {B : Type 0} (n : ℕ) (o : Option Nodes) (f : Nodes → Read B) → ((nodes : Nodes) → Within n (f nodes)) → Within n (option_and_then f o)
nodes-bind n None f g = tt
nodes-bind n (Some nodes) f g = g nodes

pub equals-within : (n : ℕ) (text : List ℕ) → length text ≤ n → Within n (key_equals text)
unfolding key_equals
equals-within n text le = within-bind n (key text) _ (key-within n text le) (λ k h. skipped-within n k.0 (after_byte equals k.1) (byte-within n equals k.1 h))

-- values, arrays and inline tables
module _ (n : ℕ) (val : List ℕ → Read Data) (each : (text : List ℕ) → length text ≤ n → Within n (val text)) where
  keyval-within : (text : List ℕ) → length text ≤ n → Within n (keyval val text)
  keyval-within text le = within-bind n (key_equals text) _ (equals-within n text le) (λ k h. within-map n (val k.1) _ (each k.1 h) (λ p h'. h'))

  items-within : (m : ℕ) (found : Items) (text : List ℕ) → length text ≤ n → Within n (items val m found text)
  unfolding items
  items-within zero found text le = tt
  items-within (suc m) found text le =
      let start = skip_blank text in
      let fits = after_blank n text le in
      within-if n (first start == right_bracket) _ _ (dropped n 1 start fits)
      (within-bind n (val start) _ (each start fits) (λ v h. some-bind n (after_element right_bracket v.1) _ (element-within n right_bracket v.1 h) (items-within m (push_item found v.0))))

  members-within : (m : ℕ) (found : Nodes) (text : List ℕ) → length text ≤ n → Within n (members val m found text)
  unfolding members
  members-within zero found text le = tt
  members-within (suc m) found text le =
      let start = skip_blank text in
      let fits = after_blank n text le in
      within-if n (first start == right_brace) _ _ (dropped n 1 start fits)
      (within-bind n (keyval val start) _ (keyval-within start fits) (λ e h. nodes-bind n (put e.0.0 e.0.1 found) _ (λ more. some-bind n (after_element right_brace e.1) _ (element-within n right_brace e.1 h) (members-within m more))))

val-within : (n depth : ℕ) (text : List ℕ) → length text ≤ n → Within n (val depth text)
unfolding val
val-within n zero text le = atom-within n text le
val-within n (suc depth) text le =
    within-if n (first text == left_bracket) _ _ (within-map n (items (val depth) (length text) no_items (drop 1 text)) _ (items-within n (val depth) (val-within n depth) (length text) no_items (drop 1 text) (dropped n 1 text le)) (λ p h. h))
    (within-if n (first text == left_brace) _ _ (within-map n (members (val depth) (length text) no_nodes (drop 1 text)) _ (members-within n (val depth) (val-within n depth) (length text) no_nodes (drop 1 text) (dropped n 1 text le)) (λ p h. h))
    (atom-within n text le))

-- lines
header-within : (n : ℕ) (text : List ℕ) → length text ≤ n → Within n (header_key text)
unfolding header_key
header-within n text le = within-bind n (key (skip_ws text)) _ (key-within n (skip_ws text) (after_ws n text le)) (λ k h. rest-within n k.0 (after_byte right_bracket k.1) (byte-within n right_bracket k.1 h))

pub expression-within : (n : ℕ) (text : List ℕ) → length text ≤ n → Within n (expression text)
unfolding expression
expression-within n text le =
    within-if n (first text == left_bracket && slice_index text 1 == left_bracket) _ _
    (within-bind n (header_key (drop 2 text)) _ (header-within n (drop 2 text) (dropped n 2 text le)) (λ k h. rest-within n (k.0, array_table) (after_byte right_bracket k.1) (byte-within n right_bracket k.1 h)))
    (within-if n (first text == left_bracket) _ _ (within-map n (header_key (drop 1 text)) _ (header-within n (drop 1 text) (dropped n 1 text le)) (λ p h. h))
    (within-map n (keyval (val recursion_limit) text) _ (keyval-within n (val recursion_limit) (val-within n recursion_limit) text le) (λ p h. h)))
