-- How long the lists of a TOML document are: no longer than twice its text.
use Rattle.std.proofs.Common.{◌≡◌, ℕ, zero, suc, ◌+◌, ◌≤◌, ◌==◌, ◌&&◌, Bool, true, false, if◌then◌else◌, List, [], ◌∷◌, ◌++◌, length, drop, slice_index, Option, Some, None, Ordering, Less, Equal, Greater, refl, ap, arith}
use Rattle.std.specs.Prelude.{IfSome, option_map, option_and_then}
use Rattle.std.specs.Ordering.{nat_cmp, match_ordering}
use Rattle.std.specs.Cmp.Lexicographic.{slice_cmp}
use Rattle.toml_parser.specs.Lexical.{Read, first, skip_blank, right_bracket, left_bracket, left_brace}
use Rattle.toml_parser.specs.Lexical.{skip_ws}
use Rattle.toml_parser.specs.Strings.{Key, quoted, starts_string, recursion_limit}
use Rattle.toml_parser.specs.Numbers.{unquoted}
use Rattle.toml_parser.specs.declared.scalar.Scalar.{Scalar}
use Rattle.toml_parser.specs.declared.scalar.Scalar.TheVariants.{Boolean, Integer, Float, Datetime}
use Rattle.toml.specs.Data.{Data, string, integer, float, boolean, datetime, array, table, Items, no_items, item, no_members, push_item, get_member, same_key}
use Rattle.toml.specs.Tables.{Node, value, open_table, open_array, Nodes, no_nodes, node, Edit, implicit, dotted, header, get_node, insert, replace, close, close_node, Definition, key_value, std_table, array_table, Expression, Document, new_node, redefine, at_found, at_key, put, define, define_as, along_header, along_dots, by_header, by_dot, header_node, dot_node}
use Rattle.toml.specs.Parse.{items, members, val, atom, scalar_data, key_equals, header_key, after_byte, expression, line, lines, parse_document, skip_bom, keyval, ends_line, after_element, read_map}
use Rattle.rail_scene.specs.Fields.{listed}
use Rattle.rail_scene.proofs.TomlRests.{Within, after_blank, dropped, equals-within, expression-within}

-- how many items there are
abbrev items_length : Items → ℕ
items_length ds = length (listed ds)

-- how many items a value has, where it is an array
abbrev pub width : Data → ℕ
width (array ds) = items_length ds
width (string s) = 0
width (integer z) = 0
width (float x) = 0
width (boolean b) = 0
width (datetime dt) = 0
width (table ms) = 0

pub length-push : (ds : Items) (d : Data) → items_length (push_item ds d) ≡ suc (items_length ds)
length-push no_items d = refl
length-push (item e ds) d = ap suc (length-push ds d)

-- no array among the values of the nodes has more than n items
abbrev pub Narrow : ℕ → Nodes → Type 0
Narrow n no_nodes = Unit {0}
Narrow n (node k x ns) = (width (close_node x) ≤ n) × Narrow n ns

abbrev pub AllNarrow : ℕ → Option Nodes → Type 0
AllNarrow n o = IfSome o (λ ns. Narrow n ns)

pub wider : (n m : ℕ) (ns : Nodes) → n ≤ m → Narrow n ns → Narrow m ns
wider n m no_nodes le h = tt
wider n m (node k x ns) le h = (omega (arith, le, h.0), wider n m ns le h.1)

got : (n : ℕ) (k : List ℕ) (ns : Nodes) → Narrow n ns → IfSome (get_node k ns) (λ x. width (close_node x) ≤ n)
got n k no_nodes h = tt
got n k (node l x ns) h = of (same_key k l) (got n k ns h.1)
  where
    of : (b : Bool) → IfSome (get_node k ns) (λ x. width (close_node x) ≤ n) → IfSome (if b then Some x else get_node k ns) (λ x. width (close_node x) ≤ n)
    of true later = h.0
    of false later = later

inserted : (n : ℕ) (k : List ℕ) (x : Node) (ns : Nodes) → width (close_node x) ≤ n → Narrow n ns → Narrow n (insert k x ns)
inserted n k x no_nodes le h = (le, tt)
inserted n k x (node l y ns) le h = of (slice_cmp nat_cmp k l) (inserted n k x ns le h.1)
  where
    of : (o : Ordering) → Narrow n (insert k x ns) → Narrow n (match_ordering o (node k x (node l y ns)) (node l x ns) (node l y (insert k x ns)))
    of Less later = (le, h)
    of Equal later = (le, h.1)
    of Greater later = (h.0, later)

replaced : (n : ℕ) (k : List ℕ) (x : Node) (ns : Nodes) → width (close_node x) ≤ n → Narrow n ns → Narrow n (replace k x ns)
replaced n k x no_nodes le h = tt
replaced n k x (node l y ns) le h = of (same_key k l) (replaced n k x ns le h.1)
  where
    of : (b : Bool) → Narrow n (replace k x ns) → Narrow n (if b then node l x ns else node l y (replace k x ns))
    of true later = (le, h.1)
    of false later = (h.0, later)

-- an edit below a key leaves the lists beside it
inserted-if : (n : ℕ) (k : List ℕ) (wrap : Nodes → Node) (ns : Nodes) (o : Option Nodes) → ((new : Nodes) → width (close_node (wrap new)) ≤ n) → Narrow n ns
    → AllNarrow n (option_map (λ new. insert k (wrap new) ns) o)
inserted-if n k wrap ns None flat h = tt
inserted-if n k wrap ns (Some new) flat h = inserted n k (wrap new) ns (flat new) h

replaced-if : (n : ℕ) (k : List ℕ) (ns : Nodes) (o : Option Node) → IfSome o (λ x. width (close_node x) ≤ n) → Narrow n ns → AllNarrow n (option_map (λ new. replace k new ns) o)
replaced-if n k ns None flat h = tt
replaced-if n k ns (Some x) flat h = replaced n k x ns flat h

wrapped-if : (n : ℕ) (wrap : Nodes → Node) (o : Option Nodes) → ((new : Nodes) → width (close_node (wrap new)) ≤ n) → IfSome (option_map wrap o) (λ x. width (close_node x) ≤ n)
wrapped-if n wrap None flat = tt
wrapped-if n wrap (Some new) flat = flat new

header-node : (n : ℕ) (edit : Edit) (x : Node) → width (close_node x) ≤ n → IfSome (header_node edit x) (λ y. width (close_node y) ≤ n)
header-node n edit (value d) h = tt
header-node n edit (open_table origin inner) h = wrapped-if n (open_table origin) (edit inner) (λ new. omega arith)
header-node n edit (open_array done last) h =
    wrapped-if n (open_array done) (edit last) (λ new. omega (arith, h, length-push done (table (close last)), length-push done (table (close new))))

dot-node : (n : ℕ) (edit : Edit) (x : Node) → width (close_node x) ≤ n → IfSome (dot_node edit x) (λ y. width (close_node y) ≤ n)
dot-node n edit (value d) h = tt
dot-node n edit (open_table header inner) h = tt
dot-node n edit (open_table implicit inner) h = wrapped-if n (open_table dotted) (edit inner) (λ new. omega arith)
dot-node n edit (open_table dotted inner) h = wrapped-if n (open_table dotted) (edit inner) (λ new. omega arith)
dot-node n edit (open_array done last) h = tt

by-header : (n : ℕ) (k : List ℕ) (edit : Edit) (ns : Nodes) (o : Option Node) → IfSome o (λ x. width (close_node x) ≤ n) → Narrow n ns → AllNarrow n (by_header k edit ns o)
by-header n k edit ns None at h = inserted-if n k (open_table implicit) ns (edit no_nodes) (λ new. omega arith) h
by-header n k edit ns (Some x) at h = replaced-if n k ns (header_node edit x) (header-node n edit x at) h

by-dot : (n : ℕ) (k : List ℕ) (edit : Edit) (ns : Nodes) (o : Option Node) → IfSome o (λ x. width (close_node x) ≤ n) → Narrow n ns → AllNarrow n (by_dot k edit ns o)
by-dot n k edit ns None at h = inserted-if n k (open_table dotted) ns (edit no_nodes) (λ new. omega arith) h
by-dot n k edit ns (Some x) at h = replaced-if n k ns (dot_node edit x) (dot-node n edit x at) h

-- an edit along a path
along-header : (n : ℕ) (path : List (List ℕ)) (edit : Edit) (ns : Nodes) → AllNarrow n (edit ns) → Narrow n ns → AllNarrow n (along_header path edit ns)
unfolding along_header
along-header n [] edit ns at h = at
along-header n (k ∷ path) edit ns at h = by-header n k (along_header path edit) ns (get_node k ns) (got n k ns h) h

along-dots : (n : ℕ) (path : List (List ℕ)) (edit : Edit) (ns : Nodes) → AllNarrow n (edit ns) → Narrow n ns → AllNarrow n (along_dots path edit ns)
unfolding along_dots
along-dots n [] edit ns at h = at
along-dots n (k ∷ path) edit ns at h = by-dot n k (along_dots path edit) ns (get_node k ns) (got n k ns h) h

-- how wide what stands with a key is
abbrev pub defined_width : Definition → ℕ
defined_width (key_value d) = width d
defined_width std_table = 0
defined_width array_table = 0

new-narrow : (n : ℕ) (what : Definition) → defined_width what ≤ n → width (close_node (new_node what)) ≤ suc n
new-narrow n (key_value d) h = omega (arith, h)
new-narrow n std_table h = omega arith
new-narrow n array_table h = omega arith

redefined : (n : ℕ) (what : Definition) (x : Node) → width (close_node x) ≤ n → IfSome (redefine what x) (λ y. width (close_node y) ≤ suc n)
redefined n std_table (open_table implicit inner) h = omega arith
redefined n std_table (open_table dotted inner) h = tt
redefined n std_table (open_table header inner) h = tt
redefined n std_table (value d) h = tt
redefined n std_table (open_array done last) h = tt
redefined n array_table (open_array done last) h =
    omega (arith, h, length-push done (table (close last)), length-push (push_item done (table (close last))) (table no_members))
redefined n array_table (value d) h = tt
redefined n array_table (open_table origin inner) h = tt
redefined n (key_value d) (value e) h = tt
redefined n (key_value d) (open_table origin inner) h = tt
redefined n (key_value d) (open_array done last) h = tt

at-found : (n : ℕ) (k : List ℕ) (what : Definition) (ns : Nodes) (o : Option Node) → defined_width what ≤ n → IfSome o (λ x. width (close_node x) ≤ n) → Narrow n ns
    → AllNarrow (suc n) (at_found k what ns o)
at-found n k what ns None small at h = inserted (suc n) k (new_node what) ns (new-narrow n what small) (wider n (suc n) ns (omega arith) h)
at-found n k what ns (Some x) small at h = replaced-if (suc n) k ns (redefine what x) (redefined n what x at) (wider n (suc n) ns (omega arith) h)

at-key : (n : ℕ) (k : List ℕ) (what : Definition) (ns : Nodes) → defined_width what ≤ n → Narrow n ns → AllNarrow (suc n) (at_key k what ns)
unfolding at_key
at-key n k what ns small h = at-found n k what ns (get_node k ns) small (got n k ns h) h

put-narrow : (n : ℕ) (key : Key) (d : Data) (ns : Nodes) → width d ≤ n → Narrow n ns → AllNarrow (suc n) (put key d ns)
put-narrow n key d ns small h = along-dots (suc n) key.0 (at_key key.1 (key_value d)) ns (at-key n key.1 (key_value d) ns small h) (wider n (suc n) ns (omega arith) h)

doc-if : {X : Type 0} (n : ℕ) (x : X) (o : Option Nodes) → AllNarrow n o → IfSome (option_map (λ (root : Nodes). (root, x)) o) (λ (doc : Nodes × X). Narrow n doc.0)
doc-if n x None h = tt
doc-if n x (Some ns) h = h

define-narrow : (n : ℕ) (doc : Document) (e : Expression) → defined_width e.1 ≤ n → Narrow n doc.0 → IfSome (define doc e) (λ next. Narrow (suc n) next.0)
unfolding define
define-narrow n doc e small h = of e.1 small
  where
    of : (what : Definition) → defined_width what ≤ n → IfSome (define_as doc e.0 what) (λ next. Narrow (suc n) next.0)
    of (key_value d) small =
        doc-if (suc n) doc.1 (along_header doc.1 (put e.0 d) doc.0) (along-header (suc n) doc.1 (put e.0 d) doc.0 (put-narrow n e.0 d doc.0 small h) (wider n (suc n) doc.0 (omega arith) h))
    of std_table small =
        doc-if (suc n) (e.0.0 ++ e.0.1 ∷ []) (along_header e.0.0 (at_key e.0.1 std_table) doc.0)
        (along-header (suc n) e.0.0 (at_key e.0.1 std_table) doc.0 (at-key n e.0.1 std_table doc.0 small h) (wider n (suc n) doc.0 (omega arith) h))
    of array_table small =
        doc-if (suc n) (e.0.0 ++ e.0.1 ∷ []) (along_header e.0.0 (at_key e.0.1 array_table) doc.0)
        (along-header (suc n) e.0.0 (at_key e.0.1 array_table) doc.0 (at-key n e.0.1 array_table doc.0 small h) (wider n (suc n) doc.0 (omega arith) h))

-- how wide a value is that is read
wide-map : {A B : Type 0} (size : B → ℕ) (n : ℕ) (f : A → B) (r : Read A) → ((a : A) → size (f a) ≤ n) → IfSome (read_map f r) (λ p. size p.0 ≤ n)
wide-map size n f None flat = tt
wide-map size n f (Some p) flat = flat p.0

wide-same : {A B : Type 0} (size : A → ℕ) (wide : B → ℕ) (n : ℕ) (f : A → B) (r : Read A) → ((a : A) → size a ≤ n → wide (f a) ≤ n) → IfSome r (λ p. size p.0 ≤ n)
    → IfSome (read_map f r) (λ p. wide p.0 ≤ n)
wide-same size wide n f None keeps h = tt
wide-same size wide n f (Some p) keeps h = keeps p.0 h

wide-if : {A : Type 0} (size : A → ℕ) (n : ℕ) (b : Bool) (x y : Read A) → IfSome x (λ p. size p.0 ≤ n) → IfSome y (λ p. size p.0 ≤ n) → IfSome (if b then x else y) (λ p. size p.0 ≤ n)
wide-if size n true x y h g = h
wide-if size n false x y h g = g

wide-bind : {A B : Type 0} (size : B → ℕ) (n : ℕ) (r : Read A) (f : A × List ℕ → Read B) → Within n r → ((p : A × List ℕ) → length p.1 ≤ n → IfSome (f p) (λ q. size q.0 ≤ n))
    → IfSome (option_and_then f r) (λ q. size q.0 ≤ n)
wide-bind size n None f h g = tt
wide-bind size n (Some p) f h g = g p h

scalar-flat : (n : ℕ) (s : Scalar) → width (scalar_data s) ≤ n
scalar-flat n (Boolean b) = omega arith
scalar-flat n (Integer z) = omega arith
scalar-flat n (Float x) = omega arith
scalar-flat n (Datetime dt) = omega arith

atom-wide : (n : ℕ) (text : List ℕ) → IfSome (atom text) (λ p. width p.0 ≤ n)
unfolding atom
atom-wide n text = wide-if width n (starts_string text) _ _ (wide-map width n string (quoted text) (λ s. omega arith)) (wide-map width n scalar_data (unquoted text) (scalar-flat n))

-- an array has no more items than may still be read
items-bind : (n : ℕ) (r : Read Data) (f : Data × List ℕ → Read Items) → ((p : Data × List ℕ) → IfSome (f p) (λ q. items_length q.0 ≤ n)) → IfSome (option_and_then f r) (λ q. items_length q.0 ≤ n)
items-bind n None f g = tt
items-bind n (Some p) f g = g p

rest-bind : (n : ℕ) (o : Option (List ℕ)) (f : List ℕ → Read Items) → ((rest : List ℕ) → IfSome (f rest) (λ q. items_length q.0 ≤ n)) → IfSome (option_and_then f o) (λ q. items_length q.0 ≤ n)
rest-bind n None f g = tt
rest-bind n (Some rest) f g = g rest

items-few : (val : List ℕ → Read Data) (m : ℕ) (found : Items) (text : List ℕ) (n : ℕ) → items_length found + m ≤ n → IfSome (items val m found text) (λ p. items_length p.0 ≤ n)
unfolding items
items-few val zero found text n le = tt
items-few val (suc m) found text n le =
    let start = skip_blank text in
    wide-if items_length n (first start == right_bracket) _ _ (omega (arith, le))
    (items-bind n (val start) _ (λ v. rest-bind n (after_element right_bracket v.1) _ (λ rest. items-few val m (push_item found v.0) rest n (omega (arith, le, length-push found v.0)))))

val-wide : (n depth : ℕ) (text : List ℕ) → length text ≤ n → IfSome (val depth text) (λ p. width p.0 ≤ n)
unfolding val
val-wide n zero text le = atom-wide n text
val-wide n (suc depth) text le =
    wide-if width n (first text == left_bracket) _ _
    (wide-same items_length width n array (items (val depth) (length text) no_items (drop 1 text)) (λ ds h. h) (items-few (val depth) (length text) no_items (drop 1 text) n (omega (arith, le))))
    (wide-if width n (first text == left_brace) _ _ (wide-map width n table (members (val depth) (length text) no_nodes (drop 1 text)) (λ ms. omega arith)) (atom-wide n text))

keyval-wide : (n depth : ℕ) (text : List ℕ) → length text ≤ n → IfSome (keyval (val depth) text) (λ p. width p.0.1 ≤ n)
keyval-wide n depth text le =
    wide-bind (λ (pair : Key × Data). width pair.1) n (key_equals text) _ (equals-within n text le)
    (λ k h. wide-same width (λ (pair : Key × Data). width pair.1) n (λ d. (k.0, d)) (val depth k.1) (λ d small. small) (val-wide n depth k.1 h))

-- a header defines a table
header-flat : {A : Type 0} (n : ℕ) (what : Definition) (r : Read A) (f : A × List ℕ → Read Expression) → ((p : A × List ℕ) → IfSome (f p) (λ q. defined_width q.0.1 ≤ n)) → IfSome (option_and_then f r) (λ q. defined_width q.0.1 ≤ n)
header-flat n what None f g = tt
header-flat n what (Some p) f g = g p

closed-flat : (n : ℕ) (key : Key) (o : Option (List ℕ)) → IfSome (option_map (λ (rest : List ℕ). ((key, array_table), rest)) o) (λ (q : Expression × List ℕ). defined_width q.0.1 ≤ n)
closed-flat n key None = tt
closed-flat n key (Some rest) = omega arith

expression-wide : (n : ℕ) (text : List ℕ) → length text ≤ n → IfSome (expression text) (λ q. defined_width q.0.1 ≤ n)
unfolding expression
expression-wide n text le =
    let size : Expression → ℕ = λ e. defined_width e.1 in
    wide-if size n (first text == left_bracket && slice_index text 1 == left_bracket) _ _
    (header-flat n array_table (header_key (drop 2 text)) _ (λ k. closed-flat n k.0 (after_byte right_bracket k.1)))
    (wide-if size n (first text == left_bracket) _ _ (wide-map size n (λ k. (k, std_table)) (header_key (drop 1 text)) (λ k. omega arith))
    (wide-same (λ (pair : Key × Data). width pair.1) size n (λ p. (p.0, key_value p.1)) (keyval (val recursion_limit) text) (λ p small. small) (keyval-wide n recursion_limit text le)))

line-wide : (n : ℕ) (text : List ℕ) → length text ≤ n → IfSome (line text) (λ q. (defined_width q.0.1 ≤ n) × (length q.1 ≤ n))
unfolding line
line-wide n text le = of (expression text) (expression-wide n text le) (expression-within n text le)
  where
    of : (r : Read Expression) → IfSome r (λ q. defined_width q.0.1 ≤ n) → IfSome r (λ q. length q.1 ≤ n)
        → IfSome (option_and_then (λ e. if ends_line (skip_ws e.1) then Some e else None) r) (λ q. (defined_width q.0.1 ≤ n) × (length q.1 ≤ n))
    of None small short = tt
    of (Some e) small short = ended (ends_line (skip_ws e.1))
      where
        ended : (b : Bool) → IfSome (if b then Some e else None) (λ (q : Expression × List ℕ). (defined_width q.0.1 ≤ n) × (length q.1 ≤ n))
        ended true = (small, short)
        ended false = tt

-- the document after some lines
define-bind : (n m c : ℕ) (o : Option Document) (f : Document → Option Document) → IfSome o (λ next. Narrow (suc c) next.0) → ((next : Document) → Narrow (suc c) next.0 → IfSome (f next) (λ doc. Narrow (c + suc m) doc.0))
    → IfSome (option_and_then f o) (λ doc. Narrow (c + suc m) doc.0)
define-bind n m c None f h g = tt
define-bind n m c (Some next) f h g = g next h

line-bind : (n k : ℕ) (r : Read Expression) (f : Expression × List ℕ → Option Document) → IfSome r (λ q. (defined_width q.0.1 ≤ n) × (length q.1 ≤ n))
    → ((e : Expression × List ℕ) → defined_width e.0.1 ≤ n → length e.1 ≤ n → IfSome (f e) (λ doc. Narrow k doc.0)) → IfSome (option_and_then f r) (λ doc. Narrow k doc.0)
line-bind n k None f h g = tt
line-bind n k (Some e) f h g = g e h.0 h.1

doc-either : (n : ℕ) (b : Bool) (x y : Option Document) → IfSome x (λ doc. Narrow n doc.0) → IfSome y (λ doc. Narrow n doc.0) → IfSome (if b then x else y) (λ doc. Narrow n doc.0)
doc-either n true x y h g = h
doc-either n false x y h g = g

lines-narrow : (n m c : ℕ) (doc : Document) (text : List ℕ) → n ≤ c → length text ≤ n → Narrow c doc.0 → IfSome (lines m doc text) (λ next. Narrow (c + m) next.0)
unfolding lines
lines-narrow n zero c doc text big le h = tt
lines-narrow n (suc m) c doc text big le h =
    let start = skip_blank text in
    doc-either (c + suc m) (length start == 0) _ _ (wider c (c + suc m) doc.0 (omega arith) h)
    (line-bind n (c + suc m) (line start) _ (line-wide n start (after_blank n text le)) (λ e small short.
    define-bind n m c (define doc e.0) _ (define-narrow c doc e.0 (omega (arith, small, big)) h) (λ next h'.
    narrower (c + suc m) (suc c + m) (lines m next e.1) (omega arith) (lines-narrow n m (suc c) next e.1 (omega (arith, big)) short h'))))
  where
    narrower : (a b : ℕ) (o : Option Document) → b ≤ a → IfSome o (λ doc. Narrow b doc.0) → IfSome o (λ doc. Narrow a doc.0)
    narrower a b None le h = tt
    narrower a b (Some doc) le h = wider b a doc.0 le h

bom-within : (text : List ℕ) → length (skip_bom text) ≤ length text
unfolding skip_bom
bom-within text = of _
  where
    of : (b : Bool) → length (if b then drop 3 text else text) ≤ length text
    of true = dropped (length text) 3 text (omega arith)
    of false = omega arith

-- what is found by a key
found-narrow : (n : ℕ) (k : List ℕ) (ns : Nodes) → Narrow n ns → IfSome (get_member k (close ns)) (λ d. width d ≤ n)
found-narrow n k no_nodes h = tt
found-narrow n k (node l x ns) h = of (slice_cmp nat_cmp k l) (found-narrow n k ns h.1)
  where
    of : (o : Ordering) → IfSome (get_member k (close ns)) (λ d. width d ≤ n) → IfSome (match_ordering o (get_member k (close ns)) (Some (close_node x)) (get_member k (close ns))) (λ d. width d ≤ n)
    of Less later = later
    of Equal later = h.0
    of Greater later = later

-- a list of a document has no more items than the text has bytes, twice
pub document-narrow : (text : List ℕ) → IfSome (parse_document text) (λ members. (key : List ℕ) → IfSome (get_member key members) (λ d. width d ≤ length text + suc (length text)))
unfolding parse_document
document-narrow text = of (lines (suc (length text)) (no_nodes, []) (skip_bom text)) (lines-narrow (length text) (suc (length text)) (length text) (no_nodes, []) (skip_bom text) (omega arith) (bom-within text) tt)
  where
    of : (o : Option Document) → IfSome o (λ doc. Narrow (length text + suc (length text)) doc.0)
        → IfSome (option_map (λ doc. close doc.0) o) (λ members. (key : List ℕ) → IfSome (get_member key members) (λ d. width d ≤ length text + suc (length text)))
    of None h = tt
    of (Some doc) h = λ key. found-narrow (length text + suc (length text)) key doc.0 h
