-- What is at the front of the room once a space and more bytes than are kept were put.
use Rattle.std.proofs.Common.{rules, ◌≡◌, ℕ, ◌+◌, ◌<◌, ◌≤◌, List, [], ◌∷◌, ◌++◌, length, set, take, ap, sym, ◌∙◌, arith}
use Rattle.std.proofs.Math.Seq.{take-append-add}
use Rattle.std.proofs.lemmas.List.{append_assoc, length-set, length-take-le, take-append-le, take_more_set}
use borrow.Rule.Slice.PartMut.{post_of, put_mid}
use Rattle.rail_text.proofs.line_buffer.LineBuffer.put_front.Goals as goal

front : (len count k : ℕ) (bytes copied : List ℕ) → len < length bytes → count ≤ length copied
    → take (len + 1 + count) (put_mid (len + 1) k (set bytes len 32) copied) ≡ take len bytes ++ 32 ∷ take count copied
front len count k bytes copied below few =
    let xs : List ℕ = set bytes len 32 in
    let head : List ℕ = take (len + 1) xs in
    let long : length head ≡ len + 1 = length-take-le (len + 1) xs (omega (arith, below, length-set bytes len 32)) in
    ap (λ (n : ℕ). take (n + count) (put_mid (len + 1) k xs copied)) (sym long)
    ∙ take-append-add head (copied ++ post_of (len + 1) k xs) count
    ∙ ap (λ (rest : List ℕ). head ++ rest) (take-append-le count copied (post_of (len + 1) k xs) few)
    ∙ ap (λ (h : List ℕ). h ++ take count copied) (take_more_set bytes len 32 below)
    ∙ append_assoc (take len bytes) (32 ∷ []) (take count copied)

pub returns : goal.returns
returns c =
    let len : ℕ = c.self.inside.len in
    let bytes : List ℕ = c.self.inside.bytes in
    let copied : List ℕ = c.copy_from_slice.new.self in
    let whole : length bytes ≡ 512 = search rules in
    let held : length (take len bytes) ≡ len = length-take-le len bytes (omega (arith, whole, c.self.invariant)) in
    front len c.args.count _ bytes copied
    (omega (arith, whole, held, ap length c.self.view_is, c.requires.room))
    (omega (arith, ap length c.copy_from_slice.ensures.after, c.requires.count))
    ∙ ap (λ (old : List ℕ). old ++ 32 ∷ take c.args.count copied) c.self.view_is
    ∙ ap (λ (b : List ℕ). c.args.self.now ++ 32 ∷ take c.args.count b) c.copy_from_slice.ensures.after
