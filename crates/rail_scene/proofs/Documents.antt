-- The document of some bytes, as it is read.
use Rattle.std.proofs.Common.{◌≡◌, ℕ, cond, List, Some, None, unwrap_or, inl, inr, ap, ◌∙◌}
use Rattle.std.proofs.lemmas.Bool.{cases_Bool}
use Rattle.std.proofs.lemmas.Str.{IsUtf8-from_is_utf8, is_utf8-from_IsUtf8}
use Rattle.std.specs.Str.{is_utf8, IsUtf8}
use Rattle.toml.specs.Data.{table, Members, no_members}
use Rattle.toml.specs.Parse.{parse_document}
use Rattle.rail_scene.specs.SpelledScenes.{document, root_of}

pub document_some : (bytes : List ℕ) (found : Members) → IsUtf8 bytes → parse_document bytes ≡ Some found → document bytes ≡ Some found
unfolding document
document_some bytes found text parsed = ap (λ b. cond b (parse_document bytes) None) (is_utf8-from_IsUtf8 bytes text) ∙ parsed

pub document_none : (bytes : List ℕ) → (IsUtf8 bytes → parse_document bytes ≡ None) → document bytes ≡ None
unfolding document
document_none bytes refused =
    elim (cases_Bool (is_utf8 bytes)) [
      | inl text ↦ ap (λ b. cond b (parse_document bytes) None) text ∙ refused (IsUtf8-from_is_utf8 bytes text)
      | inr other ↦ ap (λ b. cond b (parse_document bytes) None) other
    ]

pub root_is : (bytes : List ℕ) (found : Members) → document bytes ≡ Some found → root_of bytes ≡ table found
unfolding root_of
root_is bytes found is = ap (λ o. table (unwrap_or o no_members)) is
