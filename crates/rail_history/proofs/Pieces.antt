-- A line that is handed on piece by piece.
use Rattle.std.proofs.Common.{◌≡◌, ℕ, List, [], ◌++◌, refl, sym, subst, ap, ◌∙◌, append_assoc}
use Rattle.std.specs.Prelude.{Option}
use Rattle.rail_io.specs.Writes.{Adds, AddsPrefix}
use Rattle.rail_io.proofs.CallerLemmas.{Adds-same, Adds-append, AddsPrefix-more, AddsPrefix-append}
use Rattle.rail_history.specs.Pieces.{IsHandedOn}

-- nothing was handed on
pub none_handed_on : (now : Option (List ℕ)) (line : List ℕ) → IsHandedOn now now line line
none_handed_on now line = record { written = []; adds = Adds-same now; whole = refl }

-- a text that is handed on part by part
pub handed_on_then : {before between now : Option (List ℕ)} {middle left text : List ℕ} → IsHandedOn before between middle text → (more : List ℕ) → IsHandedOn between now left (middle ++ more) → IsHandedOn before now left (text ++ more)
handed_on_then {before} {between} {now} {middle} {left} {text} one more two = record {
  written = one.written ++ two.written;
  adds = Adds-append one.adds two.adds;
  whole = append_assoc one.written two.written left
      ∙ ap (λ xs. one.written ++ xs) two.whole
      ∙ sym (append_assoc one.written middle more)
      ∙ ap (λ xs. xs ++ more) one.whole;
}

-- a text of which a later part failed
pub failed_then : {before between now : Option (List ℕ)} {middle text : List ℕ} → IsHandedOn before between middle text → (more : List ℕ) → AddsPrefix between now (middle ++ more) → AddsPrefix before now (text ++ more)
failed_then {before} {between} {now} {middle} {text} one more two =
    let e : one.written ++ (middle ++ more) ≡ text ++ more = sym (append_assoc one.written middle more) ∙ ap (λ xs. xs ++ more) one.whole in
    subst (AddsPrefix before now) e (AddsPrefix-append one.adds two)

-- a text whose last part is written
pub ended_then : {before between now : Option (List ℕ)} {middle text : List ℕ} → IsHandedOn before between middle text → (more : List ℕ) → Adds between now (middle ++ more) → Adds before now (text ++ more)
ended_then {before} {between} {now} {middle} {text} one more two =
    let e : one.written ++ (middle ++ more) ≡ text ++ more = sym (append_assoc one.written middle more) ∙ ap (λ xs. xs ++ more) one.whole in
    subst (Adds before now) e (Adds-append one.adds two)

-- one more word said, of those that are left
pub one_more_said : (said word rest all whole : List ℕ) → all ≡ word ++ rest → said ++ all ≡ whole → (said ++ word) ++ rest ≡ whole
one_more_said said word rest all whole front before = append_assoc said word rest ∙ ap (λ xs. said ++ xs) (sym front) ∙ before

-- a text of which a later part failed, with a rest to come
pub failed_before : {before between now : Option (List ℕ)} {middle said : List ℕ} → IsHandedOn before between middle said → (word rest : List ℕ) {whole : List ℕ} → AddsPrefix between now (middle ++ word) → (said ++ word) ++ rest ≡ whole → AddsPrefix before now whole
failed_before {before} {between} {now} one word rest {whole} two e = subst (AddsPrefix before now) e (AddsPrefix-more rest (failed_then one word two))
