-- The pieces of a line, one after another.
use Rattle.std.proofs.Common.{◌≡◌, ℕ, suc, ◌+◌, ◌<◌, ◌≤◌, Bool, true, false, cond, eqb, List, [], ◌∷◌, ◌++◌, length, get_or, drop, Option, Some, None, refl, sym, ap, ◌∙◌, ⊎_elim, append_assoc, length-append, arith}
use Rattle.std.specs.List.{IsDistinct, cons_option, list_any}
use Rattle.std.specs.Option.{option_map_or}
use Rattle.std.proofs.lemmas.Bool.{eqb-true, false≢true, or_cases}
use Rattle.std.proofs.lemmas.List.{append-nil, at_drop_all, at_drop_more}
use Rattle.std.proofs.lemmas.Cmp.{nat_eq_equiv}
use Rattle.std.proofs.lemmas.Map.Keys.{IsDistinct-push}
use Rattle.std.proofs.lemmas.Map.Steps.{length-le_from_distinct_below}
use Rattle.std.proofs.lemmas.List.Folds.{list_any-append}
use Rattle.std.proofs.lemmas.Option.{none-some}
use Rattle.rail_base.specs.NameForms.{is_name, same_name}
use Rattle.rail_base.specs.declared.refusals.Reason.TheVariants.{Repeated, Unknown}
use Rattle.rail_base.specs.declared.refusals.Refusal.{Refusal}
use Rattle.rail_text.proofs.CallerLemmas.{found_at}
use Rattle.rail_text.specs.Lines.{number_of_name}
use Rattle.rail_rules.specs.Numbers.{or_else}
use Rattle.rail_forms.specs.Capacity.{piece_refusal, piece_refused, pieces_refusal, section_named, sections_on}

-- the sections of a line so far: so many pieces were read, none of which is refused
pub record AreRead (names : List (List ℕ)) (all left : List (List ℕ)) (count : ℕ) (sections : List ℕ) : Type 0 where
  pub long : length sections ≡ count
  pub named : sections_on names all ≡ sections ++ sections_on names left
  pub refusal : pieces_refusal names [] 1 all ≡ pieces_refusal names sections (suc count) left
  pub distinct : IsDistinct eqb sections
  pub below : (q : ℕ) → list_any (eqb q) sections ≡ true → q < length names

-- there are no more of them than names
pub few_read : (names all left : List (List ℕ)) (count : ℕ) (sections : List ℕ) → AreRead names all left count sections → length sections ≤ length names
few_read names all left count sections read = length-le_from_distinct_below sections (length names) read.distinct read.below

-- a test whose failure is refused, and which is not
not_met : (b : Bool) (refusal : Refusal) → cond b (Some refusal) None ≡ None → b ≡ false
not_met true refusal none = absurd (none-some refusal (sym none))
not_met false refusal none = refl

-- the section of a piece is one of them
section_known : (names : List (List ℕ)) (piece : List ℕ) (section : ℕ) → section_named names piece ≡ Some section → section < length names
section_known names piece section = of (is_name piece)
  where
    of : (b : Bool) → cond b (number_of_name names piece) None ≡ Some section → section < length names
    of true found = (found_at (same_name piece) names section found).1
    of false found = absurd (none-some section found)

-- one piece more, which is not refused
module _ (names all : List (List ℕ)) (n : ℕ) (piece : List ℕ) (sections : List ℕ) (section : ℕ) (lt : n < length all) (is : piece ≡ get_or all n piece)
    (read : AreRead names all (drop n all) n sections) (found : section_named names piece ≡ Some section)
    (fine : piece_refusal names sections (length sections + 1) piece ≡ None) where
  abbrev rest : List (List ℕ)
  rest = drop (n + 1) all

  split : drop n all ≡ piece ∷ rest
  split = at_drop_more (λ (xs : List (List ℕ)). xs) all n piece lt ∙ ap (λ (p : List ℕ). p ∷ rest) (sym is)

  here : sections_on names (piece ∷ []) ≡ section ∷ []
  here = ap (λ (o : Option ℕ). cons_option o []) found

  accepted : piece_refusal names sections (suc n) piece ≡ None
  accepted = let same : suc n ≡ length sections + 1 = omega (arith, read.long) in ap (λ (k : ℕ). piece_refusal names sections k piece) same ∙ fine

  not_before : list_any (eqb section) sections ≡ false
  not_before = not_met (list_any (eqb section) sections) (piece_refused Repeated (suc n))
      (sym (ap (λ (o : Option ℕ). option_map_or (λ s. cond (list_any (eqb s) sections) (Some (piece_refused Repeated (suc n))) None) o (Some (piece_refused Unknown (suc n)))) found) ∙ accepted)

  next_below : (q : ℕ) → list_any (eqb q) (sections ++ section ∷ []) ≡ true → q < length names
  next_below q any =
      ⊎_elim
      (λ before. read.below q before)
      (λ last. let same : q ≡ section = eqb-true q section (⊎_elim (λ (h : eqb q section ≡ true). h) (λ none. absurd (false≢true none)) (or_cases (eqb q section) false last)) in
      omega (arith, same, section_known names piece section found))
      (or_cases (list_any (eqb q) sections) (list_any (eqb q) (section ∷ [])) (sym (list_any-append (eqb q) sections (section ∷ [])) ∙ any))

  pub read_more : AreRead names all rest (n + 1) (sections ++ section ∷ [])
  read_more = record {
    long = length-append sections (section ∷ []) ∙ omega (arith, read.long);
    named = read.named ∙ ap (λ (left : List (List ℕ)). sections ++ sections_on names left) split
        ∙ ap (λ (o : Option ℕ). sections ++ cons_option o (sections_on names rest)) found
        ∙ sym (append_assoc sections (section ∷ []) (sections_on names rest));
    refusal = read.refusal ∙ ap (pieces_refusal names sections (suc n)) split
        ∙ ap (λ (o : Option Refusal). or_else o (pieces_refusal names (sections ++ sections_on names (piece ∷ [])) (suc (suc n)) rest)) accepted
        ∙ ap (λ (xs : List ℕ). pieces_refusal names (sections ++ xs) (suc (suc n)) rest) here
        ∙ ap (λ (k : ℕ). pieces_refusal names (sections ++ section ∷ []) k rest) (omega arith);
    distinct = IsDistinct-push nat_eq_equiv sections section read.distinct not_before;
    below = next_below;
  }

-- one that is refused is the first
pub read_refused : (names all : List (List ℕ)) (n : ℕ) (piece : List ℕ) (sections : List ℕ) (refusal : Refusal) → n < length all → piece ≡ get_or all n piece
    → AreRead names all (drop n all) n sections → piece_refusal names sections (length sections + 1) piece ≡ Some refusal → pieces_refusal names [] 1 all ≡ Some refusal
read_refused names all n piece sections refusal lt is read refused =
    let split : drop n all ≡ piece ∷ drop (n + 1) all = at_drop_more (λ (xs : List (List ℕ)). xs) all n piece lt ∙ ap (λ (p : List ℕ). p ∷ drop (n + 1) all) (sym is) in
    let same : suc n ≡ length sections + 1 = omega (arith, read.long) in
    let here : piece_refusal names sections (suc n) piece ≡ Some refusal = ap (λ (k : ℕ). piece_refusal names sections k piece) same ∙ refused in
    read.refusal ∙ ap (pieces_refusal names sections (suc n)) split
    ∙ ap (λ (o : Option Refusal). or_else o (pieces_refusal names (sections ++ sections_on names (piece ∷ [])) (suc (suc n)) (drop (n + 1) all))) here

-- before the first piece
pub none_read : (names all : List (List ℕ)) → AreRead names all all 0 []
unfolding IsDistinct
none_read names all = record { long = refl; named = refl; refusal = refl; distinct = tt; below = λ q any. absurd (false≢true any) }

-- all pieces
pub all_read : (names all : List (List ℕ)) (n : ℕ) (sections : List ℕ) → length all ≤ n → AreRead names all (drop n all) n sections
    → (sections ≡ sections_on names all) × (pieces_refusal names [] 1 all ≡ None)
all_read names all n sections le read = (
  sym (read.named ∙ at_drop_all (λ (left : List (List ℕ)). sections ++ sections_on names left) all n le ∙ append-nil sections),
  read.refusal ∙ at_drop_all (pieces_refusal names sections (suc n)) all n le,
)
