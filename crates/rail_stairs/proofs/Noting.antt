-- What noting a line changes.
use Rattle.std.proofs.Common.{◌≡◌, ℕ, ◌<◌, List, [], ◌∷◌, ◌++◌, length, get_or, set, sym, ap, ◌∙◌, subst, ⊎_elim, arith}
use Rattle.std.proofs.lemmas.Bool.{cases_eq}
use Rattle.std.proofs.lemmas.List.{get_or-set_same, get_or-set_other, length-set, same_lists}
use Rattle.rail_base.specs.declared.history.Note.{Note}
use Rattle.rail_base.specs.declared.history.What.TheVariants.{Admit}
use Rattle.rail_rules.specs.Fronts.{Front, Line, admissions}
use Rattle.rail_rules.specs.Numbers.{listed}
use Rattle.rail_laws_front.proofs.CallerLemmas.{admission_added, admission_of_other, get_or-listed, length-listed}

-- an admission is added in the row of its train
pub row_added : (n : ℕ) (front : Front) (line : Line) (rows : List (List ℕ)) (t m i : ℕ) (note : Note) (row : List ℕ)
    → rows ≡ listed (admissions front) n → line.entry.what ≡ Admit t m note → i ≡ t → i < length rows
    → row ≡ get_or rows i [] ++ line.entry.at ∷ []
    → set rows i row ≡ listed (admissions (line ∷ front)) n
row_added n front line rows t m i note row are what is lt is_row =
    let many : length rows ≡ n = ap length are ∙ length-listed (admissions front) n in
    same_lists (set rows i row) (listed (admissions (line ∷ front)) n)
    (length-set rows i row ∙ many ∙ sym (length-listed (admissions (line ∷ front)) n))
    (λ u d lu.
    let known : u < n = omega (arith, lu, length-set rows i row, many) in
    ⊎_elim
    (λ same.
    let here : get_or rows i [] ≡ admissions front u =
    ap (λ k. get_or rows k []) (sym same) ∙ ap (λ (rs : List (List ℕ)). get_or rs u []) are ∙ get_or-listed (admissions front) n u [] known in
    let P : ℕ → Type 0 = λ v. admissions (line ∷ front) v ≡ admissions front v ++ line.entry.at ∷ [] in
    let added : admissions (line ∷ front) u ≡ admissions front u ++ line.entry.at ∷ [] = subst P (sym (same ∙ is)) (admission_added line front t m note what) in
    ap (λ k. get_or (set rows i row) k d) same ∙ get_or-set_same rows i row d lt ∙ is_row ∙ ap (λ xs. xs ++ line.entry.at ∷ []) here ∙ sym added
    ∙ sym (get_or-listed (admissions (line ∷ front)) n u d known))
    (λ other.
    get_or-set_other rows i u row d other ∙ ap (λ (rs : List (List ℕ)). get_or rs u d) are ∙ get_or-listed (admissions front) n u d known
    ∙ sym (admission_of_other line front t m note u what (λ e. other (e ∙ sym is)))
    ∙ sym (get_or-listed (admissions (line ∷ front)) n u d known))
    (cases_eq u i))
