-- What a form spells is what its words ask for.
use Rattle.std.proofs.Common.{◌≡◌, ℕ, List, ◌∷◌, Option, Some, None, sym, ap, ◌∙◌, subst}
use Rattle.std.specs.Prelude.{MatchOption}
use Rattle.std.proofs.lemmas.Option.{same_Some}
use Rattle.rail_command_line.specs.declared.forms.Form.{Form}
use Rattle.rail_command_line.specs.declared.forms.Request.{Request}
use Rattle.rail_command_line.specs.Forms.{IsAsked, Lacks, Spells, Values, form_in, form_named, values_in}

-- what the words behind a verb spell for its form, or that they spell nothing, is what the words ask for
pub asked_behind : (verb : List ℕ) (words : List (List ℕ)) (form : Form) (request : Option Request) → form_named verb ≡ Some form
    → MatchOption request (Lacks form words) (λ r. (form_in r ≡ form) × Spells (form_in r) (values_in r) words)
    → MatchOption request ((f : Form) (vs : Values f) → IsAsked f vs (verb ∷ words) → ⊥) (λ r. IsAsked (form_in r) (values_in r) (verb ∷ words))
asked_behind verb words form None is lacks = λ f vs asked. subst (λ (f : Form). Lacks f words) (same_Some form f (sym is ∙ asked.0)) lacks vs asked.1
asked_behind verb words form (Some request) is spells = (is ∙ ap Some (sym spells.0), spells.1)
