-- Words ask for one form at most, and spell one value for it.
use Rattle.std.proofs.Common.{List, [], ℕ, ◌∙◌, ◌∷◌, ◌≡◌, ap, get_or, subst, sym, ◌<◌, ◌≤◌, ◌^◌, arith}
use Rattle.std.proofs.lemmas.Fmt.{decimal_injective}
use Rattle.std.proofs.lemmas.Option.{same_Some}
use Rattle.rail_base.specs.Clock.{IsLenientTime}
use Rattle.rail_command_line.specs.Forms.{ArePaths, IsAsked, IsOneNumber, IsSaving, IsStudy, Paths, Saving, SceneAnd, Spells, Study, Values}
use Rattle.rail_command_line.specs.declared.forms.Form.{Form}
use Rattle.rail_command_line.specs.declared.forms.Form.TheVariants as form

-- a text is that of one time
abbrev pub TellsOneTime : Type 0
TellsOneTime = (text : List ℕ) (a b : ℕ) → IsLenientTime text a → IsLenientTime text b → a ≡ b

-- words name one scene and one other file
one_pair : (files others : SceneAnd) (words : List (List ℕ)) → words ≡ files.scene ∷ files.other ∷ [] → words ≡ others.scene ∷ others.other ∷ [] → files ≡ others
one_pair files others words h g = λ i. record {
  scene = ap (λ (ws : List (List ℕ)). get_or ws 0 []) (sym h ∙ g) i;
  other = ap (λ (ws : List (List ℕ)). get_or ws 1 []) (sym h ∙ g) i;
}

-- they spell one number
one_number : (n m : ℕ) (words : List (List ℕ)) → IsOneNumber n words → IsOneNumber m words → n ≡ m
one_number n m [] h g = absurd h
one_number n m (word ∷ []) h g = decimal_injective n m h.fits g.fits (sym h.spelled ∙ g.spelled)
one_number n m (word ∷ other ∷ more) h g = absurd h

-- they spell one study
one_study : (study other : Study) (words : List (List ℕ)) → TellsOneTime → IsStudy study words → IsStudy other words → study ≡ other
one_study study other [] one h g = absurd h
one_study study other (line ∷ []) one h g = absurd h
one_study study other (line ∷ from ∷ []) one h g = absurd h
one_study study other (line ∷ from ∷ to ∷ words) one h g = λ i. record {
  line = (h.0 ∙ sym g.0) i;
  from = one from study.from other.from h.1 g.1 i;
  to = one to study.to other.to h.2 g.2 i;
  scenario = same_Some study.scenario other.scenario (sym h.3 ∙ g.3) i;
}

-- they ask for the same paths
same_paths : (paths other : Paths) (words : List (List ℕ)) → TellsOneTime → ArePaths paths words → ArePaths other words → paths ≡ other
same_paths paths other [] one h g = absurd h
same_paths paths other (train ∷ []) one h g = absurd h
same_paths paths other (train ∷ from ∷ []) one h g = absurd h
same_paths paths other (train ∷ from ∷ to ∷ []) one h g = absurd h
same_paths paths other (train ∷ from ∷ to ∷ count ∷ words) one h g = λ i. record {
  train = (h.0 ∙ sym g.0) i;
  from = one from paths.from other.from h.1 g.1 i;
  to = one to paths.to other.to h.2 g.2 i;
  count = decimal_injective paths.count other.count h.3.number.fits g.3.number.fits (sym h.3.number.spelled ∙ g.3.number.spelled) i;
  scenario = same_Some paths.scenario other.scenario (sym h.4 ∙ g.4) i;
}

-- they ask for the same lines
same_saving : (saving other : Saving) (words : List (List ℕ)) → IsSaving saving words → IsSaving other words → saving ≡ other
same_saving saving other [] h g = absurd h
same_saving saving other (count ∷ []) h g = absurd h
same_saving saving other (count ∷ scene ∷ []) h g = absurd h
same_saving saving other (count ∷ scene ∷ timetable ∷ []) h g = absurd h
same_saving saving other (count ∷ scene ∷ timetable ∷ commands ∷ []) h g = λ i. record {
  count = decimal_injective saving.count other.count h.0.fits g.0.fits (sym h.0.spelled ∙ g.0.spelled) i;
  scenario = (h.1 ∙ sym g.1) i;
}
same_saving saving other (count ∷ scene ∷ timetable ∷ commands ∷ more ∷ words) h g = absurd h

one_value : (form : Form) (values others : Values form) (words : List (List ℕ)) → TellsOneTime → Spells form values words → Spells form others words → values ≡ others
one_value form.Run values others words one h g = same_Some values others (sym h ∙ g)
one_value form.Infra values others words one h g = ap (λ (ws : List (List ℕ)). get_or ws 0 []) (sym h ∙ g)
one_value form.Play values others words one h g = one_pair values others words h g
one_value form.Check values others words one h g = same_Some values others (sym h ∙ g)
one_value form.Stairs values others words one h g = same_Some values others (sym h ∙ g)
one_value form.Report values others words one h g = same_Some values others (sym h ∙ g)
one_value form.Capacity values others words one h g = one_study values others words one h g
one_value form.Insert values others words one h g = same_paths values others words one h g
one_value form.Edit values others words one h g = one_pair values others words h g
one_value form.Migrate values others words one h g = ap (λ (ws : List (List ℕ)). get_or ws 0 []) (sym h ∙ g)
one_value form.Reroute values others words one h g = λ i. record {
  scene = ap (λ (ws : List (List ℕ)). get_or ws 0 []) (sym h ∙ g) i;
  list = ap (λ (ws : List (List ℕ)). get_or ws 1 []) (sym h ∙ g) i;
  proposals = ap (λ (ws : List (List ℕ)). get_or ws 2 []) (sym h ∙ g) i;
}
one_value form.Save values others words one h g = same_saving values others words h g
one_value form.Resume values others words one h g = same_Some values others (sym h ∙ g)
one_value form.Scene values others words one h g = one_number values others words h g
one_value form.Gen values others words one h g = one_number values others words h g

-- so what holds of what the words ask for holds of all that they ask for
pub of_all_asked : (P : (form : Form) → Values form → Type 0) (form : Form) (values : Values form) (words : List (List ℕ)) → TellsOneTime → IsAsked form values words → P form values
    → (other : Form) (others : Values other) → IsAsked other others words → P other others
of_all_asked P form values [] one is h other others asked = absurd is
of_all_asked P form values (verb ∷ words) one is h other others asked =
    subst (λ (f : Form). (vs : Values f) → Spells f vs words → P f vs) (same_Some form other (sym is.0 ∙ asked.0))
    (λ vs spells. subst (P form) (one_value form values vs words one is.1 spells) h) others asked.1

-- paths are asked for in a window of times that an input can spell, and one at least
pub paths_bounded : (paths : Paths) (words : List (List ℕ)) → IsAsked form.Insert paths words → (paths.to < 2 ^ 55) × (1 ≤ paths.count)
paths_bounded paths [] is = absurd is
paths_bounded paths (verb ∷ []) is = absurd is.1
paths_bounded paths (verb ∷ train ∷ []) is = absurd is.1
paths_bounded paths (verb ∷ train ∷ from ∷ []) is = absurd is.1
paths_bounded paths (verb ∷ train ∷ from ∷ to ∷ []) is = absurd is.1
paths_bounded paths (verb ∷ train ∷ from ∷ to ∷ count ∷ words) is =
    let short = is.1.2.short in let late : paths.to < 2 ^ 55 = omega (arith, short) in (late, is.1.3.some)
