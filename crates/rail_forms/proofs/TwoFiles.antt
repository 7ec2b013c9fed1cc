-- What is answered to a scene and one file more, put together from what its files answer.
use Rattle.std.proofs.Common.{◌≡◌, ℕ, List, Option, Some, None, sym, ap, ◌∙◌, subst}
use Rattle.rail_base.specs.declared.refusals.Refusal.{Refusal}
use Rattle.rail_io.specs.declared.shelf.Shelf.{Ghosts}
use Rattle.rail_rules.specs.Numbers.{or_else}
use Rattle.rail_input.specs.Inputs.{plant_refusal}
use Rattle.rail_command_line.specs.declared.files.FileRole.{FileRole}
use Rattle.rail_command_line.specs.declared.files.FileRole.TheVariants as role
use Rattle.rail_forms.specs.declared.status.Status.{Status}
use Rattle.rail_forms.specs.Answers.{Decides, IsAnswer, Told}
use Rattle.rail_forms.specs.Files.{IsFileAnswer, too_large}
use Rattle.rail_forms.specs.TwoFiles.{AnswersTwoFiles}
use Rattle.rail_forms.proofs.Answers.{answer_after, answer_decides, file_answer, first_decides, none_decides, unread_decides}

module _ (second_role : FileRole) (later : List ℕ → List ℕ → Option Refusal) (whole part : List ℕ → List ℕ → Type 0) (scene second : List ℕ) (told : Told) (status : Status) where
  abbrev Answers : Type 0
  Answers = AnswersTwoFiles second_role later whole part scene second told status

  -- the scene was not read
  pub scene_unread : {S : Type 0} (shelf : Ghosts S) (one two : S) (why : Status) → status ≡ why → shelf.told one ≡ told → IsFileAnswer shelf role.Scene scene one two why → Answers
  scene_unread shelf one two why same still why_answer =
      let answer : IsFileAnswer shelf role.Scene scene one two status = subst (IsFileAnswer shelf role.Scene scene one two) (sym same) why_answer in
      let at_one = λ (bytes : List ℕ) (at : told scene ≡ Some bytes). ap (λ (t : Told). t scene) still ∙ at in
      record {
        both = λ bytes others at others_at. file_answer shelf role.Scene scene one two bytes _ _ _ status answer (at_one bytes at);
        of_size = λ bytes at. first_decides (too_large role.Scene bytes) None (Unit {0}) (Unit {0}) status
            (file_answer shelf role.Scene scene one two bytes None (Unit {0}) (Unit {0}) status answer (at_one bytes at));
        of_scene = λ bytes at not_second. answer_decides _ (Unit {0}) (Unit {0}) status
            (file_answer shelf role.Scene scene one two bytes (plant_refusal bytes) (Unit {0}) (Unit {0}) status answer (at_one bytes at));
      }

  -- it was read
  module _ (read : List ℕ) (is : (bytes : List ℕ) → told scene ≡ Some bytes → read ≡ bytes) (read_fits : too_large role.Scene read ≡ None) where
    fits : (bytes : List ℕ) → told scene ≡ Some bytes → too_large role.Scene bytes ≡ None
    fits bytes at = ap (too_large role.Scene) (sym (is bytes at)) ∙ read_fits

    -- but not the other file
    pub second_unread : {S : Type 0} (shelf : Ghosts S) (one two : S) (why : Status) → status ≡ why → shelf.told one ≡ told → IsFileAnswer shelf second_role second one two why → Answers
    second_unread shelf one two why same still why_answer =
        let answer : IsFileAnswer shelf second_role second one two status = subst (IsFileAnswer shelf second_role second one two) (sym same) why_answer in
        record {
          both = λ bytes others at others_at. answer_after (too_large role.Scene bytes) _ _ _ status (fits bytes at)
              (file_answer shelf second_role second one two others _ _ _ status answer (ap (λ (t : Told). t second) still ∙ others_at));
          of_size = λ bytes at. none_decides (too_large role.Scene bytes) status (fits bytes at);
          of_scene = λ bytes at not_second. unread_decides shelf second_role second one two _ status answer not_second;
        }

    -- both were
    pub both_read : (other : List ℕ) → ((others : List ℕ) → told second ≡ Some others → other ≡ others) → too_large second_role other ≡ None
        → IsAnswer (or_else (plant_refusal read) (later read other)) (whole read other) (part read other) status → Answers
    both_read other other_is other_fits answer = record {
      both = λ bytes others at others_at.
          let Answer : List ℕ → List ℕ → Type 0 = λ b o. IsAnswer (or_else (too_large role.Scene b) (or_else (too_large second_role o) (or_else (plant_refusal b) (later b o)))) (whole b o) (part b o) status in
          subst (λ b. Answer b others) (is bytes at)
          (subst (λ o. Answer read o) (other_is others others_at)
          (answer_after (too_large role.Scene read) _ _ _ status read_fits (answer_after (too_large second_role other) _ _ _ status other_fits answer)));
      of_size = λ bytes at. none_decides (too_large role.Scene bytes) status (fits bytes at);
      of_scene = λ bytes at not_second. subst (λ b. Decides (or_else (too_large role.Scene b) (plant_refusal b)) status) (is bytes at)
          (subst (λ (o : Option Refusal). Decides (or_else o (plant_refusal read)) status) (sym read_fits) (first_decides _ _ _ _ _ answer));
    }
