-- What is answered to a scene, a list and proposals, put together from what its files answer.
use Rattle.std.proofs.Common.{◌≡◌, ℕ, List, Option, Some, None, sym, ap, ◌∙◌, subst}
use Rattle.rail_base.specs.declared.refusals.Refusal.{Refusal}
use Rattle.rail_io.specs.Writes.{Adds, AddsPrefix}
use Rattle.rail_io.specs.declared.shelf.Shelf.{Ghosts}
use Rattle.rail_rules.specs.Numbers.{or_else}
use Rattle.rail_input.specs.Inputs.{plant_refusal}
use Rattle.rail_command_line.specs.declared.files.FileRole.TheVariants as role
use Rattle.rail_forms.specs.declared.status.Status.{Status}
use Rattle.rail_forms.specs.Answers.{Decides, IsAnswer, Told}
use Rattle.rail_forms.specs.Files.{IsFileAnswer, too_large}
use Rattle.rail_forms.specs.Reroutes.{AnswersReroute, JudgesFiles, reroute_refusal}
use Rattle.rail_forms.proofs.Answers.{answer_after, answer_decides, file_answer, first_decides, none_decides, unread_decides}

module _ (scene list proposals : List ℕ) (told : Told) (before now : Option (List ℕ)) (status : Status) where
  abbrev Answers : Type 0
  Answers = AnswersReroute scene list proposals told before now status

  -- the scene was not read
  pub scene_unread : {S : Type 0} (shelf : Ghosts S) (one two : S) (why : Status) → status ≡ why → shelf.told one ≡ told → IsFileAnswer shelf role.Scene scene one two why → Answers
  scene_unread shelf one two why same still why_answer =
      let answer : IsFileAnswer shelf role.Scene scene one two status = subst (IsFileAnswer shelf role.Scene scene one two) (sym same) why_answer in
      let at_one = λ (bytes : List ℕ) (at : told scene ≡ Some bytes). ap (λ (t : Told). t scene) still ∙ at in
      record {
        all = λ bytes places lines at places_at lines_at. file_answer shelf role.Scene scene one two bytes _ _ _ status answer (at_one bytes at);
        of_size = λ bytes at. first_decides (too_large role.Scene bytes) None (Unit {0}) (Unit {0}) status
            (file_answer shelf role.Scene scene one two bytes None (Unit {0}) (Unit {0}) status answer (at_one bytes at));
        of_scene = λ bytes at not_list not_proposals. answer_decides _ (Unit {0}) (Unit {0}) status
            (file_answer shelf role.Scene scene one two bytes (plant_refusal bytes) (Unit {0}) (Unit {0}) status answer (at_one bytes at));
      }

  -- it was read
  module _ (read : List ℕ) (is : (bytes : List ℕ) → told scene ≡ Some bytes → read ≡ bytes) (read_fits : too_large role.Scene read ≡ None) where
    fits : (bytes : List ℕ) → told scene ≡ Some bytes → too_large role.Scene bytes ≡ None
    fits bytes at = ap (too_large role.Scene) (sym (is bytes at)) ∙ read_fits

    -- but not the list
    pub list_unread : {S : Type 0} (shelf : Ghosts S) (one two : S) (why : Status) → status ≡ why → shelf.told one ≡ told → IsFileAnswer shelf role.List list one two why → Answers
    list_unread shelf one two why same still why_answer =
        let answer : IsFileAnswer shelf role.List list one two status = subst (IsFileAnswer shelf role.List list one two) (sym same) why_answer in
        record {
          all = λ bytes places lines at places_at lines_at. answer_after (too_large role.Scene bytes) _ _ _ status (fits bytes at)
              (file_answer shelf role.List list one two places _ _ _ status answer (ap (λ (t : Told). t list) still ∙ places_at));
          of_size = λ bytes at. none_decides (too_large role.Scene bytes) status (fits bytes at);
          of_scene = λ bytes at not_list not_proposals. unread_decides shelf role.List list one two _ status answer not_list;
        }

    -- nor the proposals
    module _ (places : List ℕ) (places_are : (told_places : List ℕ) → told list ≡ Some told_places → places ≡ told_places) (places_fit : too_large role.List places ≡ None) where
      list_fits : (told_places : List ℕ) → told list ≡ Some told_places → too_large role.List told_places ≡ None
      list_fits told_places at = ap (too_large role.List) (sym (places_are told_places at)) ∙ places_fit

      pub proposals_unread : {S : Type 0} (shelf : Ghosts S) (one two : S) (why : Status) → status ≡ why → shelf.told one ≡ told → IsFileAnswer shelf role.Proposals proposals one two why → Answers
      proposals_unread shelf one two why same still why_answer =
          let answer : IsFileAnswer shelf role.Proposals proposals one two status = subst (IsFileAnswer shelf role.Proposals proposals one two) (sym same) why_answer in
          record {
            all = λ bytes told_places lines at places_at lines_at. answer_after (too_large role.Scene bytes) _ _ _ status (fits bytes at)
                (answer_after (too_large role.List told_places) _ _ _ status (list_fits told_places places_at)
                (file_answer shelf role.Proposals proposals one two lines _ _ _ status answer (ap (λ (t : Told). t proposals) still ∙ lines_at)));
            of_size = λ bytes at. none_decides (too_large role.Scene bytes) status (fits bytes at);
            of_scene = λ bytes at not_list not_proposals. unread_decides shelf role.Proposals proposals one two _ status answer not_proposals;
          }

      -- all were
      pub all_read : (lines : List ℕ) → ((told_lines : List ℕ) → told proposals ≡ Some told_lines → lines ≡ told_lines) → too_large role.Proposals lines ≡ None
          → IsAnswer (reroute_refusal read places lines) (JudgesFiles read places lines (Adds before now)) (JudgesFiles read places lines (AddsPrefix before now)) status → Answers
      all_read lines lines_are lines_fit answer =
          let Answer : List ℕ → List ℕ → List ℕ → Type 0 = λ b p l. IsAnswer (or_else (too_large role.Scene b) (or_else (too_large role.List p) (or_else (too_large role.Proposals l) (reroute_refusal b p l))))
          (JudgesFiles b p l (Adds before now)) (JudgesFiles b p l (AddsPrefix before now)) status in
          record {
            all = λ bytes told_places told_lines at places_at lines_at.
                subst (λ b. Answer b told_places told_lines) (is bytes at)
                (subst (λ p. Answer read p told_lines) (places_are told_places places_at)
                (subst (λ l. Answer read places l) (lines_are told_lines lines_at)
                (answer_after (too_large role.Scene read) _ _ _ status read_fits (answer_after (too_large role.List places) _ _ _ status places_fit
                (answer_after (too_large role.Proposals lines) _ _ _ status lines_fit answer)))));
            of_size = λ bytes at. none_decides (too_large role.Scene bytes) status (fits bytes at);
            of_scene = λ bytes at not_list not_proposals. subst (λ b. Decides (or_else (too_large role.Scene b) (plant_refusal b)) status) (is bytes at)
                (subst (λ (o : Option Refusal). Decides (or_else o (plant_refusal read)) status) (sym read_fits) (first_decides _ _ _ _ _ answer));
          }
