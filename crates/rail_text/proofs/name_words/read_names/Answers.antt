use Rattle.std.proofs.Common.{ℕ, ◌&&◌, true, List, [], ◌∷◌, ◌++◌, sym, ap, ◌∙◌, append_assoc}
use Rattle.std.specs.List.{list_all}
use Rattle.std.proofs.lemmas.List.Folds.{list_all-append}
use Rattle.rail_base.specs.NameForms.{is_name}
use Rattle.rail_text.specs.Lines.{words}
use Rattle.rail_text.proofs.NameWords.{read_as}
use Rattle.rail_text.proofs.name_words.read_names.Goals as goal

pub loop-word-preserved : goal.loop-word-preserved
loop-word-preserved c =
    let names = c.loop-word.names.items in
    let rest = words c.in-Some.rest.now in
    let name = c.in-Some-read.name in
    let read = read_as c.in-Some.word.now name c.in-Some-read.ensures in
    record {
      read = ap (λ (ns : List (List ℕ)). ns ++ rest) c.in_ok-push.ensures.items
          ∙ append_assoc names (name ∷ []) rest
          ∙ ap (λ n. names ++ n ∷ rest) read.0
          ∙ ap (λ ws. names ++ ws) (sym c.in-Some.ensures.words)
          ∙ c.loop-word.invariant.read;
      named = ap (list_all is_name) c.in_ok-push.ensures.items
          ∙ list_all-append is_name names (name ∷ [])
          ∙ (λ i. c.loop-word.invariant.named i && ((ap is_name read.0 ∙ read.1) i && true));
    }
