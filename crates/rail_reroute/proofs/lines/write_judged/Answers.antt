use Rattle.std.proofs.Common.{◌≡◌, ℕ, [], ◌∷◌, ◌++◌, List, codes, decimal, sym, ap, ◌∙◌, subst, append_assoc}
use Rattle.rail_rules.specs.Texts.{behind}
use Rattle.rail_text.specs.Names.{NameLists}
use Rattle.rail_text.specs.Writes.{WritesText}
use Rattle.rail_text.proofs.CallerLemmas.{both_written, part_written, behind_append}
use Rattle.rail_reroute.specs.Lines.{head_words, judged_line, list_words, scene_names}
use Rattle.rail_reroute.specs.declared.judgements.Judged.{Judged}
use Rattle.rail_reroute.proofs.lines.write_judged.Goals as goal

abbrev head : NameLists → ℕ → Judged → List ℕ
head names n answer = codes "line" ++ behind (decimal n ∷ head_words names answer)

abbrev listed : NameLists → Judged → List ℕ
listed names answer = behind (list_words names answer)

-- a line is its head, its list and its end
parts : (names : NameLists) (n : ℕ) (answer : Judged) → (head names n answer ++ listed names answer) ++ 10 ∷ [] ≡ judged_line names n answer
parts names n answer =
    ap (λ (text : List ℕ). text ++ 10 ∷ [])
    (append_assoc (codes "line") (behind (decimal n ∷ head_words names answer)) (listed names answer)
    ∙ ap (λ (text : List ℕ). codes "line" ++ text) (sym (behind_append (decimal n ∷ head_words names answer) (list_words names answer))))

pub returns-in_err-write_head : goal.returns-in_err-write_head
returns-in_err-write_head g c =
    let names = scene_names c.args.scene.now in
    let answer = c.args.judged.now in
    let Written : List ℕ → Type 0 = λ text. WritesText g.O.Sink c.args.out.now c.write_head.new.out text c.from_residual.result in
    subst Written (parts names c.args.line answer)
    (subst Written (sym (append_assoc (head names c.args.line answer) (listed names answer) (10 ∷ [])))
    (part_written g.O.Sink _ _ _ (listed names answer ++ 10 ∷ []) _ c.from_residual.result c.from_residual.ensures.0 c.in_err-write_head.ensures))

pub returns-in_err-write_list : goal.returns-in_err-write_list
returns-in_err-write_list g c =
    let names = scene_names c.args.scene.now in
    let answer = c.args.judged.now in
    let Written : List ℕ → Type 0 = λ text. WritesText g.O.Sink c.args.out.now c.write_list.new.out text c.from_residual-in_err-write_list.result in
    subst Written (parts names c.args.line answer)
    (part_written g.O.Sink _ _ _ (10 ∷ []) _ c.from_residual-in_err-write_list.result c.from_residual-in_err-write_list.ensures.0
    (both_written g.O.Sink _ _ _ _ _ _ c.in_ok-write_head.ensures c.in_err-write_list.ensures))

pub returns : goal.returns
returns g c =
    let names = scene_names c.args.scene.now in
    let answer = c.args.judged.now in
    subst (λ (text : List ℕ). WritesText g.O.Sink c.args.out.now c.write_end.new.out text c.write_end.result) (parts names c.args.line answer)
    (both_written g.O.Sink _ _ _ _ _ c.write_end.result (both_written g.O.Sink _ _ _ _ _ _ c.in_ok-write_head.ensures c.in_ok-write_list.ensures) c.write_end.ensures)
