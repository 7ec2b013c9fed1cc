use Rattle.std.proofs.Common.{◌≡◌, ℕ, ◌+◌, List, [], ◌∷◌, ◌++◌, None, Some, lit<, sym, ap, ◌∙◌, subst, drop, length, arith, rules}
use Rattle.std.proofs.lemmas.Grind.{common_steps}
use Rattle.std.proofs.lemmas.Iterator.Consumers.{YieldsList-end, YieldsList-turn}
use Rattle.std.proofs.lemmas.Iterator.Splits.{YieldsList-from_str_split}
use Rattle.std.proofs.lemmas.List.{length_push}
use Rattle.rail_base.proofs.CallerLemmas.{passed_up}
use Rattle.rail_base.specs.Refusals.{AnswersFirst}
use Rattle.rail_forms.specs.Capacity.{piece_refusal, pieces, pieces_refusal, section_named}
use Rattle.rail_forms.proofs.Pieces.{AreRead, all_read, few_read, none_read, read_more, read_refused}
use Rattle.rail_forms.proofs.capacity.read_sections.Goals as goal

pub loop-piece-init : goal.loop-piece-init
loop-piece-init c =
    let keys = c.args.names.now.sections.keys in
    let all = pieces c.args.line.now in
    let empty : c.new-sections.result.items ≡ [] = search rules in
    subst (AreRead keys all all 0) (sym empty) (none_read keys all)

pub section_of-requires-clause-few : goal.section_of-requires-clause-few
section_of-requires-clause-few c = omega (arith, few_read _ _ _ _ _ c.loop-piece.invariant, ap length c.deref.ensures.value, c.requires)

pub returns-in_err-section-clause-refused : goal.returns-in_err-section-clause-refused
returns-in_err-section-clause-refused c =
    let keys = c.args.names.now.sections.keys in
    let all = pieces c.args.line.now in
    let turn = YieldsList-turn (YieldsList-from_str_split 44 c.args.line.now (lit< tt) (cc) (cc) (cc)) c.loop-piece.yielded _ c.loop-piece.yielded_by _ _ c.in-Some.piece c.in-Some.is c.next.ensures.steps in
    let why = c.in_err-section.ensures.refused in
    passed_up _ _ (AnswersFirst (pieces_refusal keys [] 1 all)) c.from_residual.ensures.1
    (subst (AnswersFirst (pieces_refusal keys [] 1 all)) (sym why.1)
    (read_refused keys all (length c.loop-piece.yielded) c.in-Some.piece.now c.loop-piece.sections.items why.0 turn.0 turn.1 c.loop-piece.invariant
    (subst (λ (p : List ℕ). piece_refusal keys c.loop-piece.sections.items (length c.loop-piece.sections.items + 1) p ≡ Some why.0) c.as_bytes.ensures.value
    (subst (λ (xs : List ℕ). piece_refusal keys xs (length xs + 1) c.as_bytes.result.now ≡ Some why.0) c.deref.ensures.value why.2))))

pub loop-piece-preserved : goal.loop-piece-preserved
loop-piece-preserved c =
    let keys = c.args.names.now.sections.keys in
    let all = pieces c.args.line.now in
    let before = c.loop-piece.sections.items in
    let turn = YieldsList-turn (YieldsList-from_str_split 44 c.args.line.now (lit< tt) (cc) (cc) (cc)) c.loop-piece.yielded _ c.loop-piece.yielded_by _ _ c.in-Some.piece c.in-Some.is c.next.ensures.steps in
    let found : section_named keys c.in-Some.piece.now ≡ Some c.in_ok-section.section = ap (section_named keys) (sym c.as_bytes.ensures.value) ∙ c.in_ok-section.ensures.section in
    let fine = subst (λ (p : List ℕ). piece_refusal keys before (length before + 1) p ≡ None) c.as_bytes.ensures.value
    (subst (λ (xs : List ℕ). piece_refusal keys xs (length xs + 1) c.as_bytes.result.now ≡ None) c.deref.ensures.value c.in_ok-section.ensures.accepted) in
    let pushed : c.push.new.self.items ≡ before ++ c.in_ok-section.section ∷ [] = first_of (search rules, grind (arith, common_steps)) in
    let more = read_more keys all (length c.loop-piece.yielded) c.in-Some.piece.now before c.in_ok-section.section turn.0 turn.1 c.loop-piece.invariant found fine in
    subst (λ (k : ℕ). AreRead keys all (drop k all) k c.push.new.self.items) (sym (length_push c.loop-piece.yielded c.in-Some.piece))
    (subst (AreRead keys all (drop (length c.loop-piece.yielded + 1) all) (length c.loop-piece.yielded + 1)) (sym pushed) more)

pub returns-clause-sections : goal.returns-clause-sections
returns-clause-sections c =
    let end = YieldsList-end (YieldsList-from_str_split 44 c.args.line.now (lit< tt) (cc) (cc) (cc)) c.loop-piece.yielded _ c.loop-piece.yielded_by _ _ c.in-None.is c.next.ensures.steps in
    (all_read c.args.names.now.sections.keys (pieces c.args.line.now) (length c.loop-piece.yielded) c.loop-piece.sections.items (omega (arith, end.1)) c.loop-piece.invariant).0

pub returns-clause-accepted : goal.returns-clause-accepted
returns-clause-accepted c =
    let end = YieldsList-end (YieldsList-from_str_split 44 c.args.line.now (lit< tt) (cc) (cc) (cc)) c.loop-piece.yielded _ c.loop-piece.yielded_by _ _ c.in-None.is c.next.ensures.steps in
    (all_read c.args.names.now.sections.keys (pieces c.args.line.now) (length c.loop-piece.yielded) c.loop-piece.sections.items (omega (arith, end.1)) c.loop-piece.invariant).1
