use Rattle.std.proofs.Common.{◌≡◌, ◌+◌, ◌<◌, not, Some, None, refl, List, length, sym, ap, ◌∙◌, subst, arith, string_bytes}
use Prim.Native.Nat.{◌^◌}
use Rattle.std.specs.List.{position}
use Rattle.toml.specs.View.{view}
use Rattle.rail_scene.specs.declared.keys.TheConstants.{NAME}
use Rattle.rail_scene.proofs.FormWalk.{Entry}
use Rattle.rail_scene.proofs.MemberWalk.{IsFound, all_found, found_on, is_text, past_again, past_stranger}
use Rattle.rail_scene.proofs.members.values_in.Goals.{then-is_none, else-is_none}
use Rattle.rail_scene.proofs.members.values_in.Goals as goal

pub loop-place-preserved-in_default : goal.loop-place-preserved-in_default
loop-place-preserved-in_default c =
    let keys = c.args.keys.now in
    let all = c.args.table.now.entries in
    let values = c.loop-place.values in
    let e : Entry = (c.in-Some.text.now, c.in-Some.value.now) in
    let P : List Entry → Type 0 = λ es. (c.loop-place.place + length es < 2 ^ 64) × IsFound (λ v. view v.now) keys all es values in
    let before = subst P c.in-Some.ensures.steps c.loop-place.invariant in
    let none : position (is_text (string_bytes e.0)) keys ≡ None = ap (λ t. position (is_text t) keys) (sym c.as_str.ensures.value) ∙ sym c.key_index.ensures ∙ c.in_default.is in
    (omega (arith, before.0), past_stranger (λ v. view v.now) keys all c.next.new.self values e before.1 none)

pub loop-place-preserved : goal.loop-place-preserved
loop-place-preserved c =
    let keys = c.args.keys.now in
    let all = c.args.table.now.entries in
    let values = c.loop-place.values in
    let e : Entry = (c.in-Some.text.now, c.in-Some.value.now) in
    let P : List Entry → Type 0 = λ es. (c.loop-place.place + length es < 2 ^ 64) × IsFound (λ v. view v.now) keys all es values in
    let before = subst P c.in-Some.ensures.steps c.loop-place.invariant in
    let at = c.in-Some-key_index.index in
    let is : position (is_text (string_bytes e.0)) keys ≡ Some at = ap (λ t. position (is_text t) keys) (sym c.as_str.ensures.value) ∙ sym c.key_index.ensures ∙ c.in-Some-key_index.is in
    elim c.if-is_none.branch [
      | then-is_none w ↦ rw w.values-is (omega (arith, before.0), found_on (λ v. view v.now) keys all c.next.new.self values e before.1 at c.requires.distinct is c.in-Some.value refl c.index-values-index.result (c.is_none.ensures ∙ ap not w.if-is_none.true))
      | else-is_none w ↦ rw w.values-is (omega (arith, before.0), past_again (λ v. view v.now) keys all c.next.new.self values e before.1 at c.requires.distinct is c.index-values-index.result (c.is_none.ensures ∙ ap not w.if-is_none.false))
    ]

pub returns : goal.returns
returns c =
    let keys = c.args.keys.now in
    let all = c.args.table.now.entries in
    let values = c.loop-place.values in
    let P : List Entry → Type 0 = λ es. IsFound (λ v. view v.now) keys all es values in
    all_found (λ v. view v.now) keys all values NAME (subst P c.in-None.ensures.steps.0 c.loop-place.invariant.1)
