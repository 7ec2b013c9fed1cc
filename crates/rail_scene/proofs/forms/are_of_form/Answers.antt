use Rattle.std.proofs.Common.{◌+◌, ◌<◌, List, length, sym, ap, ◌∙◌, subst, arith}
use Prim.Native.Nat.{◌^◌}
use Rattle.std.specs.List.{position}
use Rattle.rail_base.specs.NameForms.{same_name}
use Rattle.rail_scene.specs.declared.keys.Key.{Key}
use Rattle.rail_scene.specs.Keys.{text_of}
use Rattle.rail_scene.proofs.FormWalk.{Entry, IsWalked, form_passes, walk_on}
use Rattle.rail_scene.proofs.forms.are_of_form.Goals as goal

pub loop-place-preserved : goal.loop-place-preserved
loop-place-preserved c =
    let keys = c.args.keys.now in
    let all = c.args.table.now.entries in
    let e : Entry = (c.in-Some.text.now, c.in-Some.value.now) in
    let P : List Entry → Type 0 = λ es. (c.loop-place.place + length es < 2 ^ 64) × IsWalked keys all es c.loop-place.met in
    let before = subst P c.in-Some.ensures.steps c.loop-place.invariant in
    let named = ap (λ t. position (λ (key : Key). same_name (text_of key.name) t) keys) (sym c.as_str.ensures.value) in (
      omega (arith, before.0),
      walk_on keys all c.next.new.self c.loop-place.met e c.in-Some-key_index.index _ c.requires.few c.requires.distinct
          ((named ∙ sym c.key_index.ensures) ∙ c.in-Some-key_index.is) (sym c.is_of.ensures ∙ c.if-not-is_of.false) before.1,
    )

pub returns : goal.returns
returns c = λ met.
    let keys = c.args.keys.now in
    let all = c.args.table.now.entries in
    let P : List Entry → Type 0 = λ es. IsWalked keys all es c.loop-place.met in
    form_passes keys all c.loop-place.met (subst P c.in-None.ensures.steps.0 c.loop-place.invariant.1) (c.has_required.ensures met)
