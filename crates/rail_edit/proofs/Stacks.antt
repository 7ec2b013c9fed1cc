-- The kept edits as the edits that were made.
use Rattle.std.proofs.Common.{◌≡◌, suc, ◌≤◌, ◌<◌, nat_le, true, false, cond, List, [], ◌∷◌, length, reverse, None, Some, refl, sym, ap, ◌∙◌, arith}
use Rattle.std.proofs.lemmas.Bool.Decides.{nat_tests}
use Rattle.std.proofs.lemmas.List.{length-reverse}
use Rattle.std.proofs.lemmas.Option.{same_Some}
use Rattle.rail_base.specs.declared.refusals.Reason.TheVariants.{TooMany}
use Rattle.rail_track.specs.declared.section.NetFault.TheVariants.{Refused}
use Rattle.rail_routes.specs.Net.{Net}
use Rattle.rail_edit.specs.declared.edit.Edit.{Edit}
use Rattle.rail_edit.specs.declared.edit.Kept.{Kept}
use Rattle.rail_edit.specs.declared.editor.Editor.TheInside.{Inside}
use Rattle.rail_edit.specs.Edits.{edit_refusal, edited}
use Rattle.rail_edit.specs.Inverses.{taken_back}
use Rattle.rail_edit.specs.Editing.{Editing, Made, undone_once, redone_once, after_undo, after_redo, refusal, first_of, first_network}
use Rattle.rail_edit.specs.EditorFields.{made_from, editing_of}

made_length : (net : Net) (ks : List Kept) → length (made_from net ks) ≡ length ks
made_length net [] = refl
made_length net (k ∷ ks) = ap suc (made_length (taken_back k net) ks)

module _ (a : Inside) (now : Editing) (is : editing_of a ≡ now) where
  count_is : length now.made ≡ length a.done.items
  count_is = ap (λ (e : Editing). length e.made) (sym is) ∙ made_length a.network (reverse a.done.items) ∙ length-reverse a.done.items

  -- an editor that keeps as many edits as it may refuses each
  pub refused_full : (edit : Edit) → 4096 ≤ length a.done.items → refusal edit now ≡ Some (Refused TooMany 0)
  refused_full edit full =
      let n = count_is in
      let test : nat_le 4096 (length now.made) ≡ true = grind (arith, nat_tests) in
      ap (λ b. cond b (Some (Refused TooMany 0)) (edit_refusal edit now.network)) test

  -- one that keeps fewer refuses what its network refuses
  pub refused_as : (edit : Edit) → length a.done.items < 4096 → refusal edit now ≡ edit_refusal edit a.network
  refused_as edit room =
      let n = count_is in
      let test : nat_le 4096 (length now.made) ≡ false = grind (arith, nat_tests) in
      ap (λ b. cond b (Some (Refused TooMany 0)) (edit_refusal edit now.network)) test ∙ ap (λ (e : Editing). edit_refusal edit e.network) (sym is)

  some_made : (ms : List Made) → 0 < length ms → undone_once ms now.undone ≡ None → ⊥
  some_made [] some none = omega arith
  some_made (m ∷ ms) some none = cc

  -- where an edit is kept, it can be undone
  pub never_nothing : 0 < length a.done.items → after_undo now ≡ None → ⊥
  never_nothing some none = some_made now.made (omega (arith, count_is)) none

-- an undo and a redo leave the first network
undo_first : (net : Net) (ms : List Made) (es : List Edit) (new : Editing) → undone_once ms es ≡ Some new → first_network new ≡ first_of net ms
undo_first net [] es new h = cc
undo_first net (m ∷ ms) es new h = ap first_network (sym (same_Some (record { network = m.before; made = ms; undone = m.edit ∷ es }) new h))

pub first_after_undo : (e new : Editing) → after_undo e ≡ Some new → first_network new ≡ first_network e
first_after_undo e new h = undo_first e.network e.made e.undone new h

redo_first : (net : Net) (ms : List Made) (es : List Edit) (new : Editing) → redone_once net ms es ≡ Some new → first_network new ≡ first_of net ms
redo_first net ms [] new h = cc
redo_first net ms (e ∷ es) new h = ap first_network (sym (same_Some (record { network = edited e net; made = record { before = net; edit = e } ∷ ms; undone = es }) new h))

pub first_after_redo : (e new : Editing) → after_redo e ≡ Some new → first_network new ≡ first_network e
first_after_redo e new h = redo_first e.network e.made e.undone new h
