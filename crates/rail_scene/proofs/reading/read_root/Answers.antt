use Rattle.std.proofs.Common.{not, cond, Option, Some, None, is_some, sym, ap, ◌∙◌}
use Rattle.std.proofs.lemmas.Bool.{false≢true}
use Rattle.toml.specs.Errors.{IsMemory}
use Rattle.toml.specs.Data.{Members}
use Rattle.toml.specs.View.{table_view}
use Rattle.toml.proofs.Views.{view-Table}
use Rattle.rail_base.specs.declared.refusals.Part.TheVariants.{Bytes}
use Rattle.rail_base.specs.declared.refusals.Reason.TheVariants.{NotToml}
use Rattle.rail_scene.proofs.Documents.{document_some, document_none, root_is}
use Rattle.rail_scene.proofs.reading.read_root.Goals as goal

pub returns-in-Ok-clause-accepted : goal.returns-in-Ok-clause-accepted
returns-in-Ok-clause-accepted c =
    ap (λ (o : Option Members). cond (not (is_some o)) (Some record { reason = NotToml; part = Bytes; item = 0; step = 0 }) None)
    (document_some c.args.bytes.now (table_view c.in-Ok.table) c.in-Ok.ensures.ok.0 c.in-Ok.ensures.ok.1)

pub returns-in-Ok-clause-root : goal.returns-in-Ok-clause-root
returns-in-Ok-clause-root c =
    view-Table c.in-Ok.table
    ∙ sym (root_is c.args.bytes.now (table_view c.in-Ok.table) (document_some c.args.bytes.now (table_view c.in-Ok.table) c.in-Ok.ensures.ok.0 c.in-Ok.ensures.ok.1))

pub returns-else-is_memory-clause-refused : goal.returns-else-is_memory-clause-refused
returns-else-is_memory-clause-refused c =
    let other : ¬ (IsMemory c.in-Err.error) = λ m. false≢true (c.if-is_memory.ensures.1 m) in
    ap (λ (o : Option Members). cond (not (is_some o)) (Some record { reason = NotToml; part = Bytes; item = 0; step = 0 }) None)
    (document_none c.args.bytes.now (c.in-Err.ensures.refused other))
