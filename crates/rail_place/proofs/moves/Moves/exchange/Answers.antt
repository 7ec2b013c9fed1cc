use Rattle.std.proofs.Common.{◌≡◌, ℕ, ◌<◌, List, length, map, get_or, set, sym, ap, ◌∙◌, subst, arith}
use Rattle.std.proofs.lemmas.List.{get_or_default, length-map, map-set}
use Rattle.std.proofs.lemmas.List.Elements.{All-set}
use Rattle.rail_place.specs.Lasts.{TellsEnds}
use Rattle.rail_place.specs.Tables.{AreFirsts, EndWith, IsTable, MoveLists, no_lists}
use Rattle.rail_place.proofs.Tables.{Kept, kept_of, no_firsts, row_read, row_set, table_exchanged}
use Rattle.rail_place.proofs.moves.Moves.exchange.Goals as goal

abbrev Told : Kept → Type 0
Told row = TellsEnds row.value.claims row.value.lasts.items row.value.firsts.items

abbrev Ends : Kept → Type 0
Ends row = EndWith row.value.claims row.value.overs

pub invariant_of-self : goal.invariant_of-self
invariant_of-self c =
    let rows = c.self.inside.rows.items in
    let others = c.others.inside.rows.items in
    let row : Kept = c.swap.new.x in
    let some : 0 < length others = omega (arith, c.requires.some, ap length c.others.view_is, length-map others kept_of) in
    let is : row ≡ get_or others 0 row = c.swap.ensures.x_after ∙ c.index_mut-2.ensures.value ∙ get_or_default others 0 c.index_mut-2.result.now row some in
    let lists : get_or (map kept_of others) 0 no_lists ≡ kept_of row = row_read others 0 row some is in
    let table : List MoveLists = map kept_of (set rows c.from.result row) in
    let known : List ℕ → Type 0 = λ n. AreFirsts table n in (
      subst IsTable (ap (λ n. set (map kept_of rows) c.from.result n) lists ∙ sym (map-set kept_of rows c.from.result row))
          (table_exchanged (map kept_of rows) (map kept_of others) c.from.result 0 c.self.invariant.0 c.others.invariant.0 (omega (arith, some, length-map others kept_of))),
      All-set Told rows c.from.result row (subst Told (sym is) (c.others.invariant.1 0 row some)) c.self.invariant.1,
      All-set Ends rows c.from.result row (subst Ends (sym is) (c.others.invariant.2 0 row some)) c.self.invariant.2,
      subst known (sym c.clear.ensures.items) (no_firsts table),
    )

pub invariant_of-others : goal.invariant_of-others
invariant_of-others c =
    let rows = c.self.inside.rows.items in
    let others = c.others.inside.rows.items in
    let row : Kept = c.swap.new.y in
    let at : c.from.result ≡ c.args.train = c.from.ensures ∙ c.train.view_is in
    let some : c.from.result < length rows = omega (arith, at, c.requires.train, ap length c.self.view_is, length-map rows kept_of) in
    let is : row ≡ get_or rows c.from.result row = c.swap.ensures.y_after ∙ c.index_mut.ensures.value ∙ get_or_default rows c.from.result c.index_mut.result.now row some in
    let lists : get_or (map kept_of rows) c.from.result no_lists ≡ kept_of row = row_read rows c.from.result row some is in
    let table : List MoveLists = map kept_of (set others 0 row) in
    let known : List ℕ → Type 0 = λ n. AreFirsts table n in (
      subst IsTable (ap (λ n. set (map kept_of others) 0 n) lists ∙ sym (map-set kept_of others 0 row))
          (table_exchanged (map kept_of others) (map kept_of rows) 0 c.from.result c.others.invariant.0 c.self.invariant.0 (omega (arith, some, length-map rows kept_of))),
      All-set Told others 0 row (subst Told (sym is) (c.self.invariant.1 c.from.result row some)) c.others.invariant.1,
      All-set Ends others 0 row (subst Ends (sym is) (c.self.invariant.2 c.from.result row some)) c.others.invariant.2,
      subst known (sym c.clear-2.ensures.items) (no_firsts table),
    )

pub returns-clause-here : goal.returns-clause-here
returns-clause-here c =
    let others = c.others.inside.rows.items in
    let row : Kept = c.swap.new.x in
    let at : c.from.result ≡ c.args.train = c.from.ensures ∙ c.train.view_is in
    let some : 0 < length others = omega (arith, c.requires.some, ap length c.others.view_is, length-map others kept_of) in
    let is : row ≡ get_or others 0 row = c.swap.ensures.x_after ∙ c.index_mut-2.ensures.value ∙ get_or_default others 0 c.index_mut-2.result.now row some in
    row_set c.args.self.now c.self.inside.rows.items c.from.result c.args.train row (get_or c.args.others.now 0 no_lists) c.self.view_is at
    (sym (row_read others 0 row some is) ∙ ap (λ n. get_or n 0 no_lists) c.others.view_is)
