-- What is kept after one more line is that of the lines with it.
use Rattle.std.proofs.Common.{◌≡◌, ℕ, ◌<◌, ◌^◌, true, List, [], ◌∷◌, length, get_or, map, replicate, Option, sym, ap, ◌∙◌, subst, arith}
use Rattle.std.proofs.lemmas.List.{ext_get_or, get_or-map, get_or-replicate, length-map, length-replicate, with_items_is}
use Rattle.rail_base.specs.declared.history.Entry.{Entry}
use Rattle.rail_base.specs.declared.orders.Command.{Command}
use Rattle.rail_base.specs.declared.plant.TrainRow.{TrainRow}
use Rattle.rail_laws_front.proofs.CallerLemmas.{get_or-listed, length-listed}
use Rattle.rail_rules.specs.Numbers.{listed}
use Rattle.rail_rules.specs.Plant.{Plant, moves, no_train, trains}
use Rattle.rail_rules.specs.Fronts.{Front, Line}
use Rattle.rail_delay.specs.declared.account.Account.{Account}
use Rattle.rail_delay.specs.declared.visits.Visit.{Visit}
use Rattle.rail_delay.specs.Accounts.{AreNoted, Kept, account, accounts, cancelled_train, visits}
use Rattle.rail_delay.specs.Noting.{AreAccountsAfter, AreVisitsAfter, account_after, account_of, visit_after}
use Rattle.rail_delay.specs.Reports.{no_account, no_visit, visit_of, visits_of}
use Rattle.rail_delay.specs.VisitRows.{no_visits, rows_of}
use Rattle.rail_delay.proofs.VisitSets.{visits_in}
use Rattle.std.specs.Global.{Vec}
use Rattle.std.specs.Vec.{with_items}
use Rattle.rail_delay.specs.Visits.{train_visits, visit}
use Rattle.rail_delay.specs.Waits.{is_in_order}
use Rattle.rail_delay.proofs.Stepping.{step}

-- a list of so many items, each of which is that of its number
listed_from : {X : Type 0} (d : X) (f : ℕ → X) (n : ℕ) (xs : List X) → length xs ≡ n → ((i : ℕ) → i < n → get_or xs i d ≡ f i) → xs ≡ listed f n
listed_from d f n xs long each = ext_get_or d xs (listed f n) (long ∙ sym (length-listed f n))
    (λ i lt. each i (omega (arith, lt, long)) ∙ sym (get_or-listed f n i d (omega (arith, lt, long))))

-- the accounts with one more line
accounts_next : (plant : Plant) (commands : List Command) (line : Line) (front : Front) (old new : List Account)
    → is_in_order (line ∷ front) ≡ true → line.entry.at < 2 ^ 64 → old ≡ accounts plant commands front
    → AreAccountsAfter (map (λ (command : Command). cancelled_train command.what) commands) line.entry.at line.entry.what old new → new ≡ accounts plant commands (line ∷ front)
accounts_next plant commands line front old new is lt at after =
    let long : length old ≡ trains plant = ap (length {A = Account}) at ∙ length-listed (account commands front) (trains plant) in
    let cancels : List (Option ℕ) = map (λ (command : Command). cancelled_train command.what) commands in
    listed_from no_account (account commands (line ∷ front)) (trains plant) new (after.trains ∙ long)
    (λ t known. after.each t (omega (arith, known, long))
    ∙ ap (account_after cancels line.entry.at line.entry.what t) (ap (λ (all : List Account). account_of all t) at ∙ get_or-listed (account commands front) (trains plant) t no_account known)
    ∙ sym (step commands line front t is lt))

-- the visits with one more line
visits_next : (plant : Plant) (line : Line) (front : Front) (old new : List (List Visit)) → old ≡ visits plant front → AreVisitsAfter plant line.entry old new → new ≡ visits plant (line ∷ front)
visits_next plant line front old new at after =
    let long : length old ≡ trains plant = ap (length {A = List Visit}) at ∙ length-listed (train_visits plant front) (trains plant) in
    listed_from [] (train_visits plant (line ∷ front)) (trains plant) new (after.trains ∙ long)
    (λ t known.
    let row : visits_of old t ≡ train_visits plant front t = ap (λ (rows : List (List Visit)). visits_of rows t) at ∙ get_or-listed (train_visits plant front) (trains plant) t [] known in
    let row_long : length (visits_of old t) ≡ moves plant t = ap (length {A = Visit}) row ∙ length-listed (visit plant front t) (moves plant t) in
    listed_from no_visit (visit plant (line ∷ front) t) (moves plant t) (visits_of new t) (after.moves t (omega (arith, known, long)) ∙ row_long)
    (λ m in_row. after.each t m (omega (arith, known, long)) (omega (arith, in_row, row_long))
    ∙ ap (visit_after plant line.entry.at line.entry.what t m) (ap (λ (vs : List Visit). visit_of vs m) row ∙ get_or-listed (visit plant front t) (moves plant t) m no_visit in_row)))

-- what is kept after one more line
pub noted_next : (plant : Plant) (entry : Entry) (old new : Kept) → new.cancels ≡ old.cancels → AreAccountsAfter old.cancels entry.at entry.what old.accounts new.accounts
    → AreVisitsAfter plant entry old.visits new.visits → entry.at < 2 ^ 64
    → (commands : List Command) (front : Front) (line : Line) → line.entry ≡ entry → is_in_order (line ∷ front) ≡ true → AreNoted plant commands front old → AreNoted plant commands (line ∷ front) new
noted_next plant entry old new cancels all rows lt commands front line same is noted =
    let cancel_table : List (Option ℕ) = map (λ (command : Command). cancelled_train command.what) commands in
    let all_at = subst (λ (e : Entry). AreAccountsAfter cancel_table e.at e.what old.accounts new.accounts) (sym same) (subst (λ (table : List (Option ℕ)). AreAccountsAfter table entry.at entry.what old.accounts new.accounts) noted.cancels all) in
    let rows_at = subst (λ (e : Entry). AreVisitsAfter plant e old.visits new.visits) (sym same) rows in
    record {
      accounts = accounts_next plant commands line front old.accounts new.accounts is (omega (arith, lt, ap (λ (e : Entry). e.at) same)) noted.accounts all_at;
      visits = visits_next plant line front old.visits new.visits noted.visits rows_at;
      cancels = cancels ∙ noted.cancels;
    }

-- room for the visits of a train
abbrev room : TrainRow → List Visit
room row = replicate (length row.moves) no_visit

-- before any line
pub noted_first : (plant : Plant) (commands : List Command) (kept : Kept) → kept.accounts ≡ replicate (trains plant) no_account → kept.visits ≡ no_visits plant
    → kept.cancels ≡ map (λ (command : Command). cancelled_train command.what) commands → AreNoted plant commands [] kept
noted_first plant commands kept all rows cancels = record {
  accounts = all ∙ listed_from no_account (account commands []) (trains plant) (replicate (trains plant) no_account) (length-replicate (trains plant) no_account) (λ t lt. get_or-replicate (trains plant) t no_account no_account lt);
  visits = rows ∙ listed_from [] (train_visits plant []) (trains plant) (no_visits plant) (length-map plant.tables.trains room)
      (λ t lt. get_or-map room plant.tables.trains t no_train [] lt
      ∙ listed_from no_visit (visit plant [] t) (moves plant t) (replicate (moves plant t) no_visit) (length-replicate (moves plant t) no_visit) (λ m in_row. get_or-replicate (moves plant t) m no_visit no_visit in_row));
  cancels = cancels;
}

-- what vectors keep after one more line
pub noted_in : (plant : Plant) (entry : Entry) (all : Vec Account) (rows : Vec (Vec Visit)) (cancels : Vec (Option ℕ)) (old : Kept)
    → record { accounts = all.items; visits = rows_of rows.items; cancels = cancels.items } ≡ old
    → (all_before all_after : List Account) (cancels_now : List (Option ℕ)) (rows_before rows_after : List (Vec Visit))
    → all_before ≡ all.items → cancels_now ≡ cancels.items → rows_before ≡ rows.items
    → AreAccountsAfter cancels_now entry.at entry.what all_before all_after → AreVisitsAfter plant entry (rows_of rows_before) (rows_of rows_after) → entry.at < 2 ^ 64
    → (commands : List Command) (front : Front) (line : Line) → line.entry ≡ entry → is_in_order (line ∷ front) ≡ true → AreNoted plant commands front old
    → AreNoted plant commands (line ∷ front) (record { accounts = (with_items all all_after).items; visits = rows_of (with_items rows rows_after).items; cancels = cancels.items })
noted_in plant entry all rows cancels old view all_before all_after cancels_now rows_before rows_after same_all same_cancels same_rows all_is rows_is lt commands front line same is noted =
    let long : length all_after ≡ all.len = all_is.trains ∙ ap (length {A = Account}) same_all ∙ sym all.ok.0 in
    let many : length rows_after ≡ rows.len =
    sym (length-map rows_after visits_in) ∙ rows_is.trains ∙ length-map rows_before visits_in ∙ ap (length {A = Vec Visit}) same_rows ∙ sym rows.ok.0 in
    let all_new : (with_items all all_after).items ≡ all_after = with_items_is all all_after long in
    let rows_new : rows_of (with_items rows rows_after).items ≡ rows_of rows_after = ap rows_of (with_items_is rows rows_after many) in
    let old_all : all_before ≡ old.accounts = same_all ∙ ap (λ (k : Kept). k.accounts) view in
    let old_rows : rows_of rows_before ≡ old.visits = ap rows_of same_rows ∙ ap (λ (k : Kept). k.visits) view in
    let old_cancels : cancels.items ≡ old.cancels = ap (λ (k : Kept). k.cancels) view in
    noted_next plant entry old (record { accounts = (with_items all all_after).items; visits = rows_of (with_items rows rows_after).items; cancels = cancels.items }) old_cancels
    (subst (λ (xs : List Account). AreAccountsAfter old.cancels entry.at entry.what old.accounts xs) (sym all_new)
    (subst (λ (xs : List Account). AreAccountsAfter old.cancels entry.at entry.what xs all_after) old_all
    (subst (λ (table : List (Option ℕ)). AreAccountsAfter table entry.at entry.what all_before all_after) (same_cancels ∙ old_cancels) all_is)))
    (subst (λ (xs : List (List Visit)). AreVisitsAfter plant entry old.visits xs) (sym rows_new)
    (subst (λ (xs : List (List Visit)). AreVisitsAfter plant entry xs (rows_of rows_after)) old_rows rows_is))
    lt commands front line same is noted

-- as many accounts stay
pub made_in : (all : Vec Account) (all_after all_before old : List Account) → all_before ≡ all.items → length all_after ≡ length all_before → all.items ≡ old → length (with_items all all_after).items ≡ length old
made_in all all_after all_before old same long view =
    ap (length {A = Account}) (with_items_is all all_after (long ∙ ap (length {A = Account}) same ∙ sym all.ok.0)) ∙ long ∙ ap (length {A = Account}) (same ∙ view)
