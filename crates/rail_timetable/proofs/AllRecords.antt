-- The records that are read one after another up to the end are all the records of the text.
use Rattle.std.proofs.Common.{◌≡◌, ℕ, suc, zero, ◌+◌, ◌-◌, ◌<◌, ◌≤◌, Bool, true, false, List, [], ◌∷◌, ◌++◌, length, Option, Some, None, refl, sym, ap, ◌∙◌, arith}
use Rattle.std.specs.Prelude.{◌==◌, ◌||◌, if◌then◌else◌}
use Rattle.csv.specs.Machine.{Read, ends_at_end, field_after, fields_after, is_end, next_record, step}
use Rattle.csv.specs.Reading.{AreRecords, Reached, default_config, is_bom, records, records_from, records_next, strip_bom}
use Rattle.csv.specs.declared.parser.Action.{Action}
use Rattle.csv.specs.declared.parser.Action.TheVariants as act
use Rattle.csv.specs.declared.parser.State.{State}
use Rattle.csv.specs.declared.parser.State.TheVariants as st

-- a byte that ends a record leads to a state between records
abbrev EndsBetween : State × Action → Type 0
EndsBetween next = is_end next.1 ≡ true → ends_at_end next.0 ≡ false

-- by what the byte is: a delimiter, a line's end, a carriage return
abbrev field_step : Bool → Bool → Bool → State × Action
field_step a b d = if a then (st.StartField, act.EndField) else if b then ((if d then st.AfterCr else st.StartRecord), act.EndRecord) else (st.InField, act.Copy)

in_field : (a b d : Bool) → EndsBetween (field_step a b d)
in_field true b d = λ e. absurd (cc e)
in_field false true true = λ e. refl
in_field false true false = λ e. refl
in_field false false d = λ e. absurd (cc e)

-- a quote, and then the same
abbrev start_step : Bool → Bool → Bool → Bool → State × Action
start_step q a b d = if q then (st.InQuoted, act.Skip) else field_step a b d

start_field : (q a b d : Bool) → EndsBetween (start_step q a b d)
start_field true a b d = λ e. absurd (cc e)
start_field false a b d = in_field a b d

-- a line's end, and then the same
abbrev record_step : Bool → Bool → Bool → Bool → Bool → State × Action
record_step l q a b d = if l then (st.StartRecord, act.Skip) else start_step q a b d

start_record : (l q a b d : Bool) → EndsBetween (record_step l q a b d)
start_record true q a b d = λ e. absurd (cc e)
start_record false q a b d = start_field q a b d

-- a byte behind a quote, in quotes, in a comment, and behind a carriage return
after_quote : (q a b d : Bool) → EndsBetween (if q then (st.InQuoted, act.Copy) else field_step a b d)
after_quote true a b d = λ e. absurd (cc e)
after_quote false a b d = in_field a b d

in_quoted : (q : Bool) → EndsBetween (if q then (st.AfterQuote, act.Skip) else (st.InQuoted, act.Copy))
in_quoted true = λ e. absurd (cc e)
in_quoted false = λ e. absurd (cc e)

in_comment : (l : Bool) → EndsBetween (if l then (st.StartRecord, act.Skip) else (st.InComment, act.Skip))
in_comment true = λ e. absurd (cc e)
in_comment false = λ e. absurd (cc e)

after_return : (f l q a b d : Bool) → EndsBetween (if f then (st.StartRecord, act.Skip) else record_step l q a b d)
after_return true l q a b d = λ e. absurd (cc e)
after_return false l q a b d = start_record l q a b d

step_between : (s : State) (c : ℕ) → EndsBetween (step default_config s c)
step_between st.StartRecord c = start_record ((c == 13) || (c == 10)) (c == 34) (c == 44) ((c == 13) || (c == 10)) (c == 13)
step_between st.StartField c = start_field (c == 34) (c == 44) ((c == 13) || (c == 10)) (c == 13)
step_between st.InField c = in_field (c == 44) ((c == 13) || (c == 10)) (c == 13)
step_between st.InQuoted c = in_quoted (c == 34)
step_between st.InEscape c = λ e. absurd (cc e)
step_between st.AfterQuote c = after_quote (c == 34) (c == 44) ((c == 13) || (c == 10)) (c == 13)
step_between st.InComment c = in_comment (c == 10)
step_between st.AfterCr c = after_return (c == 10) ((c == 13) || (c == 10)) (c == 34) (c == 44) ((c == 13) || (c == 10)) (c == 13)

-- behind a record the reader stands between records, and at least one byte further on, where there was one
record IsBehind (xs : List ℕ) (p : Read) : Type 0 where
  pub between : ends_at_end p.1 ≡ false
  pub less : length p.2 ≤ length xs - 1

behind : (s : State) (fields : List (List ℕ)) (field xs : List ℕ) (p : Read) → next_record default_config s fields field xs ≡ Some p → IsBehind xs p
unfolding next_record
behind s fields field [] p h = at_end (ends_at_end s) h
  where
    at_end : (b : Bool) → (if b then Some (fields ++ (field ∷ []), st.StartRecord, []) else None) ≡ Some p → IsBehind [] p
    at_end true e =
        let same : (fields ++ (field ∷ []), st.StartRecord, []) ≡ p = cc in
        record { between = ap (λ (q : Read). ends_at_end q.1) (sym same); less = omega (arith, ap (λ (q : Read). length q.2) same) }
    at_end false e = absurd (cc e)
behind s fields field (c ∷ rest) p h = by (is_end (step default_config s c).1) refl h (behind (step default_config s c).0 (fields_after (step default_config s c).1 fields field) (field_after (step default_config s c).1 c field) rest p)
  where
    by : (b : Bool) → is_end (step default_config s c).1 ≡ b
        → (if b then Some (fields_after (step default_config s c).1 fields field, (step default_config s c).0, rest)
        else next_record default_config (step default_config s c).0 (fields_after (step default_config s c).1 fields field) (field_after (step default_config s c).1 c field) rest) ≡ Some p
        → (next_record default_config (step default_config s c).0 (fields_after (step default_config s c).1 fields field) (field_after (step default_config s c).1 c field) rest ≡ Some p → IsBehind rest p)
        → IsBehind (c ∷ rest) p
    by true is e more =
        let same : (fields_after (step default_config s c).1 fields field, (step default_config s c).0, rest) ≡ p = cc in
        record { between = ap (λ (q : Read). ends_at_end q.1) (sym same) ∙ step_between s c is; less = omega (arith, ap (λ (q : Read). length q.2) same) }
    by false is e more = record { between = (more e).between; less = omega (arith, (more e).less) }

-- between records, the end of the text gives no record
nothing_left : (s : State) → ends_at_end s ≡ false → next_record default_config s [] [] [] ≡ None
unfolding next_record
nothing_left s between = rw between refl

-- so a record between records takes at least one byte
takes_some : (s : State) (xs : List ℕ) (p : Read) → ends_at_end s ≡ false → next_record default_config s [] [] xs ≡ Some p → length p.2 < length xs
takes_some s [] p between h = absurd (let none = nothing_left s between in cc)
takes_some s (c ∷ rest) p between h = omega (arith, (behind s [] [] (c ∷ rest) p h).less)

-- the records from a place on
pub record AreAll (n : ℕ) (s : State) (xs : List ℕ) (rows : List (List (List ℕ))) : Type 0 where
  pub same : records_from default_config n s xs ≡ rows
  pub few : length rows ≤ length xs

one_more : (n : ℕ) (s : State) (xs : List ℕ) (o : Option Read) → next_record default_config s [] [] xs ≡ o → records_from default_config (suc n) s xs ≡ records_next (records_from default_config n) o
unfolding records_from
one_more n s xs o h = ap (records_next (records_from default_config n)) h

all_from : (n : ℕ) (s s2 : State) (xs ys : List ℕ) (rows : List (List (List ℕ))) → ends_at_end s ≡ false → length xs < n
    → Reached default_config s xs rows s2 ys → next_record default_config s2 [] [] ys ≡ None → AreAll n s xs rows
unfolding Reached
all_from zero s s2 xs ys rows between enough h end = absurd (omega arith)
all_from (suc n) s s2 xs ys [] between enough h end = record { same = one_more n s xs None (rw (h.0, h.1) end); few = omega arith }
all_from (suc n) s s2 xs ys (r ∷ rows) between enough h end =
    let p : Read = h.0 in
    let less = takes_some s xs p between h.1 in
    let later = all_from n p.1 s2 p.2 ys rows ((behind s [] [] xs p h.1).between) (omega (arith, less)) h.3 end in
    record {
      same = one_more n s xs (Some p) h.1 ∙ (λ i. sym h.2 i ∷ later.same i);
      few = omega (arith, later.few, less);
    }

-- no text is longer behind its byte order mark
strip_less : (xs : List ℕ) → length (strip_bom xs) ≤ length xs
unfolding strip_bom
strip_less [] = omega arith
strip_less (a ∷ []) = omega arith
strip_less (a ∷ b ∷ []) = omega arith
strip_less (a ∷ b ∷ c ∷ rest) = by (is_bom a b c)
  where
    by : (m : Bool) → length (if m then rest else a ∷ b ∷ c ∷ rest) ≤ length (a ∷ b ∷ c ∷ rest)
    by true = omega arith
    by false = omega arith

-- all records of a file
pub record AreRecordsOf (bytes : List ℕ) (rows : List (List (List ℕ))) : Type 0 where
  pub same : rows ≡ records default_config (strip_bom bytes)
  pub few : length rows ≤ length bytes

pub all_records : (bytes : List ℕ) (rows : List (List (List ℕ))) → AreRecords default_config st.StartRecord (strip_bom bytes) rows → AreRecordsOf bytes rows
all_records bytes rows h =
    let all = all_from (length (strip_bom bytes) + 1) st.StartRecord h.0 (strip_bom bytes) h.1 rows refl (omega arith) h.2 h.3 in
    record { same = sym all.same; few = omega (arith, all.few, strip_less bytes) }
