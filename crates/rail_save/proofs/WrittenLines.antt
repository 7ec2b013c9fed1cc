-- How far lines behind a front were written.
use Rattle.std.proofs.Common.{◌≡◌, ◌⊎◌, ℕ, ◌+◌, ◌<◌, true, take, drop, List, [], ◌∷◌, ◌++◌, length, inl, inr, refl, ap, ◌∙◌, subst, sym, arith, length-append}
use Rattle.std.specs.Prelude.{Option}
use Rattle.std.proofs.Math.Seq.{take-append-add}
use Rattle.std.proofs.lemmas.List.{append-nil}
use Rattle.rail_base.specs.declared.history.Entry.{Entry}
use Rattle.rail_engine.specs.Engines.{StandsFor}
use Rattle.rail_history.specs.Lines.{line_of}
use Rattle.rail_io.specs.Writes.{Adds, AddsPrefix}
use Rattle.rail_io.specs.declared.sink.Sink.{Ghosts}
use Rattle.rail_io.proofs.CallerLemmas.{Adds-append, Adds-same}
use Rattle.rail_laws_step.proofs.CallerLemmas.{run_lawful}
use Rattle.rail_ledger.specs.declared.input.RunInput.{RunInput}
use Rattle.rail_ledger.specs.declared.ledger.Ledger.{Ledger}
use Rattle.rail_ledger.specs.Inputs.{input_in}
use Rattle.rail_ledger.specs.Ledgers.{line_in}
use Rattle.rail_policy.specs.Desks.{Table}
use Rattle.rail_rules.specs.Fronts.{Front, Line, has_ended}
use Rattle.rail_rules.specs.Lawful.{is_lawful}
use Rattle.rail_rules.specs.Plant.{Plant}
use Rattle.rail_rules.specs.RunHistories.{Seat}
use Rattle.rail_rules.specs.Texts.{line_text, text}
use Rattle.rail_rules.specs.WritableLines.{is_writable}
use Rattle.rail_save.specs.Snapshots.{header}
use Rattle.rail_save.specs.WrittenLines.{AreCounted, IsSaved, IsSavedInPart, IsWritten, IsWrittenInPart}
use Rattle.rail_save.proofs.WritableLines.{line_made, line_made_writable}

-- so many lines behind the front were written, and the engine stands for the front with them
pub record AreWritten {O : Type 0} (sink : Ghosts O) (seats : List Seat) (front : Front) (count : ℕ) (ledger : Ledger) (table : Table) (first now : O) : Type 0 where
  pub more : Front
  pub stands : StandsFor seats (more ++ front) ledger table
  pub long : length more ≡ count
  pub adds : Adds (sink.written first) (sink.written now) (text ledger.input.plant more)

-- before the first of them
pub none_written : {O : Type 0} (sink : Ghosts O) (seats : List Seat) (front : Front) (ledger : Ledger) (table : Table) (out : O) → StandsFor seats front ledger table
    → AreWritten sink seats front 0 ledger table out out
none_written sink seats front ledger table out stands = record { more = []; stands = stands; long = refl; adds = Adds-same (sink.written out) }

-- one line more: it is handed on with the plant and the list that belongs to it
module _ {O : Type 0} (sink : Ghosts O) (seats : List Seat) (front : Front) (count : ℕ) (before : Ledger) (desk : Table) (first mid : O) (so_far : AreWritten sink seats front count before desk first mid)
    (now : Ledger) (after : Table) (same : now.input ≡ before.input) (entry : Entry) (stands : StandsFor seats (line_in now entry ∷ so_far.more ++ front) now after)
    (plant : Plant) (plant_is : plant ≡ now.input.plant) (list : List ℕ) (list_is : list ≡ (line_in now entry).trains) where
  abbrev line : Line
  line = line_in now entry

  lawful : is_lawful (input_in now.input) (line ∷ so_far.more ++ front) ≡ true
  lawful = run_lawful (input_in now.input) seats (line ∷ so_far.more ++ front) stands.run.of_run

  made : line_of entry list ≡ line
  made = ap (line_of entry) list_is ∙ line_made (input_in now.input) (so_far.more ++ front) line lawful

  -- it can be written
  pub next_writable : is_writable plant (line_of entry list) ≡ true
  next_writable =
      (λ i. is_writable (plant_is i) (line_of entry (list_is i)))
      ∙ line_made_writable (input_in now.input) (so_far.more ++ front) line lawful stands.at.accepted

  same_text : line_text plant (line_of entry list) ≡ line_text now.input.plant line
  same_text = λ i. line_text (plant_is i) (made i)

  before_it : Adds (sink.written first) (sink.written mid) (text now.input.plant so_far.more)
  before_it = subst (λ (input : RunInput). Adds (sink.written first) (sink.written mid) (text input.plant so_far.more)) (sym same) so_far.adds

  -- it was written
  pub next_written : (new : O) → Adds (sink.written mid) (sink.written new) (line_text plant (line_of entry list)) → AreWritten sink seats front (count + 1) now after first new
  next_written new more = record {
    more = line ∷ so_far.more;
    stands = stands;
    long = omega (arith, so_far.long);
    adds = Adds-append before_it (subst (Adds (sink.written mid) (sink.written new)) same_text more);
  }

  -- it was not written to its end
  pub next_cut : (new : O) (most : ℕ) → count < most → AddsPrefix (sink.written mid) (sink.written new) (line_text plant (line_of entry list))
      → IsWrittenInPart seats front most now after (sink.written first) (sink.written new)
  next_cut new most lt more =
      let lines = text now.input.plant so_far.more in
      let last = line_text now.input.plant line in
      let part : Adds (sink.written mid) (sink.written new) (take more.count last) =
      subst (λ (bytes : List ℕ). Adds (sink.written mid) (sink.written new) (take more.count bytes)) same_text more.added in
      record {
        more = line ∷ so_far.more;
        stands = stands;
        few = omega (arith, so_far.long, lt);
        adds = record {
          count = length lines + more.count;
          added = subst (Adds (sink.written first) (sink.written new)) (sym (take-append-add lines last more.count)) (Adds-append before_it part);
        };
        whole = λ other rest is.
            let rest_is : so_far.more ≡ rest = ap (drop {A = Line} 1) is in
            omega (arith, ap (λ (ls : Front). length (text now.input.plant ls)) rest_is);
      }

-- all lines were written that were asked for, or the end line is the last
pub all_written : {O : Type 0} (sink : Ghosts O) (seats : List Seat) (front : Front) (count most : ℕ) (ledger : Ledger) (table : Table) (first now : O)
    → AreWritten sink seats front count ledger table first now → count ≡ most → IsWritten seats front most ledger table (sink.written first) (sink.written now)
all_written sink seats front count most ledger table first now so_far is =
    record { more = so_far.more; stands = so_far.stands; counted = inl (so_far.long ∙ is); adds = so_far.adds }

pub all_ended : {O : Type 0} (sink : Ghosts O) (seats : List Seat) (front : Front) (count most : ℕ) (ledger : Ledger) (table : Table) (first now : O)
    → (so_far : AreWritten sink seats front count ledger table first now) → count < most → has_ended (so_far.more ++ front) ≡ true
    → IsWritten seats front most ledger table (sink.written first) (sink.written now)
all_ended sink seats front count most ledger table first now so_far lt ended =
    record { more = so_far.more; stands = so_far.stands; counted = inr (omega (arith, so_far.long, lt), ended); adds = so_far.adds }

-- where the engine stands as before, this is so again
pub still_written : (seats : List Seat) (front : Front) (most : ℕ) (ledger now : Ledger) (table after : Table) (before told : Option (List ℕ)) → now ≡ ledger → after ≡ table
    → IsWritten seats front most ledger table before told → IsWritten seats front most now after before told
still_written seats front most ledger now table after before told same same_table is =
    subst (λ (t : Table). IsWritten seats front most now t before told) (sym same_table)
    (subst (λ (l : Ledger). IsWritten seats front most l table before told) (sym same) is)

-- the header was written, and lines behind it
module _ {O : Type 0} (sink : Ghosts O) (seats : List Seat) (count : ℕ) (ledger : Ledger) (table : Table) (first mid now : O) (adds : Adds (sink.written first) (sink.written mid) header) where
  stands_for : (more : Front) → StandsFor seats (more ++ []) ledger table → StandsFor seats more ledger table
  stands_for more = subst (λ (front : Front). StandsFor seats front ledger table) (append-nil more)

  pub saved : IsWritten seats [] count ledger table (sink.written mid) (sink.written now) → IsSaved seats count ledger table (sink.written first) (sink.written now)
  saved written = record {
    front = written.more;
    stands = stands_for written.more written.stands;
    counted = counted written.counted;
    adds = Adds-append adds written.adds;
  }
    where
      counted : AreCounted count written.more [] → (length written.more ≡ count) ⊎ ((length written.more < count) × (has_ended written.more ≡ true))
      counted (inl is) = inl is
      counted (inr h) = inr (h.0, ap has_ended (sym (append-nil written.more)) ∙ h.1)

  pub saved_in_part : IsWrittenInPart seats [] count ledger table (sink.written mid) (sink.written now) → IsSavedInPart seats count ledger table (sink.written first) (sink.written now)
  saved_in_part part =
      let lines = text ledger.input.plant part.more in
      record {
        front = part.more;
        stands = stands_for part.more part.stands;
        few = part.few;
        adds = record {
          count = length header + part.adds.count;
          added = subst (Adds (sink.written first) (sink.written now)) (sym (take-append-add header lines part.adds.count)) (Adds-append adds part.adds.added);
        };
        whole = λ line rest is. omega (arith, part.whole line rest is, length-append header (text ledger.input.plant rest));
      }

-- the header was not written to its end
pub header_cut : (seats : List Seat) (count : ℕ) (ledger : Ledger) (table : Table) {O : Type 0} (sink : Ghosts O) (first now : O) → StandsFor seats [] ledger table
    → AddsPrefix (sink.written first) (sink.written now) header → IsSavedInPart seats count ledger table (sink.written first) (sink.written now)
header_cut seats count ledger table sink first now stands part = record {
  front = [];
  stands = stands;
  few = omega arith;
  adds = record { count = part.count; added = subst (λ (bytes : List ℕ). Adds (sink.written first) (sink.written now) (take part.count bytes)) (sym (append-nil header)) part.added };
  whole = λ line rest is. absurd (omega (arith, ap (length {A = Line}) is));
}
