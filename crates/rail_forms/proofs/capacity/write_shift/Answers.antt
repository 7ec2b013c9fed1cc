use Rattle.std.proofs.Common.{◌≡◌, ℕ, List, [], ◌∷◌, codes, decimal, ◌∙◌, subst}
use Rattle.rail_delay.proofs.CallerLemmas.{ended_line, first_word, more_words, one_word}
use Rattle.rail_forms.specs.Capacity.{shift_line, tight_words}
use Rattle.rail_text.specs.Names.{names_in, train_name}
use Rattle.rail_text.specs.Writes.{WritesText}
use Rattle.rail_forms.proofs.capacity.write_shift.Goals as goal

pub returns : goal.returns
returns g c =
    let names = names_in c.args.names.now in
    let shift = c.args.shift.now in
    let word : List ℕ = codes "train" in
    let name : List ℕ = train_name names shift.train in
    let earlier : List ℕ = decimal shift.earlier in
    let named = one_word word [] name (first_word word c.put.ensures c.new-line.ensures) c.put_train.ensures.text in
    let shifted = one_word word (name ∷ []) earlier named c.put_number.ensures.text in
    let tight = more_words word (name ∷ earlier ∷ []) (tight_words names shift.tight) shifted c.put_tight.ensures.text in
    let text : c.as_slice.result.now ≡ shift_line names shift = c.as_slice.ensures ∙ ended_line word (name ∷ earlier ∷ tight_words names shift.tight) tight c.put-2.ensures in
    subst (λ (t : List ℕ). WritesText g.O.Sink c.args.out.now c.write_whole.new.sink t c.write_whole.result) text (record {
      adds = c.write_whole.ensures.adds;
      failed_adds_prefix = c.write_whole.ensures.failed_adds_prefix;
      failed_rose = c.write_whole.ensures.failed_rose;
      faults_never_fall = c.write_whole.ensures.faults_never_fall;
    })
