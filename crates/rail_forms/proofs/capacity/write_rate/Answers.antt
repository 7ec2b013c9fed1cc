use Rattle.std.proofs.Common.{◌≡◌, ℕ, List, [], ◌∷◌, codes, decimal, ◌∙◌, subst}
use Rattle.rail_delay.proofs.CallerLemmas.{first_word, one_word}
use Rattle.rail_forms.specs.Capacity.{rate_lines, rate_word}
use Rattle.rail_text.specs.Writes.{WritesText}
use Rattle.rail_forms.proofs.CapacityTexts.{second_line}
use Rattle.rail_forms.proofs.capacity.write_rate.Goals as goal

pub returns : goal.returns
returns g c =
    let occupied = one_word (codes "occupancy") [] (decimal c.args.occupancy) (first_word (codes "occupancy") c.put.ensures c.new-line.ensures) c.put_number.ensures.text in
    let text : c.as_slice.result.now ≡ rate_lines c.args.occupancy c.args.rate =
    c.as_slice.ensures ∙ second_line (codes "occupancy") (decimal c.args.occupancy ∷ []) (codes "rate") (rate_word c.args.rate) occupied c.put-2.ensures c.put_rate.ensures.text c.put-3.ensures in
    subst (λ (t : List ℕ). WritesText g.O.Sink c.args.out.now c.write_whole.new.sink t c.write_whole.result) text (record {
      adds = c.write_whole.ensures.adds;
      failed_adds_prefix = c.write_whole.ensures.failed_adds_prefix;
      failed_rose = c.write_whole.ensures.failed_rose;
      faults_never_fall = c.write_whole.ensures.faults_never_fall;
    })
