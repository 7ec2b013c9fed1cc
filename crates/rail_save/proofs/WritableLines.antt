-- The next line of a history: it is the one that its entry and the trains beside it make, and can be written.
use Rattle.std.proofs.Common.{◌≡◌, ℕ, true, List, [], ◌∷◌, length, refl, ap, ◌∙◌, subst, sym}
use Rattle.std.proofs.lemmas.Bool.{and_parts, eqb-true}
use Rattle.std.proofs.lemmas.List.{nil_from_length}
use Rattle.rail_base.specs.declared.history.Note.TheVariants.{Pulled, Appended, Fresh}
use Rattle.rail_base.specs.declared.history.What.{What}
use Rattle.rail_base.specs.declared.history.What.TheVariants.{Free, Arrive, Enter, Out, Ready, Told, Untold, Admit, Hold, End}
use Rattle.rail_history.specs.Lines.{brought, line_of}
use Rattle.rail_laws_front.specs.Views.{Follows}
use Rattle.rail_laws_front.specs.Views.Follows.{by_event, by_admission, by_hold, by_end}
use Rattle.rail_laws_front.proofs.CallerLemmas.{lawful_last}
use Rattle.rail_laws_text.proofs.CallerLemmas.{line_writable}
use Rattle.rail_rules.specs.Accepted.{is_accepted_input}
use Rattle.rail_rules.specs.Fronts.{Front, Line}
use Rattle.rail_rules.specs.Lawful.{is_bare, is_lawful}
use Rattle.rail_rules.specs.Orders.{Input}
use Rattle.rail_rules.specs.WritableLines.{is_writable}

bare_brings : (line : Line) (what : What) → is_bare line ≡ true → brought what line.trains ≡ line.trains
bare_brings line what bare =
    let none : line.trains ≡ [] = nil_from_length line.trains (eqb-true (length line.trains) 0 bare) in
    subst (λ (ts : List ℕ). brought what ts ≡ ts) (sym none) (nothing what)
  where
    nothing : (what : What) → brought what [] ≡ []
    nothing (Free x t) = refl
    nothing (Arrive t m) = refl
    nothing (Enter t m x) = refl
    nothing (Out t) = refl
    nothing (Ready t m) = refl
    nothing (Told k) = refl
    nothing (Untold k) = refl
    nothing (Admit t m Fresh) = refl
    nothing (Admit t m Pulled) = refl
    nothing (Admit t m Appended) = refl
    nothing (Hold t m why) = refl
    nothing End = refl

-- a line that follows brings what its entry says that it brings
brings : (input : Input) (front : Front) (line : Line) → Follows input front line → brought line.entry.what line.trains ≡ line.trains
brings input front line (by_event h) = bare_brings line line.entry.what h.bare
brings input front line (by_admission t m Fresh h) = ap (λ what. brought what line.trains) h.what
brings input front line (by_admission t m Pulled h) = bare_brings line line.entry.what (and_parts (is_bare line) _ h.fits).0
brings input front line (by_admission t m Appended h) = bare_brings line line.entry.what (and_parts (is_bare line) _ h.fits).0
brings input front line (by_hold t m why h) = bare_brings line line.entry.what h.bare
brings input front line (by_end h) = ap (λ what. brought what line.trains) h.what

module _ (input : Input) (front : Front) (line : Line) (lawful : is_lawful input (line ∷ front) ≡ true) where
  -- the line is the one that its entry and the trains beside it make
  pub line_made : line_of line.entry line.trains ≡ line
  line_made =
      let all = brings input front line (lawful_last input line front lawful) in
      λ i. record { entry = line.entry; trains = all i }

  -- which can be written
  pub line_made_writable : is_accepted_input input ≡ true → is_writable input.plant (line_of line.entry line.trains) ≡ true
  line_made_writable accepted = ap (is_writable input.plant) line_made ∙ line_writable input accepted line front lawful
