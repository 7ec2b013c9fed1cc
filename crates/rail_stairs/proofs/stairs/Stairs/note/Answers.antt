use Rattle.std.proofs.Common.{◌≡◌, ◌&&◌, true, ltb, [], ◌∷◌, ◌++◌, length, get_or, cond, Some, refl, sym, ap, ◌∙◌}
use Rattle.std.proofs.lemmas.Bool.{and_parts, ltb-true}
use Rattle.rail_base.specs.declared.limits.TheConstants.{ITINERARY_ROUTES}
use Rattle.rail_base.specs.declared.history.Entry.{Entry}
use Rattle.rail_base.specs.declared.history.What.{What}
use Rattle.rail_rules.specs.Fronts.{is_end}
use Rattle.rail_rules.specs.Plant.{trains}
use Rattle.rail_stairs.specs.NotedHistories.{has_room, noted_of}
use Rattle.rail_stairs.specs.Stairways.{ended_at}
use Rattle.rail_stairs.proofs.Noting.{row_added}
use Rattle.rail_stairs.proofs.stairs.Stairs.note.Goals as goal

pub returns-in-Admit : goal.returns-in-Admit
returns-in-Admit c =
    let rows = c.args.self.now.admissions.items in
    let room : (ltb c.in-Admit.train (length rows) && ltb (length (noted_of c.args.self.now c.in-Admit.train)) ITINERARY_ROUTES) ≡ true =
    sym (ap (has_room c.args.self.now) c.in-Admit.is) ∙ c.requires.room in
    let known = ltb-true c.in-Admit.train (length rows) (and_parts (ltb c.in-Admit.train (length rows)) (ltb (length (noted_of c.args.self.now c.in-Admit.train)) ITINERARY_ROUTES) room).0 in
    record {
      noted = λ plant front line is h. record {
        accepted = h.accepted;
        admissions = c.add_admission.ensures
            ∙ row_added (trains plant) front line rows c.in-Admit.train c.in-Admit.place c.in-Admit.train c.in-Admit.note _ h.admissions (ap (λ (e : Entry). e.what) is ∙ c.in-Admit.is) refl known
            (ap (λ (e : Entry). get_or rows c.in-Admit.train [] ++ e.at ∷ []) (sym is));
        ended = h.ended ∙ ap (λ (w : What). cond (is_end w) (Some line.entry.at) (ended_at front)) (sym (ap (λ (e : Entry). e.what) is ∙ c.in-Admit.is));
      };
    }
