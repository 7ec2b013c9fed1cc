use Rattle.std.proofs.Common.{refl, ⊎_elim}
use Rattle.rail_command_line.proofs.forms.Request.files.Goals as goal

pub returns-in-Run : goal.returns-in-Run
returns-in-Run c =
    let told = c.files-in-Run.ensures in
    ⊎_elim (λ is. rw is told) (⊎_elim (λ is. rw is told) (λ is. rw is told)) c.in-Run.is

pub returns-in-Capacity : goal.returns-in-Capacity
returns-in-Capacity c =
    let told = c.files-in-Capacity.ensures in
    ⊎_elim (λ is. rw is.3 told) (λ is. rw is.1 told) c.in-Capacity.is

pub returns-in-Insert : goal.returns-in-Insert
returns-in-Insert c = rw c.in-Insert.is c.files.ensures

pub returns-in-Infra : goal.returns-in-Infra
returns-in-Infra c =
    ⊎_elim (λ is. rw is (record { roles = refl; names = refl })) (λ is. rw is (record { roles = refl; names = refl })) c.in-Infra.is

pub returns-in-Play : goal.returns-in-Play
returns-in-Play c = rw c.in-Play.is (record { roles = refl; names = refl })

pub returns-in-Edit : goal.returns-in-Edit
returns-in-Edit c = rw c.in-Edit.is (record { roles = refl; names = refl })

pub returns-in-Reroute : goal.returns-in-Reroute
returns-in-Reroute c = rw c.in-Reroute.is (record { roles = refl; names = refl })

pub returns-in-Check : goal.returns-in-Check
returns-in-Check c = rw c.in-Check.is (record { roles = refl; names = refl })

pub returns-in-Resume : goal.returns-in-Resume
returns-in-Resume c = rw c.in-Resume.is (record { roles = refl; names = refl })
