use Rattle.std.proofs.Common.{◌∙◌, ◌⊎◌, None, Ok, Err, inl, inr, refl}
use Rattle.gateway_outside.specs.Held.{leaves_again, leaves_as, leaves_put, leaves_same, unread}
use Rattle.gateway_outside.specs.Openings.{StaysShut}
use Rattle.gateway_format.specs.Raising.{FailsAs, RaisedIn}
use Rattle.gateway_format.proofs.Raised as raises
use Rattle.gateway_format.proofs.raising.raise_to.Goals as goal

pub returns-in-Err-clause-raises : goal.returns-in-Err-clause-raises
returns-in-Err-clause-raises g c disks d held is =
    leaves_same (g.F.SpoolFiles.holds c.open_in.new.files) disks c.args.path.now d _ is
    (c.in-Err.ensures.failed disks held) (inl (record { same = refl; why = c.in-Err.ensures.noted }))

pub returns-in-Ok-raise-clause-raises : goal.returns-in-Ok-raise-clause-raises
returns-in-Ok-raise-clause-raises g c disks d held is =
    let opened = c.in-Ok.ensures.opened disks held in
    let holds = g.F.SpoolFiles.holds c.close.new.self in
    let now = c.raise.new.disk in
    let disk = g.F.File.Disk in
    let next = c.in-Ok-raise.next in
    leaves_as holds disks c.args.path.now c.in-Ok.disk d
    (λ x d'. ⊥ ⊎ RaisedIn disk x c.args.number (λ answer. FailsAs answer (Ok next)) d') opened.0 is
    (leaves_put holds disks c.args.path.now None _ now (c.close.ensures.closed _ opened.1) (inr (record {
      now = now;
      answer = Ok next;
      raises = assumption c.in-Ok-raise.ensures;
      answers = refl;
      reads = unread disk now;
    })))

pub returns-in-Err-raise-clause-raises : goal.returns-in-Err-raise-clause-raises
returns-in-Err-raise-clause-raises g c disks d held is =
    let opened = c.in-Ok.ensures.opened disks held in
    let files = g.F.SpoolFiles in
    let holds = files.holds c.refused_in.new.files in
    let path = c.args.path.now in
    let shut = files.unopened c.args.files.now in
    let shut' = files.unopened c.refused_in.new.files in
    let failure = c.refused_in.result in
    let disk = g.F.File.Disk in
    leaves_as holds disks path c.in-Ok.disk d
    (λ x d'. StaysShut shut shut' path x failure d'
    ⊎ RaisedIn disk x c.args.number (λ answer. FailsAs answer (Err failure)) d') opened.0 is
    (leaves_again holds disks path None _ _ (c.refused_in.ensures.left _ opened.1) (λ d' reads. inr (record {
      now = c.raise.new.disk;
      answer = Err c.in-Err-raise.error;
      raises = assumption c.in-Err-raise.ensures;
      answers = c.refused_in.ensures.fault ∙ c.from.ensures;
      reads = reads;
    })))

pub returns-in-Err-raise-clause-never_io : goal.returns-in-Err-raise-clause-never_io
returns-in-Err-raise-clause-never_io g c =
    raises.never_io c.in-Err-raise.error _ (c.refused_in.ensures.fault ∙ c.from.ensures)
