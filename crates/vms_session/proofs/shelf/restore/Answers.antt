use Rattle.vms_session.proofs.shelf.restore.Goals as goal

pub returns-in-Ok-clause-loaded : goal.returns-in-Ok-clause-loaded
returns-in-Ok-clause-loaded g c = λ held text new told loads.
    let bytes = rw (rw told at c.in-Ok.ensures.bytes) at loads in
    (c.load.ensures.text held text new bytes, c.load.ensures.board held text new bytes)
