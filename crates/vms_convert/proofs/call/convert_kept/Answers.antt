use Rattle.vms_convert.proofs.Facade.{◌≡◌, map, ◌∙◌, subst, sym, with_items_is, err_from_is_err_and, refl, at_option, fit_of, described, state_of}
use Rattle.vms_convert.proofs.Facade.{outlet, Puts, Stops, has, loads, name_of, ConvertsKept, stream_of}
use Rattle.vms_convert.proofs.{Converts.puts_kept, call.convert_kept.Given.Over, Answered.ComesBack, Answered.backs_are, Answered.ready_back}
use Rattle.vms_convert.proofs.call.convert_kept.Goals.{After-deref, After-deref-2}
use Rattle.vms_convert.proofs.call.convert_kept.Goals as goal

-- the images that came back
images_are : (g : Over) (c : After-deref g) → c.deref.result.now ≡ c.return_all-lost.new.images
images_are g c =
    let images = c.args.room.images in
    c.deref.ensures.value
    ∙ with_items_is images c.return_all-lost.new.images (c.return_all-lost.ensures.count ∙ sym c.requires.room.images.count ∙ sym images.ok.0)

came : (g : Over) (c : After-deref g)
    → ComesBack (described c.args.to.now) (loads c.args.loader.now) (has c.args.loader.now) c.deref.result.now c.return_all-lost.result
came g c =
    let new = loads c.args.loader.now in
    record {
      fit = fit_of (described c.args.to.now) c.args.to.now.well_formed c.args.to.now.heads;
      newest = c.requires.newest;
      compatible = rw c.requires.newest c.requires.compatible;
      kept = rw c.requires.newest c.requires.kept;
      returned = rw (images_are g c) c.return_all-lost.ensures;
    }

same : (g : Over) (c : After-deref-2 g) → c.deref-2.result.now ≡ c.deref.result.now
same g c = c.deref-2.ensures.value ∙ sym c.deref.ensures.value

pub returns-in_err-machine : goal.returns-in_err-machine
returns-in_err-machine g c =
    let to = described c.args.to.now in
    let back = backs_are _ _ _ _ _ (came g (goal.at.returns-in_err-machine g c).After-deref) in
    let p = err_from_is_err_and c.from_residual.result c.from_residual.ensures.1 in
    let empty = outlet g.K.Sink c.args.sink.now in
    subst (λ s. ConvertsKept to s (name_of s c.args.machine) (has c.args.loader.now) empty empty c.from_residual.result) c.requires.newest
    (rw (p.1, p.2) (record { backs = map state_of c.deref.result.now; back = back; loses = c.in_err-machine.ensures }, refl))

pub write_back-requires : goal.write_back-requires
write_back-requires g c =
    let p = goal.at.write_back-requires g c in
    record {
      machine = c.in_ok-machine.ensures.1.inside;
      of = rw (same g p.After-deref-2, images_are g p.After-deref) (record { one_each = c.return_all-lost.ensures.count; each = c.return_all-lost.ensures.of });
      ready = rw (same g p.After-deref-2) (ready_back _ _ _ _ _ (came g p.After-deref) c.in_ok-machine.ensures.0.valid);
    }

pub returns-in_err-write_back : goal.returns-in_err-write_back
returns-in_err-write_back g c =
    let to = described c.args.to.now in
    let new = loads c.args.loader.now in
    let images = has c.args.loader.now in
    let p = goal.at.returns-in_err-write_back g c in
    let back = backs_are _ _ _ _ _ (came g p.After-deref) in
    let m = c.in_ok-machine.machine in
    let r = err_from_is_err_and c.from_residual-in_err-write_back.result c.from_residual-in_err-write_back.ensures.1 in
    let empty = outlet g.K.Sink c.args.sink.now in
    let full = outlet g.K.Sink c.write_back.new.sink in
    let stops : Stops empty full (stream_of to (at_option to.machines m) (map state_of c.deref.result.now)) =
    rw (← same g p.After-deref-2) c.in_err-write_back.ensures in
    subst (λ s. ConvertsKept to s (name_of s c.args.machine) images empty full c.from_residual-in_err-write_back.result) c.requires.newest
    (rw (r.1, r.2) (puts_kept to new (name_of new c.args.machine) images _ back m c.in_ok-machine.ensures (Stops empty full) stops))

pub returns : goal.returns
returns g c =
    let to = described c.args.to.now in
    let new = loads c.args.loader.now in
    let p = goal.at.returns g c in
    let back = backs_are _ _ _ _ _ (came g p.After-deref) in
    let m = c.in_ok-machine.machine in
    let Full = Puts (outlet g.K.Sink c.args.sink.now) (outlet g.K.Sink c.write_back.new.sink) in
    let puts : Full (stream_of to (at_option to.machines m) (map state_of c.deref.result.now)) = rw (← same g p.After-deref-2) c.in_ok-write_back.ensures in
    rw c.requires.newest at (puts_kept to new (name_of new c.args.machine) (has c.args.loader.now) _ back m c.in_ok-machine.ensures Full puts)
