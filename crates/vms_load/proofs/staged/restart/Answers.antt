use Rattle.vms_load.proofs.Facade.{with_items_is, device_of, described, ◌≡◌, map, ap, ◌∙◌, sym, arith, false, length, with_items, length-map}
use Rattle.vms_load.proofs.{Facade.length-replicate, Facade.slice_get_within, HeadLemmas.starts}
use Rattle.vms_image.specs.Typed.{state_of as untyped}
use Rattle.vms_load.proofs.staged.restart.Goals as goal

pub returns : goal.returns
returns c =
    let set = described c.args.set.now in
    let images = c.args.staged.now.images in
    let n = ap length c.as_slice.ensures ∙ sym (length-map c.parts.result.now.devices device_of) ∙ ap (λ s. length s.devices) c.parts.ensures in
    let new = c.reset.new.images in
    let long : length new ≡ images.len = cc (c.reset.ensures.shaped.all, c.requires.all) in
    let items = with_items_is images new long in
    let came : length c.none_came-staged.result.items ≡ length set.devices = ap length c.none_came-staged.ensures ∙ length-replicate _ _ ∙ n in
    record {
      state = starts set (map untyped (with_items images new).items) c.none_came-staged.result.items (length c.as_slice.result.now) (ap (map untyped) items ∙ c.reset.ensures.states) n c.none_came-staged.ensures;
      whole = record {
        images = rw items c.reset.ensures.shaped;
        came = came;
        machine = tt;
        fresh = λ k absent. rw items (c.reset.ensures.each k (let inside = slice_get_within c.none_came-staged.result.items k false absent in omega (arith, inside, came, c.reset.ensures.shaped.all)));
      };
    }
