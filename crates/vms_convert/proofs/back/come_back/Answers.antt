use Rattle.vms_convert.proofs.Facade.{ℕ, ◌≡◌, ◌∙◌, ap, sym, Image, Typed, state_of, described, device_at, bare, image_of, needed_from}
use Rattle.vms_convert.proofs.Settling.{needed_long}
use Rattle.vms_convert.proofs.back.come_back.Goals as goal

pub returns : goal.returns
returns c =
    let set = described c.args.to.now in
    let d = device_at set c.args.device in
    let n = c.settle.new.image.numbers in
    let version : c.settle.new.image.version ≡ d.desc.version = rw (c.settle.ensures.rest, c.take_all.ensures.rest, c.requires.fresh) in
    let at : ℕ → Image = λ v. record { version = v; came = needed_from set d (bare d n) 0 d.subs; numbers = n } in
    record {
      back = record {
        now = c.take_all.new.image.numbers;
        are_taken = c.take_all.ensures.taken;
        settled = rw c.mark.ensures c.settle.ensures.settled;
        is = ap state_of c.mark.ensures ∙ ap at version ∙ ap (λ l. image_of set d l) (sym (ap (λ (x : Typed). x.numbers) c.mark.ensures));
      };
      of = record {
        subs = rw (c.mark.ensures) (needed_long set d (bare d c.settle.new.image.numbers) d.subs 0);
        cells = rw (c.mark.ensures) (c.settle.ensures.settled.long ∙ c.take_all.ensures.taken.long);
        kinds = rw (c.mark.ensures, c.settle.ensures.rest, c.take_all.ensures.rest, c.requires.fresh);
      };
    }
