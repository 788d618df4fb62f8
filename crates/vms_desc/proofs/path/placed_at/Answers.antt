use Rattle.vms_desc.proofs.Facade.{◌≡◌, take, refl, sym, ap, ◌∙◌, take-map, desc_of_sub, Cells, in_u32, fields_size, subs_size, sub_of, device_of}
use Rattle.vms_desc.proofs.{Facade.begin_base, PathLaws.at_there}
use Rattle.vms_desc.proofs.path.placed_at.Goals as goal

pub returns-in_ok-sub-in-Some : goal.returns-in_ok-sub-in-Some
returns-in_ok-sub-in-Some c =
    let d = device_of c.args.device.now in
    let sizes = c.args.sizes.now in
    let j = c.in-Some.number in
    let there =
    at_there sub_of c.as_slice-subs.result.now j c.in_ok-sub-in-Some.sub.now c.in_ok-sub-in-Some.ensures.lookup.3.0 c.in_ok-sub-in-Some.ensures.lookup.1 in
    let own : c.size_of_fields-own.result ≡ in_u32 (fields_size Cells sizes d.desc.fields) = cc (c.size_of_fields-own.ensures, c.as_slice.ensures) in
    let before : c.size_of_subs.result ≡ in_u32 (subs_size Cells sizes (take j d.subs)) =
    cc (c.size_of_subs.ensures, c.as_slice-subs.ensures, take-map sub_of j c.args.device.now.subs) in
    record {
      desc = rw (c.in-Some.is, ← c.as_slice-subs.ensures) (ap desc_of_sub there);
      base = c.saturating_add-base.ensures ∙ rw (own, before) (ap (begin_base sizes d) (sym c.in-Some.is));
      sizes_are = refl;
    }
