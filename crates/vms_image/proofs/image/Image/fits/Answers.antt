use Rattle.vms_image.proofs.Facade.{w128, to_z-of_z, rules, SFits, ◌≡◌, ◌<◌, ◌↔◌, IsTrue, List, length, get_or, map, sym, ap, ◌∙◌, subst}
use Rattle.vms_image.proofs.Facade.{arith, get_or-map, InRange, Kind, U8, Spot, kinds_of, no_spot, kinds_are, Typed}
use Rattle.vms_image.proofs.image.Image.fits.Goals as goal

pub returns : goal.returns
returns c =
    let kinds = c.args.self.now.kinds in
    let spots = c.spots.result.now in
    let all : map (λ (s : Spot). s.kind) spots ≡ kinds = ap kinds_of c.spots.ensures.spots ∙ kinds_are 0 c.self.inside.cells.kinds ∙ ap (λ (i : Typed). i.kinds) c.self.view_is in
    let lt : c.args.cell < length spots = omega (arith, c.spots.ensures.count, ap (λ (i : Typed). length i.numbers) c.self.view_is, c.requires) in
    let is : get_or kinds c.args.cell U8 ≡ c.kind_at.result =
    ap (λ (l : List Kind). get_or l c.args.cell U8) (sym all) ∙ get_or-map (λ (s : Spot). s.kind) spots c.args.cell no_spot U8 lt ∙ sym c.kind_at.ensures in
    let f : SFits w128 c.args.value = search rules in
    let test = rw (to_z-of_z w128 c.args.value f) at c.in_range.ensures in
    subst (λ (k : Kind). IsTrue c.in_range.result ↔ InRange k c.args.value) (sym is) test
