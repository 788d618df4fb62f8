use Rattle.vms_spots.proofs.{Facade.sym, Facade.◌∙◌, LayoutLaws.last_is}
use Rattle.vms_spots.proofs.layout.size.Goals as goal

pub end-requires : goal.end-requires
end-requires c = (last_is c.requires.few c.requires.laid (sym c.in-Some.ensures.value)).small

pub returns-in-Some : goal.returns-in-Some
returns-in-Some c =
    let last = last_is c.requires.few c.requires.laid (sym c.in-Some.ensures.value) in
    record { size = c.end.ensures ∙ last.end; bound = rw (c.end.ensures ∙ last.end) last.bound }
