use Rattle.vms_load.proofs.{ReadLemmas.err_is, ReadLemmas.behind_here, ReadLemmas.goes_behind, stream.stage_section.Given.Over}
use Rattle.vms_load.proofs.AfterReads.{head_unit, head_long, begun, section_refused, section_reads, ended_in, ends_later}
use Rattle.vms_load.proofs.Facade
use Facade.{rules, ◌≡◌, ◌+◌, ℕ, List, Bool, map, [], Some, None, false, refl, slice_set, sym, ap, ◌∙◌, subst, arith, length-map, no_desc}
use Facade.{judge, ask, Free, by_state, reading_on, described, device_at, due_in, opened_at, section_due, section_opened, subs_due, AreShaped, GoesBehind, IsOf}
use Facade.{LONGEST_HEAD, Staged, after_part, begun_at, in_fields, name_of, state_of, sections_due, tail_of, intake, Onward}
use Rattle.vms_load.proofs.HeadLemmas.{image_begun, begun_here, shaped_put, still_fresh, default_shaped, sections_taken}
use Rattle.vms_load.proofs.stream.stage_section.Goals.{After-index_mut-image, After-read_section}
use Rattle.vms_image.specs.Typed.{state_of as untyped}
use Rattle.vms_load.proofs.stream.stage_section.Goals as goal

-- the images once the section has begun, and the image of its device
began : (g : Over) (c : After-index_mut-image g) → c.begin_section.new.staged.images.items ≡ slice_set c.args.staged.now.images.items c.in_ok-device.device (begun_at (described c.args.set.now) c.in_ok-device.device c.args.head.now.version)
began g c = search (rules, begun_here)

image : (g : Over) (c : After-index_mut-image g) → c.index_mut-image.result.now ≡ begun_at (described c.args.set.now) c.in_ok-device.device c.args.head.now.version
image g c = search (rules, image_begun)

pub returns-in_err-device : goal.returns-in_err-device
returns-in_err-device g c =
    let set = described c.args.set.now in
    let head = c.args.head.now in
    let e = c.in_err-device.field-0.0 in
    let is = sym (c.in_err-device.was) ∙ c.open_section.ensures.opened ∙ ap (λ came. opened_at c.args.at (section_opened set came head.name.items head.instance head.version)) c.deref.ensures.0 in
    rw (err_is _ _ c.from_residual.ensures.1) (record {
      reads = λ names first after.
          let next : Unit {0} → Onward = λ x. reading_on (judge (by_state set names)) (state_of set c.args.staged.now (Free false false)) in
          (behind_here {X = Unit {0}} (intake g.S.Source c.args.source.now) (sections_due set set.devices c.args.staged.now.came.items) (reading_on (judge (by_state set names))) (ask set names (state_of set c.args.staged.now (Free first after)) (head_unit head) (head_long head))
          next c.args.at (head_long head) c.args.cursor.now c.args.cursor.now e c.in_err-device.ensures.refused (g.met.S.Source.counted c.args.source.now)
          (λ more bytes behind. section_refused set names c.args.staged.now first after head c.args.at c.args.cursor.now bytes (Some more) next e c.requires.whole.came is behind.taken));
      moves = tt;
      whole = c.requires.whole;
      short = c.open_section.ensures.short;
    })

pub begin_section-requires : goal.begin_section-requires
begin_section-requires g c = search rules

pub index_mut-image-requires : goal.index_mut-image-requires
index_mut-image-requires g c = search rules

pub read_section-requires : goal.read_section-requires
read_section-requires g c =
    let set = described c.args.set.now in
    let k = c.in_ok-device.device in
    let new = rw c.deref.ensures.0 at c.in_ok-device.ensures.fresh in
    let image = image g (goal.at.read_section-requires g c).After-index_mut-image in
    let due = sections_taken set set.devices c.args.staged.now.came.items k (record { instance = 0; desc = no_desc; subs = [] }) c.requires.whole.came new.1 in
    record {
      image = record { device = c.in_ok-device.ensures.fresh.0; shaped = rw image (default_shaped set k c.args.head.now.version) };
      cursor = record { held = c.requires.held; place = omega (arith, ap (λ x. subs_due set (device_at set k).subs x.came) image) };
    }

-- the section that was read, or refused, seen from its head
behind : (g : Over) (c : After-read_section g)
    → c.begin_section.new.staged.images.items ≡ slice_set c.args.staged.now.images.items c.in_ok-device.device (begun_at (described c.args.set.now) c.in_ok-device.device c.args.head.now.version)
    → c.index_mut-image.result.now ≡ begun_at (described c.args.set.now) c.in_ok-device.device c.args.head.now.version → (names : List (List ℕ)) (first after : Bool)
    → GoesBehind (intake g.S.Source c.args.source.now) (intake g.S.Source c.read_section.new.source) (due_in c.args.set.now c.args.staged.now) (reading_on (judge (by_state (described c.args.set.now) names)))
    (ask (described c.args.set.now) names (state_of (described c.args.set.now) c.args.staged.now (Free first after)) (head_unit c.args.head.now) (head_long c.args.head.now))
    (λ _. reading_on (judge (by_state (described c.args.set.now) names)) (ended_in (name_of (described c.args.set.now) c.begin_section.new.staged.machine)
    (map untyped (slice_set c.begin_section.new.staged.images.items c.in_ok-device.device c.read_section.new.image)) c.begin_section.new.staged.came.items (tail_of c.read_section.new.section.tail)))
    c.args.at (head_long c.args.head.now) c.args.cursor.now c.read_section.new.cursor c.read_section.result
behind g c start begun_image names first after =
    let set = described c.args.set.now in
    let head = c.args.head.now in
    let k = c.in_ok-device.device in
    let old = c.args.staged.now in
    let staged = c.begin_section.new.staged in
    let now = c.read_section.new.section in
    let is = sym (c.in_ok-device.was) ∙ c.open_section.ensures.opened ∙ ap (λ came. opened_at c.args.at (section_opened set came head.name.items head.instance head.version)) c.deref.ensures.0 in
    let new = rw c.deref.ensures.0 at c.in_ok-device.ensures.fresh in
    let final = ended_in (name_of set staged.machine) (map untyped (slice_set staged.images.items k c.read_section.new.image)) staged.came.items (tail_of now.tail) in
    let last = ends_later (name_of set old.machine) (name_of set staged.machine) staged.images.items old.images.items old.came.items staged.came.items k now.device (begun_at set k head.version)
    c.read_section.new.image (tail_of now.tail) (ap (name_of set) c.begin_section.ensures.machine) start c.begin_section.ensures.came c.read_section.ensures.section.0 in
    let due = sections_taken set set.devices old.came.items k (record { instance = 0; desc = no_desc; subs = [] }) c.requires.whole.came new.1 in
    let go = reading_on (judge (by_state set names)) in
    goes_behind go (ask set names (state_of set old (Free first after)) (head_unit head) (head_long head)) (λ x. go final) (head_long head) c.args.at c.args.cursor.now c.read_section.new.cursor c.read_section.result
    (section_due c.args.set.now (record { device = k; id = head.id; tail = staged.tail }) c.index_mut-image.result.now + LONGEST_HEAD) _ _ (λ _. 0) c.read_section.ensures.moves (omega (arith, due, ap (λ x. subs_due set (device_at set k).subs x.came) begun_image))
    (in_fields set names (begun set names old first after k) (record { device = k; id = head.id; tail = staged.tail }) None (untyped c.index_mut-image.result.now)) (λ _. after_part set names (begun set names old first after k) now (untyped c.read_section.new.image) None)
    (λ rest left. section_reads set names old first after head k c.args.at c.args.cursor.now c.read_section.new.cursor (untyped c.index_mut-image.result.now) (untyped c.read_section.new.image) staged.tail now final
    (Some rest) (Some left) c.read_section.result c.requires.whole.came new.0 is (ap untyped begun_image) c.begin_section.ensures.tail last)
    (c.read_section.ensures.reads names (begun set names old first after k) (omega (arith, length-map old.images.items untyped)))

-- what has been read so far stays of the set
whole : (g : Over) (c : After-read_section g)
    → c.begin_section.new.staged.images.items ≡ slice_set c.args.staged.now.images.items c.in_ok-device.device (begun_at (described c.args.set.now) c.in_ok-device.device c.args.head.now.version) → (now : Staged)
    → now.images.items ≡ slice_set c.begin_section.new.staged.images.items c.in_ok-device.device c.read_section.new.image → now.came.items ≡ c.begin_section.new.staged.came.items → now.machine ≡ c.begin_section.new.staged.machine
    → IsOf (described c.args.set.now) now
whole g c first now images came machine =
    let set = described c.args.set.now in
    let k = c.in_ok-device.device in
    let old = c.args.staged.now in
    let staged = c.begin_section.new.staged in
    let new = rw c.deref.ensures.0 at c.in_ok-device.ensures.fresh in
    let shaped = subst (AreShaped set) (sym first) (shaped_put set old.images.items k (begun_at set k c.args.head.now.version) c.requires.whole.images new.0 (default_shaped set k c.args.head.now.version)) in
    record {
      images = rw images (shaped_put set staged.images.items k c.read_section.new.image shaped new.0 c.read_section.ensures.shaped);
      came = rw came (search rules);
      machine = rw machine (search rules);
      fresh = rw (images, came) (still_fresh set old.images.items staged.images.items old.came.items staged.came.items k (begun_at set k c.args.head.now.version) c.read_section.new.image
          (omega arith) c.begin_section.ensures.came first c.requires.whole.fresh);
    }

pub returns-in_err-read_section : goal.returns-in_err-read_section
returns-in_err-read_section g c =
    let at = goal.at.returns-in_err-read_section g c in
    rw (err_is _ _ c.from_residual-in_err-read_section.ensures.1) (record {
      reads = λ names first after. (rw c.in_err-read_section.was at (behind g at.After-read_section (began g at.After-index_mut-image) (image g at.After-index_mut-image) names first after));
      moves = tt;
      whole = whole g at.After-read_section (began g at.After-index_mut-image) _ refl refl refl;
      short = c.open_section.ensures.short;
    })

pub returns : goal.returns
returns g c =
    let set = described c.args.set.now in
    let k = c.in_ok-device.device in
    let at = goal.at.returns g c in
    let new = rw c.deref.ensures.0 at c.in_ok-device.ensures.fresh in
    let due = sections_taken set set.devices c.args.staged.now.came.items k (record { instance = 0; desc = no_desc; subs = [] }) c.requires.whole.came new.1 in
    let came = ap (λ l. sections_due set set.devices l) c.begin_section.ensures.came in
    let moves = c.in_ok-read_section.ensures.moves in
    record {
      reads = λ names first after. rw c.in_ok-read_section.was at (behind g at.After-read_section (began g at.After-index_mut-image) (image g at.After-index_mut-image) names first after);
      moves = (moves.0, moves.1, omega (arith, ap (λ x. subs_due set (device_at set k).subs x.came) (image g at.After-index_mut-image)));
      whole = whole g at.After-read_section (began g at.After-index_mut-image) _ refl refl refl;
      short = c.open_section.ensures.short;
    }
