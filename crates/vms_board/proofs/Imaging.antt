-- The images of a board of any family, and those of a clock board.
use Rattle.vms_board.proofs.Facade
use Facade.{map, Some, ◌≡◌, ℕ, zero, suc, ◌+◌, ◌<◌, ◌≤◌, List, [], ◌∷◌, length, get_or, None, ℤ, pos, refl, sym, ap, ◌∙◌}
use Facade.{arith, ◌-◌, Result, Err, slice_get, ext_get_or, length-map, get_or-map, slice_get-get_or, same_at, kinds_at, U8, device_at, same_image, Typed}
use Facade.{state_of, IsImageOf, AreImagesOf, Image, FitCells, no_desc, no_cell, device_cells, AtLeast, Sub, Device, Set, bare, image_of, images_of}
use Facade.{needed_from, AreReady, written, FitDevice, typed_of, needed_at, version_needed, stops_as, Outlet, Stops, described_text, Family, MaySaveIn, Stands}
use Facade.{images_saved, saved_stream, stream_with, Saves, SaveFault, take, drop, leb-true, take_rest, MOST_CELLS, NEWEST, shipped_set, clock_set, first}
use Facade.{ArrayVec, BoardCells, ClockCells, cells_in, NEWEST_CLOCK}
use Rattle.dev_images.specs.Images.{cells_in as board_cells_in}
use Rattle.vms_board.specs.declared.save.SaveFault.TheVariants as faults

-- ---- Images of numbers, made cell by cell and subsection by subsection.

-- the cells below an index have their numbers
pub record Put (image old : Typed) (numbers : List ℤ) (cell : ℕ) : Type 0 where
  pub version : image.version ≡ old.version
  pub came : image.came ≡ old.came
  pub kinds : image.kinds ≡ old.kinds
  pub long : length image.numbers ≡ length numbers
  pub put : (k : ℕ) → k < cell → get_or image.numbers k (pos 0) ≡ get_or numbers k (pos 0)

pub put_all : (image old : Typed) (numbers : List ℤ) (cell : ℕ) → Put image old numbers cell → length numbers ≤ cell → image ≡ record old { numbers = numbers }
put_all image old numbers cell p all =
    same_image image (record old { numbers = numbers }) p.version p.came
    (ext_get_or (pos 0) image.numbers numbers p.long (λ k lt. p.put k (omega arith))) p.kinds

-- the subsections below a number are present if they are needed
pub record Marked (set : Set) (d : Device) (image old : Typed) (sub : ℕ) : Type 0 where
  pub version : image.version ≡ old.version
  pub numbers : image.numbers ≡ old.numbers
  pub kinds : image.kinds ≡ old.kinds
  pub long : length image.came ≡ length d.subs
  pub marked : (k : ℕ) → k < sub → get_or image.came k None ≡ needed_at set d (state_of old) k

needed-long : (set : Set) (d : Device) (image : Image) (i : ℕ) (subs : List Sub) → length (needed_from set d image i subs) ≡ length subs
needed-long set d image i [] = refl
needed-long set d image i (s ∷ subs) = ap suc (needed-long set d image (suc i) subs)

no_sub : Sub
no_sub = record { desc = no_desc; needed = AtLeast 0 }

needed-get : (set : Set) (d : Device) (image : Image) (i : ℕ) (subs : List Sub) (k : ℕ) → k < length subs
    → get_or (needed_from set d image i subs) k None ≡ version_needed set d image (get_or subs k no_sub) (i + k)
unfolding no_sub
needed-get set d image i [] k lt = absurd (omega arith)
needed-get set d image i (s ∷ subs) zero lt = let e : i + zero ≡ i = omega arith in rw e
needed-get set d image i (s ∷ subs) (suc k) lt =
    let e : suc i + k ≡ i + suc k = omega arith in needed-get set d image (suc i) subs k (omega arith) ∙ rw e

from-zero : (set : Set) (d : Device) (image : Image) (k : ℕ) → version_needed set d image (get_or d.subs k no_sub) (0 + k) ≡ needed_at set d image k
unfolding no_sub
from-zero set d image k = let e : 0 + k ≡ k = omega arith in rw e

pub marked_all : (set : Set) (d : Device) (image old : Typed) (sub : ℕ) → Marked set d image old sub → length d.subs ≤ sub
    → image ≡ record old { came = needed_from set d (state_of old) 0 d.subs }
unfolding no_sub
marked_all set d image old sub m all =
    same_image image (record old { came = needed_from set d (state_of old) 0 d.subs }) m.version
    (ext_get_or None image.came (needed_from set d (state_of old) 0 d.subs) (m.long ∙ sym (needed-long set d (state_of old) 0 d.subs))
    (λ k lt. m.marked k (omega arith) ∙ sym
    (needed-get set d (state_of old) 0 d.subs k (omega arith) ∙ from-zero set d (state_of old) k)))
    m.numbers m.kinds

-- ---- an image of each device

no_device : Device
no_device = record { instance = 0; desc = no_desc; subs = [] }

no_image : Image
no_image = record { version = 0; came = []; numbers = [] }

abbrev pub no_typed : Typed
no_typed = record { version = 0; came = []; numbers = []; kinds = [] }

-- if there is an image of each device, there are numbers for each
pub lists-long : (set : Set) (devices : List Device) (lists : List (List ℤ)) → length (images_of set devices lists) ≡ length devices → length devices ≤ length lists
lists-long set [] lists l = omega arith
lists-long set (d ∷ devices) [] l = absurd (omega arith)
lists-long set (d ∷ devices) (n ∷ lists) l = let rest = lists-long set devices lists (omega arith) in omega arith

images-get : (set : Set) (devices : List Device) (lists : List (List ℤ)) → length (images_of set devices lists) ≡ length devices → (k : ℕ) → k < length devices
    → get_or (images_of set devices lists) k no_image ≡ image_of set (get_or devices k no_device) (get_or lists k [])
images-get set [] lists l k lt = absurd (omega arith)
images-get set (d ∷ devices) [] l k lt = absurd (omega arith)
images-get set (d ∷ devices) (n ∷ lists) l zero lt = refl
images-get set (d ∷ devices) (n ∷ lists) l (suc k) lt = images-get set devices lists (omega arith) k (omega arith)

image-get : (set : Set) (lists : List (List ℤ)) → length (images_of set set.devices lists) ≡ length set.devices → (k : ℕ) → k < length set.devices
    → get_or (images_of set set.devices lists) k no_image ≡ image_of set (device_at set k) (get_or lists k [])
unfolding no_device
image-get set lists l k lt = images-get set set.devices lists l k lt

-- numbers that fit a device's cells are of their kinds
fit-device : (set : Set) (k : ℕ) (numbers : List ℤ) → FitCells (device_cells set (device_at set k)) numbers → FitDevice set k numbers
fit-device set k numbers f =
    let cells = device_cells set (device_at set k) in
    let same : length (kinds_at set k) ≡ length cells = length-map cells (λ x. x.kind) in
    record {
      long = f.long;
      fits = record {
        long = cc;
        fits = λ c lt.
            let within : c < length cells = omega arith in
            rw (get_or-map (λ x. x.kind) cells c no_cell U8 within) (f.fits c within).0;
      };
    }

-- so do the numbers of ready images
pub fit_each : (set : Set) (lists : List (List ℤ)) → AreReady set (images_of set set.devices lists) → (k : ℕ) → k < length set.devices
    → FitDevice set k (get_or lists k [])
unfolding no_device
fit_each set lists r k lt =
    let images = images_of set set.devices lists in
    let here : slice_get images k ≡ Some (image_of set (device_at set k) (get_or lists k [])) =
    cc (slice_get-get_or images k no_image (omega (arith, lt, r.one_each)), image-get set lists r.one_each k lt) in
    fit-device _ _ _
    (r.ready k (device_at set k) (image_of set (device_at set k) (get_or lists k [])) (slice_get-get_or _ _ _ lt) here).normal.cells

-- the images below an index are those of their numbers
abbrev pub AreOfNumbers : Set → List (List ℤ) → List Typed → ℕ → Type 0
AreOfNumbers set lists images device = (k : ℕ) → k < device → get_or images k no_typed ≡ typed_of set k (get_or lists k [])

-- the images below an index are made
pub record Made (set : Set) (lists : List (List ℤ)) (images : List Typed) (device : ℕ) : Type 0 where
  pub long : length images ≡ device
  pub each : AreOfNumbers set lists images device

pub at_below : {X : Type 0} (xs : List X) (k : ℕ) (x : X) → slice_get xs k ≡ Some x → k < length xs
at_below [] k x e = cc
at_below (y ∷ xs) zero x e = omega arith
at_below (y ∷ xs) (suc k) x e = let below = at_below xs k x e in omega arith

-- an image with numbers for its device is one of it
is-of : (set : Set) (k : ℕ) (numbers : List ℤ) → FitDevice set k numbers → IsImageOf set k (typed_of set k numbers)
is-of set k numbers f =
    record { subs = needed-long set (device_at set k) (bare (device_at set k) numbers) 0 (device_at set k).subs; cells = f.long; kinds = refl }

-- all images are made
module _ (set : Set) (lists : List (List ℤ)) (images : List Typed) (device : ℕ) (r : AreReady set (images_of set set.devices lists))
    (m : Made set lists images device) (e : device ≡ length set.devices) where
  -- they have these states
  pub made_states : map state_of images ≡ images_of set set.devices lists
  made_states =
      let one = r.one_each in
      let long = m.long in
      let same : length (map state_of images) ≡ length images = length-map images state_of in
      ext_get_or no_image (map state_of images) (images_of set set.devices lists) (same ∙ long ∙ e ∙ sym one)
      (λ k lt.
      get_or-map state_of images k no_typed no_image (omega (arith, lt, same)) ∙ ap state_of (m.each k (omega (arith, lt, same, long)))
      ∙ sym (image-get set lists one k (omega arith)))

  -- each is one of its device
  pub made_of : AreImagesOf set images
  made_of = search (arith, at_below, same_at, slice_get-get_or, is-of, fit_each)

-- the images below an index are filled again
pub record Refilled (set : Set) (lists : List (List ℤ)) (images old : List Typed) (device : ℕ) : Type 0 where
  pub long : length images ≡ length old
  pub before : AreOfNumbers set lists images device
  pub after : (k : ℕ) → device ≤ k → get_or images k no_typed ≡ get_or old k no_typed

pub refilled_made : (set : Set) (lists : List (List ℤ)) (images old : List Typed) (device : ℕ) → Refilled set lists images old device → AreImagesOf set old
    → length images ≤ device → Made set lists images (length set.devices)
refilled_made set lists images old device r of all =
    record { long = r.long ∙ of.one_each; each = λ k lt. r.before k (omega (arith, lt, all, r.long, of.one_each)) }

-- an image that isn't filled yet is one of its device
pub still_of : (set : Set) (lists : List (List ℤ)) (images old : List Typed) (k : ℕ) (image : Typed) → Refilled set lists images old k → AreImagesOf set old
    → k < length images → image ≡ get_or images k image → IsImageOf set k image
still_of set lists images old k image r of lt is =
    let same : get_or images k image ≡ get_or images k no_typed =
    same_at images k _ _ (slice_get-get_or _ _ _ lt) (slice_get-get_or _ _ _ lt) in
    let below : k < length old = omega (arith, lt, r.long) in
    of.each k image (slice_get-get_or _ _ _ below ∙ ap Some (sym (is ∙ same ∙ r.after k (omega arith))))

-- ---- The bytes that a save writes.

module _ {S : Type 0} (f : Family S) {IsSound : S → Type 0} {AreTold : List (List ℤ) → Type 0} (stands : Stands f IsSound AreTold) where
  -- a sound board's machine has its index in a set under which the board may be saved
  pub machine_named : (d m : S) (s : ℕ) → IsSound d → d ≡ m → MaySaveIn f m s → slice_get (f.set s).machines (f.number m - 1) ≡ Some (f.machine (f.number m))
  machine_named d m s sound e may =
      stands.named (f.number m) s (rw (← e) (stands.numbered d sound).first) may.level_le_set may.set_le_newest

  pub machine_below : (d m : S) (s : ℕ) (set : Set) (machine : ℕ) → IsSound d → d ≡ m → MaySaveIn f m s → machine ≡ f.number d - 1 → set ≡ f.set s
      → machine < length set.machines
  machine_below d m s set machine sound e may is own =
      rw own (omega (arith, ap f.number e, at_below (f.set s).machines (f.number m - 1) (f.machine (f.number m)) (machine_named d m s sound e may)))

module _ {S : Type 0} (f : Family S) where
  -- the bytes written for the images that were made are the board's stream
  pub saved_bytes : (s : ℕ) (m : S) (set : Set) (made listed sent : List Image) (told text : List ℕ) (machine : ℕ)
      → slice_get (f.set s).machines (f.number m - 1) ≡ Some (f.machine (f.number m)) → machine ≡ f.number m - 1
      → set ≡ f.set s → made ≡ images_saved f s m → listed ≡ made → sent ≡ made → told ≡ described_text set listed → text ≡ told
      → written set (slice_get set.machines machine) sent (Some text) ≡ saved_stream f s m
  unfolding saved_stream
  saved_bytes s m set made listed sent told text machine named is e i g h t u = cc

  -- the bytes written for them without a description
  pub bare_bytes : (s : ℕ) (m : S) (set : Set) (made sent : List Image) (machine : ℕ)
      → slice_get (f.set s).machines (f.number m - 1) ≡ Some (f.machine (f.number m)) → machine ≡ f.number m - 1
      → set ≡ f.set s → made ≡ images_saved f s m → sent ≡ made
      → written set (slice_get set.machines machine) sent None ≡ stream_with f s m None
  unfolding stream_with
  bare_bytes s m set made sent machine named is e i h = cc

pub saves_some : {bytes found : List ℕ} {old new : Outlet} (r : Result (Unit {0}) SaveFault) → found ≡ bytes → r ≡ Err faults.WriteFault
    → Stops old new found → Saves bytes old new r
saves_some r e f h = rw f (stops_as e h)

-- ---- images of the newest clock set, and the room for the numbers of the boards without a clock chip

-- ---- The room for the numbers of the devices of the newest shipped set.

few : (k : ℕ) → k < 5 → length (device_cells (shipped_set NEWEST) (device_at (shipped_set NEWEST) k)) ≤ MOST_CELLS
unfolding first
few k lt = grind arith

-- there are five images, each with room for its numbers among those of a device
five_of : (images : List Typed) → AreImagesOf (shipped_set NEWEST) images → length images ≡ 5
five_of images s = s.one_each

pub room : (images : List Typed) (k : ℕ) (image : Typed) → AreImagesOf (shipped_set NEWEST) images → k < 5 → image ≡ get_or images k image
    → length image.numbers ≤ MOST_CELLS
room images k image s lt is =
    let most = few k lt in
    omega (arith, (s.each k image (cc (slice_get-get_or images k image (omega (arith, (five_of images s), lt))))).cells)

-- ---- Images of the newest clock set: the chip's, then those of the newest shipped set.

chip-few : length (device_cells (clock_set NEWEST_CLOCK) (device_at (clock_set NEWEST_CLOCK) 0)) ≤ MOST_CELLS
unfolding first
chip-few = leb-true (length (device_cells (clock_set NEWEST_CLOCK) (device_at (clock_set NEWEST_CLOCK) 0))) MOST_CELLS refl

-- there is one for the chip, with room for its numbers
six_of : (images : List Typed) → AreImagesOf (clock_set NEWEST_CLOCK) images → length images ≡ 6
six_of images are = are.one_each

pub chip_room : (images : List Typed) (image : Typed) → AreImagesOf (clock_set NEWEST_CLOCK) images → image ≡ get_or images 0 image
    → length image.numbers ≤ MOST_CELLS
chip_room images image are is =
    let most = chip-few in
    omega (arith, (are.each 0 image (cc (slice_get-get_or images 0 image (omega (arith, (six_of images are)))))).cells)

-- the others are images of the shipped set
inner : (k : ℕ) (image : Typed) → IsImageOf (clock_set NEWEST_CLOCK) (suc k) image → IsImageOf (shipped_set NEWEST) k image
inner k image i = record { subs = i.subs; cells = i.cells; kinds = i.kinds }

-- the images after the first, as a slice
abbrev pub rest : List Typed → List Typed
rest images = take (length images - 1) (drop 1 images)

behind-first : (images : List Typed) → AreImagesOf (clock_set NEWEST_CLOCK) images → AreImagesOf (shipped_set NEWEST) (drop 1 images)
behind-first [] are = absurd (omega arith)
behind-first (image ∷ images) are = record { one_each = omega arith; each = λ k i here. inner k i (are.each (suc k) i here) }

pub behind : (images : List Typed) → AreImagesOf (clock_set NEWEST_CLOCK) images → AreImagesOf (shipped_set NEWEST) (rest images)
behind images are = rw (take_rest images 1) (behind-first images are)

-- ---- their cells

abbrev both : List ℤ → BoardCells → ClockCells
both numbers board = record { clock = record { items = numbers }; board = board }

pub cells-behind : (images : List Typed) (image : Typed) (clock : ArrayVec ℤ) (board : BoardCells) → AreImagesOf (clock_set NEWEST_CLOCK) images
    → image ≡ get_or images 0 image
    → clock.items ≡ image.numbers → board ≡ board_cells_in (map state_of (rest images))
    → record { clock = clock; board = board } ≡ cells_in (map state_of images)
cells-behind [] image clock board are is c b = absurd (omega arith)
cells-behind (first ∷ images) image clock board are is c b =
    ap (λ (numbers : List ℤ). both numbers board) (c ∙ rw is) ∙ ap (both first.numbers) (b ∙ rw (take_rest (first ∷ images) 1))
