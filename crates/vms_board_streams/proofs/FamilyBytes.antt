-- The streams of a family's boards are short, and are bytes.
use Rattle.vms_board_streams.proofs.Facade
use Facade.{AllByRecursion, AllParts, AllSubs, Allows, AreBytes, AreSpelled, Bool, Clean, Constant, Count, Desc, Device, EachPart, Element, Entry, Family}
use Facade.{Field, Filler, HasLetters, Image, IsSound, IsSpelled, ItemsHave, List, MaySaveIn, None, Number, One, Option, Rule, STREAM_ROOM, Set, Some}
use Facade.{StreamsAreBytes, StreamsAreShort, Sub, WellFormed, What, [], all_both, all_from, all_parts, and_parts, arith, bytes_at, codes, counted}
use Facade.{decimal_good, desc_cells, described_text, described_tree, device_letters, device_parts, device_tree, device_trees, devices_letters, devices_long}
use Facade.{elements_each, entries_of, entry_of, get_none, get_or, get_or_from_slice_get, images_saved, index_text, is_name, is_named, is_some, items_of}
use Facade.{kind_letters, length, listed_if, no_desc, own_cells, part_entries, parts_named, refl, saved_stream, saved_text, sent_entry, slice_get, slice_set}
use Facade.{stream_le, struct_cells, struct_clean, sub_clean, sub_letters, sub_trees, text_good, true, word, written, written_are_bytes, ℕ, ℤ, ◌+◌}
use Facade.{◌<◌, ◌∷◌, ◌≡◌, ◌≤◌}

-- ---- a single byte as a list

-- a piece of one byte is that byte
pub one_piece : (piece : List ℕ) (x d : ℕ) → length piece ≡ 1 → x ≡ get_or piece 0 d → (x ∷ []) ≡ piece
one_piece (p ∷ []) x d one is = rw is
one_piece _ x d one is = absurd (omega arith)

-- a byte put into a list of one is that list
pub one_copied : (to from : List ℕ) (x d : ℕ) → length to ≡ length from → length from ≡ 1 → x ≡ get_or from 0 d → slice_set to 0 x ≡ from
one_copied (t ∷ []) from x d long one is = one_piece from x d one is
one_copied _ from x d long one is = absurd (omega arith)

-- ---- the description of a set's devices is bytes: names are, and the rest is ASCII

abbrev Byte : ℕ → Type 0
Byte b = b < 256

allows : Allows Byte Byte
allows = record { key = λ b l h. omega arith; own = λ b l h. omega arith; letter = λ b le small. small }

to_bytes : (xs : List ℕ) → AllByRecursion Byte xs → AreBytes xs
to_bytes [] p = tt
to_bytes (x ∷ xs) p = (p.0, to_bytes xs p.1)

of_bytes : (xs : List ℕ) → AreBytes xs → AllByRecursion Byte xs
of_bytes [] p = tt
of_bytes (x ∷ xs) p = (p.0, of_bytes xs p.1)

index-bytes : (count : Count) (e : ℕ) → AllByRecursion Byte (index_text count e)
index-bytes One e = tt
index-bytes _ e = (omega arith, all_both Byte _ _ (decimal_good allows e) (omega arith, tt))

-- a path of bytes
abbrev HasBytes : Element → Type 0
HasBytes x = AllByRecursion Byte x.name

abbrev IsNamed : Field → Type 0
IsNamed f = AllByRecursion Byte f.name

-- ---- their entries

listed-entries : (b : Bool) (e : Entry) → IsSpelled Byte e → AreSpelled Byte (listed_if b e)
listed-entries b e p = grind arith

what-listed : (w : What) (counted present : Bool) (path : List ℕ) → AllByRecursion Byte path → AreSpelled Byte (entry_of w counted present path)
what-listed (Number cell) counted present path p = grind (arith, listed-entries, kind_letters, allows)
what-listed (Constant kind z) counted present path p = search (arith, listed-entries, word, allows)
what-listed (Filler n) counted present path p = listed-entries present (sent_entry path n (codes "unused")) (record { path = p; type = word allows (codes "unused") refl })
what-listed (Rule holds) counted present path p = tt

elements-listed : (sent : Bool) (xs : List Element) → AllByRecursion HasBytes xs → AreSpelled Byte (entries_of sent [] xs)
elements-listed sent [] p = tt
elements-listed sent (x ∷ xs) p = all_both _ _ _ (what-listed x.what _ _ x.name p.0) (elements-listed sent xs p.1)

-- ---- sets

-- a description whose name and fields' names are bytes
record IsTold (d : Desc) : Type 0 where
  name : AllByRecursion Byte d.name
  fields : AllByRecursion IsNamed d.fields

module _ (set : Set) (structs : (j : ℕ) → AllByRecursion IsNamed (get_or set.structs j no_desc).fields) where
  part-bytes : (d : Desc) (sent : Bool) (n : List ℤ) (at : ℕ) → AllByRecursion IsNamed d.fields → AreSpelled Byte (part_entries set d sent n at)
  part-bytes d sent n at named =
      elements-listed sent _
      (elements_each _ _ _ (λ f good caps at. tt) (λ x p. (omega arith, p))
      (λ f good number e c p x h. all_both Byte _ x.name (all_both Byte f.name _ good (index-bytes _ e)) h)
      (λ at b. tt) (λ x h. h) set structs d _ named n at)

  subs-bytes : (n : List ℤ) (at : ℕ) (subs : List Sub) (came : List (Option ℕ)) → AllSubs IsTold subs → ItemsHave Byte (items_of (sub_trees set n at subs came))
  subs-bytes n at (s ∷ subs) (c ∷ came) named =
      let es = part_entries set s.desc (is_some c) n at in (
        sub_letters allows es s.desc.name (is_some c) s.desc.version (part-bytes s.desc (is_some c) n at named.0.fields) named.0.name,
        subs-bytes n (at + length (desc_cells (struct_cells set) s.desc)) subs came named.1,
      )
  subs-bytes n at _ _ named = tt

  device-bytes : (d : Device) (image : Image) → IsTold d.desc → AllSubs IsTold d.subs → HasLetters Byte (device_tree set d image)
  device-bytes d image named subs =
      device_letters allows (part_entries set d.desc true image.numbers 0) d.instance d.desc.name (sub_trees set image.numbers (own_cells set d) d.subs image.came) d.desc.version
      (part-bytes d.desc true image.numbers 0 named.fields) named.name (subs-bytes image.numbers (own_cells set d) d.subs image.came subs)

  devices-bytes : (devices : List Device) (images : List Image) → AllParts IsTold devices → ItemsHave Byte (items_of (device_trees set devices images))
  devices-bytes (d ∷ devices) (image ∷ images) named = (device-bytes d image named.0 named.1, devices-bytes devices images named.2)
  devices-bytes _ _ named = tt

  described-bytes : (images : List Image) → AllParts IsTold set.devices → AreBytes (described_text set images)
  described-bytes images named =
      let trees = device_trees set set.devices images in
      to_bytes (described_text set images) (text_good allows (described_tree set images) (devices_letters allows trees (devices-bytes set.devices images named)))

-- ---- well-formed sets

clean_named : (k : ℕ) (d : Desc) (rules : List Bool) → Clean k d rules → AllByRecursion IsNamed d.fields
clean_named k d rules c =
    all_from _ _ (λ i f e. of_bytes f.name (is_named 32 f.name (omega arith) (and_parts (is_name 32 f.name) _ (c.fields i f e).0).0).octets)

module _ (set : Set) (well : WellFormed set) where
  parts_told : EachPart IsTold set.devices
  parts_told k d e =
      let named = parts_named set well k d e in (
        record { name = of_bytes _ named.0.octets; fields = clean_named _ d.desc _ (device_parts set well k d e).0 },
        λ j s f. record {
          name = of_bytes _ (named.1 j s f).octets;
          fields = clean_named _ s.desc _ (sub_clean set well k j d s e f);
        },
      )

  struct_named : (j : ℕ) (o : Option Desc) → slice_get set.structs j ≡ o → AllByRecursion IsNamed (get_or set.structs j no_desc).fields
  struct_named j None e = rw (get_none set.structs j no_desc e) tt
  struct_named j (Some d) e = rw (get_or_from_slice_get set.structs j d no_desc e) (clean_named j d _ (struct_clean set well j d e))

  pub text_is_bytes : (images : List Image) → AreBytes (described_text set images)
  text_is_bytes images = described-bytes set (λ j. struct_named j _ refl) images (all_parts IsTold set.devices parts_told)

-- ---- the streams of the boards of a family are short, and are bytes

-- at most five bytes
pub record IsMachineName (name : List ℕ) : Type 0 where
  pub short : length name ≤ 5
  pub octets : AreBytes name

module _ {S : Type 0} (f : Family S) where
  -- the sets are well formed, with sections and self-descriptions that are short, and so are the names of boards' machines
  pub record IsSmall : Type 0 where
    pub well : (set : ℕ) → set ≤ f.newest → WellFormed (f.set set)
    pub sections : (set : ℕ) → set ≤ f.newest → devices_long (f.set set) (f.set set).devices < 4096
    pub text : (set : ℕ) (images : List Image) → set ≤ f.newest → length (described_text (f.set set) images) < 60000
    pub machine : (set : ℕ) (m : S) → MaySaveIn f m set → IsMachineName (f.machine (f.number m))

  module _ (small : IsSmall) (IsSound : S → Type 0) where
    set-long : (set : ℕ) (name text : List ℕ) (images : List Image) → set ≤ f.newest → length name ≤ 5 → length text < 60000 → length (written (f.set set) (Some name) images (Some text)) < STREAM_ROOM
    set-long set name text images le n t =
        let l = stream_le (f.set set) (Some name) images (Some text) in
        let sections = small.sections set le in
        omega (arith, l, sections, n, t)

    pub family_short : StreamsAreShort f IsSound
    unfolding saved_stream
    family_short = record {
      short = λ set m s may. let images = images_saved f set m in
          set-long set (f.machine (f.number m)) (saved_text f set m) images may.set_le_newest (small.machine set m may).short
          (small.text set images may.set_le_newest);
    }

    pub family_bytes : StreamsAreBytes f IsSound
    unfolding saved_stream
    family_bytes = record {
      bytes = λ set m s may.
          let well = small.well set may.set_le_newest in
          let images = images_saved f set m in
          bytes_at (saved_stream f set m)
          (written_are_bytes (f.set set) well (Some (f.machine (f.number m))) images (Some (saved_text f set m)) (small.machine set m may).octets
          (text_is_bytes (f.set set) well images));
    }
