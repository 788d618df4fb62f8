-- The self-descriptions of worked images.
use Rattle.vms_selfdesc.proofs.Facade.{◌≡◌, ℕ, List, [], ◌∷◌, ◌++◌, length, Some, None, ℤ, pos, negsuc, codes, digits, code, escape_byte}
use Rattle.vms_selfdesc.proofs.Facade.{first, Set, Image, set_0, written, counted_set, constant_set, subsection_set, tested_set, mixed_set, described_text}

unfoldable text_of : Set → List Image → List ℕ
text_of set images = described_text set images

-- ---- the shipped set 0

abbrev timer : List Image
timer = record { version = 1; came = []; numbers = pos 0 ∷ [] } ∷ []

-- ---- boxes

-- the front of a text about the box, and what comes after its fields
abbrev box_text : List ℕ → List ℕ
box_text fields = codes "{\"devices\":[{\"fields\":[" ++ fields ++ codes "],\"instance_id\":0,\"name\":\"box\",\"subsections\":[],\"version\":1}]}"

abbrev one : List ℤ → List Image
one numbers = record { version = 1; came = []; numbers = numbers } ∷ []

record TextRows : Type 0 where
  shows_the_smallest_text : text_of set_0 timer
      ≡ codes "{\"devices\":[{\"fields\":[{\"name\":\"now\",\"size\":8,\"type\":\"u64\"}],\"instance_id\":0,\"name\":\"timer\",\"subsections\":[],\"version\":1}]}"
  has_123_bytes : length (text_of set_0 timer) ≡ 123
  -- the smallest stream, and then the description section
  follows_the_smallest_stream : written set_0 None timer (Some (text_of set_0 timer))
      ≡ written set_0 None timer None ++ 0x06 ∷ 0x00 ∷ 0x00 ∷ 0x00 ∷ 0x7b ∷ text_of set_0 timer
  has_169_bytes : length (written set_0 None timer (Some (text_of set_0 timer))) ≡ 169
  -- of a counted array as many elements as its number says, each with its number
  counts_elements : text_of counted_set (one (pos 1 ∷ pos 258 ∷ pos 0 ∷ []))
      ≡ box_text (codes "{\"name\":\"n\",\"size\":1,\"type\":\"u8\"},{\"name\":\"v[0]\",\"size\":2,\"type\":\"u16\"}")
  -- a constant and unused bytes are in the stream
  lists_what_has_no_cell : text_of constant_set (one (pos 1 ∷ []))
      ≡ box_text (codes "{\"name\":\"flag\",\"size\":1,\"type\":\"bool\"},{\"name\":\"id\",\"size\":1,\"type\":\"equal\"},{\"name\":\"gap\",\"size\":2,\"type\":\"unused\"}")
  -- g isn't there where f isn't 1, and has its default
  gives_defaults : text_of tested_set (one (pos 0 ∷ pos 0 ∷ []))
      ≡ box_text (codes "{\"name\":\"f\",\"size\":1,\"type\":\"u8\"},{\"name\":\"g\",\"size\":0,\"type\":\"u8\",\"value\":0}")
  gives_no_default : text_of tested_set (one (pos 1 ∷ pos 7 ∷ []))
      ≡ box_text (codes "{\"name\":\"f\",\"size\":1,\"type\":\"u8\"},{\"name\":\"g\",\"size\":1,\"type\":\"u8\"}")
  -- every subsection is listed, sent or not
  lists_each_subsection : text_of subsection_set (record { version = 1; came = None ∷ Some 1 ∷ []; numbers = pos 0 ∷ pos 5 ∷ pos 9 ∷ [] } ∷ [])
      ≡ codes "{\"devices\":[{\"fields\":[{\"name\":\"a\",\"size\":1,\"type\":\"u8\"}],\"instance_id\":0,\"name\":\"box\",\"subsections\":["
      ++ codes "{\"fields\":[{\"name\":\"x\",\"size\":0,\"type\":\"u8\",\"value\":5}],\"name\":\"box/p\",\"sent\":false,\"version\":1},"
      ++ codes "{\"fields\":[{\"name\":\"y\",\"size\":1,\"type\":\"u8\"}],\"name\":\"box/q\",\"sent\":true,\"version\":1}"
      ++ codes "],\"version\":1}]}"
  -- an array of structures of version 3, whose z is to come at 4, in a box at version 2; t isn't there
  expands_structures : text_of mixed_set
      (record {
        version = 2;
        came = None ∷ [];
        numbers = pos 1 ∷ pos 3 ∷ pos 4 ∷ pos 9 ∷ pos 0 ∷ pos 0 ∷ pos 9 ∷ pos 0 ∷ pos 0 ∷ pos 9 ∷ pos 0 ∷ pos 0 ∷ negsuc 2 ∷ pos 7 ∷ pos 1 ∷ [];
      } ∷ [])
      ≡ codes "{\"devices\":[{\"fields\":[{\"name\":\"n\",\"size\":1,\"type\":\"u8\"},"
      ++ codes "{\"name\":\"ps[0].x\",\"size\":1,\"type\":\"u8\"},{\"name\":\"ps[0].y\",\"size\":2,\"type\":\"u16\"},{\"name\":\"ps[0].z\",\"size\":0,\"type\":\"u8\",\"value\":9},"
      ++ codes "{\"name\":\"flag\",\"size\":1,\"type\":\"bool\"},{\"name\":\"t\",\"size\":0,\"type\":\"u16\",\"value\":0},{\"name\":\"w\",\"size\":1,\"type\":\"i8\"}],"
      ++ codes "\"instance_id\":0,\"name\":\"box\",\"subsections\":["
      ++ codes "{\"fields\":[{\"name\":\"a\",\"size\":0,\"type\":\"u32\",\"value\":7},{\"name\":\"b\",\"size\":0,\"type\":\"u8\",\"value\":1}],\"name\":\"box/s\",\"sent\":false,\"version\":2}"
      ++ codes "],\"version\":2}]}"

text_rows : TextRows
unfolding text_of first digits escape_byte code
text_rows = search
