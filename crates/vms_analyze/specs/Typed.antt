-- What the code's devices say, and what the code returns for a value.
use Rattle.std.specs.Prelude.{◌≡◌, List, [], ◌∷◌, map, Option, Some, None, Result, Ok, Err, codes}
use Rattle.std.specs.List.{flat_map}
use Rattle.serde_json.specs.Data.{Data, object, member, no_members}
use Rattle.serde_json.specs.Find.{as_str}
use Rattle.vms_json.specs.Nodes.{view}
use Rattle.vms_words.specs.Words.{kind_named}
use Rattle.vms_analyze.specs.Read.{next, path_of, natural_of, sent_as}
use Rattle.vms_analyze.specs.declared.elements.InOrder.{InOrder}
use Rattle.vms_analyze.specs.declared.elements.TheConstants.{LONGEST_PATH}
use Rattle.vms_analyze.specs.Told.{Told, Sent, Kept, Fixed, Skipped, ToldSub, ToldDevice}
use Rattle.vms_analyze.specs.Wanted.{Want, element_want, sub_wants, device_wants}
use Rattle.vms_analyze.specs.declared.told.Element.{Element}
use Rattle.vms_analyze.specs.declared.told.Element.TheVariants as typed
use Rattle.vms_analyze.specs.declared.told.Sub.{Sub}
use Rattle.vms_analyze.specs.declared.told.Device.{Device}
use Rattle.vms_analyze.specs.declared.members.Unread.{Unread}
use Rattle.vms_analyze.specs.declared.members.Unread.TheVariants as unread

-- What an element says.
abbrev pub told_of : Element → Told
told_of (typed.Sent path kind) = Sent path.now kind
told_of (typed.Kept path kind z) = Kept path.now kind z
told_of (typed.Fixed path n) = Fixed path.now n
told_of (typed.Skipped path n) = Skipped path.now n

-- What a subsection says.
abbrev pub sub_of : Sub → ToldSub
sub_of s = record { name = s.name.now; sent = s.sent; version = s.version; elements = map told_of s.elements.items }

-- What a device says.
abbrev pub device_of : Device → ToldDevice
device_of d = record {
  name = d.name.now;
  instance = d.instance;
  version = d.version;
  elements = map told_of d.elements.items;
  subs = map sub_of d.subs.items;
}

-- ---- what the members of an element say

-- The object of these members.
abbrev pub in_order_seen : InOrder → Data
in_order_seen m =
    object (member (codes "name") (view m.name) (member (codes "size") (view m.size) (member (codes "type") (view m.word) no_members)))

-- The element that these members say.
abbrev pub in_order_said : InOrder → Option Told
in_order_said m =
    next (next (as_str (view m.name)) (path_of LONGEST_PATH)) (λ path. next (natural_of (view m.size)) (λ size. next (as_str (view m.word)) (λ word.
    sent_as path size word (kind_named word))))

-- ---- what they require

-- What an element requires of the stream.
abbrev pub want_of : Element → List Want
want_of e = element_want (told_of e) ∷ []

-- What a subsection requires.
abbrev pub wants_of_sub : Sub → List Want
wants_of_sub s = sub_wants (sub_of s)

-- What a device requires.
abbrev pub wants_of_device : Device → List Want
wants_of_device d = device_wants (device_of d)

-- What elements require.
abbrev pub element_wants : List Element → List Want
element_wants es = flat_map want_of es

-- What subsections require.
abbrev pub subs_wants : List Sub → List Want
subs_wants ss = flat_map wants_of_sub ss

-- What devices require.
abbrev pub devices_wants : List Device → List Want
devices_wants ds = flat_map wants_of_device ds

-- ---- what is read of a value

-- This is read, where `m` says what the code's value means; or nothing, if the shape is another. Memory may
-- run out in any case.
abbrev pub ReadsAs : {A T : Type 0} → (T → A) → Option A → Result T Unread → Type 0
ReadsAs m said (Ok t) = said ≡ Some (m t)
ReadsAs m said (Err unread.Shape) = said ≡ None
ReadsAs m said (Err unread.NoMemory) = Unit {0}
