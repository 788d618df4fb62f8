-- Lists of a set's parts, as they are written.
use Rattle.vms_descfile.proofs.Facade
use Facade.{struct_file, sub_file, device_file, ◌≡◌, ℕ, List, [], map, ap, codes, ◌==◌, Data, Members, no_members, string, object, put, formula}
use Facade.{desc_of, Test, own_names, natural_file, unless, desc_members, whole_file, set_file, list_file, list_as, test_file, field_file}
use Rattle.vms_descfile.proofs.ObjectLaws.{list_seen, list_as_seen}
use Rattle.vms_parts.specs.{Views.field_of, Views.sub_of, Views.device_of, Views.set_of, declared.types.Field.Field, declared.types.Desc.Desc}
use Rattle.vms_parts.specs.{declared.types.Sub.Sub, declared.types.Device.Device, declared.types.Parts.Parts}

-- ---- objects, member by member

pub desc_built : (d : Desc) (own : List Field) (tests : List Test) (name : List ℕ) (minimum version : Data) (m0 m1 m2 m3 m4 m5 : Members)
    → own ≡ d.fields → tests ≡ d.validate → m0 ≡ no_members
    → m1 ≡ put (codes "fields") (list_file (λ f. field_file (own_names (map field_of own)) (field_of f)) own) m0
    → minimum ≡ natural_file d.minimum
    → m2 ≡ unless (d.minimum == d.version) (codes "minimum") minimum m1
    → name ≡ d.name
    → m3 ≡ put (codes "name") (string name) m2
    → m4 ≡ list_as (codes "validate") (λ t. test_file (own_names (map field_of own)) [] (formula t)) tests m3
    → version ≡ natural_file d.version
    → m5 ≡ put (codes "version") version m4
    → m5 ≡ desc_members (desc_of d)
desc_built d own tests name minimum version m0 m1 m2 m3 m4 m5 is_own is_tests is0 is1 is_minimum is2 is_name is3 is4 is_version is5 =
    let names = own_names (map field_of d.fields) in
    rw (is5, is_version, is4, is3, is_name, is2, is_minimum, is1, is0, is_own, is_tests, list_seen (field_file names) field_of d.fields)
    (ap (put (codes "version") (natural_file d.version)) (list_as_seen (codes "validate") (test_file names []) formula d.validate _))

pub whole_built : (d : Device) (own : List Field) (subs : List Sub) (m0 m1 : Members)
    → own ≡ d.desc.fields → subs ≡ d.subs → m0 ≡ desc_members (desc_of d.desc)
    → m1 ≡ list_as (codes "subsections") (λ s. sub_file (own_names (map field_of own)) (sub_of s)) subs m0
    → object m1 ≡ whole_file (device_of d)
whole_built d own subs m0 m1 is_own is_subs is0 is1 =
    rw (is1, is0, is_own, is_subs, list_as_seen (codes "subsections") (sub_file (own_names (map field_of d.desc.fields))) sub_of d.subs _)

pub set_built : (p : Parts) (ds : List Device) (ms : List (List ℕ)) (ss : List Desc) (m0 m1 m2 m3 : Members)
    → ds ≡ p.devices → ms ≡ p.machines → ss ≡ p.structs → m0 ≡ no_members
    → m1 ≡ put (codes "devices") (list_file (λ d. device_file (device_of d)) ds) m0
    → m2 ≡ put (codes "machines") (list_file string ms) m1
    → m3 ≡ put (codes "structs") (list_file (λ d. struct_file (desc_of d)) ss) m2
    → object m3 ≡ set_file (set_of p)
set_built p ds ms ss m0 m1 m2 m3 is_ds is_ms is_ss is0 is1 is2 is3 =
    rw (is3, is2, is1, is0, is_ds, is_ms, is_ss, list_seen device_file device_of p.devices, list_seen struct_file desc_of p.structs)
