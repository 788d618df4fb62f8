-- What worked files say.
use Rattle.vms_descfile.proofs.Facade.{◌≡◌, List, ℕ, codes, digits, is_utf8, chars, serde_json_on_literals, here, first_fault, counted_set, tested_set}
use Rattle.vms_descfile.proofs.Facade.{parts_of, Said, Parts, Syntax, Shape, IllFormed, file_said}
use Rattle.vms_spec.specs.declared.Part.TheVariants as parts

unfoldable said : List ℕ → Said
unfolding serde_json_on_literals digits chars is_utf8 first_fault parts_of file_said
said text = file_said text

record FileRows : Type 0 where
  -- The box of the worked rows.
  says_a_counted_array : said (codes "{\"devices\":[{\"desc\":{\"fields\":[{\"kind\":\"u8\",\"name\":\"n\"},{\"capacity\":2,\"counted\":\"n\",\"kind\":\"u16\",\"name\":\"v\"}],\"name\":\"box\",\"version\":1},\"instance\":0}],\"machines\":[\"lab\"],\"structs\":[]}")
      ≡ Parts counted_set
  says_tests_and_validations : said (codes "{\"devices\":[{\"desc\":{\"fields\":[{\"kind\":\"u8\",\"name\":\"f\"},{\"kind\":\"u8\",\"name\":\"g\",\"test\":{\"field\":\"f\",\"is\":\"eq\",\"mask\":255,\"value\":1}}],\"name\":\"box\",\"validate\":[{\"field\":\"f\",\"is\":\"lt\",\"mask\":255,\"value\":10}],\"version\":1},\"instance\":0}],\"machines\":[\"lab\"],\"structs\":[]}")
      ≡ Parts tested_set
  -- Texts that are no JSON value.
  says_no_json : said (codes "{") ≡ Syntax
  -- Shapes: first at the whole, then by key and by position.
  says_a_key_too_many : said (codes "{\"devices\":[],\"machines\":[],\"more\":0,\"structs\":[]}") ≡ Shape (codes "file")
  says_machine_of_another_type : said (codes "{\"devices\":[],\"machines\":[7],\"structs\":[]}") ≡ Shape (codes "machines.0")
  says_keys_in_byte_order : said (codes "{\"structs\":7,\"machines\":7,\"devices\":[]}") ≡ Shape (codes "machines")
  -- Numbers are whole ones of 64 bits.
  says_float_as_version : said (codes "{\"devices\":[{\"desc\":{\"fields\":[],\"name\":\"box\",\"version\":1.0},\"instance\":0}],\"machines\":[],\"structs\":[]}")
      ≡ Shape (codes "devices.0.desc.version")
  -- Keys that exclude each other, or depend on the kind.
  says_equal_with_default : said (codes "{\"devices\":[{\"desc\":{\"fields\":[{\"kind\":\"u8\",\"name\":\"f\"},{\"default\":1,\"equal\":1,\"kind\":\"u8\",\"name\":\"g\"}],\"name\":\"box\",\"version\":1},\"instance\":0}],\"machines\":[],\"structs\":[]}")
      ≡ Shape (codes "devices.0.desc.fields.1")
  says_unknown_kind : said (codes "{\"devices\":[{\"desc\":{\"fields\":[{\"kind\":\"u8\",\"name\":\"f\"},{\"kind\":\"u9\",\"name\":\"g\",\"size\":2}],\"name\":\"box\",\"version\":1},\"instance\":0}],\"machines\":[],\"structs\":[]}")
      ≡ Shape (codes "devices.0.desc.fields.1.kind")
  -- Names are looked up if nothing else is invalid, and only in the right lists.
  says_name_that_is_not_there : said (codes "{\"devices\":[{\"desc\":{\"fields\":[],\"name\":\"box\",\"validate\":[{\"not\":{\"field\":\"f\",\"is\":\"eq\",\"mask\":1,\"value\":0}}],\"version\":1},\"instance\":0}],\"machines\":[],\"structs\":[]}")
      ≡ Shape (codes "devices.0.desc.validate.0.not.field")
  says_shapes_before_names : said (codes "{\"devices\":[{\"desc\":{\"fields\":[],\"name\":\"box\",\"validate\":[{\"field\":\"f\",\"is\":\"eq\",\"mask\":1,\"value\":0}],\"version\":1},\"instance\":0}],\"machines\":[],\"structs\":7}")
      ≡ Shape (codes "structs")
  -- The rules of sets.
  says_minimum_above_version : said (codes "{\"devices\":[{\"desc\":{\"fields\":[],\"minimum\":2,\"name\":\"box\",\"version\":1},\"instance\":0}],\"machines\":[],\"structs\":[]}")
      ≡ IllFormed (record { rule = 3; place = here (parts.Device 0) })

file_rows : FileRows
unfolding said
file_rows = search
