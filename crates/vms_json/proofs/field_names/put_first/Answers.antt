use Rattle.vms_json.proofs.Facade.{◌≡◌, ap, sym, ◌∙◌, string_bytes, btree_map_updates_text, or_else, at_name}
use Rattle.vms_json.specs.Index.{number_of}
use Rattle.vms_json.proofs.KeyLaws.{put_one, is_none_of}
use Rattle.vms_json.proofs.field_names.put_first.Goals as goal

pub returns-in_ok-insert : goal.returns-in_ok-insert
returns-in_ok-insert c = λ q.
    let old = number_of c.args.first.now in
    let key = string_bytes c.in_ok-from_str.field-0 in
    let same : key ≡ c.args.name.now = c.in_ok-from_str.ensures.ok in
    put_one key q c.args.number old (number_of c.insert.new.self q)
    (ap old same ∙ is_none_of (old c.args.name.now) (sym c.contains_key.ensures ∙ c.if-not-contains_key.true))
    (btree_map_updates_text key c.args.first.now c.insert.new.self _ c.in_ok-insert.ensures.updates q)
    ∙ ap (λ n. or_else (old q) (at_name n c.args.number q)) same
