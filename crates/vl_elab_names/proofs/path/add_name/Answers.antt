use Rattle.std.proofs.Common.{◌∙◌, ap, sym}
use Rattle.std.specs.Map.Iter.{deref_pair}
use Rattle.std.specs.Option.{option_map}
use Rattle.vl_elab_names.proofs.ModulesNames.{name_pushed, no_name}
use Rattle.vl_elab_names.proofs.path.add_name.Goals as goal

pub returns-in-None : goal.returns-in-None
returns-in-None c =
    no_name c.args.map.now.entries c.args.place c.args.names.now
    (ap (option_map deref_pair) (sym c.in-None.is) ∙ c.get_index.ensures.entry)

pub returns-in_ok-from_bytes-in-Some : goal.returns-in_ok-from_bytes-in-Some
returns-in_ok-from_bytes-in-Some c =
    name_pushed c.push.result c.args.map.now.entries c.args.place _ c.args.names.now c.push.new.self
    c.in_ok-from_bytes-in-Some.field-0 c.in-Some.ensures.entry
    (c.in_ok-from_bytes-in-Some.ensures ∙ c.as_slice.ensures.value) c.push.ensures.ok
