-- Between functions: The parameters of a scope, by what it is made from. IEEE 1364-2005, sections 3.11 and 12.2; that
-- a parameter may use those before it alone is a rule of this project.
use Rattle.std.specs.Prelude.{List, [], ◌∷◌, ◌++◌, None}
use Rattle.vl_tree.specs.declared.declaration.HeaderParameter.{HeaderParameter}
use Rattle.vl_tree.specs.declared.declaration.Port.{Port}
use Rattle.vl_tree.specs.Item.{Item, items}
use Rattle.vl_mean.specs.Constants.{Constants}
use Rattle.vl_mean.specs.Declarations.{Overrides, with_parameters, with_items_parameters, header_parameters, full_ports}
use Rattle.vl_mean.specs.Scopes.{Scope}
use Rattle.vl_mean.specs.Walk.{Contents}
use Rattle.vl_elab_spec.specs.Meanings.{Names, all_later, with_parameter_meanings, with_item_constants}

-- of the parameters of a head, ports and items, to whose parameters this is given, within no scope
abbrev pub contents : Overrides → List HeaderParameter → List Port → List Item → Contents
contents os parameters ports all = record {
  overrides = os;
  parameters = header_parameters parameters;
  ports = full_ports None ports;
  items = items all;
  earlier = [];
}

-- the constants of such a scope within others
abbrev pub constants_of : List Scope → Contents → Constants
constants_of ss c = with_items_parameters c.overrides ss (with_parameters c.overrides ss [] c.parameters) c.items

-- what its parameters mean, over what they use of the scopes around
abbrev pub parameter_meanings : Scope → List Names → Contents → Names
parameter_meanings s before c =
    let behind = all_later c in
    with_item_constants s before c.overrides behind
    (with_parameter_meanings s before c.overrides behind [] c.parameters) c.items

-- what names mean in its shapes: of its own names the parameters alone
abbrev pub among_parameters : Scope → List Names → List Names → Contents → List Names
among_parameters s before outer c = (parameter_meanings s before c ++ all_later c) ∷ outer
