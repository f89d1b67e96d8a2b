-- Between functions: What the functions that judge the parts of items promise one another: the refusals of a parameter
-- and of a port, over what names mean at it and what stands before it. Rule of this project.
use Rattle.std.specs.Prelude.{ℕ, List, [], ◌∷◌, ◌++◌, Bool, true, false, Option, Some, None}
use Rattle.std.specs.Prelude.{if◌then◌else◌, is_none}
use Rattle.fv_text.specs.declared.pos.Pos.{Pos}
use Rattle.vl_tree.specs.declared.declaration.DeclaredName.{DeclaredName}
use Rattle.vl_tree.specs.declared.declaration.FullPort.{FullPort}
use Rattle.vl_tree.specs.declared.declaration.NetKind.{NetKind}
use Rattle.vl_tree.specs.declared.declaration.Parameter.{Parameter}
use Rattle.vl_tree.specs.declared.declaration.Range.{Range}
use Rattle.vl_tree.specs.declared.part.Assignment.{Assignment}
use Rattle.vl_tree.specs.declared.part.Connection.{Connection}
use Rattle.vl_size.specs.declared.decl.Class.{Class}
use Rattle.vl_elab_spec.specs.declared.elab_fault.ElabFault.{ElabFault}
use Rattle.vl_elab_spec.specs.declared.elab_fault.ElabFault.TheVariants as f
use Rattle.vl_elab_spec.specs.Expressions.{refused_if, expr_refusals}
use Rattle.vl_elab_spec.specs.Items.{range_refusals, width_refusals, value_context, given_value, port_net}
use Rattle.vl_elab_spec.specs.Items.{name_refusals, override_value}
use Rattle.vl_elab_spec.specs.Meanings.{Names, is_known_range, declared_width}
use Rattle.vl_elab_spec.specs.Refused.{lower_of, lowest}
use Rattle.vl_elab_spec.specs.Statements.{assignment_refusals}

-- the width of what is declared, where its bounds are known
abbrev pub known_width : List Names → Option Range → Option ℕ
known_width ns r = if is_known_range ns r then Some (declared_width ns r) else None

-- of a parameter, whether its name stands before it, and whether its value is given at the instance
abbrev pub parameter_parts : List Names → Bool → Bool → Parameter → List ElabFault
parameter_parts ns twice given x =
    refused_if twice (f.Twice x.name x.pos)
    ++ range_refusals ns x.shape.range ++ width_refusals ns x.pos x.shape.range
    ++ (if given then [] else expr_refusals ns true (value_context ns x.shape.range x.value) x.value)

-- of a port, whether its name stands before it
abbrev pub port_parts : List Names → Bool → Pos → FullPort → List ElabFault
port_parts ns twice p q =
    refused_if twice (f.Twice q.name p) ++ range_refusals ns q.shape.range
    ++ width_refusals ns p q.shape.range
    ++ given_value ns p (port_net q.net) q.name q.value

-- of what an instance gives to a parameter, or to none, whether the name stands before it
abbrev pub override_parts : List Names → List Names → Bool → Option Parameter → Connection → List ElabFault
override_parts ns inner twice y x =
    refused_if twice (f.Twice x.port x.pos) ++ refused_if (is_none y) (f.Param x.port x.pos)
    ++ override_value ns inner y x.value

-- of declared names and of assignments, one behind the other
abbrev pub names_fault : List Names → NetKind → Class → Option Range → List DeclaredName → Option ElabFault
names_fault ns kind c shape [] = None
names_fault ns kind c shape (x ∷ xs) =
    lower_of (lowest (name_refusals ns kind c shape x)) (names_fault ns kind c shape xs)

abbrev pub assignments_fault : List Names → List Assignment → Option ElabFault
assignments_fault ns [] = None
assignments_fault ns (x ∷ xs) =
    lower_of (lowest (assignment_refusals ns true true false x.target x.value)) (assignments_fault ns xs)
