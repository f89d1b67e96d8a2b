-- Between functions: What is joined to a port, by the port's direction and name: what the functions that judge it
-- promise one another. Rule of this project.
use Rattle.std.specs.Prelude.{ℕ, List, [], ◌++◌, Bool, false, Option, Some, None}
use Rattle.vl_tree.specs.declared.declaration.Direction.{Direction}
use Rattle.vl_tree.specs.declared.declaration.FullPort.{FullPort}
use Rattle.vl_tree.specs.declared.part.Connection.{Connection}
use Rattle.vl_mean.specs.Walk.{Place}
use Rattle.vl_elab_spec.specs.declared.elab_fault.ElabFault.{ElabFault}
use Rattle.vl_elab_spec.specs.declared.elab_fault.ElabFault.TheVariants as f
use Rattle.vl_elab_spec.specs.Expressions.{refused_if}
use Rattle.vl_elab_spec.specs.Items.{joined_refusals}
use Rattle.vl_elab_spec.specs.Meanings.{Names}

-- nothing else of a port is asked for
abbrev pub port_with : Direction → List ℕ → FullPort
port_with d text = record {
  attributes = [];
  direction = d;
  net = None;
  shape = record { signed = false; range = None };
  name = text;
  name_pos = record { file = 0; line = 1; col = 1 };
  value = None;
}

-- of this direction, if there is one
abbrev pub port_if : Option Direction → List ℕ → Option FullPort
port_if None text = None
port_if (Some d) text = Some (port_with d text)

-- of a connection, whether the name stands before it, and the port that it names
abbrev pub connection_parts : Place → List Names → List Names → Bool → Option FullPort → Connection → List ElabFault
connection_parts at ns inner twice q x =
    refused_if twice (f.Twice x.port x.pos) ++ joined_refusals at ns inner q x x.value
