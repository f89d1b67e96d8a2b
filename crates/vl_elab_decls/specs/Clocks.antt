-- Between functions: Inputs of a module that are the clock, port by port: what the functions that look for them
-- promise one another. Rule of this project.
use Rattle.std.specs.Prelude.{ℕ, List, [], ◌∷◌, Bool, true, false, ◌&&◌, ◌||◌, not, bytes_eq, Option, Some, None}
use Rattle.vl_tree.specs.declared.declaration.Direction.{Direction}
use Rattle.vl_tree.specs.declared.declaration.Direction.TheVariants as direction
use Rattle.vl_tree.specs.declared.declaration.Port.{Port}
use Rattle.vl_tree.specs.declared.declaration.PortKind.{PortKind}
use Rattle.vl_tree.specs.declared.declaration.PortKind.TheVariants as port
use Rattle.vl_mean.specs.Scopes.{is_clock_class}
use Rattle.vl_elab_decls.specs.declared.inputs.Inputs.{Inputs}
use Rattle.vl_elab_decls.specs.Inputs.{class_of}

-- one that is written short takes the direction of the port before it
abbrev pub next_direction : Option Direction → PortKind → Option Direction
next_direction last (port.Full p) = Some p.direction
next_direction last (port.Short text value) = last

abbrev pub port_text : PortKind → List ℕ
port_text (port.Full p) = p.name
port_text (port.Short text value) = text

abbrev pub is_clock_port : Inputs → Direction → List ℕ → Bool
is_clock_port inputs direction.Input text = is_clock_class (class_of inputs text)
is_clock_port inputs direction.Output text = false

-- the names of the ports so far, by a test
abbrev pub with_port : Option Direction → List ℕ → (List ℕ → Bool) → List ℕ → Bool
with_port None text ports other = ports other
with_port (Some to) text ports other = bytes_eq other text || ports other

-- those of them that are the clock; of two of one name the first counts
abbrev pub with_clock : Inputs → Option Direction → List ℕ → (List ℕ → Bool) → (List ℕ → Bool) → List ℕ → Bool
with_clock inputs None text ports clocks other = clocks other
with_clock inputs (Some to) text ports clocks other =
    (bytes_eq other text && (not (ports text) && is_clock_port inputs to text)) || clocks other

abbrev pub clocks_of : Inputs → Option Direction → List Port → (List ℕ → Bool) → (List ℕ → Bool) → List ℕ → Bool
clocks_of inputs last [] ports clocks = clocks
clocks_of inputs last (p ∷ ps) ports clocks =
    let to = next_direction last p.kind in
    let text = port_text p.kind in
    clocks_of inputs to ps (with_port to text ports) (with_clock inputs to text ports clocks)
