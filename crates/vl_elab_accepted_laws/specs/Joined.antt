-- Between functions: What is asked of the ports of a module that an instance is joined to. Rule of this project.
use Rattle.std.specs.Prelude.{◌≡◌, ℕ, List, Some}
use Rattle.vl_tree.specs.declared.declaration.FullPort.{FullPort}
use Rattle.vl_tree.specs.declared.source.Module.{Module}
use Rattle.vl_mean.specs.Declarations.{ports_of, port_named}
use Rattle.vl_mean.specs.Walk.{Use}
use Rattle.vl_elab_spec.specs.Items.{inner_meanings}
use Rattle.vl_elab_spec.specs.Meanings.{Meaning, object, meaning_in}

abbrev pub IsObject : Meaning → Type 0
IsObject (object d role scalar) = Unit {0}
IsObject m = ⊥

-- each port of the module is a net or a variable in it: no parameter has its name
abbrev pub PortsAreObjects : Module → Use → Type 0
PortsAreObjects m u =
    (text : List ℕ) (p : FullPort) → port_named (ports_of m.ports) text ≡ Some p
    → IsObject (meaning_in (inner_meanings m u) p.name)
