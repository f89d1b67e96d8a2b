-- Between functions: Instances of which no steps come but their own. IEEE 1364-2005, section 12.1; that such a module
-- isn't entered is a rule of this project.
use Rattle.std.specs.Prelude.{Bool, ◌&&◌, ◌==◌, length}
use Rattle.vl_tree.specs.declared.part.Instance.{Instance}
use Rattle.vl_tree.specs.declared.source.Module.{Module}
use Rattle.vl_mean.specs.Walk.{connections_of, header_of, written_ports}

-- nothing is given to parameters and joined to ports
abbrev pub gives_nothing : Instance → Bool
gives_nothing x = (length (connections_of x.overrides) == 0) && (length x.connections == 0)

-- no parameters in the head, no ports and no items
abbrev pub has_nothing : Module → Bool
has_nothing m =
    (length m.items == 0) && ((length (written_ports m.ports) == 0) && (length (header_of m.parameters) == 0))

abbrev pub is_bare : Module → Instance → Bool
is_bare m x = has_nothing m && gives_nothing x
