-- Meaning: Which declared outputs of a design are the fields of its port, and how the design is refused for want of
-- one. Rule of this project.
use Rattle.std.specs.Prelude.{ℕ, ◌==◌, Bool, not, ◌&&◌, List, [], ◌∷◌, Option, Some, None, bytes_eq, if◌then◌else◌}
use Rattle.std.specs.Option.{option_or}
use Rattle.vl_size.specs.declared.decl.Decl.{Decl}
use Rattle.vl_mean.specs.Scopes.{is_clock_class}
use Rattle.rvfi_port.specs.declared.field.Field.{Field}
use Rattle.rvfi_port.specs.declared.fault.PortFault.{PortFault}
use Rattle.rvfi_port.specs.declared.fault.PortFault.TheVariants as fault
use Rattle.rvfi_port.specs.declared.port.Wants.{Wants}
use Rattle.rvfi_port.specs.Fields.{field_name, wanted_fields}
use Rattle.rvfi_port.specs.Outputs.{wanted_width}

-- an output with this name is declared; the clock is none
abbrev pub is_output : List ℕ → Decl → Bool
is_output name d = not (is_clock_class d.class) && (d.output && bytes_eq d.name name)

-- the width of the first such
abbrev pub output_width : List ℕ → List Decl → Option ℕ
output_width name [] = None
output_width name (d ∷ ds) = if is_output name d then Some d.width else output_width name ds

-- why an output of this width, if any, isn't the field's
abbrev pub width_refusal : ℕ → Field → Option ℕ → Option PortFault
width_refusal channels field None = Some (fault.Missing field)
width_refusal channels field (Some width) =
    if width == wanted_width channels field then None
    else Some (fault.Width field width (wanted_width channels field))

-- the first of the fields that are refused
abbrev pub first_refusal : List Decl → ℕ → List Field → Option PortFault
first_refusal ds channels [] = None
first_refusal ds channels (field ∷ fields) =
    option_or (width_refusal channels field (output_width (field_name field) ds)) (first_refusal ds channels fields)

-- the refusal of the port: of the first field, and else that memory is probed which isn't aligned
abbrev pub port_refusal : List Decl → ℕ → Wants → Option PortFault
port_refusal ds channels wants =
    option_or (first_refusal ds channels (wanted_fields wants))
    (if wants.dmem && not wants.aligned then Some fault.NeedsAligned else None)
