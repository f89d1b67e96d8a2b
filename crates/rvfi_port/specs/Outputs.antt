-- Meaning: Which output of a design is a field, and how a design is refused for want of one. Rule of this project.
use Rattle.std.specs.Prelude.{◌≡◌, ℕ, ◌*◌, ◌==◌, not, ◌&&◌, List, [], ◌∷◌, Option, Some, None}
use Rattle.std.specs.Prelude.{if◌then◌else◌, find, Bool}
use Rattle.std.specs.Option.{option_or}
use Rattle.std.specs.Str.{bytes_eq}
use Rattle.wn_net.specs.declared.names.NetName.{NetName}
use Rattle.wn_net.specs.declared.names.Names.{Names}
use Rattle.wn_net.specs.Value.{Given}
use Rattle.wn_net.specs.Net.{Netlist, IsNodeOf, value_at}
use Rattle.wn_net.specs.Names.{number_at}
use Rattle.rvfi_port.specs.declared.field.Field.{Field}
use Rattle.rvfi_port.specs.declared.field.Field.TheVariants as f
use Rattle.rvfi_port.specs.declared.port.Wants.{Wants}
use Rattle.rvfi_port.specs.declared.fault.PortFault.{PortFault}
use Rattle.rvfi_port.specs.declared.fault.PortFault.TheVariants as fault
use Rattle.rvfi_port.specs.Fields.{field_name, field_width, is_per_channel, wanted_fields}

-- the output that has the field's name
abbrev pub output_of : Names → Field → Option NetName
output_of names field = find (λ n. n.output && bytes_eq n.text (field_name field)) names.list

-- the width that it has to have: of a channel's field that of all channels together, channel 0 in the lowest bits
abbrev pub wanted_width : ℕ → Field → ℕ
wanted_width channels field = if is_per_channel field then channels * field_width field else field_width field

-- why it isn't of the field
abbrev pub judged : ℕ → Field → Option NetName → Option PortFault
judged channels field None = Some (fault.Missing field)
judged channels field (Some n) =
    if n.width == wanted_width channels field then None
    else Some (fault.Width field n.width (wanted_width channels field))

-- the first of the fields that are refused
abbrev pub first_refused : Names → ℕ → List Field → Option PortFault
first_refused names channels [] = None
first_refused names channels (field ∷ fields) =
    option_or (judged channels field (output_of names field)) (first_refused names channels fields)

-- the refusal of the port: of the first field, and else that memory is probed which isn't aligned
abbrev pub refusal : Names → ℕ → Wants → Option PortFault
refusal names channels wants =
    option_or (first_refused names channels (wanted_fields wants))
    (if wants.dmem && not wants.aligned then Some fault.NeedsAligned else None)

-- the refusal of the probe of instruction memory, where it is wanted
abbrev pub imem_refusal : Names → ℕ → Bool → Option PortFault
imem_refusal names channels wanted =
    first_refused names channels (if wanted then f.ImemAddr ∷ f.ImemData ∷ [] else [])

-- the refusal of the probe of data memory
abbrev pub dmem_refusal : Names → ℕ → Wants → Option PortFault
dmem_refusal names channels wants =
    option_or (first_refused names channels (if wants.dmem then f.DmemAddr ∷ [] else []))
    (if wants.dmem && not wants.aligned then Some fault.NeedsAligned else None)

-- a fault is the refusal, or that no memory was left
abbrev pub Answered : PortFault → Option PortFault → Type 0
Answered fault.Memory o = Unit {0}
Answered x o = o ≡ Some x

-- the number of an output in a cycle; 0 where there is none
abbrev pub output_value : Netlist → Given → Option NetName → ℕ
output_value net g None = 0
output_value net g (Some n) = number_at net g n.place

-- a field isn't refused, and this is the node of its output
pub record IsOutput (net : Netlist) (names : Names) (channels : ℕ) (field : Field) (id : ℕ) : Type 0 where
  pub accepted : judged channels field (output_of names field) ≡ None
  pub node : IsNodeOf net (wanted_width channels field) id
  pub value : (g : Given) → value_at net g id ≡ output_value net g (output_of names field)

-- one node for each of the fields
abbrev pub AreOutputs : Netlist → Names → ℕ → List Field → List ℕ → Type 0
AreOutputs net names channels [] [] = Unit {0}
AreOutputs net names channels (field ∷ fields) (id ∷ ids) =
    IsOutput net names channels field id × AreOutputs net names channels fields ids
AreOutputs net names channels fields ids = ⊥
