-- Between functions: Parts of outputs as nodes. Rule of this project.
use Rattle.std.specs.Prelude.{ℕ, ◌+◌, ◌*◌, ◌≤◌, List, [], ◌∷◌}
use Rattle.fv_bits.specs.Bits.{part}
use Rattle.wn_net.specs.Net.{Netlist, IsNode, value_at, width_at}
use Rattle.wn_net.specs.Changes.{Shows}
use Rattle.rvfi_port.specs.declared.field.Field.{Field}
use Rattle.rvfi_port.specs.declared.port.Channel.{Channel}
use Rattle.rvfi_port.specs.Fields.{field_width, channel_fields}
use Rattle.rvfi_port.specs.Channels.{nodes_of}

-- the node has the bits of a field up to the channel
abbrev pub Reaches : Netlist → ℕ → Field → ℕ → Type 0
Reaches net channel field id =
    IsNode net id × (channel * field_width field + field_width field ≤ width_at net id) × (width_at net id ≤ 128)

-- one such node for each of the fields
abbrev pub AllReach : Netlist → ℕ → List Field → List ℕ → Type 0
AllReach net channel [] [] = Unit {0}
AllReach net channel (field ∷ fields) (id ∷ ids) = Reaches net channel field id × AllReach net channel fields ids
AllReach net channel fields ids = ⊥

-- a node shows the channel's part of the field at another node
abbrev pub IsPart : Netlist → Netlist → ℕ → Field → ℕ → ℕ → Type 0
IsPart old new channel field whole id =
    Shows old new (field_width field)
    (λ g. part (channel * field_width field) (field_width field) (value_at old g whole)) id

-- one for each of the fields
abbrev pub AreParts : Netlist → Netlist → ℕ → List Field → List ℕ → List ℕ → Type 0
AreParts old new channel [] [] [] = Unit {0}
AreParts old new channel (field ∷ fields) (whole ∷ wholes) (id ∷ ids) =
    IsPart old new channel field whole id × AreParts old new channel fields wholes ids
AreParts old new channel fields wholes ids = ⊥

-- the channels from this one on are parts of the outputs
abbrev pub AreCut : Netlist → Netlist → List ℕ → ℕ → List Channel → Type 0
AreCut old new wholes channel [] = Unit {0}
AreCut old new wholes channel (c ∷ cs) =
    AreParts old new channel channel_fields wholes (nodes_of c) × AreCut old new wholes (channel + 1) cs
