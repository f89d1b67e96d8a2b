-- A port that `bind` finds has nodes of the widths that a check asks of it.
use Rattle.std.specs.Prelude.{ℕ, ◌+◌, Option, Some, None, Bool, true, false, List, [], ◌∷◌}
use Rattle.std.specs.List.{AllByRecursion}
use Rattle.wn_net.specs.declared.names.Names.{Names}
use Rattle.wn_net.specs.Net.{Netlist}
use Rattle.rvfi_port.specs.declared.port.Channel.{Channel}
use Rattle.rvfi_port.specs.declared.port.Port.{Port}
use Rattle.rvfi_port.specs.declared.port.Wants.{Wants}
use Rattle.rvfi_port.specs.Channels.{IsChannel, AreChannels, IsImem, IsDmem, IsPortOf}
use Rattle.rvfi_port.specs.Ports.{AreChannelNodes, AreImemNodes, IsDmemNode, ArePortNodes}

pub channel_nodes : (old new : Netlist) (names : Names) (channel : ℕ) (c : Channel)
    → IsChannel old new names channel c → AreChannelNodes new c
channel_nodes old new names channel c own = record {
  valid = own.0.node;
  order = own.1.0.node;
  insn = own.1.1.0.node;
  trap = own.1.1.1.0.node;
  halt = own.1.1.1.1.0.node;
  intr = own.1.1.1.1.1.0.node;
  rs1_addr = own.1.1.1.1.1.1.0.node;
  rs2_addr = own.1.1.1.1.1.1.1.0.node;
  rs1_rdata = own.1.1.1.1.1.1.1.1.0.node;
  rs2_rdata = own.1.1.1.1.1.1.1.1.1.0.node;
  rd_addr = own.1.1.1.1.1.1.1.1.1.1.0.node;
  rd_wdata = own.1.1.1.1.1.1.1.1.1.1.1.0.node;
  pc_rdata = own.1.1.1.1.1.1.1.1.1.1.1.1.0.node;
  pc_wdata = own.1.1.1.1.1.1.1.1.1.1.1.1.1.0.node;
  mem_addr = own.1.1.1.1.1.1.1.1.1.1.1.1.1.1.0.node;
  mem_rmask = own.1.1.1.1.1.1.1.1.1.1.1.1.1.1.1.0.node;
  mem_wmask = own.1.1.1.1.1.1.1.1.1.1.1.1.1.1.1.1.0.node;
  mem_rdata = own.1.1.1.1.1.1.1.1.1.1.1.1.1.1.1.1.1.0.node;
  mem_wdata = own.1.1.1.1.1.1.1.1.1.1.1.1.1.1.1.1.1.1.0.node;
}

channels_nodes : (old new : Netlist) (names : Names) (channel : ℕ) (cs : List Channel)
    → AreChannels old new names channel cs → AllByRecursion (AreChannelNodes new) cs
channels_nodes old new names channel [] own = tt
channels_nodes old new names channel (c ∷ cs) own =
    (channel_nodes old new names channel c own.0, channels_nodes old new names (channel + 1) cs own.1)

imem_nodes : (old new : Netlist) (names : Names) (wanted : Bool) (probe : Option (ℕ × ℕ))
    → IsImem old new names wanted probe → AreImemNodes new probe
imem_nodes old new names true (Some p) own = (own.0.node, own.1.node)
imem_nodes old new names false None own = tt
imem_nodes old new names true None own = absurd own
imem_nodes old new names false (Some p) own = absurd own

dmem_node : (old new : Netlist) (names : Names) (wanted : Bool) (probe : Option ℕ)
    → IsDmem old new names wanted probe → IsDmemNode new probe
dmem_node old new names true (Some id) own = own.node
dmem_node old new names false None own = tt
dmem_node old new names true None own = absurd own
dmem_node old new names false (Some id) own = absurd own

pub port_nodes : (old new : Netlist) (names : Names) (channels : ℕ) (wants : Wants) (port : Port)
    → IsPortOf old new names channels wants port → ArePortNodes new port
port_nodes old new names channels wants port own = record {
  channels = channels_nodes old new names 0 port.channels own.each;
  imem = imem_nodes old new names wants.imem port.imem own.imem;
  dmem = dmem_node old new names wants.dmem port.dmem own.dmem;
}
