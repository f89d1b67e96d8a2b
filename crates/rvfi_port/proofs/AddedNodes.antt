-- A channel behind more nodes alone.
use Rattle.std.specs.Prelude.{◌≡◌}
use Rattle.wn_net.specs.Value.{Given}
use Rattle.wn_net.specs.Net.{Netlist}
use Rattle.wn_net.specs.Changes.{AddsNodes}
use Rattle.wn_net.proofs.Laws.{adds_regs}
use Rattle.rvfi_port.specs.declared.port.Channel.{Channel}
use Rattle.rvfi_port.specs.Channels.{retire_at}
use Rattle.rvfi_port.specs.Ports.{AreChannelNodes}
use Rattle.rvfi_port.proofs.AddedRegs as regs

pub channel_on : (old new : Netlist) (c : Channel) → AddsNodes old new → AreChannelNodes old c → AreChannelNodes new c
channel_on old new c h own = regs.channel_nodes_on old new c (adds_regs old new h) own

pub retire_on : (old new : Netlist) (g : Given) (c : Channel) → AddsNodes old new → AreChannelNodes old c
    → retire_at new g c ≡ retire_at old g c
retire_on old new g c h own = regs.retire_on old new g c (adds_regs old new h) own
