-- A channel of a port by its place.
use Rattle.std.specs.Prelude.{◌≡◌, ℕ, ◌<◌, List, length, slice_index_or}
use Rattle.std.specs.List.{AllByRecursion}
use Rattle.std.proofs.Common.{ap}
use Rattle.wn_net.specs.Net.{Netlist}
use Rattle.wn_net.specs.Changes.{AddsRegs}
use Rattle.rvfi_port.specs.declared.port.Channel.{Channel}
use Rattle.rvfi_port.specs.Ports.{AreChannelNodes}
use Rattle.ck_gen.proofs.Monitored.{is_among}
use Rattle.rvfi_port.proofs.AddedRegs.{channels_on}
use Rattle.ck_gen.proofs.Recalled.{among_nodes}

pub channel_at : (old new : Netlist) (all cs : List Channel) (place : ℕ) (d : Channel) → AddsRegs old new
    → AllByRecursion (AreChannelNodes old) all → cs ≡ all → place < length all
    → AreChannelNodes new (slice_index_or cs place d)
channel_at old new all cs place d adds own e below =
    among_nodes new all place (slice_index_or cs place d)
    (is_among all place (slice_index_or cs place d) d below (ap (λ xs. slice_index_or xs place d) e))
    (channels_on old new all adds own)
