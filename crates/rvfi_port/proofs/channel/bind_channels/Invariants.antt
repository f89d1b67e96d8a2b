use Rattle.std.proofs.Common.{◌≡◌, length}
use Rattle.wn_net.specs.Changes.{AddsNodes}
use Rattle.rvfi_port.specs.Parts.{AreCut}
use Rattle.rvfi_port.proofs.channel.bind_channels.Given as goal

abbrev pub invariant-loop-channel : goal.invariant-loop-channel
invariant-loop-channel l = record {
  adds : AddsNodes l.fn.net l.net;
  many : length l.made ≡ l.channel;
  each : AreCut l.fn.net l.net l.wholes 0 l.made;
}
