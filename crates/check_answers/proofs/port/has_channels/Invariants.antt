use Rattle.std.proofs.Common.{drop}
use Rattle.std.specs.List.{AllByRecursion}
use Rattle.rvfi_port.specs.Ports.{AreChannelNodes}
use Rattle.check_answers.proofs.port.has_channels.Given as goal

abbrev pub invariant-loop-channel : goal.invariant-loop-channel
invariant-loop-channel l =
    AllByRecursion (AreChannelNodes l.net) (drop l.channel-index l.channels)
    → AllByRecursion (AreChannelNodes l.net) l.channels
