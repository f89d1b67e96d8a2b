-- What the circuits over a channel go by.
use Rattle.rvfi_port.proofs.AddedNodes.{channel_on, retire_on}
use Rattle.rv_rows.proofs.StepLemmas.{steps}

pub ruleset channels = (steps, channel_on, retire_on)
