use Rattle.rvfi_port.proofs.Cut.{listed}
use Rattle.rvfi_port.proofs.channel.channel_of.Goals as goal

pub returns : goal.returns
returns c = listed 19 0 c.args.nodes.now c.requires
