use Rattle.ck_props.proofs.OneChannel.{one_channel}
use Rattle.ck_props.proofs.order_law.one_channel_looks_back.Goals as goal

pub returns : goal.returns
returns c = one_channel
