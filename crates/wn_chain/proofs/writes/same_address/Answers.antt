use Rattle.std.proofs.Common.{◌∙◌}
use Rattle.wn_net.specs.Net.{value_at}
use Rattle.wn_chain.proofs.Behind.{turned}
use Rattle.wn_chain.proofs.writes.same_address.Goals as goal

pub returns-in_ok-same_padded-2-clause-shows : goal.returns-in_ok-same_padded-2-clause-shows
returns-in_ok-same_padded-2-clause-shows c =
    let net = c.args.net.now in
    let s = c.in_ok-same_padded-2.ensures.shows in
    record {
      node = s.node;
      value = λ g given. s.value g given ∙ turned (value_at net g c.args.b) (value_at net g c.args.a);
    }
