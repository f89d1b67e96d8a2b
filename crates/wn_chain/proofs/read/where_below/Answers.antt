use Rattle.std.proofs.Common.{refl}
use Rattle.std.proofs.lemmas.Bool.{false≢true}
use Rattle.wn_net.specs.Net.{value_at}
use Rattle.wn_chain.proofs.Chains.{below_all}
use Rattle.wn_chain.proofs.read.where_below.Goals as goal

pub returns-in-None-clause-shows : goal.returns-in-None-clause-shows
returns-in-None-clause-shows c = record {
  node = (c.requires.found, refl);
  value = λ g given.
      below_all c.args.net.now g c.args.addr c.width-width.result c.args.count (value_at c.args.net.now g c.args.found)
      (value_at c.args.net.now g c.args.other) c.width-width.ensures.whole given c.width-width.ensures.value
      c.width-width.ensures.some c.width-width.ensures.few (λ h. false≢true (c.in-None.ensures.some.1 h));
}
