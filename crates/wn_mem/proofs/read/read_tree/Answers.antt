use Rattle.std.proofs.Common.{arith}
use Rattle.wn_net.specs.Net.{width_at}
use Rattle.wn_net.proofs.Laws.{given_on}
use Rattle.wn_mem.proofs.Tree.{tree_value, all_bits}
use Rattle.wn_mem.proofs.read.read_tree.Goals as goal

pub returns-clause-value : goal.returns-clause-value
returns-clause-value c = λ g given.
    let net = c.args.net.now in
    let found = c.in_ok-found.ensures in
    tree_value net c.word_by_low.new.net c.where_low.new.net g c.args.words.now _
    (width_at net c.args.zero) c.args.addr c.min-count.result c.reached.result c.in_ok-found.found
    c.in_ok-chosen.chosen c.width.ensures.whole given
    found.adds c.requires.addr c.requires.words c.split_at.ensures.front c.reached.ensures
    (λ more. omega (
      arith,
      c.width.ensures.value,
      all_bits c.bits_for.result c.width.result c.min-count.result _
          c.min-count.ensures c.bits_for.ensures.enough more,
    ))
    (found.value g given)
    (c.in_ok-chosen.ensures.value g (given_on _ _ g found.adds given))
