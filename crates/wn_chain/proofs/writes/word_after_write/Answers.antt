use Rattle.std.specs.Prelude.{◌==◌, ◌&&◌, if◌then◌else◌}
use Rattle.std.proofs.Common.{◌∙◌}
use Rattle.fv_bits.specs.Bits.{masked}
use Rattle.wn_net.specs.Net.{value_at, width_at}
use Rattle.wn_net.proofs.Laws.{value_on, given_on}
use Rattle.wn_mem.proofs.Tree.{bit_is_one}
use Rattle.wn_chain.proofs.writes.word_after_write.Goals as goal

pub returns-clause-shows : goal.returns-clause-shows
returns-clause-shows c =
    let net = c.args.net.now in
    let one = c.acts_at.new.net in
    let write = c.args.write.now in
    let word = c.args.word in
    let acts = c.in_ok-acts.ensures in
    let after = c.in_ok-after.ensures in
    let wide = acts.adds.keeps.widths word c.requires.word in
    let mask_own = c.requires.write.mask.0 in
    let value_own = c.requires.write.value.0 in
    record {
      node = (after.shows.node.0, after.shows.node.1 ∙ wide);
      value = λ g given.
          after.shows.value g (given_on net one g acts.adds given)
          ∙ (λ i. if acts.shows.value g given i == 1
          then masked (wide i) (value_on net one g write.mask acts.adds mask_own i)
          (value_on net one g word acts.adds c.requires.word i) (value_on net one g write.value acts.adds value_own i)
          else value_on net one g word acts.adds c.requires.word i)
          ∙ bit_is_one
          (value_at net g write.enable == 1 && value_at net g write.addr == value_at net g c.args.addr)
          (masked (width_at net word) (value_at net g write.mask) (value_at net g word) (value_at net g write.value))
          (value_at net g word);
    }
