use Rattle.std.specs.Prelude.{◌==◌, if◌then◌else◌, not, ◌&&◌, ◌||◌}
use Rattle.std.proofs.Common.{◌∙◌}
use Rattle.fv_bits.specs.Bits.{bit}
use Rattle.rv_table.specs.Agree.{has, byte, keeps}
use Rattle.wn_net.specs.Net.{value_at}
use Rattle.wn_net.proofs.Laws.{adds_on, node_on, built_node}
use Rattle.rvfi_port.specs.Channels.{retire_at}
use Rattle.rvfi_port.proofs.AddedNodes.{retire_on}
use Rattle.rv_circ.proofs.TestLemmas.{chosen_is}
use Rattle.rv_circ.proofs.byte.written_agrees.Goals as goal

pub returns-clause-shows : goal.returns-clause-shows
returns-clause-shows c =
    let old = c.args.net.now in
    let channel = c.args.channel.now in
    let e = c.args.effect.now in
    let k = c.args.index in
    let own = c.requires.channel in
    let have = c.requires.effect in
    let wanted = c.in_ok-wanted.ensures in
    let written = c.in_ok-written.ensures in
    let left = c.in_ok-left.ensures in
    let test = c.in_ok-test.ensures.built in
    let rest = adds_on _ _ _ written.adds left.adds in
    let to2 = adds_on _ _ _ wanted.adds written.adds in
    let made = built_node _ _ _ _ _ _ test in
    record {
      node = (made.0, made.1 ∙ (node_on _ _ 1 c.in_ok-written.written left.adds written.shows.node).1);
      value = λ g given.
          let given1 = wanted.adds.keeps.given g given in
          let r = retire_at old g channel in
          let asked = rest.keeps.values g c.in_ok-wanted.wanted wanted.shows.node.0 ∙ wanted.shows.value g given in
          let r1 = retire_on _ _ g channel wanted.adds own in
          let r2 = retire_on _ _ g channel to2 own in
          let word = wanted.adds.keeps.values g e.wdata have.wdata.0 in
          let yes = left.adds.keeps.values g c.in_ok-written.written written.shows.node.0
          ∙ written.shows.value g given1
          ∙ (λ i. bit (has (r1 i).mem_wmask k && byte k (r1 i).mem_wdata == byte k (word i))) in
          let no = left.shows.value g (written.adds.keeps.given g given1)
          ∙ (λ i. bit (not (has (r2 i).mem_wmask k) || keeps (r2 i) k)) in
          test.value g
          ∙ (λ i. if asked i == 1 then yes i else no i)
          ∙ chosen_is (has (value_at old g e.wmask) k)
          (has r.mem_wmask k && byte k r.mem_wdata == byte k (value_at old g e.wdata))
          (not (has r.mem_wmask k) || keeps r k);
    }
