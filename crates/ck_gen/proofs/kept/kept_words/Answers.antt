use Rattle.std.specs.Prelude.{◌≡◌, ◌+◌, ◌-◌, ◌<◌, ℕ, List, length, map, drop, refl, slice_index_or}
use Rattle.std.proofs.Common.{ap, sym, ◌∙◌, arith, subst}
use Rattle.std.proofs.lemmas.List.{length_push}
use Rattle.wn_net.specs.Net.{AreNodesOf, value_at}
use Rattle.wn_net.proofs.Laws.{adds_on, nodes_on}
use Rattle.rvfi_port.specs.declared.port.Channel.{Channel}
use Rattle.ck_history.specs.Entries.{packed}
use Rattle.ck_history.proofs.Lines.{nodes_push}
use Rattle.rvfi_port.specs.Ports.{AreChannelNodes}
use Rattle.ck_gen.specs.Kept.{kept_in}
use Rattle.ck_gen.proofs.Words.{channel_here, dropped, words_push}
use Rattle.ck_gen.proofs.kept.kept_words.Goals as goal

abbrev no_channel : Channel
no_channel = record {
  valid = 0;
  order = 0;
  insn = 0;
  trap = 0;
  halt = 0;
  intr = 0;
  rs1_addr = 0;
  rs2_addr = 0;
  rs1_rdata = 0;
  rs2_rdata = 0;
  rd_addr = 0;
  rd_wdata = 0;
  pc_rdata = 0;
  pc_wdata = 0;
  mem_addr = 0;
  mem_rmask = 0;
  mem_wmask = 0;
  mem_rdata = 0;
  mem_wdata = 0;
}

pub loop-place-preserved : goal.loop-place-preserved
loop-place-preserved c =
    let old = c.args.net.now in
    let now = c.loop-place.net in
    let new = c.kept_node.new.net in
    let cs = c.args.channels.now in
    let inv = c.loop-place.invariant in
    let one = c.in_ok-id.ensures in
    let id = c.in_ok-id.id in
    let made = c.loop-place.made.items in
    let i = c.loop-place.place - 1 in
    let x = slice_index_or cs i no_channel in
    let below : i < length cs = omega (arith, inv.many, c.loop-place-test.true) in
    let same : c.loop-place.place ≡ i + 1 = omega (arith, c.loop-place-test.true) in
    let items = c.in_ok-push.ensures.items in
    let own : AreChannelNodes old x = channel_here old cs i x no_channel c.requires below refl in
    let P : List ℕ → Type 0 = λ xs. AreNodesOf new 102 xs in
    record {
      adds = adds_on old now new inv.adds one.adds;
      nodes = subst P (sym items)
          (nodes_push new 102 made id (nodes_on now new 102 made one.adds inv.nodes) one.there);
      many = omega (arith, ap length items, length_push made id, inv.many, same);
      values = λ g.
          ap (map (value_at new g)) items
          ∙ words_push old now new g c.args.kind cs i x made id inv.adds own one.adds inv.nodes
          (dropped cs i x no_channel below refl)
          (inv.values g ∙ ap (λ k. map packed (kept_in c.args.kind old g (drop k cs))) same) (one.value g);
    }
