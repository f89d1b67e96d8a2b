use Rattle.std.specs.Prelude.{◌≡◌, ◌==◌, ◌&&◌, ◌<◌, ◌^◌, length, ℕ}
use Rattle.std.proofs.Common.{◌∙◌, sym, subst, arith, ap, add-one}
use Rattle.std.proofs.lemmas.List.{length-map}
use Rattle.fv_bits.specs.Bits.{bit}
use Rattle.wn_net.specs.Next.{written}
use Rattle.wn_net.specs.Net.{AreNodesOf, value_at, width_at}
use Rattle.wn_net.proofs.Laws.{adds_on, nodes_on, given_on, value_on}
use Rattle.wn_net.proofs.Moved.{value_below}
use Rattle.wn_mem.specs.Words.{numbers_of}
use Rattle.wn_mem.proofs.Tree.{numbers_on}
use Rattle.wn_mem.proofs.After.{share_on, asked_on, none_so_far, one_more, all_so_far, so_far}
use Rattle.wn_mem.proofs.write.write_singly.Goals as goal

pub loop-index-init : goal.loop-index-init
loop-index-init c =
    let net = c.args.net.now in
    let one = c.request.new.net in
    let write = c.args.write.now in
    let w = width_at net c.args.shared.written in
    let first = c.in_ok-asked.ensures.adds in
    record {
      adds = first;
      asked = c.in_ok-asked.ensures.asked;
      there = nodes_on net one w c.args.words.now first c.requires.words;
      value = λ g mask number given s.
          numbers_on net one w g c.args.words.now first c.requires.words
          ∙ none_so_far w (numbers_of net g c.args.words.now) (value_at net g write.enable) (value_at net g write.addr)
          mask number;
    }

pub write_at-requires-clause-reached : goal.write_at-requires-clause-reached
write_at-requires-clause-reached c =
    let net = c.args.net.now in
    let addr = c.args.write.now.addr in
    let same : 2 ^ width_at c.loop-index.net addr ≡ 2 ^ width_at net addr =
    ap (λ w. 2 ^ w) (c.loop-index.invariant.adds.keeps.widths addr c.requires.write.addr) in
    let wide : 2 ^ c.width-width.result ≡ 2 ^ width_at net addr = ap (λ w. 2 ^ w) c.width-width.ensures.value in
    omega (arith, c.reached_by-most.ensures.reached, wide, same, c.loop-index-test.true)

pub loop-index-preserved : goal.loop-index-preserved
loop-index-preserved c =
    let net = c.args.net.now in
    let now = c.loop-index.net in
    let new = c.write_at.new.net in
    let write = c.args.write.now in
    let put = c.args.shared.written in
    let i = c.loop-index.index in
    let w = width_at net put in
    let inv = c.loop-index.invariant in
    let more = c.in_ok-write_at.ensures.adds in
    let wide = inv.adds.keeps.widths put c.requires.shared.0.0 in
    let P : ℕ → Type 0 = λ v. AreNodesOf new v c.write_at.new.words in
    record {
      adds = adds_on net now new inv.adds more;
      asked = asked_on net now new write c.in_ok-asked.asked more inv.adds c.requires.write.addr
          c.requires.write.enable inv.asked;
      there = subst P wide c.in_ok-write_at.ensures.there;
      value = λ g mask number given s.
          let nums = numbers_of net g c.args.words.now in
          let e = value_at net g write.enable in
          let a = value_at net g write.addr in
          c.in_ok-write_at.ensures.value g mask number (given_on net now g inv.adds given)
          (share_on net now g mask number put c.args.shared.kept inv.adds c.requires.shared s)
          ∙ (λ k. written (wide k) (inv.value g mask number given s k)
          (bit (value_on net now g write.enable inv.adds c.requires.write.enable.0 k == 1
          && value_on net now g write.addr inv.adds c.requires.write.addr k == i)) i mask number)
          ∙ one_more w nums e a mask number i
          ∙ ap (so_far w nums e a mask number) (sym (add-one i));
    }

pub returns-clause-value : goal.returns-clause-value
returns-clause-value c = λ g mask number given s.
    let net = c.args.net.now in
    let write = c.args.write.now in
    let w = width_at net c.args.shared.written in
    let nums = numbers_of net g c.args.words.now in
    let a = value_at net g write.addr in
    let i = c.loop-index.index in
    let long : length nums ≡ length c.args.words.now = length-map c.args.words.now (value_at net g) in
    let below : a < 2 ^ width_at net write.addr = value_below net g c.width-width.ensures.whole given write.addr in
    let wide : 2 ^ c.width-width.result ≡ 2 ^ width_at net write.addr = ap (λ u. 2 ^ u) c.width-width.ensures.value in
    let reached : i < length nums → a < i =
    λ k.
    let less : c.reached_by-most.result < length c.args.words.now = omega (arith, k, long, c.loop-index-test.false) in
    omega (arith, below, wide, c.reached_by-most.ensures.all less, c.loop-index-test.false) in
    c.loop-index.invariant.value g mask number given s
    ∙ all_so_far w nums (value_at net g write.enable) a mask number i reached
