use Rattle.std.specs.Prelude.{◌≡◌, ◌==◌, ◌&&◌, ◌+◌, ◌*◌, ◌/◌, ◌%◌, ◌^◌, ◌<◌, length, refl, slice_index, bit_and, ℕ}
use Rattle.std.proofs.Common.{◌∙◌, sym, subst, arith, ap, add-one}
use Rattle.std.proofs.lemmas.List.{length-map}
use Rattle.fv_bits.specs.Bits.{bit}
use Rattle.wn_net.specs.Next.{written}
use Rattle.wn_net.specs.Net.{AreNodesOf, value_at, width_at}
use Rattle.wn_net.proofs.Laws.{adds_on, adds_none, node_on, given_on, value_on}
use Rattle.wn_mem.specs.Words.{numbers_of}
use Rattle.wn_mem.proofs.Tree.{numbers_on}
use Rattle.wn_mem.proofs.After.{share_on, asked_on, none_so_far, one_more, all_so_far, so_far}
use Rattle.wn_mem.proofs.Sixteens.{given_back, grouped, mark_here}
use Rattle.wn_mem.proofs.groups.write_groups.Goals as goal

pub loop-index-init : goal.loop-index-init
loop-index-init c =
    let net = c.args.net.now in
    let group = c.args.group.now in
    let w = width_at net c.args.shared.written in
    record {
      adds = adds_none net;
      asked = c.requires.asked;
      there = c.requires.words;
      test_there = c.requires.enable;
      test = λ g given other. absurd (other refl);
      value = λ g mask number place given s few tell.
          none_so_far w (numbers_of net g c.args.words.now) (value_at net g group.enable)
          (value_at net g group.addr * 16 + place) mask number;
    }

pub group_test-requires-clause-reached : goal.group_test-requires-clause-reached
group_test-requires-clause-reached c =
    let addr = c.args.group.now.addr in
    let same : 2 ^ width_at c.loop-index.net addr ≡ 2 ^ width_at c.args.net.now addr =
    ap (λ w. 2 ^ w) (c.loop-index.invariant.adds.keeps.widths addr c.requires.addr) in
    omega (arith, c.requires.reached, same, c.loop-index-test.true)

pub group_test-requires-clause-kept : goal.group_test-requires-clause-kept
group_test-requires-clause-kept c = λ g given other.
    let net = c.args.net.now in
    let now = c.loop-index.net in
    let group = c.args.group.now in
    let adds = c.loop-index.invariant.adds in
    let i = c.loop-index.index in
    c.loop-index.invariant.test g (given_back net now g adds given) other
    ∙ sym (λ k. bit (value_on net now g group.enable adds c.requires.enable.0 k == 1
    && value_on net now g group.addr adds c.requires.addr k == i / 16))

pub write_where_both-requires-clause-mark : goal.write_where_both-requires-clause-mark
write_where_both-requires-clause-mark c =
    let net = c.args.net.now in
    let now = c.loop-index.net in
    let new = c.group_test.new.net in
    let marks = c.args.marks.now in
    let i = c.loop-index.index in
    let few : i % 16 < 16 = omega arith in
    let all = adds_on net now new c.loop-index.invariant.adds c.in_ok-test.ensures.adds in
    node_on net new 1 _ all (mark_here net marks (i % 16) _ c.requires.marks c.requires.sixteen few refl)

pub loop-index-preserved : goal.loop-index-preserved
loop-index-preserved c =
    let net = c.args.net.now in
    let now = c.loop-index.net in
    let one = c.group_test.new.net in
    let new = c.write_where_both.new.net in
    let group = c.args.group.now in
    let marks = c.args.marks.now in
    let put = c.args.shared.written in
    let i = c.loop-index.index in
    let w = width_at net put in
    let inv = c.loop-index.invariant in
    let first = c.in_ok-test.ensures.adds in
    let second = c.in_ok-write_where_both.ensures.adds in
    let more = adds_on now one new first second in
    let early = adds_on net now one inv.adds first in
    let wide = early.keeps.widths put c.requires.shared.0.0 in
    let few : i % 16 < 16 = omega arith in
    let mark_own = mark_here net marks (i % 16) _ c.requires.marks c.requires.sixteen few refl in
    let P : ℕ → Type 0 = λ v. AreNodesOf new v c.write_where_both.new.words in
    record {
      adds = adds_on net now new inv.adds more;
      asked = asked_on net now new group c.args.asked more inv.adds c.requires.addr c.requires.enable inv.asked;
      there = subst P wide c.in_ok-write_where_both.ensures.there;
      test_there = node_on one new 1 _ second c.in_ok-test.ensures.there;
      test = λ g given other.
          let same : (i + 1) / 16 ≡ i / 16 = omega (arith, other) in
          value_on one new g _ second c.in_ok-test.ensures.there.0
          ∙ c.in_ok-test.ensures.value g (given_on net now g inv.adds given)
          ∙ (λ k. bit (value_on net now g group.enable inv.adds c.requires.enable.0 k == 1
          && value_on net now g group.addr inv.adds c.requires.addr k == sym same k));
      value = λ g mask number place given s few_places tell.
          let nums = numbers_of net g c.args.words.now in
          let e = value_at net g group.enable in
          let a = value_at net g group.addr in
          let test_is =
          c.in_ok-test.ensures.value g (given_on net now g inv.adds given)
          ∙ (λ k. bit (value_on net now g group.enable inv.adds c.requires.enable.0 k == 1
          && value_on net now g group.addr inv.adds c.requires.addr k == i / 16)) in
          let mark_is : value_at one g (slice_index marks (i % 16)) ≡ bit (place == i % 16) =
          value_on net one g (slice_index marks (i % 16)) early mark_own.0
          ∙ tell (i % 16) (omega (arith, few, c.requires.sixteen)) in
          c.in_ok-write_where_both.ensures.value g mask number
          (share_on net one g mask number put c.args.shared.kept early c.requires.shared s)
          ∙ (λ k. written (wide k)
          ((numbers_on now one w g c.loop-index.words first inv.there
          ∙ inv.value g mask number place given s few_places tell) k)
          (bit_and (test_is k) (mark_is k)) i mask number)
          ∙ ap (λ b. written w (so_far w nums e (a * 16 + place) mask number i) b i mask number)
          (grouped e a place i few_places)
          ∙ one_more w nums e (a * 16 + place) mask number i
          ∙ ap (so_far w nums e (a * 16 + place) mask number) (sym (add-one i));
    }

pub returns-clause-value : goal.returns-clause-value
returns-clause-value c = λ g mask number place given s few tell below.
    let net = c.args.net.now in
    let group = c.args.group.now in
    let w = width_at net c.args.shared.written in
    let nums = numbers_of net g c.args.words.now in
    let a = value_at net g group.addr * 16 + place in
    let i = c.loop-index.index in
    let long : length nums ≡ length c.args.words.now = length-map c.args.words.now (value_at net g) in
    let reached : i < length nums → a < i =
    λ k.
    let less : c.args.most < length c.args.words.now = omega (arith, k, long, c.loop-index-test.false) in
    omega (arith, below less, c.loop-index-test.false) in
    c.loop-index.invariant.value g mask number place given s few tell
    ∙ all_so_far w nums (value_at net g group.enable) a mask number i reached
