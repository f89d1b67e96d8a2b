use Rattle.std.specs.Prelude.{◌≡◌, ◌+◌, ◌-◌, ◌*◌, ◌^◌, ◌<◌, length}
use Rattle.std.proofs.Common.{arith, ap, sym, ◌∙◌}
use Rattle.std.proofs.lemmas.List.{length-take-le}
use Rattle.std.proofs.lemmas.Nat.{mod_below, pow_pos, pow-add}
use Rattle.fv_bits.specs.Bits.{low, part}
use Rattle.wn_net.specs.Value.{word_at}
use Rattle.wn_net.specs.Net.{value_at, width_at}
use Rattle.wn_net.proofs.Laws.{given_on, adds_on, value_on}
use Rattle.wn_mem.specs.Words.{apart, numbers_of, number_of}
use Rattle.wn_mem.proofs.Tree.{numbers_on}
use Rattle.wn_mem.proofs.Telling.{tell_on, lowest_four}
use Rattle.wn_mem.proofs.read.word_by_groups.Goals as goal

pub word_among-requires-clause-enough : goal.word_among-requires-clause-enough
word_among-requires-clause-enough c =
    let k = c.args.count - 4 in
    let bits = c.address_bits.new.bits in
    let long : length bits ≡ k =
    c.in_ok-address_bits.ensures.long ∙ length-take-le k _ (omega (arith, c.requires.few)) in
    let e : k + 4 ≡ c.args.count = omega (arith, c.requires.more) in
    let whole : 2 ^ c.args.count ≡ 2 ^ k * 2 ^ 4 = ap (λ n. 2 ^ n) (sym e) ∙ pow-add 2 k 4 in
    let sixteen : apart c.mark_nodes.new.marks ≡ 16 = omega (arith, c.in_ok-mark_nodes.ensures.long) in
    let same : 2 ^ length bits * apart c.mark_nodes.new.marks ≡ 2 ^ k * 16 = (λ i. 2 ^ long i * sixteen i) in
    omega (arith, c.requires.enough, whole, same)

pub returns-clause-value : goal.returns-clause-value
returns-clause-value c = λ g given.
    let net = c.args.net.now in
    let one = c.mark_nodes.new.net in
    let two = c.slice.new.self in
    let three = c.address_bits.new.net in
    let marks = c.in_ok-mark_nodes.ensures in
    let above = c.in_ok-above.ensures.built in
    let bits = c.in_ok-address_bits.ensures in
    let v = value_at net g c.args.addr in
    let k = c.args.count - 4 in
    let w = width_at net c.args.zero in
    let later = adds_on one two three above.adds bits.adds in
    let all = adds_on net one three marks.adds later in
    let sixteen : apart c.mark_nodes.new.marks ≡ 16 = omega (arith, marks.long) in
    let few : low 4 v < 16 = mod_below v 16 (pow_pos 4) in
    let above_is : value_at two g c.in_ok-above.above ≡ part 4 k v =
    above.value g ∙ ap (part 4 k) (value_on net one g c.args.addr marks.adds c.requires.addr) in
    let number_is : number_of (numbers_of three g c.address_bits.new.bits) ≡ low k (part 4 k v) =
    bits.value g
    ∙ ap (λ n. low n (value_at two g c.in_ok-above.above)) (length-take-le k _ (omega (arith, c.requires.few)))
    ∙ ap (low k) above_is in
    c.in_ok-found.ensures.value g (low 4 v) (given_on net three g all given) (omega (arith, few, sixteen))
    (tell_on one three g c.mark_nodes.new.marks (low 4 v) later marks.nodes (marks.value g))
    ∙ (λ i. word_at (numbers_on net three w g c.args.words.now all c.requires.words i)
    (number_is i * sixteen i + low 4 v))
    ∙ ap (word_at (numbers_of net g c.args.words.now)) (lowest_four v c.args.count (omega (arith, c.requires.more)))
