use Rattle.std.specs.Prelude.{◌≡◌, ◌+◌, ◌*◌}
use Rattle.std.proofs.Common.{arith, ap, ◌∙◌}
use Rattle.std.proofs.lemmas.List.{length-take-le}
use Rattle.fv_bits.specs.Bits.{low}
use Rattle.wn_net.specs.Value.{word_at}
use Rattle.wn_net.specs.Net.{value_at, width_at}
use Rattle.wn_net.proofs.Laws.{given_on}
use Rattle.wn_mem.specs.Words.{numbers_of, number_of}
use Rattle.wn_mem.proofs.Tree.{numbers_on}
use Rattle.wn_mem.proofs.read.word_by_bits.Goals as goal

pub returns-clause-value : goal.returns-clause-value
returns-clause-value c = λ g given.
    let net = c.args.net.now in
    let one = c.address_bits.new.net in
    let bits = c.in_ok-address_bits.ensures in
    let w = width_at net c.args.zero in
    let m = number_of (numbers_of one g c.address_bits.new.bits) in
    let alone : m * 1 + 0 ≡ m = omega arith in
    let m_is : m ≡ low c.args.count (value_at net g c.args.addr) =
    bits.value g ∙ ap (λ k. low k (value_at net g c.args.addr))
    (length-take-le c.args.count _ (omega (arith, c.requires.few))) in
    c.in_ok-found.ensures.value g 0 (given_on net one g bits.adds given) (omega arith)
    (λ i below. absurd (omega (arith, below)))
    ∙ (λ i. word_at (numbers_on net one w g c.args.words.now bits.adds c.requires.words i) ((alone ∙ m_is) i))
