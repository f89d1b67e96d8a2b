use Rattle.std.specs.Prelude.{◌==◌, if◌then◌else◌}
use Rattle.std.proofs.Common.{◌∙◌}
use Rattle.fv_bits.specs.Bits as bits
use Rattle.wn_net.specs.Net.{value_at}
use Rattle.wn_net.proofs.Laws.{node_on, adds_on, built_node}
use Rattle.rv_words.proofs.WordLemmas.{word_below}
use Rattle.rv_rows.proofs.DivisionLemmas.{bit_divided}
use Rattle.rv_rows.proofs.division.divide_bit.Goals as goal

pub returns-clause-value : goal.returns-clause-value
returns-clause-value c = λ g given some divided.
    let a = c.args.a in
    let b = c.args.b in
    let old = c.args.net.now in
    let whole = c.width.ensures.whole in
    let number = c.in_ok-number.ensures in
    let divisor = c.in_ok-divisor.ensures.built in
    let fits = c.in_ok-fits.ensures in
    let rest = c.in_ok-rest.ensures in
    let quotient = c.in_ok-quotient.ensures in
    let given1 = number.adds.keeps.given g given in
    let given2 = divisor.adds.keeps.given g given1 in
    let given3 = fits.adds.keeps.given g given2 in
    let given4 = rest.adds.keeps.given g given3 in
    let n = c.in_ok-number.number in
    let d = c.in_ok-divisor.divisor in
    let f = c.in_ok-fits.fits in
    let r = c.in_ok-rest.rest in
    let q = c.args.old.quotient in
    let n2 = divisor.adds.keeps.values g n number.shows.node.0 in
    let n3 = fits.adds.keeps.values g n (node_on _ _ 33 n divisor.adds number.shows.node).0 in
    let d3 = fits.adds.keeps.values g d (built_node _ _ _ _ _ _ divisor).0 in
    let all = adds_on _ _ _ number.adds (adds_on _ _ _ divisor.adds (adds_on _ _ _ fits.adds rest.adds)) in
    bit_divided (value_at old g a) (value_at old g b) c.args.at (value_at old g q) (value_at old g c.args.old.rest)
    (value_at c.zext.new.self g n) (value_at c.zext.new.self g d) (value_at c.fits.new.net g f)
    (value_at c.appended.new.net g r) (value_at c.appended.new.net g c.in_ok-quotient.quotient)
    (word_below old g a whole given c.requires.left) (word_below old g b whole given c.requires.right) some divided
    (n2 ∙ number.shows.value g given)
    (divisor.value g ∙ number.adds.keeps.values g b c.requires.right.0)
    (fits.shows.value g given2)
    (quotient.adds.keeps.values g r rest.shows.node.0 ∙ rest.shows.value g given3
    ∙ (λ i. bits.part 0 32 (if value_at c.fits.new.net g f == 1
    then bits.difference 33 (n3 i) (d3 i) else n3 i)))
    (quotient.shows.value g given4
    ∙ (λ i. bits.joined 1 (bits.part 0 31 (all.keeps.values g q c.requires.division.quotient.0 i))
    (rest.adds.keeps.values g f fits.shows.node.0 i)))
