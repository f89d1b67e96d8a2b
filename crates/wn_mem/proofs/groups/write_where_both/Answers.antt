use Rattle.std.proofs.Common.{◌∙◌}
use Rattle.wn_net.specs.Next.{written}
use Rattle.wn_net.specs.Net.{width_at}
use Rattle.wn_mem.proofs.Tree.{numbers_on}
use Rattle.wn_mem.proofs.After.{share_on}
use Rattle.wn_mem.proofs.groups.write_where_both.Goals as goal

pub returns-clause-value : goal.returns-clause-value
returns-clause-value c = λ g mask number s.
    let net = c.args.net.now in
    let one = c.and.new.self in
    let put = c.args.shared.written in
    let w = width_at net put in
    let built = c.in_ok-both.ensures.built in
    let wide = built.adds.keeps.widths put c.requires.shared.0.0 in
    c.in_ok-write_word.ensures.value g mask number
    (share_on net one g mask number put c.args.shared.kept built.adds c.requires.shared s)
    ∙ (λ i. written (wide i) (numbers_on net one w g c.args.words.now built.adds c.requires.words i)
    (built.value g i) c.args.index mask number)
