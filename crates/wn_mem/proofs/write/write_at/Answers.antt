use Rattle.std.proofs.Common.{◌∙◌}
use Rattle.wn_net.specs.Next.{written}
use Rattle.wn_net.specs.Net.{width_at}
use Rattle.wn_mem.proofs.Tree.{numbers_on}
use Rattle.wn_mem.proofs.After.{share_on}
use Rattle.wn_mem.proofs.write.write_at.Goals as goal

pub returns-clause-value : goal.returns-clause-value
returns-clause-value c = λ g mask number given s.
    let net = c.args.net.now in
    let one = c.acts_on.new.net in
    let put = c.args.shared.written in
    let w = width_at net put in
    let first = c.in_ok-acts.ensures.adds in
    let wide = first.keeps.widths put c.requires.shared.0.0 in
    c.in_ok-write_word.ensures.value g mask number
    (share_on net one g mask number put c.args.shared.kept first c.requires.shared s)
    ∙ (λ i. written (wide i) (numbers_on net one w g c.args.words.now first c.requires.words i)
    (c.in_ok-acts.ensures.value g given i) c.args.index mask number)
