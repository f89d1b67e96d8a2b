use Rattle.std.specs.Prelude.{◌/◌, ◌^◌, ◌==◌, if◌then◌else◌}
use Rattle.std.proofs.Common.{arith, ◌∙◌}
use Rattle.wn_net.specs.Net.{value_at}
use Rattle.wn_net.proofs.Laws.{value_on}
use Rattle.wn_mem.proofs.Tree.{narrow, bit_is_one}
use Rattle.wn_mem.proofs.read.where_low.Goals as goal

pub returns-then-width-count-clause-value : goal.returns-then-width-count-clause-value
returns-then-width-count-clause-value c = λ g given.
    narrow c.args.net.now g c.args.addr c.args.count _ c.width.ensures.whole given
    (omega (arith, c.width.ensures.value, c.if-width-count.true))

pub returns-clause-value : goal.returns-clause-value
returns-clause-value c = λ g given.
    let net = c.args.net.now in
    let two = c.is_low.new.net in
    let test = c.in_ok-test.ensures in
    c.in_ok-chosen.ensures.built.value g
    ∙ (λ i. if test.value g given i == 1 then value_on net two g c.args.found test.adds c.requires.found.0 i
    else (value_on net two g c.args.zero test.adds c.requires.zero.there ∙ c.requires.zero.value g) i)
    ∙ bit_is_one (value_at net g c.args.addr / 2 ^ c.args.count == 0) (value_at net g c.args.found) 0
