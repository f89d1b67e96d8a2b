use Rattle.std.specs.Prelude.{◌≡◌}
use Rattle.std.proofs.Common.{◌∙◌}
use Rattle.fv_bits.specs.Bits.{sum}
use Rattle.wn_net.specs.Net.{value_at, width_at}
use Rattle.wn_net.proofs.Laws.{built_node, value_on}
use Rattle.wn_net.proofs.Moved.{value_within}
use Rattle.ck_history.proofs.Laws.{next_is}
use Rattle.ck_history.proofs.test.successor.Goals as goal

pub returns-clause-shows : goal.returns-clause-shows
returns-clause-shows c =
    let net = c.args.net.now in
    let wide = c.in_ok-wide.ensures.built in
    let one = c.in_ok-one.ensures.built in
    let id = c.in_ok-id.ensures.built in
    let own = built_node _ _ _ _ _ _ wide in
    let width : width_at c.konst.new.self c.in_ok-wide.wide ≡ 65 =
    one.adds.keeps.widths c.in_ok-wide.wide own.0 ∙ own.1 in
    record {
      node = ((built_node _ _ _ _ _ _ id).0, id.width ∙ width);
      value = λ g given.
          id.value g
          ∙ (λ i. sum (width i) ((value_on _ _ g c.in_ok-wide.wide one.adds own.0 ∙ wide.value g) i)
          ((one.value g ∙ c.in-Some.ensures.value) i))
          ∙ next_is (value_at net g c.args.order)
          (value_within net g 64 c.args.order c.width.ensures.whole given c.requires);
    }
