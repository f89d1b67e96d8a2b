use Rattle.std.specs.Prelude.{◌&&◌}
use Rattle.std.proofs.Common.{◌∙◌}
use Rattle.wn_net.proofs.Laws.{adds_on, given_on}
use Rattle.ck_history.proofs.Laws.{told, one_on}
use Rattle.ck_history.proofs.Entries.{entry_on, show_on}
use Rattle.ck_history.specs.Searches.{first_agrees}
use Rattle.ck_gen.specs.Kept.{sought_same}
use Rattle.ck_gen.proofs.around.has_own_order.Goals as goal

pub returns-clause-tells : goal.returns-clause-tells
returns-clause-tells c = λ g es fs given front back.
    let old = c.args.net.now in
    let one = c.first_agrees.new.net in
    let two = c.first_agrees-2.new.net in
    let behind = c.in_ok-behind.ensures in
    let before = c.in_ok-before.ensures in
    told two c.both.new.net _ c.in_ok-id.id g c.in_ok-id.ensures.tells
    (given_on old two g (adds_on old one two behind.adds before.adds) given)
    ∙ (λ i. (one_on one two g c.in_ok-behind.behind before.adds behind.there.0 ∙ behind.tells g es given front) i
    && (before.tells g fs (given_on old one g behind.adds given)
    (show_on old one 102 g c.args.back.now fs behind.adds c.requires.back back)
    ∙ (λ j. first_agrees sought_same (entry_on old one g c.args.own behind.adds c.requires.own j) fs)) i)
