use Rattle.std.specs.Prelude.{◌||◌, not}
use Rattle.std.proofs.Common.{◌∙◌}
use Rattle.wn_net.proofs.Laws.{adds_on, given_on}
use Rattle.ck_history.proofs.Laws.{told, told_on}
use Rattle.ck_history.proofs.Entries.{entry_on, show_on}
use Rattle.ck_history.specs.Searches.{first_agrees}
use Rattle.ck_gen.specs.Kept.{sought_next}
use Rattle.ck_gen.proofs.around.is_followed.Goals as goal

pub returns-clause-tells : goal.returns-clause-tells
returns-clause-tells c = λ g es given show.
    let old = c.args.net.now in
    let one = c.is_last.new.net in
    let two = c.has_next.new.net in
    let last = c.in_ok-last.ensures in
    let next = c.in_ok-next.ensures in
    told two c.either.new.net _ c.in_ok-id.id g c.in_ok-id.ensures.tells
    (given_on old two g (adds_on old one two last.adds next.adds) given)
    ∙ (λ i. told_on old one two _ c.in_ok-last.last g last.tells next.adds given i
    || (next.tells g es (given_on old one g last.adds given)
    (show_on old one 102 g c.args.words.now es last.adds c.requires.words show)
    ∙ (λ j. not (first_agrees sought_next (entry_on old one g c.args.own last.adds c.requires.own j) es))) i)
