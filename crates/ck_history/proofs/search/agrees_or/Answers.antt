use Rattle.std.specs.Prelude.{◌≡◌, ◌==◌, if◌then◌else◌}
use Rattle.std.proofs.Common.{ap, ◌∙◌}
use Rattle.wn_net.specs.Net.{value_at}
use Rattle.wn_net.proofs.Laws.{adds_on, given_on}
use Rattle.ck_history.specs.Truths.{is_one}
use Rattle.ck_history.proofs.Laws.{told, told_on, one_on}
use Rattle.ck_history.specs.Entries.{entry_at}
use Rattle.ck_history.proofs.Entries.{entry_on}
use Rattle.ck_history.specs.Searches.{is_sought, agrees}
use Rattle.ck_history.proofs.Found.{chosen_is}
use Rattle.ck_history.proofs.search.agrees_or.Goals as goal

pub returns-clause-tells : goal.returns-clause-tells
returns-clause-tells c = λ g e given entry show.
    let old = c.args.net.now in
    let one = c.unpack.new.net in
    let two = c.is_sought.new.net in
    let three = c.agrees.new.net in
    let opened = c.in_ok-entry.ensures in
    let found = c.in_ok-found.ensures in
    let answer = c.in_ok-answer.ensures in
    let own = c.args.own in
    let s = c.args.sought in
    let to_two = adds_on old one two opened.adds found.adds in
    let to_three = adds_on old two three to_two answer.adds in
    let given1 = given_on old one g opened.adds given in
    let given2 = given_on old two g to_two given in
    let entry_is : entry_at one g c.in_ok-entry.entry ≡ e = opened.value g e entry show in
    let found_is : is_one three g c.in_ok-found.found ≡ is_sought s (entry_at old g own) e =
    told_on one two three _ c.in_ok-found.found g found.tells answer.adds given1
    ∙ (λ i. is_sought s (entry_on old one g own opened.adds c.requires.own i) (entry_is i)) in
    let answer_is : is_one three g c.in_ok-answer.answer ≡ agrees s.word (entry_at old g own) e =
    told two three _ c.in_ok-answer.answer g answer.tells given2
    ∙ (λ i. agrees s.word (entry_on old two g own to_two c.requires.own i)
    ((entry_on one two g c.in_ok-entry.entry found.adds opened.nodes ∙ entry_is) i)) in
    ap (λ n. n == 1) (c.in_ok-id.ensures.built.value g)
    ∙ chosen_is (is_one three g c.in_ok-found.found) (value_at three g c.in_ok-answer.answer)
    (value_at three g c.args.rest)
    ∙ (λ i. if found_is i then answer_is i else one_on old three g c.args.rest to_three c.requires.rest.0 i)
