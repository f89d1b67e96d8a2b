use Rattle.std.proofs.Common.{◌≡◌, sym, ap, subst}
use Rattle.vl_tree.specs.Phrase.{Spells}
use Rattle.vl_parse_grammar.specs.Machine.{then}
use Rattle.vl_parse.specs.Items.{spell_front, behind_front, still}
use Rattle.vl_parse.proofs.ItemsSpelled.{still_opened}
use Rattle.vl_parse.proofs.reading.Reading.with_front.Goals as goal

pub returns-in_ok-reading-in-Item-clause-found : goal.returns-in_ok-reading-in-Item-clause-found
returns-in_ok-reading-in-Item-clause-found c start middle rest h i =
    c.in_ok-reading-in-Item.ensures.found start middle rest h
    (subst (λ front. Spells (spell_front front) middle rest) c.in-Item.is i)

pub returns-in_ok-reading-in-Item-clause-goes : goal.returns-in_ok-reading-in-Item-clause-goes
returns-in_ok-reading-in-Item-clause-goes c outer room ts =
    let regions = c.args.self.regions in
    let after = c.in_ok-reading-in-Item.reading.regions in
    subst (λ front. then (behind_front front room ts) (λ r. still regions outer room r) ≡ still after outer room ts)
    (sym c.in-Item.is)
    (ap (λ m. still m outer room ts) (sym c.in_ok-reading-in-Item.ensures.regions))

pub returns-in_ok-reading-in-Generate-clause-found : goal.returns-in_ok-reading-in-Generate-clause-found
returns-in_ok-reading-in-Generate-clause-found c start middle rest h i =
    c.in_ok-reading-in-Generate.ensures.found start middle rest h
    (subst (λ front. Spells (spell_front front) middle rest) c.in-Generate.is i)

pub returns-in_ok-reading-in-Generate-clause-goes : goal.returns-in_ok-reading-in-Generate-clause-goes
returns-in_ok-reading-in-Generate-clause-goes c outer room ts =
    let regions = c.args.self.regions in
    let after = c.in_ok-reading-in-Generate.reading.regions in
    subst (λ front. then (behind_front front room ts) (λ r. still regions outer room r) ≡ still after outer room ts)
    (sym c.in-Generate.is)
    (still_opened regions after outer room ts c.in_ok-reading-in-Generate.ensures.regions)
