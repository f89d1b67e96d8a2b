use Rattle.std.proofs.Common.{sym, subst}
use Rattle.vl_tree.specs.Phrase.{Spells}
use Rattle.vl_tree.specs.Item.{items}
use Rattle.vl_tree.specs.ItemSpelling.{spell_all}
use Rattle.vl_parse.specs.Items.{AreOpen}
use Rattle.vl_parse.proofs.ItemsSpelled.{items_pushed, with_item_open}
use Rattle.vl_parse.proofs.reading.Reading.with_item.Goals as goal

pub returns-clause-found : goal.returns-clause-found
returns-clause-found c start middle rest h i =
    subst (λ xs. Spells (spell_all (items xs)) start rest) (sym c.in_ok-add.ensures.added)
    (items_pushed c.args.self.all c.args.item start middle rest h i)

pub returns-clause-formed : goal.returns-clause-formed
returns-clause-formed c =
    subst (λ xs. AreOpen xs c.args.self.regions) (sym c.in_ok-add.ensures.added)
    (with_item_open c.args.self.all c.args.item c.args.self.regions c.requires.formed c.requires.unmarked
    c.requires.item)
