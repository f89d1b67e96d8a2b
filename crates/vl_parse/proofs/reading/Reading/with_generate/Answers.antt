use Rattle.std.proofs.Common.{◌+◌, sym, subst}
use Rattle.vl_tree.specs.declared.item.RegionMark.TheVariants as mark
use Rattle.vl_tree.specs.Phrase.{Spells}
use Rattle.vl_tree.specs.Item.{items, generate}
use Rattle.vl_tree.specs.ItemSpelling.{spell_all}
use Rattle.vl_parse.specs.Items.{AreOpen}
use Rattle.vl_parse.proofs.ItemsSpelled.{items_pushed, with_generate_open}
use Rattle.vl_parse.proofs.reading.Reading.with_generate.Goals as goal

pub returns-clause-found : goal.returns-clause-found
returns-clause-found c start middle rest h i =
    subst (λ xs. Spells (spell_all (items xs)) start rest) (sym c.in_ok-add.ensures.added)
    (items_pushed c.args.self.all (generate c.args.attributes c.args.pos mark.Open) start middle rest h i)

pub returns-clause-formed : goal.returns-clause-formed
returns-clause-formed c =
    subst (λ n. AreOpen c.add.new.items n) (sym c.in_ok-regions.ensures.more)
    (subst (λ xs. AreOpen xs (c.args.self.regions + 1)) (sym c.in_ok-add.ensures.added)
    (with_generate_open c.args.self.all c.args.attributes c.args.pos c.args.self.regions c.requires.formed
    c.requires.attributes))
