use Rattle.std.proofs.Common.{◌-◌, [], ◌∷◌, ◌++◌, sym, ◌∙◌, ap, subst}
use Rattle.vl_tree.specs.Phrase.{Spells}
use Rattle.vl_tree.specs.Item.{items}
use Rattle.vl_tree.specs.ItemSpelling.{spell_all}
use Rattle.vl_parse.specs.Items.{AreOpen}
use Rattle.vl_parse.proofs.ItemsSpelled.{closed_found, closed_open}
use Rattle.vl_parse.proofs.reading.Reading.closed.Goals as goal

pub returns-clause-found : goal.returns-clause-found
returns-clause-found c start middle rest h here i =
    subst (λ xs. Spells (spell_all (items xs)) start rest)
    (sym (c.in_ok-add.ensures.added ∙ ap (λ x. c.args.self.all ++ x ∷ []) c.bare.ensures))
    (closed_found c.args.self.all c.args.pos start middle rest h here i)

pub returns-clause-formed : goal.returns-clause-formed
returns-clause-formed c =
    subst (λ xs. AreOpen xs (c.args.self.regions - 1))
    (sym (c.in_ok-add.ensures.added ∙ ap (λ x. c.args.self.all ++ x ∷ []) c.bare.ensures))
    (closed_open c.args.self.all c.args.pos c.args.self.regions c.requires.formed c.requires.within)
