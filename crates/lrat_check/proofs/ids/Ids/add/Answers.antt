use Rattle.std.proofs.Common.{◌∷◌, ◌++◌, [], ap, sym, ◌∙◌, arith, vec_len}
use Rattle.lrat_check.proofs.Counted.{empty, counted_more}
use Rattle.lrat_check.proofs.ids.Ids.add.Goals as goal

pub returns-then-id-self-clause-ok : goal.returns-then-id-self-clause-ok
returns-then-id-self-clause-ok c =
    let others = c.self.inside.others.items in
    counted_more c.self.inside.counted c.args.id others
    (empty others (vec_len c.self.inside.others) c.self.inside.others.ok.0
    (sym c.is_empty.ensures ∙ c.if-is_empty.true))
    (omega (arith, c.if-id-gt0.true, c.if-id-self.true))
    ∙ ap (λ z. z ++ c.args.id ∷ []) c.self.view_is
