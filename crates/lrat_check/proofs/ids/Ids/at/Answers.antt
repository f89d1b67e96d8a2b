use Rattle.std.proofs.Common.{ap, sym, ◌∙◌, arith}
use Rattle.std.proofs.lemmas.List.{get_or_read}
use Rattle.std.specs.Prelude.{length, ◌-◌, ◌<◌}
use Rattle.lrat_check.specs.Store.{number_at}
use Rattle.lrat_check.proofs.Counted.{many, at_counted, at_other}
use Rattle.lrat_check.proofs.ids.Ids.at.Goals as goal

pub index-requires : goal.index-requires
index-requires c =
    let others = c.self.inside.others.items in
    omega (
      arith,
      c.requires,
      ap length c.self.view_is,
      many c.self.inside.counted others,
      c.self.inside.others.ok.0,
      c.if-place-self.false,
    )

pub returns-then-place-self : goal.returns-then-place-self
returns-then-place-self c =
    sym (at_counted c.self.inside.counted c.self.inside.others.items c.args.place c.if-place-self.true)
    ∙ ap (λ z. number_at z c.args.place) c.self.view_is

pub returns-else-place-self : goal.returns-else-place-self
returns-else-place-self c =
    let counted = c.self.inside.counted in
    let others = c.self.inside.others.items in
    let h : c.args.place - counted < length others =
    omega (arith, c.requires, ap length c.self.view_is, many counted others, c.if-place-self.false) in
    get_or_read others (c.args.place - counted) c.index.result.now h c.index.ensures 0
    ∙ sym (at_other counted others c.args.place c.if-place-self.false)
    ∙ ap (λ z. number_at z c.args.place) c.self.view_is
