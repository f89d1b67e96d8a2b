use Rattle.std.proofs.Common.{◌∙◌, ap}
use Rattle.vl_mean.specs.Constants.{constant_of}
use Rattle.vl_elab_draft.specs.Kept.{constants_from}
use Rattle.vl_elab_draft.proofs.Tables.{ok_added, err_added}
use Rattle.vl_elab_draft.proofs.full_constants.ConstantTable.add.Goals as goal

pub add_among-requires-clause-fresh : goal.add_among-requires-clause-fresh
add_among-requires-clause-fresh c = ap (λ cs. constant_of cs c.args.name) c.self.view_is ∙ c.requires

pub returns-clause-ok : goal.returns-clause-ok
returns-clause-ok c =
    ok_added c.add_among.result (constants_from c.self.inside.leading c.self.inside.others.entries) c.args.self.now
    (constants_from c.add_among.new.leading c.add_among.new.others.entries) c.args.name c.args.value c.self.view_is
    c.add_among.ensures.ok

pub returns-clause-err : goal.returns-clause-err
returns-clause-err c =
    err_added c.add_among.result (constants_from c.self.inside.leading c.self.inside.others.entries) c.args.self.now
    (constants_from c.add_among.new.leading c.add_among.new.others.entries) c.self.view_is c.add_among.ensures.err
