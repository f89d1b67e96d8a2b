use Rattle.std.proofs.Common.{◌&&◌, ◌==◌, ◌+◌, not, ◌∙◌, rules, tests}
use Rattle.std.proofs.lemmas.Iterator.Adapters.{YieldsList-from_rev_slice}
use Rattle.std.proofs.lemmas.Iterator.Search.{find_from_yields_List}
use Rattle.ck_spec.specs.Lists.{is_earlier}
use Rattle.ck_props.proofs.history.last_behind.Goals as goal

pub returns : goal.returns
returns c = c.copied.ensures
    ∙ find_from_yields_List (λ r. is_earlier c.args.check.now r && (not r.retire.intr && r.retire.order == c.args.order + 1)) _ _ c.find.result c.find.ensures.ran
    (YieldsList-from_rev_slice c.args.retires.now (cc)) (λ x b q k. search (rules, tests))
