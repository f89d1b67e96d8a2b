use Rattle.std.proofs.Common.{◌≡◌, ◌∙◌, ap, List}
use Rattle.std.specs.Prelude.{drop}
use Rattle.std.proofs.lemmas.Result.{IfOk-weaker}
use Rattle.vl_mean.specs.ConstantFaults.{capped}
use Rattle.vl_mean.specs.Declarations.{declared_by}
use Rattle.vl_mean.specs.FlatLaw.{all_names_count}
use Rattle.vl_mean.specs.Scopes.{Scope}
use Rattle.vl_elab_const.specs.Numbers.{HaveNumbers}
use Rattle.vl_elab_count.specs.Counts.{item_count}
use Rattle.vl_elab_count.proofs.Numbers.{same_count}
use Rattle.vl_elab_count.proofs.names.declared_names.Goals as goal

pub returns-clause-count : goal.returns-clause-count
returns-clause-count c =
    let ns = drop 1 c.args.numbers.now in
    let x = c.args.item.now in
    IfOk-weaker c.item_names.result (λ n. n ≡ capped (item_count ns x))
    (λ n. (ss : List Scope) → HaveNumbers ns ss → n ≡ capped (all_names_count (declared_by ss x)))
    (λ n h ss agree. h ∙ ap capped (same_count ns ss agree x)) c.item_names.ensures.count
