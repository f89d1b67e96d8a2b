use Rattle.std.specs.Prelude.{◌≡◌}
use Rattle.std.proofs.Common.{ap, sym, ◌∙◌}
use Rattle.fv_bits.specs.Bits.{extended}
use Rattle.vl_tree.specs.declared.stmt.CaseKind.TheVariants as case_kind
use Rattle.vl_tree.specs.Expr.{number}
use Rattle.vl_tree.specs.ExprView.{shown}
use Rattle.vl_mean.specs.Execution.{wild_bits}
use Rattle.wn_net.proofs.Laws.{given_on}
use Rattle.vl_lower_stmt.proofs.Wild.{no_wild}
use Rattle.vl_lower_stmt.proofs.labels.question_marks.Goals as goal

pub returns-in_ok-fitted-in-Number-clause-value : goal.returns-in_ok-fitted-in-Number-clause-value
returns-in_ok-fitted-in-Number-clause-value c = λ g given.
    let w = c.args.context.width in
    let s = c.args.context.signed in
    let one = c.in_ok-wild-in-Number.ensures in
    let two = c.in_ok-fitted-in-Number.ensures in
    let whole : number c.label.inside.pos c.in-Number.value ≡ c.args.label.now =
    ap (shown c.label.inside.pos) (sym c.in-Number.is) ∙ c.label.view_is in
    two.shows.value g (given_on _ _ g one.adds given)
    ∙ (λ i. extended (one.shows.node.1 i) w s (one.shows.value g given i))
    ∙ ap (wild_bits case_kind.Casez w s) whole

pub returns-in_default-clause-value : goal.returns-in_default-clause-value
returns-in_default-clause-value c = λ g given.
    let w = c.args.context.width in
    let s = c.args.context.signed in
    no_wild c.label.inside.pos c.label.inside.kind w s c.in_default.not-Number
    ∙ ap (wild_bits case_kind.Casez w s) c.label.view_is
