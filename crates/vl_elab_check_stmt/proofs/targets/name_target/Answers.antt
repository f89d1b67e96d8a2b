use Rattle.std.proofs.Common.{ap, ◌∙◌, refl}
use Rattle.std.specs.Prelude.{Some, None, false}
use Rattle.vl_tree.specs.ExprView.{selects}
use Rattle.vl_tree.specs.Lval.{named}
use Rattle.vl_elab_spec.specs.declared.elab_fault.ElabFault.TheVariants as f
use Rattle.vl_elab_spec.specs.Expressions.{too_wide}
use Rattle.vl_elab_spec.specs.Meanings.{undeclared}
use Rattle.vl_elab_spec.specs.Refused.{lower_of, lowest}
use Rattle.vl_elab_spec.specs.Statements.{assigned_refusals, target_selects}
use Rattle.vl_elab_scope.specs.Seen.{seen}
use Rattle.vl_elab_check_stmt.proofs.TargetParts.{last_none, target_is}
use Rattle.vl_elab_check_stmt.proofs.targets.name_target.Goals as goal

pub returns-in_ok-fault-in-Some-clause-fault : goal.returns-in_ok-fault-in-Some-clause-fault
returns-in_ok-fault-in-Some-clause-fault c =
    let ns = c.args.names.now in
    let text = c.args.text.now in
    let m = seen c.in-Some.meaning.now in
    let taken = lowest (assigned_refusals ns c.args.continuous c.args.pos text m) in
    let chosen = lowest (target_selects ns c.args.pos m (named c.args.pos text (selects c.args.all.now))) in
    let wide = lowest (too_wide c.args.pos c.in_ok-width-in-Some.width) in
    target_is ns c.args.continuous c.args.fixed c.is_constant.result c.either-in-Some.result c.args.pos text
    (selects c.args.all.now) m c.in_ok-inner-in-Some.inner taken chosen c.closed-in-Some.result.fault
    c.in_ok-place.place c.in_ok-width-in-Some.width c.in-Some.ensures.value (c.is_constant.ensures ns)
    c.either-in-Some.ensures c.in_ok-inner-in-Some.ensures c.in_ok-place.ensures refl refl
    c.in_ok-width-in-Some.ensures
    (c.closed-in-Some.ensures.fault ∙ ap (λ g. lower_of g wide) c.in_ok-fault-in-Some.ensures
    ∙ ap (λ g. lower_of (lower_of (lower_of g taken) chosen) wide) c.with_division-divided-in-Some.ensures)

pub returns-in_ok-inner-in-None-clause-fault : goal.returns-in_ok-inner-in-None-clause-fault
returns-in_ok-inner-in-None-clause-fault c =
    let unknown = Some (f.Unknown c.in_ok-unknown-in-None.unknown c.args.pos) in
    let wide = lowest (too_wide c.args.pos None) in
    target_is c.args.names.now c.args.continuous c.args.fixed false c.either.result c.args.pos c.args.text.now
    (selects c.args.all.now) undeclared c.in_ok-inner-in-None.inner unknown None c.closed.result.fault
    c.in_ok-place.place None c.in-None.ensures.value refl c.either.ensures c.in_ok-inner-in-None.ensures
    c.in_ok-place.ensures (ap (λ t. Some (f.Unknown t c.args.pos)) c.in_ok-unknown-in-None.ensures) refl refl
    (c.closed.ensures.fault ∙ ap (λ g. lower_of g wide) (c.first_of.ensures
    ∙ ap (λ g. lower_of g unknown) c.with_division-divided.ensures ∙ last_none _))
