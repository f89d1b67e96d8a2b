use Rattle.std.proofs.Common.{◌≡◌, ◌+◌, ◌≤◌, ◌++◌, ◌∷◌, [], length, drop, take, ap, sym, ◌∙◌, subst, arith, rules}
use Rattle.std.proofs.Common.{None, Some}
use Rattle.std.specs.Prelude.{max}
use Rattle.std.proofs.lemmas.Grind.{common_steps}
use Rattle.std.proofs.lemmas.List.{take_all}
use Rattle.vl_tree.specs.declared.stmt.StmtKind.TheVariants as k
use Rattle.vl_tree.specs.Stmt.{begin, if_only, if_else, case, assign, assume, empty, stmts, no_arms}
use Rattle.vl_tree.specs.StmtView.{arms, shown, with_arm}
use Rattle.vl_mean.specs.Execution.{arms_size}
use Rattle.vl_mean.specs.FlatLaw.{flat_scopes}
use Rattle.vl_flow_spec.specs.Assigned.{all_assigned_names, arms_assigned_names, assigned_names}
use Rattle.vl_flow_spec.specs.Paths.{any_kind}
use Rattle.vl_flow_spec.specs.Weight.{arms_weight}
use Rattle.vl_flow_spec.specs.Weight.{labels_weight, own_size, stmt_weight, stmts_weight, weight}
use Rattle.vl_mean.specs.ConstantFaults.{capped}
use Rattle.vl_flow_order.specs.Sets.{some_has}
use Rattle.vl_flow_weight.proofs.Operands.{own_gates}
use Rattle.vl_flow_weight.specs.Branches.{IsBranchOf}
use Rattle.vl_flow_order.specs.Names.{AreNames}
use Rattle.vl_flow_weight.proofs.Adding.{Sums, sum_begun, sum_done, sum_more}
use Rattle.vl_flow_order.proofs.Naming.{arms_behind, no_sets_named, same_named, set_behind, stmts_behind}
use Rattle.vl_flow_weight.proofs.Statements.{arm_first, case_bits, case_branch, else_branch, labels_branch}
use Rattle.vl_flow_weight.proofs.stmt.+branch.Goals as goal

pub stmt_branch-returns-in_ok-sequence_branch-in-Begin : goal.stmt_branch-returns-in_ok-sequence_branch-in-Begin
stmt_branch-returns-in_ok-sequence_branch-in-Begin t c =
    let ds = c.args.decls.now in
    let a = c.stmt.inside.attributes in
    let p = c.stmt.inside.pos in
    let xs = c.in-Begin.all in
    let made = c.in_ok-sequence_branch-in-Begin.field-0 in
    let slice : c.as_slice.result.now ≡ xs = search rules in
    let same : begin a p c.in-Begin.field-0 (stmts xs) ≡ c.args.stmt.now =
    ap (shown a p) (sym c.in-Begin.is) ∙ c.stmt.view_is in
    subst (λ s. IsBranchOf ds (stmt_weight ds s) (assigned_names any_kind s) made) same
    (subst (λ ys. IsBranchOf ds (stmts_weight ds (stmts ys)) (all_assigned_names any_kind (stmts ys)) made) slice
    c.in_ok-sequence_branch-in-Begin.ensures)

pub stmt_branch-returns-in_ok-first-in-If-default-default-None :
    goal.stmt_branch-returns-in_ok-first-in-If-default-default-None
stmt_branch-returns-in_ok-first-in-If-default-default-None t c =
    let ds = c.args.decls.now in
    let a = c.stmt.inside.attributes in
    let p = c.stmt.inside.pos in
    let e = c.in-If-default-default-None.condition in
    let x = c.in-If-default-default-None.first.value in
    let one = c.in_ok-first-in-If-default-default-None.first in
    let made = c.merged.result in
    let inner : c.deref.result.now ≡ x = search rules in
    let kind : c.stmt.inside.kind ≡ k.If e c.in-If-default-default-None.first None = search rules in
    let same : if_only a p e x ≡ c.args.stmt.now = ap (shown a p) (sym kind) ∙ c.stmt.view_is in
    let first = subst (λ y. IsBranchOf ds (stmt_weight ds y) (assigned_names any_kind y) one) inner
    c.in_ok-first-in-If-default-default-None.ensures in
    subst (λ s. IsBranchOf ds (stmt_weight ds s) (assigned_names any_kind s) made) same
    (c.merged.ensures (weight ds (own_size ds e) e) (stmt_weight ds x) (assigned_names any_kind x)
    (own_gates ds e c.weigh.result c.own-test.result c.weigh.ensures c.own-test.ensures) first)

pub stmt_branch-returns-in_ok-with-in-If-default-default-Some :
    goal.stmt_branch-returns-in_ok-with-in-If-default-default-Some
stmt_branch-returns-in_ok-with-in-If-default-default-Some t c =
    let ds = c.args.decls.now in
    let a = c.stmt.inside.attributes in
    let p = c.stmt.inside.pos in
    let e = c.in-If-default-default-Some.condition in
    let x = c.in-If-default-default-Some.first.value in
    let y = c.in-If-default-default-Some.second.value in
    let one = c.in_ok-first-in-If-default-default-Some.first in
    let other = c.in_ok-second-in-If-default-default-Some.second in
    let made = c.merged-in-If-default-default-Some.result in
    let inner : c.deref-in-If-default-default-Some.result.now ≡ x = search rules in
    let outer : c.deref-in-If-default-default-Some-2.result.now ≡ y = search rules in
    let tail : c.in-If-default-default-Some.field-2 ≡ Some c.in-If-default-default-Some.second = search rules in
    let kind : c.stmt.inside.kind
    ≡ k.If e c.in-If-default-default-Some.first (Some c.in-If-default-default-Some.second) =
    c.in-If-default-default-Some.is ∙ ap (k.If e c.in-If-default-default-Some.first) tail in
    let same : if_else a p e x y ≡ c.args.stmt.now = ap (shown a p) (sym kind) ∙ c.stmt.view_is in
    let first = subst (λ z. IsBranchOf ds (stmt_weight ds z) (assigned_names any_kind z) one) inner
    c.in_ok-first-in-If-default-default-Some.ensures in
    let second = subst (λ z. IsBranchOf ds (stmt_weight ds z) (assigned_names any_kind z) other) outer
    c.in_ok-second-in-If-default-default-Some.ensures in
    subst (λ s. IsBranchOf ds (stmt_weight ds s) (assigned_names any_kind s) made) same
    (else_branch ds a p e x y made
    (c.merged-in-If-default-default-Some.ensures (weight ds (own_size ds e) e) (stmt_weight ds x + stmt_weight ds y)
    (assigned_names any_kind x ++ assigned_names any_kind y)
    (own_gates ds e c.weigh-in-If-default-default-Some.result c.own-test-in-If-default-default-Some.result
    c.weigh-in-If-default-default-Some.ensures c.own-test-in-If-default-default-Some.ensures)
    (c.in_ok-with-in-If-default-default-Some.ensures ds (stmt_weight ds x) (stmt_weight ds y) (assigned_names any_kind x)
    (assigned_names any_kind y) first second)))

pub stmt_branch-returns-in_ok-arms-in-Case : goal.stmt_branch-returns-in_ok-arms-in-Case
stmt_branch-returns-in_ok-arms-in-Case t c =
    let ds = c.args.decls.now in
    let a = c.stmt.inside.attributes in
    let p = c.stmt.inside.pos in
    let way = c.in-Case.field-0 in
    let e = c.in-Case.expr in
    let xs = c.in-Case.arms in
    let bits = c.max-bits.result in
    let made = c.merged-in-Case.result in
    let inner = c.in_ok-arms-in-Case.arms in
    let one : c.as_slice-in-Case.result.now ≡ xs = search rules in
    let other : c.as_slice-in-Case-2.result.now ≡ xs = search rules in
    let larger : bits ≡ max c.bits_of.result c.arms_bits.result = search rules in
    let same : case a p way e (arms xs) ≡ c.args.stmt.now = ap (shown a p) (sym c.in-Case.is) ∙ c.stmt.view_is in
    let labelled : c.arms_bits.result ≡ arms_size (flat_scopes ds) (arms xs) =
    c.arms_bits.ensures ∙ ap (λ ys. arms_size (flat_scopes ds) (arms ys)) one in
    let wide = case_bits ds e c.weigh-tested.result (arms xs) c.bits_of.result c.arms_bits.result bits
    c.weigh-tested.ensures c.bits_of.ensures labelled larger in
    subst (λ s. IsBranchOf ds (stmt_weight ds s) (assigned_names any_kind s) made) same
    (case_branch ds a p way e (arms xs) bits made wide
    (c.merged-in-Case.ensures (weight ds bits e) (arms_weight ds bits (arms xs)) (arms_assigned_names any_kind (arms xs))
    (c.at.ensures ∙ c.weigh-tested.ensures.gates bits)
    (subst (λ ys. IsBranchOf ds (arms_weight ds bits (arms ys)) (arms_assigned_names any_kind (arms ys)) inner) other
    c.in_ok-arms-in-Case.ensures)))

pub stmt_branch-returns-in-Empty : goal.stmt_branch-returns-in-Empty
stmt_branch-returns-in-Empty t c =
    let ds = c.args.decls.now in
    let a = c.stmt.inside.attributes in
    let p = c.stmt.inside.pos in
    let same : empty a p ≡ c.args.stmt.now = ap (shown a p) (sym c.in-Empty.is) ∙ c.stmt.view_is in
    subst (λ s. IsBranchOf ds (stmt_weight ds s) (assigned_names any_kind s) c.without_names-in-Empty.result) same
    (c.without_names-in-Empty.ensures ds 0 (omega arith))

pub sequence_branch-loop-part-init : goal.sequence_branch-loop-part-init
sequence_branch-loop-part-init t c =
    let ds = c.args.decls.now in record {
      total = sum_begun (stmts_weight ds (stmts c.args.all.now));
      assigned = no_sets_named ds c.new-sets.result.items c.new-sets.ensures.items;
    }

pub sequence_branch-loop-part-preserved : goal.sequence_branch-loop-part-preserved
sequence_branch-loop-part-preserved t c =
    let ds = c.args.decls.now in
    let xs = c.args.all.now in
    let i = c.loop-part.part-index in
    let s = c.part-item.result in
    let made = c.in_ok-branch.branch in
    let all = stmts_weight ds (stmts xs) in
    let front : drop i xs ≡ s ∷ drop (i + 1) xs = grind (arith, common_steps) in
    let more : take (i + 1) xs ≡ take i xs ++ s ∷ [] = grind (arith, common_steps) in record {
      total = sum_more c.loop-part.weight (stmt_weight ds s) made.weight c.plus-weight.result
          (stmts_weight ds (stmts (drop (i + 1) xs))) all c.in_ok-branch.ensures.weight_is c.plus-weight.ensures
          (subst (λ ys. Sums c.loop-part.weight (stmts_weight ds (stmts ys)) all) front c.loop-part.invariant.total);
      assigned = set_behind ds (all_assigned_names any_kind (stmts (take i xs))) (assigned_names any_kind s)
          (all_assigned_names any_kind (stmts (take (i + 1) xs))) c.loop-part.sets.items c.push.new.sets.items made.names
          c.in_ok-push.ensures (ap (λ ys. all_assigned_names any_kind (stmts ys)) more ∙ stmts_behind any_kind (take i xs) s)
          c.loop-part.invariant.assigned c.in_ok-branch.ensures.names_are;
    }

pub sequence_branch-returns : goal.sequence_branch-returns
sequence_branch-returns t c =
    let ds = c.args.decls.now in
    let xs = c.args.all.now in
    let i = c.loop-part.part-index in
    let all = stmts_weight ds (stmts xs) in
    let sets = c.loop-part.sets.items in
    let slice : c.as_slice.result.now ≡ sets = search rules in
    let gone : drop i xs ≡ [] = grind (arith, common_steps) in
    let past : length xs ≤ i = grind (arith, common_steps) in record {
      weight_is = sum_done c.loop-part.weight all
          (subst (λ ys. Sums c.loop-part.weight (stmts_weight ds (stmts ys)) all) gone c.loop-part.invariant.total);
      names_are = same_named ds (all_assigned_names any_kind (stmts xs)) (some_has sets) _
          (λ d b. c.in_ok-names.ensures d b ∙ ap (λ ss. some_has ss d b) slice)
          (subst (λ ys. AreNames ds (all_assigned_names any_kind (stmts ys)) (some_has sets)) (take_all i xs past)
          c.loop-part.invariant.assigned);
    }

pub arms_branch-loop-arm-init : goal.arms_branch-loop-arm-init
arms_branch-loop-arm-init t c =
    let ds = c.args.decls.now in record {
      total = sum_begun (arms_weight ds c.args.bits (arms c.args.all.now));
      assigned = no_sets_named ds c.new-sets.result.items c.new-sets.ensures.items;
    }

pub arms_branch-loop-arm-preserved : goal.arms_branch-loop-arm-preserved
arms_branch-loop-arm-preserved t c =
    let ds = c.args.decls.now in
    let n = c.args.bits in
    let xs = c.args.all.now in
    let i = c.loop-arm.arm-index in
    let x = c.arm-item.result in
    let rest = arms (drop (i + 1) xs) in
    let made = c.in_ok-branch.branch in
    let all = arms_weight ds n (arms xs) in
    let one = arms_weight ds n (with_arm x no_arms) in
    let front : drop i xs ≡ x ∷ drop (i + 1) xs = grind (arith, common_steps) in
    let more : take (i + 1) xs ≡ take i xs ++ x ∷ [] = grind (arith, common_steps) in
    let left : arms_weight ds n (arms (drop i xs)) ≡ one + arms_weight ds n rest =
    ap (λ ys. arms_weight ds n (arms ys)) front ∙ arm_first ds n x rest in record {
      total = sum_more c.loop-arm.weight one made.weight c.plus-weight.result
          (arms_weight ds n rest) all c.in_ok-branch.ensures.weight_is c.plus-weight.ensures
          (subst (λ m. Sums c.loop-arm.weight m all) left c.loop-arm.invariant.total);
      assigned = set_behind ds (arms_assigned_names any_kind (arms (take i xs))) (arms_assigned_names any_kind (with_arm x no_arms))
          (arms_assigned_names any_kind (arms (take (i + 1) xs))) c.loop-arm.sets.items c.push.new.sets.items made.names
          c.in_ok-push.ensures (ap (λ ys. arms_assigned_names any_kind (arms ys)) more ∙ arms_behind any_kind (take i xs) x)
          c.loop-arm.invariant.assigned c.in_ok-branch.ensures.names_are;
    }

pub arms_branch-returns : goal.arms_branch-returns
arms_branch-returns t c =
    let ds = c.args.decls.now in
    let n = c.args.bits in
    let xs = c.args.all.now in
    let i = c.loop-arm.arm-index in
    let all = arms_weight ds n (arms xs) in
    let sets = c.loop-arm.sets.items in
    let slice : c.as_slice.result.now ≡ sets = search rules in
    let gone : drop i xs ≡ [] = grind (arith, common_steps) in
    let past : length xs ≤ i = grind (arith, common_steps) in record {
      weight_is = sum_done c.loop-arm.weight all
          (subst (λ ys. Sums c.loop-arm.weight (arms_weight ds n (arms ys)) all) gone c.loop-arm.invariant.total);
      names_are = same_named ds (arms_assigned_names any_kind (arms xs)) (some_has sets) _
          (λ d b. c.in_ok-names.ensures d b ∙ ap (λ ss. some_has ss d b) slice)
          (subst (λ ys. AreNames ds (arms_assigned_names any_kind (arms ys)) (some_has sets)) (take_all i xs past)
          c.loop-arm.invariant.assigned);
    }

pub stmt_branch-returns-in-Assume : goal.stmt_branch-returns-in-Assume
stmt_branch-returns-in-Assume t c =
    let ds = c.args.decls.now in
    let a = c.stmt.inside.attributes in
    let p = c.stmt.inside.pos in
    let e = c.in-Assume.expr in
    let made = c.without_names.result in
    let same : assume a p e ≡ c.args.stmt.now = ap (shown a p) (sym c.in-Assume.is) ∙ c.stmt.view_is in
    subst (λ s. IsBranchOf ds (stmt_weight ds s) (assigned_names any_kind s) made) same
    (c.without_names.ensures ds (weight ds (own_size ds e) e)
    (own_gates ds e c.weigh-in-Assume.result c.own-weight.result c.weigh-in-Assume.ensures c.own-weight.ensures))

pub stmt_branch-returns-in_ok-assign_branch-in-Assign : goal.stmt_branch-returns-in_ok-assign_branch-in-Assign
stmt_branch-returns-in_ok-assign_branch-in-Assign t c =
    let ds = c.args.decls.now in
    let a = c.stmt.inside.attributes in
    let p = c.stmt.inside.pos in
    let made = c.in_ok-assign_branch-in-Assign.field-0 in
    let same : assign a p c.in-Assign.target c.in-Assign.field-1 c.in-Assign.expr ≡ c.args.stmt.now =
    ap (shown a p) (sym c.in-Assign.is) ∙ c.stmt.view_is in
    subst (λ s. IsBranchOf ds (stmt_weight ds s) (assigned_names any_kind s) made) same c.in_ok-assign_branch-in-Assign.ensures

pub arm_branch-returns-in_ok-branch-in-Labels : goal.arm_branch-returns-in_ok-branch-in-Labels
arm_branch-returns-in_ok-branch-in-Labels t c =
    let ds = c.args.decls.now in
    let n = c.args.bits in
    let p = c.in-Labels.field-0 in
    let es = c.in-Labels.labels in
    let s = c.in-Labels.stmt.value in
    let made = c.behind.result in
    let one = c.in_ok-branch-in-Labels.branch in
    let slice : c.as_slice.result.now ≡ es = search rules in
    let inner : c.deref.result.now ≡ s = search rules in
    subst (λ x. IsBranchOf ds (arms_weight ds n (with_arm x no_arms)) (arms_assigned_names any_kind (with_arm x no_arms)) made)
    (sym c.in-Labels.is)
    (labels_branch ds p es s n made
    (c.behind.ensures ds (labels_weight ds n es) (stmt_weight ds s) (assigned_names any_kind s)
    (c.labels_weight-tests.ensures ∙ ap (λ ys. capped (labels_weight ds n ys)) slice)
    (subst (λ z. IsBranchOf ds (stmt_weight ds z) (assigned_names any_kind z) one) inner c.in_ok-branch-in-Labels.ensures)))
