use Rattle.std.proofs.Common.{◌≡◌, ◌+◌, ◌≤◌, ◌++◌, ◌∷◌, [], length, take, ap, sym, ◌∙◌, subst, arith, rules, None, Some}
use Rattle.std.specs.Prelude.{if◌then◌else◌}
use Rattle.std.proofs.lemmas.Grind.{common_steps}
use Rattle.std.proofs.lemmas.List.{take_all, append-nil}
use Rattle.vl_tree.specs.declared.stmt.StmtKind.TheVariants as k
use Rattle.vl_tree.specs.Stmt.{begin, if_only, if_else, case, assign, assume, empty, stmts, no_arms}
use Rattle.vl_tree.specs.StmtView.{arms, shown, with_arm}
use Rattle.fv_bit_sets.specs.Cells.{has}
use Rattle.vl_flow_spec.specs.Assigned.{all_assigned_names, arms_assigned_names, assigned_names}
use Rattle.vl_flow_spec.specs.Assigned.{target_names}
use Rattle.vl_flow_order.specs.Names.{AreNames}
use Rattle.vl_flow_order.specs.Sets.{some_has}
use Rattle.vl_flow_order.proofs.Naming.{arms_behind, both_named, no_sets_named, none_named, same_named, set_behind}
use Rattle.vl_flow_order.proofs.Naming.{stmts_behind}
use Rattle.vl_flow_effects.specs.Assigning.{is_kind}
use Rattle.vl_flow_effects.proofs.assigned.+named.Goals as goal

pub stmt_names-returns-in_ok-sequence_names-in-Begin : goal.stmt_names-returns-in_ok-sequence_names-in-Begin
stmt_names-returns-in_ok-sequence_names-in-Begin t c =
    let ds = c.args.decls.now in
    let counts = is_kind c.args.counted in
    let a = c.stmt.inside.attributes in
    let p = c.stmt.inside.pos in
    let xs = c.in-Begin.all in
    let made = c.in_ok-sequence_names-in-Begin.field-0 in
    let slice : c.as_slice.result.now ≡ xs = search rules in
    let same : begin a p c.in-Begin.field-0 (stmts xs) ≡ c.args.stmt.now =
    ap (shown a p) (sym c.in-Begin.is) ∙ c.stmt.view_is in
    subst (λ s. AreNames ds (assigned_names counts s) (has made)) same
    (subst (λ ys. AreNames ds (all_assigned_names counts (stmts ys)) (has made)) slice
    c.in_ok-sequence_names-in-Begin.ensures)

pub stmt_names-returns-in_ok-stmt_names-in-If-default-default-None :
    goal.stmt_names-returns-in_ok-stmt_names-in-If-default-default-None
stmt_names-returns-in_ok-stmt_names-in-If-default-default-None t c =
    let ds = c.args.decls.now in
    let counts = is_kind c.args.counted in
    let a = c.stmt.inside.attributes in
    let p = c.stmt.inside.pos in
    let e = c.in-If-default-default-None.field-0 in
    let x = c.in-If-default-default-None.first.value in
    let made = c.in_ok-stmt_names-in-If-default-default-None.field-0 in
    let inner : c.deref.result.now ≡ x = search rules in
    let kind : c.stmt.inside.kind ≡ k.If e c.in-If-default-default-None.first None = search rules in
    let same : if_only a p e x ≡ c.args.stmt.now = ap (shown a p) (sym kind) ∙ c.stmt.view_is in
    subst (λ s. AreNames ds (assigned_names counts s) (has made)) same
    (subst (λ y. AreNames ds (assigned_names counts y) (has made)) inner
    c.in_ok-stmt_names-in-If-default-default-None.ensures)

pub stmt_names-returns-in_ok-with-in-If-default-default-Some :
    goal.stmt_names-returns-in_ok-with-in-If-default-default-Some
stmt_names-returns-in_ok-with-in-If-default-default-Some t c =
    let ds = c.args.decls.now in
    let counts = is_kind c.args.counted in
    let a = c.stmt.inside.attributes in
    let p = c.stmt.inside.pos in
    let e = c.in-If-default-default-Some.field-0 in
    let x = c.in-If-default-default-Some.first.value in
    let y = c.in-If-default-default-Some.second.value in
    let one = c.in_ok-first-in-If-default-default-Some.first in
    let other = c.in_ok-second-in-If-default-default-Some.second in
    let made = c.in_ok-with-in-If-default-default-Some.field-0 in
    let inner : c.deref-in-If-default-default-Some.result.now ≡ x = search rules in
    let outer : c.deref-in-If-default-default-Some-2.result.now ≡ y = search rules in
    let tail : c.in-If-default-default-Some.field-2 ≡ Some c.in-If-default-default-Some.second = search rules in
    let kind : c.stmt.inside.kind
    ≡ k.If e c.in-If-default-default-Some.first (Some c.in-If-default-default-Some.second) =
    c.in-If-default-default-Some.is ∙ ap (k.If e c.in-If-default-default-Some.first) tail in
    let same : if_else a p e x y ≡ c.args.stmt.now = ap (shown a p) (sym kind) ∙ c.stmt.view_is in
    subst (λ s. AreNames ds (assigned_names counts s) (has made)) same
    (both_named ds (assigned_names counts x) (assigned_names counts y) (has one) (has other) (has made)
    c.in_ok-with-in-If-default-default-Some.ensures
    (subst (λ z. AreNames ds (assigned_names counts z) (has one)) inner
    c.in_ok-first-in-If-default-default-Some.ensures)
    (subst (λ z. AreNames ds (assigned_names counts z) (has other)) outer
    c.in_ok-second-in-If-default-default-Some.ensures))

pub stmt_names-returns-in_ok-arms_names-in-Case : goal.stmt_names-returns-in_ok-arms_names-in-Case
stmt_names-returns-in_ok-arms_names-in-Case t c =
    let ds = c.args.decls.now in
    let counts = is_kind c.args.counted in
    let a = c.stmt.inside.attributes in
    let p = c.stmt.inside.pos in
    let xs = c.in-Case.arms in
    let made = c.in_ok-arms_names-in-Case.field-0 in
    let slice : c.as_slice-in-Case.result.now ≡ xs = search rules in
    let same : case a p c.in-Case.field-0 c.in-Case.field-1 (arms xs) ≡ c.args.stmt.now =
    ap (shown a p) (sym c.in-Case.is) ∙ c.stmt.view_is in
    subst (λ s. AreNames ds (assigned_names counts s) (has made)) same
    (subst (λ ys. AreNames ds (arms_assigned_names counts (arms ys)) (has made)) slice
    c.in_ok-arms_names-in-Case.ensures)

pub stmt_names-returns-in_ok-names_if-in-Assign : goal.stmt_names-returns-in_ok-names_if-in-Assign
stmt_names-returns-in_ok-names_if-in-Assign t c =
    let ds = c.args.decls.now in
    let counts = is_kind c.args.counted in
    let a = c.stmt.inside.attributes in
    let p = c.stmt.inside.pos in
    let l = c.in-Assign.target in
    let made = c.in_ok-names_if-in-Assign.field-0 in
    let same : assign a p l c.in-Assign.kind c.in-Assign.field-2 ≡ c.args.stmt.now =
    ap (shown a p) (sym c.in-Assign.is) ∙ c.stmt.view_is in
    subst (λ s. AreNames ds (assigned_names counts s) (has made)) same
    (subst (λ b. AreNames ds (if b then target_names l else []) (has made)) c.is_counted.ensures
    c.in_ok-names_if-in-Assign.ensures)

pub stmt_names-returns-in-Assume : goal.stmt_names-returns-in-Assume
stmt_names-returns-in-Assume t c =
    let ds = c.args.decls.now in
    let counts = is_kind c.args.counted in
    let a = c.stmt.inside.attributes in
    let p = c.stmt.inside.pos in
    let same : assume a p c.in-Assume.field-0 ≡ c.args.stmt.now =
    ap (shown a p) (sym c.in-Assume.is) ∙ c.stmt.view_is in
    subst (λ s. AreNames ds (assigned_names counts s) (has c.none.result)) same
    (none_named ds (has c.none.result) c.none.ensures)

pub stmt_names-returns-in-Empty : goal.stmt_names-returns-in-Empty
stmt_names-returns-in-Empty t c =
    let ds = c.args.decls.now in
    let counts = is_kind c.args.counted in
    let a = c.stmt.inside.attributes in
    let p = c.stmt.inside.pos in
    let same : empty a p ≡ c.args.stmt.now = ap (shown a p) (sym c.in-Empty.is) ∙ c.stmt.view_is in
    subst (λ s. AreNames ds (assigned_names counts s) (has c.none-in-Empty.result)) same
    (none_named ds (has c.none-in-Empty.result) c.none-in-Empty.ensures)

pub sequence_names-loop-part-init : goal.sequence_names-loop-part-init
sequence_names-loop-part-init t c = no_sets_named c.args.decls.now c.new-sets.result.items c.new-sets.ensures.items

pub sequence_names-loop-part-preserved : goal.sequence_names-loop-part-preserved
sequence_names-loop-part-preserved t c =
    let ds = c.args.decls.now in
    let counts = is_kind c.args.counted in
    let xs = c.args.all.now in
    let i = c.loop-part.part-index in
    let s = c.part-item.result in
    let more : take (i + 1) xs ≡ take i xs ++ s ∷ [] = grind (arith, common_steps) in
    set_behind ds (all_assigned_names counts (stmts (take i xs))) (assigned_names counts s)
    (all_assigned_names counts (stmts (take (i + 1) xs))) c.loop-part.sets.items c.push.new.sets.items
    c.in_ok-stmt_names.field-0 c.in_ok-push.ensures
    (ap (λ ys. all_assigned_names counts (stmts ys)) more ∙ stmts_behind counts (take i xs) s)
    c.loop-part.invariant c.in_ok-stmt_names.ensures

pub sequence_names-returns : goal.sequence_names-returns
sequence_names-returns t c =
    let ds = c.args.decls.now in
    let counts = is_kind c.args.counted in
    let xs = c.args.all.now in
    let i = c.loop-part.part-index in
    let sets = c.loop-part.sets.items in
    let slice : c.as_slice.result.now ≡ sets = search rules in
    let past : length xs ≤ i = grind (arith, common_steps) in
    same_named ds (all_assigned_names counts (stmts xs)) (some_has sets) (has c.in_ok-union_of.field-0)
    (λ d b. c.in_ok-union_of.ensures d b ∙ ap (λ ss. some_has ss d b) slice)
    (subst (λ ys. AreNames ds (all_assigned_names counts (stmts ys)) (some_has sets)) (take_all i xs past)
    c.loop-part.invariant)

pub arms_names-loop-arm-init : goal.arms_names-loop-arm-init
arms_names-loop-arm-init t c = no_sets_named c.args.decls.now c.new-sets.result.items c.new-sets.ensures.items

pub arms_names-loop-arm-preserved : goal.arms_names-loop-arm-preserved
arms_names-loop-arm-preserved t c =
    let ds = c.args.decls.now in
    let counts = is_kind c.args.counted in
    let xs = c.args.all.now in
    let i = c.loop-arm.arm-index in
    let x = c.arm-item.result in
    let more : take (i + 1) xs ≡ take i xs ++ x ∷ [] = grind (arith, common_steps) in
    set_behind ds (arms_assigned_names counts (arms (take i xs))) (arms_assigned_names counts (with_arm x no_arms))
    (arms_assigned_names counts (arms (take (i + 1) xs))) c.loop-arm.sets.items c.push.new.sets.items
    c.in_ok-arm_names.field-0 c.in_ok-push.ensures
    (ap (λ ys. arms_assigned_names counts (arms ys)) more ∙ arms_behind counts (take i xs) x)
    c.loop-arm.invariant c.in_ok-arm_names.ensures

pub arms_names-returns : goal.arms_names-returns
arms_names-returns t c =
    let ds = c.args.decls.now in
    let counts = is_kind c.args.counted in
    let xs = c.args.all.now in
    let i = c.loop-arm.arm-index in
    let sets = c.loop-arm.sets.items in
    let slice : c.as_slice.result.now ≡ sets = search rules in
    let past : length xs ≤ i = grind (arith, common_steps) in
    same_named ds (arms_assigned_names counts (arms xs)) (some_has sets) (has c.in_ok-union_of.field-0)
    (λ d b. c.in_ok-union_of.ensures d b ∙ ap (λ ss. some_has ss d b) slice)
    (subst (λ ys. AreNames ds (arms_assigned_names counts (arms ys)) (some_has sets)) (take_all i xs past)
    c.loop-arm.invariant)

pub arm_names-returns-in_ok-stmt_names-in-Labels : goal.arm_names-returns-in_ok-stmt_names-in-Labels
arm_names-returns-in_ok-stmt_names-in-Labels t c =
    let ds = c.args.decls.now in
    let counts = is_kind c.args.counted in
    let s = c.in-Labels.stmt.value in
    let made = c.in_ok-stmt_names-in-Labels.field-0 in
    let inner : c.deref.result.now ≡ s = search rules in
    subst (λ x. AreNames ds (arms_assigned_names counts (with_arm x no_arms)) (has made)) (sym c.in-Labels.is)
    (subst (λ ns. AreNames ds ns (has made)) (sym (append-nil (assigned_names counts s)))
    (subst (λ z. AreNames ds (assigned_names counts z) (has made)) inner c.in_ok-stmt_names-in-Labels.ensures))

pub arm_names-returns-in_ok-stmt_names-in-Default : goal.arm_names-returns-in_ok-stmt_names-in-Default
arm_names-returns-in_ok-stmt_names-in-Default t c =
    let ds = c.args.decls.now in
    let counts = is_kind c.args.counted in
    let s = c.in-Default.stmt.value in
    let made = c.in_ok-stmt_names-in-Default.field-0 in
    let inner : c.deref-in-Default.result.now ≡ s = search rules in
    subst (λ x. AreNames ds (arms_assigned_names counts (with_arm x no_arms)) (has made)) (sym c.in-Default.is)
    (subst (λ ns. AreNames ds ns (has made)) (sym (append-nil (assigned_names counts s)))
    (subst (λ z. AreNames ds (assigned_names counts z) (has made)) inner c.in_ok-stmt_names-in-Default.ensures))
