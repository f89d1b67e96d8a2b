use Rattle.std.proofs.Common.{◌≡◌, ◌+◌, ◌≤◌, ◌++◌, ◌∷◌, [], length, drop, take, ap, sym, ◌∙◌, subst, arith, rules}
use Rattle.std.proofs.Common.{None, Some}
use Rattle.std.proofs.lemmas.Grind.{common_steps}
use Rattle.std.proofs.lemmas.List.{take_all}
use Rattle.vl_tree.specs.declared.stmt.StmtKind.TheVariants as k
use Rattle.vl_tree.specs.Stmt.{begin, if_only, if_else, case, assign, assume, empty, stmts, no_arms}
use Rattle.vl_tree.specs.StmtView.{arms, shown, with_arm}
use Rattle.vl_flow_effects.specs.Effects.{AreEach, IsEffectOf, IsEffectOfAll, IsEffectOfArm, IsEffectOfArms}
use Rattle.vl_flow_cells.specs.Sized.{ArmsAreSized, StmtIsSized, StmtsAreSized}
use Rattle.vl_flow_effects.proofs.Halves.{each_push}
use Rattle.vl_flow_effects.proofs.Statements.{arm_sized, assume_effect, case_effect, default_effect}
use Rattle.vl_flow_effects.proofs.Statements.{empty_effect, labels_effect}
use Rattle.vl_flow_effects.proofs.stmt.+effect.Goals as goal

pub effect_of-returns-in_ok-sequence_effect-in-Begin : goal.effect_of-returns-in_ok-sequence_effect-in-Begin
effect_of-returns-in_ok-sequence_effect-in-Begin t c =
    let ds = c.args.decls.now in
    let a = c.stmt.inside.attributes in
    let p = c.stmt.inside.pos in
    let xs = c.in-Begin.all in
    let made = c.in_ok-sequence_effect-in-Begin.field-0 in
    let slice : c.as_slice.result.now ≡ xs = search rules in
    let same : begin a p c.in-Begin.field-0 (stmts xs) ≡ c.args.stmt.now =
    ap (shown a p) (sym c.in-Begin.is) ∙ c.stmt.view_is in
    subst (λ s. StmtIsSized ds s → IsEffectOf ds made s) same
    (subst (λ ys. StmtsAreSized ds (stmts ys) → IsEffectOfAll ds made ys) slice
    c.in_ok-sequence_effect-in-Begin.ensures)

pub effect_of-returns-in_ok-choice-in-If-default-default-None :
    goal.effect_of-returns-in_ok-choice-in-If-default-default-None
effect_of-returns-in_ok-choice-in-If-default-default-None t c sized =
    let ds = c.args.decls.now in
    let a = c.stmt.inside.attributes in
    let p = c.stmt.inside.pos in
    let e = c.in-If-default-default-None.condition in
    let x = c.in-If-default-default-None.first.value in
    let made = c.in_ok-choice-in-If-default-default-None.field-0 in
    let inner : c.deref.result.now ≡ x = search rules in
    let kind : c.stmt.inside.kind ≡ k.If e c.in-If-default-default-None.first None =
    search rules in
    let same : if_only a p e x ≡ c.args.stmt.now = ap (shown a p) (sym kind) ∙ c.stmt.view_is in
    let parts = subst (StmtIsSized ds) (sym same) sized in
    let first = subst (λ y. StmtIsSized ds y → IsEffectOf ds c.in_ok-first-in-If-default-default-None.first y) inner
    c.in_ok-first-in-If-default-default-None.ensures parts.1 in
    subst (IsEffectOf ds made) same
    (c.in_ok-choice-in-If-default-default-None.ensures.one a p x parts.0 first
    (empty_effect ds a p c.none.result c.none.ensures))

pub effect_of-returns-in_ok-choice-in-If-default-default-Some :
    goal.effect_of-returns-in_ok-choice-in-If-default-default-Some
effect_of-returns-in_ok-choice-in-If-default-default-Some t c sized =
    let ds = c.args.decls.now in
    let a = c.stmt.inside.attributes in
    let p = c.stmt.inside.pos in
    let e = c.in-If-default-default-Some.condition in
    let x = c.in-If-default-default-Some.first.value in
    let y = c.in-If-default-default-Some.second.value in
    let made = c.in_ok-choice-in-If-default-default-Some.field-0 in
    let one : c.deref-in-If-default-default-Some.result.now ≡ x = search rules in
    let other : c.deref-in-If-default-default-Some-2.result.now ≡ y = search rules in
    let tail : c.in-If-default-default-Some.field-2 ≡ Some c.in-If-default-default-Some.second = search rules in
    let kind : c.stmt.inside.kind
    ≡ k.If e c.in-If-default-default-Some.first (Some c.in-If-default-default-Some.second) =
    c.in-If-default-default-Some.is ∙ ap (k.If e c.in-If-default-default-Some.first) tail in
    let same : if_else a p e x y ≡ c.args.stmt.now = ap (shown a p) (sym kind) ∙ c.stmt.view_is in
    let parts = subst (StmtIsSized ds) (sym same) sized in
    let first = subst (λ z. StmtIsSized ds z → IsEffectOf ds c.in_ok-first-in-If-default-default-Some.first z) one
    c.in_ok-first-in-If-default-default-Some.ensures parts.1.0 in
    let second = subst (λ z. StmtIsSized ds z → IsEffectOf ds c.in_ok-second-in-If-default-default-Some.second z) other
    c.in_ok-second-in-If-default-default-Some.ensures parts.1.1 in
    subst (IsEffectOf ds made) same (c.in_ok-choice-in-If-default-default-Some.ensures.two a p x y parts.0 first second)

pub effect_of-returns-in_ok-behind-in-Case : goal.effect_of-returns-in_ok-behind-in-Case
effect_of-returns-in_ok-behind-in-Case t c sized =
    let ds = c.args.decls.now in
    let a = c.stmt.inside.attributes in
    let p = c.stmt.inside.pos in
    let way = c.in-Case.field-0 in
    let e = c.in-Case.expr in
    let xs = c.in-Case.arms in
    let made = c.in_ok-behind-in-Case.field-0 in
    let inner = c.in_ok-arms-in-Case.arms in
    let slice : c.as_slice-in-Case.result.now ≡ xs = search rules in
    let same : case a p way e (arms xs) ≡ c.args.stmt.now = ap (shown a p) (sym c.in-Case.is) ∙ c.stmt.view_is in
    let parts = subst (StmtIsSized ds) (sym same) sized in
    subst (IsEffectOf ds made) same
    (case_effect ds a p way e (arms xs) inner made c.in_ok-reads-in-Case.reads c.in_ok-behind-in-Case.ensures
    (c.in_ok-reads-in-Case.ensures parts.0)
    (subst (λ ys. ArmsAreSized ds (arms ys) → IsEffectOfArms ds inner (arms ys)) slice
    c.in_ok-arms-in-Case.ensures parts.1))

pub effect_of-returns-in_ok-assign_effect-in-Assign : goal.effect_of-returns-in_ok-assign_effect-in-Assign
effect_of-returns-in_ok-assign_effect-in-Assign t c sized =
    let ds = c.args.decls.now in
    let a = c.stmt.inside.attributes in
    let p = c.stmt.inside.pos in
    let same : assign a p c.in-Assign.target c.in-Assign.kind c.in-Assign.expr ≡ c.args.stmt.now =
    ap (shown a p) (sym c.in-Assign.is) ∙ c.stmt.view_is in
    let parts = subst (StmtIsSized ds) (sym same) sized in
    subst (IsEffectOf ds c.in_ok-assign_effect-in-Assign.field-0) same
    (c.in_ok-assign_effect-in-Assign.ensures a p parts.0 parts.1)

pub effect_of-returns-in_ok-behind-in-Assume : goal.effect_of-returns-in_ok-behind-in-Assume
effect_of-returns-in_ok-behind-in-Assume t c sized =
    let ds = c.args.decls.now in
    let a = c.stmt.inside.attributes in
    let p = c.stmt.inside.pos in
    let made = c.in_ok-behind-in-Assume.field-0 in
    let same : assume a p c.in-Assume.expr ≡ c.args.stmt.now = ap (shown a p) (sym c.in-Assume.is) ∙ c.stmt.view_is in
    subst (IsEffectOf ds made) same
    (assume_effect ds a p c.in-Assume.expr c.none-in-Assume.result made c.in_ok-reads-in-Assume.reads
    c.none-in-Assume.ensures c.in_ok-behind-in-Assume.ensures
    (c.in_ok-reads-in-Assume.ensures (subst (StmtIsSized ds) (sym same) sized)))

pub effect_of-returns-in-Empty : goal.effect_of-returns-in-Empty
effect_of-returns-in-Empty t c sized =
    let ds = c.args.decls.now in
    let a = c.stmt.inside.attributes in
    let p = c.stmt.inside.pos in
    let same : empty a p ≡ c.args.stmt.now = ap (shown a p) (sym c.in-Empty.is) ∙ c.stmt.view_is in
    subst (IsEffectOf ds c.none-in-Empty.result) same
    (empty_effect ds a p c.none-in-Empty.result c.none-in-Empty.ensures)

pub sequence_effect-loop-part-preserved : goal.sequence_effect-loop-part-preserved
sequence_effect-loop-part-preserved t c =
    let ds = c.args.decls.now in
    let xs = c.args.all.now in
    let i = c.loop-part.part-index in
    let s = c.part-item.result in
    let es = c.loop-part.effects.items in
    let e = c.in_ok-effect.effect in
    let front : drop i xs ≡ s ∷ drop (i + 1) xs = grind (arith, common_steps) in
    let more : take (i + 1) xs ≡ take i xs ++ s ∷ [] = grind (arith, common_steps) in
    let pushed : c.push.new.effects.items ≡ es ++ e ∷ [] = c.in_ok-push.ensures in record {
      left = λ h. (subst (λ ys. StmtsAreSized ds (stmts ys)) front (c.loop-part.invariant.left h)).1;
      each = λ h. subst (λ ys. AreEach (IsEffectOf ds) c.push.new.effects.items ys) (sym more)
          (subst (λ fs. AreEach (IsEffectOf ds) fs (take i xs ++ s ∷ [])) (sym pushed)
          (each_push (IsEffectOf ds) es (take i xs) e s (c.loop-part.invariant.each h)
          (c.in_ok-effect.ensures (subst (λ ys. StmtsAreSized ds (stmts ys)) front (c.loop-part.invariant.left h)).0)));
    }

pub sequence_effect-returns : goal.sequence_effect-returns
sequence_effect-returns t c h =
    let ds = c.args.decls.now in
    let xs = c.args.all.now in
    let i = c.loop-part.part-index in
    let slice : c.as_slice.result.now ≡ c.loop-part.effects.items = search rules in
    let past : length xs ≤ i = grind (arith, common_steps) in
    c.in_ok-in_sequence.ensures ds xs
    (subst (λ fs. AreEach (IsEffectOf ds) fs xs) (sym slice)
    (subst (AreEach (IsEffectOf ds) c.loop-part.effects.items) (take_all i xs past) (c.loop-part.invariant.each h)))

pub arms_effect-loop-arm-preserved : goal.arms_effect-loop-arm-preserved
arms_effect-loop-arm-preserved t c =
    let ds = c.args.decls.now in
    let xs = c.args.all.now in
    let i = c.loop-arm.arm-index in
    let x = c.arm-item.result in
    let rest = arms (drop (i + 1) xs) in
    let es = c.loop-arm.effects.items in
    let e = c.in_ok-effect.effect in
    let front : drop i xs ≡ x ∷ drop (i + 1) xs = grind (arith, common_steps) in
    let more : take (i + 1) xs ≡ take i xs ++ x ∷ [] = grind (arith, common_steps) in
    let pushed : c.push.new.effects.items ≡ es ++ e ∷ [] = c.in_ok-push.ensures in record {
      left = λ h. (arm_sized ds x rest (subst (λ ys. ArmsAreSized ds (arms ys)) front
          (c.loop-arm.invariant.left h))).1;
      each = λ h. subst (λ ys. AreEach (IsEffectOfArm ds) c.push.new.effects.items ys) (sym more)
          (subst (λ fs. AreEach (IsEffectOfArm ds) fs (take i xs ++ x ∷ [])) (sym pushed)
          (each_push (IsEffectOfArm ds) es (take i xs) e x (c.loop-arm.invariant.each h)
          (c.in_ok-effect.ensures (arm_sized ds x rest (subst (λ ys. ArmsAreSized ds (arms ys)) front
          (c.loop-arm.invariant.left h))).0)));
    }

pub arms_effect-returns : goal.arms_effect-returns
arms_effect-returns t c h =
    let ds = c.args.decls.now in
    let xs = c.args.all.now in
    let i = c.loop-arm.arm-index in
    let slice : c.as_slice.result.now ≡ c.loop-arm.effects.items = search rules in
    let past : length xs ≤ i = grind (arith, common_steps) in
    c.in_ok-of_case.ensures ds xs
    (subst (λ fs. AreEach (IsEffectOfArm ds) fs xs) (sym slice)
    (subst (AreEach (IsEffectOfArm ds) c.loop-arm.effects.items) (take_all i xs past) (c.loop-arm.invariant.each h)))
    c.has_default.ensures

pub arm_effect-returns-in_ok-behind-in-Labels : goal.arm_effect-returns-in_ok-behind-in-Labels
arm_effect-returns-in_ok-behind-in-Labels t c sized =
    let ds = c.args.decls.now in
    let p = c.in-Labels.field-0 in
    let es = c.in-Labels.labels in
    let b = c.in-Labels.stmt in
    let e = c.in_ok-effect-in-Labels.effect in
    let made = c.in_ok-behind-in-Labels.field-0 in
    let slice : c.as_slice.result.now ≡ es = search rules in
    let inner : c.deref.result.now ≡ b.value = search rules in
    let parts = subst (λ x. ArmsAreSized ds (with_arm x no_arms)) c.in-Labels.is sized in
    subst (IsEffectOfArm ds made) (sym c.in-Labels.is)
    (labels_effect ds p es b.value e made c.in_ok-reads-in-Labels.reads c.in_ok-behind-in-Labels.ensures
    c.as_slice.result.now c.deref.result.now slice inner c.in_ok-reads-in-Labels.ensures
    c.in_ok-effect-in-Labels.ensures parts.0 parts.1.0)

pub arm_effect-returns-in_ok-effect_of-in-Default : goal.arm_effect-returns-in_ok-effect_of-in-Default
arm_effect-returns-in_ok-effect_of-in-Default t c sized =
    let ds = c.args.decls.now in
    let b = c.in-Default.stmt in
    let made = c.in_ok-effect_of-in-Default.field-0 in
    let inner : c.deref-in-Default.result.now ≡ b.value = search rules in
    let parts = subst (λ x. ArmsAreSized ds (with_arm x no_arms)) c.in-Default.is sized in
    subst (IsEffectOfArm ds made) (sym c.in-Default.is)
    (default_effect ds c.in-Default.field-0 c.in-Default.field-1 b.value made
    (subst (λ y. StmtIsSized ds y → IsEffectOf ds made y) inner c.in_ok-effect_of-in-Default.ensures parts.0))
