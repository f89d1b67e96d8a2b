use Rattle.std.proofs.Common.{◌≡◌, ◌+◌, ◌≤◌, ◌++◌, ◌∷◌, [], length, drop, take, ap, sym, ◌∙◌, subst, rules}
use Rattle.std.proofs.Common.{None, Some, arith, refl, false}
use denote.Param.Weighed.{at_most}
use Rattle.std.specs.Prelude.{◌&&◌, max, not}
use Rattle.std.proofs.lemmas.Grind.{common_steps}
use Rattle.std.proofs.lemmas.List.{take_all}
use Rattle.vl_tree.specs.declared.stmt.StmtKind.TheVariants as k
use Rattle.vl_tree.specs.Stmt.{begin, if_only, if_else, case, assign, assume, empty, stmts, no_arms}
use Rattle.vl_tree.specs.StmtView.{arms, shown, with_arm}
use Rattle.vl_tree.specs.Stmt.{arms_depth, depth}
use Rattle.vl_tree.specs.StmtFalls.{falls, most_le-arm_size}
use Rattle.vl_tree.specs.declared.stmt.Stmt.TheDeep.{deep-StmtKind, size-Arm, size-Stmt}
use Rattle.vl_size.specs.Sign.{sign}
use Rattle.vl_size.specs.Size.{or_none, size}
use Rattle.vl_mean.specs.Execution.{arms_sign, arms_size, otherwise}
use Rattle.vl_mean.specs.FlatLaw.{AreBlocks, IsBlock, flat_scopes, is_variable}
use Rattle.vl_mean.specs.Scopes.{operand_in}
use Rattle.vl_lower_assign.specs.Frames.{cells_of}
use Rattle.vl_lower_assign.specs.Stored.{otherwise_stored}
use Rattle.wn_net.proofs.Laws.{adds_on, node_on}
use Rattle.vl_lower_assign.proofs.Tests.{path_there}
use Rattle.vl_lower_assign.proofs.Behind.{frame_on}
use Rattle.vl_lower_stmt.specs.StepsArms.{AreLedTo, AreSized, ArmsDone, case_test}
use Rattle.vl_lower_stmt.specs.Executes.{Enters, Evaluates, Executes, ExecutesAll, ExecutesOther, Matches}
use Rattle.vl_lower_stmt.proofs.Branches.{all_more, all_none, nothing, one_branch, two_branches}
use Rattle.vl_lower_stmt.proofs.Cases.{arms_default, arms_none}
use Rattle.vl_lower_stmt.proofs.Choosing.{arm_done, case_whole, default_unmatched, first_led_to, led_to, other_none}
use Rattle.vl_lower_stmt.proofs.Choosing.{other_one}
use Rattle.vl_lower_stmt.proofs.Choosing.{others_led_to}
use Rattle.vl_lower_stmt.proofs.Contexts.{sign_in, size_in, sized_target}
use Rattle.vl_lower_stmt.proofs.stmt.+statement.Goals as goal

-- ---- what each kind of statement does

pub execute-returns-in_ok-sequence-in-Begin : goal.execute-returns-in_ok-sequence-in-Begin
execute-returns-in_ok-sequence-in-Begin t c =
    let ds = c.args.layout.decls.now in
    let a = c.stmt.inside.attributes in
    let p = c.stmt.inside.pos in
    let xs = c.in-Begin.all in
    let old = c.args.net.now in
    let new = c.sequence.new.net in
    let f = cells_of c.args.frame.now in
    let h = cells_of c.sequence.new.frame in
    let slice : c.as_slice.result.now ≡ xs = search rules in
    let same : begin a p c.in-Begin.field-0 (stmts xs) ≡ c.args.stmt.now =
    ap (shown a p) (sym c.in-Begin.is) ∙ c.stmt.view_is in
    subst (Executes ds old new f h c.args.path) same
    (subst (λ ys. ExecutesAll ds old new f h c.args.path (stmts ys)) slice c.in_ok-sequence-in-Begin.ensures)

pub execute-returns-in_ok-execute-in-If-default-default-None :
    goal.execute-returns-in_ok-execute-in-If-default-default-None
execute-returns-in_ok-execute-in-If-default-default-None t c =
    let ds = c.args.layout.decls.now in
    let a = c.stmt.inside.attributes in
    let p = c.stmt.inside.pos in
    let e = c.in-If-default-default-None.condition in
    let x = c.in-If-default-default-None.first.value in
    let old = c.args.net.now in
    let mid = c.path_if.new.net in
    let new = c.execute.new.net in
    let f = cells_of c.args.frame.now in
    let h = cells_of c.execute.new.frame in
    let way = c.in_ok-inner-in-If-default-default-None.inner in
    let cells : c.as_slice-in-If-default-default-None.result.now ≡ c.args.frame.now.now.items = search rules in
    let inner : c.deref.result.now ≡ x = search rules in
    let kind : c.stmt.inside.kind ≡ k.If e c.in-If-default-default-None.first None = search rules in
    let same : if_only a p e x ≡ c.args.stmt.now = ap (shown a p) (sym kind) ∙ c.stmt.view_is in
    subst (Executes ds old new f h c.args.path) same
    (one_branch ds old mid new f h c.args.path way a p e x c.requires.frame
    (subst (λ cs. Enters ds old mid cs c.args.path (λ b. b) e way) cells
    c.in_ok-inner-in-If-default-default-None.ensures)
    (subst (λ y. Executes ds mid new f h (Some way) y) inner
    c.in_ok-execute-in-If-default-default-None.ensures))

pub execute-returns-in_ok-execute-in-If-default-default-Some-2 :
    goal.execute-returns-in_ok-execute-in-If-default-default-Some-2
execute-returns-in_ok-execute-in-If-default-default-Some-2 t c =
    let ds = c.args.layout.decls.now in
    let a = c.stmt.inside.attributes in
    let p = c.stmt.inside.pos in
    let e = c.in-If-default-default-Some.condition in
    let x = c.in-If-default-default-Some.first.value in
    let y = c.in-If-default-default-Some.second.value in
    let old = c.args.net.now in
    let by = c.two_paths.new.net in
    let half = c.execute-in-If-default-default-Some.new.net in
    let new = c.execute-in-If-default-default-Some-2.new.net in
    let f = cells_of c.args.frame.now in
    let h = cells_of c.execute-in-If-default-default-Some.new.frame in
    let g = cells_of c.execute-in-If-default-default-Some-2.new.frame in
    let paths = c.in_ok-paths-in-If-default-default-Some.paths in
    let cells : c.as_slice-in-If-default-default-Some.result.now ≡ c.args.frame.now.now.items = search rules in
    let one : c.deref-in-If-default-default-Some.result.now ≡ x = search rules in
    let other : c.deref-in-If-default-default-Some-2.result.now ≡ y = search rules in
    let tail : c.in-If-default-default-Some.field-2 ≡ Some c.in-If-default-default-Some.second = search rules in
    let kind : c.stmt.inside.kind
    ≡ k.If e c.in-If-default-default-Some.first (Some c.in-If-default-default-Some.second) =
    c.in-If-default-default-Some.is ∙ ap (k.If e c.in-If-default-default-Some.first) tail in
    let same : if_else a p e x y ≡ c.args.stmt.now = ap (shown a p) (sym kind) ∙ c.stmt.view_is in
    subst (Executes ds old new f g c.args.path) same
    (two_branches ds old by half new f h g c.args.path paths.taken paths.other a p e x y c.requires.frame
    c.requires.path
    (subst (λ cs. Enters ds old by cs c.args.path (λ b. b) e paths.taken) cells
    c.in_ok-paths-in-If-default-default-Some.ensures.taken)
    (subst (λ cs. Enters ds old by cs c.args.path (λ b. not b) e paths.other) cells
    c.in_ok-paths-in-If-default-default-Some.ensures.other)
    (subst (λ z. Executes ds by half f h (Some paths.taken) z) one
    c.in_ok-execute-in-If-default-default-Some.ensures)
    (subst (λ z. Executes ds half new h g (Some paths.other) z) other
    c.in_ok-execute-in-If-default-default-Some-2.ensures))

pub execute-execute-requires : goal.execute-execute-requires
execute-execute-requires t c =
    let ds = c.args.layout.decls.now in
    let a = c.stmt.inside.attributes in
    let p = c.stmt.inside.pos in
    let e = c.in-If-default-default-None.condition in
    let x = c.in-If-default-default-None.first.value in
    let cells : c.as_slice-in-If-default-default-None.result.now ≡ c.args.frame.now.now.items = search rules in
    let inner : c.deref.result.now ≡ x = search rules in
    let kind : c.stmt.inside.kind ≡ k.If e c.in-If-default-default-None.first None = search rules in
    let same : if_only a p e x ≡ c.args.stmt.now = ap (shown a p) (sym kind) ∙ c.stmt.view_is in
    let block = subst (IsBlock ds) (sym same) c.requires.block in
    let made = c.in_ok-inner-in-If-default-default-None.ensures in
    let frame = frame_on c.args.net.now c.path_if.new.net ds (cells_of c.args.frame.now) made.adds c.requires.frame in
    let deep = ap depth same in
    let part = ap depth inner in
    (omega (arith, deep, part), (c.requires.layout, (frame, (made.node, subst (IsBlock ds) (sym inner) block.1))))

pub execute-execute-requires-in-If-default-default-Some : goal.execute-execute-requires-in-If-default-default-Some
execute-execute-requires-in-If-default-default-Some t c =
    let ds = c.args.layout.decls.now in
    let a = c.stmt.inside.attributes in
    let p = c.stmt.inside.pos in
    let e = c.in-If-default-default-Some.condition in
    let x = c.in-If-default-default-Some.first.value in
    let y = c.in-If-default-default-Some.second.value in
    let inner : c.deref-in-If-default-default-Some.result.now ≡ x = search rules in
    let tail : c.in-If-default-default-Some.field-2 ≡ Some c.in-If-default-default-Some.second = search rules in
    let kind : c.stmt.inside.kind
    ≡ k.If e c.in-If-default-default-Some.first (Some c.in-If-default-default-Some.second) =
    c.in-If-default-default-Some.is ∙ ap (k.If e c.in-If-default-default-Some.first) tail in
    let same : if_else a p e x y ≡ c.args.stmt.now = ap (shown a p) (sym kind) ∙ c.stmt.view_is in
    let block = subst (IsBlock ds) (sym same) c.requires.block in
    let made = c.in_ok-paths-in-If-default-default-Some.ensures in
    let frame = frame_on c.args.net.now c.two_paths.new.net ds (cells_of c.args.frame.now) made.taken.adds
    c.requires.frame in
    let deep = ap depth same in
    let part = ap depth inner in (
      omega (arith, deep, part),
      (c.requires.layout, (frame, (made.taken.node, subst (IsBlock ds) (sym inner) block.1.0))),
    )

pub execute-returns-in_ok-otherwise-in-Case : goal.execute-returns-in_ok-otherwise-in-Case
execute-returns-in_ok-otherwise-in-Case t c =
    let ds = c.args.layout.decls.now in
    let a = c.stmt.inside.attributes in
    let p = c.stmt.inside.pos in
    let e = c.in-Case.expr in
    let xs = c.in-Case.arms in
    let f = cells_of c.args.frame.now in
    let h = cells_of c.in_order.new.frame in
    let k = cells_of c.otherwise.new.frame in
    let old = c.args.net.now in
    let net = c.case_word.new.net in
    let mid = c.in_order.new.net in
    let new = c.otherwise.new.net in
    let rest = c.in_ok-rest-in-Case.rest in
    let word = c.in_ok-word-in-Case.word in
    let w = word.context.width in
    let s = word.context.signed in
    let made = c.in_ok-word-in-Case.ensures in
    let same : case a p c.in-Case.kind e (arms xs) ≡ c.args.stmt.now =
    ap (shown a p) (sym c.in-Case.is) ∙ c.stmt.view_is in
    let wide = made.width ∙ ap (λ ys. max (or_none (size ds e)) (arms_size (flat_scopes ds) (arms ys)))
    c.as_slice-in-Case.ensures in
    let sign_is = made.signed ∙ ap (λ ys. sign ds e && arms_sign (flat_scopes ds) (arms ys))
    c.as_slice-in-Case.ensures in
    let valued = subst (λ cs. Evaluates ds old net cs w (λ v. (operand_in (flat_scopes ds) v e).at w s) word.node)
    c.as_slice-cells.ensures.value made.node in
    let done = subst (λ z. ArmsDone ds net f c.args.path (case_test ds net z w s word.node) mid h rest xs) made.kind
    (subst (λ ys. ArmsDone ds net f c.args.path (case_test ds net word.kind w s word.node) mid h rest ys)
    c.as_slice-in-Case-2.ensures c.in_ok-rest-in-Case.ensures) in
    let last = subst (λ ys. ExecutesOther ds mid new h k rest (arms ys)) c.as_slice-in-Case-3.ensures
    c.in_ok-otherwise-in-Case.ensures in
    subst (Executes ds old new f k c.args.path) same
    (case_whole ds old net mid new f h k c.args.path rest c.in-Case.kind w s word.node a p e xs c.requires.frame
    c.requires.path valued
    (λ v. wide ∙ ap (λ n. max n (arms_size (flat_scopes ds) (arms xs))) (sym (size_in ds v e)))
    (λ v. sign_is ∙ ap (λ b. b && arms_sign (flat_scopes ds) (arms xs)) (sym (sign_in ds v e)))
    done last)

pub execute-case_word-requires-clause-arms : goal.execute-case_word-requires-clause-arms
execute-case_word-requires-clause-arms t c =
    let ds = c.args.layout.decls.now in
    let a = c.stmt.inside.attributes in
    let p = c.stmt.inside.pos in
    let same : case a p c.in-Case.kind c.in-Case.expr (arms c.in-Case.arms) ≡ c.args.stmt.now =
    ap (shown a p) (sym c.in-Case.is) ∙ c.stmt.view_is in
    let block = subst (IsBlock ds) (sym same) c.requires.block in
    subst (λ ys. AreLedTo ds (arms ys)) (sym c.as_slice-in-Case.ensures) (led_to ds _ (arms c.in-Case.arms) block.1.1)

pub execute-in_order-requires : goal.execute-in_order-requires
execute-in_order-requires t c =
    let ds = c.args.layout.decls.now in
    let a = c.stmt.inside.attributes in
    let p = c.stmt.inside.pos in
    let same : case a p c.in-Case.kind c.in-Case.expr (arms c.in-Case.arms) ≡ c.args.stmt.now =
    ap (shown a p) (sym c.in-Case.is) ∙ c.stmt.view_is in
    let block = subst (IsBlock ds) (sym same) c.requires.block in
    let led = subst (λ ys. AreLedTo ds (arms ys)) (sym c.as_slice-in-Case-2.ensures)
    (led_to ds _ (arms c.in-Case.arms) block.1.1) in
    let made = c.in_ok-word-in-Case.ensures.node in
    let frame = frame_on c.args.net.now c.case_word.new.net ds (cells_of c.args.frame.now) made.adds c.requires.frame
    in
    let way = path_there c.args.net.now c.case_word.new.net c.args.path made.adds c.requires.path in
    let deep = falls a p c.stmt.inside.kind in
    let kind = ap (λ z. deep-StmtKind z) c.in-Case.is in
    let whole = ap depth c.stmt.view_is in
    let arms_deep = most_le-arm_size c.as_slice-in-Case-2.result.now in
    let slice = ap (λ ys. arms_depth (arms ys)) c.as_slice-in-Case-2.ensures in
    let parts = ap depth same in
    (omega (arith, deep, kind, whole, arms_deep, slice, parts), (c.requires.layout, (frame, (way, (made.node, led)))))

pub execute-otherwise-requires : goal.execute-otherwise-requires
execute-otherwise-requires t c =
    let ds = c.args.layout.decls.now in
    let a = c.stmt.inside.attributes in
    let p = c.stmt.inside.pos in
    let same : case a p c.in-Case.kind c.in-Case.expr (arms c.in-Case.arms) ≡ c.args.stmt.now =
    ap (shown a p) (sym c.in-Case.is) ∙ c.stmt.view_is in
    let block = subst (IsBlock ds) (sym same) c.requires.block in
    let led = subst (λ ys. AreLedTo ds (arms ys)) (sym c.as_slice-in-Case-3.ensures)
    (led_to ds _ (arms c.in-Case.arms) block.1.1) in
    let done = c.in_ok-rest-in-Case.ensures in
    let arms_deep = most_le-arm_size c.as_slice-in-Case-3.result.now in
    let slice = ap (λ ys. arms_depth (arms ys)) c.as_slice-in-Case-3.ensures in
    let parts = ap depth same in
    (omega (arith, arms_deep, slice, parts), (c.requires.layout, (done.steps.frame, (done.way, led))))

pub execute-assign-requires-clause-target : goal.execute-assign-requires-clause-target
execute-assign-requires-clause-target t c =
    let ds = c.args.layout.decls.now in
    let a = c.stmt.inside.attributes in
    let p = c.stmt.inside.pos in
    let same : assign a p c.in-Assign.target c.in-Assign.kind c.in-Assign.expr ≡ c.args.stmt.now =
    ap (shown a p) (sym c.in-Assign.is) ∙ c.stmt.view_is in
    let block = subst (IsBlock ds) (sym same) c.requires.block in
    sized_target ds is_variable false c.in-Assign.target block.0.0

pub execute-returns-in_ok-assign-in-Assign : goal.execute-returns-in_ok-assign-in-Assign
execute-returns-in_ok-assign-in-Assign t c =
    let ds = c.args.layout.decls.now in
    let a = c.stmt.inside.attributes in
    let p = c.stmt.inside.pos in
    let same : assign a p c.in-Assign.target c.in-Assign.kind c.in-Assign.expr ≡ c.args.stmt.now =
    ap (shown a p) (sym c.in-Assign.is) ∙ c.stmt.view_is in
    subst (Executes ds c.args.net.now c.assign.new.net (cells_of c.args.frame.now) (cells_of c.assign.new.frame)
    c.args.path)
    same (c.in_ok-assign-in-Assign.ensures a p)

pub execute-returns-in_ok-assume-in-Assume : goal.execute-returns-in_ok-assume-in-Assume
execute-returns-in_ok-assume-in-Assume t c =
    let ds = c.args.layout.decls.now in
    let a = c.stmt.inside.attributes in
    let p = c.stmt.inside.pos in
    let same : assume a p c.in-Assume.expr ≡ c.args.stmt.now = ap (shown a p) (sym c.in-Assume.is) ∙ c.stmt.view_is in
    subst (Executes ds c.args.net.now c.assume.new.net (cells_of c.args.frame.now) (cells_of c.assume.new.frame)
    c.args.path)
    same (c.in_ok-assume-in-Assume.ensures a p)

pub execute-returns-in-Empty : goal.execute-returns-in-Empty
execute-returns-in-Empty t c =
    let ds = c.args.layout.decls.now in
    let a = c.stmt.inside.attributes in
    let p = c.stmt.inside.pos in
    let f = cells_of c.args.frame.now in
    let same : empty a p ≡ c.args.stmt.now = ap (shown a p) (sym c.in-Empty.is) ∙ c.stmt.view_is in
    subst (Executes ds c.args.net.now c.args.net.now f f c.args.path) same
    (nothing ds c.args.net.now f c.args.path a p c.requires.frame)

-- ---- one after the other

pub sequence-loop-stmt-init : goal.sequence-loop-stmt-init
sequence-loop-stmt-init t c = record {
  left = c.requires.each;
  done = all_none c.args.layout.decls.now c.args.net.now (cells_of c.args.frame.now) c.args.path c.requires.frame;
}

pub sequence-loop-stmt-preserved : goal.sequence-loop-stmt-preserved
sequence-loop-stmt-preserved t c =
    let ds = c.args.layout.decls.now in
    let xs = c.args.all.now in
    let i = c.loop-stmt.stmt-index in
    let s = c.stmt-item.result in
    let old = c.args.net.now in
    let mid = c.loop-stmt.net in
    let new = c.execute.new.net in
    let f = cells_of c.args.frame.now in
    let h = cells_of c.loop-stmt.frame in
    let after = cells_of c.execute.new.frame in
    let front : drop i xs ≡ s ∷ drop (i + 1) xs = grind (arith, common_steps) in
    let more : take (i + 1) xs ≡ take i xs ++ s ∷ [] = grind (arith, common_steps) in
    let blocks = subst (λ ys. AreBlocks ds (stmts ys)) front c.loop-stmt.invariant.left in
    record {
      left = blocks.1;
      done = subst (λ ys. ExecutesAll ds old new f after c.args.path (stmts ys)) (sym more)
          (all_more ds old mid new f h after c.args.path (take i xs) s c.requires.path c.loop-stmt.invariant.done
          c.in_ok-execute.ensures);
    }

pub sequence-returns : goal.sequence-returns
sequence-returns t c =
    let ds = c.args.layout.decls.now in
    let xs = c.args.all.now in
    let i = c.loop-stmt.stmt-index in
    let past : length xs ≤ i = grind (arith, common_steps) in
    subst (λ ys. ExecutesAll ds c.args.net.now c.loop-stmt.net (cells_of c.args.frame.now) (cells_of c.loop-stmt.frame)
    c.args.path (stmts ys)) (take_all i xs past) c.loop-stmt.invariant.done

-- ---- cases

pub in_order-loop-arm-init : goal.in_order-loop-arm-init
in_order-loop-arm-init t c = record {
  left = c.requires.arms;
  done = arms_none c.args.layout.decls.now c.args.net.now (cells_of c.args.frame.now) c.args.path _ c.requires.frame
      c.requires.path;
}

pub in_order-one_arm-requires : goal.in_order-one_arm-requires
in_order-one_arm-requires t c =
    let ds = c.args.layout.decls.now in
    let xs = c.args.all.now in
    let i = c.loop-arm.arm-index in
    let x = c.arm-item.result in
    let front : drop i xs ≡ x ∷ drop (i + 1) xs = grind (arith, common_steps) in
    let done = c.loop-arm.invariant.done in
    let word = node_on c.args.net.now c.loop-arm.net c.args.word.context.width c.args.word.node done.steps.adds
    c.requires.word in
    let led = first_led_to ds x (drop (i + 1) xs) (subst (λ ys. AreLedTo ds (arms ys)) front
    c.loop-arm.invariant.left) in
    let less = at_most (λ y. size-Arm y) xs i x c.loop-arm-test.true in
    let same = ap (λ y. size-Arm y) c.arm-item.is in
    (omega (arith, less, same), (c.requires.layout, (done.steps.frame, (done.way, (word, led)))))

pub in_order-loop-arm-preserved : goal.in_order-loop-arm-preserved
in_order-loop-arm-preserved t c =
    let ds = c.args.layout.decls.now in
    let word = c.args.word in
    let xs = c.args.all.now in
    let i = c.loop-arm.arm-index in
    let x = c.arm-item.result in
    let rest = drop (i + 1) xs in
    let old = c.args.net.now in
    let f = cells_of c.args.frame.now in
    let front : drop i xs ≡ x ∷ rest = grind (arith, common_steps) in
    let more : take (i + 1) xs ≡ take i xs ++ x ∷ [] = grind (arith, common_steps) in
    let test = case_test ds old word.kind word.context.width word.context.signed word.node in
    record {
      left = others_led_to ds x rest (subst (λ ys. AreLedTo ds (arms ys)) front c.loop-arm.invariant.left);
      done =
          subst (λ ys. ArmsDone ds old f c.args.path test c.one_arm.new.net (cells_of c.one_arm.new.frame)
          c.in_ok-rest.rest ys)
          (sym more)
          (c.in_ok-rest.ensures old f c.args.path (take i xs) c.requires.word.0 c.loop-arm.invariant.done);
    }

pub in_order-returns : goal.in_order-returns
in_order-returns t c =
    let ds = c.args.layout.decls.now in
    let word = c.args.word in
    let xs = c.args.all.now in
    let i = c.loop-arm.arm-index in
    let past : length xs ≤ i = grind (arith, common_steps) in
    let test = case_test ds c.args.net.now word.kind word.context.width word.context.signed word.node in
    subst (λ ys. ArmsDone ds c.args.net.now (cells_of c.args.frame.now) c.args.path test c.loop-arm.net
    (cells_of c.loop-arm.frame) c.loop-arm.rest ys) (take_all i xs past) c.loop-arm.invariant.done

-- ---- one arm

pub one_arm-some_matches-requires-clause-sized : goal.one_arm-some_matches-requires-clause-sized
one_arm-some_matches-requires-clause-sized t c =
    let ds = c.args.layout.decls.now in
    let led = subst (λ x. AreLedTo ds (with_arm x no_arms)) c.in-Labels.is c.requires.arm in
    subst (AreSized ds) (sym c.as_slice-in-Labels.ensures) led.0

pub one_arm-path_where-requires-clause-path : goal.one_arm-path_where-requires-clause-path
one_arm-path_where-requires-clause-path t c =
    path_there c.args.net.now c.some_matches.new.net c.args.path c.in_ok-hit-in-Labels.ensures.adds c.requires.path

pub one_arm-path_unless-requires-clause-path : goal.one_arm-path_unless-requires-clause-path
one_arm-path_unless-requires-clause-path t c =
    path_there c.some_matches.new.net c.path_where.new.net c.args.path c.in_ok-taken-in-Labels.ensures.adds
    (path_there c.args.net.now c.some_matches.new.net c.args.path c.in_ok-hit-in-Labels.ensures.adds c.requires.path)

pub one_arm-returns-in_ok-execute-in-Labels : goal.one_arm-returns-in_ok-execute-in-Labels
one_arm-returns-in_ok-execute-in-Labels t c = λ first f way xs there done.
    let ds = c.args.layout.decls.now in
    let word = c.args.word in
    let s = c.in-Labels.stmt.value in
    let mid = c.args.net.now in
    let at = c.some_matches.new.net in
    let half = c.path_where.new.net in
    let by = c.path_unless.new.net in
    let new = c.execute.new.net in
    let h = cells_of c.args.frame.now in
    let k = cells_of c.execute.new.frame in
    let hit = c.in_ok-hit-in-Labels.hit in
    let taken = c.in_ok-taken-in-Labels.taken in
    let other = c.in_ok-other-in-Labels.other in
    let one = c.in_ok-taken-in-Labels.ensures in
    let two = c.in_ok-other-in-Labels.ensures in
    let inner : c.deref.result.now ≡ s = search rules in
    let test = case_test ds first word.kind word.context.width word.context.signed word.node in
    let found = subst (λ ys. Matches ds mid at h.now word.kind word.context.width word.context.signed word.node ys hit)
    c.as_slice-in-Labels.ensures
    (subst (λ cs. Matches ds mid at cs word.kind word.context.width word.context.signed word.node
    c.as_slice-in-Labels.result.now hit) c.as_slice.ensures.value c.in_ok-hit-in-Labels.ensures) in
    let step = subst (λ y. Executes ds by new h k (Some taken) y) inner c.in_ok-execute-in-Labels.ensures in
    subst (λ y. ArmsDone ds first f way test new k (Some other) (xs ++ y ∷ [])) (sym c.in-Labels.is)
    (arm_done ds first f way word.kind word.context.width word.context.signed word.node mid at half by new h k
    c.args.path hit taken other xs _ c.in-Labels.labels s there done (λ u b. refl) (λ u w b. refl) (λ b. refl) found
    one.adds two.adds one.there two.there one.value two.value step)

pub one_arm-execute-requires : goal.one_arm-execute-requires
one_arm-execute-requires t c =
    let ds = c.args.layout.decls.now in
    let one = c.in_ok-taken-in-Labels.ensures in
    let two = c.in_ok-other-in-Labels.ensures in
    let adds = adds_on c.args.net.now c.some_matches.new.net c.path_unless.new.net c.in_ok-hit-in-Labels.ensures.adds
    (adds_on c.some_matches.new.net c.path_where.new.net c.path_unless.new.net one.adds two.adds) in
    let frame = frame_on c.args.net.now c.path_unless.new.net ds (cells_of c.args.frame.now) adds c.requires.frame in
    let way = node_on c.path_where.new.net c.path_unless.new.net 1 c.in_ok-taken-in-Labels.taken two.adds one.there in
    let led = subst (λ x. AreLedTo ds (with_arm x no_arms)) c.in-Labels.is c.requires.arm in
    let block = subst (IsBlock ds) (sym c.deref.ensures) led.1.0 in
    let size = ap (λ x. size-Arm x) c.in-Labels.is in
    let inner = ap (λ y. size-Stmt y) c.deref.ensures in
    (omega (arith, size, inner), (c.requires.layout, (frame, (way, block))))

pub one_arm-returns-in-Default : goal.one_arm-returns-in-Default
one_arm-returns-in-Default t c = λ first f way xs there done.
    let ds = c.args.layout.decls.now in
    let word = c.args.word in
    let net = c.args.net.now in
    let h = cells_of c.args.frame.now in
    let test = case_test ds first word.kind word.context.width word.context.signed word.node in
    subst (λ y. ArmsDone ds first f way test net h c.args.path (xs ++ y ∷ [])) (sym c.in-Default.is)
    (arms_default ds first f way test net h c.args.path xs _ (λ u b. refl) (λ u w b. refl)
    (λ b. default_unmatched ds b xs _ refl) done)

-- ---- the default

pub otherwise-loop-arm-init : goal.otherwise-loop-arm-init
otherwise-loop-arm-init t c = record {
  left = c.requires.arms;
  net = refl;
  frame = refl;
  other = λ u. refl;
  stores = λ u w. refl;
}

pub otherwise-loop-arm-preserved : goal.otherwise-loop-arm-preserved
otherwise-loop-arm-preserved t c =
    let ds = c.args.layout.decls.now in
    let xs = c.args.all.now in
    let i = c.loop-arm.arm-index in
    let x = c.arm-item.result in
    let rest = drop (i + 1) xs in
    let front : drop i xs ≡ x ∷ rest = grind (arith, common_steps) in
    let inv = c.loop-arm.invariant in
    record {
      left = others_led_to ds x rest (subst (λ ys. AreLedTo ds (arms ys)) front inv.left);
      net = inv.net;
      frame = inv.frame;
      other = λ u. sym (ap (λ y. otherwise (flat_scopes ds) (with_arm y (arms rest)) u) c.in-Labels.is)
          ∙ ap (λ ys. otherwise (flat_scopes ds) (arms ys) u) (sym front) ∙ inv.other u;
      stores = λ u w. sym (ap (λ y. otherwise_stored (flat_scopes ds) (with_arm y (arms rest)) u w) c.in-Labels.is)
          ∙ ap (λ ys. otherwise_stored (flat_scopes ds) (arms ys) u w) (sym front) ∙ inv.stores u w;
    }

pub otherwise-returns-in-Default : goal.otherwise-returns-in-Default
otherwise-returns-in-Default t c =
    let ds = c.args.layout.decls.now in
    let xs = c.args.all.now in
    let i = c.loop-arm.arm-index in
    let x = c.arm-item.result in
    let rest = drop (i + 1) xs in
    let s = c.in-Default.stmt.value in
    let inner : c.deref.result.now ≡ s = search rules in
    let front : drop i xs ≡ x ∷ rest = grind (arith, common_steps) in
    let inv = c.loop-arm.invariant in
    let new = c.execute.new.net in
    let k = cells_of c.execute.new.frame in
    let step = subst (λ y. Executes ds c.loop-arm.net new (cells_of c.loop-arm.frame) k c.args.path y) inner
    c.in_ok-execute-in-Default.ensures in
    subst (λ n. ExecutesOther ds n new (cells_of c.args.frame.now) k c.args.path (arms xs)) inv.net
    (subst (λ g. ExecutesOther ds c.loop-arm.net new g k c.args.path (arms xs)) inv.frame
    (other_one ds c.loop-arm.net new (cells_of c.loop-arm.frame) k c.args.path (arms xs) s step
    (λ u. sym (inv.other u) ∙ ap (λ ys. otherwise (flat_scopes ds) (arms ys) u) front
    ∙ ap (λ y. otherwise (flat_scopes ds) (with_arm y (arms rest)) u) c.in-Default.is)
    (λ u w. sym (inv.stores u w) ∙ ap (λ ys. otherwise_stored (flat_scopes ds) (arms ys) u w) front
    ∙ ap (λ y. otherwise_stored (flat_scopes ds) (with_arm y (arms rest)) u w) c.in-Default.is)))

pub otherwise-returns : goal.otherwise-returns
otherwise-returns t c =
    let ds = c.args.layout.decls.now in
    let xs = c.args.all.now in
    let gone : drop c.loop-arm.arm-index xs ≡ [] = grind (arith, common_steps) in
    let inv = c.loop-arm.invariant in
    let f = cells_of c.args.frame.now in
    let h = cells_of c.loop-arm.frame in
    subst (λ n. ExecutesOther ds c.args.net.now n f h c.args.path (arms xs)) (sym inv.net)
    (subst (λ g. ExecutesOther ds c.args.net.now c.args.net.now f g c.args.path (arms xs)) (sym inv.frame)
    (other_none ds c.args.net.now f c.args.path (arms xs) c.requires.frame
    (λ u. sym (inv.other u) ∙ ap (λ ys. otherwise (flat_scopes ds) (arms ys) u) gone)
    (λ u w. sym (inv.stores u w) ∙ ap (λ ys. otherwise_stored (flat_scopes ds) (arms ys) u w) gone)))
