use Rattle.std.proofs.Common.{◌≡◌, ◌+◌, ◌∷◌, ◌||◌, drop, ap, sym, ◌∙◌, subst, arith, rules}
use Rattle.std.proofs.lemmas.Grind.{common_steps}
use Rattle.vl_tree.specs.Expr.{binary, conditional, repeat, exprs, whole}
use Rattle.vl_tree.specs.ExprView.{shown, selects, with_select}
use Rattle.vl_flow_spec.specs.Reads.{reads, parts_read, selects_read}
use Rattle.vl_flow_cells.specs.Numbered.{Adds}
use Rattle.vl_flow_cells.specs.Sized.{AreSized, IsSized, SelectsAreSized}
use Rattle.vl_flow_cells.proofs.Adding.{adds_then, adds_name, adds_same, adds_as, adds_pair, select_sized, select_first}
use Rattle.vl_flow_cells.proofs.reads.+reads.Goals as goal

pub all_read-loop-part-preserved : goal.all_read-loop-part-preserved
all_read-loop-part-preserved t c =
    let ds = c.args.decls.now in
    let xs = c.args.all.now in
    let i = c.loop-part.part-index in
    let e = c.part-item.result in
    let front : drop i xs ≡ e ∷ drop (i + 1) xs = grind (arith, common_steps) in
    let old = c.loop-part.into.items in
    let new = c.expr_reads.new.into.items in record {
      left = λ h. (subst (λ es. AreSized ds (exprs es)) front (c.loop-part.invariant.left h)).1;
      added = λ h zs rest. c.loop-part.invariant.added h zs
          (subst (λ es. Adds ds old zs (parts_read ds (exprs es))) (sym front)
          (adds_then ds old new zs (reads ds e) (parts_read ds (exprs (drop (i + 1) xs)))
          (c.in_ok-expr_reads.ensures (subst (λ es. AreSized ds (exprs es)) front (c.loop-part.invariant.left h)).0)
          rest));
    }

pub expr_reads-returns-in_ok-selects_read-in-Name : goal.expr_reads-returns-in_ok-selects_read-in-Name
expr_reads-returns-in_ok-selects_read-in-Name t c =
    let p = c.expr.inside.pos in
    adds_name c.args.decls.now p c.in-Name.text c.in-Name.all c.as_slice.result.now c.as_slice-in-Name.result.now
    c.args.expr.now c.args.into.now.items c.put.new.runs.items c.selects_read.new.into.items c.taken.result
    (search rules) (search rules) (ap (shown p) (sym c.in-Name.is) ∙ c.expr.view_is) c.in_ok-put-in-Name.ensures
    c.taken.ensures c.in_ok-selects_read-in-Name.ensures

pub expr_reads-returns-in_ok-expr_reads-in-Binary-2 : goal.expr_reads-returns-in_ok-expr_reads-in-Binary-2
expr_reads-returns-in_ok-expr_reads-in-Binary-2 t c sized =
    let ds = c.args.decls.now in
    let p = c.expr.inside.pos in
    let x = c.in-Binary.left.value in
    let y = c.in-Binary.right.value in
    let old = c.args.into.now.items in
    let mid = c.expr_reads.new.into.items in
    let new = c.expr_reads-in-Binary.new.into.items in
    let left : c.deref.result.now ≡ x = search rules in
    let right : c.deref-in-Binary.result.now ≡ y = search rules in
    let same : binary p c.in-Binary.field-0 x y ≡ c.args.expr.now =
    ap (shown p) (sym c.in-Binary.is) ∙ c.expr.view_is in
    let parts : IsSized ds x × IsSized ds y = subst (IsSized ds) (sym same) sized in
    subst (λ e. Adds ds old new (reads ds e)) same
    (adds_then ds old mid new (reads ds x) (reads ds y)
    (adds_same ds c.deref.result.now x old mid left c.in_ok-expr_reads-in-Binary.ensures parts.0)
    (adds_same ds c.deref-in-Binary.result.now y mid new right c.in_ok-expr_reads-in-Binary-2.ensures parts.1))

pub expr_reads-returns-in_ok-expr_reads-in-Conditional-3 : goal.expr_reads-returns-in_ok-expr_reads-in-Conditional-3
expr_reads-returns-in_ok-expr_reads-in-Conditional-3 t c sized =
    let ds = c.args.decls.now in
    let p = c.expr.inside.pos in
    let w = c.in-Conditional.condition.value in
    let x = c.in-Conditional.first.value in
    let y = c.in-Conditional.second.value in
    let old = c.args.into.now.items in
    let one = c.expr_reads-in-Conditional.new.into.items in
    let two = c.expr_reads-in-Conditional-2.new.into.items in
    let new = c.expr_reads-in-Conditional-3.new.into.items in
    let condition : c.deref-in-Conditional.result.now ≡ w = search rules in
    let first : c.deref-in-Conditional-2.result.now ≡ x = search rules in
    let second : c.deref-in-Conditional-3.result.now ≡ y = search rules in
    let same : conditional p w x y ≡ c.args.expr.now = ap (shown p) (sym c.in-Conditional.is) ∙ c.expr.view_is in
    let parts : IsSized ds w × (IsSized ds x × IsSized ds y) = subst (IsSized ds) (sym same) sized in
    subst (λ e. Adds ds old new (reads ds e)) same
    (adds_then ds old one new (reads ds w) (λ n i. reads ds x n i || reads ds y n i)
    (adds_same ds c.deref-in-Conditional.result.now w old one condition c.in_ok-expr_reads-in-Conditional.ensures
    parts.0)
    (adds_then ds one two new (reads ds x) (reads ds y)
    (adds_same ds c.deref-in-Conditional-2.result.now x one two first c.in_ok-expr_reads-in-Conditional-2.ensures
    parts.1.0)
    (adds_same ds c.deref-in-Conditional-3.result.now y two new second
    c.in_ok-expr_reads-in-Conditional-3.ensures parts.1.1)))

pub expr_reads-returns-in_ok-all_read-in-Repeat : goal.expr_reads-returns-in_ok-all_read-in-Repeat
expr_reads-returns-in_ok-all_read-in-Repeat t c sized =
    let ds = c.args.decls.now in
    let p = c.expr.inside.pos in
    let x = c.in-Repeat.count.value in
    let es = c.in-Repeat.parts in
    let old = c.args.into.now.items in
    let mid = c.expr_reads-in-Repeat.new.into.items in
    let new = c.all_read-in-Repeat.new.into.items in
    let count : c.deref-in-Repeat.result.now ≡ x = search rules in
    let slice : c.as_slice-in-Repeat.result.now ≡ es = search rules in
    let same : repeat p x (exprs es) ≡ c.args.expr.now = ap (shown p) (sym c.in-Repeat.is) ∙ c.expr.view_is in
    let parts : IsSized ds x × AreSized ds (exprs es) = subst (IsSized ds) (sym same) sized in
    subst (λ e. Adds ds old new (reads ds e)) same
    (adds_then ds old mid new (reads ds x) (parts_read ds (exprs es))
    (adds_same ds c.deref-in-Repeat.result.now x old mid count c.in_ok-expr_reads-in-Repeat.ensures parts.0)
    (subst (λ xs. AreSized ds (exprs xs) → Adds ds mid new (parts_read ds (exprs xs))) slice
    c.in_ok-all_read-in-Repeat.ensures parts.1))

pub select_reads-returns-in_ok-expr_reads-in-Part-2 : goal.select_reads-returns-in_ok-expr_reads-in-Part-2
select_reads-returns-in_ok-expr_reads-in-Part-2 t c sized =
    let ds = c.args.decls.now in
    let x = c.in-Part.left.value in
    let y = c.in-Part.right.value in
    let old = c.args.into.now.items in
    let mid = c.expr_reads-in-Part.new.into.items in
    let new = c.expr_reads-in-Part-2.new.into.items in
    let left : c.deref-in-Part.result.now ≡ x = search rules in
    let right : c.deref-in-Part-2.result.now ≡ y = search rules in
    let parts = subst (λ s. SelectsAreSized ds (with_select s whole)) c.in-Part.is sized in
    subst (λ s. Adds ds old new (selects_read ds (with_select s whole))) (sym c.in-Part.is)
    (adds_pair ds c.deref-in-Part.result.now c.deref-in-Part-2.result.now x y old mid new left right
    c.in_ok-expr_reads-in-Part.ensures c.in_ok-expr_reads-in-Part-2.ensures parts.0)

pub select_reads-returns-in_ok-expr_reads-in-Indexed-2 : goal.select_reads-returns-in_ok-expr_reads-in-Indexed-2
select_reads-returns-in_ok-expr_reads-in-Indexed-2 t c sized =
    let ds = c.args.decls.now in
    let x = c.in-Indexed.start.value in
    let y = c.in-Indexed.count.value in
    let old = c.args.into.now.items in
    let mid = c.expr_reads-in-Indexed.new.into.items in
    let new = c.expr_reads-in-Indexed-2.new.into.items in
    let left : c.deref-in-Indexed.result.now ≡ x = search rules in
    let right : c.deref-in-Indexed-2.result.now ≡ y = search rules in
    let parts = subst (λ s. SelectsAreSized ds (with_select s whole)) c.in-Indexed.is sized in
    subst (λ s. Adds ds old new (selects_read ds (with_select s whole))) (sym c.in-Indexed.is)
    (adds_pair ds c.deref-in-Indexed.result.now c.deref-in-Indexed-2.result.now x y old mid new left right
    c.in_ok-expr_reads-in-Indexed.ensures c.in_ok-expr_reads-in-Indexed-2.ensures parts.0)

pub selects_read-loop-select-preserved : goal.selects_read-loop-select-preserved
selects_read-loop-select-preserved t c =
    let ds = c.args.decls.now in
    let xs = c.args.all.now in
    let i = c.loop-select.select-index in
    let s = c.select-item.result in
    let rest = selects (drop (i + 1) xs) in
    let front : drop i xs ≡ s ∷ drop (i + 1) xs = grind (arith, common_steps) in
    let old = c.loop-select.into.items in
    let new = c.select_reads.new.into.items in record {
      left = λ h. (select_sized ds s rest (subst (λ ys. SelectsAreSized ds (selects ys)) front
          (c.loop-select.invariant.left h))).1;
      added = λ h zs others. c.loop-select.invariant.added h zs
          (subst (λ ys. Adds ds old zs (selects_read ds (selects ys))) (sym front)
          (adds_as ds old zs (λ n k. selects_read ds (with_select s whole) n k || selects_read ds rest n k)
          (selects_read ds (with_select s rest)) (select_first ds s rest)
          (adds_then ds old new zs (selects_read ds (with_select s whole)) (selects_read ds rest)
          (c.in_ok-select_reads.ensures (select_sized ds s rest (subst (λ ys. SelectsAreSized ds (selects ys)) front
          (c.loop-select.invariant.left h))).0) others)));
    }
