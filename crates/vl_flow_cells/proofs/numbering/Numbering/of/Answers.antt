use Rattle.std.proofs.Common.{◌≡◌, ◌+◌, ◌<◌, ap, sym, ◌∙◌, arith, suc, true≢false, length, slice_get, [], ◌∷◌, ◌++◌}
use Rattle.std.specs.Prelude.{is_none}
use Rattle.std.specs.Option.{option_copied}
use Rattle.vl_mean.specs.FlatLaw.{IsKept}
use Rattle.vl_flow_cells.specs.Numbered.{first_cell}
use Rattle.vl_flow_cells.proofs.Lists.{all_at, get_some}
use Rattle.vl_flow_cells.proofs.Numbers.{first_few, first_none, firsts_more, length_more, next_first}
use Rattle.vl_flow_cells.proofs.numbering.Numbering.of.Goals as goal

pub loop-index-init : goal.loop-index-init
loop-index-init c = record {
  size = ap length c.new-firsts.ensures;
  firsts = λ i first e.
      absurd (true≢false (ap is_none (ap (λ xs. slice_get xs i) (sym c.new-firsts.ensures) ∙ e)));
  next = sym (first_none c.args.decls.now);
}

pub unreachable-requires : goal.unreachable-requires
unreachable-requires c =
    let ds = c.args.decls.now in
    let less : c.loop-index.index < length ds = omega (arith, c.loop-index-test.true, c.len-index-end.ensures.value) in
    let r = get_some ds c.loop-index.index less in
    true≢false (ap is_none (sym (ap option_copied c.in-None.is) ∙ c.get.ensures ∙ r.1))

pub cell_count-next-requires : goal.cell_count-next-requires
cell_count-next-requires c =
    all_at IsKept c.args.decls.now c.loop-index.index c.in-Some.decl.now
    (sym c.get.ensures ∙ ap option_copied c.in-Some.is) c.requires.kept

pub overflow_add-next : goal.overflow_add-next
overflow_add-next c =
    let ds = c.args.decls.now in
    let i = c.loop-index.index in
    let at = sym c.get.ensures ∙ ap option_copied c.in-Some.is in
    let more = next_first ds i c.in-Some.decl.now at in
    let few = first_few ds (suc i) in
    omega (arith, c.loop-index.invariant.next, c.cell_count-next.ensures.value, more, few, c.requires.few)

pub loop-index-preserved : goal.loop-index-preserved
loop-index-preserved c =
    let ds = c.args.decls.now in
    let i = c.loop-index.index in
    let xs = c.loop-index.firsts in
    let at = sym c.get.ensures ∙ ap option_copied c.in-Some.is in
    let more = next_first ds i c.in-Some.decl.now at in
    let items : c.push.new.self ≡ xs ++ c.loop-index.next ∷ [] = c.in_ok-push.ensures.ok in
    let size = length_more xs c.loop-index.next in
    let next : i + 1 ≡ suc i = omega arith in
    record {
      size = ap length items ∙ size ∙ ap (λ n. n + 1) c.loop-index.invariant.size;
      firsts = λ j first e.
          firsts_more ds xs c.loop-index.next i c.loop-index.invariant.size c.loop-index.invariant.next
          c.loop-index.invariant.firsts j first (ap (λ ys. slice_get ys j) (sym items) ∙ e);
      next = (λ j. c.loop-index.invariant.next j + c.cell_count-next.ensures.value j) ∙ sym more
          ∙ ap (first_cell ds) (sym next);
    }
