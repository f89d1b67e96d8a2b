use Rattle.std.proofs.Common.{rules, Some, ◌∙◌, sym, subst}
use Rattle.std.specs.Prelude.{IsTrue, int_le}
use mir.Val.{SFits}
use mir.Syntax.{w64}
use Rattle.std.proofs.lemmas.Int.{to_z-of_z}
use Rattle.vl_size.specs.Size.{is_bound}
use Rattle.vl_size.specs.Table.{span}
use Rattle.vl_flow_cells.proofs.Numbers.{memory_bounds, words_count}
use Rattle.vl_flow_cells.proofs.Words.{words_length}
use Rattle.vl_flow_cells.proofs.numbering.cell_count.Goals as goal

pub words_between-requires-clause-left : goal.words_between-requires-clause-left
words_between-requires-clause-left c =
    let fits : SFits w64 c.in-Some.left = search rules in
    subst (λ i. IsTrue (is_bound i)) (sym (to_z-of_z w64 c.in-Some.left fits))
    (memory_bounds c.args.decl.now (c.in-Some.left, c.in-Some.right) c.in-Some.is c.requires).0

pub words_between-requires-clause-right : goal.words_between-requires-clause-right
words_between-requires-clause-right c =
    let fits : SFits w64 c.in-Some.right = search rules in
    subst (λ i. IsTrue (is_bound i)) (sym (to_z-of_z w64 c.in-Some.right fits))
    (memory_bounds c.args.decl.now (c.in-Some.left, c.in-Some.right) c.in-Some.is c.requires).1

pub returns-in-Some-clause-value : goal.returns-in-Some-clause-value
returns-in-Some-clause-value c =
    let l = c.in-Some.left in
    let r = c.in-Some.right in
    let d = c.args.decl.now in
    let fits_l : SFits w64 l = search rules in
    let fits_r : SFits w64 r = search rules in
    c.words_between.ensures.value ∙ (λ j. span (to_z-of_z w64 l fits_l j) (to_z-of_z w64 r fits_r j))
    ∙ sym (words_length d.name (span l r) (int_le l r) l) ∙ sym (words_count d (Some (l, r)) c.in-Some.is)
