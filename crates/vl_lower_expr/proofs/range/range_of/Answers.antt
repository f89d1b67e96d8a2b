use Rattle.std.specs.Prelude.{◌≡◌, Bool, true, false, ℤ, Some, None, is_some, is_none, if◌then◌else◌}
use mir.Syntax.{w64}
use mir.Val.{to_z, of_z}
use Rattle.std.proofs.Common.{ap, sym, ◌∙◌, true≢false, arith}
use Rattle.std.proofs.lemmas.Int.{ints}
use Rattle.std.proofs.lemmas.Option.{same_Some}
use Rattle.fv_text.specs.declared.pos.Pos.{Pos}
use Rattle.fv_bits.specs.Bits.{as_int}
use Rattle.vl_size.specs.Size.{no_names, is_bound, part_size, offset_of}
use Rattle.vl_size.specs.Table.{span}
use Rattle.vl_lower_expr.proofs.Sized.{is_part, is_range}
use Rattle.vl_lower_expr.proofs.Finding.{bound_whole}
use Rattle.vl_lower_expr.proofs.range.range_of.Goals as goal

here : Pos
here = record { file = 0; line = 0; col = 0 }

pub constant-left-requires : goal.constant-left-requires
constant-left-requires c =
    (is_part c.args.names.decls.now c.args.decl.now here c.args.left.now c.args.right.now (c.requires.sized here)).left

pub constant-right-requires : goal.constant-right-requires
constant-right-requires c =
    (is_part c.args.names.decls.now c.args.decl.now here c.args.left.now c.args.right.now (c.requires.sized here)).right

pub unreachable-requires : goal.unreachable-requires
unreachable-requires c =
    let h = is_part c.args.names.decls.now c.args.decl.now here c.args.left.now c.args.right.now
    (c.requires.sized here) in
    true≢false (sym (h.sized no_names)
    ∙ ap is_some ((λ i. part_size c.args.decl.now (sym (c.constant-left.ensures no_names) i)
    (sym (c.constant-right.ensures no_names) i)) ∙ sym c.part_size.ensures.value ∙ c.in_default.is))

pub returns-clause-count : goal.returns-clause-count
returns-clause-count c = λ v.
    let l = as_int c.constant-left.result.width c.constant-left.result.signed c.constant-left.result.number in
    let r = as_int c.constant-right.result.width c.constant-right.result.signed c.constant-right.result.number in
    let h = is_range c.args.decl.now l r c.in-Some.count (sym c.part_size.ensures.value ∙ c.in-Some.is) in
    h.bits ∙ (λ i. span (c.constant-left.ensures v i) (c.constant-right.ensures v i))

taken : (b : Bool) (x y : ℤ) → (if b then Some x else None) ≡ Some y → y ≡ x
taken true x y h = sym (same_Some x y h)
taken false x y h = absurd (true≢false (ap is_none h))

pub returns-clause-place : goal.returns-clause-place
returns-clause-place c = λ v.
    let d = c.args.decl.now in
    let l = as_int c.constant-left.result.width c.constant-left.result.signed c.constant-left.result.number in
    let r = as_int c.constant-right.result.width c.constant-right.result.signed c.constant-right.result.number in
    let low = taken _ r c.in-Some-word_of.low (sym c.word_of.ensures ∙ c.in-Some-word_of.is) in
    let h = is_range d l r c.in-Some.count (sym c.part_size.ensures.value ∙ c.in-Some.is) in
    let whole : to_z w64 (of_z w64 c.offset_of-place.result) ≡ c.offset_of-place.result = omega (arith, ints) in
    whole ∙ c.offset_of-place.ensures.value
    ∙ ap (offset_of d) (bound_whole c.in-Some-word_of.low (ap is_bound low ∙ h.right) ∙ low ∙
    c.constant-right.ensures v)
