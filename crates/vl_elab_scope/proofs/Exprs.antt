-- Expressions are refused alike over names that mean the same.
use Rattle.std.specs.Prelude.{◌≡◌, refl, ℕ, List, [], ◌∷◌, ◌++◌, Bool, true, ◌&&◌, ◌||◌, not, is_none, int_le, pos}
use Rattle.std.specs.Prelude.{Option, if◌then◌else◌}
use Rattle.std.proofs.Common.{ap, ◌∙◌}
use Rattle.fv_text.specs.declared.pos.Pos.{Pos}
use Rattle.vl_tree.specs.Expr.{
  Expr,
  Exprs,
  Selects,
  number,
  name,
  paren,
  unary,
  binary,
  conditional,
  concat,
  repeat,
  cast,
  none,
  more,
  whole,
  bit,
  part,
  indexed,
}
use Rattle.vl_size.specs.declared.context.Context.{Context}
use Rattle.vl_size.specs.declared.decl.Decl.{Decl}
use Rattle.vl_size.specs.Size.{divides, is_bound, goes_along}
use Rattle.vl_mean.specs.Constants.{vector_of}
use Rattle.vl_mean.specs.Scopes.{is_clock_class}
use Rattle.vl_elab_spec.specs.declared.elab_fault.ElabFault.{ElabFault}
use Rattle.vl_elab_spec.specs.declared.elab_fault.ElabFault.TheVariants as f
use Rattle.vl_elab_spec.specs.Expressions.{refused_if, too_wide, divided_by_zero, far, against, no_copies, none_behind}
use Rattle.vl_elab_spec.specs.Expressions.{vector_selects, memory_selects, object_selects, read_refusals}
use Rattle.vl_elab_spec.specs.Expressions.{is_constant_name, refusals, all_refusals, select_refusals, expr_refusals}
use Rattle.vl_elab_spec.specs.Expressions.{own_refusals, wide_size}
use Rattle.vl_elab_spec.specs.Meanings.{Meaning, undeclared, constant, loop_variable, object, faulty, shapeless, later}
use Rattle.vl_elab_spec.specs.Meanings.{Names, meaning_in}
use Rattle.vl_elab_scope.specs.Alike.{Alike}
use Rattle.vl_elab_scope.proofs.Sizes as z

module _ (ns ms : List Names) (h : Alike ns ms) where
  pub same_far : (q : Pos) (e : Expr) → far ns q e ≡ far ms q e
  same_far q e =
      λ i. refused_if (z.same_is_known ns ms h e i && not (is_bound (z.same_bound ns ms h e i))) (f.Range q)

  same_against : (d : Decl) (q : Pos) (l r : Expr) → against ns d q l r ≡ against ms d q l r
  same_against d q l r =
      λ i. refused_if (z.same_is_known ns ms h l i && (z.same_is_known ns ms h r i
      && not (goes_along d (z.same_bound ns ms h l i) (z.same_bound ns ms h r i)))) (f.Range q)

  same_copies : (q : Pos) (n : Expr) → no_copies ns q n ≡ no_copies ms q n
  same_copies q n =
      λ i. refused_if (z.same_is_known ns ms h n i && not (int_le (pos 1) (z.same_bound ns ms h n i))) (f.Range q)

  same_behind : (ss : Selects) → none_behind ns ss ≡ none_behind ms ss
  same_behind whole = refl
  same_behind (bit q x ss) = refl
  same_behind (part q l r ss) = refl
  same_behind (indexed q x n ss) = refl

  pub same_vector : (may : Bool) (d : Decl) (ss : Selects) → vector_selects ns may d ss ≡ vector_selects ms may d ss
  same_vector may d whole = refl
  same_vector may d (bit q x ss) = λ i. refused_if (not may) (f.Range q) ++ same_behind ss i
  same_vector may d (part q l r ss) =
      λ i. refused_if (not may) (f.Range q) ++ same_far q l i ++ same_far q r i ++ same_against d q l r i
      ++ same_behind ss i
  same_vector may d (indexed q x n ss) =
      λ i. refused_if (not may) (f.Range q) ++ same_copies q n i ++ same_behind ss i

  same_memory : (p : Pos) (d : Decl) (ss : Selects)
      → memory_selects ns p d ss ≡ memory_selects ms p d ss
  same_memory p d whole = refl
  same_memory p d (bit q x ss) = same_vector true d ss
  same_memory p d (part q l r ss) = refl
  same_memory p d (indexed q x n ss) = refl

  pub same_object : (p : Pos) (scalar : Bool) (d : Decl) (ss : Selects)
      → object_selects ns p scalar d ss ≡ object_selects ms p scalar d ss
  same_object p scalar d ss =
      λ i. if is_none d.words then same_vector (not scalar) d ss i else same_memory p d ss i

  read : (fixed : Bool) (p : Pos) (text : List ℕ) (m : Meaning) (ss : Selects)
      → read_refusals ns fixed p text m ss ≡ read_refusals ms fixed p text m ss
  read fixed p text undeclared ss = refl
  read fixed p text loop_variable ss = refl
  read fixed p text faulty ss = refl
  read fixed p text shapeless ss = refl
  read fixed p text later ss = refl
  read fixed p text (constant c selected) ss = same_vector selected (vector_of text c) ss
  read fixed p text (object d role scalar) ss =
      λ i. refused_if (is_clock_class d.class) (f.Clock p) ++ refused_if fixed (f.NotConstant p)
      ++ same_object p scalar d ss i

  is_constant : (m : Meaning) → is_constant_name ns m ≡ is_constant_name ms m
  is_constant undeclared = refl
  is_constant (constant c selected) = refl
  is_constant loop_variable = refl
  is_constant (object d role scalar) = refl
  is_constant faulty = refl
  is_constant shapeless = refl
  is_constant later = refl

  pub same_is_constant : (text : List ℕ)
      → is_constant_name ns (meaning_in ns text) ≡ is_constant_name ms (meaning_in ms text)
  same_is_constant text = is_constant (meaning_in ns text) ∙ ap (is_constant_name ms) (h.meaning text)

  same_read : (fixed : Bool) (p : Pos) (text : List ℕ) (ss : Selects)
      → read_refusals ns fixed p text (meaning_in ns text) ss ≡ read_refusals ms fixed p text (meaning_in ms text) ss
  same_read fixed p text ss =
      read fixed p text (meaning_in ns text) ss ∙ ap (λ m. read_refusals ms fixed p text m ss) (h.meaning text)

  mutual
    pub same_refusals : (fixed : Bool) (e : Expr) → refusals ns fixed e ≡ refusals ms fixed e
    same_refusals fixed (number p n) = refl
    same_refusals fixed (name p text ss) =
        let inner = same_select_refusals (fixed || is_constant_name ns (meaning_in ns text)) ss
        ∙ ap (λ b. select_refusals ms (fixed || b) ss) (same_is_constant text) in
        λ i. inner i ++ same_read fixed p text ss i ++ too_wide p (z.same_name_width ns ms h text ss i)
    same_refusals fixed (paren p x) =
        λ i. same_refusals fixed x i ++ too_wide p (z.same_wide_size ns ms h x i)
    same_refusals fixed (unary p op x) =
        λ i. same_refusals fixed x i ++ too_wide p (z.same_wide_size ns ms h (unary p op x) i)
    same_refusals fixed (binary p op x y) =
        λ i. same_refusals (fixed || divides op) x i ++ same_refusals (fixed || divides op) y i
        ++ too_wide p (z.same_wide_size ns ms h (binary p op x y) i)
    same_refusals fixed (conditional p c x y) =
        λ i. same_refusals fixed c i ++ same_refusals fixed x i ++ same_refusals fixed y i
        ++ too_wide p (z.same_wide_size ns ms h (conditional p c x y) i)
    same_refusals fixed (concat p es) =
        λ i. same_all fixed es i ++ too_wide p (z.same_wide_size ns ms h (concat p es) i)
    same_refusals fixed (repeat p n es) =
        λ i. same_refusals true n i ++ same_all fixed es i ++ same_copies p n i
        ++ too_wide p (z.same_wide_size ns ms h (repeat p n es) i)
    same_refusals fixed (cast p to x) =
        λ i. same_refusals fixed x i ++ too_wide p (z.same_wide_size ns ms h x i)

    same_all : (fixed : Bool) (es : Exprs) → all_refusals ns fixed es ≡ all_refusals ms fixed es
    same_all fixed none = refl
    same_all fixed (more e es) = λ i. same_refusals fixed e i ++ same_all fixed es i

    pub same_select_refusals : (fixed : Bool) (ss : Selects)
        → select_refusals ns fixed ss ≡ select_refusals ms fixed ss
    same_select_refusals fixed whole = refl
    same_select_refusals fixed (bit q x ss) = λ i. same_refusals fixed x i ++ same_select_refusals fixed ss i
    same_select_refusals fixed (part q l r ss) =
        λ i. same_refusals true l i ++ same_refusals true r i ++ same_select_refusals fixed ss i
    same_select_refusals fixed (indexed q x n ss) =
        λ i. same_refusals fixed x i ++ same_refusals true n i ++ same_select_refusals fixed ss i

  -- the selects of a name
  pub same_named : (fixed : Bool) (text : List ℕ) (ss : Selects)
      → select_refusals ns (fixed || is_constant_name ns (meaning_in ns text)) ss
      ≡ select_refusals ms (fixed || is_constant_name ms (meaning_in ms text)) ss
  same_named fixed text ss =
      same_select_refusals (fixed || is_constant_name ns (meaning_in ns text)) ss
      ∙ ap (λ b. select_refusals ms (fixed || b) ss) (same_is_constant text)

  -- ---- whole expressions

  pub same_expr : (fixed : Bool) (c : Context) (e : Expr) → expr_refusals ns fixed c e ≡ expr_refusals ms fixed c e
  same_expr fixed c e = λ i. same_refusals fixed e i ++ divided_by_zero (z.same_zero_divisor ns ms h c e i)

  pub same_own : (fixed : Bool) (e : Expr) → own_refusals ns fixed e ≡ own_refusals ms fixed e
  same_own fixed e =
      same_expr fixed _ e ∙ ap (λ c. expr_refusals ms fixed c e) (z.same_context ns ms h e)
