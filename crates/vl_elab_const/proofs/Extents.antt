-- Ranges over the numbers of constants, and over the scopes that have these constants.
use Rattle.std.specs.Prelude.{◌≡◌, List, true, Option, Some, None, ℤ, pos}
use Rattle.std.proofs.Common.{ap, sym, ◌∙◌, subst}
use Rattle.vl_tree.specs.declared.declaration.Range.{Range}
use Rattle.vl_tree.specs.Expr.{Expr}
use Rattle.vl_size.specs.Size.{index_of, is_bound}
use Rattle.vl_mean.specs.Constants.{constant_operand}
use Rattle.vl_mean.specs.Declarations.{bound_of, bounds_of, vector_bounds, word_bounds}
use Rattle.vl_mean.specs.Scopes.{Scope}
use Rattle.vl_elab_spec.specs.Meanings.{Names, bound}
use Rattle.vl_elab_const.specs.Numbers.{HaveNumbers}
use Rattle.vl_elab_const.specs.declared.ranges.Extent.{Extent}
use Rattle.vl_elab_const.specs.InRange.{AreBounds, AreWords, Covers, IsShort}

same_bound : (ns : List Names) (ss : List Scope) → HaveNumbers ns ss → (e : Expr) → bound ns e ≡ bound_of ss e
same_bound ns ss h e = λ i. index_of (constant_operand (λ text. h text i) e)

bound_is : (ns : List Names) (ss : List Scope) (h : HaveNumbers ns ss) (e : Expr) (n : ℤ)
    → (is_bound (bound ns e) ≡ true → n ≡ bound ns e) → is_bound (bound_of ss e) ≡ true → n ≡ bound_of ss e
bound_is ns ss h e n f b = f (ap is_bound (same_bound ns ss h e) ∙ b) ∙ same_bound ns ss h e

pub pair_is : (ns : List Names) (ss : List Scope) → HaveNumbers ns ss → (r : Range) (m n : ℤ)
    → (is_bound (bound ns r.left) ≡ true → m ≡ bound ns r.left)
    → (is_bound (bound ns r.right) ≡ true → n ≡ bound ns r.right)
    → AreBounds (bounds_of ss r) → (m, n) ≡ bounds_of ss r
pair_is ns ss h r m n f g b =
    λ i. (bound_is ns ss h r.left m f b.left i, bound_is ns ss h r.right n g b.right i)

pub no_range : (ss : List Scope) (o : Option Range) → o ≡ None → (pos 0, pos 0) ≡ vector_bounds ss o
no_range ss o h = ap (vector_bounds ss) (sym h)

pub some_range : (ss : List Scope) (o : Option Range) (r : Range) (x : ℤ × ℤ) → o ≡ Some r
    → (AreBounds (bounds_of ss r) → x ≡ bounds_of ss r) → AreBounds (vector_bounds ss o) → x ≡ vector_bounds ss o
some_range ss o r x h f b =
    f (subst (λ q. AreBounds (vector_bounds ss q)) h b) ∙ ap (vector_bounds ss) (sym h)

pub no_words : (ss : List Scope) (o : Option Range) → o ≡ None → None ≡ word_bounds ss o
no_words ss o h = ap (word_bounds ss) (sym h)

pub some_words : (ss : List Scope) (o : Option Range) (r : Range) (x : ℤ × ℤ) → o ≡ Some r
    → (AreBounds (bounds_of ss r) → x ≡ bounds_of ss r) → AreWords (word_bounds ss o) → Some x ≡ word_bounds ss o
some_words ss o r x h f b =
    ap Some (f (subst (λ q. AreWords (word_bounds ss q)) h b)) ∙ ap (word_bounds ss) (sym h)

pub covered : (bounds other : ℤ × ℤ) (x : Extent) → other ≡ bounds → (IsShort other → Covers other x)
    → IsShort bounds → Covers bounds x
covered bounds other x e f h = subst (λ b. Covers b x) e (f (subst IsShort (sym e) h))

pub through : (p q : ℤ × ℤ) (k l m n : ℤ) → p ≡ (k, l) → k ≡ m → l ≡ n → (m, n) ≡ q → p ≡ q
through p q k l m n e f g h = e ∙ (λ i. (f i, g i)) ∙ h
