-- Constants, sizes and divisors over names that mean the same.
use Rattle.std.specs.Prelude.{◌≡◌, refl, ℕ, ◌+◌, max, List, [], ◌∷◌, Bool, true, ◌&&◌, is_none, is_some}
use Rattle.std.specs.Prelude.{Option, Some, None, ℤ, if◌then◌else◌}
use Rattle.std.proofs.Common.{ap, ◌∙◌}
use Rattle.fv_text.specs.declared.pos.Pos.{Pos}
use Rattle.vl_tree.specs.Expr.{
  Expr,
  Exprs,
  Selects,
  number,
  name,
  paren,
  unary,
  binary,
  conditional,
  concat,
  repeat,
  cast,
  none,
  more,
  whole,
  bit,
  part,
  indexed,
}
use Rattle.vl_size.specs.declared.context.Context.{Context}
use Rattle.vl_size.specs.declared.decl.Decl.{Decl}
use Rattle.vl_size.specs.Divisors.{own_context, selects_zero_divisor, valid_size, zero_divisor}
use Rattle.vl_size.specs.Sign.{sign}
use Rattle.vl_size.specs.Size.{◌>>=◌, size, operand_of, no_names, index_of, some_bits, unary_size, size_by, is_bound}
use Rattle.vl_size.specs.Size.{goes_along}
use Rattle.vl_size.specs.Table.{span, declared_as}
use Rattle.vl_size.specs.Way.{way}
use Rattle.vl_mean.specs.declared.const_number.Const.{Const}
use Rattle.vl_mean.specs.ConstantFaults.{capped, wide_times}
use Rattle.vl_mean.specs.Constants.{settled, settled_selects, vector_of}
use Rattle.vl_elab_spec.specs.Expressions.{known, if_known, part_width, count_width, vector_width, word_width}
use Rattle.vl_elab_spec.specs.Expressions.{name_width, wide_size, wide_sizes}
use Rattle.vl_elab_spec.specs.Meanings.{Meaning, undeclared, constant, loop_variable, object, faulty, shapeless, later}
use Rattle.vl_elab_spec.specs.Meanings.{Names, meaning_in, value_of, is_known, bound, objects}
use Rattle.vl_elab_scope.proofs.Agree.{same_own, same_divisor, same_selects_divisor}
use Rattle.vl_elab_scope.proofs.AlikeObjects.{same_object}
use Rattle.vl_elab_scope.specs.Alike.{Alike}

module _ (ns ms : List Names) (h : Alike ns ms) where
  -- ---- constants

  pub same_known : (e : Expr) → known ns e ≡ known ms e
  same_known e = λ i. settled (λ text. value_of (h.meaning text i)) e

  pub same_known_selects : (ss : Selects) → settled_selects (λ text. value_of (meaning_in ns text)) ss
      ≡ settled_selects (λ text. value_of (meaning_in ms text)) ss
  same_known_selects ss = λ i. settled_selects (λ text. value_of (h.meaning text i)) ss

  pub same_is_known : (e : Expr) → is_known ns e ≡ is_known ms e
  same_is_known e = λ i. is_some (valid_size [] (same_known e i))

  pub same_bound : (e : Expr) → bound ns e ≡ bound ms e
  same_bound e = λ i. index_of (operand_of [] no_names (same_known e i))

  -- ---- own sizes, signs and divisors

  pub same_context : (e : Expr) → own_context (objects ns) (known ns e) ≡ own_context (objects ms) (known ms e)
  same_context e =
      same_own (objects ns) (objects ms) (known ns e) (λ text k. same_object ns ms h text)
      ∙ ap (own_context (objects ms)) (same_known e)

  pub same_own_size : (e : Expr) → size (objects ns) (known ns e) ≡ size (objects ms) (known ms e)
  same_own_size e = ap (λ c. c.size) (same_context e)

  pub same_own_sign : (e : Expr) → sign (objects ns) (known ns e) ≡ sign (objects ms) (known ms e)
  same_own_sign e = ap (λ c. c.signed) (same_context e)

  pub same_zero_divisor : (c : Context) (e : Expr)
      → zero_divisor (objects ns) c (known ns e) ≡ zero_divisor (objects ms) c (known ms e)
  same_zero_divisor c e =
      same_divisor (objects ns) (objects ms) c (known ns e) (λ text k. same_object ns ms h text)
      ∙ ap (zero_divisor (objects ms) c) (same_known e)

  pub same_selects : (ss : Selects)
      → selects_zero_divisor (objects ns) (settled_selects (λ text. value_of (meaning_in ns text)) ss)
      ≡ selects_zero_divisor (objects ms) (settled_selects (λ text. value_of (meaning_in ms text)) ss)
  same_selects ss =
      same_selects_divisor (objects ns) (objects ms) (settled_selects (λ text. value_of (meaning_in ns text)) ss)
      (λ text k. same_object ns ms h text)
      ∙ ap (selects_zero_divisor (objects ms)) (same_known_selects ss)

  -- ---- sizes without a limit

  same_part_width : (d : Decl) (l r : Expr) → part_width ns d l r ≡ part_width ms d l r
  same_part_width d l r =
      λ i. let left = same_bound l i in
      let right = same_bound r i in
      let fits = is_bound left && (is_bound right && goes_along d left right) in
      if same_is_known l i then (if same_is_known r i then (if fits then Some (span left right) else None) else None)
      else None

  same_count : (n : Expr) (m : ℕ)
      → if_known ns n (wide_times (bound ns n) m) ≡ if_known ms n (wide_times (bound ms n) m)
  same_count n m = λ i. if same_is_known n i then wide_times (same_bound n i) m else None

  same_vector_width : (d : Decl) (ss : Selects) → vector_width ns d ss ≡ vector_width ms d ss
  same_vector_width d whole = refl
  same_vector_width d (bit p x whole) = refl
  same_vector_width d (part p l r whole) = same_part_width d l r
  same_vector_width d (indexed p x n whole) = same_count n 1
  same_vector_width d (bit p x (bit q y ss)) = refl
  same_vector_width d (bit p x (part q l r ss)) = refl
  same_vector_width d (bit p x (indexed q y n ss)) = refl
  same_vector_width d (part p a b (bit q y ss)) = refl
  same_vector_width d (part p a b (part q l r ss)) = refl
  same_vector_width d (part p a b (indexed q y n ss)) = refl
  same_vector_width d (indexed p a b (bit q y ss)) = refl
  same_vector_width d (indexed p a b (part q l r ss)) = refl
  same_vector_width d (indexed p a b (indexed q y n ss)) = refl

  same_word_width : (d : Decl) (ss : Selects) → word_width ns d ss ≡ word_width ms d ss
  same_word_width d whole = refl
  same_word_width d (bit p x ss) = same_vector_width d ss
  same_word_width d (part p l r ss) = refl
  same_word_width d (indexed p x n ss) = refl

  width_of : (text : List ℕ) (m : Meaning) (ss : Selects) → name_width ns text m ss ≡ name_width ms text m ss
  width_of text undeclared ss = refl
  width_of text (constant c selected) ss = same_vector_width (vector_of text c) ss
  width_of text loop_variable ss = refl
  width_of text (object d role scalar) ss =
      λ i. if is_none d.words then same_vector_width d ss i else same_word_width d ss i
  width_of text faulty ss = refl
  width_of text shapeless ss = refl
  width_of text later ss = refl

  pub same_name_width : (text : List ℕ) (ss : Selects)
      → name_width ns text (meaning_in ns text) ss ≡ name_width ms text (meaning_in ms text) ss
  same_name_width text ss =
      width_of text (meaning_in ns text) ss ∙ ap (λ m. name_width ms text m ss) (h.meaning text)

  mutual
    pub same_wide_size : (e : Expr) → wide_size ns e ≡ wide_size ms e
    same_wide_size (number p n) = refl
    same_wide_size (name p text ss) = same_name_width text ss
    same_wide_size (paren p x) = same_wide_size x
    same_wide_size (unary p op x) = λ i. same_wide_size x i >>= λ m. Some (unary_size op m)
    same_wide_size (binary p op x y) =
        λ i. same_wide_size x i >>= λ m. same_wide_size y i >>= λ n. Some (size_by (way op) m n)
    same_wide_size (conditional p c x y) =
        λ i. same_wide_size x i >>= λ m. same_wide_size y i >>= λ n. Some (max m n)
    same_wide_size (concat p es) = λ i. some_bits (same_wide_sizes es i)
    same_wide_size (repeat p n es) = λ i. some_bits (same_wide_sizes es i) >>= λ m. same_count n m i
    same_wide_size (cast p to x) = same_wide_size x

    same_wide_sizes : (es : Exprs) → wide_sizes ns es ≡ wide_sizes ms es
    same_wide_sizes none = refl
    same_wide_sizes (more e es) =
        λ i. same_wide_size e i >>= λ m. same_wide_sizes es i >>= λ n. Some (capped (m + n))
