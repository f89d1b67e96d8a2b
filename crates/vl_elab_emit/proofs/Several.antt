-- A vector has one select at most.
use Rattle.std.specs.Prelude.{◌≡◌, refl, ℕ, ◌≤◌, List, [], ◌∷◌, length, Option, Some, None, true, is_none, is_some}
use Rattle.std.specs.Prelude.{if◌then◌else◌}
use Rattle.std.proofs.Common.{ap, sym, ◌∙◌, true≢false, arith}
use Rattle.fv_text.specs.declared.pos.Pos.{Pos}
use Rattle.vl_tree.specs.declared.expr.Select.{Select}
use Rattle.vl_tree.specs.declared.expr.Select.TheVariants as s
use Rattle.vl_tree.specs.Expr.{Expr, Selects, whole, bit, part, indexed}
use Rattle.vl_tree.specs.ExprView.{selects, with_select}
use Rattle.vl_size.specs.declared.decl.Decl.{Decl}
use Rattle.vl_size.specs.Size.{vector_size, word_size}
use Rattle.vl_mean.specs.Scopes.{Scope}
use Rattle.vl_mean_flat.specs.FullNames.{flat_expr, flat_selects}
use Rattle.vl_elab_emit.specs.Starts.{selected_bits}

pub several : (ss : List Scope) (d : Decl) (xs : List Select) → 2 ≤ length xs
    → None ≡ vector_size [] d (flat_selects ss (selects xs))
several ss d [] h = absurd (omega arith)
several ss d (x ∷ []) h = absurd (omega arith)
several ss d (s.Bit p i ∷ s.Bit q j ∷ xs) h = refl
several ss d (s.Bit p i ∷ s.Part q j k ∷ xs) h = refl
several ss d (s.Bit p i ∷ s.Indexed q j k ∷ xs) h = refl
several ss d (s.Part p i l ∷ s.Bit q j ∷ xs) h = refl
several ss d (s.Part p i l ∷ s.Part q j k ∷ xs) h = refl
several ss d (s.Part p i l ∷ s.Indexed q j k ∷ xs) h = refl
several ss d (s.Indexed p i l ∷ s.Bit q j ∷ xs) h = refl
several ss d (s.Indexed p i l ∷ s.Part q j k ∷ xs) h = refl
several ss d (s.Indexed p i l ∷ s.Indexed q j k ∷ xs) h = refl

-- ---- selects by their first one

module _ (ss : List Scope) (d : Decl) where
  pub bit_selected : (p : Pos) (x : Expr) (xs : Selects) (o : Option ℕ) → xs ≡ bit p x whole
      → o ≡ vector_size [] d (bit p (flat_expr ss x) whole) → o ≡ vector_size [] d (flat_selects ss xs)
  bit_selected p x xs o e h = h ∙ ap (λ ys. vector_size [] d (flat_selects ss ys)) (sym e)

  pub part_selected : (p : Pos) (l r : Expr) (xs : Selects) (o : Option ℕ) → xs ≡ part p l r whole
      → o ≡ vector_size [] d (part p (flat_expr ss l) (flat_expr ss r) whole)
      → o ≡ vector_size [] d (flat_selects ss xs)
  part_selected p l r xs o e h = h ∙ ap (λ ys. vector_size [] d (flat_selects ss ys)) (sym e)

  pub indexed_selected : (p : Pos) (s n : Expr) (xs : Selects) (o : Option ℕ) → xs ≡ indexed p s n whole
      → o ≡ vector_size [] d (indexed p (flat_expr ss s) (flat_expr ss n) whole)
      → o ≡ vector_size [] d (flat_selects ss xs)
  indexed_selected p s n xs o e h = h ∙ ap (λ ys. vector_size [] d (flat_selects ss ys)) (sym e)

  pub word_selected : (p : Pos) (x : Expr) (xs ys : Selects) (o : Option ℕ) → xs ≡ bit p x ys
      → o ≡ word_size [] d (bit p (flat_expr ss x) (flat_selects ss ys)) → o ≡ word_size [] d (flat_selects ss xs)
  word_selected p x xs ys o e h = h ∙ ap (λ zs. word_size [] d (flat_selects ss zs)) (sym e)

  pub no_word_part : (p : Pos) (l r : Expr) (xs ys : Selects) → xs ≡ part p l r ys
      → None ≡ word_size [] d (flat_selects ss xs)
  no_word_part p l r xs ys e = ap (λ zs. word_size [] d (flat_selects ss zs)) (sym e)

  pub no_word_indexed : (p : Pos) (s n : Expr) (xs ys : Selects) → xs ≡ indexed p s n ys
      → None ≡ word_size [] d (flat_selects ss xs)
  no_word_indexed p s n xs ys e = ap (λ zs. word_size [] d (flat_selects ss zs)) (sym e)

  if_memory : {A : Type 0} (o : Option A) (x y : Option ℕ) → is_some o ≡ true → y ≡ (if is_none o then x else y)
  if_memory None x y h = absurd (true≢false (sym h))
  if_memory (Some w) x y h = refl

  pub memory_selected : (xs rest : List Select) (x : Select) (o : Option ℕ) → is_some d.words ≡ true → xs ≡ x ∷ rest
      → o ≡ word_size [] d (flat_selects ss (with_select x (selects rest)))
      → o ≡ selected_bits d (flat_selects ss (selects xs))
  memory_selected xs rest x o m e h =
      h ∙ ap (λ ys. word_size [] d (flat_selects ss (selects ys))) (sym e)
      ∙ if_memory d.words (vector_size [] d (flat_selects ss (selects xs))) _ m

  pub memory_whole : (xs : List Select) → is_some d.words ≡ true → length xs ≡ 0
      → None ≡ selected_bits d (flat_selects ss (selects xs))
  memory_whole [] m h = if_memory d.words (vector_size [] d whole) None m
  memory_whole (x ∷ xs) m h = absurd (omega arith)
