-- Expressions and targets with full names, in the one scope of a design without hierarchy, are those of the source.
use Rattle.std.specs.Prelude.{◌≡◌, refl, ℕ, Bool, true, false, ◌&&◌, ◌||◌, nat_lt, is_none}
use Rattle.std.specs.Prelude.{if◌then◌else◌, List, [], ◌++◌, Option, Some, None, ℤ, nat_abs}
use Rattle.std.proofs.Common.{ap, sym, ◌∙◌, append-nil}
use Rattle.vl_tree.specs.Expr.{
  Expr,
  Exprs,
  Selects,
  number,
  name,
  paren,
  unary,
  binary,
  conditional,
  concat,
  repeat,
  cast,
  none,
  more,
  whole,
  bit,
  part,
  indexed,
}
use Rattle.vl_tree.specs.Lval.{Lval, Lvals, named, joined, no_lvals, more_lvals}
use Rattle.vl_size.specs.declared.decl.Decl.{Decl}
use Rattle.vl_size.specs.Size.{Values, operand_of, cell_name, index_of, is_constant, offset_of, start_of}
use Rattle.vl_size.specs.Table.{span, is_declared, declared_as}
use Rattle.vl_mean.specs.declared.const_number.Const.{Const}
use Rattle.vl_mean.specs.Cells.{is_cell}
use Rattle.vl_mean.specs.Constants.{settled, settled_exprs, settled_selects, named_constant}
use Rattle.vl_mean.specs.FlatLaw.{flat_scopes}
use Rattle.vl_mean.specs.Scopes.{Scope, full, constant_in, constant_unless, visible, unless_constant, declared_in}
use Rattle.vl_mean.specs.Scopes.{operand_in, no_values}
use Rattle.vl_mean.specs.Targets.{spots_from, word_index, full_word, spots_of, is_decl, has_spot, vector_spots}
use Rattle.vl_mean.specs.Targets.{word_spots, name_spots, spots, all_spots, are_fixed, name_may_change, may_change}
use Rattle.vl_mean.specs.Targets.{any_may_change}
use Rattle.vl_mean_flat.specs.Found.{Found}
use Rattle.vl_mean_flat.specs.FullNames.{flat_expr, flat_selects, flat_lval, flat_lvals}
use Rattle.vl_mean_flat.specs.Names.{SelectsNames, ExprNames, TargetNames, TargetsNames}
use Rattle.vl_mean_flat.proofs.SameExpr.{same_constant, same_operand}

-- ---- without constants nothing is settled

module _ (c : List ℕ → Option Const) (none_of : (text : List ℕ) → c text ≡ None) where
  mutual
    pub settled-none : (e : Expr) → settled c e ≡ e
    settled-none (number p n) = refl
    settled-none (name p text ss) = λ i. named_constant p text (settled_selects-none ss i) (none_of text i)
    settled-none (paren p x) = ap (paren p) (settled-none x)
    settled-none (unary p op x) = ap (unary p op) (settled-none x)
    settled-none (binary p op x y) = λ i. binary p op (settled-none x i) (settled-none y i)
    settled-none (conditional p k x y) = λ i. conditional p (settled-none k i) (settled-none x i) (settled-none y i)
    settled-none (concat p es) = ap (concat p) (settled_exprs-none es)
    settled-none (repeat p n es) = λ i. repeat p (settled-none n i) (settled_exprs-none es i)
    settled-none (cast p to x) = ap (cast p to) (settled-none x)

    settled_exprs-none : (es : Exprs) → settled_exprs c es ≡ es
    settled_exprs-none none = refl
    settled_exprs-none (more e es) = λ i. more (settled-none e i) (settled_exprs-none es i)

    settled_selects-none : (ss : Selects) → settled_selects c ss ≡ ss
    settled_selects-none whole = refl
    settled_selects-none (bit p x ss) = λ i. bit p (settled-none x i) (settled_selects-none ss i)
    settled_selects-none (part p l r ss) = λ i. part p (settled-none l i) (settled-none r i) (settled_selects-none ss i)
    settled_selects-none (indexed p x n ss) =
        λ i. indexed p (settled-none x i) (settled-none n i) (settled_selects-none ss i)

-- ---- the one scope

nothing_hidden : (b : Bool) → constant_unless None b None ≡ None
nothing_hidden true = refl
nothing_hidden false = refl

same_either : (b : Bool) (text : List ℕ) → (if b then [] ++ text else text) ≡ text
same_either true text = refl
same_either false text = refl

module _ (es : List Decl) where
  pub flat_constant : (text : List ℕ) → constant_in (flat_scopes es) text ≡ None
  flat_constant text = nothing_hidden (is_declared es text)

  pub flat_full : (text : List ℕ) → full (flat_scopes es) text ≡ text
  flat_full text = same_either _ text

  pub flat_visible : visible (flat_scopes es) ≡ es
  flat_visible = append-nil es

  pub flat_declared : (text : List ℕ) → declared_in (flat_scopes es) text ≡ declared_as es text
  flat_declared text = λ i. unless_constant (flat_constant text i) (declared_as (flat_visible i) text)

  pub flat_operand : (v : Values) (e : Expr)
      → operand_in (flat_scopes es) v e ≡ operand_of es (λ text index. v (cell_name text index)) e
  flat_operand v e =
      λ i. operand_of (flat_visible i) (λ text index. v (cell_name (flat_full text i) index))
      (settled-none (constant_in (flat_scopes es)) flat_constant e i)

-- ---- from scopes to the one scope

module _ (es : List Decl) (ss : List Scope) where
  abbrev flat : List Scope
  flat = flat_scopes es

  pub same_operand_in : (v : Values) (e : Expr) → ExprNames (Found es ss) ss e
      → operand_in flat v (flat_expr ss e) ≡ operand_in ss v e
  same_operand_in v e h =
      flat_operand es v (flat_expr ss e)
      ∙ same_operand (full ss) (visible ss) es (λ text index. v (cell_name text index)) (settled (constant_in ss) e) h

  -- ---- targets

  same_vector_spots : (v : Values) (text : List ℕ) (d : Decl) (n : Option (List ℕ)) (xs : Selects)
      → SelectsNames (Found es ss) (settled_selects (constant_in ss) xs)
      → vector_spots flat v (record d { name = text }) n (flat_selects ss xs) ≡ vector_spots ss v d n xs
  same_vector_spots v text d n whole h = refl
  same_vector_spots v text d n (bit p x whole) h =
      λ i. spots_from 1 d.width n (offset_of d (index_of (same_operand_in v x h.0 i)))
  same_vector_spots v text d n (part p l r whole) h =
      λ i. let low_end = index_of (same_operand_in v r h.1.0 i) in
      spots_from (span (index_of (same_operand_in v l h.0 i)) low_end) d.width n (offset_of d low_end)
  same_vector_spots v text d n (indexed p x k whole) h =
      λ i. let k = nat_abs (index_of (same_operand_in v k h.1.0 i)) in
      spots_from k d.width n (start_of d (index_of (same_operand_in v x h.0 i)) k)
  same_vector_spots v text d n (bit p y (bit q z ys)) h = refl
  same_vector_spots v text d n (bit p y (part q l r ys)) h = refl
  same_vector_spots v text d n (bit p y (indexed q z k ys)) h = refl
  same_vector_spots v text d n (part p a b (bit q z ys)) h = refl
  same_vector_spots v text d n (part p a b (part q l r ys)) h = refl
  same_vector_spots v text d n (part p a b (indexed q z k ys)) h = refl
  same_vector_spots v text d n (indexed p a b (bit q z ys)) h = refl
  same_vector_spots v text d n (indexed p a b (part q l r ys)) h = refl
  same_vector_spots v text d n (indexed p a b (indexed q z k ys)) h = refl

  -- the word of a memory stands under the memory's full name
  same_full_word : (text : List ℕ) (h : Found es ss text) (i : Option ℤ)
      → full_word (full flat (full ss text)) i ≡ full_word (full ss h.decl.name) i
  same_full_word text h i = λ j. full_word ((flat_full es (full ss text) ∙ ap (full ss) (sym h.own)) j) i

  same_word_spots : (v : Values) (text : List ℕ) (g : Found es ss text) (xs : Selects)
      → SelectsNames (Found es ss) (settled_selects (constant_in ss) xs)
      → word_spots flat v (record (g.decl) { name = full ss text }) (flat_selects ss xs) ≡ word_spots ss v g.decl xs
  same_word_spots v text g whole h = refl
  same_word_spots v text g (bit p x xs) h =
      (λ i. vector_spots flat v (record (g.decl) { name = full ss text })
      (same_full_word text g (word_index g.decl.words (index_of (same_operand_in v x h.0 i))) i) (flat_selects ss xs))
      ∙ same_vector_spots v (full ss text) g.decl
      (full_word (full ss g.decl.name) (word_index g.decl.words (index_of (operand_in ss v x)))) xs h.1
  same_word_spots v text g (part p l r xs) h = refl
  same_word_spots v text g (indexed p x n xs) h = refl

  -- what a target's name is declared as
  pub here_declared : (text : List ℕ) → constant_in ss text ≡ None → (g : Found es ss text)
      → declared_in ss text ≡ Some g.decl
  here_declared text c g = λ i. unless_constant (c i) (g.here i)

  pub there_declared : (text : List ℕ) (g : Found es ss text)
      → declared_in flat (full ss text) ≡ Some (record (g.decl) { name = full ss text })
  there_declared text g = flat_declared es (full ss text) ∙ g.there

  pub same_name_spots : (v : Values) (text : List ℕ) (xs : Selects) → constant_in ss text ≡ None → Found es ss text
      → SelectsNames (Found es ss) (settled_selects (constant_in ss) xs)
      → name_spots flat v (full ss text) (flat_selects ss xs) ≡ name_spots ss v text xs
  same_name_spots v text xs c g h =
      (λ i. spots_of (there_declared text g i) (λ d.
      if is_none d.words then vector_spots flat v d (Some (flat_full es (full ss text) i)) (flat_selects ss xs)
      else word_spots flat v d (flat_selects ss xs)))
      ∙ (λ i. if is_none g.decl.words
      then same_vector_spots v (full ss text) g.decl (Some (full ss text)) xs h i
      else same_word_spots v text g xs h i)
      ∙ sym (λ i. spots_of (here_declared text c g i) (λ d.
      if is_none d.words then vector_spots ss v d (Some (full ss text)) xs else word_spots ss v d xs))

  mutual
    pub same_spots : (v : Values) (l : Lval) → TargetNames (Found es ss) ss l
        → spots flat v (flat_lval ss l) ≡ spots ss v l
    same_spots v (named p text xs) h = same_name_spots v text xs h.0 h.1 h.2
    same_spots v (joined p ls) h = same_all_spots v ls h

    same_all_spots : (v : Values) (ls : Lvals) → TargetsNames (Found es ss) ss ls
        → all_spots flat v (flat_lvals ss ls) ≡ all_spots ss v ls
    same_all_spots v no_lvals h = refl
    same_all_spots v (more_lvals l ls) h = λ i. same_spots v l h.0 i ++ same_all_spots v ls h.1 i

  -- ---- which bits may change

  same_index : (e : Expr) → is_constant (settled (constant_in flat) (flat_expr ss e))
      ≡ is_constant (settled (constant_in ss) e)
  same_index e =
      ap is_constant (settled-none (constant_in flat) (flat_constant es) (flat_expr ss e))
      ∙ same_constant (full ss) (settled (constant_in ss) e)

  same_fixed : (xs : Selects) → are_fixed flat (flat_selects ss xs) ≡ are_fixed ss xs
  same_fixed whole = refl
  same_fixed (bit p x xs) = λ i. same_index x i && same_fixed xs i
  same_fixed (part p l r xs) = same_fixed xs
  same_fixed (indexed p x n xs) = λ i. same_index x i && same_fixed xs i

  same_name_may_change : (text : List ℕ) (xs : Selects) → constant_in ss text ≡ None → Found es ss text
      → SelectsNames (Found es ss) (settled_selects (constant_in ss) xs) → (n : List ℕ) (k : ℕ)
      → name_may_change flat (full ss text) (flat_selects ss xs) n k ≡ name_may_change ss text xs n k
  same_name_may_change text xs c g h n k =
      (λ i. is_decl (there_declared text g i) (λ d.
      if same_fixed xs i then has_spot n k (same_name_spots no_values text xs c g h i)
      else is_cell (flat_full es (full ss text) i) d.words n && nat_lt k d.width))
      ∙ sym (λ i. is_decl (here_declared text c g i) (λ d.
      if are_fixed ss xs then has_spot n k (name_spots ss no_values text xs) else is_cell (full ss text) d.words n
      && nat_lt k d.width))

  mutual
    pub same_may_change : (l : Lval) → TargetNames (Found es ss) ss l → (n : List ℕ) (k : ℕ)
        → may_change flat (flat_lval ss l) n k ≡ may_change ss l n k
    same_may_change (named p text xs) h n k = same_name_may_change text xs h.0 h.1 h.2 n k
    same_may_change (joined p ls) h n k = same_any_may_change ls h n k

    same_any_may_change : (ls : Lvals) → TargetsNames (Found es ss) ss ls → (n : List ℕ) (k : ℕ)
        → any_may_change flat (flat_lvals ss ls) n k ≡ any_may_change ss ls n k
    same_any_may_change no_lvals h n k = refl
    same_any_may_change (more_lvals l ls) h n k = λ i. same_may_change l h.0 n k i || same_any_may_change ls h.1 n k i
