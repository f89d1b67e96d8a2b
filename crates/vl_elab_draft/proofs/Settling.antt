-- Numbers in place of the constants of scopes, and of none.
use Rattle.std.specs.Prelude.{◌≡◌, refl, ℕ, List, false, Option, Some, None, is_some, Result, Ok, Err, IfOk}
use Rattle.std.specs.Option.{option_copied}
use Rattle.std.proofs.Common.{ap, sym, ◌∙◌, Bor}
use Rattle.fv_text.specs.declared.pos.Pos.{Pos}
use Rattle.vl_tree.specs.Expr.{
  Expr,
  Exprs,
  Selects,
  number,
  name,
  paren,
  unary,
  binary,
  conditional,
  concat,
  repeat,
  cast,
  none,
  more,
  whole,
  bit,
  part,
  indexed,
}
use Rattle.vl_mean.specs.declared.const_number.Const.{Const}
use Rattle.vl_mean.specs.Constants.{settled, settled_exprs, settled_selects, named_constant, number_of}
use Rattle.vl_mean.specs.Scopes.{Scope, constant_in, full}
use Rattle.vl_mean_flat.specs.FullNames.{renamed, flat_expr, flat_selects}
use Rattle.vl_elab_scope.specs.Texts.{texts, AgreeOn}
use Rattle.vl_elab_scope.proofs.Agree.{same_settled}
use Rattle.vl_elab_scope.proofs.Meant.{name_stays}

-- over no constants, nothing in an expression is replaced
module _ (c : List ℕ → Option Const) (empty : (text : List ℕ) → c text ≡ None) where
  mutual
    pub settled_none : (e : Expr) → settled c e ≡ e
    settled_none (number p n) = refl
    settled_none (name p text ss) = λ i. named_constant p text (settled_selects_none ss i) (empty text i)
    settled_none (paren p x) = ap (paren p) (settled_none x)
    settled_none (unary p op x) = ap (unary p op) (settled_none x)
    settled_none (binary p op x y) = λ i. binary p op (settled_none x i) (settled_none y i)
    settled_none (conditional p k x y) = λ i. conditional p (settled_none k i) (settled_none x i) (settled_none y i)
    settled_none (concat p es) = ap (concat p) (settled_exprs_none es)
    settled_none (repeat p n es) = λ i. repeat p (settled_none n i) (settled_exprs_none es i)
    settled_none (cast p to x) = ap (cast p to) (settled_none x)

    settled_exprs_none : (es : Exprs) → settled_exprs c es ≡ es
    settled_exprs_none none = refl
    settled_exprs_none (more e es) = λ i. more (settled_none e i) (settled_exprs_none es i)

    settled_selects_none : (ss : Selects) → settled_selects c ss ≡ ss
    settled_selects_none whole = refl
    settled_selects_none (bit p x ss) = λ i. bit p (settled_none x i) (settled_selects_none ss i)
    settled_selects_none (part p l r ss) =
        λ i. part p (settled_none l i) (settled_none r i) (settled_selects_none ss i)
    settled_selects_none (indexed p x n ss) =
        λ i. indexed p (settled_none x i) (settled_none n i) (settled_selects_none ss i)

pub ok_copied : {F : Type 0} (r : Result Expr F) (c : List ℕ → Option Const) (e : Expr)
    → ((text : List ℕ) → c text ≡ None) → IfOk r (λ x. x ≡ settled c e) → IfOk r (λ x. x ≡ e)
ok_copied (Ok x) c e empty h = h ∙ settled_none c empty e
ok_copied (Err f) c e empty h = h

pub ok_flat : {F : Type 0} (r : Result Expr F) (ss : List Scope) (c : List ℕ → Option Const) (e known : Expr)
    → AgreeOn c (constant_in ss) (texts e) → known ≡ settled c e → IfOk r (λ x. x ≡ renamed (full ss) known)
    → IfOk r (λ x. x ≡ flat_expr ss e)
ok_flat (Ok x) ss c e known agree is h =
    h ∙ ap (renamed (full ss)) (is ∙ same_settled c (constant_in ss) e agree)
ok_flat (Err f) ss c e known agree is h = h

-- ---- names

pub copied_some : {A : Type 0} (r : Option (Bor A)) → is_some r ≡ is_some (option_copied r)
copied_some None = refl
copied_some (Some x) = refl

module _ (ss : List Scope) (p : Pos) (text : List ℕ) where
  -- one that means no constant, with its selects
  pub selected_flat : (n : List ℕ) (made xs : Selects) → is_some (constant_in ss text) ≡ false → n ≡ full ss text
      → made ≡ flat_selects ss xs → name p n made ≡ flat_expr ss (name p text xs)
  selected_flat n made xs h e k =
      (λ i. name p (e i) (k i))
      ∙ ap (renamed (full ss)) (name_stays p text (settled_selects (constant_in ss) xs) (constant_in ss text) h)

  pub none_whole : (n : List ℕ) → None ≡ constant_in ss text → n ≡ full ss text
      → name p n whole ≡ flat_expr ss (name p text whole)
  none_whole n h e = selected_flat n whole whole (ap is_some (sym h)) e refl

  pub some_whole : (k : Const) → Some k ≡ constant_in ss text
      → number p (number_of k) ≡ flat_expr ss (name p text whole)
  some_whole k h = ap (λ o. renamed (full ss) (named_constant p text whole o)) h

pub ruleset whole_names = (none_whole, some_whole)
