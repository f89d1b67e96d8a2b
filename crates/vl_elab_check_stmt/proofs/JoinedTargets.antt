-- Targets that are made from expressions.
use Rattle.std.specs.Prelude.{◌≡◌, refl, ℕ, ◌+◌, List, [], ◌∷◌, ◌++◌, drop, Option, Some, None, option_map}
use Rattle.std.proofs.Common.{ap, sym, ◌∙◌}
use Rattle.vl_tree.specs.Expr.{
  Expr,
  Exprs,
  Selects,
  number,
  name,
  paren,
  unary,
  binary,
  conditional,
  concat,
  repeat,
  cast,
  none,
  more,
  whole,
  bit,
  part,
  indexed,
  exprs,
}
use Rattle.vl_tree.specs.Lval.{Lval, Lvals, named, no_lvals, more_lvals, lvals}
use Rattle.vl_size.specs.Size.{◌>>=◌}
use Rattle.vl_mean.specs.declared.const_number.Const.{Const}
use Rattle.vl_mean.specs.Constants.{settled, settled_exprs, settled_selects, named_constant}
use Rattle.vl_mean.specs.Parts.{target_of, targets_of}
use Rattle.vl_elab_check_stmt.specs.Outputs.{name_target, lvals_before, targets_before}

-- ---- over no constants an expression stays as it is

module _ (f : List ℕ → Option Const) (h : (text : List ℕ) → f text ≡ None) where
  mutual
    same : (e : Expr) → settled f e ≡ e
    same (number p n) = refl
    same (name p text ss) = λ i. named_constant p text (same_selects ss i) (h text i)
    same (paren p x) = ap (paren p) (same x)
    same (unary p op x) = ap (unary p op) (same x)
    same (binary p op x y) = λ i. binary p op (same x i) (same y i)
    same (conditional p c x y) = λ i. conditional p (same c i) (same x i) (same y i)
    same (concat p es) = ap (concat p) (same_exprs es)
    same (repeat p n es) = λ i. repeat p (same n i) (same_exprs es i)
    same (cast p to x) = ap (cast p to) (same x)

    same_exprs : (es : Exprs) → settled_exprs f es ≡ es
    same_exprs none = refl
    same_exprs (more e es) = λ i. more (same e i) (same_exprs es i)

    same_selects : (ss : Selects) → settled_selects f ss ≡ ss
    same_selects whole = refl
    same_selects (bit p x ss) = λ i. bit p (same x i) (same_selects ss i)
    same_selects (part p l r ss) = λ i. part p (same l i) (same r i) (same_selects ss i)
    same_selects (indexed p x n ss) = λ i. indexed p (same x i) (same n i) (same_selects ss i)

pub copied_target : (f : List ℕ → Option Const) (e copy : Expr) (l : Option Lval)
    → ((text : List ℕ) → f text ≡ None) → copy ≡ settled f e → l ≡ name_target copy → l ≡ name_target e
copied_target f e copy l h made r = r ∙ ap name_target (made ∙ same f h e)

-- ---- lists of targets

before-none : (ls : List Lval) → lvals_before ls no_lvals ≡ lvals ls
before-none [] = refl
before-none (l ∷ ls) = ap (more_lvals l) (before-none ls)

before-push : (ls : List Lval) (l : Lval) (rest : Lvals)
    → lvals_before (ls ++ l ∷ []) rest ≡ lvals_before ls (more_lvals l rest)
before-push [] l rest = refl
before-push (x ∷ ls) l rest = ap (more_lvals x) (before-push ls l rest)

push_before : (ls : List Lval) (l : Lval) (o : Option Lvals)
    → targets_before (ls ++ l ∷ []) o ≡ targets_before ls (o >>= λ xs. Some (more_lvals l xs))
push_before ls l None = refl
push_before ls l (Some xs) = ap Some (before-push ls l xs)

pub targets_on : (old new : List Lval) (l : Lval) (all : List Expr) (e : Expr) (i : ℕ) (whole_is : Option Lvals)
    → drop i all ≡ e ∷ drop (i + 1) all → new ≡ old ++ l ∷ [] → Some l ≡ target_of e
    → targets_before old (targets_of (exprs (drop i all))) ≡ whole_is
    → targets_before new (targets_of (exprs (drop (i + 1) all))) ≡ whole_is
targets_on old new l all e i whole_is front push made h =
    let rest = targets_of (exprs (drop (i + 1) all)) in
    ap (λ ls. targets_before ls rest) push ∙ push_before old l rest
    ∙ ap (λ o. targets_before old (o >>= λ l. rest >>= λ ls. Some (more_lvals l ls))) made
    ∙ ap (λ es. targets_before old (targets_of (exprs es))) (sym front) ∙ h

pub targets_stop : (old : List Lval) (all : List Expr) (e : Expr) (i : ℕ) (whole_is : Option Lvals)
    → drop i all ≡ e ∷ drop (i + 1) all → None ≡ target_of e
    → targets_before old (targets_of (exprs (drop i all))) ≡ whole_is → None ≡ whole_is
targets_stop old all e i whole_is front made h =
    ap (λ o. targets_before old (o >>= λ l. targets_of (exprs (drop (i + 1) all)) >>= λ ls. Some (more_lvals l ls)))
    made ∙ ap (λ es. targets_before old (targets_of (exprs es))) (sym front) ∙ h

pub targets_end : (made : List Lval) (all : List Expr) (i : ℕ) (whole_is : Option Lvals) → drop i all ≡ []
    → targets_before made (targets_of (exprs (drop i all))) ≡ whole_is → Some (lvals made) ≡ whole_is
targets_end made all i whole_is gone h =
    sym (ap Some (before-none made)) ∙ ap (λ es. targets_before made (targets_of (exprs es))) (sym gone) ∙ h
