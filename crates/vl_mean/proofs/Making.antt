-- Lists of parts that are made one behind the other.
use Rattle.std.specs.Prelude.{◌≡◌, refl, ℕ, ◌+◌, drop, List, [], ◌∷◌, ◌++◌, Option, Some, None, Bool, true, false}
use Rattle.std.specs.Prelude.{IsTrue, Result, Ok, Err, IfOk}
use Rattle.std.proofs.Common.{ap, sym, ◌∙◌, true≢false, arith}
use Rattle.fv_text.specs.declared.pos.Pos.{Pos}
use Rattle.vl_tree.specs.declared.expr.Select.{Select}
use Rattle.vl_tree.specs.declared.expr.Select.TheVariants as s
use Rattle.vl_tree.specs.Expr.{Expr, Exprs, Selects, number, name, none, more, whole, exprs}
use Rattle.vl_tree.specs.ExprView.{selects, with_select}
use Rattle.vl_size.specs.declared.decl.Decl.{Decl}
use Rattle.vl_size.specs.Divisors.{valid_size}
use Rattle.vl_size.specs.Size.{Cells, cells_in, value}
use Rattle.vl_mean.specs.declared.const_number.Const.{Const}
use Rattle.vl_mean.specs.Constants.{cut_to, number_of, vector_of, values_at, number_or, selected_constant}
use Rattle.vl_mean.specs.Constants.{named_constant, settled, settled_exprs, settled_selects}

-- what is made, and then what is left
abbrev pub before : List Expr → Exprs → Exprs
before [] es = es
before (x ∷ xs) es = more x (before xs es)

pub before-none : (xs : List Expr) → before xs none ≡ exprs xs
before-none [] = refl
before-none (x ∷ xs) = ap (more x) (before-none xs)

pub before-push : (xs : List Expr) (x : Expr) (es : Exprs) → before (xs ++ x ∷ []) es ≡ before xs (more x es)
before-push [] x es = refl
before-push (y ∷ xs) x es = ap (more y) (before-push xs x es)

abbrev pub selects_before : List Select → Selects → Selects
selects_before [] ss = ss
selects_before (x ∷ xs) ss = with_select x (selects_before xs ss)

pub selects_before-whole : (xs : List Select) → selects_before xs whole ≡ selects xs
selects_before-whole [] = refl
selects_before-whole (x ∷ xs) = ap (with_select x) (selects_before-whole xs)

pub selects_before-push : (xs : List Select) (x : Select) (ss : Selects)
    → selects_before (xs ++ x ∷ []) ss ≡ selects_before xs (with_select x ss)
selects_before-push [] x ss = refl
selects_before-push (y ∷ xs) x ss = ap (with_select y) (selects_before-push xs x ss)

pub ruleset parts = (before-none, before-push, selects_before-whole, selects_before-push)

-- a select of a constant, over a table of its name alone
pub none_selected : (p : Pos) (text : List ℕ) (x : Expr) (c : Const) (ds : List Decl) → ds ≡ vector_of text c ∷ []
    → None ≡ valid_size ds x
    → x ≡ selected_constant p text x c
none_selected p text x c ds e h =
    ap (λ o. number_or p o x (λ n. value (vector_of text c ∷ []) (cells_in (values_at text c)) n false x))
    (h ∙ ap (λ ds. valid_size ds x) e)

pub some_selected : (p : Pos) (text : List ℕ) (x : Expr) (c : Const) (es ds : List Decl) (v : Cells) (n number_is : ℕ)
    → es ≡ vector_of text c ∷ [] → ds ≡ vector_of text c ∷ [] → v ≡ cells_in (values_at text c)
    → Some n ≡ valid_size es x → number_is ≡ value ds v n false x
    → number p (number_of (cut_to n false number_is)) ≡ selected_constant p text x c
some_selected p text x c es ds v n m d e f h k =
    ap (λ m. number p (number_of (cut_to n false m))) (k ∙ (λ i. value (e i) (f i) n false x))
    ∙ ap (λ o. number_or p o x (λ n. value (vector_of text c ∷ []) (cells_in (values_at text c)) n false x))
    (h ∙ ap (λ ds. valid_size ds x) d)

module _ (c : List ℕ → Option Const) where
  pub settled_on : (old new all : List Expr) (x e : Expr) (i : ℕ) (all_of : Exprs)
      → drop i all ≡ e ∷ drop (i + 1) all → new ≡ old ++ x ∷ []
      → x ≡ settled c e → before old (settled_exprs c (exprs (drop i all))) ≡ all_of
      → before new (settled_exprs c (exprs (drop (i + 1) all))) ≡ all_of
  settled_on old new all x e i all_of front push made h =
      ap (λ l. before l (settled_exprs c (exprs (drop (i + 1) all)))) push
      ∙ before-push old x (settled_exprs c (exprs (drop (i + 1) all)))
      ∙ ap (λ y. before old (more y (settled_exprs c (exprs (drop (i + 1) all))))) made
      ∙ ap (λ l. before old (settled_exprs c (exprs l))) (sym front) ∙ h

  pub settled_end : (made all : List Expr) (i : ℕ) (all_of : Exprs) → drop i all ≡ []
      → before made (settled_exprs c (exprs (drop i all))) ≡ all_of
      → exprs made ≡ all_of
  settled_end made all i all_of gone h =
      sym (before-none made) ∙ ap (λ l. before made (settled_exprs c (exprs l))) (sym gone) ∙ h

  pub selects_on : (old new all : List Select) (x e : Select) (i : ℕ) (all_of : Selects)
      → drop i all ≡ e ∷ drop (i + 1) all → new ≡ old ++ x ∷ []
      → ((rest : Selects) → with_select x (settled_selects c rest) ≡ settled_selects c (with_select e rest))
      → selects_before old (settled_selects c (selects (drop i all))) ≡ all_of
      → selects_before new (settled_selects c (selects (drop (i + 1) all))) ≡ all_of
  selects_on old new all x e i all_of front push made h =
      ap (λ l. selects_before l (settled_selects c (selects (drop (i + 1) all)))) push
      ∙ selects_before-push old x (settled_selects c (selects (drop (i + 1) all)))
      ∙ ap (λ y. selects_before old y) (made (selects (drop (i + 1) all)))
      ∙ ap (λ l. selects_before old (settled_selects c (selects l))) (sym front) ∙ h

  pub selects_end : (made all : List Select) (i : ℕ) (all_of : Selects) → drop i all ≡ []
      → selects_before made (settled_selects c (selects (drop i all))) ≡ all_of → selects made ≡ all_of
  selects_end made all i all_of gone h =
      sym (selects_before-whole made) ∙ ap (λ l. selects_before made (settled_selects c (selects l))) (sym gone) ∙ h

-- a constant's name with selects
with_selects : (p : Pos) (text : List ℕ) (all : List Select) (k : Const) → (all ≡ [] → ⊥)
    → selected_constant p text (name p text (selects all)) k ≡ named_constant p text (selects all) (Some k)
with_selects p text [] k h = absurd (h refl)
with_selects p text (s.Bit q i ∷ ss) k h = refl
with_selects p text (s.Part q l r ∷ ss) k h = refl
with_selects p text (s.Indexed q i n ∷ ss) k h = refl

pub name_selected : {F : Type 0} (r : Result Expr F) (p : Pos) (text : List ℕ) (all : List Select) (x : Expr)
    (o : Option Const) (k : Const)
    → (all ≡ [] → ⊥) → x ≡ name p text (selects all) → o ≡ Some k
    → IfOk r (λ e. e ≡ selected_constant p text x k) → IfOk r (λ e. e ≡ named_constant p text (selects all) o)
name_selected (Ok e) p text all x o k some is given h =
    h ∙ ap (λ y. selected_constant p text y k) is ∙ with_selects p text all k some
    ∙ ap (named_constant p text (selects all)) (sym given)
name_selected (Err f) p text all x o k some is given h = h

pub not_empty : {A : Type 0} (all : List A) (b : Bool) → (all ≡ [] → IsTrue b) → b ≡ false → all ≡ [] → ⊥
not_empty all true h k e = true≢false k
not_empty all false h k e = grind (arith, h e)
