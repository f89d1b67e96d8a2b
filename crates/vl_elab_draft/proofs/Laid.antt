-- Lists of parts that are made one behind the other.
use Rattle.std.specs.Prelude.{◌≡◌, refl, ℕ, ◌+◌, drop, List, [], ◌∷◌, ◌++◌}
use Rattle.std.proofs.Common.{ap, sym, ◌∙◌}
use Rattle.vl_tree.specs.declared.expr.Select.{Select}
use Rattle.vl_tree.specs.declared.stmt.Arm.{Arm}
use Rattle.vl_tree.specs.Expr.{Expr, none, more, whole, exprs}
use Rattle.vl_tree.specs.ExprView.{selects, with_select}
use Rattle.vl_tree.specs.Lval.{Lval, no_lvals, more_lvals, lvals}
use Rattle.vl_tree.specs.Stmt.{Stmt, no_stmts, more_stmts, no_arms, stmts}
use Rattle.vl_tree.specs.StmtView.{arms, with_arm}

-- parts of any kind, in front of what is left
module _ {A S : Type 0} (cons : A → S → S) where
  abbrev pub laid : List A → S → S
  laid [] s = s
  laid (x ∷ xs) s = cons x (laid xs s)

  pub laid-push : (xs : List A) (x : A) (s : S) → laid (xs ++ x ∷ []) s ≡ laid xs (cons x s)
  laid-push [] x s = refl
  laid-push (y ∷ xs) x s = ap (cons y) (laid-push xs x s)

  -- one part more, made from the next one of all
  pub laid_on : (seen : List A → S) (made : S → S) (old new all : List A) (x e : A) (i : ℕ) (goal : S)
      → ((y : A) (ys : List A) → seen (y ∷ ys) ≡ cons y (seen ys)) → drop i all ≡ e ∷ drop (i + 1) all
      → new ≡ old ++ x ∷ [] → cons x (made (seen (drop (i + 1) all))) ≡ made (cons e (seen (drop (i + 1) all)))
      → laid old (made (seen (drop i all))) ≡ goal → laid new (made (seen (drop (i + 1) all))) ≡ goal
  laid_on seen made old new all x e i goal step front push one h =
      ap (λ l. laid l (made (seen (drop (i + 1) all)))) push ∙ laid-push old x (made (seen (drop (i + 1) all)))
      ∙ ap (laid old) (one ∙ ap made (sym (step e (drop (i + 1) all)))) ∙ ap (λ l. laid old (made (seen l)))
      (sym front)
      ∙ h

  -- all parts
  pub laid_end : (seen : List A → S) (made : S → S) (done all : List A) (i : ℕ) (goal : S)
      → made (seen []) ≡ seen [] → laid done (seen []) ≡ seen done → drop i all ≡ []
      → laid done (made (seen (drop i all))) ≡ goal → seen done ≡ goal
  laid_end seen made done all i goal empty all_laid gone h =
      sym all_laid ∙ ap (laid done) (sym empty ∙ ap (λ l. made (seen l)) (sym gone)) ∙ h

pub laid-list : {A : Type 0} (xs : List A) → laid (λ x l. x ∷ l) xs [] ≡ xs
laid-list [] = refl
laid-list (x ∷ xs) = ap (λ l. x ∷ l) (laid-list xs)

pub laid-exprs : (es : List Expr) → laid more es none ≡ exprs es
laid-exprs [] = refl
laid-exprs (e ∷ es) = ap (more e) (laid-exprs es)

pub laid-selects : (ss : List Select) → laid with_select ss whole ≡ selects ss
laid-selects [] = refl
laid-selects (s ∷ ss) = ap (with_select s) (laid-selects ss)

pub laid-lvals : (ls : List Lval) → laid more_lvals ls no_lvals ≡ lvals ls
laid-lvals [] = refl
laid-lvals (l ∷ ls) = ap (more_lvals l) (laid-lvals ls)

pub laid-stmts : (ss : List Stmt) → laid more_stmts ss no_stmts ≡ stmts ss
laid-stmts [] = refl
laid-stmts (s ∷ ss) = ap (more_stmts s) (laid-stmts ss)

pub laid-arms : (xs : List Arm) → laid with_arm xs no_arms ≡ arms xs
laid-arms [] = refl
laid-arms (x ∷ xs) = ap (with_arm x) (laid-arms xs)
