-- Names that are added one behind the other.
use Rattle.std.specs.Prelude.{◌≡◌, refl, ℕ, ◌+◌, List, [], ◌∷◌, ◌++◌, drop}
use Rattle.std.proofs.Common.{ap, sym, ◌∙◌}
use Rattle.vl_tree.specs.declared.expr.Select.{Select}
use Rattle.std.proofs.lemmas.List.{append_assoc}
use Rattle.vl_tree.specs.Expr.{Expr, Selects, exprs}
use Rattle.vl_tree.specs.ExprView.{selects, with_select}
use Rattle.vl_elab_scope.specs.Texts.{texts, exprs_texts, selects_texts}
use Rattle.vl_size.proofs.Falls.{select_depth}
use Rattle.vl_size.proofs.Rest.{part_depth}

append_end : (xs : List (List ℕ)) → xs ++ [] ≡ xs
append_end [] = refl
append_end (x ∷ xs) = ap (λ l. x ∷ l) (append_end xs)

pub exprs_on : (old new : List (List ℕ)) (all : List Expr) (e : Expr) (i : ℕ) (whole : List (List ℕ))
    → drop i all ≡ e ∷ drop (i + 1) all → new ≡ old ++ texts e
    → old ++ exprs_texts (exprs (drop i all)) ≡ whole
    → new ++ exprs_texts (exprs (drop (i + 1) all)) ≡ whole
exprs_on old new all e i whole front made h =
    ap (λ l. l ++ exprs_texts (exprs (drop (i + 1) all))) made
    ∙ append_assoc old (texts e) (exprs_texts (exprs (drop (i + 1) all)))
    ∙ ap (λ l. old ++ exprs_texts (exprs l)) (sym front) ∙ h

pub exprs_end : (made : List (List ℕ)) (all : List Expr) (i : ℕ) (whole : List (List ℕ)) → drop i all ≡ []
    → made ++ exprs_texts (exprs (drop i all)) ≡ whole → made ≡ whole
exprs_end made all i whole gone h =
    sym (append_end made) ∙ ap (λ l. made ++ exprs_texts (exprs l)) (sym gone) ∙ h

pub selects_on : (old new : List (List ℕ)) (all : List Select) (x : Select) (i : ℕ) (whole : List (List ℕ))
    → drop i all ≡ x ∷ drop (i + 1) all
    → ((rest : Selects) → old ++ selects_texts (with_select x rest) ≡ new ++ selects_texts rest)
    → old ++ selects_texts (selects (drop i all)) ≡ whole
    → new ++ selects_texts (selects (drop (i + 1) all)) ≡ whole
selects_on old new all x i whole front made h =
    sym (made (selects (drop (i + 1) all))) ∙ ap (λ l. old ++ selects_texts (selects l)) (sym front) ∙ h

pub selects_end : (made : List (List ℕ)) (all : List Select) (i : ℕ) (whole : List (List ℕ)) → drop i all ≡ []
    → made ++ selects_texts (selects (drop i all)) ≡ whole → made ≡ whole
selects_end made all i whole gone h =
    sym (append_end made) ∙ ap (λ l. made ++ selects_texts (selects l)) (sym gone) ∙ h

pub ruleset joined = (part_depth, select_depth)
