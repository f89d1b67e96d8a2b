-- Tables that are filled with the constants that an expression names.
use Rattle.std.specs.Prelude.{◌≡◌, refl, ℕ, ◌+◌, drop, List, [], ◌∷◌, ◌++◌, Bool, true, false, ◌||◌, bytes_eq}
use Rattle.std.specs.Prelude.{Option, Some, None, if◌then◌else◌, Result, Ok, Err, OnOk}
use Rattle.std.proofs.Common.{ap, sym, ◌∙◌, subst}
use Rattle.vl_tree.specs.declared.expr.Select.{Select}
use Rattle.vl_tree.specs.Expr.{Expr, Selects, exprs}
use Rattle.vl_tree.specs.ExprView.{selects, with_select}
use Rattle.vl_mean.specs.Cells.{contains_name}
use Rattle.vl_elab_scope.specs.Texts.{texts, exprs_texts, selects_texts, or_else, AgreeOn}
use Rattle.vl_elab_draft.specs.Filled.{filled}

module _ {A : Type 0} (f : List ℕ → Option A) where
  -- one list of names behind the other
  pub filled-append : (xs ys : List (List ℕ)) (o : Option A) (other : List ℕ)
      → filled f (xs ++ ys) o other ≡ filled f ys (filled f xs o other) other
  filled-append [] ys o other = refl
  filled-append (x ∷ xs) ys o other =
      filled-append xs ys (if bytes_eq other x then or_else o (f other) else o) other

  -- ---- what is there in the end

  same_twice : (o : Option A) (other : List ℕ) (b : Bool) → o ≡ f other
      → (if b then or_else o (f other) else o) ≡ f other
  same_twice None other true e = refl
  same_twice None other false e = e
  same_twice (Some x) other true e = e
  same_twice (Some x) other false e = e

  -- what f says stays
  stays_filled : (ts : List (List ℕ)) (o : Option A) (other : List ℕ) → o ≡ f other → filled f ts o other ≡ f other
  stays_filled [] o other e = e
  stays_filled (t ∷ ts) o other e =
      stays_filled ts (if bytes_eq other t then or_else o (f other) else o) other
      (same_twice o other (bytes_eq other t) e)

  comes_filled : (ts : List (List ℕ)) (other : List ℕ) → contains_name ts other ≡ true
      → filled f ts None other ≡ f other
  comes_filled [] other k = cc
  comes_filled (t ∷ ts) other k = by (bytes_eq other t) k (comes_filled ts other)
    where
      by : (b : Bool) → (b || contains_name ts other) ≡ true
          → (contains_name ts other ≡ true → filled f ts None other ≡ f other)
          → filled f ts (if b then f other else None) other ≡ f other
      by true k next = stays_filled ts (f other) other refl
      by false k next = next k

  pub filled_agrees : (g : List ℕ → Option A) (ts : List (List ℕ)) (old : List ℕ → Option A)
      → ((other : List ℕ) → old other ≡ None) → ((other : List ℕ) → g other ≡ filled f ts (old other) other)
      → AgreeOn g f ts
  filled_agrees g ts old empty h text k =
      h text ∙ ap (λ o. filled f ts o text) (empty text) ∙ comes_filled ts text k

  -- ---- parts one behind the other

  abbrev Fills : (List ℕ → Option A) → (List ℕ → Option A) → List (List ℕ) → Type 0
  Fills old new ts = (other : List ℕ) → new other ≡ filled f ts (old other) other

  pub both_filled : (old mid new : List ℕ → Option A) (xs ys : List (List ℕ)) → Fills old mid xs → Fills mid new ys
      → Fills old new (xs ++ ys)
  both_filled old mid new xs ys h k other =
      k other ∙ ap (λ o. filled f ys o other) (h other) ∙ sym (filled-append xs ys (old other) other)

  pub then_filled : {B E : Type 0} (r : Result B E) (old mid new : List ℕ → Option A) (ts xs ys : List (List ℕ))
      → ts ≡ xs ++ ys → Fills old mid xs → OnOk r (Fills mid new ys) → OnOk r (Fills old new ts)
  then_filled (Ok x) old mid new ts xs ys e h k =
      subst (Fills old new) (sym e) (both_filled old mid new xs ys h k)
  then_filled (Err x) old mid new ts xs ys e h k = k

  pub three_filled : {B E : Type 0} (r : Result B E) (old mid next new : List ℕ → Option A)
      (ts xs ys zs : List (List ℕ)) → ts ≡ xs ++ (ys ++ zs) → Fills old mid xs → Fills mid next ys
      → OnOk r (Fills next new zs) → OnOk r (Fills old new ts)
  three_filled (Ok x) old mid next new ts xs ys zs e h k l =
      subst (Fills old new) (sym e)
      (both_filled old mid new xs (ys ++ zs) h (both_filled mid next new ys zs k l))
  three_filled (Err x) old mid next new ts xs ys zs e h k l = l

  pub exprs_on : (old new first : List ℕ → Option A) (all : List Expr) (e : Expr) (i : ℕ)
      → drop i all ≡ e ∷ drop (i + 1) all → Fills old new (texts e)
      → ((other : List ℕ) → filled f (exprs_texts (exprs (drop i all))) (old other) other
      ≡ filled f (exprs_texts (exprs all)) (first other) other)
      → (other : List ℕ) → filled f (exprs_texts (exprs (drop (i + 1) all))) (new other) other
      ≡ filled f (exprs_texts (exprs all)) (first other) other
  exprs_on old new first all e i front made h other =
      ap (λ o. filled f (exprs_texts (exprs (drop (i + 1) all))) o other) (made other)
      ∙ sym (filled-append (texts e) (exprs_texts (exprs (drop (i + 1) all))) (old other) other)
      ∙ ap (λ l. filled f (exprs_texts (exprs l)) (old other) other) (sym front) ∙ h other

  pub exprs_end : (done first : List ℕ → Option A) (all : List Expr) (i : ℕ) → drop i all ≡ []
      → ((other : List ℕ) → filled f (exprs_texts (exprs (drop i all))) (done other) other
      ≡ filled f (exprs_texts (exprs all)) (first other) other) → Fills first done (exprs_texts (exprs all))
  exprs_end done first all i gone h other =
      ap (λ l. filled f (exprs_texts (exprs l)) (done other) other) (sym gone) ∙ h other

  -- what a select fills, before the selects behind it
  abbrev Selected : (List ℕ → Option A) → (List ℕ → Option A) → Select → Type 0
  Selected old new s =
      (rest : Selects) (other : List ℕ) → filled f (selects_texts rest) (new other) other
      ≡ filled f (selects_texts (with_select s rest)) (old other) other

  pub selects_on : (old new first : List ℕ → Option A) (all : List Select) (s : Select) (i : ℕ)
      → drop i all ≡ s ∷ drop (i + 1) all → Selected old new s
      → ((other : List ℕ) → filled f (selects_texts (selects (drop i all))) (old other) other
      ≡ filled f (selects_texts (selects all)) (first other) other)
      → (other : List ℕ) → filled f (selects_texts (selects (drop (i + 1) all))) (new other) other
      ≡ filled f (selects_texts (selects all)) (first other) other
  selects_on old new first all s i front made h other =
      made (selects (drop (i + 1) all)) other
      ∙ ap (λ l. filled f (selects_texts (selects l)) (old other) other) (sym front) ∙ h other

  pub selects_end : (done first : List ℕ → Option A) (all : List Select) (i : ℕ) → drop i all ≡ []
      → ((other : List ℕ) → filled f (selects_texts (selects (drop i all))) (done other) other
      ≡ filled f (selects_texts (selects all)) (first other) other) → Fills first done (selects_texts (selects all))
  selects_end done first all i gone h other =
      ap (λ l. filled f (selects_texts (selects l)) (done other) other) (sym gone) ∙ h other

  -- one expression in a select, and two
  pub one_selected : {B E : Type 0} (r : Result B E) (old new : List ℕ → Option A) (s : Select) (xs : List (List ℕ))
      → ((rest : Selects) → selects_texts (with_select s rest) ≡ xs ++ selects_texts rest)
      → OnOk r (Fills old new xs) → OnOk r (Selected old new s)
  one_selected (Ok x) old new s xs e h = λ rest other.
      ap (λ o. filled f (selects_texts rest) o other) (h other)
      ∙ sym (filled-append xs (selects_texts rest) (old other) other)
      ∙ ap (λ l. filled f l (old other) other) (sym (e rest))
  one_selected (Err x) old new s xs e h = h

  pub two_selected : {B E : Type 0} (r : Result B E) (old mid new : List ℕ → Option A) (s : Select)
      (xs ys : List (List ℕ))
      → ((rest : Selects) → selects_texts (with_select s rest) ≡ xs ++ (ys ++ selects_texts rest))
      → Fills old mid xs → OnOk r (Fills mid new ys) → OnOk r (Selected old new s)
  two_selected (Ok x) old mid new s xs ys e h k = λ rest other.
      ap (λ o. filled f (selects_texts rest) o other) (k other)
      ∙ sym (filled-append ys (selects_texts rest) (mid other) other)
      ∙ ap (λ o. filled f (ys ++ selects_texts rest) o other) (h other)
      ∙ sym (filled-append xs (ys ++ selects_texts rest) (old other) other)
      ∙ ap (λ l. filled f l (old other) other) (sym (e rest))
  two_selected (Err x) old mid new s xs ys e h k = k
