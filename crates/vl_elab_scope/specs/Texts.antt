-- Between functions: The names that stand in an expression, in order, and what is known of those alone.
use Rattle.std.specs.Prelude.{◌≡◌, ℕ, List, [], ◌∷◌, ◌++◌, true, Option, Some, None}
use Rattle.std.specs.Prelude.{if◌then◌else◌}
use Rattle.vl_tree.specs.Expr.{
  Expr,
  Exprs,
  Selects,
  number,
  name,
  paren,
  unary,
  binary,
  conditional,
  concat,
  repeat,
  cast,
  none,
  more,
  whole,
  bit,
  part,
  indexed,
}
use Rattle.vl_mean.specs.Cells.{contains_name}

abbrev mutual
  pub texts : Expr → List (List ℕ)
  texts (number p n) = []
  texts (name p text ss) = text ∷ selects_texts ss
  texts (paren p x) = texts x
  texts (unary p op x) = texts x
  texts (binary p op x y) = texts x ++ texts y
  texts (conditional p c x y) = texts c ++ (texts x ++ texts y)
  texts (concat p es) = exprs_texts es
  texts (repeat p n es) = texts n ++ exprs_texts es
  texts (cast p to x) = texts x

  pub exprs_texts : Exprs → List (List ℕ)
  exprs_texts none = []
  exprs_texts (more e es) = texts e ++ exprs_texts es

  pub selects_texts : Selects → List (List ℕ)
  selects_texts whole = []
  selects_texts (bit p i ss) = texts i ++ selects_texts ss
  selects_texts (part p l r ss) = texts l ++ (texts r ++ selects_texts ss)
  selects_texts (indexed p s n ss) = texts s ++ (texts n ++ selects_texts ss)

-- what these names alone have
abbrev pub of_names : {A : Type 0} → (List ℕ → Option A) → List (List ℕ) → List ℕ → Option A
of_names f ts text = if contains_name ts text then f text else None

-- both say the same of these names
abbrev pub AgreeOn : {A : Type 0} → (List ℕ → Option A) → (List ℕ → Option A) → List (List ℕ) → Type 0
AgreeOn f g ts = (text : List ℕ) → contains_name ts text ≡ true → f text ≡ g text

-- the first one that is there
abbrev pub or_else : {A : Type 0} → Option A → Option A → Option A
or_else None y = y
or_else (Some x) y = Some x
