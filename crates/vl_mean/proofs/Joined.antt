-- Parts that are joined from the last one on.
use Rattle.std.specs.Prelude.{◌≡◌, refl, ℕ, zero, suc, ◌+◌, ◌≤◌, ◌<◌, Bool, true, false, not, is_some, is_none}
use Rattle.std.specs.Prelude.{if◌then◌else◌, List, [], ◌∷◌, length, get_or, drop, Option, Some, None}
use Rattle.std.proofs.Common.{ap, sym, ◌∙◌, true≢false, arith}
use Rattle.vl_tree.specs.declared.expr.Select.{Select}
use Rattle.vl_tree.specs.declared.expr.Select.TheVariants as s
use Rattle.vl_tree.specs.Expr.{Expr, Selects, whole, exprs, depth, exprs_depth, selects_depth}
use Rattle.vl_tree.specs.ExprView.{selects, with_select}
use Rattle.vl_size.specs.declared.decl.Decl.{Decl}
use Rattle.vl_size.specs.Sign.{sign}
use Rattle.vl_size.proofs.Rest.{part_depth}
use Rattle.vl_size.proofs.Falls.{select_depth}
use Rattle.vl_mean.specs.declared.const_number.Const.{Const}
use Rattle.vl_mean.specs.ConstantFaults.{wide, wides, capped}
use Rattle.vl_size.specs.Size.{◌>>=◌, Cells, within, size, sizes, value, operand_of, index_of, vector_value}
use Rattle.vl_size.specs.Size.{word_value, memory_word}

-- where a part has no size, the whole has none
bind_none : (o : Option ℕ) (f : ℕ → ℕ → Option ℕ) → (o >>= λ m. None >>= f m) ≡ None
bind_none None f = refl
bind_none (Some m) f = refl

pub none_from : (ds : List Decl) (es : List Expr) (i : ℕ) → sizes ds (exprs (drop i es)) ≡ None
    → sizes ds (exprs es) ≡ None
none_from ds es zero h = h
none_from ds [] (suc i) h = h
none_from ds (e ∷ es) (suc i) h =
    ap (λ o. size ds e >>= λ m. o >>= λ n. within (m + n)) (none_from ds es i h)
    ∙ bind_none (size ds e) (λ m n. within (m + n))

pub none_at : (ds : List Decl) (es rest : List Expr) (i : ℕ) (e : Expr) → drop i es ≡ e ∷ rest → size ds e ≡ None
    → sizes ds (exprs es) ≡ None
none_at ds es rest i e front h =
    none_from ds es i (ap (λ l. sizes ds (exprs l)) front
    ∙ ap (λ o. o >>= λ m. sizes ds (exprs rest) >>= λ n. within (m + n)) h)

pub sizes_at : (ds : List Decl) (es rest : List Expr) (i m n : ℕ) (o : Option ℕ) (e : Expr) → drop i es ≡ e ∷ rest
    → size ds e ≡ Some m
    → sizes ds (exprs rest) ≡ Some n → within (m + n) ≡ o → sizes ds (exprs (drop i es)) ≡ o
sizes_at ds es rest i m n o e front h k l =
    ap (λ l. sizes ds (exprs l)) front ∙ ap (λ o. o >>= λ m. sizes ds (exprs rest) >>= λ n. within (m + n)) h
    ∙ ap (λ o. o >>= λ n. within (m + n)) k ∙ l

pub ruleset parts = (part_depth, select_depth)

-- a vector has one select at most, and a memory two
pub two_values : (ds : List Decl) (v : Cells) (w : ℕ) (t : Bool) (d : Decl) (x : ℕ) (ss : List Select) → 2 ≤ length ss
    → vector_value ds v w t d x (selects ss) ≡ 0
two_values ds v w t d x [] h = absurd (omega arith)
two_values ds v w t d x (a ∷ []) h = absurd (omega arith)
two_values ds v w t d x (s.Bit p i ∷ s.Bit q j ∷ ss) h = refl
two_values ds v w t d x (s.Bit p i ∷ s.Part q j k ∷ ss) h = refl
two_values ds v w t d x (s.Bit p i ∷ s.Indexed q j k ∷ ss) h = refl
two_values ds v w t d x (s.Part p i l ∷ s.Bit q j ∷ ss) h = refl
two_values ds v w t d x (s.Part p i l ∷ s.Part q j k ∷ ss) h = refl
two_values ds v w t d x (s.Part p i l ∷ s.Indexed q j k ∷ ss) h = refl
two_values ds v w t d x (s.Indexed p i l ∷ s.Bit q j ∷ ss) h = refl
two_values ds v w t d x (s.Indexed p i l ∷ s.Part q j k ∷ ss) h = refl
two_values ds v w t d x (s.Indexed p i l ∷ s.Indexed q j k ∷ ss) h = refl

pub three_values : (ds : List Decl) (v : Cells) (w : ℕ) (t : Bool) (d : Decl) (ss : List Select) → 3 ≤ length ss
    → word_value ds v w t d (selects ss) ≡ 0
three_values ds v w t d [] h = absurd (omega arith)
three_values ds v w t d (s.Bit p i ∷ ss) h =
    two_values ds v w t d (memory_word v d d.words (index_of (operand_of ds v i.value))) ss (omega arith)
three_values ds v w t d (s.Part p i j ∷ ss) h = refl
three_values ds v w t d (s.Indexed p i j ∷ ss) h = refl

-- the declared name is no memory, or it is one
pub of_vector : {A : Type 0} (words : Option A) (b : Bool) (x y : ℕ) → is_some words ≡ not b → b ≡ true → x ≡ 0
    → 0 ≡ (if is_none words then x else y)
of_vector None b x y e t h = sym h
of_vector (Some w) b x y e t h = absurd (true≢false (e ∙ ap not t))

pub of_memory : {A : Type 0} (words : Option A) (b : Bool) (x y : ℕ) → is_some words ≡ not b → b ≡ false → y ≡ 0
    → 0 ≡ (if is_none words then x else y)
of_memory None b x y e t h = absurd (true≢false (sym (e ∙ ap not t)))
of_memory (Some w) b x y e t h = sym h

-- sizes without a limit: where a part has none, the whole has none
module _ (c : List ℕ → Option Const) (ds : List Decl) (v : Cells) where
  wides_from : (es : List Expr) (i : ℕ) → wides c ds v (exprs (drop i es)) ≡ None → wides c ds v (exprs es) ≡ None
  wides_from es zero h = h
  wides_from [] (suc i) h = h
  wides_from (e ∷ es) (suc i) h =
      ap (λ o. wide c ds v e >>= λ m. o >>= λ n. Some (capped (m + n))) (wides_from es i h)
      ∙ bind_none (wide c ds v e) (λ m n. Some (capped (m + n)))

  pub wides_at : (es rest : List Expr) (i : ℕ) (e : Expr) → drop i es ≡ e ∷ rest → wide c ds v e ≡ None
      → wides c ds v (exprs es) ≡ None
  wides_at es rest i e front h =
      wides_from es i (ap (λ l. wides c ds v (exprs l)) front
      ∙ ap (λ o. o >>= λ m. wides c ds v (exprs rest) >>= λ n. Some (capped (m + n))) h)
