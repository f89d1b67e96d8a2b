-- The bits of parts that are joined from the first part on, against the definition.
use Rattle.std.specs.Prelude.{◌≡◌, refl, ℕ, ◌+◌, ◌*◌, ◌^◌, ◌≤◌, List, Option, Some, None, IfSome}
use Rattle.std.proofs.Common.{ap, sym, ◌∙◌, arith}
use Rattle.std.proofs.Math.Nat.{mul_assoc}
use Rattle.std.proofs.lemmas.Nat.{pow-add}
use Rattle.vl_tree.specs.Expr.{Expr, Exprs, none, more}
use Rattle.vl_size.specs.declared.decl.Decl.{Decl}
use Rattle.vl_size.specs.Sign.{sign}
use Rattle.vl_size.specs.Size.{◌>>=◌, within, or_none, no_names, size, sizes, value, concatenated}
use Rattle.vl_size.proofs.Rest.{with_rest, with_rest_is, with_rest-end, within_near, within_some}

-- what is joined so far, with the parts that are left, where they have a size
abbrev pub Joins : List Decl → Option ℕ → ℕ → Exprs → ℕ → Type 0
Joins ds all number es whole =
    IfSome all (λ m. number * 2 ^ or_none (sizes ds es) + concatenated ds no_names es ≡ whole)

pub joins_first : (ds : List Decl) (all : Option ℕ) (es : Exprs) → Joins ds all 0 es (concatenated ds no_names es)
joins_first ds None es = tt
joins_first ds (Some m) es = omega arith

pub joins_end : (ds : List Decl) (all : Option ℕ) (s number whole : ℕ) → with_rest ds s none ≡ all
    → Joins ds all number none whole → number ≡ whole
joins_end ds None s number whole h j = absurd (some_none (sym (with_rest-end ds s) ∙ h))
  where
    some_none : Some s ≡ None → ⊥
    some_none e = cc
joins_end ds (Some m) s number whole h j = omega (arith, j)

-- sizes that are left, and a part before them, are at most 128 bits
left_sizes : (ds : List Decl) (k t : ℕ) (es : Exprs) (o : Option ℕ) → sizes ds es ≡ o → k ≤ 128
    → with_rest ds k es ≡ Some t
    → (n : ℕ) × (o ≡ Some n) × (k + n ≤ 128)
left_sizes ds k t es None e few h =
    absurd (none_some (sym (with_rest_is ds k es few ∙ ap (λ o. o >>= λ n. within (k + n)) e) ∙ h))
  where
    none_some : None ≡ Some t → ⊥
    none_some e = cc
left_sizes ds k t es (Some n) e few h =
    (n, refl, (within_some (k + n) t (sym (with_rest_is ds k es few ∙ ap (λ o. o >>= λ n. within (k + n)) e) ∙ h)).0)

moved : (number x own m n rest : ℕ) → own ≡ x
    → (number * 2 ^ m + x) * 2 ^ n + rest ≡ number * 2 ^ (m + n) + (own * 2 ^ n + rest)
moved number x own m n rest e =
    let shifts = ap (λ p. number * p) (pow-add 2 m n) ∙ sym (mul_assoc number (2 ^ m) (2 ^ n)) in
    let spread = spread_out (number * 2 ^ m) x (2 ^ n) in
    omega (arith, spread, shifts, ap (λ y. y * 2 ^ n) e)
  where
    spread_out : (a b c : ℕ) → (a + b) * c ≡ a * c + b * c
    spread_out a b c = omega arith

joins_on_some : (ds : List Decl) (t s m k number x whole : ℕ) (e : Expr) (es : Exprs)
    → size ds e ≡ Some m → k ≡ s + m → k ≤ 128 → x ≡ value ds no_names m (sign ds e) e
    → with_rest ds k es ≡ Some t → Joins ds (Some t) number (more e es) whole
    → Joins ds (Some t) (number * 2 ^ m + x) es whole
joins_on_some ds t s m k number x whole e es sized k_is few x_is h j =
    let left = left_sizes ds k t es (sizes ds es) refl few h in
    let n = left.0 in
    let own_is : value ds no_names (or_none (size ds e)) (sign ds e) e
    ≡ x = ap (λ o. value ds no_names (or_none o) (sign ds e) e) sized ∙ sym x_is in
    let all_is : sizes ds (more e es) ≡ Some (m + n) =
    ap (λ o. o >>= λ m. sizes ds es >>= λ n. within (m + n)) sized ∙ ap (λ o. o >>= λ n. within (m + n)) left.1
    ∙ within_near (m + n) (omega (arith, left.2)) in
    ap (λ o. (number * 2 ^ m + x) * 2 ^ or_none o + concatenated ds no_names es) left.1
    ∙ moved number x (value ds no_names (or_none (size ds e)) (sign ds e) e) m n (concatenated ds no_names es) own_is
    ∙ ap (λ o. number * 2 ^ (m + n) + (value ds no_names (or_none (size ds e)) (sign ds e) e * 2 ^ or_none o
    + concatenated ds no_names es)) (sym left.1)
    ∙ ap (λ o. number * 2 ^ or_none o + concatenated ds no_names (more e es)) (sym all_is)
    ∙ j

pub joins_on : (ds : List Decl) (all : Option ℕ) (s m k number x whole : ℕ) (e : Expr) (es : Exprs)
    → size ds e ≡ Some m → k ≡ s + m → k ≤ 128 → x ≡ value ds no_names m (sign ds e) e
    → with_rest ds k es ≡ all → Joins ds all number (more e es) whole → Joins ds all (number * 2 ^ m + x) es whole
joins_on ds None s m k number x whole e es sized k_is few x_is h j = tt
joins_on ds (Some t) s m k number x whole e es sized k_is few x_is h j =
    joins_on_some ds t s m k number x whole e es sized k_is few x_is h j
