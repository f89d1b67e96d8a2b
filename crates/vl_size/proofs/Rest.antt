-- Sums of sizes from the first part on, against the definition, which adds from the last part on.
use Rattle.std.specs.Prelude.{◌≡◌, refl, ℕ, ◌+◌, ◌≤◌, ◌<◌, Bool, true, false, nat_le, if◌then◌else◌, zero, suc, List}
use Rattle.std.specs.Prelude.{[], ◌∷◌, length, get_or, Option, Some, None}
use Rattle.std.proofs.Common.{ap, sym, ◌∙◌, arith}
use Rattle.std.proofs.lemmas.Bool.Decides.{nat_tests}
use Rattle.vl_tree.specs.Expr.{Expr, Exprs, none, more, exprs, depth, exprs_depth}
use Rattle.vl_size.specs.declared.decl.Decl.{Decl}
use Rattle.vl_size.specs.Size.{◌>>=◌, within, size, sizes}

-- so many bits, with the sizes of the parts that are left
unfoldable pub with_rest : List Decl → ℕ → Exprs → Option ℕ
with_rest ds s none = Some s
with_rest ds s (more e es) = size ds e >>= λ m. within (s + m) >>= λ k. with_rest ds k es

pub within_near : (n : ℕ) → n ≤ 128 → within n ≡ Some n
within_near n h = grind (arith, nat_tests)

pub within_far : (n : ℕ) → 128 < n → within n ≡ None
within_far n h = grind (arith, nat_tests)

pub within_some : (n k : ℕ) → within n ≡ Some k → (n ≤ 128) × (k ≡ n)
within_some n k h = by (nat_le n 128) refl h
  where
    by : (b : Bool) → nat_le n 128 ≡ b → (if b then Some n else None) ≡ Some k → (n ≤ 128) × (k ≡ n)
    by true t h = (grind (arith, nat_tests), cc)
    by false t h = cc

within_sum : (s m n : ℕ) → (within (m + n) >>= λ k. within (s + k)) ≡ within (s + m + n)
within_sum s m n = by (nat_le (m + n) 128) refl
  where
    by : (b : Bool) → nat_le (m + n) 128 ≡ b
        → ((if b then Some (m + n) else None) >>= λ k. within (s + k)) ≡ within (s + m + n)
    by true t = ap within (omega arith)
    by false t = sym (within_far (s + m + n) (grind (arith, nat_tests)))

bind_far : (s m : ℕ) (o : Option ℕ) → 128 < s + m → None ≡ ((o >>= λ n. within (m + n)) >>= λ n. within (s + n))
bind_far s m None h = refl
bind_far s m (Some n) h = sym (within_sum s m n ∙ within_far (s + m + n) (omega arith))

bind_near : (s m : ℕ) (o : Option ℕ) → (o >>= λ n. within (s + m + n))
    ≡ ((o >>= λ n. within (m + n)) >>= λ n. within (s + n))
bind_near s m None = refl
bind_near s m (Some n) = sym (within_sum s m n)

pub with_rest_is : (ds : List Decl) (s : ℕ) (es : Exprs) → s ≤ 128
    → with_rest ds s es ≡ (sizes ds es >>= λ n. within (s + n))
unfolding with_rest
with_rest_is ds s none h = sym (ap within (omega arith) ∙ within_near s h)
with_rest_is ds s (more e es) h = at (size ds e) (λ k h. with_rest_is ds k es h)
  where
    near : (m : ℕ) (b : Bool) (rest : (k : ℕ) → k ≤ 128 → with_rest ds k es ≡ (sizes ds es >>= λ n. within (k + n)))
        → nat_le (s + m) 128 ≡ b
        → ((if b then Some (s + m) else None) >>= λ k. with_rest ds k es)
        ≡ ((sizes ds es >>= λ n. within (m + n)) >>= λ n. within (s + n))
    near m true rest t = rest (s + m) (grind (arith, nat_tests)) ∙ bind_near s m (sizes ds es)
    near m false rest t = bind_far s m (sizes ds es) (grind (arith, nat_tests))

    at : (o : Option ℕ) (rest : (k : ℕ) → k ≤ 128 → with_rest ds k es ≡ (sizes ds es >>= λ n. within (k + n)))
        → (o >>= λ m. within (s + m) >>= λ k. with_rest ds k es)
        ≡ ((o >>= λ m. sizes ds es >>= λ n. within (m + n)) >>= λ n. within (s + n))
    at None rest = refl
    at (Some m) rest = near m (nat_le (s + m) 128) rest refl

again : (o p : Option ℕ) → ((o >>= λ m. p >>= λ n. within (m + n)) >>= λ n. within (0 + n))
    ≡ (o >>= λ m. p >>= λ n. within (m + n))
again None p = refl
again (Some m) None = refl
again (Some m) (Some n) = within_sum 0 m n ∙ ap within (omega arith)

pub with_rest-end : (ds : List Decl) (s : ℕ) → with_rest ds s none ≡ Some s
unfolding with_rest
with_rest-end ds s = refl

-- from nothing on, it is the sum of the sizes
pub with_rest_0 : (ds : List Decl) (es : Exprs) → with_rest ds 0 es ≡ sizes ds es
with_rest_0 ds none = with_rest-end ds 0
with_rest_0 ds (more e es) = with_rest_is ds 0 (more e es) (omega arith) ∙ again (size ds e) (sizes ds es)

pub with_rest-None : (ds : List Decl) (s : ℕ) (e : Expr) (es : Exprs) → size ds e ≡ None
    → with_rest ds s (more e es) ≡ None
unfolding with_rest
with_rest-None ds s e es h = ap (λ o. o >>= λ m. within (s + m) >>= λ k. with_rest ds k es) h

pub with_rest-stops : (ds : List Decl) (s m : ℕ) (e : Expr) (es : Exprs) → size ds e ≡ Some m → within (s + m) ≡ None
    → with_rest ds s (more e es) ≡ None
unfolding with_rest
with_rest-stops ds s m e es h k =
    ap (λ o. o >>= λ m. within (s + m) >>= λ k. with_rest ds k es) h ∙ ap (λ o. o >>= λ k. with_rest ds k es) k

pub with_rest-on : (ds : List Decl) (s m k : ℕ) (e : Expr) (es : Exprs) → size ds e ≡ Some m → within (s + m) ≡ Some k
    → with_rest ds s (more e es) ≡ with_rest ds k es
unfolding with_rest
with_rest-on ds s m k e es h l =
    ap (λ o. o >>= λ m. within (s + m) >>= λ k. with_rest ds k es) h ∙ ap (λ o. o >>= λ k. with_rest ds k es) l

-- a part is no deeper than its list
pub part_depth : (es : List Expr) (i : ℕ) (e : Expr) → i < length es → e ≡ get_or es i e
    → depth e ≤ exprs_depth (exprs es)
part_depth [] i e h k = absurd (omega arith)
part_depth (f ∷ es) zero e h k = let p : depth e ≤ depth f = omega (arith, ap depth k) in omega (arith, p)
part_depth (f ∷ es) (suc i) e h k = omega (arith, part_depth es i e (omega arith) k)

pub ruleset parts = (part_depth, with_rest_0, with_rest-end, with_rest-None, with_rest-stops, with_rest-on)
