-- Numbers of few digits, and numbers that are told up to a most.
use Rattle.std.proofs.Common.{◌≡◌, ℕ, zero, suc, ◌+◌, ◌-◌, ◌*◌, ◌^◌, ◌<◌, ◌≤◌, min, true, false, cond, List, [], ◌∷◌, length}
use Rattle.std.proofs.Common.{Option, Some, None, IfSome, pow-suc, refl, ap, sym, subst, ◌∙◌, inl, inr, arith}
use Rattle.std.specs.Prelude.{option_map, nat_le}
use Rattle.std.proofs.lemmas.Bool.{cases_Bool}
use Rattle.std.proofs.lemmas.Bool.Decides.{nat_tests}
use Rattle.fv_lines.specs.Numbers.{is_digit, continued, natural_of}
use Rattle.aiger_text.specs.Lines.{short}

digit_small : (d : ℕ) → is_digit d ≡ true → d - 48 ≤ 9
digit_small d h = grind (arith, nat_tests)

pub some_is : (x y : ℕ) → Some x ≡ Some y → x ≡ y
some_is x y e = cc

none_some : (x : ℕ) → None ≡ Some x → ⊥
none_some x e = cc

next_small : (n d p v : ℕ) → d ≤ 9 → v + 1 ≤ (10 * n + d + 1) * p → v + 1 ≤ (n + 1) * (10 * p)
next_small n d p v h k = grind arith

continued_small : (n v : ℕ) (ds : List ℕ) → continued n ds ≡ Some v → v + 1 ≤ (n + 1) * 10 ^ length ds
continued_small n v [] e = let k = some_is n v e in omega (arith, k)
continued_small n v (d ∷ ds) e = elim (cases_Bool (is_digit d)) [
  | inl h ↦
      let f : continued (10 * n + (d - 48)) ds
      ≡ Some v = sym (ap (λ b. cond b (continued (10 * n + (d - 48)) ds) None) h) ∙ e in
      let p : 10 ^ suc (length ds) ≡ 10 * 10 ^ length ds = grind (arith, pow-suc) in
      subst (λ x. v + 1 ≤ (n + 1) * x) (sym p)
      (next_small n (d - 48) (10 ^ length ds) v (digit_small d h) (continued_small (10 * n + (d - 48)) v ds f))
  | inr h ↦ absurd (none_some v (sym (ap (λ b. cond b (continued (10 * n + (d - 48)) ds) None) h) ∙ e))
]

ten_more : (a k : ℕ) → 10 ^ a ≤ 10 ^ (a + k)
ten_more a zero = let s : a + 0 ≡ a = omega arith in subst (λ x. 10 ^ a ≤ 10 ^ x) (sym s) (omega arith)
ten_more a (suc k) =
    let h = ten_more a k in
    let e : 10 ^ suc (a + k) ≡ 10 * 10 ^ (a + k) = grind (arith, pow-suc) in
    let s : a + suc k ≡ suc (a + k) = omega arith in
    subst (λ x. 10 ^ a ≤ 10 ^ x) (sym s) (omega (arith, h, e))

ten_mono : (a b : ℕ) → a ≤ b → 10 ^ a ≤ 10 ^ b
ten_mono a b h = let s : a + (b - a) ≡ b = omega arith in subst (λ x. 10 ^ a ≤ 10 ^ x) s (ten_more a (b - a))

natural_small : (v : ℕ) (ds : List ℕ) → length ds ≤ 20 → natural_of ds ≡ Some v → v < 10 ^ 20
natural_small v [] h e = absurd (none_some v e)
natural_small v (d ∷ ds) h e =
    let k = continued_small 0 v (d ∷ ds) e in
    let m = ten_mono (length (d ∷ ds)) 20 h in
    let one : (0 + 1) * 10 ^ length (d ∷ ds) ≡ 10 ^ length (d ∷ ds) = omega arith in
    omega (arith, k, m, one)

capped : (o : Option ℕ) → ((v : ℕ) → o ≡ Some v → v < 10 ^ 20) → option_map (min (2 ^ 68)) o ≡ o
capped None h = refl
capped (Some v) h = ap (λ x. Some x) (let s = h v refl in let e : min (2 ^ 68) v ≡ v = omega (arith, s) in e)

small_at : (o : Option ℕ) → ((v : ℕ) → o ≡ Some v → v < 10 ^ 20) → IfSome o (λ n. n < 10 ^ 20)
small_at None h = tt
small_at (Some v) h = h v refl

pub short_value : (o : Option ℕ) (ds : List ℕ) → length ds ≤ 20 → o ≡ option_map (min (2 ^ 68)) (natural_of ds)
    → o ≡ short ds
short_value o ds h e =
    let le : nat_le (length ds) 20 ≡ true = grind (arith, nat_tests) in
    e ∙ capped (natural_of ds) (λ v k. natural_small v ds h k) ∙ sym (ap (λ b. cond b (natural_of ds) None) le)

pub short_within : (o : Option ℕ) (ds : List ℕ) → length ds ≤ 20 → o ≡ option_map (min (2 ^ 68)) (natural_of ds)
    → IfSome o (λ n. n < 10 ^ 20)
short_within o ds h e =
    small_at o
    (λ v k. natural_small v ds h (sym (e ∙ capped (natural_of ds) (λ x q. natural_small x ds h q)) ∙ k))

pub long_value : (ds : List ℕ) → 20 < length ds → None ≡ short ds
long_value ds h =
    let le : nat_le (length ds) 20 ≡ false = grind (arith, nat_tests) in
    sym (ap (λ b. cond b (natural_of ds) None) le)
