use Rattle.std.specs.Prelude.{◌≡◌, refl, ℕ, ◌+◌, ◌-◌, ◌/◌, ◌%◌, ◌^◌, ◌<◌, ◌≤◌, min, nat_le, Bool, true, false}
use Rattle.std.proofs.Common.{ap, sym, ◌∙◌, arith}
use Rattle.std.proofs.lemmas.Bool.Decides.{nat_tests}
use Rattle.std.proofs.lemmas.Grind.{common_steps}
use Rattle.std.proofs.lemmas.Nat.{shr_le}
use Rattle.std.proofs.Math.Pow.{pow_mono}
use Rattle.std.proofs.Math.Nat.{mod-eq_of_lt}
use Rattle.rv_table.specs.Fields.{field}
use Rattle.rv_table.proofs.demand.bits.Goals as goal

-- bits past the 128th are none
at_most : (n m k : ℕ) → n < 2 ^ 32 → m ≡ min k 128 → n % 2 ^ m ≡ n % 2 ^ k
at_most n m k small e = by (nat_le k 128) refl
  where
    by : (c : Bool) → nat_le k 128 ≡ c → n % 2 ^ m ≡ n % 2 ^ k
    by true t = let same : m ≡ k = grind (arith, nat_tests, t) in ap (λ j. n % 2 ^ j) same
    by false t =
        let most : m ≡ 128 = grind (arith, nat_tests, t) in
        let more : 128 ≤ k = grind (arith, nat_tests, t) in
        let p : 2 ^ 128 ≤ 2 ^ k = pow_mono more in
        let q : n < 2 ^ 128 = omega arith in
        ap (λ j. n % 2 ^ j) most ∙ mod-eq_of_lt q ∙ sym (mod-eq_of_lt (omega (arith, p, q)))

by_parts : (r high low word m k n : ℕ) → r ≡ n / 2 ^ low % 2 ^ m → n ≡ word → m ≡ min k 128 → k ≡ high + 1 - low
    → word < 2 ^ 32
    → r ≡ field high low word
unfolding field
by_parts r high low word m k n r_is n_is m_is k_is small =
    r_is ∙ ap (λ x. x / 2 ^ low % 2 ^ m) n_is ∙ at_most (word / 2 ^ low) m k (omega (arith, shr_le word low)) m_is
    ∙ ap (λ j. word / 2 ^ low % 2 ^ j) k_is

pub returns : goal.returns
returns c =
    by_parts c.part.result c.args.high c.args.low c.args.word c.min.result c.saturating_sub-width.result c.from-3.result
    c.part.ensures.value (omega arith) (grind (arith, common_steps)) (grind (arith, common_steps)) (omega arith)
