-- The property of a check over the retirements of a run, by the retirement that it is about.
use Rattle.std.specs.Prelude.{◌≡◌, refl, ℕ, zero, suc, ◌+◌, ◌<◌, ◌≤◌, ◌==◌}
use Rattle.std.specs.Prelude.{Bool, true, false, ◌&&◌, if◌then◌else◌, List}
use Rattle.std.specs.Prelude.{[], ◌∷◌, ◌++◌, length, nat_lt}
use Rattle.std.proofs.Common.{ap, ◌∙◌, arith}
use Rattle.std.proofs.lemmas.Bool.Decides.{nat_tests}
use Rattle.rv_table.specs.declared.retire.Retire.{Retire}
use Rattle.wn_net.specs.Value.{Given}
use Rattle.wn_net.specs.Net.{Netlist, value_at}
use Rattle.rvfi_port.specs.declared.port.Channel.{Channel}
use Rattle.rvfi_port.specs.Channels.{retires, retire_at}
use Rattle.ck_cfg.specs.declared.check.Check.{Check}
use Rattle.ck_cfg.specs.declared.kind.CheckKind.TheVariants as kinds
use Rattle.ck_spec.specs.declared.retired.Retired.{Retired}
use Rattle.ck_spec.specs.Lists.{is_at, found_at, where_found}
use Rattle.ck_gen.specs.Retirements.{retired_in, retired_from, retirements}
use Rattle.ck_gen.specs.Kept.{entry, sought_same}
use Rattle.ck_gen.proofs.Says.{first_says, says_append, found_says}
use Rattle.ck_gen.proofs.Cycles.{told, IsPassedOver, passed, split_from}

eq_true : (a : ℕ) → (a == a) ≡ true
eq_true a = grind (arith, nat_tests)

eq_false : (a b : ℕ) → (a ≡ b → ⊥) → (a == b) ≡ false
eq_false a b h = grind (arith, nat_tests, h)

and_false : (a : Bool) → (a && false) ≡ false
and_false true = refl
and_false false = refl

module _ (net : Netlist) (run : ℕ → Given) (before behind : List Channel) (c : Channel) (check : Check)
    (own_channel : check.channel ≡ length before) (cycle : ℕ) (such : Retire → Bool) where
  abbrev pub cs : List Channel
  cs = before ++ c ∷ behind

  abbrev pub p : Retired → Bool
  p r = is_at check cycle r

  abbrev pub t : Retired → Bool
  t r = such r.retire

  -- nothing is found in another cycle, nor in another channel
  other_cycle : (k low high : ℕ) → (k ≡ cycle → ⊥) → IsPassedOver net kinds.Ill sought_same (entry 0 0 0 0) p t k
      low high
  other_cycle k low high other = λ j r a b. ap (λ x. x && (j == check.channel)) (eq_false k cycle other)

  other_channel : (k low high : ℕ) → ((j : ℕ) → low ≤ j → j < high → j ≡ check.channel → ⊥)
      → IsPassedOver net kinds.Ill sought_same (entry 0 0 0 0) p t k low high
  other_channel k low high other = λ j r a b.
      ap (λ x. (k == cycle) && x) (eq_false j check.channel (other j a b)) ∙ and_false (k == cycle)

  over : (k low high : ℕ) (xs : List Channel) (rest : Bool)
      → IsPassedOver net kinds.Ill sought_same (entry 0 0 0 0) p t k low high
      → low + length xs ≤ high → first_says p t rest (retired_from net (run k) k low xs) ≡ rest
  over k low high xs rest none within =
      passed net kinds.Ill sought_same (entry 0 0 0 0) p t (run k) k low high xs rest none within

  -- in cycles before it nothing is found
  none_found : (first count : ℕ) (rest : Bool) → first + count ≤ cycle
      → first_says p t rest (retirements net run cs first count) ≡ rest
  none_found first zero rest within = refl
  none_found first (suc count) rest within =
      let k = first + count in
      let a = retirements net run cs first count in
      let b = retired_from net (run k) k 0 cs in
      says_append p t rest a b
      ∙ ap (λ x. first_says p t x a)
      (over k 0 (length cs) cs rest (other_cycle k 0 (length cs) (λ e. omega (arith, e, within))) (omega arith))
      ∙ none_found first count rest (omega (arith, within))

  -- in its cycle what the channel retires
  found_here : first_says p t true (retired_from net (run cycle) cycle 0 cs)
      ≡ (if retires net (run cycle) c then such (retire_at net (run cycle) c) else true)
  found_here =
      let n = length before in
      let g = run cycle in
      let low = retired_from net g cycle 0 before in
      let high = retired_from net g cycle (0 + n) (c ∷ behind) in
      let own = retired_in net g cycle (0 + n) c in
      let above = retired_from net g cycle (0 + n + 1) behind in
      ap (first_says p t true) (split_from net g cycle 0 before (c ∷ behind))
      ∙ says_append p t true low high
      ∙ over cycle 0 n before (first_says p t true high)
      (other_channel cycle 0 n (λ j a b e. omega (arith, b, e, own_channel))) (omega arith)
      ∙ says_append p t true own above
      ∙ ap (λ x. first_says p t x own) (over cycle (0 + n + 1) (0 + n + 1 + length behind) behind true
      (other_channel cycle (0 + n + 1) (0 + n + 1 + length behind) (λ j a b e. omega (arith, a, e, own_channel)))
      (omega arith))
      ∙ by (value_at net g c.valid == 1)
    where
      at_own : p (told cycle (0 + length before) (retire_at net (run cycle) c)) ≡ true
      at_own =
          let e : 0 + length before ≡ check.channel = omega (arith, own_channel) in
          ap (λ k. (cycle == cycle) && (k == check.channel)) e
          ∙ (λ i. eq_true cycle i && eq_true check.channel i)

      by : (b : Bool)
          → first_says p t true (if b then told cycle (0 + length before) (retire_at net (run cycle) c) ∷ [] else [])
          ≡ (if b then such (retire_at net (run cycle) c) else true)
      by true = ap (λ x. if x then such (retire_at net (run cycle) c) else true) at_own
      by false = refl

  found_in : (first count : ℕ) → first ≤ cycle → cycle < first + count
      → first_says p t true (retirements net run cs first count)
      ≡ (if retires net (run cycle) c then such (retire_at net (run cycle) c) else true)
  found_in first zero low high = absurd (omega (arith, low, high))
  found_in first (suc count) low high = by (nat_lt cycle (first + count)) refl (found_in first count low)
    where
      k : ℕ
      k = first + count

      a : List Retired
      a = retirements net run cs first count

      b : List Retired
      b = retired_from net (run k) k 0 cs

      by : (x : Bool) → nat_lt cycle k ≡ x
          → (cycle < k → first_says p t true a
          ≡ (if retires net (run cycle) c then such (retire_at net (run cycle) c) else true))
          → first_says p t true (retirements net run cs first (suc count))
          ≡ (if retires net (run cycle) c then such (retire_at net (run cycle) c) else true)
      by true e rest =
          let less : cycle < k = grind (arith, nat_tests, e) in
          says_append p t true a b
          ∙ ap (λ x. first_says p t x a)
          (over k 0 (length cs) cs true (other_cycle k 0 (length cs) (λ e. omega (arith, e, less))) (omega arith))
          ∙ rest less
      by false e rest =
          let same : k ≡ cycle = grind (arith, nat_tests, e, high) in
          says_append p t true a b
          ∙ none_found first count (first_says p t true b) (omega (arith, same))
          ∙ ap (λ m. first_says p t true (retired_from net (run m) m 0 cs)) same
          ∙ found_here

  -- what the retirement in the cycle has to be, where there is one
  pub found_is : (first count : ℕ) → first ≤ cycle → cycle < first + count
      → where_found (found_at check cycle (retirements net run cs first count)) such
      ≡ (if retires net (run cycle) c then such (retire_at net (run cycle) c) else true)
  found_is first count low high =
      found_says p such (retirements net run cs first count) ∙ found_in first count low high
