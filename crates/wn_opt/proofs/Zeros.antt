-- Each net has numbers of a cycle: all of them 0.
use Rattle.std.specs.Prelude.{◌≡◌, refl, ℕ, zero, suc, ◌<◌, ◌^◌, List, [], ◌∷◌, length, map, slice_index, replicate}
use Rattle.std.proofs.Common.{arith}
use Rattle.std.proofs.lemmas.Nat.{pow_pos}
use Rattle.wn_net.specs.declared.parts.Mem.{Mem}
use Rattle.wn_net.specs.Value.{Given}
use Rattle.wn_net.specs.Given.{AreNumbersOf, AreMemsOf, IsGiven}
use Rattle.wn_net.specs.Net.{Netlist}

zeros : List ℕ → List ℕ
zeros ws = replicate (length ws) 0

zero_at : (k i : ℕ) → slice_index (replicate k 0) i ≡ 0
zero_at zero i = refl
zero_at (suc k) zero = refl
zero_at (suc k) (suc i) = zero_at k i

length-zeros : (k : ℕ) → length {A = ℕ} (replicate k 0) ≡ k
length-zeros zero = refl
length-zeros (suc k) = omega (arith, length-zeros k)

below_power : (w n : ℕ) → n ≡ 0 → n < 2 ^ w
below_power w n e = omega (arith, pow_pos w, e)

abbrev pub zero_mems : List Mem → List (List ℕ)
zero_mems ms = map (λ m. replicate m.words 0) ms

are_numbers : (ws : List ℕ) → AreNumbersOf ws (zeros ws)
unfolding zeros
are_numbers ws = record {
  each = length-zeros (length ws);
  below = λ i. below_power (slice_index ws i) (slice_index (replicate (length ws) 0) i) (zero_at (length ws) i);
}

are_mems : (ms : List Mem) → AreMemsOf ms (zero_mems ms)
are_mems [] = tt
are_mems (m ∷ ms) = (
  record {
    each = length-zeros m.words;
    below = λ i. below_power m.width (slice_index (replicate m.words 0) i) (zero_at m.words i);
  },
  are_mems ms,
)

pub zeros_of : Netlist → Given
zeros_of net = record {
  inputs = zeros (map (λ i. i.width) net.inputs);
  state = record { regs = zeros (map (λ r. r.width) net.regs); mems = zero_mems net.mems };
}

pub zeros_given : (net : Netlist) → IsGiven net (zeros_of net)
unfolding zeros_of
zeros_given net = record {
  inputs = are_numbers (map (λ i. i.width) net.inputs);
  state = record { regs = are_numbers (map (λ r. r.width) net.regs); mems = are_mems net.mems };
}
