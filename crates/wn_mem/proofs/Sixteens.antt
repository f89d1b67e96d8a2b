-- Words by groups of sixteen.
use Rattle.std.specs.Prelude.{◌≡◌, refl, ℕ, ◌+◌, ◌-◌, ◌*◌, ◌/◌, ◌%◌, ◌<◌, ◌^◌, ◌==◌, ◌&&◌, Bool, true, false}
use Rattle.std.specs.Prelude.{bit_and, List, length, map, slice_index}
use Rattle.std.proofs.Common.{ap, sym, ◌∙◌, arith, subst}
use Rattle.std.proofs.lemmas.Bool.Decides.{nat_tests}
use Rattle.std.proofs.lemmas.Nat.{pow-add}
use Rattle.std.proofs.Math.Nat.{mod-eq_of_lt}
use Rattle.std.proofs.Math.Pow.{shr_lt}
use Rattle.fv_bits.specs.Bits.{bit, low, part}
use Rattle.wn_net.specs.declared.parts.Input.{Input}
use Rattle.wn_net.specs.declared.parts.Mem.{Mem}
use Rattle.wn_net.specs.declared.parts.Reg.{Reg}
use Rattle.wn_net.specs.Value.{Given}
use Rattle.wn_net.specs.Net.{Netlist, IsNodeOf, AreNodesOf}
use Rattle.wn_net.specs.Given.{AreMemsOf, AreNumbersOf, IsGiven}
use Rattle.wn_net.specs.Changes.{AddsNodes}
use Rattle.wn_mem.proofs.After.{word_here}

-- a number is the one of a group and of a place in it exactly where both parts are
pub grouped : (e group place i : ℕ) → place < 16
    → bit_and (bit (e == 1 && group == i / 16)) (bit (place == i % 16)) ≡ bit (e == 1 && group * 16 + place == i)
grouped e group place i few =
    by (e == 1) (group == i / 16) refl (place == i % 16) refl (group * 16 + place == i) refl
  where
    by : (a b : Bool) → (group == i / 16) ≡ b → (c : Bool) → (place == i % 16) ≡ c → (d : Bool)
        → (group * 16 + place == i) ≡ d
        → bit_and (bit (a && b)) (bit c) ≡ bit (a && d)
    by false b t true u d v = refl
    by false b t false u d v = refl
    by true true t true u true v = refl
    by true true t true u false v =
        let above : group ≡ i / 16 = grind (arith, nat_tests, t) in
        let below : place ≡ i % 16 = grind (arith, nat_tests, u) in
        let same : group * 16 + place ≡ i = omega (arith, above, below) in
        absurd (grind (arith, nat_tests, v, same))
    by true true t false u false v = refl
    by true true t false u true v =
        let same : group * 16 + place ≡ i = grind (arith, nat_tests, v) in
        let below : place ≡ i % 16 = omega (arith, same, few) in
        absurd (grind (arith, nat_tests, u, below))
    by true false t c u false v = by_mark c
      where
        by_mark : (c : Bool) → bit_and (bit false) (bit c) ≡ bit false
        by_mark true = refl
        by_mark false = refl
    by true false t c u true v =
        let same : group * 16 + place ≡ i = grind (arith, nat_tests, v) in
        let above : group ≡ i / 16 = omega (arith, same, few) in
        absurd (grind (arith, nat_tests, t, above))

-- a number by its lowest four bits and those above
pub by_sixteen : (v width : ℕ) → 4 < width → v < 2 ^ width → part 4 (width - 4) v * 16 + low 4 v ≡ v
by_sixteen v width wide fits =
    let d : (width - 4) + 4 ≡ width = omega (arith, wide) in
    let f : v < 2 ^ ((width - 4) + 4) = omega (arith, fits, ap (λ k. 2 ^ k) d) in
    let above : part 4 (width - 4) v ≡ v / 2 ^ 4 = mod-eq_of_lt (shr_lt (width - 4) 4 f) in
    ap (λ k. k * 16 + low 4 v) above ∙ omega arith

-- numbers of so many bits, by groups
pub groups_of : (width : ℕ) → 4 < width → 2 ^ width ≡ 2 ^ (width - 4) * 16
groups_of width wide =
    let d : (width - 4) + 4 ≡ width = omega (arith, wide) in ap (λ k. 2 ^ k) (sym d) ∙ pow-add 2 (width - 4) 4

-- the mark of a word's place in its group
pub mark_here : (net : Netlist) (marks : List ℕ) (place mark : ℕ) → AreNodesOf net 1 marks → length marks ≡ 16
    → place < 16
    → mark ≡ slice_index marks place → IsNodeOf net 1 mark
mark_here net marks place mark own sixteen few read = word_here net 1 marks place mark own (omega (arith, few, sixteen)) read

-- the numbers of a cycle of a net with more nodes are those of a cycle of the net before
pub given_back : (old new : Netlist) (g : Given) → AddsNodes old new → IsGiven new g → IsGiven old g
given_back old new g h given =
    let I : List Input → Type 0 = λ is. AreNumbersOf (map (λ i. i.width) is) g.inputs in
    let R : List Reg → Type 0 = λ rs. AreNumbersOf (map (λ r. r.width) rs) g.state.regs in
    let M : List Mem → Type 0 = λ ms. AreMemsOf ms g.state.mems in
    record {
      inputs = subst I h.inputs given.inputs;
      state = record { regs = subst R h.regs given.state.regs; mems = subst M h.mems given.state.mems };
    }
