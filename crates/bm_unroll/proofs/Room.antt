-- How many words may still come.
use Rattle.std.specs.Prelude.{◌≡◌, ℕ, suc, ◌+◌, ◌-◌, ◌<◌, ◌≤◌, length, map, sum, take, Some, slice_get}
use Rattle.std.proofs.Common.{ap, arith}
use Rattle.std.proofs.lemmas.List.{length-map}
use Rattle.wn_net.specs.declared.parts.Mem.{Mem}
use Rattle.wn_net.specs.Net.{Netlist}
use Rattle.bm_unroll.specs.Frames.{IsWithin}
use Rattle.bm_unroll.proofs.Items.{get_within, index_mapped, sum_next, sum_within}

pub room_next : (net : Netlist) (room n : ℕ) (m : Mem) → slice_get net.mems n ≡ Some m → m.words ≤ room
    → room + length net.regs + sum (take n (map (λ m. m.words) net.mems)) ≡ 100000000
    → room - m.words + length net.regs + sum (take (n + 1) (map (λ m. m.words) net.mems)) ≡ 100000000
room_next net room n m at low h =
    let us = map (λ (m : Mem). m.words) net.mems in
    let below = get_within net.mems n m at in
    let one_more : n + 1 ≡ suc n = omega arith in
    let next = sum_next us n (omega (arith, length-map net.mems (λ (m : Mem). m.words), below)) in
    let words = index_mapped (λ (m : Mem). m.words) net.mems n m at in
    let same = ap (λ k. sum (take k us)) one_more in
    omega (arith, next, words, same, low, h)

pub room_past : (net : Netlist) (room n : ℕ) (m : Mem) → slice_get net.mems n ≡ Some m → room < m.words
    → room + length net.regs + sum (take n (map (λ m. m.words) net.mems)) ≡ 100000000 → IsWithin net → ⊥
room_past net room n m at high h within =
    let us = map (λ (m : Mem). m.words) net.mems in
    let below = get_within net.mems n m at in
    let all = sum_within us n (omega (arith, length-map net.mems (λ (m : Mem). m.words), below)) in
    let words = index_mapped (λ (m : Mem). m.words) net.mems n m at in
    let few = within.1 in
    absurd (omega (arith, all, words, few, high, h))
