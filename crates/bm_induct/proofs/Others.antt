-- One node more of those that are to be other than 0.
use Rattle.std.specs.Prelude.{ℕ, zero, suc, ◌+◌, ◌<◌, ◌==◌, not, ◌&&◌, List, [], ◌∷◌}
use Rattle.std.specs.Prelude.{length, take, slice_index}
use Rattle.std.proofs.Common.{ap, sym, ◌∙◌, arith}
use Rattle.std.proofs.lemmas.List.{take_more}
use Rattle.fv_bits.specs.Bits.{bit}
use Rattle.wn_net.specs.Net.{Netlist, AreNodes, IsNode, value_at}
use Rattle.wn_net.specs.Changes.{AddsNodes}
use Rattle.wn_net.proofs.Laws.{given_on, value_on}
use Rattle.ck_history.specs.Truths.{Tells, is_one}
use Rattle.ck_history.proofs.Laws.{told, told_on}
use Rattle.bm_induct.specs.Past.{all_other}
use Rattle.bm_induct.proofs.Truths.{other_push}

-- a node of a list of them
pub node_in : (net : Netlist) (ids : List ℕ) (i : ℕ) → AreNodes net ids → i < length ids
    → IsNode net (slice_index ids i)
node_in net [] i own below = absurd (omega (arith, below))
node_in net (x ∷ xs) zero own below = own.0
node_in net (x ∷ xs) (suc i) own below = node_in net xs i own.1 (omega (arith, below))

pub others_next : (a b c d : Netlist) (ids : List ℕ) (i all own new : ℕ) → AddsNodes a b → AddsNodes b c
    → AreNodes a ids → i < length ids
    → Tells a b (λ g. all_other (value_at a g) (take i ids)) all
    → Tells b c (λ g. not (value_at b g (slice_index ids i) == 0)) own
    → Tells c d (λ g. is_one c g all && is_one c g own) new
    → Tells a d (λ g. all_other (value_at a g) (take (i + 1) ids)) new
others_next a b c d ids i all own new first second nodes below tells_b tells_c tells_d = record {
  node = tells_d.node;
  value = λ g given.
      let given_b = given_on a b g first given in
      let given_c = given_on b c g second given_b in
      let id = slice_index ids i in
      tells_d.value g given_c
      ∙ ap bit ((λ j. told_on a b c (λ g. all_other (value_at a g) (take i ids)) all g tells_b second given j
      && told b c (λ g. not (value_at b g id == 0)) own g tells_c given_b j)
      ∙ ap (λ n. all_other (value_at a g) (take i ids) && not (n == 0))
      (value_on a b g id first (node_in a ids i nodes below))
      ∙ sym (other_push (value_at a g) (take i ids) id)
      ∙ ap (all_other (value_at a g)) (sym (take_more ids i 0 below)));
}
