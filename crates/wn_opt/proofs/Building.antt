-- A net with one more node, and what a node that fits reads.
use Rattle.std.specs.Prelude.{◌≡◌, ℕ, ◌+◌, ◌<◌, ◌≤◌, [], ◌∷◌, ◌++◌, length, slice_index}
use Rattle.std.proofs.Common.{ap, sym, ◌∙◌, arith, subst}
use Rattle.std.proofs.lemmas.List.{length-map}
use Rattle.wn_net.specs.declared.node.Node.{Node}
use Rattle.wn_net.specs.declared.parts.Mem.{Mem}
use Rattle.wn_net.specs.Width.{IsFitting, AreAlike}
use Rattle.wn_net.specs.Value.{Given}
use Rattle.wn_net.specs.Net.{Netlist, IsNode, IsNodeOf, shape_of, widths_of, width_at}
use Rattle.wn_net.specs.Changes.{Builds, with_node}
use Rattle.wn_net.proofs.Stays.{length-widths_of}

pub built_is : (old new : Netlist) (x y : Node) (w : ℕ) (m : Given → ℕ) (id : ℕ) → Builds old new x w m id → y ≡ x
    → new ≡ with_node old y
built_is old new x y w m id b e = λ i. record {
  nodes = (b.nodes ∙ ap (λ z. old.nodes ++ z ∷ []) (sym e)) i;
  regs = b.adds.regs i;
  mems = b.adds.mems i;
  inputs = b.adds.inputs i;
  assumes = b.adds.assumes i;
}

pub fits_as : (net : Netlist) (x y : Node) → x ≡ y → IsFitting (shape_of net) (widths_of net) x
    → IsFitting (shape_of net) (widths_of net) y
fits_as net x y e h = subst (λ z. IsFitting (shape_of net) (widths_of net) z) e h

pub there : (net : Netlist) (a : ℕ) → a < length (widths_of net) → IsNode net a
there net a h = omega (arith, length-widths_of net, h)

pub alike : (net : Netlist) (a b : ℕ) → AreAlike (widths_of net) a b → IsNodeOf net (width_at net a) b
unfolding width_at
alike net a b h = (omega (arith, length-widths_of net, h.1), sym h.2)

pub of_width : (net : Netlist) (a w : ℕ) → a < length (widths_of net) → slice_index (widths_of net) a ≡ w
    → IsNodeOf net w a
unfolding width_at
of_width net a w h e = (omega (arith, length-widths_of net, h), e)

pub joined_few : (net : Netlist) (a b : ℕ) → slice_index (widths_of net) a + slice_index (widths_of net) b ≤ 128
    → width_at net a + width_at net b ≤ 128
unfolding width_at
joined_few net a b h = h

pub no_wider : (net : Netlist) (a w : ℕ) → slice_index (widths_of net) a ≤ w → width_at net a ≤ w
unfolding width_at
no_wider net a w h = h

pub no_narrower : (net : Netlist) (a w : ℕ) → w ≤ slice_index (widths_of net) a → w ≤ width_at net a
unfolding width_at
no_narrower net a w h = h

pub mem_there : (net : Netlist) (m : ℕ) → m < length (shape_of net).mems → m < length net.mems
mem_there net m h = omega (arith, length-map net.mems (λ (x : Mem). x.width), h)
