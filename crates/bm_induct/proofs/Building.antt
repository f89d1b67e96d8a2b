-- What a builder asks of the nodes that a node which fits reads.
use Rattle.std.specs.Prelude.{◌≡◌, ℕ, slice_index}
use Rattle.std.proofs.Common.{sym, arith, subst}
use Rattle.wn_net.specs.declared.node.Node.{Node}
use Rattle.wn_net.specs.Width.{IsThere, AreAlike, IsFitting}
use Rattle.wn_net.specs.Net.{Netlist, IsNode, IsNodeOf, shape_of, widths_of, width_at}
use Rattle.wn_net.proofs.Stays.{length-widths_of}

pub fits_of : (net : Netlist) (x y : Node) → x ≡ y → IsFitting (shape_of net) (widths_of net) x
    → IsFitting (shape_of net) (widths_of net) y
fits_of net x y e fits = subst (λ (z : Node). IsFitting (shape_of net) (widths_of net) z) e fits

pub is_node : (net : Netlist) (id : ℕ) → IsThere (widths_of net) id → IsNode net id
is_node net id h = omega (arith, h, length-widths_of net)

pub alike_node : (net : Netlist) (a b : ℕ) → AreAlike (widths_of net) a b → IsNodeOf net (width_at net a) b
unfolding width_at
alike_node net a b h = (is_node net b h.1, sym h.2)

pub set_node : (net : Netlist) (a : ℕ) → IsThere (widths_of net) a → slice_index (widths_of net) a ≡ 1
    → IsNodeOf net 1 a
unfolding width_at
set_node net a h e = (is_node net a h, e)
