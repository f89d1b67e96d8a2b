-- Meaning: What a call for a node comes to where nodes are shared (rule of this project): an operator of constants is
-- a constant, one of equal operands folds, and operands whose order doesn't count stand by their numbers.
use Rattle.std.specs.Prelude.{
  ℕ,
  ◌==◌,
  ◌&&◌,
  Bool,
  true,
  false,
  Option,
  None,
  Some,
  [],
  if◌then◌else◌,
  nat_lt,
  slice_get,
}
use Rattle.wn_net.specs.declared.node.Node.{Node}
use Rattle.wn_net.specs.declared.node.Node.TheVariants as n
use Rattle.wn_net.specs.Value.{Given}
use Rattle.wn_net.specs.Net.{Netlist, width_at, value_at}
use Rattle.wn_net.specs.Changes.{width_in, value_in}
use Rattle.wn_opt.specs.declared.fold.Folded.{Folded}
use Rattle.wn_opt.specs.declared.fold.Folded.TheVariants as f

-- ---- constants

abbrev pub is_constant : Option Node → Bool
is_constant None = false
is_constant (Some (n.Konst word)) = true
is_constant (Some _) = false

-- the node of this number is a constant
abbrev pub is_known : Netlist → ℕ → Bool
is_known net a = is_constant (slice_get net.nodes a)

abbrev pub are_known : Netlist → ℕ → ℕ → Bool
are_known net a b = is_known net a && is_known net b

-- the node is an operator, and each of its operands is a constant
abbrev pub reads_constants : Netlist → Node → Bool
reads_constants net (n.Konst word) = false
reads_constants net (n.Input i) = false
reads_constants net (n.Reg i) = false
reads_constants net (n.Read m a) = false
reads_constants net (n.Not a) = is_known net a
reads_constants net (n.And a b) = are_known net a b
reads_constants net (n.Or a b) = are_known net a b
reads_constants net (n.Xor a b) = are_known net a b
reads_constants net (n.Add a b) = are_known net a b
reads_constants net (n.Sub a b) = are_known net a b
reads_constants net (n.Mul a b) = are_known net a b
reads_constants net (n.Eq a b) = are_known net a b
reads_constants net (n.Ult a b) = are_known net a b
reads_constants net (n.Slt a b) = are_known net a b
reads_constants net (n.Shl a b) = are_known net a b
reads_constants net (n.Lshr a b) = are_known net a b
reads_constants net (n.Ashr a b) = are_known net a b
reads_constants net (n.Concat a b) = are_known net a b
reads_constants net (n.Mux c a b) = is_known net c && are_known net a b
reads_constants net (n.Slice a at w) = is_known net a
reads_constants net (n.Zext a w) = is_known net a
reads_constants net (n.Sext a w) = is_known net a

-- no numbers: constants have theirs in each cycle
abbrev pub nothing : Given
nothing = record { inputs = []; state = record { regs = []; mems = [] } }

-- the number of a constant
abbrev pub known_at : Netlist → ℕ → ℕ
known_at net a = value_at net nothing a

-- ---- equal operands, and their order

-- the lower and the higher number
abbrev pub lower : ℕ → ℕ → ℕ
lower a b = if nat_lt b a then b else a

abbrev pub higher : ℕ → ℕ → ℕ
higher a b = if nat_lt b a then a else b

-- an operator that is left as it is where its operands are two nodes, and else comes to something
abbrev pub unless_equal : ℕ → ℕ → Folded → Node → Folded
unless_equal a b equal x = if a == b then equal else f.Kept x

-- a choice of two nodes by a constant
abbrev pub chosen : Netlist → ℕ → ℕ → ℕ → Folded
chosen net c a b =
    if is_known net c then f.Same (if known_at net c == 1 then a else b) else f.Kept (n.Mux c a b)

-- What is left of a node of which not all operands are constants. Both operands of `a & a`, `a | a` and of a choice
-- between `a` and `a` are `a`; `a ^ a` and `a - a` are 0, `a == a` is 1, and neither `a < a` is there.
abbrev pub simpler : Netlist → Node → Folded
simpler net (n.And a b) = unless_equal a b (f.Same a) (n.And (lower a b) (higher a b))
simpler net (n.Or a b) = unless_equal a b (f.Same a) (n.Or (lower a b) (higher a b))
simpler net (n.Xor a b) = unless_equal a b (f.Number (width_at net a) 0) (n.Xor (lower a b) (higher a b))
simpler net (n.Add a b) = f.Kept (n.Add (lower a b) (higher a b))
simpler net (n.Sub a b) = unless_equal a b (f.Number (width_at net a) 0) (n.Sub a b)
simpler net (n.Mul a b) = f.Kept (n.Mul (lower a b) (higher a b))
simpler net (n.Eq a b) = unless_equal a b (f.Number 1 1) (n.Eq (lower a b) (higher a b))
simpler net (n.Ult a b) = unless_equal a b (f.Number 1 0) (n.Ult a b)
simpler net (n.Slt a b) = unless_equal a b (f.Number 1 0) (n.Slt a b)
simpler net (n.Mux c a b) = if a == b then f.Same a else chosen net c a b
simpler net x = f.Kept x

-- what a call for the node comes to
abbrev pub folded : Netlist → Node → Folded
folded net x =
    if reads_constants net x then f.Number (width_in net x) (value_in net nothing x) else simpler net x
