-- Meaning: The widths of nodes, and when a node fits behind others (rule of this project).
use Rattle.std.specs.Prelude.{
  ◌≡◌,
  ℕ,
  ◌+◌,
  ◌<◌,
  ◌≤◌,
  List,
  [],
  ◌∷◌,
  ◌++◌,
  length,
  slice_index,
}
use Rattle.wn_net.specs.declared.node.Node.{Node}
use Rattle.wn_net.specs.declared.node.Node.TheVariants as n

-- the widths of the inputs, of the registers and of the words of each memory
pub record Shape : Type 0 where
  pub inputs : List ℕ
  pub regs : List ℕ
  pub mems : List ℕ

abbrev pub IsWidth : ℕ → Type 0
IsWidth w = (1 ≤ w) × (w ≤ 128)

-- the width of a node, by the widths of those before it
abbrev pub width : Shape → List ℕ → Node → ℕ
width s ws (n.Konst word) = word.width
width s ws (n.Input i) = slice_index s.inputs i
width s ws (n.Reg i) = slice_index s.regs i
width s ws (n.Read m a) = slice_index s.mems m
width s ws (n.Not a) = slice_index ws a
width s ws (n.And a b) = slice_index ws a
width s ws (n.Or a b) = slice_index ws a
width s ws (n.Xor a b) = slice_index ws a
width s ws (n.Add a b) = slice_index ws a
width s ws (n.Sub a b) = slice_index ws a
width s ws (n.Mul a b) = slice_index ws a
width s ws (n.Eq a b) = 1
width s ws (n.Ult a b) = 1
width s ws (n.Slt a b) = 1
width s ws (n.Shl a b) = slice_index ws a
width s ws (n.Lshr a b) = slice_index ws a
width s ws (n.Ashr a b) = slice_index ws a
width s ws (n.Concat a b) = slice_index ws a + slice_index ws b
width s ws (n.Mux c a b) = slice_index ws a
width s ws (n.Slice a at w) = w
width s ws (n.Zext a w) = w
width s ws (n.Sext a w) = w

-- the widths of nodes, behind those of the nodes before them
abbrev pub widths : Shape → List ℕ → List Node → List ℕ
widths s ws [] = ws
widths s ws (x ∷ xs) = widths s (ws ++ width s ws x ∷ []) xs

-- a node is among those of these widths
abbrev pub IsThere : List ℕ → ℕ → Type 0
IsThere ws a = a < length ws

abbrev pub AreThere : List ℕ → ℕ → ℕ → Type 0
AreThere ws a b = IsThere ws a × IsThere ws b

-- two nodes are there, and have one width
abbrev pub AreAlike : List ℕ → ℕ → ℕ → Type 0
AreAlike ws a b = IsThere ws a × IsThere ws b × (slice_index ws a ≡ slice_index ws b)

-- what a node reads is there, and its widths fit
abbrev pub IsFitting : Shape → List ℕ → Node → Type 0
IsFitting s ws (n.Konst word) = Unit {0}
IsFitting s ws (n.Input i) = i < length s.inputs
IsFitting s ws (n.Reg i) = i < length s.regs
IsFitting s ws (n.Read m a) = (m < length s.mems) × IsThere ws a
IsFitting s ws (n.Not a) = IsThere ws a
IsFitting s ws (n.And a b) = AreAlike ws a b
IsFitting s ws (n.Or a b) = AreAlike ws a b
IsFitting s ws (n.Xor a b) = AreAlike ws a b
IsFitting s ws (n.Add a b) = AreAlike ws a b
IsFitting s ws (n.Sub a b) = AreAlike ws a b
IsFitting s ws (n.Mul a b) = AreAlike ws a b
IsFitting s ws (n.Eq a b) = AreAlike ws a b
IsFitting s ws (n.Ult a b) = AreAlike ws a b
IsFitting s ws (n.Slt a b) = AreAlike ws a b
IsFitting s ws (n.Shl a b) = AreThere ws a b
IsFitting s ws (n.Lshr a b) = AreThere ws a b
IsFitting s ws (n.Ashr a b) = AreThere ws a b
IsFitting s ws (n.Concat a b) = IsThere ws a × IsThere ws b × (slice_index ws a + slice_index ws b ≤ 128)
IsFitting s ws (n.Mux c a b) = IsThere ws c × (slice_index ws c ≡ 1) × AreAlike ws a b
IsFitting s ws (n.Slice a at w) = IsThere ws a × (1 ≤ w) × (at + w ≤ slice_index ws a)
IsFitting s ws (n.Zext a w) = IsThere ws a × (slice_index ws a ≤ w) × (w ≤ 128)
IsFitting s ws (n.Sext a w) = IsThere ws a × (slice_index ws a ≤ w) × (w ≤ 128)

-- each node fits behind those before it, so what it reads has a lower number
abbrev pub AreFitting : Shape → List ℕ → List Node → Type 0
AreFitting s ws [] = Unit {0}
AreFitting s ws (x ∷ xs) = IsFitting s ws x × AreFitting s (ws ++ width s ws x ∷ []) xs
