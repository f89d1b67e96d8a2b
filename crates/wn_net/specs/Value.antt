-- Meaning: The values of nodes: bit vectors as numbers (rule of this project; the operators are those of IEEE
-- 1364-2005, section 5).
use Rattle.std.specs.Prelude.{
  ℕ,
  ◌==◌,
  List,
  [],
  ◌∷◌,
  ◌++◌,
  bit_and,
  bit_or,
  bit_xor,
  nat_lt,
  if◌then◌else◌,
}
use Rattle.std.specs.Prelude.{slice_index, slice_index_or}
use Rattle.wn_net.specs.declared.node.Node.{Node}
use Rattle.wn_net.specs.declared.node.Node.TheVariants as n
use Rattle.wn_net.specs.declared.parts.State.{State}
use Rattle.fv_text.specs.Word.{number}
use Rattle.fv_bits.specs.Bits.{complement, is_less_signed, bit, sum, difference, product, shifted_left, shifted_right}
use Rattle.fv_bits.specs.Bits.{arithmetic_right, sign_extended, part, joined}
use Rattle.wn_net.specs.Width.{Shape, width}

-- the numbers of a cycle: of the inputs, and those that registers and memories have in it
pub record Given : Type 0 where
  pub inputs : List ℕ
  pub state : State

-- a word of a list of words; past the last one 0
abbrev pub word_at : List ℕ → ℕ → ℕ
word_at words address = slice_index words address

-- the words of a memory
abbrev pub words_at : List (List ℕ) → ℕ → List ℕ
words_at mems m = slice_index_or mems m []

abbrev pub words_of : Given → ℕ → List ℕ
words_of g m = words_at g.state.mems m

-- the value of a node, by the widths and the values of those before it
abbrev pub value : Given → List ℕ → List ℕ → Node → ℕ
value g ws vs (n.Konst word) = number word
value g ws vs (n.Input i) = slice_index g.inputs i
value g ws vs (n.Reg i) = slice_index g.state.regs i
value g ws vs (n.Read m a) = word_at (words_of g m) (slice_index vs a)
value g ws vs (n.Not a) = complement (slice_index ws a) (slice_index vs a)
value g ws vs (n.And a b) = bit_and (slice_index vs a) (slice_index vs b)
value g ws vs (n.Or a b) = bit_or (slice_index vs a) (slice_index vs b)
value g ws vs (n.Xor a b) = bit_xor (slice_index vs a) (slice_index vs b)
value g ws vs (n.Add a b) = sum (slice_index ws a) (slice_index vs a) (slice_index vs b)
value g ws vs (n.Sub a b) = difference (slice_index ws a) (slice_index vs a) (slice_index vs b)
value g ws vs (n.Mul a b) = product (slice_index ws a) (slice_index vs a) (slice_index vs b)
value g ws vs (n.Eq a b) = bit (slice_index vs a == slice_index vs b)
value g ws vs (n.Ult a b) = bit (nat_lt (slice_index vs a) (slice_index vs b))
value g ws vs (n.Slt a b) = bit (is_less_signed (slice_index ws a) (slice_index vs a) (slice_index vs b))
value g ws vs (n.Shl a b) = shifted_left (slice_index ws a) (slice_index vs a) (slice_index vs b)
value g ws vs (n.Lshr a b) = shifted_right (slice_index vs a) (slice_index vs b)
value g ws vs (n.Ashr a b) = arithmetic_right (slice_index ws a) (slice_index vs a) (slice_index vs b)
value g ws vs (n.Concat a b) = joined (slice_index ws b) (slice_index vs a) (slice_index vs b)
value g ws vs (n.Mux c a b) = if slice_index vs c == 1 then slice_index vs a else slice_index vs b
value g ws vs (n.Slice a at w) = part at w (slice_index vs a)
value g ws vs (n.Zext a w) = slice_index vs a
value g ws vs (n.Sext a w) = sign_extended (slice_index ws a) w (slice_index vs a)

-- the values of nodes, behind those of the nodes before them
abbrev pub values : Shape → Given → List ℕ → List ℕ → List Node → List ℕ
values s g ws vs [] = vs
values s g ws vs (x ∷ xs) = values s g (ws ++ width s ws x ∷ []) (vs ++ value g ws vs x ∷ []) xs
