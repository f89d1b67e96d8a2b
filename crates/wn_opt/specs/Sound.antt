-- Between functions: What a call for a node comes to stands for the node (rule of this project).
use Rattle.std.specs.Prelude.{◌≡◌, ℕ, ◌<◌, ◌^◌, ◌==◌, Option, None, Some, true, false, nat_lt}
use Rattle.std.specs.Prelude.{bit_and, bit_or, bit_xor}
use Rattle.fv_bits.specs.Bits.{complement, is_less_signed, bit, sum, difference, product, shifted_left, shifted_right}
use Rattle.fv_bits.specs.Bits.{arithmetic_right, sign_extended, part, joined}
use Rattle.fv_text.specs.declared.word.Word.{Word}
use Rattle.fv_text.specs.Word.{number}
use Rattle.wn_net.specs.declared.node.Node.{Node}
use Rattle.wn_net.specs.declared.node.Node.TheVariants as n
use Rattle.wn_net.specs.Width.{IsWidth, IsFitting}
use Rattle.wn_net.specs.Value.{Given}
use Rattle.wn_net.specs.Given.{IsGiven}
use Rattle.wn_net.specs.Net.{Netlist, IsNodeOf, shape_of, widths_of, value_at}
use Rattle.wn_net.specs.Changes.{width_in, value_in}
use Rattle.wn_opt.specs.declared.fold.Folded.{Folded}
use Rattle.wn_opt.specs.declared.fold.Folded.TheVariants as f
use Rattle.wn_opt.specs.Folding.{reads_constants, nothing}
use Rattle.wn_opt.specs.Table.{IsOperator}

-- the number of a node that reads one constant
abbrev pub one_value : Node → Word → Option ℕ
one_value (n.Not a) x = Some (complement x.width (number x))
one_value (n.Slice a at w) x = Some (part at w (number x))
one_value (n.Zext a w) x = Some (number x)
one_value (n.Sext a w) x = Some (sign_extended x.width w (number x))
one_value z x = None

-- the number of an operator of two constants
abbrev pub two_value : Node → Word → Word → ℕ
two_value (n.And a b) x y = bit_and (number x) (number y)
two_value (n.Or a b) x y = bit_or (number x) (number y)
two_value (n.Xor a b) x y = bit_xor (number x) (number y)
two_value (n.Add a b) x y = sum x.width (number x) (number y)
two_value (n.Sub a b) x y = difference x.width (number x) (number y)
two_value (n.Mul a b) x y = product x.width (number x) (number y)
two_value (n.Eq a b) x y = bit (number x == number y)
two_value (n.Ult a b) x y = bit (nat_lt (number x) (number y))
two_value (n.Slt a b) x y = bit (is_less_signed x.width (number x) (number y))
two_value (n.Shl a b) x y = shifted_left x.width (number x) (number y)
two_value (n.Lshr a b) x y = shifted_right (number x) (number y)
two_value (n.Ashr a b) x y = arithmetic_right x.width (number x) (number y)
two_value (n.Concat a b) x y = joined y.width (number x) (number y)
two_value z x y = 0

-- the number of an operator of constants; None where it is none
abbrev pub IsNumberOf : Netlist → Node → Option ℕ → Type 0
IsNumberOf net x None = reads_constants net x ≡ false
IsNumberOf net x (Some v) = (reads_constants net x ≡ true) × (v ≡ value_in net nothing x)

-- a node has the width and the value
pub record IsSame (net : Netlist) (x : Node) (a : ℕ) : Type 0 where
  pub node : IsNodeOf net (width_in net x) a
  pub value : (g : Given) → IsGiven net g → value_at net g a ≡ value_in net g x

-- so has a number
pub record IsConstant (net : Netlist) (x : Node) (width number : ℕ) : Type 0 where
  pub width_is : width ≡ width_in net x
  pub is_width : IsWidth width
  pub below : number < 2 ^ width
  pub value : (g : Given) → IsGiven net g → number ≡ value_in net g x

-- so has an operator that fits
pub record IsLike (net : Netlist) (x y : Node) : Type 0 where
  pub operator : IsOperator y
  pub fits : IsFitting (shape_of net) (widths_of net) y
  pub width : width_in net y ≡ width_in net x
  pub value : (g : Given) → IsGiven net g → value_in net g y ≡ value_in net g x

abbrev pub IsSound : Netlist → Node → Folded → Type 0
IsSound net x (f.Same a) = IsSame net x a
IsSound net x (f.Number width number) = IsConstant net x width number
IsSound net x (f.Kept y) = IsLike net x y
