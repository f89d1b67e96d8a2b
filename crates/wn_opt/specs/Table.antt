-- Between functions: The table by which an equal node is found (rule of this project).
use Rattle.std.specs.Prelude.{◌≡◌, ℕ, Bool, true, false, Option, None, Some, List, [], ◌∷◌, slice_get}
use Rattle.std.specs.Ordering.{nat_cmp}
use Rattle.std.specs.Cmp.Lexicographic.{slice_cmp}
use Rattle.std.specs.BTreeMap.{get}
use Rattle.wn_net.specs.declared.node.Node.{Node}
use Rattle.wn_net.specs.declared.node.Node.TheVariants as n
use Rattle.wn_opt.specs.declared.table.Table.{Table}
use Rattle.wn_opt.specs.Hashing.{IsFirst}

-- A node as four numbers, by which nodes are ordered: the place of its kind among the kinds, and what it holds.
abbrev pub key : Node → List ℕ
key (n.Konst word) = 0 ∷ word.width ∷ word.high ∷ word.low ∷ []
key (n.Input i) = 1 ∷ i ∷ 0 ∷ 0 ∷ []
key (n.Reg i) = 2 ∷ i ∷ 0 ∷ 0 ∷ []
key (n.Read m a) = 3 ∷ m ∷ a ∷ 0 ∷ []
key (n.Not a) = 4 ∷ a ∷ 0 ∷ 0 ∷ []
key (n.And a b) = 5 ∷ a ∷ b ∷ 0 ∷ []
key (n.Or a b) = 6 ∷ a ∷ b ∷ 0 ∷ []
key (n.Xor a b) = 7 ∷ a ∷ b ∷ 0 ∷ []
key (n.Add a b) = 8 ∷ a ∷ b ∷ 0 ∷ []
key (n.Sub a b) = 9 ∷ a ∷ b ∷ 0 ∷ []
key (n.Mul a b) = 10 ∷ a ∷ b ∷ 0 ∷ []
key (n.Eq a b) = 11 ∷ a ∷ b ∷ 0 ∷ []
key (n.Ult a b) = 12 ∷ a ∷ b ∷ 0 ∷ []
key (n.Slt a b) = 13 ∷ a ∷ b ∷ 0 ∷ []
key (n.Shl a b) = 14 ∷ a ∷ b ∷ 0 ∷ []
key (n.Lshr a b) = 15 ∷ a ∷ b ∷ 0 ∷ []
key (n.Ashr a b) = 16 ∷ a ∷ b ∷ 0 ∷ []
key (n.Concat a b) = 17 ∷ a ∷ b ∷ 0 ∷ []
key (n.Mux c a b) = 18 ∷ c ∷ a ∷ b ∷ []
key (n.Slice a at w) = 19 ∷ a ∷ at ∷ w ∷ []
key (n.Zext a w) = 20 ∷ a ∷ w ∷ 0 ∷ []
key (n.Sext a w) = 21 ∷ a ∷ w ∷ 0 ∷ []

-- where the table has the node
abbrev pub place_in : Table → Node → Option ℕ
place_in t x = get (slice_cmp nat_cmp) t.places (key x)

-- the node is an input's or a register's: of these there is one each
abbrev pub is_source : Node → Bool
is_source (n.Input i) = true
is_source (n.Reg i) = true
is_source x = false

abbrev pub IsOperator : Node → Type 0
IsOperator x = is_source x ≡ false

-- the table has each operator of the list, at its first place
pub record IsTableOf (nodes : List Node) (t : Table) : Type 0 where
  pub first : (x : Node) (id : ℕ) → place_in t x ≡ Some id → IsFirst nodes x id
  pub whole : (x : Node) (k : ℕ) → IsOperator x → slice_get nodes k ≡ Some x → place_in t x ≡ None → ⊥
