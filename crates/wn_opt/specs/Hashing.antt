-- Meaning: What a call for a node answers where nodes are shared: one number for equal nodes (rule of this project).
use Rattle.std.specs.Prelude.{◌≡◌, ℕ, ◌<◌, ◌^◌, List, Some, slice_get}
use Rattle.fv_text.specs.declared.word.Word.{Word}
use Rattle.fv_text.specs.Word.{number}
use Rattle.wn_net.specs.declared.node.Node.{Node}
use Rattle.wn_net.specs.declared.node.Node.TheVariants as n
use Rattle.wn_net.specs.Net.{Netlist}
use Rattle.wn_net.specs.Changes.{with_node}
use Rattle.wn_opt.specs.declared.fold.Folded.{Folded}
use Rattle.wn_opt.specs.declared.fold.Folded.TheVariants as f
use Rattle.wn_opt.specs.Folding.{folded}

-- the node stands in the list at this number, and at none before it
pub record IsFirst (nodes : List Node) (x : Node) (id : ℕ) : Type 0 where
  pub there : slice_get nodes id ≡ Some x
  pub first : (k : ℕ) → k < id → slice_get nodes k ≡ Some x → ⊥

-- An equal node that is there is answered, the first one, and nothing is added; else exactly this node is added.
pub record IsOnce (old new : Netlist) (x : Node) (id : ℕ) : Type 0 where
  pub first : IsFirst new.nodes x id
  pub known : (k : ℕ) → slice_get old.nodes k ≡ Some x → new ≡ old
  pub added : ((k : ℕ) → slice_get old.nodes k ≡ Some x → ⊥) → new ≡ with_node old x

-- a number of a width, as a constant
pub record IsNumber (old new : Netlist) (width value id : ℕ) : Type 0 where
  pub word : Word
  pub width_is : word.width ≡ width
  pub value_is : number word ≡ value
  pub low_half : word.low < 2 ^ 64
  pub once : IsOnce old new (n.Konst word) id

-- what a call comes to is answered
abbrev pub Gives : Netlist → Netlist → Folded → ℕ → Type 0
Gives old new (f.Same a) id = (id ≡ a) × (new ≡ old)
Gives old new (f.Number width value) id = IsNumber old new width value id
Gives old new (f.Kept x) id = IsOnce old new x id

-- what a call for a node answers, and what it leaves
abbrev pub Answers : Netlist → Netlist → Node → ℕ → Type 0
Answers old new x id = Gives old new (folded old x) id
