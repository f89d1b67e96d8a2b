-- Meaning: A net that is built anew: what is as it was, and what has changed (rule of this project).
use Rattle.std.specs.Prelude.{◌≡◌, ℕ, ◌+◌, if◌then◌else◌, Bool, true, false, List, [], ◌∷◌, length, map}
use Rattle.wn_net.specs.declared.parts.Input.{Input}
use Rattle.wn_net.specs.declared.parts.InputKind.{InputKind}
use Rattle.wn_net.specs.declared.parts.InputKind.TheVariants.{Reset}
use Rattle.wn_net.specs.declared.parts.Init.{Init}
use Rattle.wn_net.specs.declared.parts.Init.TheVariants.{Free}
use Rattle.wn_net.specs.Value.{Given}
use Rattle.wn_net.specs.Given.{given}
use Rattle.wn_net.specs.Net.{Netlist, IsNode, IsNodeOf, value_at}
use Rattle.wn_net.specs.Next.{next_state}
use Rattle.bm_induct.specs.declared.how.Rebuild.{Rebuild}
use Rattle.bm_induct.specs.declared.how.Rebuild.TheVariants.{Waived, Freed}

-- what a register or a word begins with: as before, or with any number
abbrev pub start_for : Rebuild → Init → Init
start_for Waived init = init
start_for Freed init = Free

-- what reads an input of this kind reads 0
abbrev pub is_held : Rebuild → InputKind → Bool
is_held Freed Reset = true
is_held how kind = false

-- the numbers of the inputs as the nodes see them
abbrev pub held_inputs : Rebuild → List Input → List ℕ → List ℕ
held_inputs how (x ∷ xs) (n ∷ ns) = (if is_held how x.kind then 0 else n) ∷ held_inputs how xs ns
held_inputs how xs ns = ns

-- the numbers of a cycle as the nodes see them
abbrev pub seen : Rebuild → Netlist → Given → Given
seen how net g = given (held_inputs how net.inputs g.inputs) g.state

-- how much higher the number of a node has become
abbrev pub offset : Netlist → ℕ
offset net = length net.inputs + length net.regs

-- the node that stands for a node
abbrev pub moved_id : Netlist → ℕ → ℕ
moved_id net id = id + offset net

-- none are assumed, or as many as before
abbrev pub assumed_for : Rebuild → Netlist → List ℕ
assumed_for Waived net = []
assumed_for Freed net = map (moved_id net) net.assumes

-- The inputs, registers and memories are those of the old net, but for what they begin with. Behind the numbers that
-- were added each node has its width, and in each cycle the value that the old one has there, as nodes see this cycle;
-- and so the state in the next cycle.
pub record IsRebuilt (how : Rebuild) (old new : Netlist) : Type 0 where
  pub inputs : new.inputs ≡ old.inputs
  pub assumes : new.assumes ≡ assumed_for how old
  pub reg_widths : map (λ r. r.width) new.regs ≡ map (λ r. r.width) old.regs
  pub reg_starts : map (λ r. r.init) new.regs ≡ map (λ r. start_for how r.init) old.regs
  pub mem_widths : map (λ m. m.width) new.mems ≡ map (λ m. m.width) old.mems
  pub mem_words : map (λ m. m.words) new.mems ≡ map (λ m. m.words) old.mems
  pub mem_starts : map (λ m. m.init) new.mems ≡ map (λ m. map (start_for how) m.init) old.mems
  pub there : (width id : ℕ) → IsNodeOf old width id → IsNodeOf new width (moved_id old id)
  pub value : (g : Given) (id : ℕ) → IsNode old id
      → value_at new g (moved_id old id) ≡ value_at old (seen how old g) id
  pub next : (g : Given) → next_state new g ≡ next_state old (seen how old g)
