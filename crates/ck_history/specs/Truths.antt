-- Between functions: Nodes of one bit as truth values: 1 says yes, and 0 no (rule of this project).
use Rattle.std.specs.Prelude.{ℕ, ◌==◌, Bool}
use Rattle.fv_bits.specs.Bits.{bit}
use Rattle.wn_net.specs.Value.{Given}
use Rattle.wn_net.specs.Net.{Netlist, value_at}
use Rattle.wn_net.specs.Changes.{Shows}

-- the node says yes in a cycle
abbrev pub is_one : Netlist → Given → ℕ → Bool
is_one net g id = value_at net g id == 1

-- the node is there, and says in each cycle of the old net whether this is so
abbrev pub Tells : Netlist → Netlist → (Given → Bool) → ℕ → Type 0
Tells old new meaning id = Shows old new 1 (λ g. bit (meaning g)) id
