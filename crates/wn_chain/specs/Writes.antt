-- Between functions: Words after writes, by the values of nodes (rule of this project).
use Rattle.std.specs.Prelude.{ℕ, List, [], ◌∷◌}
use Rattle.wn_net.specs.declared.parts.MemWrite.{MemWrite}
use Rattle.wn_net.specs.Value.{Given}
use Rattle.wn_net.specs.Next.{written}
use Rattle.wn_net.specs.Net.{Netlist, value_at}

-- numbers of a width, as words, after a write in a cycle
abbrev pub written_at : Netlist → Given → ℕ → List ℕ → MemWrite → List ℕ
written_at net g width words w =
    written width words (value_at net g w.enable) (value_at net g w.addr) (value_at net g w.mask) (value_at net g w.value)

-- and after several, the oldest first
abbrev pub written_by : Netlist → Given → ℕ → List ℕ → List MemWrite → List ℕ
written_by net g width words [] = words
written_by net g width words (w ∷ ws) = written_by net g width (written_at net g width words w) ws
