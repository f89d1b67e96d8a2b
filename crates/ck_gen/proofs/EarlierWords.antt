-- The words of what counts as earlier, and what they show.
use Rattle.std.specs.Prelude.{ℕ, zero, suc, ◌+◌, Bool, true, false, if◌then◌else◌, List, [], ◌∷◌, ◌++◌, take, drop}
use Rattle.wn_net.specs.Value.{Given}
use Rattle.wn_net.specs.Net.{Netlist, AreNodesOf}
use Rattle.ck_cfg.specs.declared.kind.CheckKind.{CheckKind}
use Rattle.ck_spec.specs.Lists.{looks_both_ways}
use Rattle.ck_history.specs.Entries.{Entry, Show}
use Rattle.ck_history.proofs.Entries.{show_take, show_drop, show_append}
use Rattle.ck_gen.specs.Around.{earlier_of}
use Rattle.ck_gen.proofs.Recalled.{drop_nodes}

take_nodes : (net : Netlist) (w k : ℕ) (ids : List ℕ) → AreNodesOf net w ids → AreNodesOf net w (take k ids)
take_nodes net w zero ids own = tt
take_nodes net w (suc k) [] own = tt
take_nodes net w (suc k) (id ∷ ids) own = (own.0, take_nodes net w k ids own.1)

append_nodes : (net : Netlist) (w : ℕ) (ids more : List ℕ) → AreNodesOf net w ids → AreNodesOf net w more
    → AreNodesOf net w (ids ++ more)
append_nodes net w [] more own next = next
append_nodes net w (id ∷ ids) more own next = (own.0, append_nodes net w ids more own.1 next)

-- they are there
pub earlier_nodes : (net : Netlist) (w : ℕ) (kind : CheckKind) (place : ℕ) (ids : List ℕ) → AreNodesOf net w ids
    → AreNodesOf net w (earlier_of kind place ids)
earlier_nodes net w kind place ids own = by (looks_both_ways kind) where
  by : (b : Bool)
      → AreNodesOf net w (if b then take place ids ++ drop (place + 1) ids else drop (place + 1) ids)
  by true =
      append_nodes net w (take place ids) (drop (place + 1) ids) (take_nodes net w place ids own)
      (drop_nodes net w (place + 1) ids own)
  by false = drop_nodes net w (place + 1) ids own

-- and show what counts as earlier
pub show_earlier : (net : Netlist) (g : Given) (kind : CheckKind) (place : ℕ) (ids : List ℕ) (es : List Entry)
    → Show net g ids es → Show net g (earlier_of kind place ids) (earlier_of kind place es)
show_earlier net g kind place ids es show = by (looks_both_ways kind) where
  by : (b : Bool)
      → Show net g (if b then take place ids ++ drop (place + 1) ids else drop (place + 1) ids)
      (if b then take place es ++ drop (place + 1) es else drop (place + 1) es)
  by true =
      show_append net g (take place ids) (drop (place + 1) ids) (take place es) (drop (place + 1) es)
      (show_take net g place ids es show) (show_drop net g (place + 1) ids es show)
  by false = show_drop net g (place + 1) ids es show
