-- Meaning: When a target is reached in a cycle (rule of this project).
use Rattle.std.specs.Prelude.{Bool, true, false, ◌&&◌, Option, Some, None, slice_get}
use Rattle.rv_table.specs.declared.row.RowId.{RowId}
use Rattle.rv_table.specs.Matching.{matches}
use Rattle.wn_net.specs.Value.{Given}
use Rattle.wn_net.specs.Net.{Netlist}
use Rattle.rvfi_port.specs.declared.port.Channel.{Channel}
use Rattle.rvfi_port.specs.declared.port.Port.{Port}
use Rattle.rvfi_port.specs.Channels.{retires, retire_at}
use Rattle.ck_cover.specs.declared.target.Target.{Target}

-- the channel retires a word of the row
abbrev pub retires_row : Netlist → Given → Channel → RowId → Bool
retires_row net g c row = retires net g c && matches row (retire_at net g c).insn

-- the same of a channel that may be there
abbrev pub is_retired : Netlist → Given → Option Channel → RowId → Bool
is_retired net g None row = false
is_retired net g (Some c) row = retires_row net g c row

-- without a row there is nothing to retire
abbrev pub is_goal_of : Netlist → Given → Option Channel → Option RowId → Bool
is_goal_of net g channel None = true
is_goal_of net g channel (Some row) = is_retired net g channel row

-- what the target seeks is so in this cycle
abbrev pub is_goal : Netlist → Given → Port → Target → Bool
is_goal net g port t = is_goal_of net g (slice_get port.channels t.channel) t.row
