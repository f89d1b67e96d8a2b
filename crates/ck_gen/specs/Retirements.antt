-- Meaning: The retirements of a run, and what it is probed by (RISC-V Formal Interface, in this project's profile).
use Rattle.std.specs.Prelude.{ℕ, zero, suc, ◌+◌, ◌-◌, if◌then◌else◌, List, [], ◌∷◌, ◌++◌, Option, Some, None}
use Rattle.wn_net.specs.Value.{Given}
use Rattle.wn_net.specs.Net.{Netlist, value_at}
use Rattle.rvfi_port.specs.declared.port.Channel.{Channel}
use Rattle.rvfi_port.specs.declared.port.Port.{Port}
use Rattle.rvfi_port.specs.Channels.{retires, retire_at}
use Rattle.ck_cfg.specs.declared.check.Check.{Check}
use Rattle.ck_spec.specs.declared.retired.Retired.{Retired}
use Rattle.ck_spec.specs.declared.retired.Probe.{Probe}

-- what a channel retires in a cycle, if anything
abbrev pub retired_in : Netlist → Given → ℕ → ℕ → Channel → List Retired
retired_in net g cycle channel c =
    if retires net g c then record { cycle = cycle; channel = channel; retire = retire_at net g c } ∷ [] else []

-- what the channels from this one on retire in a cycle, upwards
abbrev pub retired_from : Netlist → Given → ℕ → ℕ → List Channel → List Retired
retired_from net g cycle channel [] = []
retired_from net g cycle channel (c ∷ cs) =
    retired_in net g cycle channel c ++ retired_from net g cycle (channel + 1) cs

-- the retirements of so many cycles from the first one on, cycle by cycle and in each by channel, where a run has these
-- numbers in each cycle
abbrev pub retirements : Netlist → (ℕ → Given) → List Channel → ℕ → ℕ → List Retired
retirements net run cs first zero = []
retirements net run cs first (suc count) =
    retirements net run cs first count ++ retired_from net (run (first + count)) (first + count) 0 cs

-- those of a check: from its first cycle to its last
abbrev pub retirements_of : Netlist → (ℕ → Given) → Port → Check → List Retired
retirements_of net run port check =
    retirements net run port.channels check.start (check.cycle - check.start + 1)

-- what the probes show in a cycle; 0 where there is none
abbrev pub imem_addr_at : Netlist → Given → Option (ℕ × ℕ) → ℕ
imem_addr_at net g None = 0
imem_addr_at net g (Some p) = value_at net g p.0

abbrev pub imem_data_at : Netlist → Given → Option (ℕ × ℕ) → ℕ
imem_data_at net g None = 0
imem_data_at net g (Some p) = value_at net g p.1

abbrev pub dmem_addr_at : Netlist → Given → Option ℕ → ℕ
dmem_addr_at net g None = 0
dmem_addr_at net g (Some id) = value_at net g id

abbrev pub probe_at : Netlist → Given → Port → Probe
probe_at net g port = record {
  imem_addr = imem_addr_at net g port.imem;
  imem_data = imem_data_at net g port.imem;
  dmem_addr = dmem_addr_at net g port.dmem;
}
