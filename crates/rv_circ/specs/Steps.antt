-- Between functions: When nodes show the instruction that a channel retires (rule of this project).
use Rattle.std.specs.Prelude.{◌≡◌, ℕ}
use Rattle.rv_table.specs.declared.pattern.Form.{Form}
use Rattle.rv_table.specs.declared.retire.Opts.{Opts}
use Rattle.rv_table.specs.Fields.{field}
use Rattle.rv_table.specs.Effect.{step, where_there, reads_first, reads_second, writes}
use Rattle.wn_net.specs.Value.{Given}
use Rattle.wn_net.specs.Given.{IsGiven}
use Rattle.wn_net.specs.Net.{Netlist, value_at}
use Rattle.wn_net.specs.Changes.{Shows}
use Rattle.rvfi_port.specs.declared.port.Channel.{Channel}
use Rattle.rvfi_port.specs.Channels.{retire_at}
use Rattle.rv_words.specs.declared.step.StepNodes.{StepNodes}
use Rattle.rv_words.specs.Nodes.{AreStep, step_at}
use Rattle.rv_circ.specs.declared.steps.Addresses.{Addresses}

-- the nodes show the addresses of the word's registers, 0 where the form has none
pub record ShowsAddresses (old new : Netlist) (form : Form) (word : ℕ) (a : Addresses) : Type 0 where
  pub rs1 : Shows old new 5 (λ g. where_there (reads_first form) (field 19 15 (value_at old g word))) a.rs1
  pub rs2 : Shows old new 5 (λ g. where_there (reads_second form) (field 24 20 (value_at old g word))) a.rs2
  pub rd : Shows old new 5 (λ g. where_there (writes form) (field 11 7 (value_at old g word))) a.rd

-- the nodes show the word of the form, of so many bytes, with what the channel's retirement gives it
pub record ShowsStep (old new : Netlist) (form : Form) (word length : ℕ) (c : Channel) (opts : Opts)
    (s : StepNodes) : Type 0 where
  pub nodes : AreStep new s
  pub value : (g : Given) → IsGiven old g
      → step_at new g s ≡ step form (value_at old g word) length (retire_at old g c) opts
