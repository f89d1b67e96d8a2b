-- Between functions: How nodes show that an instruction reaches memory (rule of this project).
use Rattle.std.specs.Prelude.{ℕ}
use Rattle.fv_bits.specs.Bits.{bit}
use Rattle.rv_table.specs.Effect.{word_address, place_in_word, is_misaligned, mask_at}
use Rattle.wn_net.specs.Net.{Netlist, value_at}
use Rattle.wn_net.specs.Changes.{Shows}
use Rattle.rv_words.specs.declared.step.StepNodes.{StepNodes}
use Rattle.rv_words.specs.Nodes.{step_at}
use Rattle.rv_rows.specs.declared.memory.Access.{Access}

-- so many bytes at the address: where they begin in the word, the word's address, their mask, and whether that traps
pub record ShowsAccess (old new : Netlist) (s : StepNodes) (size address : ℕ) (a : Access) : Type 0 where
  pub place : Shows old new 2 (λ g. place_in_word (step_at old g s) (value_at old g address)) a.place
  pub word : Shows old new 32 (λ g. word_address (step_at old g s) (value_at old g address)) a.word
  pub mask : Shows old new 4 (λ g. mask_at size (place_in_word (step_at old g s) (value_at old g address))) a.mask
  pub trap : Shows old new 1 (λ g. bit (is_misaligned (step_at old g s) size (value_at old g address))) a.trap
