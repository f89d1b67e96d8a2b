-- The output and the gates of a text by nodes, or the line of a variable that no line defines.
use Rattle.std.proofs.Common.{◌≡◌, ℕ, cond, List, Option, Some, None, ap, sym, subst, ◌∙◌}
use Rattle.aiger_text.specs.declared.fault.AagFault.{AagFault}
use Rattle.aiger_text.specs.Said.{Said, variables}
use Rattle.aiger_text.specs.Profile.{is_known, unknown_line, undefined_line}
use Rattle.aiger_text.specs.Wires.{wire_end, IsUndefined}
use Rattle.aiger_text.proofs.EndLaws.{end_known, end_unknown}

module _ (said : Said) (keys : List ℕ) (k : keys ≡ variables said) where
  pub root_unknown : None ≡ wire_end keys said.output.literal → undefined_line said ≡ Some said.output.line
  root_unknown h =
      ap (λ b. cond b (unknown_line (variables said) said.gates) (Some said.output.line))
      (ap (λ vs. is_known vs said.output.literal) (sym k) ∙ end_unknown keys said.output.literal (sym h))

  pub root_known : (root : ℕ) → Some root ≡ wire_end keys said.output.literal
      → undefined_line said ≡ unknown_line keys said.gates
  root_known root h =
      ap (λ b. cond b (unknown_line (variables said) said.gates) (Some said.output.line))
      (ap (λ vs. is_known vs said.output.literal) (sym k) ∙ end_known keys said.output.literal root (sym h))
      ∙ ap (λ vs. unknown_line vs said.gates) (sym k)

  pub gates_undefined : (root : ℕ) (e : AagFault) → Some root ≡ wire_end keys said.output.literal
      → IsUndefined (unknown_line keys said.gates) e → IsUndefined (undefined_line said) e
  gates_undefined root e h u = subst (λ (p : Option ℕ). IsUndefined p e) (sym (root_known root h)) u
