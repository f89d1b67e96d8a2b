-- Between functions: What one arm of a case does. Rule of this project.
use Rattle.std.specs.Prelude.{ℕ, Bool, List, [], ◌∷◌, ◌++◌, Option}
use Rattle.vl_tree.specs.declared.stmt.Arm.{Arm}
use Rattle.vl_tree.specs.declared.stmt.CaseKind.{CaseKind}
use Rattle.vl_size.specs.declared.decl.Decl.{Decl}
use Rattle.wn_net.specs.Net.{Netlist, IsNode}
use Rattle.vl_lower_assign.specs.Frames.{Cells}
use Rattle.vl_lower_stmt.specs.StepsArms.{ArmsDone, case_test}

-- Wherever some arms of a case are done, this one is done behind them: it goes on from their path.
abbrev pub DoesArm : List Decl → Netlist → Netlist → Cells → Cells → Option ℕ → Option ℕ → CaseKind → ℕ → Bool → ℕ
    → Arm → Type 0
DoesArm ds old new before after path other kind width signed word x =
    (first : Netlist) (f : Cells) (way : Option ℕ) (xs : List Arm) → IsNode first word
    → ArmsDone ds first f way (case_test ds first kind width signed word) old before path xs
    → ArmsDone ds first f way (case_test ds first kind width signed word) new after other (xs ++ x ∷ [])
