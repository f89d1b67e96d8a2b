-- The values of turns.
use Rattle.std.specs.Prelude.{◌≡◌, refl, List, Some, None, if◌then◌else◌}
use Rattle.std.proofs.Common.{sym, subst}
use Rattle.vl_tree.specs.declared.part.LoopHead.{LoopHead}
use Rattle.vl_tree.specs.Expr.{Expr}
use Rattle.vl_size.specs.Size.{is_true}
use Rattle.vl_mean.specs.declared.const_number.Const.{Const}
use Rattle.vl_mean.specs.Constants.{constant_operand}
use Rattle.vl_mean.specs.Scopes.{Scope, constant_in}
use Rattle.vl_mean.specs.Walk.{genvar_value, goes_on, next_turn, with_genvar}
use Rattle.vl_elab_spec.specs.Meanings.{Names, constants}
use Rattle.vl_elab_const.specs.Numbers.{HaveNumbers, genvar_number, holds}
use Rattle.vl_elab_const.proofs.Genvars.{genvar_bounded}
use Rattle.vl_elab_flatten.proofs.OpenBlocks.{turn_numbers}
use Rattle.vl_elab_check_item.specs.TurnParts.{in_turn}
use Rattle.vl_elab_flatten.specs.Ready.{IsTurn}

pub number_bounded : (ns : List Names) (e : Expr) (v : Const) → v ≡ genvar_number ns e → IsTurn v
number_bounded ns e v h = subst IsTurn (sym h) (genvar_bounded (constant_operand (constants ns) e))

pub next_bounded : (head : LoopHead) (ss : List Scope) (c v : Const) → next_turn head ss c ≡ v → IsTurn v
next_bounded head ss c v h =
    subst IsTurn h (genvar_bounded (constant_operand (constant_in (with_genvar head.variable c ss)) head.next))

pub turn_value : (ns : List Names) (ss : List Scope) → HaveNumbers ns ss → (head : LoopHead) (c : Const)
    → (if holds (in_turn head.variable c ns) head.condition
    then Some (genvar_number (in_turn head.variable c ns) head.next) else None)
    ≡ (if goes_on head ss c then Some (next_turn head ss c) else None)
turn_value ns ss h head c =
    let inner : HaveNumbers (in_turn head.variable c ns) (with_genvar head.variable c ss) =
    turn_numbers ss ns (in_turn head.variable c ns) head.variable c refl h in
    λ i. if is_true (constant_operand (λ text. inner text i) head.condition)
    then Some (genvar_value (constant_operand (λ text. inner text i) head.next)) else None
