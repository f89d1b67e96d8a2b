-- Between functions: Turns of a generate loop, over what names mean and the numbers that constants have: what the
-- functions that go through them promise one another. IEEE 1364-2005, section 12.4.1; the limit is a rule of this
-- project.
use Rattle.std.specs.Prelude.{◌≡◌, ℕ, zero, suc, List, [], ◌∷◌, ◌++◌, Bool, true, ◌&&◌, is_none, Option, Some, None}
use Rattle.std.specs.Prelude.{if◌then◌else◌}
use Rattle.fv_text.specs.declared.pos.Pos.{Pos}
use Rattle.vl_tree.specs.declared.part.LoopHead.{LoopHead}
use Rattle.vl_mean.specs.declared.const_number.Const.{Const}
use Rattle.vl_mean.specs.Walk.{Place, turn_place, first_turn, most_turns}
use Rattle.vl_elab_spec.specs.declared.elab_fault.ElabFault.{ElabFault}
use Rattle.vl_elab_spec.specs.declared.elab_fault.ElabFault.TheVariants as f
use Rattle.vl_elab_spec.specs.Expressions.{refused_if, own_refusals, refusals}
use Rattle.vl_elab_spec.specs.Items.{genvar_refusals, has_value, is_unknown, is_valued, without_start}
use Rattle.vl_elab_spec.specs.Meanings.{Meaning, undeclared, loop_variable, constant, Names}
use Rattle.vl_elab_spec.specs.Refused.{lower_of, lowest}
use Rattle.vl_elab_const.specs.Numbers.{holds as is_true_in, genvar_number}
use Rattle.vl_elab_check_item.specs.declared.reach.HeadValues.{HeadValues}
use Rattle.vl_elab_check_item.specs.declared.head.Variable.{Variable}
use Rattle.vl_elab_check_item.specs.declared.head.Variable.TheVariants as v

-- with the loop's variable in a scope of its own
abbrev pub in_turn : List ℕ → Const → List Names → List Names
in_turn text c ns = ((text, constant c true) ∷ []) ∷ ns

-- ---- a turn, by what names mean in it and the numbers of its constants

-- its condition has a value and isn't 0
abbrev pub holds : List Names → List Names → LoopHead → Bool
holds ns numbers head = has_value ns head.condition && is_true_in numbers head.condition

-- it begins; what is refused has no value
abbrev pub begins : List Names → List Names → LoopHead → Bool
begins ns numbers head = is_none (lowest (own_refusals ns true head.condition)) && holds ns numbers head

-- and leads to a further one
abbrev pub leads_on : List Names → List Names → LoopHead → Bool
leads_on ns numbers head =
    begins ns numbers head && (is_none (lowest (genvar_refusals ns head.next)) && has_value ns head.next)

-- its condition and, where it begins, its step
abbrev pub turn_fault : List Names → List Names → LoopHead → Option ElabFault
turn_fault ns numbers head =
    lower_of (lowest (own_refusals ns true head.condition))
    (if begins ns numbers head then lowest (genvar_refusals ns head.next) else None)

-- of one behind the last one its condition alone is judged
abbrev pub last_fault : List Names → List Names → LoopHead → Pos → Option ElabFault
last_fault ns numbers head p =
    lower_of (lowest (own_refusals ns true head.condition))
    (lowest (refused_if (begins ns numbers head) (f.GenLoop p)))

-- ---- all turns from a value on, with so many to come

abbrev pub turns_fault : ℕ → List Names → List Names → LoopHead → Pos → Const → Option ElabFault
turns_fault zero ns numbers head p c =
    last_fault (in_turn head.variable c ns) (in_turn head.variable c numbers) head p
turns_fault (suc n) ns numbers head p c =
    let inside = in_turn head.variable c ns in
    let inner = in_turn head.variable c numbers in
    let more = turns_fault n ns numbers head p (genvar_number inner head.next) in
    lower_of (turn_fault inside inner head) (if leads_on inside inner head then more else None)

-- where no turn begins the step is judged once
abbrev pub idle_fault : List Names → List Names → LoopHead → Const → Option ElabFault
idle_fault ns numbers head c =
    if begins (in_turn head.variable c ns) (in_turn head.variable c numbers) head then None
    else lowest (genvar_refusals (in_turn head.variable c ns) head.next)

-- from the first one on
abbrev pub begun_fault : List Names → List Names → LoopHead → Pos → Const → Option ElabFault
begun_fault ns numbers head p c =
    lower_of (idle_fault ns numbers head c) (turns_fault most_turns ns numbers head p c)

-- only a name that no scope declares counts
abbrev pub if_unknown : Option ElabFault → Option ElabFault
if_unknown None = None
if_unknown (Some g) = if is_unknown g then Some g else None

abbrev pub variable_of : Meaning → Variable
variable_of undeclared = v.Undeclared
variable_of loop_variable = v.Genvar
variable_of m = v.Other

abbrev pub head_fault : List Names → List Names → Pos → LoopHead → Variable → Option ElabFault
head_fault ns numbers p head v.Genvar =
    let start = lowest (genvar_refusals ns head.start) in
    let starts = is_none start && has_value ns head.start in
    lower_of start (if starts then begun_fault ns numbers head p (genvar_number numbers head.start)
    else lowest (without_start head ns))
head_fault ns numbers p head v.Undeclared = Some (f.Unknown head.variable p)
head_fault ns numbers p head v.Other =
    lower_of (Some (f.Kind head.variable p))
    (if_unknown (lowest (refusals ns true head.start ++ refusals ns true head.condition ++ refusals ns true head.next)))

-- ---- how far a loop goes by what has a value in its head

-- as the walk has it
pub record GoesBy (v : HeadValues) (head : LoopHead) (at : Place) : Type 0 where
  pub turns : v.turns ≡ (is_valued at head.start
      && is_valued (turn_place at head.variable (first_turn head at.scopes)) head.condition)
  pub further : v.further ≡ is_valued (turn_place at head.variable (first_turn head at.scopes)) head.next
