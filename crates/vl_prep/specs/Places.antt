-- Between functions: What the public calls promise. Where the places of an answer come from: each is that of a token
-- of the text that was read. Rule of this project.
use Rattle.std.specs.Prelude.{List, map, Option, Some, None, IfSome}
use Rattle.std.specs.List.{All, Contains}
use Rattle.fv_text.specs.declared.pos.Pos.{Pos}
use Rattle.fv_text.specs.declared.token.Token.{Token}
use Rattle.vl_prep.specs.declared.fault.PrepFault.{PrepFault}
use Rattle.vl_prep.specs.declared.fault.PrepFault.TheVariants.{UnknownMacro, UnbalancedIf, MacroArgs, MacroDepth}
use Rattle.vl_prep.specs.declared.fault.PrepFault.TheVariants.{Include, TooManyTokens, NoName, Memory}

-- the places of tokens
abbrev pub places : List Token → List Pos
places ts = map (λ t. t.pos) ts

-- the place that a fault names; want of memory has none
abbrev pub fault_place : PrepFault → Option Pos
fault_place (UnknownMacro name at) = Some at
fault_place (UnbalancedIf at) = Some at
fault_place (MacroArgs at) = Some at
fault_place (MacroDepth at) = Some at
fault_place (Include at) = Some at
fault_place (TooManyTokens at) = Some at
fault_place (NoName at) = Some at
fault_place Memory = None

-- what was put out stands at places of the text's tokens
abbrev pub IsPlaced : List Token → List Token → Type 0
IsPlaced tokens output = All (λ t. Contains (places tokens) t.pos) output

-- the fault is at the place of one of the text's tokens
abbrev pub IsPlacedFault : List Token → PrepFault → Type 0
IsPlacedFault tokens f = IfSome (fault_place f) (λ at. Contains (places tokens) at)
