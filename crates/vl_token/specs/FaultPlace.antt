-- Meaning: Where a text is refused. Rule of this project.
use Rattle.std.specs.Prelude.{Option, Some, None}
use Rattle.fv_text.specs.declared.pos.Pos.{Pos}
use Rattle.vl_token.specs.declared.fault.LexFault.{LexFault}
use Rattle.vl_token.specs.declared.fault.LexFault.TheVariants.{NotAscii, BadNumber, OpenComment, BadChar}
use Rattle.vl_token.specs.declared.fault.LexFault.TheVariants.{TooManyTokens, OpenString, Memory}

-- the place that a fault names; want of memory has none
abbrev pub fault_place : LexFault → Option Pos
fault_place (NotAscii at) = Some at
fault_place (BadNumber at) = Some at
fault_place (OpenComment at) = Some at
fault_place (BadChar at) = Some at
fault_place (TooManyTokens at) = Some at
fault_place (OpenString at) = Some at
fault_place Memory = None
