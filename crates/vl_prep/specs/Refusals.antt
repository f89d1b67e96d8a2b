-- Meaning: What the public calls promise. The refusals of a text, and which of them is answered: the one at the least
-- place, by file, line and column, and at one place the one with the lowest number. Rule of this project.
use Rattle.std.specs.Prelude.{ℕ, Bool, ◌&&◌, ◌==◌, nat_lt, Option, None, Some, if◌then◌else◌}
use Rattle.fv_text.specs.declared.pos.Pos.{Pos}
use Rattle.vl_prep.specs.declared.fault.PrepFault.{PrepFault}
use Rattle.vl_prep.specs.declared.fault.PrepFault.TheVariants as fault
use Rattle.vl_prep.specs.declared.refusal.Cause.{Cause}
use Rattle.vl_prep.specs.declared.refusal.Cause.TheVariants.{UnknownMacro, UnbalancedIf, MacroArgs, MacroDepth}
use Rattle.vl_prep.specs.declared.refusal.Cause.TheVariants.{Include, TooManyTokens, NoName}
use Rattle.vl_prep.specs.declared.refusal.Refusal.{Refusal}

abbrev pub number : Cause → ℕ
number (UnknownMacro name) = 1
number UnbalancedIf = 2
number MacroArgs = 3
number MacroDepth = 4
number Include = 5
number TooManyTokens = 6
number NoName = 7

-- the place stands before the other
abbrev pub is_sooner : Pos → Pos → Bool
is_sooner p q = if p.file == q.file then if p.line == q.line then nat_lt p.col q.col else nat_lt p.line q.line
    else nat_lt p.file q.file

abbrev pub is_place : Pos → Pos → Bool
is_place p q = p.file == q.file && p.line == q.line && p.col == q.col

-- the refusal is answered where the other is there too
abbrev pub is_before : Refusal → Refusal → Bool
is_before r s = if is_place r.place s.place then nat_lt (number r.cause) (number s.cause) else is_sooner r.place s.place

-- of what is answered so far, and one more refusal
abbrev pub least : Option Refusal → Refusal → Refusal
least None r = r
least (Some s) r = if is_before r s then r else s

abbrev pub refusal : Pos → Cause → Refusal
refusal place cause = record { place = place; cause = cause }

-- the answer
abbrev pub fault_of : Refusal → PrepFault
fault_of r = of_cause r.place r.cause
  where
    of_cause : Pos → Cause → PrepFault
    of_cause place (UnknownMacro name) = fault.UnknownMacro name place
    of_cause place UnbalancedIf = fault.UnbalancedIf place
    of_cause place MacroArgs = fault.MacroArgs place
    of_cause place MacroDepth = fault.MacroDepth place
    of_cause place Include = fault.Include place
    of_cause place TooManyTokens = fault.TooManyTokens place
    of_cause place NoName = fault.NoName place
