-- Between functions: A part's fault as that of the whole text; want of memory is no fault of the text. Rule of this
-- project.
use Rattle.vl_token.specs.declared.fault.LexFault.{LexFault}
use Rattle.vl_token.specs.declared.fault.LexFault.TheVariants as lex
use Rattle.vl_prep.specs.declared.fault.PrepFault.{PrepFault}
use Rattle.vl_prep.specs.declared.fault.PrepFault.TheVariants as prep
use Rattle.vl_parse.specs.declared.fault.ParseFault.{ParseFault}
use Rattle.vl_parse.specs.declared.fault.ParseFault.TheVariants as parse
use Rattle.vl_text.specs.declared.fault.TextFault.{TextFault}
use Rattle.vl_text.specs.declared.fault.TextFault.TheVariants.{Lex, Prep, Parse, Memory}

abbrev pub of_lex : LexFault → TextFault
of_lex lex.Memory = Memory
of_lex fault = Lex fault

abbrev pub of_prep : PrepFault → TextFault
of_prep prep.Memory = Memory
of_prep fault = Prep fault

abbrev pub of_parse : ParseFault → TextFault
of_parse parse.Memory = Memory
of_parse fault = Parse fault
