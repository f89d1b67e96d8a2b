-- Meaning: What each refusal says besides its part. Rules of this project.
use Rattle.std.specs.Prelude.{ℕ, List, [], ◌∷◌, map, Some, None, decimal}
use Rattle.vl_token.specs.declared.fault.LexFault.{LexFault}
use Rattle.vl_token.specs.Fault as lexer
use Rattle.vl_token.specs.FaultPlace as lexer_place
use Rattle.vl_prep.specs.declared.fault.PrepFault.{PrepFault}
use Rattle.vl_prep.specs.declared.fault.PrepFault.TheVariants as prep
use Rattle.vl_parse.specs.declared.fault.ParseFault.{ParseFault}
use Rattle.vl_parse.specs.declared.fault.ParseFault.TheVariants as parse
use Rattle.vl_elab_spec.specs.declared.elab_fault.ElabFault.{ElabFault}
use Rattle.vl_elab_spec.specs.declared.elab_fault.ElabFault.TheVariants as elab
use Rattle.vl_flow.specs.declared.fault.FlowFault.{FlowFault}
use Rattle.vl_flow.specs.declared.fault.FlowFault.TheVariants as flow
use Rattle.rvfi_port.specs.declared.fault.PortFault.{PortFault}
use Rattle.rvfi_port.specs.declared.fault.PortFault.TheVariants as port
use Rattle.rvfi_port.specs.Fields.{field_name}
use Rattle.ck_cfg.specs.declared.fault.CfgFault.{CfgFault}
use Rattle.ck_cfg.specs.declared.fault.CfgFault.TheVariants as config
use Rattle.rvf_report.specs.Printed.{Says, says, place_text}

-- want of memory has no line

abbrev pub of_lex : LexFault → Says
of_lex f = says (lexer.number_of f) (lexer_place.fault_place f) []

abbrev pub of_prep : PrepFault → Says
of_prep (prep.UnknownMacro name at) = says 1 (Some at) (name ∷ [])
of_prep (prep.UnbalancedIf at) = says 2 (Some at) []
of_prep (prep.MacroArgs at) = says 3 (Some at) []
of_prep (prep.MacroDepth at) = says 4 (Some at) []
of_prep (prep.Include at) = says 5 (Some at) []
of_prep (prep.TooManyTokens at) = says 6 (Some at) []
of_prep (prep.NoName at) = says 7 (Some at) []
of_prep prep.Memory = says 0 None []

abbrev pub of_parse : ParseFault → Says
of_parse (parse.Syntax at) = says 1 (Some at) []
of_parse (parse.TooDeep at) = says 2 (Some at) []
of_parse (parse.Outside at word) = says 3 (Some at) (word ∷ [])
of_parse parse.Memory = says 0 None []

abbrev pub of_elab : ElabFault → Says
of_elab (elab.NoModule name) = says 1 None (name ∷ [])
of_elab (elab.Twice name at) = says 2 (Some at) (name ∷ [])
of_elab (elab.Unknown name at) = says 3 (Some at) (name ∷ [])
of_elab (elab.Port name at) = says 4 (Some at) (name ∷ [])
of_elab (elab.Param name at) = says 5 (Some at) (name ∷ [])
of_elab (elab.Recursive modules) = says 6 None modules
of_elab (elab.Range at) = says 7 (Some at) []
of_elab (elab.GenLoop at) = says 8 (Some at) []
of_elab (elab.TooManyBits count) = says 9 None (decimal count ∷ [])
of_elab (elab.Clock at) = says 10 (Some at) []
of_elab (elab.NotConstant at) = says 11 (Some at) []
of_elab (elab.ZeroDivisor at) = says 12 (Some at) []
of_elab (elab.TooWide at width) = says 13 (Some at) (decimal width ∷ [])
of_elab (elab.TooLarge at) = says 14 (Some at) []
of_elab (elab.Kind name at) = says 15 (Some at) (name ∷ [])

-- places among the values are printed by the names of the files
abbrev pub of_flow : List (List ℕ) → FlowFault → Says
of_flow names (flow.Loop places) = says 1 None (map (place_text names) places)
of_flow names (flow.Latch name at) = says 2 (Some at) (name ∷ [])
of_flow names (flow.TwoDrivers name bit first second) =
    says 3 (Some first) (name ∷ decimal bit ∷ place_text names second ∷ [])
of_flow names (flow.Undriven name bit) = says 4 None (name ∷ decimal bit ∷ [])
of_flow names (flow.BlockingShared name at) = says 5 (Some at) (name ∷ [])
of_flow names (flow.Mixed name at) = says 6 (Some at) (name ∷ [])
of_flow names flow.Memory = says 0 None []

abbrev pub of_port : PortFault → Says
of_port (port.Missing field) = says 1 None (field_name field ∷ [])
of_port (port.Width field found wanted) =
    says 2 None (field_name field ∷ decimal found ∷ decimal wanted ∷ [])
of_port port.NeedsAligned = says 3 None []
of_port port.Memory = says 0 None []

-- ---- the configuration

-- the line that a refusal of the configuration names; 0 where it names none
abbrev pub config_line_of : CfgFault → ℕ
config_line_of (config.Section line name) = line
config_line_of (config.Option line key) = line
config_line_of (config.Depth line) = line
config_line_of (config.Isa line text) = line
config_line_of (config.Missing section) = 0
config_line_of (config.Twice line key) = line
config_line_of (config.TooDeep line) = line
config_line_of config.NotUtf8 = 0
config_line_of (config.Nret line) = line
config_line_of (config.Script line) = line
config_line_of config.Memory = 0

abbrev pub config_values : CfgFault → List (List ℕ)
config_values (config.Section line name) = name ∷ []
config_values (config.Option line key) = key ∷ []
config_values (config.Isa line text) = text ∷ []
config_values (config.Missing section) = section ∷ []
config_values (config.Twice line key) = key ∷ []
config_values f = []
