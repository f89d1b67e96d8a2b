-- Meaning: The line of each refusal. Rules of this project.
use Rattle.std.specs.Prelude.{ℕ, List, [], codes, decimal}
use Rattle.ck_cfg.specs.declared.fault.CfgFault.{CfgFault}
use Rattle.ck_cfg.specs.Faults.{number_of}
use Rattle.vl_text.specs.declared.fault.TextFault.{TextFault}
use Rattle.vl_text.specs.declared.fault.TextFault.TheVariants as text
use Rattle.rvf_case.specs.Loading.{LoadFault}
use Rattle.rvf_case.specs.Loading.load as load
use Rattle.rvf_case.specs.declared.refusal.Refusal.{Refusal}
use Rattle.rvf_case.specs.declared.refusal.Refusal.TheVariants as refusal
use Rattle.rvf_report.specs.Faults.{of_lex, of_prep, of_parse, of_elab, of_flow, of_port, config_line_of, config_values}
use Rattle.rvf_report.specs.Printed.{detail, ended, source_line, spaced}

-- `config C LINE DETAIL`
abbrev pub config_line : CfgFault → List ℕ
config_line f =
    spaced (codes "config") (spaced (decimal (number_of f)) (spaced (decimal (config_line_of f))
    (ended (detail (config_values f)))))

-- `absent NAME`
abbrev pub absent_line : List ℕ → List ℕ
absent_line name = spaced (codes "absent") (ended name)

-- `read fault NAME`
abbrev pub unread_line : List ℕ → List ℕ
unread_line name = spaced (codes "read fault") (ended name)

-- `heavy CHECK NUMBER`
abbrev pub heavy_line : List ℕ → ℕ → List ℕ
heavy_line name number = spaced (codes "heavy") (spaced name (ended (decimal number)))

-- `refused check CHECK`
abbrev pub no_check_line : List ℕ → List ℕ
no_check_line name = spaced (codes "refused check") (ended name)

-- `source PART C PLACE DETAIL`, by the names of the files; want of memory has no line, and what is too heavy one of
-- its own
abbrev pub text_line : List (List ℕ) → TextFault → List ℕ
text_line names (text.Lex f) = source_line names (codes "lex") (of_lex f)
text_line names (text.Prep f) = source_line names (codes "prep") (of_prep f)
text_line names (text.Parse f) = source_line names (codes "parse") (of_parse f)
text_line names text.Memory = []

abbrev pub load_line : List (List ℕ) → LoadFault → List ℕ
load_line names (load.Text f) = text_line names f
load_line names (load.Elab f) = source_line names (codes "elab") (of_elab f)
load_line names (load.Flow f) = source_line names (codes "flow") (of_flow names f)
load_line names (load.Heavy place number) = []
load_line names (load.Port f) = source_line names (codes "port") (of_port f)
load_line names load.Memory = []

abbrev pub refusal_line : Refusal → List ℕ
refusal_line (refusal.Absent name) = absent_line name
refusal_line (refusal.Unread name) = unread_line name
refusal_line (refusal.Config f) = config_line f
refusal_line (refusal.NoCheck name) = no_check_line name
refusal_line (refusal.Source f names) = load_line names f
refusal_line (refusal.Heavy name number) = heavy_line name number
refusal_line refusal.Memory = []
