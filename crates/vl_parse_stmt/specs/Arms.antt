-- Between functions: What functions promise each other, and what they stand on. Labels and arms of a case. IEEE
-- 1364-2005, sections 9.5 and A.6.7; that wild bits stand in labels of a `casez` alone is a rule of this project.
use Rattle.std.specs.Prelude.{ℕ, ◌==◌, Bool, true, false, Option, Some, None}
use Rattle.fv_text.specs.declared.kind.Kind.{Kind}
use Rattle.fv_text.specs.declared.kind.Kind.TheVariants as k
use Rattle.fv_text.specs.declared.number.Number.{Number}
use Rattle.vl_tree.specs.declared.stmt.CaseKind.{CaseKind}
use Rattle.vl_tree.specs.declared.stmt.CaseKind.TheVariants as c
use Rattle.vl_parse_cursor.specs.declared.lead.Lead.{Lead}
use Rattle.vl_parse_cursor.specs.declared.lead.Lead.TheVariants as lead
use Rattle.vl_parse_cursor.specs.Lead.{lead_of}

abbrev pub wild_if : Bool → Bool → Number → Option Number
wild_if false true n = Some n
wild_if known_wild unknown n = None

-- a number with wild bits and without unknown bits is a label of a `casez`
abbrev pub wild_label : CaseKind → Kind → Option Number
wild_label c.Casez (k.Number n) = wild_if (n.wild == 0) (n.unknown == 0) n
wild_label kind t = None

abbrev pub is_something : Lead → Bool
is_something lead.Nothing = false
is_something l = true

abbrev pub begins : Option Number → Lead → Bool
begins (Some n) l = true
begins None l = is_something l

-- the token begins a label
abbrev pub begins_label : CaseKind → Kind → Bool
begins_label kind t = begins (wild_label kind t) (lead_of t)

-- how many defaults there are
abbrev pub number_of : Bool → ℕ
number_of true = 1
number_of false = 0
