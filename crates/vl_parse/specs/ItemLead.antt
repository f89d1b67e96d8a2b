-- Between functions: What functions promise each other, and what they stand on. What a token begins as the first of an
-- item that has no items in it, behind its attributes. IEEE 1364-2005, sections A.1.4 and A.4.2.
use Rattle.fv_text.specs.declared.kind.Kind.{Kind}
use Rattle.fv_text.specs.declared.kind.Kind.TheVariants as k
use Rattle.fv_text.specs.declared.keyword.Keyword.{Keyword}
use Rattle.fv_text.specs.declared.keyword.Keyword.TheVariants as w
use Rattle.vl_tree.specs.declared.declaration.NetKind.TheVariants as n
use Rattle.vl_tree.specs.declared.declaration.ParameterKind.TheVariants as p
use Rattle.vl_parse.specs.declared.plain.ItemLead.{ItemLead}
use Rattle.vl_parse.specs.declared.plain.ItemLead.TheVariants as lead

abbrev pub item_lead_of_word : Keyword → ItemLead
item_lead_of_word w.Wire = lead.Net n.Wire
item_lead_of_word w.Reg = lead.Net n.Reg
item_lead_of_word w.Integer = lead.Integer
item_lead_of_word w.Genvar = lead.Genvar
item_lead_of_word w.Parameter = lead.Parameter p.Parameter
item_lead_of_word w.Localparam = lead.Parameter p.Localparam
item_lead_of_word w.Assign = lead.Assign
item_lead_of_word w.Always = lead.Always
item_lead_of_word w.Initial = lead.Initial
item_lead_of_word keyword = lead.Nothing

abbrev pub item_lead_of : Kind → ItemLead
item_lead_of (k.Keyword keyword) = item_lead_of_word keyword
item_lead_of (k.Name text) = lead.Instance
item_lead_of t = lead.Nothing
