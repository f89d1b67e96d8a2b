-- What is read of an item, by what its first token begins.
use Rattle.std.proofs.Common.{◌≡◌, ℕ, suc, List, [], ◌∷◌, length}
use Rattle.std.proofs.Common.{refl, sym, ap, ◌∙◌}
use Rattle.std.specs.Prelude.{Err}
use Rattle.fv_text.specs.declared.kind.Kind.{Kind}
use Rattle.fv_text.specs.declared.kind.Kind.TheVariants as k
use Rattle.fv_text.specs.declared.keyword.Keyword.TheVariants as w
use Rattle.fv_text.specs.declared.symbol.Symbol.TheVariants as s
use Rattle.vl_tree.specs.declared.declaration.NetKind.{NetKind}
use Rattle.vl_tree.specs.declared.declaration.NetKind.TheVariants as n
use Rattle.vl_tree.specs.declared.declaration.ParameterKind.{ParameterKind}
use Rattle.vl_tree.specs.declared.declaration.ParameterKind.TheVariants as p
use Rattle.vl_tree.specs.DeclarationSpelling.{net_word, parameter_word}
use Rattle.vl_parse_grammar.specs.Machine.{syntax, deep, then}
use Rattle.vl_parse_grammar.specs.Machine as machine
use Rattle.vl_parse_grammar.specs.Grammar.{read, read_all, sign, name, shape}
use Rattle.vl_parse_grammar.specs.Grammar.{declared_name, declared_names, names, parameters, parameter, assignment}
use Rattle.vl_parse_grammar.specs.Grammar.{assignments, stmt, initial_stmt, item, event, overrides}
use Rattle.vl_parse.specs.declared.plain.ItemLead.TheVariants as lead
use Rattle.vl_parse.specs.ItemLead.{item_lead_of}
use Rattle.vl_parse_cursor.specs.Next.{behind_name}
use Rattle.vl_parse_cursor.specs.Parts.{list_row}
use Rattle.vl_parse_cursor.proofs.Tokens.{name_here}
use Rattle.vl_parse.proofs.PlainRows.{item_wire, item_reg, item_always, item_initial, item_name}

pub kind_integer : (t : Kind) → item_lead_of t ≡ lead.Integer → t ≡ k.Keyword w.Integer
kind_integer (k.Keyword w.Integer) h = refl
kind_integer t h = cc

pub kind_genvar : (t : Kind) → item_lead_of t ≡ lead.Genvar → t ≡ k.Keyword w.Genvar
kind_genvar (k.Keyword w.Genvar) h = refl
kind_genvar t h = cc

pub kind_assign : (t : Kind) → item_lead_of t ≡ lead.Assign → t ≡ k.Keyword w.Assign
kind_assign (k.Keyword w.Assign) h = refl
kind_assign t h = cc

pub kind_always : (t : Kind) → item_lead_of t ≡ lead.Always → t ≡ k.Keyword w.Always
kind_always (k.Keyword w.Always) h = refl
kind_always t h = cc

pub kind_initial : (t : Kind) → item_lead_of t ≡ lead.Initial → t ≡ k.Keyword w.Initial
kind_initial (k.Keyword w.Initial) h = refl
kind_initial t h = cc

pub kind_net : (t : Kind) (net : NetKind) → item_lead_of t ≡ lead.Net net → t ≡ k.Keyword (net_word net)
kind_net (k.Keyword w.Wire) n.Wire h = refl
kind_net (k.Keyword w.Reg) n.Reg h = refl
kind_net t net h = cc

pub kind_parameter : (t : Kind) (kind : ParameterKind) → item_lead_of t ≡ lead.Parameter kind
    → t ≡ k.Keyword (parameter_word kind)
kind_parameter (k.Keyword w.Parameter) p.Parameter h = refl
kind_parameter (k.Keyword w.Localparam) p.Localparam h = refl
kind_parameter t kind h = cc

word_net : (m : ℕ) (net : NetKind) (ts : List Kind)
    → read item m (k.Keyword (net_word net) ∷ ts) ≡
    then (read shape m ts) (λ r. then (read declared_name m r) (λ q. read declared_names m q))
word_net m n.Wire ts = item_wire m ts
word_net m n.Reg ts = item_reg m ts

word_parameter : (m : ℕ) (kind : ParameterKind) (ts : List Kind)
    → read item m (k.Keyword (parameter_word kind) ∷ ts) ≡ then (read_all parameter m ts) (λ r. read parameters m r)
word_parameter m p.Parameter ts = list_row item parameters parameter m (k.Keyword w.Parameter) ts refl
word_parameter m p.Localparam ts = list_row item parameters parameter m (k.Keyword w.Localparam) ts refl

pub lead_net : (m : ℕ) (t : Kind) (ts : List Kind) (net : NetKind) → item_lead_of t ≡ lead.Net net
    → read item m (t ∷ ts) ≡ then (read shape m ts) (λ r. then (read declared_name m r) (λ q. read declared_names m q))
lead_net m t ts net h = rw (kind_net t net h) (word_net m net ts)

pub lead_parameter : (m : ℕ) (t : Kind) (ts : List Kind) (kind : ParameterKind) → item_lead_of t ≡ lead.Parameter kind
    → read item m (t ∷ ts) ≡ then (read_all parameter m ts) (λ r. read parameters m r)
lead_parameter m t ts kind h = rw (kind_parameter t kind h) (word_parameter m kind ts)

pub lead_integer : (m : ℕ) (t : Kind) (ts : List Kind) → item_lead_of t ≡ lead.Integer
    → read item m (t ∷ ts) ≡ then (read_all (declared_name ∷ []) m ts) (λ r. read declared_names m r)
lead_integer m t ts h =
    rw (kind_integer t h) (list_row item declared_names (declared_name ∷ []) m (k.Keyword w.Integer) ts refl)

pub lead_genvar : (m : ℕ) (t : Kind) (ts : List Kind) → item_lead_of t ≡ lead.Genvar
    → read item m (t ∷ ts) ≡ then (read_all (name ∷ []) m ts) (λ r. read names m r)
lead_genvar m t ts h = rw (kind_genvar t h) (list_row item names (name ∷ []) m (k.Keyword w.Genvar) ts refl)

pub lead_assign : (m : ℕ) (t : Kind) (ts : List Kind) → item_lead_of t ≡ lead.Assign
    → read item m (t ∷ ts) ≡ then (read_all assignment m ts) (λ r. read assignments m r)
lead_assign m t ts h = rw (kind_assign t h) (list_row item assignments assignment m (k.Keyword w.Assign) ts refl)

pub lead_always : (m : ℕ) (t : Kind) (ts : List Kind) → item_lead_of t ≡ lead.Always
    → read item m (t ∷ ts) ≡ then (read (sign s.At) m ts) (λ r. then (read event m r) (λ q. read stmt m q))
lead_always m t ts h = rw (kind_always t h) (item_always m ts)

pub lead_initial : (m : ℕ) (t : Kind) (ts : List Kind) → item_lead_of t ≡ lead.Initial
    → read item m (t ∷ ts) ≡ read initial_stmt m ts
lead_initial m t ts h = rw (kind_initial t h) (item_initial m ts)

pub lead_instance : (m : ℕ) (t : Kind) (ts : List Kind) → item_lead_of t ≡ lead.Instance
    → read item m (t ∷ ts) ≡ then (behind_name (t ∷ ts)) (λ r. read overrides m r)
lead_instance m (k.Name text) ts h =
    item_name text m ts ∙ ap (λ a. then a (λ r. read overrides m r)) (sym (name_here text ts))
lead_instance m (k.Keyword w.Wire) ts h = cc
lead_instance m t ts h = cc

pub lead_nothing : (m : ℕ) (t : Kind) (ts : List Kind) → item_lead_of t ≡ lead.Nothing
    → (t ≡ k.Symbol s.OpenAttribute → ⊥) → (t ≡ k.Keyword w.If → ⊥)
    → (t ≡ k.Keyword w.For → ⊥) → (t ≡ k.Keyword w.Generate → ⊥) → read item m (t ∷ ts) ≡ Err (syntax (suc (length ts)))
unfolding read machine.reads
lead_nothing m (k.Keyword w.Wire) ts h i x y z = cc
lead_nothing m (k.Keyword w.Reg) ts h i x y z = cc
lead_nothing m (k.Keyword w.Integer) ts h i x y z = cc
lead_nothing m (k.Keyword w.Genvar) ts h i x y z = cc
lead_nothing m (k.Keyword w.Parameter) ts h i x y z = cc
lead_nothing m (k.Keyword w.Localparam) ts h i x y z = cc
lead_nothing m (k.Keyword w.Assign) ts h i x y z = cc
lead_nothing m (k.Keyword w.Always) ts h i x y z = cc
lead_nothing m (k.Keyword w.Initial) ts h i x y z = cc
lead_nothing m (k.Keyword w.Generate) ts h i x y z = absurd (z refl)
lead_nothing m (k.Keyword w.For) ts h i x y z = absurd (y refl)
lead_nothing m (k.Keyword w.If) ts h i x y z = absurd (x refl)
lead_nothing m (k.Name text) ts h i x y z = cc
lead_nothing m (k.Symbol s.OpenAttribute) ts h i x y z = absurd (i refl)
lead_nothing m t ts h i x y z = refl

pub item_end : (m : ℕ) → read item m [] ≡ Err (syntax 0)
unfolding read machine.reads
item_end m = refl

pub ruleset item_leads = (
  lead_net,
  lead_parameter,
  lead_integer,
  lead_genvar,
  lead_assign,
  lead_always,
  lead_initial,
  lead_instance,
  lead_nothing,
  item_end,
)

pub ruleset item_kinds = (kind_integer, kind_genvar, kind_assign, kind_always, kind_initial, kind_net, kind_parameter)
