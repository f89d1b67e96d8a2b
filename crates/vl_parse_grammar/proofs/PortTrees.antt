-- What the machine reads as ports is spelled by well formed trees.
use Rattle.std.proofs.Common.{◌≡◌, ℕ, zero, suc, List, [], ◌∷◌, Option, Some, None, sym, ap, ◌∙◌}
use Rattle.std.proofs.lemmas.List.Elements.{All-cons, All-nil}
use Rattle.fv_text.specs.declared.keyword.Keyword.TheVariants as word
use Rattle.fv_text.specs.declared.kind.Kind.{Kind}
use Rattle.fv_text.specs.declared.kind.Kind.TheVariants as k
use Rattle.fv_text.specs.declared.symbol.Symbol.TheVariants as s
use Rattle.vl_tree.specs.declared.declaration.NetKind.{NetKind}
use Rattle.vl_tree.specs.declared.declaration.NetKind.TheVariants as n
use Rattle.vl_tree.specs.declared.declaration.Direction.{Direction}
use Rattle.vl_tree.specs.declared.declaration.Direction.TheVariants as dir
use Rattle.vl_tree.specs.declared.declaration.Port.{Port}
use Rattle.vl_tree.specs.declared.declaration.PortKind.TheVariants as p
use Rattle.vl_tree.specs.declared.declaration.FullPort.{FullPort}
use Rattle.vl_tree.specs.ExprSpelling.{spell_value}
use Rattle.vl_tree.specs.Phrase.{◌▸◌, between_commas}
use Rattle.vl_tree.specs.DeclarationSpelling.{
  spell_instance,
  spell_shape,
  spell_net,
  direction_word,
  spell_attributes,
  spell_full_port,
  spell_port,
}
use Rattle.vl_tree.specs.DeclarationWellFormed.{IsInstance, IsPortKind, IsPort, ArePorts}
use Rattle.vl_parse_grammar.specs.Grammar.{value, name, shape, port, full_port, first_port, more_ports, net}
use Rattle.vl_parse_grammar.specs.Grammar.{on_full_port}
use Rattle.vl_parse_grammar.proofs.Named.{Named, Derives, plain}
use Rattle.vl_parse_grammar.proofs.Onto.{onto}
use Rattle.vl_parse_grammar.proofs.Steps.{apart}
use Rattle.vl_parse_grammar.proofs.Spine.{nowhere}
use Rattle.vl_parse_grammar.proofs.TokenTrees.{name_tree}
use Rattle.vl_parse_grammar.proofs.ExprTrees.{value_tree}
use Rattle.vl_parse_grammar.proofs.DeclarationTrees.{Turn, Split, many_split, last_of, Tail, closes, goes_on, tail_tree}
use Rattle.vl_parse_grammar.proofs.DeclarationTrees.{attributed_tree, shape_tree}

record FoundNet (ts ks : List Kind) : Type 0 where
  tree : Option NetKind
  same : ts ≡ onto (spell_net tree) ks

no_net : (ts rest : List Named) → rest ≡ ts → FoundNet (plain ts) (plain rest)
no_net ts rest h = record { tree = None; same = ap plain (sym h) }

net_tree : (d : ℕ) (ts rest : List Named) → Derives d net ts rest → FoundNet (plain ts) (plain rest)
net_tree zero ts rest h = absurd h
net_tree (suc d) ((k.Keyword word.Wire, w) ∷ ts) rest h =
    record { tree = Some n.Wire; same = ap (λ r. k.Keyword word.Wire ∷ plain r) h }
net_tree (suc d) ((k.Keyword word.Reg, w) ∷ ts) rest h =
    record { tree = Some n.Reg; same = ap (λ r. k.Keyword word.Reg ∷ plain r) h }
net_tree (suc d) [] rest h = no_net [] rest h.1
net_tree (suc d) ((k.Keyword y, w) ∷ ts) rest h = no_net ((k.Keyword y, w) ∷ ts) rest h
net_tree (suc d) (t ∷ ts) rest h = no_net (t ∷ ts) rest h

record FoundFull (ts ks : List Kind) : Type 0 where
  tree : FullPort
  same : ts ≡ onto (spell_attributes tree.attributes ▸ spell_full_port tree) ks
  formed : IsPortKind (p.Full tree)

abbrev FullAt : ℕ → Type 0
FullAt d = (ts rest : List Named) → Derives d full_port ts rest → FoundFull (plain ts) (plain rest)

behind_direction : (d : ℕ) (q : Direction) (ts rest : List Named) → Turn d (net ∷ shape ∷ name ∷ value ∷ []) ts rest
    → FoundFull (k.Keyword (direction_word q) ∷ plain ts) (plain rest)
behind_direction d q ts rest (m, h, (m2, i, (m3, j, (m4, l, e)))) =
    let kind = net_tree d ts m h in
    let x = shape_tree d m m2 i in
    let y = name_tree d m2 m3 j in
    let v = value_tree d m3 m4 l in
    record {
      tree = record {
        attributes = [];
        direction = q;
        net = kind.tree;
        shape = x.tree;
        name = y.text;
        name_pos = nowhere;
        value = v.tree;
      };
      same = ap (λ u. k.Keyword (direction_word q) ∷ u)
          (kind.same ∙ ap (onto (spell_net kind.tree)) (x.same ∙ ap (onto (spell_shape x.tree))
          (y.same ∙ ap (λ u. k.Name y.text ∷ u) (v.same ∙ ap (λ r. onto (spell_value v.tree) (plain r)) e))));
      formed = (All-nil IsInstance, x.formed, y.fine, v.formed);
    }

full_by : (d : ℕ) → FullAt d → FullAt (suc d)
full_by d one ((k.Symbol s.OpenAttribute, w) ∷ ts) rest h =
    let i = attributed_tree d full_port ts rest h in
    let x = one i.middle rest i.others in
    record {
      tree = record {
        attributes = i.instance ∷ x.tree.attributes;
        direction = x.tree.direction;
        net = x.tree.net;
        shape = x.tree.shape;
        name = x.tree.name;
        name_pos = x.tree.name_pos;
        value = x.tree.value;
      };
      same = i.same ∙ ap (onto (spell_instance i.instance)) x.same;
      formed =
          (All-cons IsInstance i.instance x.tree.attributes i.formed x.formed.0, x.formed.1, x.formed.2, x.formed.3);
    }
full_by d one ((k.Keyword word.Input, w) ∷ ts) rest h = behind_direction d dir.Input ts rest h
full_by d one ((k.Keyword word.Output, w) ∷ ts) rest h = behind_direction d dir.Output ts rest h
full_by d one [] rest h = apart h.0
full_by d one ((k.Symbol y, w) ∷ ts) rest h = absurd h
full_by d one ((k.Keyword y, w) ∷ ts) rest h = absurd h
full_by d one (t ∷ ts) rest h = absurd h

full_tree : (d : ℕ) → FullAt d
full_tree zero ts rest h = absurd h
full_tree (suc d) ts rest h = full_by d (full_tree d) ts rest h

record FoundPort (ts ks : List Kind) : Type 0 where
  tree : Port
  same : ts ≡ onto (spell_port tree) ks
  formed : IsPort tree

as_port : (ts ks : List Kind) → FoundFull ts ks → FoundPort ts ks
as_port ts ks x = record { tree = record { pos = nowhere; kind = p.Full x.tree }; same = x.same; formed = x.formed }

port_tree : (d : ℕ) (ts rest : List Named) → Derives d port ts rest → FoundPort (plain ts) (plain rest)
port_tree zero ts rest h = absurd h
port_tree (suc d) ((k.Name text, w) ∷ ts) rest (m, h, j) =
    let v = value_tree d ts m h in
    record {
      tree = record { pos = nowhere; kind = p.Short text v.tree };
      same = ap (λ u. k.Name text ∷ u) (v.same ∙ ap (λ r. onto (spell_value v.tree) (plain r)) j);
      formed = (w, v.formed);
    }
port_tree (suc d) [] rest h = apart h.0
port_tree (suc d) (t ∷ ts) rest h = as_port (plain (t ∷ ts)) (plain rest) (full_tree (suc d) (t ∷ ts) rest h)

ports_tail : (d : ℕ) (ts rest : List Named) → Derives (suc d) more_ports ts rest
    → Tail spell_port IsPort more_ports (k.Symbol s.CloseParen) d ts rest
ports_tail d ((k.Symbol s.Comma, w) ∷ ts) rest (m, h, others) =
    let x = port_tree d ts m h in
    goes_on x.tree m (ap (λ u. k.Symbol s.Comma ∷ u) x.same) x.formed (last_of d more_ports m rest others)
ports_tail d ((k.Symbol s.CloseParen, w) ∷ ts) rest h = closes (ap (λ r. k.Symbol s.CloseParen ∷ plain r) h)
ports_tail d [] rest h = apart h.0
ports_tail d ((k.Symbol y, w) ∷ ts) rest h = absurd h
ports_tail d (t ∷ ts) rest h = absurd h

pub record FoundPorts (ts ks : List Kind) : Type 0 where
  pub trees : List Port
  pub same : ts ≡ onto (between_commas spell_port trees) (k.Symbol s.CloseParen ∷ ks)
  pub formed : ArePorts trees

first_by : (d : ℕ) (t : Named) (ts rest : List Named) → Split d more_ports t ts rest (on_full_port t.0)
    → FoundPorts (plain (t ∷ ts)) (plain rest)
first_by d t ts rest f =
    let x = full_tree (suc d) (t ∷ ts) f.middle f.first in
    let others = tail_tree spell_port IsPort more_ports (k.Symbol s.CloseParen) ports_tail d f.middle rest f.others in
    let one : Port = record { pos = nowhere; kind = p.Full x.tree } in
    record {
      trees = one ∷ others.trees;
      same = x.same ∙ ap (onto (spell_port one)) others.same;
      formed = (tt, All-cons IsPort one others.trees x.formed others.formed);
    }

-- all ports, behind the opening bracket
pub ports_tree : (d : ℕ) (ts rest : List Named) → Derives d first_port ts rest → FoundPorts (plain ts) (plain rest)
ports_tree zero ts rest h = absurd h
ports_tree (suc d) ((k.Symbol s.CloseParen, w) ∷ ts) rest h =
    record { trees = []; same = ap (λ r. k.Symbol s.CloseParen ∷ plain r) h; formed = (tt, All-nil IsPort) }
ports_tree (suc d) [] rest h = apart h.0
ports_tree (suc d) ((k.Symbol y, w) ∷ ts) rest h =
    first_by d (k.Symbol y, w) ts rest (many_split d more_ports (k.Symbol y, w) ts rest (on_full_port (k.Symbol y)) h)
ports_tree (suc d) (t ∷ ts) rest h = first_by d t ts rest (many_split d more_ports t ts rest (on_full_port t.0) h)
