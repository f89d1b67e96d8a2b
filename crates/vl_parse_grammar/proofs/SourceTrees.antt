-- A text is accepted exactly where a well formed tree spells it.
use Rattle.std.proofs.Common.{◌≡◌, ℕ, zero, suc, true, List, [], ◌∷◌, length, Option, Some, None, refl, sym, ap, ◌∙◌}
use Rattle.std.proofs.Common.{subst, arith}
use Rattle.std.specs.Prelude.{All}
use Rattle.std.proofs.lemmas.List.Elements.{All-cons, All-nil}
use Rattle.fv_text.specs.declared.keyword.Keyword.TheVariants as word
use Rattle.fv_text.specs.declared.kind.Kind.{Kind}
use Rattle.fv_text.specs.declared.kind.Kind.TheVariants as k
use Rattle.fv_text.specs.declared.symbol.Symbol.TheVariants as s
use Rattle.vl_tree.specs.declared.declaration.HeaderParameter.{HeaderParameter}
use Rattle.vl_tree.specs.declared.declaration.Port.{Port}
use Rattle.vl_tree.specs.declared.source.Module.{Module}
use Rattle.vl_tree.specs.declared.source.Source.{Source}
use Rattle.vl_tree.specs.DeclarationSpelling.{spell_header_parameter, spell_port}
use Rattle.vl_tree.specs.Item.{Item, Items, no_items, more_items, items}
use Rattle.vl_tree.specs.ItemSpelling.{spell_all, spell_parameters, spell_ports, spell_module, spell_source}
use Rattle.vl_tree.specs.Phrase.{between_commas, each}
use Rattle.vl_tree.specs.WellFormed.{AreBalanced, AreWellFormed, AreOptionalParameters, AreOptionalPorts, IsModule}
use Rattle.vl_tree.specs.WellFormed.{IsSource}
use Rattle.vl_parse_grammar.specs.Grammar.{Rule, endmodule, sign, first_port, modules, module_head, module_ports}
use Rattle.vl_parse_grammar.specs.Grammar as g
use Rattle.vl_parse_grammar.proofs.Named.{Named, on, Derives, plain, accepts}
use Rattle.vl_parse_grammar.proofs.Onto.{onto}
use Rattle.vl_parse_grammar.proofs.Runs as runs
use Rattle.vl_parse_grammar.proofs.Steps.{apart}
use Rattle.vl_parse_grammar.proofs.Spine.{nowhere}
use Rattle.vl_parse_grammar.proofs.TokenTrees.{sign_tree, name_tree}
use Rattle.vl_parse_grammar.proofs.DeclarationTrees.{Turn, header_parameters_tree}
use Rattle.vl_parse_grammar.proofs.PortTrees.{ports_tree}
use Rattle.vl_parse_grammar.proofs.ItemTrees.{items_tree}

record FoundPorts (ts ks : List Kind) : Type 0 where
  tree : Option (List Port)
  same : ts ≡ onto (spell_ports tree) (k.Symbol s.Semicolon ∷ ks)
  formed : AreOptionalPorts tree

in_ports : (d : ℕ) (ts rest : List Named) → Turn d (first_port ∷ sign s.Semicolon ∷ []) ts rest
    → FoundPorts (k.Symbol s.OpenParen ∷ plain ts) (plain rest)
in_ports d ts rest (m, h, (m2, i, j)) =
    let xs = ports_tree d ts m h in
    record {
      tree = Some xs.trees;
      same = ap (λ u. k.Symbol s.OpenParen ∷ u)
          (xs.same ∙ ap (λ u. onto (between_commas spell_port xs.trees) (k.Symbol s.CloseParen ∷ u))
          (sign_tree d s.Semicolon m m2 i ∙ ap (λ r. k.Symbol s.Semicolon ∷ plain r) j));
      formed = xs.formed;
    }

module_ports_tree : (d : ℕ) (ts rest : List Named) → Derives d module_ports ts rest → FoundPorts (plain ts) (plain rest)
module_ports_tree zero ts rest h = absurd h
module_ports_tree (suc d) ((k.Symbol s.OpenParen, w) ∷ ts) rest h = in_ports d ts rest h
module_ports_tree (suc d) ((k.Symbol s.Semicolon, w) ∷ ts) rest h =
    record { tree = None; same = ap (λ r. k.Symbol s.Semicolon ∷ plain r) h; formed = tt }
module_ports_tree (suc d) [] rest h = apart h.0
module_ports_tree (suc d) ((k.Symbol y, w) ∷ ts) rest h = absurd h
module_ports_tree (suc d) (t ∷ ts) rest h = absurd h

record FoundHead (ts ks : List Kind) : Type 0 where
  parameters : Option (List HeaderParameter)
  ports : Option (List Port)
  same : ts ≡ onto (spell_parameters parameters) (onto (spell_ports ports) (k.Symbol s.Semicolon ∷ ks))
  formed : AreOptionalParameters parameters × AreOptionalPorts ports

module_head_tree : (d : ℕ) (ts rest : List Named) → Derives d module_head ts rest → FoundHead (plain ts) (plain rest)
module_head_tree zero ts rest h = absurd h
module_head_tree (suc d) ((k.Symbol s.Hash, w) ∷ ts) rest (m, h, (m2, i, j)) =
    let xs = header_parameters_tree d ts m h in
    let ys = module_ports_tree d m m2 i in
    record {
      parameters = Some xs.trees;
      ports = ys.tree;
      same = ap (λ u. k.Symbol s.Hash ∷ u) (xs.same
          ∙ ap (λ u. k.Symbol s.OpenParen ∷ onto (between_commas spell_header_parameter xs.trees)
          (k.Symbol s.CloseParen ∷ u))
          (ys.same ∙ ap (λ r. onto (spell_ports ys.tree) (k.Symbol s.Semicolon ∷ plain r)) j));
      formed = (xs.formed, ys.formed);
    }
module_head_tree (suc d) ((k.Symbol s.OpenParen, w) ∷ ts) rest h =
    (let ys = in_ports d ts rest h in record {
      parameters = None;
      ports = ys.tree;
      same = ys.same;
      formed = (tt, ys.formed);
    })
module_head_tree (suc d) ((k.Symbol s.Semicolon, w) ∷ ts) rest h =
    record { parameters = None; ports = None; same = ap (λ r. k.Symbol s.Semicolon ∷ plain r) h; formed = (tt, tt) }
module_head_tree (suc d) [] rest h = apart h.0
module_head_tree (suc d) ((k.Symbol y, w) ∷ ts) rest h = absurd h
module_head_tree (suc d) (t ∷ ts) rest h = absurd h

abbrev list_of_items : Items → List Item
list_of_items no_items = []
list_of_items (more_items x xs) = x ∷ list_of_items xs

items_of_list : (xs : Items) → items (list_of_items xs) ≡ xs
items_of_list no_items = refl
items_of_list (more_items x xs) = ap (more_items x) (items_of_list xs)

record FoundModules (ts ks : List Kind) : Type 0 where
  trees : List Module
  same : ts ≡ onto (each spell_module trees) ks
  formed : All IsModule trees

modules_tree : (d : ℕ) (ts rest : List Named) → Derives d modules ts rest → FoundModules (plain ts) (plain rest)
modules_tree zero ts rest h = absurd h
modules_tree (suc d) ((k.Keyword word.Module, w) ∷ ts) rest (m, h, (m2, i, (m3, j, (m4, l, e)))) =
    let x = name_tree d ts m h in
    let head = module_head_tree d m m2 i in
    let body = items_tree d endmodule m2 m3 j in
    let others = modules_tree d m3 m4 l in
    let one : Module = record {
      pos = nowhere;
      name = x.text;
      parameters = head.parameters;
      ports = head.ports;
      items = list_of_items body.trees;
    } in
    record {
      trees = one ∷ others.trees;
      same = ap (λ u. k.Keyword word.Module ∷ u) (x.same ∙ ap (λ u. k.Name x.text ∷ u)
          (head.same ∙ ap (λ u. onto (spell_parameters head.parameters)
          (onto (spell_ports head.ports) (k.Symbol s.Semicolon ∷ u)))
          (body.same ∙ (λ v. onto (spell_all (sym (items_of_list body.trees) v)) (k.Keyword word.Endmodule ∷ plain m3))
          ∙ ap (λ u. onto (spell_all (items (list_of_items body.trees))) (k.Keyword word.Endmodule ∷ u))
          (others.same ∙ ap (λ r. onto (each spell_module others.trees) (plain r)) e))));
      formed = All-cons IsModule one others.trees (
        x.fine,
        head.formed.0,
        head.formed.1,
        subst AreBalanced (sym (items_of_list body.trees)) body.balanced,
        subst AreWellFormed (sym (items_of_list body.trees)) body.formed,
      ) others.formed;
    }
modules_tree (suc d) [] rest h = record { trees = []; same = ap plain (sym h.1); formed = All-nil IsModule }
modules_tree (suc d) ((k.Keyword y, w) ∷ ts) rest h = absurd h
modules_tree (suc d) (t ∷ ts) rest h = absurd h

pub record FoundSource (ks : List Kind) : Type 0 where
  pub tree : Source
  pub same : onto (spell_source tree) [] ≡ ks
  pub formed : IsSource tree

source_of : (ms : List Module) (ks : List Kind) → ks ≡ onto (each spell_module ms) [] → All IsModule ms → FoundSource ks
source_of [] ks e w = record { tree = record { pos = nowhere; modules = [] }; same = sym e; formed = (refl, w) }
source_of (m ∷ ms) ks e w = record { tree = record { pos = nowhere; modules = m ∷ ms }; same = sym e; formed = (tt, w) }

no_more : (ts : List Named) → accepts [] ts ≡ true → ts ≡ []
no_more [] h = refl
no_more (t ∷ ts) h = apart h

pub source_tree : (ts : List Named) → accepts (modules ∷ []) ts ≡ true → FoundSource (plain ts)
source_tree ts h =
    let (rest, first, on_end, less) = runs.read on g.ends (length ts) modules [] ts (omega arith) h in
    let x = modules_tree (suc (length ts)) ts rest first in
    source_of x.trees (plain ts) (x.same ∙ ap (λ r. onto (each spell_module x.trees) (plain r))
    (no_more rest on_end)) x.formed
