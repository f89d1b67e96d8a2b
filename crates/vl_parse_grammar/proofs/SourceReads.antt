-- What well formed modules and sources spell is read.
use Rattle.std.proofs.Common.{◌≡◌, true, List, [], ◌∷◌, ◌++◌, Option, Some, None, refl, ap, ◌∙◌}
use Rattle.std.specs.Prelude.{All}
use Rattle.std.proofs.lemmas.List.Elements.{All-head, All-tail}
use Rattle.fv_text.specs.declared.keyword.Keyword.TheVariants as word
use Rattle.fv_text.specs.declared.kind.Kind.{Kind}
use Rattle.fv_text.specs.declared.kind.Kind.TheVariants as k
use Rattle.fv_text.specs.declared.pos.Pos.{Pos}
use Rattle.fv_text.specs.declared.symbol.Symbol.TheVariants as s
use Rattle.vl_tree.specs.declared.declaration.HeaderParameter.{HeaderParameter}
use Rattle.vl_tree.specs.declared.declaration.Port.{Port}
use Rattle.vl_tree.specs.declared.source.Module.{Module}
use Rattle.vl_tree.specs.declared.source.Source.{Source}
use Rattle.vl_tree.specs.DeclarationSpelling.{spell_header_parameter, spell_if, spell_parameter}
use Rattle.vl_tree.specs.DeclarationWellFormed.{AreHeaderParameters, IsHeaderParameter}
use Rattle.vl_tree.specs.Item.{items}
use Rattle.vl_tree.specs.ItemSpelling.{spell_all, spell_parameters, spell_ports, spell_module, spell_modules}
use Rattle.vl_tree.specs.ItemSpelling.{spell_source}
use Rattle.vl_tree.specs.Phrase.{between_commas, with_commas, each}
use Rattle.vl_tree.specs.WellFormed.{AreOptionalParameters, AreOptionalPorts, IsModule, IsSource}
use Rattle.vl_parse_grammar.specs.Grammar as g
use Rattle.vl_parse_grammar.specs.Grammar.{
  Rule,
  endmodule,
  sign,
  parameter,
  optional_parameter,
  the_parameter,
  first_port,
  modules,
  module_head,
  module_ports,
  header_parameters,
  more_header_parameters,
  accepts,
}
use Rattle.vl_parse_grammar.proofs.Onto.{onto}
use Rattle.vl_parse_grammar.proofs.DeclarationReads.{Behind, tail_read, parameter_read, header_parameter_read}
use Rattle.vl_parse_grammar.proofs.DeclarationReads.{ports_read}
use Rattle.vl_parse_grammar.proofs.ItemReads.{items_read}

parameters_read : (vs : List HeaderParameter) (xs : List Rule) (ts : List Kind) → AreHeaderParameters vs
    → accepts (header_parameters ∷ xs)
    (k.Symbol s.OpenParen ∷ onto (between_commas spell_header_parameter vs) (k.Symbol s.CloseParen ∷ ts))
    ≡ accepts xs ts
parameters_read [] xs ts w = absurd w.0
parameters_read (x ∷ vs) xs ts w =
    ap (λ b. accepts (the_parameter ∷ parameter ++ more_header_parameters ∷ xs)
    (onto (spell_if b word.Parameter) (onto (spell_parameter x.parameter)
    (onto (with_commas spell_header_parameter vs) (k.Symbol s.CloseParen ∷ ts))))) w.0
    ∙ parameter_read x.parameter (more_header_parameters ∷ xs)
    (onto (with_commas spell_header_parameter vs) (k.Symbol s.CloseParen ∷ ts))
    (All-head IsHeaderParameter x vs w.1) (behind vs ts)
    ∙ tail_read spell_header_parameter IsHeaderParameter more_header_parameters (optional_parameter ∷ parameter) []
    (k.Symbol s.CloseParen)
    (λ ys us. refl) (λ ys us. refl) (λ us. (refl, refl, refl, refl)) header_parameter_read vs xs ts
    (All-tail IsHeaderParameter x vs w.1)
  where
    behind : (vs : List HeaderParameter) (ts : List Kind)
        → Behind (onto (with_commas spell_header_parameter vs) (k.Symbol s.CloseParen ∷ ts))
    behind [] ts = (refl, refl, refl, refl)
    behind (y ∷ vs) ts = (refl, refl, refl, refl)

module_ports_read : (o : Option (List Port)) (xs : List Rule) (ts : List Kind) → AreOptionalPorts o
    → accepts (module_ports ∷ xs) (onto (spell_ports o) (k.Symbol s.Semicolon ∷ ts)) ≡ accepts xs ts
module_ports_read None xs ts w = refl
module_ports_read (Some vs) xs ts w = ports_read vs (sign s.Semicolon ∷ xs) (k.Symbol s.Semicolon ∷ ts) w

module_head_read : (o : Option (List HeaderParameter)) (q : Option (List Port)) (xs : List Rule) (ts : List Kind)
    → AreOptionalParameters o → AreOptionalPorts q
    → accepts (module_head ∷ xs) (onto (spell_parameters o) (onto (spell_ports q) (k.Symbol s.Semicolon ∷ ts)))
    ≡ accepts xs ts
module_head_read None None xs ts w v = refl
module_head_read None (Some vs) xs ts w v = ports_read vs (sign s.Semicolon ∷ xs) (k.Symbol s.Semicolon ∷ ts) v
module_head_read (Some vs) q xs ts w v =
    parameters_read vs (module_ports ∷ xs) (onto (spell_ports q) (k.Symbol s.Semicolon ∷ ts)) w
    ∙ module_ports_read q xs ts v

module_read : (m : Module) (xs : List Rule) (ts : List Kind) → IsModule m
    → accepts (modules ∷ xs) (onto (spell_module m) ts) ≡ accepts (modules ∷ xs) ts
module_read m xs ts w =
    module_head_read m.parameters m.ports (g.items endmodule ∷ modules ∷ xs)
    (onto (spell_all (items m.items)) (k.Keyword word.Endmodule ∷ ts)) w.1 w.2
    ∙ items_read (items m.items) endmodule (modules ∷ xs) ts w.3 w.4

modules_read : (ms : List Module) → All IsModule ms → accepts (modules ∷ []) (onto (each spell_module ms) []) ≡ true
modules_read [] w = refl
modules_read (m ∷ ms) w =
    module_read m [] (onto (each spell_module ms) []) (All-head IsModule m ms w)
    ∙ modules_read ms (All-tail IsModule m ms w)

source_by : (p : Pos) (ms : List Module) → All IsModule ms
    → accepts (modules ∷ []) (onto (spell_modules p ms) []) ≡ true
source_by p [] w = refl
source_by p (m ∷ ms) w = modules_read (m ∷ ms) w

pub source_reads : (x : Source) → IsSource x → accepts (modules ∷ []) (onto (spell_source x) []) ≡ true
source_reads x w = source_by x.pos x.modules w.1
