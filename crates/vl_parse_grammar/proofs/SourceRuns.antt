-- Runs over well formed sources are cut off where a construct too many opens.
use Rattle.std.proofs.Common.{◌≡◌, ℕ, List, [], ◌∷◌, Option, Some, None, refl, sym, ap, ◌∙◌}
use Rattle.std.specs.Prelude.{All, Ok}
use Rattle.std.proofs.lemmas.List.Elements.{All-head, All-tail}
use Rattle.fv_text.specs.declared.keyword.Keyword.TheVariants as word
use Rattle.fv_text.specs.declared.kind.Kind.{Kind}
use Rattle.fv_text.specs.declared.kind.Kind.TheVariants as k
use Rattle.fv_text.specs.declared.pos.Pos.{Pos}
use Rattle.fv_text.specs.declared.symbol.Symbol.TheVariants as s
use Rattle.vl_tree.specs.declared.declaration.HeaderParameter.{HeaderParameter}
use Rattle.vl_tree.specs.declared.declaration.Port.{Port}
use Rattle.vl_tree.specs.declared.source.Module.{Module}
use Rattle.vl_tree.specs.declared.source.Source.{Source}
use Rattle.vl_tree.specs.DeclarationSpelling.{spell_header_parameter, spell_if, spell_parameter, spell_port}
use Rattle.vl_tree.specs.DeclarationWellFormed.{AreHeaderParameters, IsHeaderParameter}
use Rattle.vl_tree.specs.Item.{items}
use Rattle.vl_tree.specs.ItemSpelling.{spell_all, spell_parameters, spell_ports, spell_module, spell_modules}
use Rattle.vl_tree.specs.ItemSpelling.{spell_source}
use Rattle.vl_tree.specs.Phrase.{Phrase, ◌▸◌, parens, between_commas, with_commas, each}
use Rattle.vl_tree.specs.Phrase as phrase
use Rattle.vl_tree.specs.WellFormed.{AreOptionalParameters, AreOptionalPorts, IsModule, IsSource}
use Rattle.vl_parse_grammar.specs.Machine.{Row, left}
use Rattle.vl_parse_grammar.specs.Grammar as g
use Rattle.vl_parse_grammar.specs.Grammar.{
  Rule,
  endmodule,
  sign,
  the_parameter,
  first_port,
  modules,
  module_head,
  module_ports,
  header_parameters,
  more_header_parameters,
}
use Rattle.vl_parse_grammar.proofs.Onto.{onto}
use Rattle.vl_parse_grammar.proofs.DeclarationReads.{Behind}
use Rattle.vl_parse_grammar.proofs.Measured.{Ran, run, open_after, measured, opened_run, shifted}
use Rattle.vl_parse_grammar.proofs.DeclarationRuns.{behind, tail_run, parameter_row, header_row, parameter_run}
use Rattle.vl_parse_grammar.proofs.DeclarationRuns.{parameter_closed, header_run, header_closed, ports_run}
use Rattle.vl_parse_grammar.proofs.PartRuns.{items_closed}
use Rattle.vl_parse_grammar.proofs.ItemRuns.{items_run}

headers_by : (x : HeaderParameter) (vs : List HeaderParameter) (room : ℕ) (xs : Row Rule) (ts : List Kind)
    → AreHeaderParameters (x ∷ vs)
    → run ((the_parameter, room) ∷ parameter_row room ((more_header_parameters, room) ∷ xs))
    (onto (between_commas spell_header_parameter (x ∷ vs)) (k.Symbol s.CloseParen ∷ ts))
    ≡ measured (between_commas spell_header_parameter (x ∷ vs)) room 0 (k.Symbol s.CloseParen ∷ ts) (run xs ts)
headers_by x vs room xs ts w =
    ap (λ b. run ((the_parameter, room) ∷ parameter_row room ((more_header_parameters, room) ∷ xs))
    (onto (spell_if b word.Parameter) (onto (spell_parameter x.parameter)
    (onto (with_commas spell_header_parameter vs) (k.Symbol s.CloseParen ∷ ts))))) w.0
    ∙ parameter_run x.parameter room ((more_header_parameters, room) ∷ xs)
    (onto (with_commas spell_header_parameter vs) (k.Symbol s.CloseParen ∷ ts))
    (All-head IsHeaderParameter x vs w.1) (ended vs ts)
    ∙ ap (measured (spell_parameter x.parameter) room 0
    (onto (with_commas spell_header_parameter vs) (k.Symbol s.CloseParen ∷ ts)))
    (tail_run spell_header_parameter IsHeaderParameter more_header_parameters header_row (λ n ys. ys)
    (k.Symbol s.CloseParen)
    (λ n ys us. refl) (λ n ys us. refl) (λ us. (refl, refl, refl, refl)) header_closed header_run vs room xs ts
    (All-tail IsHeaderParameter x vs w.1))
    ∙ behind (spell_parameter x.parameter) (with_commas spell_header_parameter vs) room (k.Symbol s.CloseParen ∷ ts)
    (run xs ts) (parameter_closed x.parameter 0)
    ∙ ap (λ b. measured ((spell_if b word.Parameter ▸ spell_parameter x.parameter) ▸ with_commas
    spell_header_parameter vs) room 0 (k.Symbol s.CloseParen ∷ ts) (run xs ts))
    (sym w.0)
  where
    ended : (vs : List HeaderParameter) (ts : List Kind)
        → Behind (onto (with_commas spell_header_parameter vs) (k.Symbol s.CloseParen ∷ ts))
    ended [] ts = (refl, refl, refl, refl)
    ended (y ∷ vs) ts = (refl, refl, refl, refl)

headers_run : (vs : List HeaderParameter) (room : ℕ) (xs : Row Rule) (ts : List Kind) → AreHeaderParameters vs
    → run ((header_parameters, room) ∷ xs) (k.Symbol s.OpenParen
    ∷ onto (between_commas spell_header_parameter vs) (k.Symbol s.CloseParen ∷ ts))
    ≡ measured (parens (between_commas spell_header_parameter vs)) room 0 ts (run xs ts)
headers_run [] room xs ts w = absurd w.0
headers_run (x ∷ vs) room xs ts w =
    opened_run 1 room ((the_parameter, left 1 room)
    ∷ parameter_row (left 1 room) ((more_header_parameters, left 1 room) ∷ xs))
    (onto (between_commas spell_header_parameter (x ∷ vs)) (k.Symbol s.CloseParen ∷ ts))
    (measured (between_commas spell_header_parameter (x ∷ vs)) room 1 (k.Symbol s.CloseParen ∷ ts) (run xs ts))
    (λ e. headers_by x vs (left 1 room) xs ts w
    ∙ shifted (between_commas spell_header_parameter (x ∷ vs)) 1 room (k.Symbol s.CloseParen ∷ ts) (run xs ts) e)

module_ports_run : (o : Option (List Port)) (room : ℕ) (xs : Row Rule) (ts : List Kind) → AreOptionalPorts o
    → run ((module_ports, room) ∷ xs) (onto (spell_ports o) (k.Symbol s.Semicolon ∷ ts))
    ≡ measured (spell_ports o) room 0 (k.Symbol s.Semicolon ∷ ts) (run xs ts)
module_ports_run None room xs ts w = refl
module_ports_run (Some vs) room xs ts w =
    opened_run 1 room ((first_port, left 1 room) ∷ (sign s.Semicolon, room) ∷ xs)
    (onto (between_commas spell_port vs) (k.Symbol s.CloseParen ∷ k.Symbol s.Semicolon ∷ ts))
    (measured (between_commas spell_port vs) room 1 (k.Symbol s.CloseParen ∷ k.Symbol s.Semicolon ∷ ts) (run xs ts))
    (λ e. ports_run vs (left 1 room) ((sign s.Semicolon, room) ∷ xs) (k.Symbol s.Semicolon ∷ ts) w
    ∙ shifted (between_commas spell_port vs) 1 room (k.Symbol s.CloseParen ∷ k.Symbol s.Semicolon ∷ ts) (run xs ts) e)

parameters_closed : (o : Option (List HeaderParameter)) (m : ℕ) → open_after (spell_parameters o) m ≡ m
parameters_closed None m = refl
parameters_closed (Some vs) m = refl

ports_closed : (o : Option (List Port)) (m : ℕ) → open_after (spell_ports o) m ≡ m
ports_closed None m = refl
ports_closed (Some vs) m = refl

module_head_run : (o : Option (List HeaderParameter)) (q : Option (List Port)) (room : ℕ) (xs : Row Rule)
    (ts : List Kind) (b : Phrase)
    (out : Ran) → AreOptionalParameters o → AreOptionalPorts q → run xs (onto b ts) ≡ measured b room 0 ts out
    → run ((module_head, room) ∷ xs) (onto (spell_parameters o)
    (onto (spell_ports q) (k.Symbol s.Semicolon ∷ onto b ts)))
    ≡ measured (spell_parameters o ▸ spell_ports q ▸ phrase.sign s.Semicolon ▸ b) room 0 ts out
module_head_run None None room xs ts b out w v h = h
module_head_run None (Some vs) room xs ts b out w v h =
    opened_run 1 room ((first_port, left 1 room) ∷ (sign s.Semicolon, room) ∷ xs)
    (onto (between_commas spell_port vs) (k.Symbol s.CloseParen ∷ k.Symbol s.Semicolon ∷ onto b ts))
    (measured (between_commas spell_port vs) room 1 (k.Symbol s.CloseParen ∷ k.Symbol s.Semicolon ∷ onto b ts)
    (measured b room 0 ts out))
    (λ e. ports_run vs (left 1 room) ((sign s.Semicolon, room) ∷ xs) (k.Symbol s.Semicolon ∷ onto b ts) v
    ∙ ap (measured (between_commas spell_port vs) (left 1 room) 0
    (k.Symbol s.CloseParen ∷ k.Symbol s.Semicolon ∷ onto b ts)) h
    ∙ shifted (between_commas spell_port vs) 1 room (k.Symbol s.CloseParen ∷ k.Symbol s.Semicolon ∷ onto b ts)
    (measured b room 0 ts out) e)
module_head_run (Some vs) q room xs ts b out w v h =
    headers_run vs room ((module_ports, room) ∷ xs) (onto (spell_ports q) (k.Symbol s.Semicolon ∷ onto b ts)) w
    ∙ ap (measured (parens (between_commas spell_header_parameter vs)) room 0
    (onto (spell_ports q) (k.Symbol s.Semicolon ∷ onto b ts)))
    (module_ports_run q room xs (onto b ts) v
    ∙ ap (measured (spell_ports q) room 0 (k.Symbol s.Semicolon ∷ onto b ts)) h
    ∙ behind (spell_ports q) (phrase.sign s.Semicolon ▸ b) room ts out (ports_closed q 0))

module_closed : (m : Module) (n : ℕ) → open_after (spell_module m) n ≡ n
module_closed m n =
    items_closed (items m.items) (open_after (spell_ports m.ports) (open_after (spell_parameters m.parameters) n))
    ∙ ports_closed m.ports (open_after (spell_parameters m.parameters) n) ∙ parameters_closed m.parameters n

module_run : (m : Module) (room : ℕ) (xs : Row Rule) (ts : List Kind) → IsModule m
    → run ((modules, room) ∷ xs) (onto (spell_module m) ts)
    ≡ measured (spell_module m) room 0 ts (run ((modules, room) ∷ xs) ts)
module_run m room xs ts w =
    module_head_run m.parameters m.ports room ((g.items endmodule, room) ∷ (modules, room) ∷ xs) ts
    (spell_all (items m.items) ▸ phrase.word word.Endmodule)
    (run ((modules, room) ∷ xs) ts) w.1 w.2 (items_run (items m.items) endmodule room ((modules, room) ∷ xs) ts w.3 w.4)

modules_run : (ms : List Module) (room : ℕ) → All IsModule ms
    → run ((modules, room) ∷ []) (onto (each spell_module ms) []) ≡ measured (each spell_module ms) room 0 [] (Ok tt)
modules_run [] room w = refl
modules_run (m ∷ ms) room w =
    module_run m room [] (onto (each spell_module ms) []) (All-head IsModule m ms w)
    ∙ ap (measured (spell_module m) room 0 (onto (each spell_module ms) []))
    (modules_run ms room (All-tail IsModule m ms w))
    ∙ behind (spell_module m) (each spell_module ms) room [] (Ok tt) (module_closed m 0)

source_by : (p : Pos) (ms : List Module) (room : ℕ) → All IsModule ms
    → run ((modules, room) ∷ []) (onto (spell_modules p ms) []) ≡ measured (spell_modules p ms) room 0 [] (Ok tt)
source_by p [] room w = refl
source_by p (m ∷ ms) room w = modules_run (m ∷ ms) room w

pub source_runs : (x : Source) (room : ℕ) → IsSource x
    → run ((modules, room) ∷ []) (onto (spell_source x) []) ≡ measured (spell_source x) room 0 [] (Ok tt)
source_runs x room w = source_by x.pos x.modules room w.1
