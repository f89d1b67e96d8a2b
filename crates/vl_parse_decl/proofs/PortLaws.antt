-- What is read of the parameters of a module's head, and what lists of them and of ports begin with.
use Rattle.std.proofs.Common.{◌≡◌, ℕ, suc, ◌-◌, ◌<◌, List, [], ◌∷◌, length, sym, ap, ◌∙◌, subst, true, refl}
use Rattle.std.specs.Prelude.{All, Ok, Err}
use Rattle.fv_text.specs.declared.kind.Kind.{Kind}
use Rattle.fv_text.specs.declared.kind.Kind.TheVariants as k
use Rattle.fv_text.specs.declared.symbol.Symbol.TheVariants as s
use Rattle.vl_tree.specs.declared.declaration.HeaderParameter.{HeaderParameter}
use Rattle.vl_tree.specs.declared.declaration.Port.{Port}
use Rattle.vl_tree.specs.DeclarationWellFormed.{AreSome, AreHeaderParameters, ArePorts, BeginsWithKeyword}
use Rattle.vl_tree.specs.DeclarationWellFormed.{BeginsWithFull, IsHeaderParameter, IsPort, IsFull}
use Rattle.vl_parse_grammar.specs.Machine as machine
use Rattle.vl_parse_grammar.specs.Machine.{syntax, deep, then}
use Rattle.vl_parse_grammar.specs.Grammar.{Outcome, read, read_all, sign, name, expr, shape, parameter}
use Rattle.vl_parse_grammar.specs.Grammar.{header_parameters}
use Rattle.vl_parse_grammar.specs.Grammar.{more_header_parameters, the_parameter, full_port, port}
use Rattle.vl_parse_decl.specs.Lists.{BeginsWith}
use Rattle.vl_parse_decl.specs.Tails.{parameters_all, more_ports_all}
use Rattle.vl_parse_decl.proofs.DeclarationRows.{header_row, header_row_deep, header_wrong}

then_two : (a : Outcome) (f g : List Kind → Outcome) → then a (λ r. then (f r) g) ≡ then (then a f) g
then_two (Ok r) f g = refl
then_two (Err e) f g = refl

then_five : (a : Outcome) (f g h i m : List Kind → Outcome)
    → then a (λ r. then (f r) (λ q. then (g q) (λ u. then (h u) (λ v. then (i v) m))))
    ≡ then (then a (λ r. then (f r) (λ q. then (g q) (λ u. then (h u) i)))) m
then_five (Ok a) f g h i m = four (f a)
  where
    four : (b : Outcome) → then b (λ q. then (g q) (λ u. then (h u) (λ v. then (i v) m))) ≡
        then (then b (λ q. then (g q) (λ u. then (h u) i))) m
    four (Ok b) = three (g b)
      where
        three : (c : Outcome) → then c (λ u. then (h u) (λ v. then (i v) m)) ≡ then (then c (λ u. then (h u) i)) m
        three (Ok c) = then_two (h c) i m
        three (Err e) = refl
    four (Err e) = refl
then_five (Err e) f g h i m = refl

-- the first parameter, and what stands behind it
pub header_parts : (n : ℕ) (ts : List Kind) → 0 < n → read header_parameters n (k.Symbol s.OpenParen ∷ ts)
    ≡ then (then (read the_parameter (n - 1) ts) (λ r. read_all parameter (n - 1) r))
    (λ q. read more_header_parameters (n - 1) q)
header_parts n ts l =
    header_row n ts l
    ∙ then_five (read the_parameter (n - 1) ts) (λ r. read shape (n - 1) r) (λ q. read name (n - 1) q)
    (λ u. read (sign s.Equal) (n - 1) u)
    (λ v. read expr (n - 1) v) (λ x. read more_header_parameters (n - 1) x)
    ∙ ap (λ f. then (then (read the_parameter (n - 1) ts) f) (λ q. read more_header_parameters (n - 1) q))
    (λ i r. sym (parameters_all (n - 1) r) i)

pub full_port_end : (n : ℕ) → read full_port n [] ≡ Err (syntax 0)
unfolding read machine.reads
full_port_end n = refl

port_end : (n : ℕ) → read port n [] ≡ Err (syntax 0)
unfolding read machine.reads
port_end n = refl

pub ports_end : (n : ℕ) → read_all (port ∷ []) n [] ≡ Err (syntax 0)
ports_end n = more_ports_all n [] ∙ port_end n

pub with_keyword : (x : HeaderParameter) (xs : List HeaderParameter) → BeginsWith x xs → x.keyword ≡ true
    → AreSome IsHeaderParameter xs → AreHeaderParameters xs
with_keyword x [] b h i = absurd b
with_keyword x (y ∷ ys) b h i = (ap (λ z. z.keyword) b ∙ h, i.1)

pub with_full : (x : Port) (xs : List Port) → BeginsWith x xs → IsFull x.kind → AreSome IsPort xs → ArePorts xs
with_full x [] b h i = absurd b
with_full x (y ∷ ys) b h i = (subst (λ z. IsFull z.kind) (sym b) h, i.1)

pub ruleset of_header = (header_parts, header_row_deep, header_wrong)

pub ruleset of_ports = (full_port_end, ports_end)

pub ruleset port_laws = (with_keyword, with_full)
