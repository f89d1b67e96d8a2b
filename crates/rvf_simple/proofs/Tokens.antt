-- Each node of a simple wrapper has a token of its own.
use Rattle.std.specs.Prelude.{◌≡◌, ℕ, ◌+◌, ◌≤◌, List, [], ◌∷◌, length, Option, None, Some}
use Rattle.std.proofs.Common.{ap, arith}
use Rattle.fv_text.specs.declared.kind.Kind.{Kind}
use Rattle.fv_text.specs.declared.pos.Pos.{Pos}
use Rattle.fv_text.specs.declared.token.Token.{Token}
use Rattle.vl_tree.specs.declared.declaration.FullPort.{FullPort}
use Rattle.vl_tree.specs.declared.declaration.Port.{Port}
use Rattle.vl_tree.specs.declared.declaration.PortKind.{PortKind}
use Rattle.vl_tree.specs.declared.declaration.PortKind.TheVariants.{Full, Short}
use Rattle.vl_tree.specs.declared.declaration.Range.{Range}
use Rattle.vl_tree.specs.declared.part.Assignment.{Assignment}
use Rattle.vl_tree.specs.declared.source.Module.{Module}
use Rattle.vl_tree.specs.declared.source.Source.{Source}
use Rattle.vl_tree.specs.DeclarationSpelling.{spell_optional_range, spell_port}
use Rattle.vl_tree.specs.Expr.{Expr, number, name, paren, unary, binary, conditional, cast, whole}
use Rattle.vl_tree.specs.ExprSpelling as expr
use Rattle.vl_tree.specs.Item.{Item, assign, items}
use Rattle.vl_tree.specs.ItemSpelling.{spell_all, spell_assignment, spell_modules, spell_ports, spell_source}
use Rattle.vl_tree.specs.Lval.{Lval, named}
use Rattle.vl_tree.specs.LvalSpelling as lval
use Rattle.vl_tree.specs.Phrase.{
  Phrase,
  nothing,
  token,
  operator,
  ◌▸◌,
  at,
  within,
  level,
  IsNext,
  Spells,
  between_commas,
  with_commas,
}
use Rattle.vl_mean.specs.Declarations.{full_ports, ports_of}
use Rattle.vl_mean.specs.FlatLaw.{nodes, target_nodes}
use Rattle.vl_mean.specs.Runs.{Each}
use Rattle.vl_mean.specs.Walk.{written_ports}
use Rattle.vl_elab_spec.specs.Counts.{assignment_nodes, range_nodes, value_nodes}
use Rattle.rvf_simple.specs.SimpleTrees.{IsNumberUpTo, IsSimple, IsSimpleAssignment, IsSimpleExpr, IsSimpleItem}
use Rattle.rvf_simple.specs.SimpleTrees.{IsSimpleKind, IsSimplePort, IsSimpleRange, IsSimpleTarget, items_nodes}
use Rattle.rvf_simple.specs.SimpleTrees.{ports_nodes, wrapper_nodes}

-- how many tokens spell a phrase
abbrev tokens : Phrase → ℕ
tokens nothing = 0
tokens (token kind) = 1
tokens (operator kind) = 1
tokens (a ▸ b) = tokens a + tokens b
tokens (at p a) = tokens a
tokens (within a) = tokens a
tokens (level a) = tokens a

one : (kind : Kind) (ts rest : List Token) → IsNext kind ts rest → length ts ≡ 1 + length rest
one kind [] rest h = absurd h
one kind (t ∷ ts) rest h = omega (arith, ap length h.1)

spelled : (a : Phrase) (ts rest : List Token) → Spells a ts rest → length ts ≡ tokens a + length rest
spelled nothing ts rest h = omega (arith, ap length h)
spelled (token kind) ts rest h = one kind ts rest h
spelled (operator kind) ts rest h = one kind ts rest h
spelled (a ▸ b) ts rest h = omega (arith, spelled a ts h.0 h.1, spelled b h.0 rest h.2)
spelled (at p a) ts rest h = spelled a ts rest h.1
spelled (within a) ts rest h = spelled a ts rest h
spelled (level a) ts rest h = spelled a ts rest h

-- ---- ports

bound_tokens : (most : ℕ) (e : Expr) → IsNumberUpTo most e → nodes e ≤ tokens (expr.spell e)
bound_tokens most (number p n) h = omega arith
bound_tokens most e h = absurd h

range_tokens : (r : Option Range) → IsSimpleRange r → range_nodes r ≤ tokens (spell_optional_range r)
range_tokens None h = omega arith
range_tokens (Some r) h = omega (arith, bound_tokens 127 r.left h.0, bound_tokens 0 r.right h.1)

port_tokens : (p : Pos) (q : FullPort) → IsSimplePort q
    → range_nodes q.shape.range + value_nodes q.value + 1
    ≤ tokens (spell_port (record { pos = p; kind = Full q }))
port_tokens p q h =
    let value : value_nodes q.value ≡ 0 = ap value_nodes h.no_value in
    omega (arith, range_tokens q.shape.range h.range, value)

-- with commas or without
record AreSpelled (n : ℕ) (behind all : Phrase) : Type 0 where
  more : n ≤ tokens behind
  first : n ≤ tokens all

ports_tokens : (last : Option FullPort) (ps : List Port) → Each (λ p. IsSimpleKind p.kind) ps
    → AreSpelled (ports_nodes (full_ports last ps)) (with_commas spell_port ps) (between_commas spell_port ps)
ports_tokens last [] h = record { more = omega arith; first = omega arith }
ports_tokens last (p ∷ ps) h = by p.pos p.kind h.0 (λ q. (ports_tokens (Some q) ps h.1).more)
  where
    by : (p : Pos) (kind : PortKind) → IsSimpleKind kind
        → ((q : FullPort) → ports_nodes (full_ports (Some q) ps) ≤ tokens (with_commas spell_port ps))
        → AreSpelled (ports_nodes (full_ports last ((record { pos = p; kind = kind }) ∷ ps)))
        (with_commas spell_port ((record { pos = p; kind = kind }) ∷ ps))
        (between_commas spell_port ((record { pos = p; kind = kind }) ∷ ps))
    by p (Full q) k rest =
        let here = port_tokens p q k in let behind = rest q in
        record { more = omega (arith, here, behind); first = omega (arith, here, behind) }
    by p (Short text value) k rest = absurd k

all_ports_tokens : (ports : Option (List Port)) → Each (λ p. IsSimpleKind p.kind) (written_ports ports)
    → ports_nodes (ports_of ports) ≤ tokens (spell_ports ports)
all_ports_tokens None h = omega arith
all_ports_tokens (Some ps) h = omega (arith, (ports_tokens None ps h).first)

-- ---- assignments

module _ (ps : List FullPort) where
  expr_tokens : (e : Expr) → IsSimpleExpr ps e → nodes e ≤ tokens (expr.spell e)
  expr_tokens (number p n) h = omega arith
  expr_tokens (name p text whole) h = omega arith
  expr_tokens (paren p x) h = omega (arith, expr_tokens x h)
  expr_tokens (unary p op x) h = omega (arith, expr_tokens x h)
  expr_tokens (binary p op x y) h = omega (arith, expr_tokens x h.1, expr_tokens y h.2)
  expr_tokens (conditional p c x y) h =
      omega (arith, expr_tokens c h.0, expr_tokens x h.1, expr_tokens y h.2)
  expr_tokens (cast p to x) h = omega (arith, expr_tokens x h)
  expr_tokens e h = absurd h

  target_tokens : (l : Lval) → IsSimpleTarget ps l → target_nodes l ≤ tokens (lval.spell l)
  target_tokens (named p text whole) h = omega arith
  target_tokens l h = absurd h

  assignments_tokens : (xs : List Assignment) → Each (IsSimpleAssignment ps) xs
      → AreSpelled (assignment_nodes xs) (with_commas spell_assignment xs) (between_commas spell_assignment xs)
  assignments_tokens [] h = record { more = omega arith; first = omega arith }
  assignments_tokens (x ∷ xs) h =
      let target = target_tokens x.target h.0.target in let value = expr_tokens x.value h.0.value in
      let rest = (assignments_tokens xs h.1).more in
      record { more = omega (arith, target, value, rest); first = omega (arith, target, value, rest) }

  items_tokens : (xs : List Item) → Each (IsSimpleItem ps) xs → items_nodes xs ≤ tokens (spell_all (items xs))
  items_tokens [] h = omega arith
  items_tokens (assign attrs p ys ∷ xs) h =
      omega (arith, (assignments_tokens ys h.0).first, items_tokens xs h.1)
  items_tokens (x ∷ xs) h = absurd h.0

-- ---- the whole

modules_tokens : (p : Pos) (ms : List Module) → IsSimple ms → wrapper_nodes ms ≤ tokens (spell_modules p ms)
modules_tokens p [] h = absurd h
modules_tokens p (m ∷ []) h =
    omega (arith, all_ports_tokens m.ports h.ports, items_tokens (ports_of m.ports) m.items h.items)
modules_tokens p (m ∷ n ∷ ms) h = absurd h

-- A simple wrapper has no more nodes than its text has tokens.
pub simple_nodes : (tree : Source) (ts : List Token) → Spells (spell_source tree) ts [] → IsSimple tree.modules
    → wrapper_nodes tree.modules ≤ length ts
simple_nodes tree ts h simple =
    omega (arith, spelled (spell_source tree) ts [] h, modules_tokens tree.pos tree.modules simple)
