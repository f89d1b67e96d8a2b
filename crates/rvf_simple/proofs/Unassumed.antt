-- A simple wrapper's text has no `always`, so no assumption was put into it.
use Rattle.std.specs.Prelude.{◌≡◌, refl, ℕ, ◌+◌, List, [], ◌∷◌, ◌++◌, Bool, true, false, Option}
use Rattle.std.specs.Prelude.{None, Some}
use Rattle.std.proofs.Common.{ap, arith}
use Rattle.fv_text.specs.declared.keyword.Keyword.TheVariants as w
use Rattle.fv_text.specs.declared.kind.Kind.{Kind}
use Rattle.fv_text.specs.declared.kind.Kind.TheVariants as k
use Rattle.fv_text.specs.declared.pos.Pos.{Pos}
use Rattle.fv_text.specs.declared.token.Token.{Token}
use Rattle.vl_tree.specs.declared.attribute.Attribute.{Attribute}
use Rattle.vl_tree.specs.declared.attribute.AttributeInstance.{AttributeInstance}
use Rattle.vl_tree.specs.declared.declaration.Direction.{Direction}
use Rattle.vl_tree.specs.declared.declaration.Direction.TheVariants.{Input, Output}
use Rattle.vl_tree.specs.declared.declaration.FullPort.{FullPort}
use Rattle.vl_tree.specs.declared.declaration.NetKind.{NetKind}
use Rattle.vl_tree.specs.declared.declaration.NetKind.TheVariants.{Reg, Wire}
use Rattle.vl_tree.specs.declared.declaration.Port.{Port}
use Rattle.vl_tree.specs.declared.declaration.PortKind.{PortKind}
use Rattle.vl_tree.specs.declared.declaration.PortKind.TheVariants.{Full, Short}
use Rattle.vl_tree.specs.declared.declaration.Range.{Range}
use Rattle.vl_tree.specs.declared.declaration.Shape.{Shape}
use Rattle.vl_tree.specs.declared.part.Assignment.{Assignment}
use Rattle.vl_tree.specs.declared.source.Module.{Module}
use Rattle.vl_tree.specs.declared.source.Source.{Source}
use Rattle.vl_tree.specs.DeclarationSpelling.{direction_word, spell_attribute, spell_attributes, spell_full_port, spell_if}
use Rattle.vl_tree.specs.DeclarationSpelling.{spell_instance, spell_net, spell_optional_range, spell_port}
use Rattle.vl_tree.specs.DeclarationSpelling.{spell_port_kind, spell_shape}
use Rattle.vl_tree.specs.Expr.{Expr, Exprs, Selects, number, name, paren, unary, binary, conditional, concat, repeat, cast}
use Rattle.vl_tree.specs.Expr.{none, more, whole, bit, part, indexed}
use Rattle.vl_tree.specs.ExprSpelling as expr
use Rattle.vl_tree.specs.Item.{Item, assign, items}
use Rattle.vl_tree.specs.ItemSpelling.{spell_all, spell_assignment, spell_modules, spell_parameters, spell_ports}
use Rattle.vl_tree.specs.ItemSpelling.{spell_source}
use Rattle.vl_tree.specs.Lval.{Lval, Lvals, named, joined, no_lvals, more_lvals}
use Rattle.vl_tree.specs.LvalSpelling as lval
use Rattle.vl_tree.specs.Phrase.{
  Phrase,
  nothing,
  token,
  operator,
  ◌▸◌,
  at,
  within,
  level,
  word,
  each,
  IsNext,
  Spells,
  between_commas,
  with_commas,
}
use Rattle.vl_mean.specs.Declarations.{ports_of}
use Rattle.vl_mean.specs.Runs.{Each}
use Rattle.rvf_simple.specs.SimpleTrees.{IsSimple, IsSimpleItem}

-- ---- how many tokens are `always`

abbrev is_always : Kind → ℕ
is_always (k.Keyword w.Always) = 1
is_always kind = 0

abbrev pub many : List Token → ℕ
many [] = 0
many (t ∷ ts) = is_always t.kind + many ts

pub many_both : (ts us : List Token) → many (ts ++ us) ≡ many ts + many us
many_both [] us = omega arith
many_both (t ∷ ts) us = omega (arith, many_both ts us)

abbrev in_phrase : Phrase → ℕ
in_phrase nothing = 0
in_phrase (token kind) = is_always kind
in_phrase (operator kind) = is_always kind
in_phrase (a ▸ b) = in_phrase a + in_phrase b
in_phrase (at p a) = in_phrase a
in_phrase (within a) = in_phrase a
in_phrase (level a) = in_phrase a

one : (kind : Kind) (ts rest : List Token) → IsNext kind ts rest → many ts ≡ is_always kind + many rest
one kind [] rest h = absurd h
one kind (t ∷ ts) rest h = omega (arith, ap is_always h.0, ap many h.1)

spelled : (a : Phrase) (ts rest : List Token) → Spells a ts rest → many ts ≡ in_phrase a + many rest
spelled nothing ts rest h = omega (arith, ap many h)
spelled (token kind) ts rest h = one kind ts rest h
spelled (operator kind) ts rest h = one kind ts rest h
spelled (a ▸ b) ts rest h = omega (arith, spelled a ts h.0 h.1, spelled b h.0 rest h.2)
spelled (at p a) ts rest h = spelled a ts rest h.1
spelled (within a) ts rest h = spelled a ts rest h
spelled (level a) ts rest h = spelled a ts rest h

-- ---- lists of what has none

module _ {A : Type 0} (spell : A → Phrase) (none_in : (x : A) → in_phrase (spell x) ≡ 0) where
  in_each : (xs : List A) → in_phrase (each spell xs) ≡ 0
  in_each [] = refl
  in_each (x ∷ xs) = omega (arith, none_in x, in_each xs)

  in_more : (xs : List A) → in_phrase (with_commas spell xs) ≡ 0
  in_more [] = refl
  in_more (x ∷ xs) = omega (arith, none_in x, in_more xs)

  in_list : (xs : List A) → in_phrase (between_commas spell xs) ≡ 0
  in_list [] = refl
  in_list (x ∷ xs) = omega (arith, none_in x, in_more xs)

-- ---- expressions

mutual
  in_expr : (e : Expr) → in_phrase (expr.spell e) ≡ 0
  in_expr (number p n) = refl
  in_expr (name p text ss) = omega (arith, in_selects ss)
  in_expr (paren p a) = omega (arith, in_expr a)
  in_expr (unary p op a) = omega (arith, in_expr a)
  in_expr (binary p op a b) = omega (arith, in_expr a, in_expr b)
  in_expr (conditional p c a b) = omega (arith, in_expr c, in_expr a, in_expr b)
  in_expr (concat p es) = omega (arith, in_parts es)
  in_expr (repeat p n es) = omega (arith, in_expr n, in_parts es)
  in_expr (cast p to a) = omega (arith, in_expr a)

  in_parts : (es : Exprs) → in_phrase (expr.spell_parts es) ≡ 0
  in_parts none = refl
  in_parts (more e es) = omega (arith, in_expr e, in_further es)

  in_further : (es : Exprs) → in_phrase (expr.spell_more es) ≡ 0
  in_further none = refl
  in_further (more e es) = omega (arith, in_expr e, in_further es)

  in_selects : (ss : Selects) → in_phrase (expr.spell_selects ss) ≡ 0
  in_selects whole = refl
  in_selects (bit p a ss) = omega (arith, in_expr a, in_selects ss)
  in_selects (part p a b ss) = omega (arith, in_expr a, in_expr b, in_selects ss)
  in_selects (indexed p a b ss) = omega (arith, in_expr a, in_expr b, in_selects ss)

in_value : (e : Option Expr) → in_phrase (expr.spell_value e) ≡ 0
in_value None = refl
in_value (Some e) = omega (arith, in_expr e)

mutual
  in_target : (l : Lval) → in_phrase (lval.spell l) ≡ 0
  in_target (named p text ss) = omega (arith, in_selects ss)
  in_target (joined p ls) = omega (arith, in_targets ls)

  in_targets : (ls : Lvals) → in_phrase (lval.spell_parts ls) ≡ 0
  in_targets no_lvals = refl
  in_targets (more_lvals l ls) = omega (arith, in_target l, in_more_targets ls)

  in_more_targets : (ls : Lvals) → in_phrase (lval.spell_more ls) ≡ 0
  in_more_targets no_lvals = refl
  in_more_targets (more_lvals l ls) = omega (arith, in_target l, in_more_targets ls)

-- ---- attributes and ports

in_attribute : (a : Attribute) → in_phrase (spell_attribute a) ≡ 0
in_attribute a = omega (arith, in_value a.value)

in_instance : (i : AttributeInstance) → in_phrase (spell_instance i) ≡ 0
in_instance i = omega (arith, in_list spell_attribute in_attribute i.attributes)

in_attributes : (is : List AttributeInstance) → in_phrase (spell_attributes is) ≡ 0
in_attributes is = in_each spell_instance in_instance is

in_range : (r : Option Range) → in_phrase (spell_optional_range r) ≡ 0
in_range None = refl
in_range (Some r) = omega (arith, in_expr r.left, in_expr r.right)

in_signed : (b : Bool) → in_phrase (spell_if b w.Signed) ≡ 0
in_signed true = refl
in_signed false = refl

in_shape : (x : Shape) → in_phrase (spell_shape x) ≡ 0
in_shape x = omega (arith, in_signed x.signed, in_range x.range)

in_net : (net : Option NetKind) → in_phrase (spell_net net) ≡ 0
in_net None = refl
in_net (Some Wire) = refl
in_net (Some Reg) = refl

in_direction : (d : Direction) → in_phrase (word (direction_word d)) ≡ 0
in_direction Input = refl
in_direction Output = refl

in_full_port : (x : FullPort) → in_phrase (spell_full_port x) ≡ 0
in_full_port x = omega (arith, in_direction x.direction, in_net x.net, in_shape x.shape, in_value x.value)

in_port_kind : (p : Pos) (kind : PortKind) → in_phrase (spell_port_kind p kind) ≡ 0
in_port_kind p (Full x) = omega (arith, in_attributes x.attributes, in_full_port x)
in_port_kind p (Short text value) = omega (arith, in_value value)

in_ports : (ports : Option (List Port)) → in_phrase (spell_ports ports) ≡ 0
in_ports None = refl
in_ports (Some ps) = omega (arith, in_list spell_port (λ p. in_port_kind p.pos p.kind) ps)

-- ---- items of a simple wrapper

in_assignment : (x : Assignment) → in_phrase (spell_assignment x) ≡ 0
in_assignment x = omega (arith, in_target x.target, in_expr x.value)

module _ (ps : List FullPort) where
  in_items : (xs : List Item) → Each (IsSimpleItem ps) xs → in_phrase (spell_all (items xs)) ≡ 0
  in_items [] h = refl
  in_items (assign attrs p ys ∷ xs) h =
      omega (arith, in_attributes attrs, in_list spell_assignment in_assignment ys, in_items xs h.1)
  in_items (x ∷ xs) h = absurd h.0

in_modules : (p : Pos) (ms : List Module) → IsSimple ms → in_phrase (spell_modules p ms) ≡ 0
in_modules p [] h = absurd h
in_modules p (m ∷ []) h =
    omega (
      arith,
      ap (λ o. in_phrase (spell_parameters o)) h.no_parameters,
      in_ports m.ports,
      in_items (ports_of m.ports) m.items h.items,
    )
in_modules p (m ∷ n ∷ ms) h = absurd h

pub no_always : (tree : Source) (ts : List Token) → Spells (spell_source tree) ts [] → IsSimple tree.modules
    → many ts ≡ 0
no_always tree ts h simple =
    omega (arith, spelled (spell_source tree) ts [] h, in_modules tree.pos tree.modules simple)
