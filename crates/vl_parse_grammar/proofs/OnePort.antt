-- No two well formed lists of ports or of parameters in a head are spelled by one list of tokens.
use Rattle.std.proofs.Common.{◌≡◌, Bool, true, false, List, [], ◌∷◌, Option, Some, None, refl, sym, ap, ◌∙◌}
use Rattle.fv_text.specs.declared.keyword.Keyword.TheVariants as word
use Rattle.fv_text.specs.declared.kind.Kind.{Kind}
use Rattle.fv_text.specs.declared.kind.Kind.TheVariants as k
use Rattle.fv_text.specs.declared.pos.Pos.{Pos}
use Rattle.fv_text.specs.declared.symbol.Symbol.TheVariants as s
use Rattle.fv_text.specs.declared.token.Token.{Token}
use Rattle.vl_tree.specs.declared.declaration.NetKind.{NetKind}
use Rattle.vl_tree.specs.declared.declaration.NetKind.TheVariants as n
use Rattle.vl_tree.specs.declared.declaration.Direction.{Direction}
use Rattle.vl_tree.specs.declared.declaration.Direction.TheVariants as dir
use Rattle.vl_tree.specs.declared.declaration.HeaderParameter.{HeaderParameter}
use Rattle.vl_tree.specs.declared.declaration.Parameter.{Parameter}
use Rattle.vl_tree.specs.declared.declaration.Port.{Port}
use Rattle.vl_tree.specs.declared.declaration.PortKind.{PortKind}
use Rattle.vl_tree.specs.declared.declaration.PortKind.TheVariants as p
use Rattle.vl_tree.specs.declared.declaration.FullPort.{FullPort}
use Rattle.vl_tree.specs.Attributes.{Attributes}
use Rattle.vl_tree.specs.Phrase.{between_commas, IsNext, Spells}
use Rattle.vl_tree.specs.DeclarationSpelling.{spell_attributes, spell_if, spell_net, net_word, direction_word}
use Rattle.vl_tree.specs.DeclarationSpelling.{spell_parameter, spell_header_parameter, spell_port_kind, spell_port}
use Rattle.vl_tree.specs.DeclarationWellFormed.{IsHeaderParameter, AreHeaderParameters, IsParameter, IsPortKind}
use Rattle.vl_tree.specs.DeclarationWellFormed.{IsPort, ArePorts}
use Rattle.vl_parse_grammar.proofs.Steps.{apart}
use Rattle.vl_parse_grammar.proofs.OneToken.{first, next_first, one_rest, one_kind, one_place, name_same}
use Rattle.vl_parse_grammar.proofs.OneExpr.{by_first}
use Rattle.vl_parse_grammar.proofs.OneDeclaration.{After, after_by, clash_next, list_one, value_one, shape_one}
use Rattle.vl_parse_grammar.proofs.OneDeclaration.{shape_first}
use Rattle.vl_parse_grammar.proofs.OneDeclaration.{parameter_one, parameter_first, is_signed_or_plain, is_no_attribute}
use Rattle.vl_parse_grammar.proofs.OneDeclaration.{attributes_one}

header_by : (b c : Bool) (x y : Parameter) (ts us r q : List Token) → ts ≡ us → IsParameter x → IsParameter y
    → (m : List Token) × Spells (spell_if b word.Parameter) ts m × Spells (spell_parameter x) m r
    → (o : List Token) × Spells (spell_if c word.Parameter) us o × Spells (spell_parameter y) o q → After r → After q
    → (b ≡ c) × (x ≡ y) × (r ≡ q)
header_by true true x y ts us r q e w v (m, h, i) (o, h2, i2) a b =
    let (same, end) = parameter_one x y m o r q (one_rest _ _ ts us m o e h h2) w v i i2 a b in (refl, same, end)
header_by false false x y ts us r q e w v (m, h, i) (o, h2, i2) a b =
    let (same, end) = parameter_one x y m o r q (sym h ∙ e ∙ h2) w v i i2 a b in (refl, same, end)
header_by true false x y ts us r q e w v (m, h, i) (o, h2, i2) a b =
    clash_next is_signed_or_plain (k.Keyword word.Parameter) ts m o h (e ∙ h2) refl (parameter_first y o q i2)
header_by false true x y ts us r q e w v (m, h, i) (o, h2, i2) a b =
    clash_next is_signed_or_plain (k.Keyword word.Parameter) us o m h2 (sym e ∙ h) refl (parameter_first x m r i)

header_one : (x y : HeaderParameter) (ts us r q : List Token) → ts ≡ us → IsHeaderParameter x → IsHeaderParameter y
    → Spells (spell_header_parameter x) ts r → Spells (spell_header_parameter y) us q → After r → After q → (x ≡ y)
    × (r ≡ q)
header_one x y ts us r q e w v h i a b =
    let (word_same, same, end) = header_by x.keyword y.keyword x.parameter y.parameter ts us r q e w v h i a b in
    ((λ z. record { keyword = word_same z; parameter = same z }), end)

pub headers_one : (vs ws : List HeaderParameter) (ts us m o r q : List Token) → ts ≡ us → AreHeaderParameters vs
    → AreHeaderParameters ws
    → Spells (between_commas spell_header_parameter vs) ts m → Spells (between_commas spell_header_parameter ws) us o
    → IsNext (k.Symbol s.CloseParen) m r → IsNext (k.Symbol s.CloseParen) o q → (vs ≡ ws) × (r ≡ q)
headers_one [] ws ts us m o r q e w v h i a b = absurd w.0
headers_one (x ∷ vs) [] ts us m o r q e w v h i a b = absurd v.0
headers_one (x ∷ vs) (y ∷ ws) ts us m o r q e w v h i a b =
    list_one spell_header_parameter IsHeaderParameter (k.Symbol s.CloseParen) refl
    (λ vs us f. after_by (k.Symbol s.CloseParen) vs us f refl refl refl refl) header_one x y vs ws ts us m o r q e
    w.1 v.1 h i a b

-- ports
direction_of : Kind → Direction
direction_of (k.Keyword word.Input) = dir.Input
direction_of t = dir.Output

direction_back : (x : Direction) → direction_of (k.Keyword (direction_word x)) ≡ x
unfolding direction_of
direction_back dir.Input = refl
direction_back dir.Output = refl

direction_one : (x y : Direction) (ts us m o : List Token) → ts ≡ us → IsNext (k.Keyword (direction_word x)) ts m
    → IsNext (k.Keyword (direction_word y)) us o → x ≡ y
direction_one x y ts us m o e h i =
    sym (direction_back x) ∙ ap direction_of (one_kind _ _ ts us m o e h i) ∙ direction_back y

abbrev pub net_of : Kind → Option NetKind
net_of (k.Keyword word.Wire) = Some n.Wire
net_of (k.Keyword word.Reg) = Some n.Reg
net_of t = None

pub net_back : (x : NetKind) → net_of (k.Keyword (net_word x)) ≡ Some x
net_back n.Wire = refl
net_back n.Reg = refl

some_net : (x y : NetKind) → Some x ≡ Some y → x ≡ y
some_net x y h = cc

pub net_word_one : (x y : NetKind) (ts us m o : List Token) → ts ≡ us → IsNext (k.Keyword (net_word x)) ts m
    → IsNext (k.Keyword (net_word y)) us o → x ≡ y
net_word_one x y ts us m o e h i =
    some_net x y (sym (net_back x) ∙ ap net_of (one_kind _ _ ts us m o e h i) ∙ net_back y)

abbrev is_no_net : Kind → Bool
is_no_net (k.Keyword word.Wire) = false
is_no_net (k.Keyword word.Reg) = false
is_no_net t = true

no_net_word : (x : NetKind) → is_no_net (k.Keyword (net_word x)) ≡ false
no_net_word n.Wire = refl
no_net_word n.Reg = refl

net_one : (x y : Option NetKind) (ts us r q : List Token) → ts ≡ us → Spells (spell_net x) ts r
    → Spells (spell_net y) us q
    → is_no_net (first r) ≡ true → is_no_net (first q) ≡ true → (x ≡ y) × (r ≡ q)
net_one None None ts us r q e h i a b = (refl, sym h ∙ e ∙ i)
net_one (Some x) (Some y) ts us r q e h i a b =
    (ap Some (net_word_one x y ts us r q e h i), one_rest _ _ ts us r q e h i)
net_one None (Some y) ts us r q e h i a b =
    clash_next is_no_net (k.Keyword (net_word y)) us q r i (sym e ∙ h) (no_net_word y) a
net_one (Some x) None ts us r q e h i a b =
    clash_next is_no_net (k.Keyword (net_word x)) ts r q h (e ∙ i) (no_net_word x) b

plain_no_net : (t : Kind) → is_signed_or_plain t ≡ true → is_no_net t ≡ true
plain_no_net (k.Keyword word.Signed) h = refl
plain_no_net (k.Keyword x) h = apart h
plain_no_net t h = refl

no_attribute_word : (x : Direction) → is_no_attribute (k.Keyword (direction_word x)) ≡ true
no_attribute_word dir.Input = refl
no_attribute_word dir.Output = refl

full_one : (x y : FullPort) (a b : Pos) (ts us r q : List Token) → ts ≡ us → IsPortKind (p.Full x)
    → IsPortKind (p.Full y)
    → Spells (spell_port_kind a (p.Full x)) ts r → Spells (spell_port_kind b (p.Full y)) us q → After r → After q
    → (a ≡ b) × (x ≡ y) × (r ≡ q)
full_one x y a b ts us r q e w v (m, h, (g, (m2, i, (m3, j, (m4, l, (n, (m5, c, d)))))))
    (o, h2, (g2, (o2, i2, (o3, j2, (o4, l2, (n2, (o5, c2, d2))))))) f f2 =
    let (attrs, start_same) = attributes_one x.attributes y.attributes ts us m o e w.0 v.0 h h2
    (by_first is_no_attribute _ m m2 i (no_attribute_word x.direction))
    (by_first is_no_attribute _ o o2 i2 (no_attribute_word y.direction)) in
    let (net, net_same) = net_one x.net y.net m2 o2 m3 o3 (one_rest _ _ m o m2 o2 start_same i i2) j j2
    (plain_no_net (first m3) (shape_first x.shape.signed x.shape.range m3 m4 m5 x.name l c))
    (plain_no_net (first o3) (shape_first y.shape.signed y.shape.range o3 o4 o5 y.name l2 c2)) in
    let (shape, shape_same) = shape_one x.shape y.shape m3 o3 m4 o4 m5 o5 x.name y.name net_same w.1 v.1 l l2 c c2 in
    let (value, end) = value_one x.value y.value m5 o5 r q
    (one_rest _ _ m4 o4 m5 o5 shape_same c c2) w.3 v.3 d d2 f f2 in (
      one_place a b m o start_same g g2,
      (λ z. record {
        attributes = attrs z;
        direction = direction_one x.direction y.direction m o m2 o2 start_same i i2 z;
        net = net z;
        shape = shape z;
        name = name_same x.name y.name (one_kind _ _ m4 o4 m5 o5 shape_same c c2) z;
        name_pos = one_place x.name_pos y.name_pos m4 o4 shape_same n n2 z;
        value = value z;
      }),
      end,
    )

abbrev is_a_name : Kind → Bool
is_a_name (k.Name text) = true
is_a_name t = false

full_no_name : (x : FullPort) (a : Pos) (ts r : List Token) → Spells (spell_port_kind a (p.Full x)) ts r
    → is_a_name (first ts) ≡ false
full_no_name x a ts r (m, h, (g, (m2, i, j))) = by_list x.attributes h
  where
    by_list : (vs : Attributes) → Spells (spell_attributes vs) ts m → is_a_name (first ts) ≡ false
    by_list [] h =
        ap (λ us. is_a_name (first us)) h ∙ ap is_a_name (next_first (k.Keyword (direction_word x.direction)) m m2 i)
    by_list (v ∷ vs) (m3, (g2, (m4, (m5, h2, i2), c)), l) =
        ap is_a_name (next_first (k.Symbol s.OpenAttribute) ts m5 h2)

kind_one : (x y : PortKind) (a b : Pos) (ts us r q : List Token) → ts ≡ us → IsPortKind x → IsPortKind y
    → Spells (spell_port_kind a x) ts r → Spells (spell_port_kind b y) us q → After r → After q → (a ≡ b) × (x ≡ y)
    × (r ≡ q)
kind_one (p.Full x) (p.Full y) a b ts us r q e w v h i f f2 =
    let (at_same, same, end) = full_one x y a b ts us r q e w v h i f f2 in (at_same, ap p.Full same, end)
kind_one (p.Short x d) (p.Short y d2) a b ts us r q e w v (g, (m, h, i)) (g2, (o, h2, i2)) f f2 =
    let (value, end) = value_one d d2 m o r q (one_rest _ _ ts us m o e h h2) w.1 v.1 i i2 f f2 in
    (one_place a b ts us e g g2, (λ z. p.Short (name_same x y (one_kind _ _ ts us m o e h h2) z) (value z)), end)
kind_one (p.Full x) (p.Short y d2) a b ts us r q e w v h (g2, (o, h2, i2)) f f2 =
    apart (sym (full_no_name x a ts r h) ∙ ap (λ vs. is_a_name (first vs)) e
    ∙ ap is_a_name (next_first (k.Name y) us o h2))
kind_one (p.Short x d) (p.Full y) a b ts us r q e w v (g, (m, h, i)) h2 f f2 =
    apart (sym (full_no_name y b us q h2) ∙ ap (λ vs. is_a_name (first vs)) (sym e)
    ∙ ap is_a_name (next_first (k.Name x) ts m h))

port_one : (x y : Port) (ts us r q : List Token) → ts ≡ us → IsPort x → IsPort y → Spells (spell_port x) ts r
    → Spells (spell_port y) us q
    → After r → After q → (x ≡ y) × (r ≡ q)
port_one x y ts us r q e w v h i f f2 =
    let (at_same, same, end) = kind_one x.kind y.kind x.pos y.pos ts us r q e w v h i f f2 in
    ((λ z. record { pos = at_same z; kind = same z }), end)

abbrev is_close : Kind → Bool
is_close (k.Symbol s.CloseParen) = true
is_close t = false

port_no_close : (a : Pos) (x : PortKind) (ts r : List Token) → Spells (spell_port_kind a x) ts r
    → is_close (first ts) ≡ false
port_no_close a (p.Short x d) ts r (g, (m, h, i)) = ap is_close (next_first (k.Name x) ts m h)
port_no_close a (p.Full x) ts r (m, h, (g, (m2, i, j))) = by_list x.attributes h
  where
    by_list : (vs : Attributes) → Spells (spell_attributes vs) ts m → is_close (first ts) ≡ false
    by_list [] h =
        ap (λ us. is_close (first us)) h ∙ ap is_close (next_first (k.Keyword (direction_word x.direction)) m m2 i)
    by_list (v ∷ vs) (m3, (g2, (m4, (m5, h2, i2), c)), l) = ap is_close (next_first (k.Symbol s.OpenAttribute) ts m5 h2)

pub ports_one : (vs ws : List Port) (ts us m o r q : List Token) → ts ≡ us → ArePorts vs → ArePorts ws
    → Spells (between_commas spell_port vs) ts m → Spells (between_commas spell_port ws) us o
    → IsNext (k.Symbol s.CloseParen) m r → IsNext (k.Symbol s.CloseParen) o q → (vs ≡ ws) × (r ≡ q)
ports_one [] [] ts us m o r q e w v h i a b = (refl, one_rest _ _ m o r q (sym h ∙ e ∙ i) a b)
ports_one (x ∷ vs) (y ∷ ws) ts us m o r q e w v h i a b =
    list_one spell_port IsPort (k.Symbol s.CloseParen) refl
    (λ vs us f. after_by (k.Symbol s.CloseParen) vs us f refl refl refl refl) port_one x y vs ws ts us m o r q e w.1
    v.1 h i a b
ports_one [] (y ∷ ws) ts us m o r q e w v h (o2, i, j) a b =
    apart (sym (port_no_close y.pos y.kind us o2 i) ∙ ap (λ vs. is_close (first vs)) (sym e ∙ h)
    ∙ ap is_close (next_first (k.Symbol s.CloseParen) m r a))
ports_one (x ∷ vs) [] ts us m o r q e w v (m2, h, j) i a b =
    apart (sym (port_no_close x.pos x.kind ts m2 h) ∙ ap (λ vs. is_close (first vs)) (e ∙ i)
    ∙ ap is_close (next_first (k.Symbol s.CloseParen) o q b))
