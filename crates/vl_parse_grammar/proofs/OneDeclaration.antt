-- No two well formed targets, attributes, declarations or ports are spelled by one list of tokens.
use Rattle.std.proofs.Common.{◌≡◌, ℕ, Bool, true, false, List, [], ◌∷◌, Option, Some, None, refl, sym, ap, ◌∙◌, subst}
use Rattle.std.proofs.Common.{arith}
use Rattle.std.specs.Prelude.{All}
use Rattle.std.proofs.lemmas.List.Elements.{All-head, All-tail}
use Rattle.fv_text.specs.declared.keyword.Keyword.TheVariants as word
use Rattle.fv_text.specs.declared.kind.Kind.{Kind}
use Rattle.fv_text.specs.declared.kind.Kind.TheVariants as k
use Rattle.fv_text.specs.declared.symbol.Symbol.TheVariants as s
use Rattle.fv_text.specs.declared.token.Token.{Token}
use Rattle.vl_tree.specs.declared.attribute.Attribute.{Attribute}
use Rattle.vl_tree.specs.declared.attribute.AttributeInstance.{AttributeInstance}
use Rattle.vl_tree.specs.declared.declaration.Range.{Range}
use Rattle.vl_tree.specs.declared.declaration.Shape.{Shape}
use Rattle.vl_tree.specs.declared.declaration.DeclaredName.{DeclaredName}
use Rattle.vl_tree.specs.declared.declaration.Parameter.{Parameter}
use Rattle.vl_tree.specs.Attributes.{Attributes}
use Rattle.vl_tree.specs.Expr.{Expr}
use Rattle.vl_tree.specs.ExprSpelling.{spell_value}
use Rattle.vl_tree.specs.ExprWellFormed.{IsValue}
use Rattle.vl_tree.specs.Lval.{Lval, Lvals, named, joined, no_lvals, more_lvals}
use Rattle.vl_tree.specs.LvalSpelling as lval
use Rattle.vl_tree.specs.LvalWellFormed as target_well
use Rattle.vl_tree.specs.Phrase.{Phrase, with_commas, between_commas, IsNext, Spells}
use Rattle.vl_tree.specs.DeclarationSpelling.{
  spell_attribute,
  spell_instance,
  spell_attributes,
  spell_optional_range,
  spell_if,
  spell_shape,
  spell_declared_name,
  spell_parameter,
}
use Rattle.vl_tree.specs.DeclarationWellFormed.{
  AreSome,
  IsAttribute,
  IsInstance,
  AreAttributes,
  IsOptionalRange,
  IsShape,
  IsDeclaredName,
  IsParameter,
}
use Rattle.vl_parse_grammar.specs.Grammar.{on_range, on_value}
use Rattle.vl_parse_grammar.proofs.Steps.{is_pop, apart}
use Rattle.vl_parse_grammar.proofs.OneToken.{first, next_first, one_rest, one_kind, one_place, differ, name_same}
use Rattle.vl_parse_grammar.proofs.OneExpr.{NoSelect, NoMore, by_first, is_select_end, is_expr_end}
use Rattle.vl_parse_grammar.proofs.OneAtom.{closed_by, is_comma, one_expr, one_selects}

abbrev pub is_range_end : Kind → Bool
is_range_end t = is_pop (on_range t)

abbrev pub is_value_end : Kind → Bool
is_value_end t = is_pop (on_value t)

abbrev pub NoRange : List Token → Type 0
NoRange ts = is_range_end (first ts) ≡ true

abbrev pub NoValue : List Token → Type 0
NoValue ts = is_value_end (first ts) ≡ true

-- behind an element of a list
abbrev pub After : List Token → Type 0
After ts = NoSelect ts × NoMore ts × NoRange ts × NoValue ts

pub after_by : (kind : Kind) (ts m : List Token) → IsNext kind ts m → is_select_end kind ≡ true
    → is_expr_end kind ≡ true
    → is_range_end kind ≡ true → is_value_end kind ≡ true → After ts
after_by kind ts m h e f g i = (
  by_first is_select_end kind ts m h e,
  by_first is_expr_end kind ts m h f,
  by_first is_range_end kind ts m h g,
  by_first is_value_end kind ts m h i,
)

-- a token of the kind comes first and does not
pub clash_next : {A : Type 0} (test : Kind → Bool) (kind : Kind) (ts m us : List Token) → IsNext kind ts m → ts ≡ us
    → test kind ≡ false
    → test (first us) ≡ true → A
clash_next test kind ts m us h e f g =
    apart (sym f ∙ sym (ap test (next_first kind ts m h)) ∙ ap (λ vs. test (first vs)) e ∙ g)

-- lists with commas
module _ {A : Type 0} (one : A → Phrase) (Good : A → Type 0) (close : Kind) (no_comma : is_comma close ≡ false)
    (closes : (ts m : List Token) → IsNext close ts m → After ts)
    (same_one : (x y : A) (ts us r q : List Token) → ts ≡ us → Good x → Good y → Spells (one x) ts r
    → Spells (one y) us q → After r → After q
    → (x ≡ y) × (r ≡ q)) where
  after_element : (vs : List A) (ts m r : List Token) → Spells (with_commas one vs) ts m → IsNext close m r → After ts
  after_element [] ts m r h i = subst After (sym h) (closes m r i)
  after_element (x ∷ vs) ts m r (m2, h, j) i = after_by (k.Symbol s.Comma) ts m2 h refl refl refl refl

  pub tail_one : (vs ws : List A) (ts us m o r q : List Token) → ts ≡ us → All Good vs → All Good ws
      → Spells (with_commas one vs) ts m
      → Spells (with_commas one ws) us o → IsNext close m r → IsNext close o q → (vs ≡ ws) × (r ≡ q)
  tail_one [] [] ts us m o r q e w v h h2 i i2 = (refl, one_rest close close m o r q (sym h ∙ e ∙ h2) i i2)
  tail_one (x ∷ vs) (y ∷ ws) ts us m o r q e w v (m2, h, (m3, j, g)) (o2, h2, (o3, j2, g2)) i i2 =
      let (same, rest_same) = same_one x y m2 o2 m3 o3 (one_rest _ _ ts us m2 o2 e h h2) (All-head Good x vs w)
      (All-head Good y ws v) j j2
      (after_element vs m3 m r g i) (after_element ws o3 o q g2 i2) in
      let (others, end) = tail_one vs ws m3 o3 m o r q rest_same (All-tail Good x vs w)
      (All-tail Good y ws v) g g2 i i2 in
      ((λ z. same z ∷ others z), end)
  tail_one [] (y ∷ ws) ts us m o r q e w v h (o2, h2, j2) i i2 =
      differ is_comma (k.Symbol s.Comma) close us m o2 r (sym e ∙ h) h2 i refl no_comma
  tail_one (x ∷ vs) [] ts us m o r q e w v (m2, h, j) h2 i i2 =
      differ is_comma (k.Symbol s.Comma) close ts o m2 q (e ∙ h2) h i2 refl no_comma

  pub list_one : (x y : A) (vs ws : List A) (ts us m o r q : List Token) → ts ≡ us → All Good (x ∷ vs)
      → All Good (y ∷ ws)
      → Spells (between_commas one (x ∷ vs)) ts m → Spells (between_commas one (y ∷ ws)) us o → IsNext close m r
      → IsNext close o q
      → (x ∷ vs ≡ y ∷ ws) × (r ≡ q)
  list_one x y vs ws ts us m o r q e w v (m3, j, g) (o3, j2, g2) i i2 =
      let (same, rest_same) = same_one x y ts us m3 o3 e (All-head Good x vs w) (All-head Good y ws v) j j2
      (after_element vs m3 m r g i) (after_element ws o3 o q g2 i2) in
      let (others, end) = tail_one vs ws m3 o3 m o r q rest_same (All-tail Good x vs w)
      (All-tail Good y ws v) g g2 i i2 in
      ((λ z. same z ∷ others z), end)

  pub some_one : (vs ws : List A) (ts us m o r q : List Token) → ts ≡ us → AreSome Good vs → AreSome Good ws
      → Spells (between_commas one vs) ts m → Spells (between_commas one ws) us o → IsNext close m r → IsNext close o q
      → (vs ≡ ws) × (r ≡ q)
  some_one [] ws ts us m o r q e w v h h2 i i2 = absurd (omega (arith, w.0))
  some_one (x ∷ vs) [] ts us m o r q e w v h h2 i i2 = absurd (omega (arith, v.0))
  some_one (x ∷ vs) (y ∷ ws) ts us m o r q e w v h h2 i i2 = list_one x y vs ws ts us m o r q e w.1 v.1 h h2 i i2

pub value_one : (v w : Option Expr) (ts us r q : List Token) → ts ≡ us → IsValue v → IsValue w
    → Spells (spell_value v) ts r
    → Spells (spell_value w) us q → After r → After q → (v ≡ w) × (r ≡ q)
value_one None None ts us r q e f g h i a b = (refl, sym h ∙ e ∙ i)
value_one (Some x) (Some y) ts us r q e f g (m, h, j) (o, i, l) a b =
    let (same, end) = one_expr x y m o r q (one_rest _ _ ts us m o e h i) f g j l (a.0, a.1) (b.0, b.1)
    in (ap Some same, end)
value_one None (Some y) ts us r q e f g h (o, i, l) a b =
    clash_next is_value_end (k.Symbol s.Equal) us o r i (sym e ∙ h) refl a.3
value_one (Some x) None ts us r q e f g (m, h, j) i a b =
    clash_next is_value_end (k.Symbol s.Equal) ts m q h (e ∙ i) refl b.3

pub range_one : (v w : Option Range) (ts us r q : List Token) → ts ≡ us → IsOptionalRange v → IsOptionalRange w
    → Spells (spell_optional_range v) ts r → Spells (spell_optional_range w) us q → NoRange r → NoRange q → (v ≡ w)
    × (r ≡ q)
range_one None None ts us r q e f g h i a b = (refl, sym h ∙ e ∙ i)
range_one (Some x) (Some y) ts us r q e f g (p, (m, (m2, h, (m3, i, (m4, j, l))), c))
    (p2, (o, (o2, h2, (o3, i2, (o4, j2, l2))), c2)) a b =
    let (left, colon_same) = one_expr x.left y.left m2 o2 m3 o3 (one_rest _ _ ts us m2 o2 e h h2) f.0 g.0 i i2
    (closed_by _ m3 m4 j refl refl) (closed_by _ o3 o4 j2 refl refl) in
    let (right, end) = one_expr x.right y.right m4 o4 m o (one_rest _ _ m3 o3 m4 o4 colon_same j j2) f.1 g.1 l l2
    (closed_by _ m r c refl refl) (closed_by _ o q c2 refl refl) in (
      (λ z. Some (record {
        pos = one_place x.pos y.pos ts us e p p2 z;
        left = left z;
        right = right z;
      })),
      one_rest _ _ m o r q end c c2,
    )
range_one None (Some y) ts us r q e f g h (p2, (o, (o2, h2, j2), c2)) a b =
    clash_next is_range_end (k.Symbol s.OpenBracket) us o2 r h2 (sym e ∙ h) refl a
range_one (Some x) None ts us r q e f g (p, (m, (m2, h, j), c)) i a b =
    clash_next is_range_end (k.Symbol s.OpenBracket) ts m2 q h (e ∙ i) refl b

abbrev pub is_plain : Kind → Bool
is_plain (k.Keyword x) = false
is_plain t = true

-- a range, and then a name: no keyword comes first
pub range_plain : (v : Option Range) (ts r m : List Token) (text : List ℕ) → Spells (spell_optional_range v) ts r
    → IsNext (k.Name text) r m
    → is_plain (first ts) ≡ true
range_plain None ts r m text h i = ap (λ us. is_plain (first us)) h ∙ ap is_plain (next_first (k.Name text) r m i)
range_plain (Some x) ts r m text (p, (o, (o2, h, j), c)) i = ap is_plain (next_first (k.Symbol s.OpenBracket) ts o2 h)

pub no_range : (ts m : List Token) (text : List ℕ) → IsNext (k.Name text) ts m → NoRange ts
no_range ts m text h = by_first is_range_end (k.Name text) ts m h refl

-- a shape, and then a name
shape_by : (b c : Bool) (v w : Option Range) (ts us r q m o : List Token) (text text2 : List ℕ) → ts ≡ us
    → IsOptionalRange v → IsOptionalRange w
    → (m2 : List Token) × Spells (spell_if b word.Signed) ts m2 × Spells (spell_optional_range v) m2 r
    → (o2 : List Token) × Spells (spell_if c word.Signed) us o2 × Spells (spell_optional_range w) o2 q
    → IsNext (k.Name text) r m → IsNext (k.Name text2) q o → (b ≡ c) × (v ≡ w) × (r ≡ q)
shape_by true true v w ts us r q m o t t2 e f g (m2, h, i) (o2, h2, i2) a a2 =
    let (same, end) = range_one v w m2 o2 r q (one_rest _ _ ts us m2 o2 e h h2) f g i i2 (no_range r m t a)
    (no_range q o t2 a2) in (refl, same, end)
shape_by false false v w ts us r q m o t t2 e f g (m2, h, i) (o2, h2, i2) a a2 =
    let (same, end) = range_one v w m2 o2 r q (sym h ∙ e ∙ h2) f g i i2 (no_range r m t a) (no_range q o t2 a2)
    in (refl, same, end)
shape_by true false v w ts us r q m o t t2 e f g (m2, h, i) (o2, h2, i2) a a2 =
    clash_next is_plain (k.Keyword word.Signed) ts m2 o2 h (e ∙ h2) refl (range_plain w o2 q o t2 i2 a2)
shape_by false true v w ts us r q m o t t2 e f g (m2, h, i) (o2, h2, i2) a a2 =
    clash_next is_plain (k.Keyword word.Signed) us o2 m2 h2 (sym e ∙ h) refl (range_plain v m2 r m t i a)

pub shape_one : (x y : Shape) (ts us r q m o : List Token) (text text2 : List ℕ) → ts ≡ us → IsShape x → IsShape y
    → Spells (spell_shape x) ts r
    → Spells (spell_shape y) us q → IsNext (k.Name text) r m → IsNext (k.Name text2) q o → (x ≡ y) × (r ≡ q)
shape_one x y ts us r q m o t t2 e f g h i a a2 =
    let (b, v, end) = shape_by x.signed y.signed x.range y.range ts us r q m o t t2 e f g h i a a2 in
    ((λ z. record { signed = b z; range = v z }), end)

-- the first token of a shape and a name
abbrev pub is_signed_or_plain : Kind → Bool
is_signed_or_plain (k.Keyword word.Signed) = true
is_signed_or_plain (k.Keyword x) = false
is_signed_or_plain t = true

plain_is : (t : Kind) → is_plain t ≡ true → is_signed_or_plain t ≡ true
plain_is (k.Keyword x) h = apart h
plain_is t h = refl

pub shape_first : (b : Bool) (v : Option Range) (ts r m : List Token) (text : List ℕ)
    → (m2 : List Token) × Spells (spell_if b word.Signed) ts m2 × Spells (spell_optional_range v) m2 r
    → IsNext (k.Name text) r m
    → is_signed_or_plain (first ts) ≡ true
shape_first true v ts r m text (m2, h, i) a = ap is_signed_or_plain (next_first (k.Keyword word.Signed) ts m2 h)
shape_first false v ts r m text (m2, h, i) a =
    ap (λ us. is_signed_or_plain (first us)) h ∙ plain_is (first m2) (range_plain v m2 r m text i a)

-- declared names
pub declared_one : (x y : DeclaredName) (ts us r q : List Token) → ts ≡ us → IsDeclaredName x → IsDeclaredName y
    → Spells (spell_declared_name x) ts r → Spells (spell_declared_name y) us q → After r → After q → (x ≡ y) × (r ≡ q)
declared_one x y ts us r q e w v (p, (m, h, (m2, i, j))) (p2, (o, h2, (o2, i2, j2))) a b =
    let (words, rest_same) = range_one x.words y.words m o m2 o2 (one_rest _ _ ts us m o e h h2) w.1 v.1 i i2
    (value_begins x.value m2 r j a) (value_begins y.value o2 q j2 b) in
    let (value, end) = value_one x.value y.value m2 o2 r q rest_same w.2 v.2 j j2 a b in (
      (λ z. record {
        pos = one_place x.pos y.pos ts us e p p2 z;
        name = name_same x.name y.name (one_kind _ _ ts us m o e h h2) z;
        words = words z;
        value = value z;
      }),
      end,
    )
  where
    value_begins : (v : Option Expr) (ts r : List Token) → Spells (spell_value v) ts r → After r → NoRange ts
    value_begins None ts r h a = ap (λ us. is_range_end (first us)) h ∙ a.2
    value_begins (Some x) ts r (m, h, i) a = by_first is_range_end (k.Symbol s.Equal) ts m h refl

-- parameters
pub parameter_one : (x y : Parameter) (ts us r q : List Token) → ts ≡ us → IsParameter x → IsParameter y
    → Spells (spell_parameter x) ts r → Spells (spell_parameter y) us q → After r → After q → (x ≡ y) × (r ≡ q)
parameter_one x y ts us r q e w v (p, (m, h, (m2, i, (m3, j, l)))) (p2, (o, h2, (o2, i2, (o3, j2, l2)))) a b =
    let (shape, rest_same) = shape_one x.shape y.shape ts us m o m2 o2 x.name y.name e w.0 v.0 h h2 i i2 in
    let (value, end) = one_expr x.value y.value m3 o3 r q
    (one_rest _ _ m2 o2 m3 o3 (one_rest _ _ m o m2 o2 rest_same i i2) j j2) w.2 v.2 l l2
    (a.0, a.1) (b.0, b.1) in (
      (λ z. record {
        pos = one_place x.pos y.pos ts us e p p2 z;
        shape = shape z;
        name = name_same x.name y.name (one_kind _ _ m o m2 o2 rest_same i i2) z;
        value = value z;
      }),
      end,
    )

pub parameter_first : (x : Parameter) (ts r : List Token) → Spells (spell_parameter x) ts r
    → is_signed_or_plain (first ts) ≡ true
parameter_first x ts r (p, (m, h, (m2, i, j))) = shape_first x.shape.signed x.shape.range ts m m2 x.name h i

-- attributes
attribute_one : (x y : Attribute) (ts us r q : List Token) → ts ≡ us → IsAttribute x → IsAttribute y
    → Spells (spell_attribute x) ts r → Spells (spell_attribute y) us q → After r → After q → (x ≡ y) × (r ≡ q)
attribute_one x y ts us r q e w v (p, (m, h, i)) (p2, (o, h2, i2)) a b =
    let (value, end) = value_one x.value y.value m o r q (one_rest _ _ ts us m o e h h2) w.1 v.1 i i2 a b in (
      (λ z. record {
        pos = one_place x.pos y.pos ts us e p p2 z;
        name = name_same x.name y.name (one_kind _ _ ts us m o e h h2) z;
        value = value z;
      }),
      end,
    )

instance_one : (x y : AttributeInstance) (ts us r q : List Token) → ts ≡ us → IsInstance x → IsInstance y
    → Spells (spell_instance x) ts r → Spells (spell_instance y) us q → (x ≡ y) × (r ≡ q)
instance_one x y ts us r q e w v (p, (m, (m2, h, i), c)) (p2, (o, (o2, h2, i2), c2)) =
    let (same, end) = some_one spell_attribute IsAttribute (k.Symbol s.CloseAttribute) refl
    (λ vs us f. after_by (k.Symbol s.CloseAttribute) vs us f refl refl refl refl) attribute_one x.attributes
    y.attributes m2 o2 m o r q
    (one_rest _ _ ts us m2 o2 e h h2) w v i i2 c c2 in
    ((λ z. record { pos = one_place x.pos y.pos ts us e p p2 z; attributes = same z }), end)

abbrev pub is_no_attribute : Kind → Bool
is_no_attribute (k.Symbol s.OpenAttribute) = false
is_no_attribute t = true

-- no attributes come next
abbrev pub NoAttribute : List Token → Type 0
NoAttribute ts = is_no_attribute (first ts) ≡ true

pub attributes_one : (vs ws : Attributes) (ts us r q : List Token) → ts ≡ us → AreAttributes vs → AreAttributes ws
    → Spells (spell_attributes vs) ts r → Spells (spell_attributes ws) us q → NoAttribute r → NoAttribute q
    → (vs ≡ ws) × (r ≡ q)
attributes_one [] [] ts us r q e w v h i a b = (refl, sym h ∙ e ∙ i)
attributes_one (x ∷ vs) (y ∷ ws) ts us r q e w v (m, h, j) (o, i, l) a b =
    let (same, rest_same) = instance_one x y ts us m o e (All-head IsInstance x vs w)
    (All-head IsInstance y ws v) h i in
    let (others, end) = attributes_one vs ws m o r q rest_same (All-tail IsInstance x vs w)
    (All-tail IsInstance y ws v) j l a b in
    ((λ z. same z ∷ others z), end)
attributes_one [] (y ∷ ws) ts us r q e w v h (o, (p, (o2, (o3, i, j2), c)), l) a b =
    clash_next is_no_attribute (k.Symbol s.OpenAttribute) us o3 r i (sym e ∙ h) refl a
attributes_one (x ∷ vs) [] ts us r q e w v (m, (p, (m2, (m3, h, j2), c)), j) i a b =
    clash_next is_no_attribute (k.Symbol s.OpenAttribute) ts m3 q h (e ∙ i) refl b

-- targets
abbrev is_brace : Kind → Bool
is_brace (k.Symbol s.OpenBrace) = true
is_brace t = false

behind_target : (x : Lvals) (ts m r : List Token) → Spells (lval.spell_more x) ts m
    → IsNext (k.Symbol s.CloseBrace) m r → NoSelect ts
behind_target no_lvals ts m r h i =
    ap (λ us. is_select_end (first us)) h ∙ by_first is_select_end (k.Symbol s.CloseBrace) m r i refl
behind_target (more_lvals x xs) ts m r (m2, h, j) i = by_first is_select_end (k.Symbol s.Comma) ts m2 h refl

mutual
  pub target_one : (x y : Lval) (ts us r q : List Token) → ts ≡ us → target_well.IsWellFormed x
      → target_well.IsWellFormed y
      → Spells (lval.spell x) ts r → Spells (lval.spell y) us q → NoSelect r → NoSelect q → (x ≡ y) × (r ≡ q)
  target_one (named p text ss) (named p2 text2 ss2) ts us r q e w v (g, (m, h, i)) (g2, (o, h2, i2)) a b =
      let (same, end) = one_selects ss ss2 m o r q (one_rest _ _ ts us m o e h h2) w.1 v.1 i i2 a b in (
        (λ z. named (one_place p p2 ts us e g g2 z) (name_same text text2 (one_kind _ _ ts us m o e h h2) z)
            (same z)),
        end,
      )
  target_one (joined p ls) (joined p2 ls2) ts us r q e w v (g, (m, (m2, h, i), c)) (g2, (o, (o2, h2, i2), c2)) a b =
      let (same, end) = all_one ls ls2 m2 o2 m o r q (one_rest _ _ ts us m2 o2 e h h2) w.0 v.0 w.1 v.1 i i2 c c2 in
      ((λ z. joined (one_place p p2 ts us e g g2 z) (same z)), end)
  target_one (named p text ss) (joined p2 ls2) ts us r q e w v (g, (m, h, i)) (g2, (o, (o2, h2, i2), c2)) a b =
      differ is_brace _ _ us ts o2 m (sym e) h2 h refl refl
  target_one (joined p2 ls2) (named p text ss) ts us r q e w v (g2, (o, (o2, h2, i2), c2)) (g, (m, h, i)) a b =
      differ is_brace _ _ ts us o2 m e h2 h refl refl

  all_one : (x y : Lvals) (ts us m o r q : List Token) → ts ≡ us → target_well.IsSome x → target_well.IsSome y
      → target_well.AreWellFormed x
      → target_well.AreWellFormed y → Spells (lval.spell_parts x) ts m → Spells (lval.spell_parts y) us o
      → IsNext (k.Symbol s.CloseBrace) m r
      → IsNext (k.Symbol s.CloseBrace) o q → (x ≡ y) × (r ≡ q)
  all_one no_lvals y ts us m o r q e c d w v h i a b = absurd c
  all_one (more_lvals x xs) no_lvals ts us m o r q e c d w v h i a b = absurd d
  all_one (more_lvals x xs) (more_lvals y ys) ts us m o r q e c d w v (m2, h, j) (o2, i, l) a b =
      let (same, rest_same) = target_one x y ts us m2 o2 e w.0 v.0 h i (behind_target xs m2 m r j a)
      (behind_target ys o2 o q l b) in
      let (others, end) = others_one xs ys m2 o2 m o r q rest_same w.1 v.1 j l a b in
      ((λ z. more_lvals (same z) (others z)), end)

  others_one : (x y : Lvals) (ts us m o r q : List Token) → ts ≡ us → target_well.AreWellFormed x
      → target_well.AreWellFormed y
      → Spells (lval.spell_more x) ts m → Spells (lval.spell_more y) us o → IsNext (k.Symbol s.CloseBrace) m r
      → IsNext (k.Symbol s.CloseBrace) o q → (x ≡ y) × (r ≡ q)
  others_one no_lvals no_lvals ts us m o r q e w v h i a b = (refl, one_rest _ _ m o r q (sym h ∙ e ∙ i) a b)
  others_one (more_lvals x xs) (more_lvals y ys) ts us m o r q e w v (m2, h, (m3, j, l)) (o2, h2, (o3, j2, l2)) a b =
      let (same, rest_same) = target_one x y m2 o2 m3 o3 (one_rest _ _ ts us m2 o2 e h h2) w.0 v.0 j j2
      (behind_target xs m3 m r l a) (behind_target ys o3 o q l2 b) in
      let (others, end) = others_one xs ys m3 o3 m o r q rest_same w.1 v.1 l l2 a b in
      ((λ z. more_lvals (same z) (others z)), end)
  others_one no_lvals (more_lvals y ys) ts us m o r q e w v h (o2, h2, j2) a b =
      differ is_comma _ _ us m o2 r (sym e ∙ h) h2 a refl refl
  others_one (more_lvals x xs) no_lvals ts us m o r q e w v (m2, h, j) i a b =
      differ is_comma _ _ ts o m2 q (e ∙ i) h b refl refl
