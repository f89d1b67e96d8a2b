-- No two well formed events, instances, assignments or heads of loops are spelled by one list of tokens.
use Rattle.std.proofs.Common.{◌≡◌, ℕ, Bool, true, false, List, [], ◌∷◌, Option, Some, None, refl, sym, ap, ◌∙◌}
use Rattle.std.specs.Prelude.{All}
use Rattle.fv_text.specs.declared.keyword.Keyword.TheVariants as word
use Rattle.fv_text.specs.declared.kind.Kind.{Kind}
use Rattle.fv_text.specs.declared.kind.Kind.TheVariants as k
use Rattle.fv_text.specs.declared.symbol.Symbol.TheVariants as s
use Rattle.fv_text.specs.declared.token.Token.{Token}
use Rattle.vl_tree.specs.declared.part.Assignment.{Assignment}
use Rattle.vl_tree.specs.declared.part.Connection.{Connection}
use Rattle.vl_tree.specs.declared.part.EventKind.{EventKind}
use Rattle.vl_tree.specs.declared.part.EventKind.TheVariants as v
use Rattle.vl_tree.specs.declared.part.Event.{Event}
use Rattle.vl_tree.specs.declared.part.Instance.{Instance}
use Rattle.vl_tree.specs.declared.part.LoopHead.{LoopHead}
use Rattle.vl_tree.specs.Expr.{Expr}
use Rattle.vl_tree.specs.ExprWellFormed.{IsValue}
use Rattle.vl_tree.specs.ItemSpelling.{
  spell_assignment,
  spell_event,
  spell_event_kind,
  spell_optional,
  spell_connection,
  spell_connections,
  spell_overrides,
  spell_instance,
  spell_head,
}
use Rattle.vl_tree.specs.Phrase.{IsNext, Spells}
use Rattle.vl_tree.specs.WellFormed.{IsAssignment, IsConnection, AreOverrides, IsInstance, IsHead}
use Rattle.vl_parse_grammar.proofs.Steps.{apart}
use Rattle.vl_parse_grammar.proofs.StmtReads.{Plain}
use Rattle.vl_parse_grammar.proofs.OneToken.{first, behind, next_first, one_rest, one_kind, one_place, differ}
use Rattle.vl_parse_grammar.proofs.OneToken.{name_same}
use Rattle.vl_parse_grammar.proofs.OneExpr.{by_first, is_select_end}
use Rattle.vl_parse_grammar.proofs.OneAtom.{closed_by, one_expr}
use Rattle.vl_parse_grammar.proofs.OneDeclaration.{After, after_by, list_one, target_one}
use Rattle.vl_parse_grammar.proofs.Front.{expr_first}

pub assignment_one : (x y : Assignment) (ts us r q : List Token) → ts ≡ us → IsAssignment x → IsAssignment y
    → Spells (spell_assignment x) ts r
    → Spells (spell_assignment y) us q → After r → After q → (x ≡ y) × (r ≡ q)
assignment_one x y ts us r q e w v (m, h, (m2, i, j)) (o, h2, (o2, i2, j2)) a b =
    let (left, middle) = target_one x.target y.target ts us m o e w.0 v.0 h h2
    (by_first is_select_end (k.Symbol s.Equal) m m2 i refl) (by_first is_select_end (k.Symbol s.Equal) o o2 i2 refl) in
    let (right, end) = one_expr x.value y.value m2 o2 r q (one_rest _ _ m o m2 o2 middle i i2) w.1 v.1 j j2
    (a.0, a.1) (b.0, b.1) in
    ((λ z. record { target = left z; value = right z }), end)

-- events
abbrev event_of : Kind → Kind → Kind → EventKind
event_of (k.Symbol s.OpenAttribute) b c = v.OpenJoined
event_of (k.Symbol s.OpenParen) (k.Symbol s.Star) c = v.Spaced
event_of (k.Symbol s.OpenParen) (k.Symbol s.CloseAttribute) c = v.CloseJoined
event_of (k.Symbol s.OpenParen) (k.Keyword word.Posedge) (k.Name text) = v.Posedge text
event_of a b c = v.Bare

abbrev seen : List Token → EventKind
seen ts = event_of (first ts) (first (behind ts)) (first (behind (behind ts)))

rest_by : EventKind → List Token → List Token
rest_by v.Bare ts = behind ts
rest_by v.Spaced ts = behind (behind (behind ts))
rest_by v.OpenJoined ts = behind (behind ts)
rest_by v.CloseJoined ts = behind (behind ts)
rest_by (v.Posedge text) ts = behind (behind (behind (behind ts)))

next_tail : (kind : Kind) (ts m : List Token) → IsNext kind ts m → behind ts ≡ m
next_tail kind [] m h = absurd h
next_tail kind (t ∷ ts) m h = h.1

event_seen : (x : EventKind) (ts r : List Token) → Spells (spell_event_kind x) ts r → (x ≡ seen ts) × (r ≡ rest_by x ts)
unfolding rest_by
event_seen v.Bare ts r h = (
  sym (ap (λ a. event_of a (first (behind ts)) (first (behind (behind ts)))) (next_first _ ts r h)),
  sym
      (next_tail _ ts r h),
)
event_seen v.Spaced ts r (m, (m2, h, i), c) =
    let e : behind ts ≡ m2 = next_tail _ ts m2 h in
    let f : behind m2 ≡ m = next_tail _ m2 m i in (
      sym ((λ z. event_of (next_first _ ts m2 h z) (first (e z)) (first (behind (e z))))
          ∙ ap (λ a. event_of (k.Symbol s.OpenParen) a (first (behind m2))) (next_first _ m2 m i)),
      sym (ap (λ us. behind (behind us)) e ∙ ap behind f ∙ next_tail _ m r c),
    )
event_seen v.OpenJoined ts r (m, h, c) = (
  sym (ap (λ a. event_of a (first (behind ts)) (first (behind (behind ts)))) (next_first _ ts m h)),
  sym
      (ap behind (next_tail _ ts m h) ∙ next_tail _ m r c),
)
event_seen v.CloseJoined ts r (m, h, c) = (
  sym ((λ z. event_of (next_first _ ts m h z) (first (next_tail _ ts m h z)) (first (behind (next_tail _ ts m h z))))
      ∙ ap (λ a. event_of (k.Symbol s.OpenParen) a (first (behind m))) (next_first _ m r c)),
  sym (ap behind (next_tail _ ts m h) ∙ next_tail _ m r c),
)
event_seen (v.Posedge text) ts r (m, (m2, h, (m3, i, j)), c) =
    let e : behind ts ≡ m2 = next_tail _ ts m2 h in
    let f : behind m2 ≡ m3 = next_tail _ m2 m3 i in
    let g : behind m3 ≡ m = next_tail _ m3 m j in (
      sym ((λ z. event_of (next_first _ ts m2 h z) (first (e z)) (first (behind (e z))))
          ∙ (λ z. event_of (k.Symbol s.OpenParen) (next_first _ m2 m3 i z) (first (f z)))
          ∙ ap (λ a. event_of (k.Symbol s.OpenParen) (k.Keyword word.Posedge) a) (next_first _ m3 m j)),
      sym (ap (λ us. behind (behind (behind us))) e ∙ ap (λ us. behind (behind us)) f ∙ ap behind g
          ∙ next_tail _ m r c),
    )

pub event_one : (x y : Event) (ts us r q : List Token) → ts ≡ us → Spells (spell_event x) ts r
    → Spells (spell_event y) us q → (x ≡ y) × (r ≡ q)
event_one x y ts us r q e (g, h) (g2, h2) =
    let (kind, end) = event_seen x.kind ts r h in
    let (kind2, end2) = event_seen y.kind us q h2 in
    let same : x.kind ≡ y.kind = kind ∙ ap seen e ∙ sym kind2 in (
      (λ z. record { pos = one_place x.pos y.pos ts us e g g2 z; kind = same z }),
      end ∙ (λ z. rest_by (same z) (e z))
          ∙ sym end2,
    )

-- connections
abbrev is_close : Kind → Bool
is_close (k.Symbol s.CloseParen) = true
is_close t = false

plain_open : (t : Kind) → Plain t → is_close t ≡ false
plain_open (k.Symbol s.CloseParen) h = absurd h
plain_open (k.Symbol x) h = refl
plain_open t h = refl

optional_one : (x y : Option Expr) (ts us m o r q : List Token) → ts ≡ us → IsValue x → IsValue y
    → Spells (spell_optional x) ts m
    → Spells (spell_optional y) us o → IsNext (k.Symbol s.CloseParen) m r → IsNext (k.Symbol s.CloseParen) o q
    → (x ≡ y) × (r ≡ q)
optional_one None None ts us m o r q e w v h i a b = (refl, one_rest _ _ m o r q (sym h ∙ e ∙ i) a b)
optional_one (Some x) (Some y) ts us m o r q e w v h i a b =
    let (same, end) = one_expr x y ts us m o e w v h i (closed_by _ m r a refl refl) (closed_by _ o q b refl refl) in
    (ap Some same, one_rest _ _ m o r q end a b)
optional_one None (Some y) ts us m o r q e w v h i a b =
    apart (sym (plain_open (first us) (expr_first y us o v i)) ∙ ap (λ vs. is_close (first vs)) (sym e ∙ h)
    ∙ ap is_close (next_first _ m r a))
optional_one (Some x) None ts us m o r q e w v h i a b =
    apart (sym (plain_open (first ts) (expr_first x ts m w h)) ∙ ap (λ vs. is_close (first vs)) (e ∙ i)
    ∙ ap is_close (next_first _ o q b))

connection_one : (x y : Connection) (ts us r q : List Token) → ts ≡ us → IsConnection x → IsConnection y
    → Spells (spell_connection x) ts r
    → Spells (spell_connection y) us q → After r → After q → (x ≡ y) × (r ≡ q)
connection_one x y ts us r q e w v (g, (m, h, (m2, i, (m3, (m4, j, l), c))))
    (g2, (o, h2, (o2, i2, (o3, (o4, j2, l2), c2)))) a b =
    let dot = one_rest _ _ ts us m o e h h2 in
    let name = one_rest _ _ m o m2 o2 dot i i2 in
    let (value, end) = optional_one x.value y.value m4 o4 m3 o3 r q
    (one_rest _ _ m2 o2 m4 o4 name j j2) w.1 v.1 l l2 c c2 in (
      (λ z. record {
        pos = one_place x.pos y.pos ts us e g g2 z;
        port = name_same x.port y.port (one_kind _ _ m o m2 o2 dot i i2) z;
        value = value z;
      }),
      end,
    )

connections_one : (vs ws : List Connection) (ts us r q : List Token) → ts ≡ us → All IsConnection vs
    → All IsConnection ws
    → Spells (spell_connections vs) ts r → Spells (spell_connections ws) us q → (vs ≡ ws) × (r ≡ q)
connections_one [] [] ts us r q e w v (m, (m2, h, i), c) (o, (o2, h2, i2), c2) =
    (refl, one_rest _ _ m o r q (sym i ∙ one_rest _ _ ts us m2 o2 e h h2 ∙ i2) c c2)
connections_one (x ∷ vs) (y ∷ ws) ts us r q e w v (m, (m2, h, i), c) (o, (o2, h2, i2), c2) =
    list_one spell_connection IsConnection (k.Symbol s.CloseParen) refl
    (λ vs us f. after_by (k.Symbol s.CloseParen) vs us f refl refl refl refl)
    connection_one x y vs ws m2 o2 m o r q (one_rest _ _ ts us m2 o2 e h h2) w v i i2 c c2
connections_one [] (y ∷ ws) ts us r q e w v (m, (m2, h, i), c) (o, (o2, h2, (o3, (g, (o4, j, l)), l2)), c2) =
    differ is_close _ _ m o2 r o4 (sym i ∙ one_rest _ _ ts us m2 o2 e h h2) c j refl refl
connections_one (x ∷ vs) [] ts us r q e w v (m, (m2, h, (m3, (g, (m4, j, l)), l2)), c) (o, (o2, h2, i2), c2) =
    differ is_close _ _ o m2 q m4 (sym i2 ∙ sym (one_rest _ _ ts us m2 o2 e h h2)) c2 j refl refl

abbrev is_hash : Kind → Bool
is_hash (k.Symbol s.Hash) = true
is_hash t = false

overrides_one : (x y : Option (List Connection)) (ts us r q m o : List Token) (text text2 : List ℕ) → ts ≡ us
    → AreOverrides x → AreOverrides y
    → Spells (spell_overrides x) ts r → Spells (spell_overrides y) us q → IsNext (k.Name text) r m
    → IsNext (k.Name text2) q o → (x ≡ y) × (r ≡ q)
overrides_one None None ts us r q m o t t2 e w v h i a b = (refl, sym h ∙ e ∙ i)
overrides_one (Some x) (Some y) ts us r q m o t t2 e w v (m2, h, i) (o2, h2, i2) a b =
    let (same, end) = connections_one x y m2 o2 r q (one_rest _ _ ts us m2 o2 e h h2) w v i i2 in (ap Some same, end)
overrides_one None (Some y) ts us r q m o t t2 e w v h (o2, h2, i2) a b =
    differ is_hash _ _ us r o2 m (sym e ∙ h) h2 a refl refl
overrides_one (Some x) None ts us r q m o t t2 e w v (m2, h, i) h2 a b =
    differ is_hash _ _ ts q m2 o (e ∙ h2) h b refl refl

pub instance_one : (x y : Instance) (ts us r q : List Token) → ts ≡ us → IsInstance x → IsInstance y
    → Spells (spell_instance x) ts r
    → Spells (spell_instance y) us q → (x ≡ y) × (r ≡ q)
instance_one x y ts us r q e w v (m, h, (m2, i, (m3, j, (m4, l, c)))) (o, h2, (o2, i2, (o3, j2, (o4, l2, c2)))) =
    let start = one_rest _ _ ts us m o e h h2 in
    let (overrides, middle) =
    overrides_one x.overrides y.overrides m o m2 o2 m3 o3 x.name y.name start w.1 v.1 i i2 j j2 in
    let (connections, end) = connections_one x.connections y.connections m3 o3 m4 o4
    (one_rest _ _ m2 o2 m3 o3 middle j j2) w.3 v.3 l l2 in (
      (λ z. record {
        definition = name_same x.definition y.definition (one_kind _ _ ts us m o e h h2) z;
        overrides = overrides z;
        name = name_same x.name y.name (one_kind _ _ m2 o2 m3 o3 middle j j2) z;
        connections = connections z;
      }),
      one_rest _ _ m4 o4 r q end c c2,
    )

-- heads of loops
pub head_one : (x y : LoopHead) (ts us r q : List Token) → ts ≡ us → IsHead x → IsHead y → Spells (spell_head x) ts r
    → Spells (spell_head y) us q
    → (x ≡ y) × (r ≡ q)
unfolding spell_head
head_one x y ts us r q e w v
    (m, (m2, h, (m3, (m4, n1, (m5, e1, x1)), (m6, s1, (m7, x2, (m8, s2, (m9, n2, (m10, e2, x3))))))), c)
    (o, (o2, h2, (o3, (o4, n3, (o5, e3, y1)), (o6, s3, (o7, y2, (o8, s4, (o9, n4, (o10, e4, y3))))))), c2) =
    let bracket = one_rest _ _ ts us m2 o2 e h h2 in
    let name = one_rest _ _ m2 o2 m4 o4 bracket n1 n3 in
    let (start, at_semicolon) = one_expr x.start y.start m5 o5 m3 o3 (one_rest _ _ m4 o4 m5 o5 name e1 e3) w.2 v.2 x1 y1
    (closed_by _ m3 m6 s1 refl refl) (closed_by _ o3 o6 s3 refl refl) in
    let (condition, at_second) = one_expr x.condition y.condition m6 o6 m7 o7
    (one_rest _ _ m3 o3 m6 o6 at_semicolon s1 s3) w.3 v.3 x2 y2
    (closed_by _ m7 m8 s2 refl refl) (closed_by _ o7 o8 s4 refl refl) in
    let again = one_rest _ _ m7 o7 m8 o8 at_second s2 s4 in
    let behind_name = one_rest _ _ m8 o8 m9 o9 again n2 n4 in
    let (next, end) = one_expr x.next y.next m10 o10 m o (one_rest _ _ m9 o9 m10 o10 behind_name e2 e4) w.4 v.4 x3 y3
    (closed_by _ m r c refl refl) (closed_by _ o q c2 refl refl) in (
      (λ z. record {
        variable = name_same x.variable y.variable (one_kind _ _ m2 o2 m4 o4 bracket n1 n3) z;
        start = start z;
        condition = condition z;
        next_variable = name_same x.next_variable y.next_variable (one_kind _ _ m8 o8 m9 o9 again n2 n4) z;
        next = next z;
      }),
      one_rest _ _ m o r q end c c2,
    )
