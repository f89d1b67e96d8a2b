-- No two well formed sources are spelled by one list of tokens.
use Rattle.std.proofs.Common.{◌≡◌, Bool, true, false, List, [], ◌∷◌, Option, Some, None, refl, sym, ap, ◌∙◌}
use Rattle.std.specs.Prelude.{All}
use Rattle.std.proofs.lemmas.List.Elements.{All-head, All-tail}
use Rattle.fv_text.specs.declared.kind.Kind.{Kind}
use Rattle.fv_text.specs.declared.kind.Kind.TheVariants as k
use Rattle.fv_text.specs.declared.pos.Pos.{Pos}
use Rattle.fv_text.specs.declared.symbol.Symbol.TheVariants as s
use Rattle.fv_text.specs.declared.token.Token.{Token}
use Rattle.vl_tree.specs.declared.declaration.HeaderParameter.{HeaderParameter}
use Rattle.vl_tree.specs.declared.declaration.Port.{Port}
use Rattle.vl_tree.specs.declared.source.Module.{Module}
use Rattle.vl_tree.specs.declared.source.Source.{Source}
use Rattle.vl_tree.specs.Item.{Item, Items, no_items, more_items, items}
use Rattle.vl_tree.specs.ItemSpelling.{spell_parameters, spell_ports, spell_module, spell_modules, spell_source}
use Rattle.vl_tree.specs.Phrase.{each, IsNext, Spells}
use Rattle.vl_tree.specs.WellFormed.{AreOptionalParameters, AreOptionalPorts, IsModule, HasPlace, IsSource}
use Rattle.vl_parse_grammar.specs.Grammar.{endmodule}
use Rattle.vl_parse_grammar.proofs.OneToken.{first, one_rest, one_kind, one_place, differ, name_same}
use Rattle.vl_parse_grammar.proofs.OneExpr.{by_first}
use Rattle.vl_parse_grammar.proofs.OneDeclaration.{clash_next}
use Rattle.vl_parse_grammar.proofs.OnePort.{headers_one, ports_one}
use Rattle.vl_parse_grammar.proofs.OneItem.{one_items}

abbrev is_no_hash : Kind → Bool
is_no_hash (k.Symbol s.Hash) = false
is_no_hash t = true

abbrev is_open : Kind → Bool
is_open (k.Symbol s.OpenParen) = true
is_open t = false

ports_same : (x y : Option (List Port)) (ts us m o r q : List Token) → ts ≡ us → AreOptionalPorts x
    → AreOptionalPorts y → Spells (spell_ports x) ts m
    → Spells (spell_ports y) us o → IsNext (k.Symbol s.Semicolon) m r → IsNext (k.Symbol s.Semicolon) o q → (x ≡ y)
    × (r ≡ q)
ports_same None None ts us m o r q e w v h i a b = (refl, one_rest _ _ m o r q (sym h ∙ e ∙ i) a b)
ports_same (Some x) (Some y) ts us m o r q e w v (m2, (m3, h, j), c) (o2, (o3, i, l), d) a b =
    let (same, end) = ports_one x y m3 o3 m2 o2 m o (one_rest _ _ ts us m3 o3 e h i) w v j l c d
    in (ap Some same, one_rest _ _ m o r q end a b)
ports_same None (Some y) ts us m o r q e w v h (o2, (o3, i, l), d) a b =
    differ is_open _ _ us m o3 r (sym e ∙ h) i a refl refl
ports_same (Some x) None ts us m o r q e w v (m2, (m3, h, j), c) i a b =
    differ is_open _ _ ts o m3 q (e ∙ i) h b refl refl

ports_no_hash : (x : Option (List Port)) (ts m r : List Token) → Spells (spell_ports x) ts m
    → IsNext (k.Symbol s.Semicolon) m r → is_no_hash (first ts) ≡ true
ports_no_hash None ts m r h i = ap (λ us. is_no_hash (first us)) h ∙ by_first is_no_hash _ m r i refl
ports_no_hash (Some x) ts m r (m2, (m3, h, j), c) i = by_first is_no_hash _ ts m3 h refl

parameters_same : (x y : Option (List HeaderParameter)) (ts us r q : List Token) → ts ≡ us → AreOptionalParameters x
    → AreOptionalParameters y
    → Spells (spell_parameters x) ts r → Spells (spell_parameters y) us q → is_no_hash (first r) ≡ true
    → is_no_hash (first q) ≡ true → (x ≡ y) × (r ≡ q)
parameters_same None None ts us r q e w v h i a b = (refl, sym h ∙ e ∙ i)
parameters_same (Some x) (Some y) ts us r q e w v (m, h, (m2, (m3, j, l), c)) (o, i, (o2, (o3, j2, l2), d)) a b =
    let (same, end) = headers_one x y m3 o3 m2 o2 r q
    (one_rest _ _ m o m3 o3 (one_rest _ _ ts us m o e h i) j j2) w v l l2 c d in (ap Some same, end)
parameters_same None (Some y) ts us r q e w v h (o, i, l) a b =
    clash_next is_no_hash (k.Symbol s.Hash) us o r i (sym e ∙ h) refl a
parameters_same (Some x) None ts us r q e w v (m, h, j) i a b =
    clash_next is_no_hash (k.Symbol s.Hash) ts m q h (e ∙ i) refl b

-- lists of items are one where they are one as trees
items_inside : (vs ws : List Item) → items vs ≡ items ws → vs ≡ ws
items_inside vs ws h = sym (back vs) ∙ ap list_of h ∙ back ws
  where
    list_of : Items → List Item
    list_of no_items = []
    list_of (more_items x xs) = x ∷ list_of xs

    back : (vs : List Item) → list_of (items vs) ≡ vs
    back [] = refl
    back (x ∷ vs) = ap (λ r. x ∷ r) (back vs)

module_same : (x y : Module) (ts us r q : List Token) → ts ≡ us → IsModule x → IsModule y
    → Spells (spell_module x) ts r → Spells (spell_module y) us q
    → (x ≡ y) × (r ≡ q)
module_same x y ts us r q e w v (g, (m, h, (m2, i, (m3, j, (m4, l, (m5, c, (m6, t, d)))))))
    (g2, (o, h2, (o2, i2, (o3, j2, (o4, l2, (o5, c2, (o6, t2, d2))))))) =
    let start = one_rest _ _ ts us m o e h h2 in
    let (parameters, head) = parameters_same x.parameters y.parameters m2 o2 m3 o3
    (one_rest _ _ m o m2 o2 start i i2) w.1 v.1 j j2
    (ports_no_hash x.ports m3 m4 m5 l c) (ports_no_hash y.ports o3 o4 o5 l2 c2) in
    let (ports, body) = ports_same x.ports y.ports m3 o3 m4 o4 m5 o5 head w.2 v.2 l l2 c c2 in
    let (all, end) = one_items (items x.items) (items y.items)
    (Some 0) endmodule m5 o5 m6 o6 r q body w.3 v.3 w.4 v.4 t t2 d d2 in (
      (λ z. record {
        pos = one_place x.pos y.pos ts us e g g2 z;
        name = name_same x.name y.name (one_kind _ _ m o m2 o2 start i i2) z;
        parameters = parameters z;
        ports = ports z;
        items = items_inside x.items y.items all z;
      }),
      end,
    )

no_token : {A : Type 0} (kind : Kind) (ts m : List Token) → IsNext kind ts m → ts ≡ [] → A
no_token kind [] m h e = absurd h
no_token kind (t ∷ ts) m h e = absurd (no e)
  where
    no : t ∷ ts ≡ [] → ⊥
    no e = cc

modules_same : (vs ws : List Module) (ts us : List Token) → ts ≡ us → All IsModule vs → All IsModule ws
    → Spells (each spell_module vs) ts []
    → Spells (each spell_module ws) us [] → vs ≡ ws
modules_same [] [] ts us e w v h i = refl
modules_same (x ∷ vs) (y ∷ ws) ts us e w v (m, h, j) (o, i, l) =
    let (same, rest_same) = module_same x y ts us m o e (All-head IsModule x vs w) (All-head IsModule y ws v) h i in
    (λ z. same z ∷ modules_same vs ws m o rest_same (All-tail IsModule x vs w) (All-tail IsModule y ws v) j l z)
modules_same [] (y ∷ ws) ts us e w v h (o, (g, (o2, i, j)), l) = no_token _ us o2 i (sym e ∙ h)
modules_same (x ∷ vs) [] ts us e w v (m, (g, (m2, h, j)), l) i = no_token _ ts m2 h (e ∙ i)

source_by : (p q : Pos) (vs ws : List Module) (ts : List Token) → HasPlace p vs → HasPlace q ws → All IsModule vs
    → All IsModule ws
    → Spells (spell_modules p vs) ts [] → Spells (spell_modules q ws) ts [] → (p ≡ q) × (vs ≡ ws)
source_by p q [] [] ts a b w v h i = (a ∙ sym b, refl)
source_by p q (x ∷ vs) (y ∷ ws) ts a b w v (g, h) (g2, i) =
    (one_place p q ts ts refl g g2, modules_same (x ∷ vs) (y ∷ ws) ts ts refl w v h i)
source_by p q [] (y ∷ ws) ts a b w v h (g2, (o, (g, (o2, i, j)), l)) = no_token _ ts o2 i h
source_by p q (x ∷ vs) [] ts a b w v (g2, (m, (g, (m2, h, j)), l)) i = no_token _ ts m2 h i

-- no two sources are spelled by one list
pub one_source : (x y : Source) (ts : List Token) → IsSource x → IsSource y → Spells (spell_source x) ts []
    → Spells (spell_source y) ts [] → x ≡ y
one_source x y ts w v h i =
    let (place, modules) = source_by x.pos y.pos x.modules y.modules ts w.0 v.0 w.1 v.1 h i in
    (λ z. record { pos = place z; modules = modules z })
