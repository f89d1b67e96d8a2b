-- Two readings of one list of tokens, token by token.
use Rattle.std.proofs.Common.{◌≡◌, ℕ, ◌≤◌, ◌<◌, Bool, true, false, List, [], ◌∷◌, length, sym, ap, ◌∙◌, arith}
use Rattle.fv_text.specs.declared.kind.Kind.{Kind}
use Rattle.fv_text.specs.declared.kind.Kind.TheVariants as k
use Rattle.fv_text.specs.declared.pos.Pos.{Pos}
use Rattle.fv_text.specs.declared.token.Token.{Token}
use Rattle.fv_text.specs.declared.symbol.Symbol.{Symbol}
use Rattle.vl_tree.specs.Phrase.{Phrase, nothing, token, operator, ◌▸◌, at, within, level, BeginsAt, IsNext, Spells}
use Rattle.vl_parse_grammar.proofs.Steps.{apart}

abbrev pub first : List Token → Kind
first [] = k.Quoted
first (t ∷ ts) = t.kind

abbrev pub behind : List Token → List Token
behind [] = []
behind (t ∷ ts) = ts

abbrev pub place : List Token → Pos
place [] = record { file = 1; line = 1; col = 1 }
place (t ∷ ts) = t.pos

pub next_first : (kind : Kind) (ts m : List Token) → IsNext kind ts m → first ts ≡ kind
next_first kind [] m h = absurd h
next_first kind (t ∷ ts) m h = h.0

next_behind : (kind : Kind) (ts m : List Token) → IsNext kind ts m → behind ts ≡ m
next_behind kind [] m h = absurd h
next_behind kind (t ∷ ts) m h = h.1

pub next_shorter : (kind : Kind) (ts m : List Token) → IsNext kind ts m → length m < length ts
next_shorter kind [] m h = absurd h
next_shorter kind (t ∷ ts) m h = (let e : length ts ≡ length m = ap length h.1 in omega (arith, e))

begins_place : (p : Pos) (ts : List Token) → BeginsAt p ts → place ts ≡ p
begins_place p [] h = absurd h
begins_place p (t ∷ ts) h = h

-- what is behind the token
pub one_rest : (a b : Kind) (ts us m o : List Token) → ts ≡ us → IsNext a ts m → IsNext b us o → m ≡ o
one_rest a b ts us m o e h i = sym (next_behind a ts m h) ∙ ap behind e ∙ next_behind b us o i

pub one_kind : (a b : Kind) (ts us m o : List Token) → ts ≡ us → IsNext a ts m → IsNext b us o → a ≡ b
one_kind a b ts us m o e h i = sym (next_first a ts m h) ∙ ap first e ∙ next_first b us o i

pub one_place : (p q : Pos) (ts us : List Token) → ts ≡ us → BeginsAt p ts → BeginsAt q us → p ≡ q
one_place p q ts us e h i = sym (begins_place p ts h) ∙ ap place e ∙ begins_place q us i

-- no token is of both kinds
pub differ : {A : Type 0} (test : Kind → Bool) (a b : Kind) (ts us m o : List Token) → ts ≡ us → IsNext a ts m
    → IsNext b us o
    → test a ≡ true → test b ≡ false → A
differ test a b ts us m o e h i g f = apart (sym f ∙ sym (ap test (one_kind a b ts us m o e h i)) ∙ g)

pub shorter : (a : Phrase) (ts m : List Token) → Spells a ts m → length m ≤ length ts
shorter nothing ts m h = (let e : length ts ≡ length m = ap length h in omega (arith, e))
shorter (token kind) ts m h = omega (arith, next_shorter kind ts m h)
shorter (operator kind) ts m h = omega (arith, next_shorter kind ts m h)
shorter (a ▸ b) ts m h = omega (arith, shorter a ts h.0 h.1, shorter b h.0 m h.2)
shorter (at p a) ts m h = shorter a ts m h.1
shorter (within a) ts m h = shorter a ts m h
shorter (level a) ts m h = shorter a ts m h

pub symbol_same : (x y : Symbol) → k.Symbol x ≡ k.Symbol y → x ≡ y
symbol_same x y h = ap (λ kind. sign_of x kind) h
  where
    sign_of : Symbol → Kind → Symbol
    sign_of z (k.Symbol x) = x
    sign_of z kind = z

pub name_same : (x y : List ℕ) → k.Name x ≡ k.Name y → x ≡ y
name_same x y h = ap (λ kind. text_of x kind) h
  where
    text_of : List ℕ → Kind → List ℕ
    text_of z (k.Name x) = x
    text_of z kind = z
