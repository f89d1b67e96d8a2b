-- What single tokens are that the machine takes.
use Rattle.std.proofs.Common.{◌≡◌, ℕ, zero, suc, Bool, true, false, ◌==◌, List, [], ◌∷◌, Option, Some, None, refl}
use Rattle.std.proofs.Common.{sym, ap, ◌∙◌, eqb-true}
use Rattle.std.specs.Prelude.{get_or, bytes_eq}
use Rattle.std.proofs.lemmas.Slice.Eq.{bytes_eq-Decides}
use Rattle.fv_text.specs.declared.kind.Kind.TheVariants as k
use Rattle.fv_text.specs.declared.keyword.Keyword.TheVariants as word
use Rattle.fv_text.specs.declared.number.Number.{Number}
use Rattle.fv_text.specs.declared.symbol.Symbol.{Symbol}
use Rattle.fv_text.specs.declared.symbol.Symbol.TheVariants as s
use Rattle.vl_tree.specs.declared.operator.UnaryOperator.{UnaryOperator}
use Rattle.vl_tree.specs.declared.operator.BinaryOperator.{BinaryOperator}
use Rattle.vl_tree.specs.declared.operator.Cast.{Cast}
use Rattle.vl_tree.specs.declared.operator.Cast.TheVariants as c
use Rattle.vl_tree.specs.ExprSpelling.{unary_sign, binary_sign, cast_name}
use Rattle.vl_tree.specs.ExprWellFormed.{IsKnown, IsName}
use Rattle.vl_parse_grammar.specs.Operators.{unary_of, binary_of, cast_of, cast_unless}
use Rattle.vl_parse_grammar.specs.Signs.{place, same_sign}
use Rattle.vl_parse_grammar.specs.Grammar.{sign, name, this_name, the_parameter, is_known, take_if, Moves}
use Rattle.vl_parse_grammar.proofs.Named.{Named, Derives, plain}
use Rattle.vl_parse_grammar.proofs.Runs as runs
use Rattle.vl_parse_grammar.proofs.Steps.{apart}
use Rattle.vl_parse_grammar.proofs.Viable.{both}

abbrev pub Moved : ℕ → Named → List Named → List Named → Moves → Type 0
Moved d t ts rest m = runs.Moved (λ y us vs. Derives d y us vs) t ts rest m

unary_back : (x : Symbol) → (elim (unary_of x) as (λ _. Symbol) [ Some op ↦ unary_sign op | None ↦ x ]) ≡ x
unary_back s.Plus = refl
unary_back x = refl

pub unary_same : (x : Symbol) (op : UnaryOperator) → unary_of x ≡ Some op → x ≡ unary_sign op
unary_same x op e = sym (unary_back x) ∙ ap (λ o. elim o as (λ _. Symbol) [ Some op ↦ unary_sign op | None ↦ x ]) e

binary_back : (x : Symbol) → (elim (binary_of x) as (λ _. Symbol) [ Some op ↦ binary_sign op | None ↦ x ]) ≡ x
binary_back s.Plus = refl
binary_back x = refl

pub binary_same : (x : Symbol) (op : BinaryOperator) → binary_of x ≡ Some op → x ≡ binary_sign op
binary_same x op e = sym (binary_back x) ∙ ap (λ o. elim o as (λ _. Symbol) [ Some op ↦ binary_sign op | None ↦ x ]) e

-- all signs, in order
abbrev signs : List Symbol
signs = s.OpenParen ∷ s.CloseParen ∷ s.OpenBracket ∷ s.CloseBracket ∷ s.OpenBrace ∷ s.CloseBrace ∷ s.OpenAttribute
    ∷ s.CloseAttribute
    ∷ s.Semicolon ∷ s.Colon ∷ s.Comma ∷ s.Dot ∷ s.Hash ∷ s.At ∷ s.Equal ∷ s.Question ∷ s.Plus ∷ s.Minus ∷ s.Star
    ∷ s.Slash ∷ s.Percent
    ∷ s.StarStar ∷ s.Bang ∷ s.Tilde ∷ s.And ∷ s.Or ∷ s.Caret ∷ s.TildeAnd ∷ s.TildeOr ∷ s.TildeCaret ∷ s.CaretTilde
    ∷ s.AndAnd ∷ s.OrOr
    ∷ s.Less ∷ s.LessEqual ∷ s.Greater ∷ s.GreaterEqual ∷ s.EqualEqual ∷ s.BangEqual ∷ s.EqualEqualEqual
    ∷ s.BangEqualEqual ∷ s.LessLess
    ∷ s.GreaterGreater ∷ s.LessLessLess ∷ s.GreaterGreaterGreater ∷ s.PlusColon ∷ s.MinusColon ∷ []

sign_back : (x : Symbol) → get_or signs (place x) s.OpenParen ≡ x
sign_back s.OpenParen = refl
sign_back x = refl

-- signs are compared rightly
pub sign_same : (x y : Symbol) → same_sign x y ≡ true → x ≡ y
sign_same x y h =
    sym (sign_back x) ∙ ap (λ n. get_or signs n s.OpenParen) (eqb-true (place x) (place y) h) ∙ sign_back y

pub cast_text : (text : List ℕ) (to : Cast) → cast_of text ≡ Some to → text ≡ cast_name to
cast_text text to e = by_signed (bytes_eq text (cast_name c.Signed)) (bytes_eq text (cast_name c.Unsigned)) refl refl e
  where
    some_same : (x y : Cast) → Some x ≡ Some y → x ≡ y
    some_same x y h = cc

    none_some : (x : Cast) → None ≡ Some x → ⊥
    none_some x h = cc

    by_signed : (x y : Bool) → bytes_eq text (cast_name c.Signed) ≡ x → bytes_eq text (cast_name c.Unsigned) ≡ y
        → cast_unless (cast_unless None y c.Unsigned) x c.Signed ≡ Some to → text ≡ cast_name to
    by_signed true y h i e = (bytes_eq-Decides text (cast_name c.Signed)).0 h ∙ ap cast_name (some_same c.Signed to e)
    by_signed false true h i e =
        (bytes_eq-Decides text (cast_name c.Unsigned)).0 i ∙ ap cast_name (some_same c.Unsigned to e)
    by_signed false false h i e = absurd (none_some to e)

pub known_number : (n : Number) → is_known n ≡ true → IsKnown n
known_number n h =
    (let (e, f) = both (n.wild == 0) (n.unknown == 0) h in (eqb-true n.wild 0 e, eqb-true n.unknown 0 f))

if_taken : (d : ℕ) (t : Named) (ts rest : List Named) (b : Bool) → Moved d t ts rest (take_if b) → (b ≡ true)
    × (ts ≡ rest)
if_taken d t ts rest true h = (refl, h)
if_taken d t ts rest false h = absurd h

pub sign_tree : (d : ℕ) (x : Symbol) (ts rest : List Named) → Derives d (sign x) ts rest
    → plain ts ≡ k.Symbol x ∷ plain rest
sign_tree zero x ts rest h = absurd h
sign_tree (suc d) x [] rest h = apart h.0
sign_tree (suc d) x ((k.Symbol y, n) ∷ ts) rest h =
    let (e, f) = if_taken d (k.Symbol y, n) ts rest (same_sign x y) h in
    (λ i. k.Symbol (sym (sign_same x y e) i) ∷ plain (f i))
sign_tree (suc d) x (t ∷ ts) rest h = absurd h

pub record NameAt (ts rest : List Named) : Type 0 where
  pub text : List ℕ
  pub fine : IsName text
  pub same : plain ts ≡ k.Name text ∷ plain rest

pub name_tree : (d : ℕ) (ts rest : List Named) → Derives d name ts rest → NameAt ts rest
name_tree zero ts rest h = absurd h
name_tree (suc d) [] rest h = apart h.0
name_tree (suc d) ((k.Name text, n) ∷ ts) rest h =
    record { text = text; fine = n; same = ap (λ us. k.Name text ∷ plain us) h }
name_tree (suc d) (t ∷ ts) rest h = absurd h

-- the name that has to come again
pub again_tree : (d : ℕ) (text : List ℕ) (ts rest : List Named) → Derives d (this_name text) ts rest
    → plain ts ≡ k.Name text ∷ plain rest
again_tree zero text ts rest h = absurd h
again_tree (suc d) text [] rest h = apart h.0
again_tree (suc d) text ((k.Name other, n) ∷ ts) rest h =
    let (e, f) = if_taken d (k.Name other, n) ts rest (bytes_eq other text) h in
    (λ i. k.Name ((bytes_eq-Decides other text).0 e i) ∷ plain (f i))
again_tree (suc d) text (t ∷ ts) rest h = absurd h

pub parameter_word_tree : (d : ℕ) (ts rest : List Named) → Derives d the_parameter ts rest
    → plain ts ≡ k.Keyword word.Parameter ∷ plain rest
parameter_word_tree zero ts rest h = absurd h
parameter_word_tree (suc d) [] rest h = apart h.0
parameter_word_tree (suc d) ((k.Keyword word.Parameter, n) ∷ ts) rest h =
    ap (λ us. k.Keyword word.Parameter ∷ plain us) h
parameter_word_tree (suc d) ((k.Keyword x, n) ∷ ts) rest h = absurd h
parameter_word_tree (suc d) (t ∷ ts) rest h = absurd h
