-- What is read of signs, of names, and at the end.
use Rattle.std.proofs.Common.{◌≡◌, ℕ, zero, suc, ◌==◌, Bool, true, false, List, [], ◌∷◌, length, refl, sym, ap, ◌∙◌}
use Rattle.std.proofs.Common.{arith}
use Rattle.std.specs.Prelude.{Ok, Err}
use Rattle.fv_text.specs.declared.kind.Kind.{Kind}
use Rattle.fv_text.specs.declared.kind.Kind.TheVariants as k
use Rattle.fv_text.specs.declared.symbol.Symbol.{Symbol}
use Rattle.fv_text.specs.declared.symbol.Symbol.TheVariants as s
use Rattle.vl_parse_grammar.specs.Machine as machine
use Rattle.vl_parse_grammar.specs.Machine.{take, bad, syntax}
use Rattle.vl_parse_grammar.specs.Signs.{place, same_sign}
use Rattle.vl_parse_grammar.specs.Grammar.{read, sign, name, take_if}
use Rattle.fv_text.specs.declared.token.Token.{Token}
use Rattle.vl_parse_cursor.specs.Next.{IsOther, behind, behind_name, kinds_in}
use Rattle.vl_parse_cursor.specs.Parts.{row_read, row_bad}

equal_here : (n : ℕ) → (n == n) ≡ true
equal_here n = grind arith

equal_same : (a b : ℕ) → (a == b) ≡ true → a ≡ b
equal_same a b h = grind (arith, h)

-- the sign at a place in a list
sign_in : List Symbol → ℕ → Symbol
sign_in [] n = s.MinusColon
sign_in (w ∷ ws) zero = w
sign_in (w ∷ ws) (suc n) = sign_in ws n

sign_at : ℕ → Symbol
sign_at n = sign_in (s.OpenParen ∷ s.CloseParen ∷ s.OpenBracket ∷ s.CloseBracket ∷ s.OpenBrace ∷ s.CloseBrace
    ∷ s.OpenAttribute ∷ s.CloseAttribute ∷ s.Semicolon ∷ s.Colon ∷ s.Comma ∷ s.Dot ∷ s.Hash ∷ s.At ∷ s.Equal
    ∷ s.Question ∷ s.Plus ∷ s.Minus ∷ s.Star ∷ s.Slash ∷ s.Percent ∷ s.StarStar ∷ s.Bang ∷ s.Tilde ∷ s.And ∷ s.Or
    ∷ s.Caret ∷ s.TildeAnd ∷ s.TildeOr ∷ s.TildeCaret ∷ s.CaretTilde ∷ s.AndAnd ∷ s.OrOr ∷ s.Less ∷ s.LessEqual
    ∷ s.Greater ∷ s.GreaterEqual ∷ s.EqualEqual ∷ s.BangEqual ∷ s.EqualEqualEqual ∷ s.BangEqualEqual ∷ s.LessLess
    ∷ s.GreaterGreater ∷ s.LessLessLess ∷ s.GreaterGreaterGreater ∷ s.PlusColon ∷ s.MinusColon ∷ []) n

sign_at_place : (w : Symbol) → sign_at (place w) ≡ w
unfolding sign_at sign_in
sign_at_place s.OpenParen = refl
sign_at_place _ = refl

place_same : (a b : Symbol) → same_sign a b ≡ true → b ≡ a
place_same a b h = sym (sign_at_place b) ∙ ap sign_at (sym (equal_same (place a) (place b) h)) ∙ sign_at_place a

sign_here : (w : Symbol) (room : ℕ) (ts : List Kind) → read (sign w) room (k.Symbol w ∷ ts) ≡ Ok ts
sign_here w room ts = row_read (sign w) room (k.Symbol w) ts 0 [] (ap take_if (equal_here (place w))) (omega arith)

sign_other : (w found : Symbol) (room : ℕ) (ts : List Kind) (b : Bool) → same_sign w found ≡ b
    → (k.Symbol found ≡ k.Symbol w → ⊥)
    → read (sign w) room (k.Symbol found ∷ ts) ≡ Err (syntax (suc (length ts)))
sign_other w found room ts true e h = absurd (h (ap k.Symbol (place_same w found e)))
sign_other w found room ts false e h = row_bad (sign w) room (k.Symbol found) ts (ap take_if e)

sign_wrong : (w : Symbol) (room : ℕ) (ts : List Kind) → IsOther (k.Symbol w) ts
    → read (sign w) room ts ≡ Err (syntax (length ts))
unfolding read machine.reads
sign_wrong w room [] h = refl
sign_wrong w room (k.Symbol found ∷ ts) h = sign_other w found room ts (same_sign w found) refl h
sign_wrong w room (t ∷ ts) h = row_bad (sign w) room t ts refl

pub sign_row : (w : Symbol) (room : ℕ) (ts : List Kind) → read (sign w) room ts ≡ behind w ts
unfolding behind
sign_row w room [] = sign_wrong w room [] tt ∙ sym (sign_wrong w 0 [] tt)
sign_row w room (k.Symbol found ∷ ts) = by_same (same_sign w found) refl
  where
    by_same : (b : Bool) → same_sign w found ≡ b
        → read (sign w) room (k.Symbol found ∷ ts) ≡ read (sign w) 0 (k.Symbol found ∷ ts)
    by_same true e = row_read (sign w) room (k.Symbol found) ts 0 [] (ap take_if e) (omega arith)
        ∙ sym (row_read (sign w) 0 (k.Symbol found) ts 0 [] (ap take_if e) (omega arith))
    by_same false e = row_bad (sign w) room (k.Symbol found) ts (ap take_if e)
        ∙ sym (row_bad (sign w) 0 (k.Symbol found) ts (ap take_if e))
sign_row w room (t ∷ ts) = row_bad (sign w) room t ts refl ∙ sym (row_bad (sign w) 0 t ts refl)

pub behind_here : (w : Symbol) (ts : List Kind) → behind w (k.Symbol w ∷ ts) ≡ Ok ts
unfolding behind
behind_here w ts = sign_here w 0 ts

pub behind_wrong : (w : Symbol) (ts : List Kind) → IsOther (k.Symbol w) ts → behind w ts ≡ Err (syntax (length ts))
unfolding behind
behind_wrong w ts h = sign_wrong w 0 ts h

pub name_here : (text : List ℕ) (ts : List Kind) → behind_name (k.Name text ∷ ts) ≡ Ok ts
unfolding behind_name
name_here text ts = row_read name 0 (k.Name text) ts 0 [] refl (omega arith)

pub name_end : behind_name [] ≡ Err (syntax 0)
unfolding behind_name read machine.reads
name_end = refl

pub kinds_length : (ts : List Token) → length (kinds_in ts) ≡ length ts
kinds_length [] = refl
kinds_length (t ∷ ts) = ap suc (kinds_length ts)

pub name_wrong : (t : Kind) (ts : List Kind) → ((text : List ℕ) → t ≡ k.Name text → ⊥)
    → behind_name (t ∷ ts) ≡ Err (syntax (suc (length ts)))
unfolding behind_name
name_wrong (k.Name text) ts h = absurd (h text refl)
name_wrong t ts h = row_bad name 0 t ts refl

pub name_row : (room : ℕ) (ts : List Kind) → read name room ts ≡ behind_name ts
unfolding behind_name read machine.reads
name_row room [] = refl
name_row room (k.Name text ∷ ts) = refl
name_row room (t ∷ ts) = refl

pub ruleset tokens = (behind_here, behind_wrong, name_here, name_end, name_wrong, kinds_length)
