-- A text has one list of tokens, and one first fault.
use Rattle.std.proofs.Common.{◌≡◌, ℕ, ◌%◌, ◌^◌, Bool, true, false, List, [], ◌∷◌, Some, None, refl, ap, sym, ◌∙◌}
use Rattle.fv_text.specs.declared.kind.Kind.{Kind}
use Rattle.fv_text.specs.declared.kind.Kind.TheVariants as k
use Rattle.fv_text.specs.declared.number.Number.{Number}
use Rattle.fv_text.specs.declared.pos.Pos.{Pos}
use Rattle.fv_text.specs.declared.symbol.Symbol.{Symbol}
use Rattle.fv_text.specs.declared.token.Token.{Token}
use Rattle.vl_token.specs.Numeral.{Numeral, plain, based, Format}
use Rattle.vl_token.specs.Number.{Means, MeansPlain, MeansBased, number_by, worth, radix, mark_radix, digits_of}
use Rattle.vl_token.specs.Number.{bits_of}
use Rattle.vl_token.specs.Numeral.{is_wild, is_unknown}
use Rattle.vl_token.specs.Piece.{Piece, blank, line_comment, block_comment, word, number, sign, system, tick, quoted}
use Rattle.vl_token.specs.Piece.{continue, text_of}
use Rattle.vl_token.specs.Place.{place_after}
use Rattle.vl_token.specs.Tokens.{is_token, IsKind, IsFirstToken, Takes, AreOf}
use Rattle.vl_token.proofs.Same.{same_token, same_number}

-- a written number means one number
one_based : (f : Format) (m n : Number) → MeansBased f m → MeansBased f n → m ≡ n
one_based f m n a b =
    let w : m.width ≡ n.width = a.width ∙ sym b.width in
    same_number m n (a.sized ∙ sym b.sized) (a.signed ∙ sym b.signed) w
    (a.value ∙ (ap (λ z. number_by worth (radix f.base) (digits_of f.digits) % 2 ^ z) w ∙ sym b.value))
    (a.wild ∙ (ap (λ z. bits_of is_wild (mark_radix f.base) z (digits_of f.digits)) w ∙ sym b.wild))
    (a.unknown ∙ (ap (λ z. bits_of is_unknown (mark_radix f.base) z (digits_of f.digits)) w ∙ sym b.unknown))

one_plain : (ds : List ℕ) (m n : Number) → MeansPlain ds m → MeansPlain ds n → m ≡ n
one_plain ds m n a b =
    same_number m n (a.sized ∙ sym b.sized) (a.signed ∙ sym b.signed) (a.width ∙ sym b.width) (a.value ∙ sym b.value)
    (a.wild ∙ sym b.wild) (a.unknown ∙ sym b.unknown)

one_number : (w : Numeral) (m n : Number) → Means w m → Means w n → m ≡ n
one_number (plain ds) m n a b = one_plain ds m n a.1 b.1
one_number (based f) m n a b = one_based f m n a.1 b.1

-- a piece is of one kind
word_kind : (w : List ℕ) (i j : Kind) → IsKind (word w) i → IsKind (word w) j → i ≡ j
word_kind w (k.Name a) (k.Name b) h g = ap (λ z. k.Name z) (h.0 ∙ sym g.0)
word_kind w (k.Name a) (k.Keyword b) h g = absurd (let e : None ≡ Some b = sym h.1 ∙ g in let f : ⊥ = cc in f)
word_kind w (k.Keyword a) (k.Name b) h g = absurd (let e : None ≡ Some a = sym g.1 ∙ h in let f : ⊥ = cc in f)
word_kind w (k.Keyword a) (k.Keyword b) h g =
    let e : Some a ≡ Some b = sym h ∙ g in let f : a ≡ b = cc in ap (λ z. k.Keyword z) f
word_kind w i (k.Symbol b) h g = absurd g
word_kind w i (k.Number b) h g = absurd g
word_kind w i (k.System b) h g = absurd g
word_kind w i (k.Tick b) h g = absurd g
word_kind w i k.Quoted h g = absurd g
word_kind w i k.Continue h g = absurd g
word_kind w (k.Symbol a) j h g = absurd h
word_kind w (k.Number a) j h g = absurd h
word_kind w (k.System a) j h g = absurd h
word_kind w (k.Tick a) j h g = absurd h
word_kind w k.Quoted j h g = absurd h
word_kind w k.Continue j h g = absurd h

number_is : (m : Numeral) (i : Kind) → IsKind (number m) i → (n : Number) × (i ≡ k.Number n) × Means m n
number_is m (k.Number n) h = (n, refl, h)
number_is m (k.Name n) h = absurd h
number_is m (k.Keyword n) h = absurd h
number_is m (k.Symbol n) h = absurd h
number_is m (k.System n) h = absurd h
number_is m (k.Tick n) h = absurd h
number_is m k.Quoted h = absurd h
number_is m k.Continue h = absurd h

sign_is : (s : Symbol) (i : Kind) → IsKind (sign s) i → i ≡ k.Symbol s
sign_is s (k.Name n) h = absurd h
sign_is s (k.Keyword n) h = absurd h
sign_is s (k.Symbol n) h = ap (λ z. k.Symbol z) h
sign_is s (k.Number n) h = absurd h
sign_is s (k.System n) h = absurd h
sign_is s (k.Tick n) h = absurd h
sign_is s k.Quoted h = absurd h
sign_is s k.Continue h = absurd h

system_is : (w : List ℕ) (i : Kind) → IsKind (system w) i → i ≡ k.System w
system_is w (k.Name n) h = absurd h
system_is w (k.Keyword n) h = absurd h
system_is w (k.Symbol n) h = absurd h
system_is w (k.Number n) h = absurd h
system_is w (k.System n) h = ap (λ z. k.System z) h
system_is w (k.Tick n) h = absurd h
system_is w k.Quoted h = absurd h
system_is w k.Continue h = absurd h

tick_is : (w : List ℕ) (i : Kind) → IsKind (tick w) i → i ≡ k.Tick w
tick_is w (k.Name n) h = absurd h
tick_is w (k.Keyword n) h = absurd h
tick_is w (k.Symbol n) h = absurd h
tick_is w (k.Number n) h = absurd h
tick_is w (k.System n) h = absurd h
tick_is w (k.Tick n) h = ap (λ z. k.Tick z) h
tick_is w k.Quoted h = absurd h
tick_is w k.Continue h = absurd h

quoted_is : (b : List ℕ) (i : Kind) → IsKind (quoted b) i → i ≡ k.Quoted
quoted_is b (k.Name n) h = absurd h
quoted_is b (k.Keyword n) h = absurd h
quoted_is b (k.Symbol n) h = absurd h
quoted_is b (k.Number n) h = absurd h
quoted_is b (k.System n) h = absurd h
quoted_is b (k.Tick n) h = absurd h
quoted_is b k.Quoted h = refl
quoted_is b k.Continue h = absurd h

continue_is : (i : Kind) → IsKind continue i → i ≡ k.Continue
continue_is (k.Name n) h = absurd h
continue_is (k.Keyword n) h = absurd h
continue_is (k.Symbol n) h = absurd h
continue_is (k.Number n) h = absurd h
continue_is (k.System n) h = absurd h
continue_is (k.Tick n) h = absurd h
continue_is k.Quoted h = absurd h
continue_is k.Continue h = refl

pub no_blank : (b : ℕ) (i : Kind) → IsKind (blank b) i → ⊥
no_blank b (k.Name n) h = h
no_blank b (k.Keyword n) h = h
no_blank b (k.Symbol n) h = h
no_blank b (k.Number n) h = h
no_blank b (k.System n) h = h
no_blank b (k.Tick n) h = h
no_blank b k.Quoted h = h
no_blank b k.Continue h = h

pub no_line : (b : List ℕ) (i : Kind) → IsKind (line_comment b) i → ⊥
no_line b (k.Name n) h = h
no_line b (k.Keyword n) h = h
no_line b (k.Symbol n) h = h
no_line b (k.Number n) h = h
no_line b (k.System n) h = h
no_line b (k.Tick n) h = h
no_line b k.Quoted h = h
no_line b k.Continue h = h

pub no_block : (b : List ℕ) (i : Kind) → IsKind (block_comment b) i → ⊥
no_block b (k.Name n) h = h
no_block b (k.Keyword n) h = h
no_block b (k.Symbol n) h = h
no_block b (k.Number n) h = h
no_block b (k.System n) h = h
no_block b (k.Tick n) h = h
no_block b k.Quoted h = h
no_block b k.Continue h = h

one_kind : (p : Piece) (i j : Kind) → IsKind p i → IsKind p j → i ≡ j
one_kind (word w) i j h g = word_kind w i j h g
one_kind (number m) i j h g =
    let a = number_is m i h in let b = number_is m j g in
    a.1 ∙ (ap (λ z. k.Number z) (one_number m a.0 b.0 a.2 b.2) ∙ sym b.1)
one_kind (sign s) i j h g = sign_is s i h ∙ sym (sign_is s j g)
one_kind (system w) i j h g = system_is w i h ∙ sym (system_is w j g)
one_kind (tick w) i j h g = tick_is w i h ∙ sym (tick_is w j g)
one_kind (quoted b) i j h g = quoted_is b i h ∙ sym (quoted_is b j g)
one_kind continue i j h g = continue_is i h ∙ sym (continue_is j g)
one_kind (blank b) i j h g = absurd (no_blank b i h)
one_kind (line_comment b) i j h g = absurd (no_line b i h)
one_kind (block_comment b) i j h g = absurd (no_block b i h)

one_first : (p : Piece) (at : Pos) (t u : Token) → IsFirstToken p at t → IsFirstToken p at u → t ≡ u
one_first p at t u h g = same_token t u (one_kind p t.kind u.kind h.kind g.kind) (h.pos ∙ sym g.pos)

takes_one : (c : Bool) (p : Piece) (at : Pos) (P : List Token → Type 0) (us ts : List Token)
    → ((xs ys : List Token) → P xs → P ys → xs ≡ ys) → Takes c p at P us → Takes c p at P ts → us ≡ ts
takes_one false p at P us ts f h g = f us ts h g
takes_one true p at P [] ts f h g = absurd h
takes_one true p at P (u ∷ us) [] f h g = absurd g
takes_one true p at P (u ∷ us) (t ∷ ts) f h g =
    ap (λ z. z ∷ us) (one_first p at u t h.0 g.0) ∙ ap (λ z. t ∷ z) (f us ts h.1 g.1)

pub one_list : (ps : List Piece) (at : Pos) (us ts : List Token) → AreOf ps at us → AreOf ps at ts → us ≡ ts
one_list [] at us ts h g = h ∙ sym g
one_list (p ∷ ps) at us ts h g = takes_one (is_token p) p at (AreOf ps (place_after at (text_of p))) us ts
    (λ xs ys a b. one_list ps (place_after at (text_of p)) xs ys a b) h g
