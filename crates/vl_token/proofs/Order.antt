-- Which fault comes first.
use Rattle.std.proofs.Common.{◌≡◌, ℕ, ◌≤◌, ◌<◌, true, false, List, [], ◌∷◌, ◌++◌, length, refl, ap, sym, ◌∙◌, subst}
use Rattle.std.proofs.Common.{arith, inl, inr, ◌⊎◌, append_assoc, append-nil, length-append, lit≤}
use Rattle.fv_text.specs.declared.kind.Kind.{Kind}
use Rattle.fv_text.specs.declared.kind.Kind.TheVariants as k
use Rattle.fv_text.specs.declared.pos.Pos.{Pos}
use Rattle.fv_text.specs.declared.token.Token.{Token}
use Rattle.vl_token.specs.declared.fault.LexFault.{LexFault}
use Rattle.vl_token.specs.declared.fault.LexFault.TheVariants.{NotAscii, BadNumber, OpenComment, BadChar}
use Rattle.vl_token.specs.declared.fault.LexFault.TheVariants.{TooManyTokens, OpenString, Memory}
use Rattle.vl_token.specs.Numeral.{Numeral, plain, based}
use Rattle.vl_token.specs.Number.{is_bad}
use Rattle.vl_token.specs.Piece.{Piece, number, text_of, joined, AllStand}
use Rattle.vl_token.specs.Place.{start_of}
use Rattle.vl_token.specs.Tokens.{IsKind, AreOf, AreTokens}
use Rattle.vl_token.specs.Fault.{HasBadNumber, HasBadChar, HasToken, number_of, is_of_text}
use Rattle.vl_token.specs.Cut.{Cut, ended, piece, open_comment, open_string, bad_char, first_cut}
use Rattle.vl_token.specs.Steps.{StopsAt}
use Rattle.vl_token.proofs.Cuts.{Cuts, cuts, again, one_piece, open_comment_again, open_string_again}
use Rattle.vl_token.proofs.Reading.{text_some}
use Rattle.vl_token.proofs.Tokens.{one_list}

-- one reading of a text goes on where the other ends
pub record Later (ps : List Piece) (r : List ℕ) (qs : List Piece) (s : List ℕ) : Type 0 where
  pub more : List Piece
  pub same : qs ≡ ps ++ more
  pub rest_is : r ≡ joined more ++ s
  pub stand : AllStand more s

later_more : (p q : Piece) (ps qs : List Piece) (r s : List ℕ) → p ≡ q → Later ps r qs s → Later (p ∷ ps) r (q ∷ qs) s
later_more p q ps qs r s e l = record {
  more = l.more;
  same = ap (λ z. z ∷ qs) (sym e) ∙ ap (λ z. p ∷ z) l.same;
  rest_is = l.rest_is;
  stand = l.stand;
}

either_more : (p q : Piece) (ps qs : List Piece) (r s : List ℕ) → p ≡ q → Later ps r qs s ⊎ Later qs s ps r
    → Later (p ∷ ps) r (q ∷ qs) s ⊎ Later (q ∷ qs) s (p ∷ ps) r
either_more p q ps qs r s e (inl l) = inl (later_more p q ps qs r s e l)
either_more p q ps qs r s e (inr l) = inr (later_more q p qs ps s r (sym e) l)

pub compared : (ps qs : List Piece) (r s : List ℕ) → AllStand ps r → AllStand qs s → joined ps ++ r ≡ joined qs ++ s
    → Later ps r qs s ⊎ Later qs s ps r
compared [] qs r s a b e = inl (record { more = qs; same = refl; rest_is = e; stand = b })
compared (p ∷ ps) [] r s a b e = inr (record { more = p ∷ ps; same = refl; rest_is = sym e; stand = a })
compared (p ∷ ps) (q ∷ qs) r s a b e =
    let f : text_of p ++ (joined ps ++ r) ≡ text_of q
    ++ (joined qs ++ s) = sym (append_assoc (text_of p) (joined ps) r)
    ∙ (e ∙ append_assoc (text_of q) (joined qs) s) in
    let one = one_piece p q (joined ps ++ r) (joined qs ++ s) a.0 b.0 f in
    either_more p q ps qs r s one.0 (compared ps qs r s a.1 b.1 one.1)

-- pieces take bytes
pub some_bytes : (m : Piece) (ms : List Piece) (s : List ℕ) → AllStand (m ∷ ms) s → 0 < length (joined (m ∷ ms))
some_bytes m ms s a = let pos = text_some m (joined ms ++ s) a.0 in omega (arith, length-append (text_of m) (joined ms))

pub no_bytes : (xs ys : List ℕ) → 0 < length xs → [] ≡ xs ++ ys → ⊥
no_bytes [] ys pos e = absurd (omega arith)
no_bytes (x ∷ xs) ys pos e = cc

none_more : (more : List Piece) (s : List ℕ) → [] ≡ joined more ++ s → AllStand more s → more ≡ []
none_more [] s e a = refl
none_more (m ∷ ms) s e a = absurd (no_bytes (joined (m ∷ ms)) s (some_bytes m ms s a) e)

later_whole : (ps qs : List Piece) (s : List ℕ) → Later ps [] qs s → qs ≡ ps
later_whole ps qs s l = l.same ∙ (ap (λ z. ps ++ z) (none_more l.more s l.rest_is l.stand) ∙ append-nil ps)

either_whole : (ps qs : List Piece) → Later ps [] qs [] ⊎ Later qs [] ps [] → qs ≡ ps
either_whole ps qs (inl l) = later_whole ps qs [] l
either_whole ps qs (inr l) = sym (later_whole qs ps [] l)

whole_same : (ps qs : List Piece) → AllStand ps [] → AllStand qs [] → joined ps ≡ joined qs → qs ≡ ps
whole_same ps qs a b e = either_whole ps qs (compared ps qs [] [] a b (ap (λ z. z ++ []) e))

-- a text has one list of tokens
pub tokens_one : (file line : ℕ) (bytes : List ℕ) (us ts : List Token) → AreTokens file line bytes us
    → AreTokens file line bytes ts → us ≡ ts
tokens_one file line bytes us ts a b =
    let e : a.pieces ≡ b.pieces = whole_same b.pieces a.pieces b.stand a.stand (sym b.same ∙ a.same) in
    one_list b.pieces (start_of file line) us ts (subst (λ z. AreOf z (start_of file line) us) e a.tokens) b.tokens

-- what each fault shows of the first piece
abbrev pub Shows : LexFault → List ℕ → Type 0
Shows (BadNumber at) b = (m : Numeral) × (after : List ℕ) × (first_cut b ≡ piece (number m) after) × (is_bad m ≡ true)
Shows (OpenComment at) b = first_cut b ≡ open_comment
Shows (BadChar at) b = first_cut b ≡ bad_char
Shows (TooManyTokens at) b =
    (p : Piece) × (after : List ℕ) × (kind : Kind) × (first_cut b ≡ piece p after) × IsKind p kind
Shows (OpenString at) b = first_cut b ≡ open_string
Shows f b = ⊥

bad_by : (bytes : List ℕ) (c : Cut) → Cuts bytes c → HasBadChar bytes → c ≡ bad_char
bad_by bytes ended h g = absurd (let e : [] ≡ g.byte ∷ g.after = sym h ∙ g.same in let f : ⊥ = cc in f)
bad_by bytes (piece p rest) h g = absurd (g.no_piece p rest h.same h.stands)
bad_by bytes open_comment h g = absurd (g.no_comment h)
bad_by bytes open_string h g = absurd (g.no_string h)
bad_by bytes bad_char h g = refl

pub bad_again : (bytes : List ℕ) → HasBadChar bytes → first_cut bytes ≡ bad_char
bad_again bytes g = bad_by bytes (first_cut bytes) (cuts bytes) g

pub bad_shows : (at : Pos) (b : List ℕ) → HasBadNumber b → Shows (BadNumber at) b
bad_shows at b h = (h.number, h.after, ap first_cut h.same ∙ again (number h.number) h.after h.stands, h.bad)

pub token_shows : (at : Pos) (b : List ℕ) → HasToken b → Shows (TooManyTokens at) b
token_shows at b h = (h.piece, h.after, h.kind, ap first_cut h.same ∙ again h.piece h.after h.stands, h.is)

pub stops_show : (f : LexFault) (b : List ℕ) (count : ℕ) (pos : Pos) → is_of_text f ≡ true → StopsAt f b count pos
    → Shows f b
stops_show (NotAscii at) b count pos e s = s
stops_show (BadNumber at) b count pos e s = bad_shows at b s.0
stops_show (OpenComment at) b count pos e s = open_comment_again b s.0
stops_show (BadChar at) b count pos e s = bad_again b s.0
stops_show (TooManyTokens at) b count pos e s = token_shows at b s.0
stops_show (OpenString at) b count pos e s = open_string_again b s.0
stops_show Memory b count pos e s = absurd (let f : ⊥ = cc in f)

-- a bad number has no kind
bad_no_kind : (m : Numeral) (kind : Kind) → is_bad m ≡ true → IsKind (number m) kind → ⊥
bad_no_kind (plain ds) (k.Number n) e h = let f : true ≡ false = sym e ∙ h.0 in cc
bad_no_kind (based x) (k.Number n) e h = let f : true ≡ false = sym e ∙ h.0 in cc
bad_no_kind m (k.Name n) e h = h
bad_no_kind m (k.Keyword n) e h = h
bad_no_kind m (k.Symbol n) e h = h
bad_no_kind m (k.System n) e h = h
bad_no_kind m (k.Tick n) e h = h
bad_no_kind m k.Quoted e h = h
bad_no_kind m k.Continue e h = h

pub piece_bad : (p : Piece) (m : Numeral) (kind : Kind) → p ≡ number m → is_bad m ≡ true → IsKind p kind → ⊥
piece_bad p m kind e b h = bad_no_kind m kind b (subst (λ z. IsKind z kind) e h)

-- at one place the faults exclude each other, but for the order of their numbers
pub shows_order : (f g : LexFault) (b : List ℕ) → Shows f b → Shows g b → number_of f ≤ number_of g
shows_order (BadNumber x) (BadNumber y) b h s = lit≤ tt
shows_order (BadNumber x) (OpenComment y) b h s = lit≤ tt
shows_order (BadNumber x) (BadChar y) b h s = lit≤ tt
shows_order (BadNumber x) (TooManyTokens y) b h s = lit≤ tt
shows_order (BadNumber x) (OpenString y) b h s = lit≤ tt
shows_order (OpenComment x) (BadNumber y) b h s =
    absurd (let e : open_comment ≡ piece (number s.0) s.1 = sym (h) ∙ s.2 in let d : ⊥ = cc in d)
shows_order (OpenComment x) (OpenComment y) b h s = lit≤ tt
shows_order (OpenComment x) (BadChar y) b h s = lit≤ tt
shows_order (OpenComment x) (TooManyTokens y) b h s = lit≤ tt
shows_order (OpenComment x) (OpenString y) b h s = lit≤ tt
shows_order (BadChar x) (BadNumber y) b h s =
    absurd (let e : bad_char ≡ piece (number s.0) s.1 = sym (h) ∙ s.2 in let d : ⊥ = cc in d)
shows_order (BadChar x) (OpenComment y) b h s =
    absurd (let e : bad_char ≡ open_comment = sym (h) ∙ s in let d : ⊥ = cc in d)
shows_order (BadChar x) (BadChar y) b h s = lit≤ tt
shows_order (BadChar x) (TooManyTokens y) b h s = lit≤ tt
shows_order (BadChar x) (OpenString y) b h s = lit≤ tt
shows_order (TooManyTokens x) (BadNumber y) b h s = absurd
    (let e : piece h.0 h.1 ≡ piece (number s.0) s.1 = sym h.3 ∙ s.2 in let d : h.0 ≡ number s.0 = cc
    in piece_bad h.0 s.0 h.2 d s.3 h.4)
shows_order (TooManyTokens x) (OpenComment y) b h s =
    absurd (let e : piece h.0 h.1 ≡ open_comment = sym (h.3) ∙ s in let d : ⊥ = cc in d)
shows_order (TooManyTokens x) (BadChar y) b h s =
    absurd (let e : piece h.0 h.1 ≡ bad_char = sym (h.3) ∙ s in let d : ⊥ = cc in d)
shows_order (TooManyTokens x) (TooManyTokens y) b h s = lit≤ tt
shows_order (TooManyTokens x) (OpenString y) b h s = lit≤ tt
shows_order (OpenString x) (BadNumber y) b h s =
    absurd (let e : open_string ≡ piece (number s.0) s.1 = sym (h) ∙ s.2 in let d : ⊥ = cc in d)
shows_order (OpenString x) (OpenComment y) b h s =
    absurd (let e : open_string ≡ open_comment = sym (h) ∙ s in let d : ⊥ = cc in d)
shows_order (OpenString x) (BadChar y) b h s =
    absurd (let e : open_string ≡ bad_char = sym (h) ∙ s in let d : ⊥ = cc in d)
shows_order (OpenString x) (TooManyTokens y) b h s =
    absurd (let e : open_string ≡ piece s.0 s.1 = sym (h) ∙ s.3 in let d : ⊥ = cc in d)
shows_order (OpenString x) (OpenString y) b h s = lit≤ tt
shows_order (NotAscii x) g b h s = absurd h
shows_order Memory g b h s = absurd h
shows_order (BadNumber x) (NotAscii y) b h s = absurd s
shows_order (OpenComment x) (NotAscii y) b h s = absurd s
shows_order (BadChar x) (NotAscii y) b h s = absurd s
shows_order (TooManyTokens x) (NotAscii y) b h s = absurd s
shows_order (OpenString x) (NotAscii y) b h s = absurd s
shows_order (BadNumber x) Memory b h s = absurd s
shows_order (OpenComment x) Memory b h s = absurd s
shows_order (BadChar x) Memory b h s = absurd s
shows_order (TooManyTokens x) Memory b h s = absurd s
shows_order (OpenString x) Memory b h s = absurd s
