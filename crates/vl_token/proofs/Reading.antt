-- A text read piece by piece.
use Rattle.std.proofs.Common.{◌≡◌, ℕ, ◌-◌, ◌≤◌, ◌<◌, Bool, true, false, List, [], ◌∷◌, ◌++◌, None, length, take, refl}
use Rattle.std.proofs.Common.{ap, sym, ◌∙◌, subst, arith, append_assoc, append-nil, length-append, lit<}
use Rattle.std.proofs.Math.Seq.{take-append_seam}
use Rattle.fv_text.specs.Keyword.{keyword_of}
use Rattle.fv_text.specs.Name.{is_word, is_name}
use Rattle.fv_text.specs.Named.{is_well_named}
use Rattle.fv_text.specs.Symbol.{symbol_text}
use Rattle.fv_text.specs.declared.kind.Kind.{Kind}
use Rattle.fv_text.specs.declared.kind.Kind.TheVariants as k
use Rattle.fv_text.specs.declared.pos.Pos.{Pos}
use Rattle.fv_text.specs.declared.symbol.Symbol.{Symbol}
use Rattle.fv_text.specs.declared.symbol.Symbol.TheVariants as s
use Rattle.fv_text.specs.declared.token.Token.{Token}
use Rattle.vl_token.specs.declared.fault.LexFault.{LexFault}
use Rattle.vl_token.specs.declared.fault.LexFault.TheVariants.{NotAscii, BadNumber, OpenComment, BadChar}
use Rattle.vl_token.specs.declared.fault.LexFault.TheVariants.{TooManyTokens, OpenString, Memory}
use Rattle.vl_token.specs.Numeral.{plain, based, is_decimal}
use Rattle.vl_token.specs.Piece.{Piece, blank, line_comment, block_comment, word, number, sign, system, tick, quoted}
use Rattle.vl_token.specs.Piece.{continue, text_of, joined, Stands, AllStand}
use Rattle.vl_token.specs.Place.{place_after, place_behind}
use Rattle.vl_token.specs.Tokens.{is_token, IsKind, IsFirstToken, Takes, AreOf}
use Rattle.vl_token.specs.Meanings.{IsBadNumber}
use Rattle.vl_token.specs.Fault.{OnNotMemory, HasBadNumber, HasOpenComment, HasOpenString, HasBadChar}
use Rattle.vl_token.specs.Cut.{Cut, ended, piece, open_comment, open_string, bad_char, first_cut}
use Rattle.vl_token.specs.Steps.{IsFront, Added, Adds, Advances, HasRead, HasStopped, StopsAt}
use Rattle.vl_token.proofs.Cuts.{Cuts, cuts, again, open_comment_again, open_string_again}

-- what a cut that was made says
pub cut_says : (bytes : List ℕ) (c : Cut) → c ≡ first_cut bytes → Cuts bytes c
cut_says bytes c e = subst (λ z. Cuts bytes z) (sym e) (cuts bytes)

pub cut_ended : (bytes : List ℕ) → ended ≡ first_cut bytes → bytes ≡ []
cut_ended bytes e = cut_says bytes ended e

pub cut_comment : (bytes : List ℕ) → open_comment ≡ first_cut bytes → HasOpenComment bytes
cut_comment bytes e = cut_says bytes open_comment e

pub cut_string : (bytes : List ℕ) → open_string ≡ first_cut bytes → HasOpenString bytes
cut_string bytes e = cut_says bytes open_string e

pub cut_piece : (bytes : List ℕ) (p : Piece) (rest : List ℕ) → piece p rest ≡ first_cut bytes → IsFront bytes p rest
cut_piece bytes p rest e = cut_says bytes (piece p rest) e

ended_not_bad : (bytes : List ℕ) → bad_char ≡ first_cut bytes → bytes ≡ [] → ⊥
unfolding first_cut
ended_not_bad bytes e f = let g : bad_char ≡ ended = e ∙ ap first_cut f in cc

pub cut_bad : (bytes : List ℕ) → bad_char ≡ first_cut bytes → HasBadChar bytes
cut_bad [] e = absurd (ended_not_bad [] e refl)
cut_bad (b ∷ bs) e = record {
  byte = b;
  after = bs;
  same = refl;
  no_piece = λ p rest same stands. let g : bad_char ≡ piece p rest = e ∙ (ap first_cut same ∙ again p rest stands)
      in let f : ⊥ = cc in f;
  no_comment = λ h. let g : bad_char ≡ open_comment = e ∙ open_comment_again (b ∷ bs) h in let f : ⊥ = cc in f;
  no_string = λ h. let g : bad_char ≡ open_string = e ∙ open_string_again (b ∷ bs) h in let f : ⊥ = cc in f;
}

-- a name is a word that is no keyword
name_at : (w : List ℕ) → is_word w ≡ true → keyword_of w ≡ None → is_name w ≡ true
unfolding is_name
name_at w e f = rw (e, f) refl

word_named : (w : List ℕ) (kind : Kind) → is_word w ≡ true → IsKind (word w) kind → is_well_named kind ≡ true
word_named w (k.Name text) e i = ap is_name i.0 ∙ name_at w e i.1
word_named w (k.Keyword keyword) e i = refl
word_named w (k.Symbol t) e i = refl
word_named w (k.Number n) e i = refl
word_named w (k.System t) e i = refl
word_named w (k.Tick t) e i = refl
word_named w k.Quoted e i = refl
word_named w k.Continue e i = refl

other_named : (p : Piece) (kind : Kind) → ((w : List ℕ) → p ≡ word w → ⊥) → IsKind p kind → is_well_named kind ≡ true
other_named (word w) kind n i = absurd (n w refl)
other_named p (k.Name text) n i = absurd (none p i n)
  where
    none : (p : Piece) → IsKind p (k.Name text) → ((w : List ℕ) → p ≡ word w → ⊥) → ⊥
    none (word w) i n = n w refl
    none (blank b) i n = i
    none (line_comment body) i n = i
    none (block_comment body) i n = i
    none (number m) i n = i
    none (sign t) i n = i
    none (system w) i n = i
    none (tick w) i n = i
    none (quoted body) i n = i
    none continue i n = i
other_named p (k.Keyword keyword) n i = refl
other_named p (k.Symbol t) n i = refl
other_named p (k.Number m) n i = refl
other_named p (k.System t) n i = refl
other_named p (k.Tick t) n i = refl
other_named p k.Quoted n i = refl
other_named p k.Continue n i = refl

pub well_named : (p : Piece) (rest : List ℕ) (kind : Kind) → Stands p rest → IsKind p kind → is_well_named kind ≡ true
well_named (word w) rest kind h i = word_named w kind h.0 i
well_named (blank b) rest kind h i = other_named (blank b) kind (λ w e. cc) i
well_named (line_comment body) rest kind h i = other_named (line_comment body) kind (λ w e. cc) i
well_named (block_comment body) rest kind h i = other_named (block_comment body) kind (λ w e. cc) i
well_named (number m) rest kind h i = other_named (number m) kind (λ w e. cc) i
well_named (sign t) rest kind h i = other_named (sign t) kind (λ w e. cc) i
well_named (system w) rest kind h i = other_named (system w) kind (λ v e. cc) i
well_named (tick w) rest kind h i = other_named (tick w) kind (λ v e. cc) i
well_named (quoted body) rest kind h i = other_named (quoted body) kind (λ w e. cc) i
well_named continue rest kind h i = other_named continue kind (λ w e. cc) i

-- what a piece takes of the text
pub front_text : (bytes : List ℕ) (p : Piece) (rest : List ℕ) → IsFront bytes p rest
    → take (length bytes - length rest) bytes ≡ text_of p
front_text bytes p rest h =
    let long : length bytes - length rest ≡ length (text_of p) = ap (λ z. length z - length rest) h.same ∙ less in
    ap (λ n. take n bytes) long ∙ (ap (λ z. take (length (text_of p)) z) h.same ∙ take-append_seam (text_of p) rest)
  where
    less : length (text_of p ++ rest) - length rest ≡ length (text_of p)
    less = omega (arith, length-append (text_of p) rest)

pub front_fits : (bytes : List ℕ) (p : Piece) (rest : List ℕ) → IsFront bytes p rest → length rest ≤ length bytes
front_fits bytes p rest h = rw (h.same) (omega (arith, length-append (text_of p) rest))

-- the place behind a piece
pub place_front : (bytes : List ℕ) (p : Piece) (rest : List ℕ) (pos next : Pos) → IsFront bytes p rest
    → next ≡ place_after pos (take (length bytes - length rest) bytes) → next ≡ place_after pos (text_of p)
place_front bytes p rest pos next h e = e ∙ ap (λ z. place_after pos z) (front_text bytes p rest h)

token_first : (p : Piece) (kind : Kind) (pos : Pos) (old new : List Token) (a : Added kind pos old new)
    → IsKind p kind → IsFirstToken p pos a.token
token_first p kind pos old new a i = record { kind = subst (λ z. IsKind p z) (sym a.kind_is) i; pos = a.pos_is }

pub token_on : (rest : List ℕ) (p : Piece) (after : List ℕ) (pos next : Pos) (kind : Kind) (old new : List Token)
    → IsFront rest p after → is_token p ≡ true → IsKind p kind
    → next ≡ place_after pos (take (length rest - length after) rest) → Added kind pos old new
    → Advances rest after pos next old new
token_on rest p after pos next kind old new h token i e a = record {
  piece = p;
  front = h;
  place = place_front rest p after pos next h e;
  adds = subst (λ z. Adds z p pos old new) (sym token) (a.token, a.more, token_first p kind pos old new a i, a.room);
}

pub added : (t : Token) (old new : List Token) → new ≡ old ++ (t ∷ []) → length old < 2000000
    → Added t.kind t.pos old new
added t old new e room = record { token = t; kind_is = refl; pos_is = refl; more = e; room = room }

-- a piece is not empty
decimal_some : (ds : List ℕ) → is_decimal ds ≡ true → 0 < length ds
decimal_some [] e = absurd (let f : ⊥ = cc in f)
decimal_some (b ∷ bs) e = omega arith

sign_some : (t : Symbol) → 0 < length (symbol_text t)
unfolding symbol_text
sign_some s.OpenParen = lit< tt
sign_some s.CloseParen = lit< tt
sign_some s.OpenBracket = lit< tt
sign_some s.CloseBracket = lit< tt
sign_some s.OpenBrace = lit< tt
sign_some s.CloseBrace = lit< tt
sign_some s.OpenAttribute = lit< tt
sign_some s.CloseAttribute = lit< tt
sign_some s.Semicolon = lit< tt
sign_some s.Colon = lit< tt
sign_some s.Comma = lit< tt
sign_some s.Dot = lit< tt
sign_some s.Hash = lit< tt
sign_some s.At = lit< tt
sign_some s.Equal = lit< tt
sign_some s.Question = lit< tt
sign_some s.Plus = lit< tt
sign_some s.Minus = lit< tt
sign_some s.Star = lit< tt
sign_some s.Slash = lit< tt
sign_some s.Percent = lit< tt
sign_some s.StarStar = lit< tt
sign_some s.Bang = lit< tt
sign_some s.Tilde = lit< tt
sign_some s.And = lit< tt
sign_some s.Or = lit< tt
sign_some s.Caret = lit< tt
sign_some s.TildeAnd = lit< tt
sign_some s.TildeOr = lit< tt
sign_some s.TildeCaret = lit< tt
sign_some s.CaretTilde = lit< tt
sign_some s.AndAnd = lit< tt
sign_some s.OrOr = lit< tt
sign_some s.Less = lit< tt
sign_some s.LessEqual = lit< tt
sign_some s.Greater = lit< tt
sign_some s.GreaterEqual = lit< tt
sign_some s.EqualEqual = lit< tt
sign_some s.BangEqual = lit< tt
sign_some s.EqualEqualEqual = lit< tt
sign_some s.BangEqualEqual = lit< tt
sign_some s.LessLess = lit< tt
sign_some s.GreaterGreater = lit< tt
sign_some s.LessLessLess = lit< tt
sign_some s.GreaterGreaterGreater = lit< tt
sign_some s.PlusColon = lit< tt
sign_some s.MinusColon = lit< tt

tail_some : (b : ℕ) (xs : List ℕ) → 0 < length (b ∷ xs)
tail_some b xs = omega arith

mark_some : (xs ys : List ℕ) (b : ℕ) (zs : List ℕ) → 0 < length (xs ++ (ys ++ (b ∷ zs)))
mark_some xs ys b zs = omega (arith, length-append xs (ys ++ (b ∷ zs)), length-append ys (b ∷ zs), tail_some b zs)

word_some : (w : List ℕ) → is_word w ≡ true → 0 < length w
word_some [] e = absurd (let f : ⊥ = cc in f)
word_some (b ∷ bs) e = omega arith

pub text_some : (p : Piece) (rest : List ℕ) → Stands p rest → 0 < length (text_of p)
text_some (blank b) rest h = tail_some b []
text_some (line_comment body) rest h = tail_some 47 (47 ∷ body)
text_some (block_comment body) rest h = tail_some 47 (42 ∷ (body ++ (42 ∷ (47 ∷ []))))
text_some (word w) rest h = word_some w h.0
text_some (number (plain ds)) rest h = decimal_some ds h.decimal
text_some (number (based f)) rest h = mark_some f.size f.before 39 (f.sign ++ (f.base ∷ (f.behind ++ f.digits)))
text_some (sign t) rest h = sign_some t
text_some (system w) rest h = tail_some 36 w
text_some (tick w) rest h = tail_some 96 w
text_some (quoted body) rest h = tail_some 34 (body ++ (34 ∷ []))
text_some continue rest h = tail_some 92 []

pub advance_falls : (rest after : List ℕ) (pos next : Pos) (old new : List Token)
    → Advances rest after pos next old new → length after < length rest
advance_falls rest after pos next old new a =
    let some = text_some a.piece after a.front.stands in
    rw (a.front.same) (omega (arith, length-append (text_of a.piece) after))

-- pieces and one more
joined-append : (ps qs : List Piece) → joined (ps ++ qs) ≡ joined ps ++ joined qs
joined-append [] qs = refl
joined-append (p ∷ ps) qs =
    ap (λ z. text_of p ++ z) (joined-append ps qs) ∙ sym (append_assoc (text_of p) (joined ps) (joined qs))

joined_one : (ps : List Piece) (p : Piece) → joined (ps ++ (p ∷ [])) ≡ joined ps ++ text_of p
joined_one ps p = joined-append ps (p ∷ []) ∙ ap (λ z. joined ps ++ z) (append-nil (text_of p))

stand_more : (ps : List Piece) (p : Piece) (rest : List ℕ) → AllStand ps (text_of p ++ rest) → Stands p rest
    → AllStand (ps ++ (p ∷ [])) rest
stand_more [] p rest a h = (h, tt)
stand_more (q ∷ ps) p rest a h =
    let e : joined ps ++ (text_of p ++ rest) ≡ joined (ps ++ (p ∷ []))
    ++ rest = sym (append_assoc (joined ps) (text_of p) rest) ∙ ap (λ z. z ++ rest) (sym (joined_one ps p)) in
    (subst (λ z. Stands q z) e a.0, stand_more ps p rest a.1 h)

place-append : (at : Pos) (xs ys : List ℕ) → place_after at (xs ++ ys) ≡ place_after (place_after at xs) ys
place-append at [] ys = refl
place-append at (x ∷ xs) ys = place-append (place_behind at x) xs ys

-- tokens and one more, or none
takes_more : (c : Bool) (q : Piece) (at : Pos) (P R : List Token → Type 0) (old new : List Token) (t : Token)
    → new ≡ old ++ (t ∷ []) → ((us vs : List Token) → vs ≡ us ++ (t ∷ []) → P us → R vs)
    → Takes c q at P old → Takes c q at R new
takes_more false q at P R old new t e f h = f old new e h
takes_more true q at P R [] new t e f h = absurd h
takes_more true q at P R (o ∷ old) new t e f h =
    subst (λ z. Takes true q at R z) (sym e) (h.0, f old (old ++ (t ∷ [])) refl h.1)

of_more : (ps : List Piece) (p : Piece) (at pos : Pos) (old new : List Token) (t : Token)
    → pos ≡ place_after at (joined ps) → is_token p ≡ true → IsFirstToken p pos t → new ≡ old ++ (t ∷ [])
    → AreOf ps at old → AreOf (ps ++ (p ∷ [])) at new
of_more [] p at pos old new t ep token first e h =
    let one : new ≡ t ∷ [] = e ∙ ap (λ z. z ++ (t ∷ [])) h in
    let here : IsFirstToken p at t = subst (λ z. IsFirstToken p z t) ep first in
    subst (λ z. Takes (is_token p) p at (AreOf [] (place_after at (text_of p))) z) (sym one)
    (subst (λ c. Takes c p at (AreOf [] (place_after at (text_of p))) (t ∷ [])) (sym token) (here, refl))
of_more (q ∷ ps) p at pos old new t ep token first e h =
    takes_more (is_token q) q at (AreOf ps (place_after at (text_of q)))
    (AreOf (ps ++ (p ∷ [])) (place_after at (text_of q))) old new t e
    (λ us vs f a. of_more ps p (place_after at (text_of q)) pos us vs t
    (ep ∙ place-append at (text_of q) (joined ps)) token first f a) h

takes_same : (c : Bool) (q : Piece) (at : Pos) (P R : List Token → Type 0) (ts : List Token)
    → ((us : List Token) → P us → R us) → Takes c q at P ts → Takes c q at R ts
takes_same false q at P R ts f h = f ts h
takes_same true q at P R [] f h = absurd h
takes_same true q at P R (t ∷ ts) f h = (h.0, f ts h.1)

of_gap : (ps : List Piece) (p : Piece) (at : Pos) (ts : List Token) → is_token p ≡ false → AreOf ps at ts
    → AreOf (ps ++ (p ∷ [])) at ts
of_gap [] p at ts gap h = subst (λ c. Takes c p at (AreOf [] (place_after at (text_of p))) ts) (sym gap) h
of_gap (q ∷ ps) p at ts gap h =
    takes_same (is_token q) q at (AreOf ps (place_after at (text_of q)))
    (AreOf (ps ++ (p ∷ [])) (place_after at (text_of q))) ts
    (λ us a. of_gap ps p (place_after at (text_of q)) us gap a) h

adds_of : (c : Bool) (ps : List Piece) (p : Piece) (at pos : Pos) (old new : List Token) → is_token p ≡ c
    → pos ≡ place_after at (joined ps) → Adds c p pos old new → AreOf ps at old → AreOf (ps ++ (p ∷ [])) at new
adds_of true ps p at pos old new e ep a h = of_more ps p at pos old new a.0 ep e a.2 a.1 h
adds_of false ps p at pos old new e ep a h = subst (λ z. AreOf (ps ++ (p ∷ [])) at z) (sym a) (of_gap ps p at old e h)

adds_few : (c : Bool) (p : Piece) (pos : Pos) (old new : List Token) → Adds c p pos old new → length old ≤ 2000000
    → length new ≤ 2000000
adds_few true p pos old new a h = let room = a.3 in rw (a.1) (omega (arith, length-append old (a.0 ∷ []), one_long a.0))
  where
    one_long : (t : Token) → length (t ∷ []) ≡ 1
    one_long t = refl
adds_few false p pos old new a h = rw a h

pub read_on : (bytes : List ℕ) (start : Pos) (rest : List ℕ) (pos : Pos) (old : List Token) (after : List ℕ)
    (next : Pos) (new : List Token)
    → HasRead bytes start rest pos old → Advances rest after pos next old new → HasRead bytes start after next new
read_on bytes start rest pos old after next new r a =
    let p = a.piece in
    let e : joined r.pieces ++ rest ≡ joined (r.pieces ++ (p ∷ [])) ++ after =
    ap (λ z. joined r.pieces ++ z) a.front.same
    ∙ (sym (append_assoc (joined r.pieces) (text_of p) after)
    ∙ ap (λ z. z ++ after) (sym (joined_one r.pieces p))) in
    let there : place_after pos (text_of p) ≡ place_after start (joined (r.pieces ++ (p ∷ []))) =
    ap (λ z. place_after z (text_of p)) r.place
    ∙ (sym (place-append start (joined r.pieces) (text_of p))
    ∙ ap (λ z. place_after start z) (sym (joined_one r.pieces p))) in
    record {
      pieces = r.pieces ++ (p ∷ []);
      same = r.same ∙ e;
      stand = stand_more r.pieces p after (subst (λ z. AllStand r.pieces z) a.front.same r.stand) a.front.stands;
      place = a.place ∙ there;
      tokens = adds_of (is_token p) r.pieces p start pos old new refl r.place a.adds r.tokens;
      few = adds_few (is_token p) p pos old new a.adds r.few;
    }

pub read_far : (bytes : List ℕ) (start : Pos) (rest : List ℕ) (pos : Pos) (ts : List Token)
    (r : HasRead bytes start rest pos ts) → length (joined r.pieces) ≡ length bytes - length rest
read_far bytes start rest pos ts r = less ∙ ap (λ z. length z - length rest) (sym r.same)
  where
    less : length (joined r.pieces) ≡ length (joined r.pieces ++ rest) - length rest
    less = omega (arith, length-append (joined r.pieces) rest)

stopped_at : (fault : LexFault) (bytes : List ℕ) (start : Pos) (rest : List ℕ) (pos : Pos) (ts : List Token)
    → HasRead bytes start rest pos ts → StopsAt fault rest (length ts) pos
    → HasStopped fault (length bytes - length rest) bytes start
stopped_at fault bytes start rest pos ts r s =
    record { rest = rest; pos = pos; ts = ts; read = r; far = read_far bytes start rest pos ts r; stops = s }

pub stop_on : (fault : LexFault) (bytes : List ℕ) (start : Pos) (rest : List ℕ) (pos : Pos) (ts : List Token)
    → HasRead bytes start rest pos ts → StopsAt fault rest (length ts) pos
    → OnNotMemory fault (HasStopped fault (length bytes - length rest) bytes start)
stop_on (NotAscii at) bytes start rest pos ts r s = absurd s
stop_on (BadNumber at) bytes start rest pos ts r s = stopped_at (BadNumber at) bytes start rest pos ts r s
stop_on (OpenComment at) bytes start rest pos ts r s = stopped_at (OpenComment at) bytes start rest pos ts r s
stop_on (BadChar at) bytes start rest pos ts r s = stopped_at (BadChar at) bytes start rest pos ts r s
stop_on (TooManyTokens at) bytes start rest pos ts r s = stopped_at (TooManyTokens at) bytes start rest pos ts r s
stop_on (OpenString at) bytes start rest pos ts r s = stopped_at (OpenString at) bytes start rest pos ts r s
stop_on Memory bytes start rest pos ts r s = tt
