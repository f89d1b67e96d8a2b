-- A text has tokens or one first fault.
use Rattle.std.proofs.Common.{◌≡◌, ℕ, ◌+◌, ◌*◌, ◌≤◌, ◌<◌, Bool, true, false, cond, ◌&&◌, List, [], ◌∷◌, ◌++◌, Result}
use Rattle.std.proofs.Common.{Ok, Err, length, take, drop, refl, ap, sym, ◌∙◌, subst, arith, inl, inr, ◌⊎◌}
use Rattle.std.proofs.Common.{append_assoc, append-nil, length-append, IfOk, IfErr, lit≤, suc, length-take}
use Rattle.std.specs.Prelude.{count_by, nat_le}
use Rattle.std.specs.Global.{Vec}
use Rattle.std.specs.List.{list_all, prefix_len}
use Rattle.std.proofs.lemmas.Bool.{and_parts, and_from, leb-true, ltb-false, le-leb, leb-false, le-ltb}
use Rattle.std.proofs.Math.Seq.{take-append_seam}
use Rattle.std.proofs.lemmas.List.Sums.{sum_by-cons, sum_by-append}
use Rattle.fv_text.specs.declared.kind.Kind.{Kind}
use Rattle.fv_text.specs.declared.pos.Pos.{Pos}
use Rattle.fv_text.specs.declared.token.Token.{Token}
use Rattle.vl_token.specs.declared.fault.LexFault.{LexFault}
use Rattle.vl_token.specs.declared.fault.LexFault.TheVariants.{NotAscii, BadNumber, OpenComment, BadChar}
use Rattle.vl_token.specs.declared.fault.LexFault.TheVariants.{TooManyTokens, OpenString, Memory}
use Rattle.vl_token.specs.Bytes.{first_is}
use Rattle.vl_token.specs.Piece.{Piece, blank, line_comment, block_comment, word, number, sign, system, tick, quoted}
use Rattle.vl_token.specs.Piece.{continue, text_of, joined, AllStand}
use Rattle.vl_token.specs.Place.{place_after, start_of}
use Rattle.vl_token.specs.Tokens.{is_ascii, is_beyond_ascii, is_token, IsKind, Takes, AreOf, AreTokens}
use Rattle.vl_token.specs.Fault.{IsCut, Wrong, number_of, IsAt, rank, Refuses, OnNotMemory, is_of_text, IsAnswered}
use Rattle.vl_token.specs.Cut.{ended, piece, open_comment, open_string, bad_char, first_cut}
use Rattle.vl_token.specs.Steps.{HasRead, HasStopped, StopsAt}
use Rattle.vl_token.proofs.Cuts.{again, open_comment_again, open_string_again}
use Rattle.vl_token.proofs.Tokens.{no_blank, no_line, no_block}
use Rattle.std.proofs.lemmas.List.{take-append-drop}
use Rattle.vl_token.proofs.Order.{Later, compared, some_bytes, tokens_one, Shows, stops_show, bad_shows, token_shows}
use Rattle.vl_token.proofs.Order.{bad_again, piece_bad, shows_order}

-- a fault that stands where a piece begins
abbrev pub IsOfPiece : LexFault → Type 0
IsOfPiece (NotAscii at) = ⊥
IsOfPiece Memory = ⊥
IsOfPiece f = Unit {0}

abbrev pub Many : LexFault → List Piece → Type 0
Many (TooManyTokens at) ps = count_by is_token ps ≡ 2000000
Many f ps = Unit {0}

pub record Parts (g : LexFault) (a b : List ℕ) : Type 0 where
  pub pieces : List Piece
  pub same : a ≡ joined pieces
  pub stand : AllStand pieces b
  pub shows : Shows g b
  pub many : Many g pieces

parts : (g : LexFault) (a b : List ℕ) → IsOfPiece g → Wrong g a b → Parts g a b
parts (NotAscii at) a b i w = absurd i
parts (BadNumber at) a b i w =
    record { pieces = w.0.pieces; same = w.0.same; stand = w.0.stand; shows = bad_shows at b w.1; many = tt }
parts (OpenComment at) a b i w =
    record { pieces = w.0.pieces; same = w.0.same; stand = w.0.stand; shows = open_comment_again b w.1; many = tt }
parts (BadChar at) a b i w =
    record { pieces = w.0.pieces; same = w.0.same; stand = w.0.stand; shows = bad_again b w.1; many = tt }
parts (TooManyTokens at) a b i w = record {
  pieces = w.0.cut.pieces;
  same = w.0.cut.same;
  stand = w.0.cut.stand;
  shows = token_shows at b w.1;
  many = w.0.many;
}
parts (OpenString at) a b i w =
    record { pieces = w.0.pieces; same = w.0.same; stand = w.0.stand; shows = open_string_again b w.1; many = tt }
parts Memory a b i w = absurd i

-- the tokens that pieces are
takes_rest : (c : Bool) (q : Piece) (at : Pos) (P : List Token → Type 0) (ts : List Token) → Takes c q at P ts
    → (us : List Token) × P us
takes_rest false q at P ts h = (ts, h)
takes_rest true q at P [] h = absurd h
takes_rest true q at P (t ∷ ts) h = (ts, h.1)

takes_kind : (q : Piece) (at : Pos) (P : List Token → Type 0) (ts : List Token) → Takes true q at P ts
    → (kind : Kind) × IsKind q kind
takes_kind q at P [] h = absurd h
takes_kind q at P (t ∷ ts) h = (t.kind, h.0.kind)

kind_in : (qs : List Piece) (m : Piece) (ms : List Piece) (at : Pos) (ts : List Token) → is_token m ≡ true
    → AreOf (qs ++ (m ∷ ms)) at ts → (kind : Kind) × IsKind m kind
kind_in [] m ms at ts e h = takes_kind m at (AreOf ms (place_after at (text_of m))) ts
    (subst (λ c. Takes c m at (AreOf ms (place_after at (text_of m))) ts) e h)
kind_in (q ∷ qs) m ms at ts e h =
    let us = takes_rest (is_token q) q at (AreOf (qs ++ (m ∷ ms)) (place_after at (text_of q))) ts h in
    kind_in qs m ms (place_after at (text_of q)) us.0 e us.1

takes_count : (c : Bool) (q : Piece) (at : Pos) (P : List Token → Type 0) (n : ℕ) (ts : List Token)
    → ((us : List Token) → P us → n ≡ length us) → Takes c q at P ts → cond c 1 0 + n ≡ length ts
takes_count false q at P n ts f h = let e = f ts h in omega arith
takes_count true q at P n [] f h = absurd h
takes_count true q at P n (t ∷ ts) f h = let e = f ts h.1 in omega arith

count_cons : (p : Piece) (ps : List Piece) → count_by is_token (p ∷ ps) ≡ cond (is_token p) 1 0 + count_by is_token ps
count_cons p ps = sum_by-cons (λ x. cond (is_token x) 1 0) p ps

pub count_is : (ps : List Piece) (at : Pos) (ts : List Token) → AreOf ps at ts → count_by is_token ps ≡ length ts
count_is [] at ts h = sym (ap length h)
count_is (p ∷ ps) at ts h =
    count_cons p ps ∙ takes_count (is_token p) p at (AreOf ps (place_after at (text_of p))) (count_by is_token ps) ts
    (λ us g. count_is ps (place_after at (text_of p)) us g) h

count_first : (m : Piece) (ms : List Piece) → is_token m ≡ true → 1 ≤ count_by is_token (m ∷ ms)
count_first m ms e = let c : count_by is_token (m ∷ ms) ≡ 1 + count_by is_token ms = count_cons m ms
    ∙ ap (λ b. cond b 1 0 + count_by is_token ms) e in omega arith

count_append : (qs ms : List Piece) → count_by is_token (qs ++ ms) ≡ count_by is_token qs + count_by is_token ms
count_append qs ms = sum_by-append (λ x. cond (is_token x) 1 0) qs ms

count_more : (qs : List Piece) (m : Piece) (ms : List Piece) → is_token m ≡ true
    → count_by is_token qs + 1 ≤ count_by is_token (qs ++ (m ∷ ms))
count_more qs m ms e = let f = count_first m ms e in let g = count_append qs (m ∷ ms)
    in rw g (omega_le (count_by is_token qs) (count_by is_token (m ∷ ms)) f)
  where
    omega_le : (a b : ℕ) → 1 ≤ b → a + 1 ≤ a + b
    omega_le a b h = omega arith

kind_token : (p : Piece) (kind : Kind) → IsKind p kind → is_token p ≡ true
kind_token (blank b) kind h = absurd (no_blank b kind h)
kind_token (line_comment b) kind h = absurd (no_line b kind h)
kind_token (block_comment b) kind h = absurd (no_block b kind h)
kind_token (word w) kind h = refl
kind_token (number w) kind h = refl
kind_token (sign w) kind h = refl
kind_token (system w) kind h = refl
kind_token (tick w) kind h = refl
kind_token (quoted w) kind h = refl
kind_token continue kind h = refl

-- where a piece was read no fault is
piece_here : (b : List ℕ) (m : Piece) (ms : List Piece) (rest : List ℕ) → b ≡ joined (m ∷ ms) ++ rest
    → AllStand (m ∷ ms) rest → first_cut b ≡ piece m (joined ms ++ rest)
piece_here b m ms rest e a =
    ap first_cut (e ∙ append_assoc (text_of m) (joined ms) rest) ∙ again m (joined ms ++ rest) a.0

passed : (g : LexFault) (b : List ℕ) (qs : List Piece) (m : Piece) (ms : List Piece) (rest : List ℕ) (at : Pos)
    (ts : List Token)
    → Shows g b → Many g qs → b ≡ joined (m ∷ ms) ++ rest → AllStand (m ∷ ms) rest → AreOf (qs ++ (m ∷ ms)) at ts
    → length ts ≤ 2000000 → ⊥
passed (NotAscii x) b qs m ms rest at ts s n e a t l = s
passed Memory b qs m ms rest at ts s n e a t l = s
passed (OpenComment x) b qs m ms rest at ts s n e a t l =
    let f : open_comment ≡ piece m (joined ms ++ rest) = sym s ∙ piece_here b m ms rest e a in cc
passed (OpenString x) b qs m ms rest at ts s n e a t l =
    let f : open_string ≡ piece m (joined ms ++ rest) = sym s ∙ piece_here b m ms rest e a in cc
passed (BadChar x) b qs m ms rest at ts s n e a t l =
    let f : bad_char ≡ piece m (joined ms ++ rest) = sym s ∙ piece_here b m ms rest e a in cc
passed (BadNumber x) b qs m ms rest at ts s n e a t l =
    let f : piece (number s.0) s.1 ≡ piece m (joined ms ++ rest) = sym s.2 ∙ piece_here b m ms rest e a in
    let d : m ≡ number s.0 = cc in
    let token : is_token m ≡ true = ap is_token d in
    let kind = kind_in qs m ms at ts token t in
    piece_bad m s.0 kind.0 d s.3 kind.1
passed (TooManyTokens x) b qs m ms rest at ts s n e a t l =
    let f : piece s.0 s.1 ≡ piece m (joined ms ++ rest) = sym s.3 ∙ piece_here b m ms rest e a in
    let d : s.0 ≡ m = cc in
    let token : is_token m ≡ true = ap is_token (sym d) ∙ kind_token s.0 s.2 s.4 in
    let more = count_more qs m ms token in
    let all = count_is (qs ++ (m ∷ ms)) at ts t in
    absurd (omega arith)

-- nothing stands at the end
ended_here : first_cut [] ≡ ended
unfolding first_cut
ended_here = refl

nothing_shows : (g : LexFault) (b : List ℕ) → b ≡ [] → Shows g b → ⊥
nothing_shows (NotAscii x) b e s = s
nothing_shows Memory b e s = s
nothing_shows (OpenComment x) b e s = let f : open_comment ≡ ended = sym s ∙ (ap first_cut e ∙ ended_here) in cc
nothing_shows (OpenString x) b e s = let f : open_string ≡ ended = sym s ∙ (ap first_cut e ∙ ended_here) in cc
nothing_shows (BadChar x) b e s = let f : bad_char ≡ ended = sym s ∙ (ap first_cut e ∙ ended_here) in cc
nothing_shows (BadNumber x) b e s =
    let f : piece (number s.0) s.1 ≡ ended = sym s.2 ∙ (ap first_cut e ∙ ended_here) in cc
nothing_shows (TooManyTokens x) b e s = let f : piece s.0 s.1 ≡ ended = sym s.3 ∙ (ap first_cut e ∙ ended_here) in cc

tail_nil : (xs b : List ℕ) → [] ≡ xs ++ b → b ≡ []
tail_nil [] b e = sym e
tail_nil (x ∷ xs) b e = absurd (let f : ⊥ = cc in f)

-- a reading that is ahead of a fault
ahead : (g : LexFault) (b : List ℕ) (qs more ps : List Piece) (rest : List ℕ) (at : Pos) (ts : List Token)
    → Shows g b → Many g qs → ps ≡ qs ++ more → b ≡ joined more ++ rest → AllStand more rest
    → AreOf ps at ts → length ts ≤ 2000000 → (more ≡ []) × (b ≡ rest)
ahead g b qs [] ps rest at ts s n d e a t l = (refl, e)
ahead g b qs (m ∷ ms) ps rest at ts s n d e a t l =
    absurd (passed g b qs m ms rest at ts s n e a (subst (λ z. AreOf z at ts) d t) l)

whole_by : (g : LexFault) (a b bytes : List ℕ) (start pos : Pos) (ts : List Token)
    (r : HasRead bytes start [] pos ts) (p : Parts g a b) → Later r.pieces [] p.pieces b
    ⊎ Later p.pieces b r.pieces [] → ⊥
whole_by g a b bytes start pos ts r p (inl l) = nothing_shows g b (tail_nil (joined l.more) b l.rest_is) p.shows
whole_by g a b bytes start pos ts r p (inr l) =
    nothing_shows g b (ahead g b p.pieces l.more r.pieces [] start ts p.shows p.many l.same l.rest_is l.stand
    r.tokens r.few).1 p.shows

-- a text that is read whole has no fault of a piece
pub whole_right : (g : LexFault) (a b bytes : List ℕ) (start pos : Pos) (ts : List Token) → IsOfPiece g
    → HasRead bytes start [] pos ts → bytes ≡ a ++ b → Wrong g a b → ⊥
whole_right g a b bytes start pos ts i r e w =
    let p = parts g a b i w in
    let f : joined r.pieces ++ [] ≡ joined p.pieces ++ b = sym r.same ∙ (e ∙ ap (λ z. z ++ b) p.same) in
    whole_by g a b bytes start pos ts r p (compared r.pieces p.pieces [] b r.stand p.stand f)

number_small : (f : LexFault) → number_of f ≤ 7
number_small (NotAscii at) = lit≤ tt
number_small (BadNumber at) = lit≤ tt
number_small (OpenComment at) = lit≤ tt
number_small (BadChar at) = lit≤ tt
number_small (TooManyTokens at) = lit≤ tt
number_small (OpenString at) = lit≤ tt
number_small Memory = lit≤ tt

number_some : (f : LexFault) → 1 ≤ number_of f
number_some (NotAscii at) = lit≤ tt
number_some (BadNumber at) = lit≤ tt
number_some (OpenComment at) = lit≤ tt
number_some (BadChar at) = lit≤ tt
number_some (TooManyTokens at) = lit≤ tt
number_some (OpenString at) = lit≤ tt
number_some Memory = lit≤ tt

-- at one place, or behind it
rank_same : (f g : LexFault) (n : ℕ) (a xs : List ℕ) → length xs ≡ n → a ≡ xs → number_of f ≤ number_of g
    → 8 * n + number_of f ≤ 8 * length a + number_of g
rank_same f g n a xs e d h = let k : length a ≡ n = ap length d ∙ e in omega arith

rank_behind : (f g : LexFault) (n : ℕ) (a : List ℕ) → n + 1 ≤ length a
    → 8 * n + number_of f ≤ 8 * length a + number_of g
rank_behind f g n a h = let s = number_small f in omega arith

joined_append : (ps qs : List Piece) → joined (ps ++ qs) ≡ joined ps ++ joined qs
joined_append [] qs = refl
joined_append (p ∷ ps) qs =
    ap (λ z. text_of p ++ z) (joined_append ps qs) ∙ sym (append_assoc (text_of p) (joined ps) (joined qs))

later_rank : (f g : LexFault) (n : ℕ) (a b rest : List ℕ) (ps qs more : List Piece) → length (joined ps) ≡ n
    → a ≡ joined qs → qs ≡ ps ++ more → rest ≡ joined more ++ b → AllStand more b
    → Shows f rest → Shows g b → 8 * n + number_of f ≤ 8 * length a + number_of g
later_rank f g n a b rest ps qs [] far same e r st s t =
    rank_same f g n a (joined ps) far (same ∙ ap joined (e ∙ append-nil ps))
    (shows_order f g b (subst (λ z. Shows f z) r s) t)
later_rank f g n a b rest ps qs (m ∷ ms) far same e r st s t =
    let some = some_bytes m ms b st in
    let long : length a ≡ length (joined ps ++ joined (m ∷ ms)) = ap length
    (same ∙ (ap joined e ∙ joined_append ps (m ∷ ms))) in
    rank_behind f g n a (omega (arith, length-append (joined ps) (joined (m ∷ ms))))

stopped_by : (f g : LexFault) (n : ℕ) (a b bytes : List ℕ) (start : Pos) (h : HasStopped f n bytes start)
    (p : Parts g a b) → Shows f h.rest
    → Later h.read.pieces h.rest p.pieces b ⊎ Later p.pieces b h.read.pieces h.rest
    → 8 * n + number_of f ≤ 8 * length a + number_of g
stopped_by f g n a b bytes start h p s (inl l) =
    later_rank f g n a b h.rest h.read.pieces p.pieces l.more h.far p.same l.same l.rest_is l.stand s p.shows
stopped_by f g n a b bytes start h p s (inr l) =
    let both = ahead g b p.pieces l.more h.read.pieces h.rest start h.ts p.shows p.many l.same l.rest_is l.stand
    h.read.tokens h.read.few in
    let e : h.read.pieces ≡ p.pieces = l.same ∙ (ap (λ z. p.pieces ++ z) both.0 ∙ append-nil p.pieces) in
    rank_same f g n a (joined h.read.pieces) h.far (p.same ∙ ap joined (sym e))
    (shows_order f g b (subst (λ z. Shows f z) (sym both.1) s) p.shows)

-- no other fault of a piece comes before the one where the reading stopped
pub stopped_first : (f g : LexFault) (n : ℕ) (a b bytes : List ℕ) (start : Pos) → is_of_text f ≡ true → IsOfPiece g
    → HasStopped f n bytes start → bytes ≡ a ++ b → Wrong g a b
    → 8 * n + number_of f ≤ 8 * length a + number_of g
stopped_first f g n a b bytes start of i h e w =
    let p = parts g a b i w in
    let d : joined h.read.pieces ++ h.rest ≡ joined p.pieces ++ b = sym h.read.same ∙ (e ∙ ap (λ z. z ++ b) p.same) in
    stopped_by f g n a b bytes start h p (stops_show f h.rest (length h.ts) h.pos of h.stops)
    (compared h.read.pieces p.pieces h.rest b h.read.stand p.stand d)

-- bytes above 127
beyond_byte : (x : ℕ) → is_beyond_ascii x ≡ true → is_ascii x ≡ false
beyond_byte x e = le-ltb x 128 (leb-true 128 x e)

byte_beyond : (x : ℕ) → is_ascii x ≡ false → is_beyond_ascii x ≡ true
byte_beyond x e = le-leb 128 x (ltb-false x 128 e)

all_at : (c : Bool) (x : ℕ) (xs : List ℕ) → is_ascii x ≡ c
    → (length xs ≤ prefix_len is_ascii xs → list_all is_ascii xs ≡ true)
    → length (x ∷ xs) ≤ cond c (1 + prefix_len is_ascii xs) 0 → list_all is_ascii (x ∷ xs) ≡ true
all_at true x xs e f h = and_from (is_ascii x) (list_all is_ascii xs) e (f (omega arith))
all_at false x xs e f h = absurd (let g : ⊥ = absurd (omega arith) in g)

pub all_ascii : (xs : List ℕ) → length xs ≤ prefix_len is_ascii xs → list_all is_ascii xs ≡ true
all_ascii [] h = refl
all_ascii (x ∷ xs) h = all_at (is_ascii x) x xs refl (all_ascii xs) h

beyond_at : (c : Bool) (x : ℕ) (xs : List ℕ) → is_ascii x ≡ c
    → (prefix_len is_ascii xs < length xs → first_is is_beyond_ascii (drop (prefix_len is_ascii xs) xs) ≡ true)
    → cond c (1 + prefix_len is_ascii xs) 0 < length (x ∷ xs)
    → first_is is_beyond_ascii (drop (cond c (1 + prefix_len is_ascii xs) 0) (x ∷ xs)) ≡ true
beyond_at true x xs e f h =
    let s : 1 + prefix_len is_ascii xs ≡ suc (prefix_len is_ascii xs) = omega arith in rw s (f (omega arith))
beyond_at false x xs e f h = byte_beyond x e

pub beyond : (xs : List ℕ) → prefix_len is_ascii xs < length xs
    → first_is is_beyond_ascii (drop (prefix_len is_ascii xs) xs) ≡ true
beyond [] h = absurd (omega arith)
beyond (x ∷ xs) h = beyond_at (is_ascii x) x xs refl (beyond xs) h

earliest_at : (c : Bool) (x n m : ℕ) → n ≤ m → cond c (1 + n) 0 ≤ suc m
earliest_at true x n m h = omega arith
earliest_at false x n m h = omega arith

earliest_here : (b : List ℕ) → first_is is_beyond_ascii b ≡ true → prefix_len is_ascii b ≤ 0
earliest_here [] e = omega arith
earliest_here (x ∷ xs) e = let f = beyond_byte x e in rw f (omega arith)

earliest : (a b : List ℕ) → first_is is_beyond_ascii b ≡ true → prefix_len is_ascii (a ++ b) ≤ length a
earliest [] b e = earliest_here b e
earliest (x ∷ a) b e = earliest_at (is_ascii x) x (prefix_len is_ascii (a ++ b)) (length a) (earliest a b e)

not_all : (a b : List ℕ) → list_all is_ascii (a ++ b) ≡ true → first_is is_beyond_ascii b ≡ true → ⊥
not_all [] [] h e = cc
not_all [] (x ∷ b) h e =
    let f : true ≡ false = sym (and_parts (is_ascii x) (list_all is_ascii b) h).0 ∙ beyond_byte x e in cc
not_all (x ∷ a) b h e = not_all a b (and_parts (is_ascii x) (list_all is_ascii (a ++ b)) h).1 e

-- a byte above 127 comes first
ascii_rank : (n : ℕ) (bytes a : List ℕ) (g : LexFault) → n ≤ length a
    → 8 * length (take n bytes) + 1 ≤ 8 * length a + number_of g
ascii_rank n bytes a g h =
    let s = number_some g in let t : length (take n bytes) ≤ n = omega (arith, length-take n bytes) in omega arith

ascii_first : (n : ℕ) (bytes : List ℕ) (at : Pos) → n ≡ prefix_len is_ascii bytes
    → ((g : LexFault) (a b : List ℕ) → IsOfPiece g → bytes ≡ a ++ b → Wrong g a b → n ≤ length a)
    → (g : LexFault) (a b : List ℕ) → bytes ≡ a ++ b → Wrong g a b → rank (NotAscii at) (take n bytes) ≤ rank g a
ascii_first n bytes at en f (NotAscii x) a b e w = ascii_rank n bytes a (NotAscii x) (rw (en, e) (earliest a b w))
ascii_first n bytes at en f (BadNumber x) a b e w = ascii_rank n bytes a (BadNumber x) (f (BadNumber x) a b tt e w)
ascii_first n bytes at en f (OpenComment x) a b e w =
    ascii_rank n bytes a (OpenComment x) (f (OpenComment x) a b tt e w)
ascii_first n bytes at en f (BadChar x) a b e w = ascii_rank n bytes a (BadChar x) (f (BadChar x) a b tt e w)
ascii_first n bytes at en f (TooManyTokens x) a b e w =
    ascii_rank n bytes a (TooManyTokens x) (f (TooManyTokens x) a b tt e w)
ascii_first n bytes at en f (OpenString x) a b e w = ascii_rank n bytes a (OpenString x) (f (OpenString x) a b tt e w)
ascii_first n bytes at en f Memory a b e w = absurd w

pub refuse_ascii : (n file line : ℕ) (bytes : List ℕ) (at : Pos) → n ≡ prefix_len is_ascii bytes → n < length bytes
    → at ≡ place_after (start_of file line) (take n bytes)
    → ((g : LexFault) (a b : List ℕ) → IsOfPiece g → bytes ≡ a ++ b → Wrong g a b → n ≤ length a)
    → Refuses (NotAscii at) file line bytes
refuse_ascii n file line bytes at en lt place f = record {
  front = take n bytes;
  rest = drop n bytes;
  same = sym (take-append-drop n bytes);
  wrong = rw en (beyond bytes (subst (λ z. z < length bytes) en lt));
  place = place;
  first = ascii_first n bytes at en f;
}

pub refuse_whole : (n file line : ℕ) (bytes : List ℕ) (at pos : Pos) (ts : List Token)
    → n ≡ prefix_len is_ascii bytes → n < length bytes → at ≡ place_after (start_of file line) (take n bytes)
    → HasRead bytes (start_of file line) [] pos ts → Refuses (NotAscii at) file line bytes
refuse_whole n file line bytes at pos ts en lt place r =
    refuse_ascii n file line bytes at en lt place
    (λ g a b i e w. absurd (whole_right g a b bytes (start_of file line) pos ts i r e w))

-- the fault of a piece comes first
stop_rank : (n m : ℕ) (f : LexFault) (a : List ℕ) → m < n → n ≤ length a → 8 * m + number_of f ≤ 8 * length a + 1
stop_rank n m f a h k = let s = number_small f in omega arith

stop_first : (f : LexFault) (n m : ℕ) (bytes : List ℕ) (start : Pos) → is_of_text f ≡ true
    → n ≡ prefix_len is_ascii bytes → m < n → HasStopped f m bytes start → (xs : List ℕ) → length xs ≡ m
    → (g : LexFault) (a b : List ℕ) → bytes ≡ a ++ b → Wrong g a b → rank f xs ≤ rank g a
stop_first f n m bytes start of en lt h xs long (NotAscii x) a b e w =
    rw long (stop_rank n m f a lt (rw (en, e) (earliest a b w)))
stop_first f n m bytes start of en lt h xs long (BadNumber x) a b e w =
    rw long (stopped_first f (BadNumber x) m a b bytes start of tt h e w)
stop_first f n m bytes start of en lt h xs long (OpenComment x) a b e w =
    rw long (stopped_first f (OpenComment x) m a b bytes start of tt h e w)
stop_first f n m bytes start of en lt h xs long (BadChar x) a b e w =
    rw long (stopped_first f (BadChar x) m a b bytes start of tt h e w)
stop_first f n m bytes start of en lt h xs long (TooManyTokens x) a b e w =
    rw long (stopped_first f (TooManyTokens x) m a b bytes start of tt h e w)
stop_first f n m bytes start of en lt h xs long (OpenString x) a b e w =
    rw long (stopped_first f (OpenString x) m a b bytes start of tt h e w)
stop_first f n m bytes start of en lt h xs long Memory a b e w = absurd w

abbrev cut_of : (bytes : List ℕ) (start : Pos) (rest : List ℕ) (pos : Pos) (ts : List Token)
    (r : HasRead bytes start rest pos ts) → IsCut (joined r.pieces) rest
cut_of bytes start rest pos ts r = record { pieces = r.pieces; same = refl; stand = r.stand }

stop_wrong : (f : LexFault) (bytes : List ℕ) (start : Pos) (rest : List ℕ) (pos : Pos) (ts : List Token)
    (r : HasRead bytes start rest pos ts) → is_of_text f ≡ true → StopsAt f rest (length ts) pos
    → Wrong f (joined r.pieces) rest × IsAt f pos
stop_wrong (NotAscii at) bytes start rest pos ts r of s = absurd s
stop_wrong (BadNumber at) bytes start rest pos ts r of s = ((cut_of bytes start rest pos ts r, s.0), s.1)
stop_wrong (OpenComment at) bytes start rest pos ts r of s = ((cut_of bytes start rest pos ts r, s.0), s.1)
stop_wrong (BadChar at) bytes start rest pos ts r of s = ((cut_of bytes start rest pos ts r, s.0), s.1)
stop_wrong (TooManyTokens at) bytes start rest pos ts r of s =
    let few = r.few in let many = s.2 in let long : length ts ≡ 2000000 = omega arith in
    ((record { cut = cut_of bytes start rest pos ts r; many = count_is r.pieces start ts r.tokens ∙ long }, s.0), s.1)
stop_wrong (OpenString at) bytes start rest pos ts r of s = ((cut_of bytes start rest pos ts r, s.0), s.1)
stop_wrong Memory bytes start rest pos ts r of s = absurd (let g : ⊥ = cc in g)

refuse_stop_at : (f : LexFault) (n m file line : ℕ) (bytes : List ℕ) → is_of_text f ≡ true
    → n ≡ prefix_len is_ascii bytes → m < n → HasStopped f m bytes (start_of file line) → Refuses f file line bytes
refuse_stop_at f n m file line bytes of en lt h =
    let both = stop_wrong f bytes (start_of file line) h.rest h.pos h.ts h.read of h.stops in
    record {
      front = joined h.read.pieces;
      rest = h.rest;
      same = h.read.same;
      wrong = both.0;
      place = subst (λ z. IsAt f z) h.read.place both.1;
      first = stop_first f n m bytes (start_of file line) of en lt h (joined h.read.pieces) h.far;
    }

not_behind : (n m : ℕ) → (true && nat_le n m) ≡ false → m < n
not_behind n m e = leb-false n m e

pub refuse_stop : (f : LexFault) (n m file line : ℕ) (bytes : List ℕ) → n ≡ prefix_len is_ascii bytes
    → (is_of_text f && nat_le n m) ≡ false → OnNotMemory f (HasStopped f m bytes (start_of file line))
    → OnNotMemory f (Refuses f file line bytes)
refuse_stop (NotAscii at) n m file line bytes en e h =
    refuse_stop_at (NotAscii at) n m file line bytes refl en (not_behind n m e) h
refuse_stop (BadNumber at) n m file line bytes en e h =
    refuse_stop_at (BadNumber at) n m file line bytes refl en (not_behind n m e) h
refuse_stop (OpenComment at) n m file line bytes en e h =
    refuse_stop_at (OpenComment at) n m file line bytes refl en (not_behind n m e) h
refuse_stop (BadChar at) n m file line bytes en e h =
    refuse_stop_at (BadChar at) n m file line bytes refl en (not_behind n m e) h
refuse_stop (TooManyTokens at) n m file line bytes en e h =
    refuse_stop_at (TooManyTokens at) n m file line bytes refl en (not_behind n m e) h
refuse_stop (OpenString at) n m file line bytes en e h =
    refuse_stop_at (OpenString at) n m file line bytes refl en (not_behind n m e) h
refuse_stop Memory n m file line bytes en e h = tt

-- a byte above 127 at the stop or before it
front_short : (n m a k l : ℕ) → n ≤ m → 8 * m + k ≤ 8 * a + l → l ≤ 7 → n ≤ a
front_short n m a k l h e s = omega arith

refuse_before_at : (f : LexFault) (n m file line : ℕ) (bytes : List ℕ) (at : Pos) → is_of_text f ≡ true
    → n ≡ prefix_len is_ascii bytes → n < length bytes → n ≤ m → at ≡ place_after (start_of file line) (take n bytes)
    → HasStopped f m bytes (start_of file line) → Refuses (NotAscii at) file line bytes
refuse_before_at f n m file line bytes at of en lt le place h =
    refuse_ascii n file line bytes at en lt place
    (λ g a b i e w. front_short n m (length a) (number_of f) (number_of g) le
    (stopped_first f g m a b bytes (start_of file line) of i h e w) (number_small g))

-- a stop is before the end
stop_inside : (f : LexFault) (m : ℕ) (bytes : List ℕ) (start : Pos) → is_of_text f ≡ true
    → HasStopped f m bytes start → m < length bytes
stop_inside f m bytes start of h = inside h.rest (stops_show f h.rest (length h.ts) h.pos of h.stops) h.read.same
  where
    inside : (rest : List ℕ) → Shows f rest → bytes ≡ joined h.read.pieces ++ rest → m < length bytes
    inside [] s e = absurd (nothing_shows f [] refl s)
    inside (x ∷ xs) s e =
        let far = h.far in rw e (omega (arith, length-append (joined h.read.pieces) (x ∷ xs), one_more x xs))
      where
        one_more : (x : ℕ) (xs : List ℕ) → length (x ∷ xs) ≡ length xs + 1
        one_more x xs = omega arith

refuse_before_by : (f : LexFault) (n m file line : ℕ) (bytes : List ℕ) (at : Pos) → is_of_text f ≡ true
    → n ≡ prefix_len is_ascii bytes → nat_le n m ≡ true → at ≡ place_after (start_of file line) (take n bytes)
    → HasStopped f m bytes (start_of file line) → Refuses (NotAscii at) file line bytes
refuse_before_by f n m file line bytes at of en e place h =
    let le = leb-true n m e in let lt = stop_inside f m bytes (start_of file line) of h in
    refuse_before_at f n m file line bytes at of en (omega arith) le place h

pub refuse_before : (f : LexFault) (n m file line : ℕ) (bytes : List ℕ) (at : Pos) → n ≡ prefix_len is_ascii bytes
    → (is_of_text f && nat_le n m) ≡ true → at ≡ place_after (start_of file line) (take n bytes)
    → OnNotMemory f (HasStopped f m bytes (start_of file line)) → Refuses (NotAscii at) file line bytes
refuse_before (NotAscii x) n m file line bytes at en e place h =
    refuse_before_by (NotAscii x) n m file line bytes at refl en e place h
refuse_before (BadNumber x) n m file line bytes at en e place h =
    refuse_before_by (BadNumber x) n m file line bytes at refl en e place h
refuse_before (OpenComment x) n m file line bytes at en e place h =
    refuse_before_by (OpenComment x) n m file line bytes at refl en e place h
refuse_before (BadChar x) n m file line bytes at en e place h =
    refuse_before_by (BadChar x) n m file line bytes at refl en e place h
refuse_before (TooManyTokens x) n m file line bytes at en e place h =
    refuse_before_by (TooManyTokens x) n m file line bytes at refl en e place h
refuse_before (OpenString x) n m file line bytes at en e place h =
    refuse_before_by (OpenString x) n m file line bytes at refl en e place h
refuse_before Memory n m file line bytes at en e place h = absurd (let f : ⊥ = cc in f)

pub read_tokens : (n file line : ℕ) (bytes : List ℕ) (pos : Pos) (ts : List Token) → n ≡ prefix_len is_ascii bytes
    → length bytes ≤ n → HasRead bytes (start_of file line) [] pos ts → AreTokens file line bytes ts
read_tokens n file line bytes pos ts en le r = record {
  pieces = r.pieces;
  same = r.same ∙ append-nil (joined r.pieces);
  stand = r.stand;
  tokens = r.tokens;
  ascii = all_ascii bytes (subst (λ z. length bytes ≤ z) en le);
  few = r.few;
}

-- tokens and a fault exclude each other
whole_of : (file line : ℕ) (bytes : List ℕ) (ts : List Token) (t : AreTokens file line bytes ts)
    → HasRead bytes (start_of file line) [] (place_after (start_of file line) (joined t.pieces)) ts
whole_of file line bytes ts t = record {
  pieces = t.pieces;
  same = t.same ∙ sym (append-nil (joined t.pieces));
  stand = t.stand;
  place = refl;
  tokens = t.tokens;
  few = t.few;
}

right_wrong : (f : LexFault) (file line : ℕ) (bytes a b : List ℕ) (ts : List Token) → AreTokens file line bytes ts
    → bytes ≡ a ++ b → Wrong f a b → ⊥
right_wrong (NotAscii x) file line bytes a b ts t e w =
    not_all a b (subst (λ z. list_all is_ascii z ≡ true) e t.ascii) w
right_wrong (BadNumber x) file line bytes a b ts t e w = whole_right (BadNumber x) a b bytes (start_of file line)
    (place_after (start_of file line) (joined t.pieces)) ts tt (whole_of file line bytes ts t) e w
right_wrong (OpenComment x) file line bytes a b ts t e w = whole_right (OpenComment x) a b bytes (start_of file line)
    (place_after (start_of file line) (joined t.pieces)) ts tt (whole_of file line bytes ts t) e w
right_wrong (BadChar x) file line bytes a b ts t e w = whole_right (BadChar x) a b bytes (start_of file line)
    (place_after (start_of file line) (joined t.pieces)) ts tt (whole_of file line bytes ts t) e w
right_wrong (TooManyTokens x) file line bytes a b ts t e w = whole_right (TooManyTokens x) a b bytes
    (start_of file line) (place_after (start_of file line) (joined t.pieces)) ts tt (whole_of file line bytes ts t) e w
right_wrong (OpenString x) file line bytes a b ts t e w = whole_right (OpenString x) a b bytes (start_of file line)
    (place_after (start_of file line) (joined t.pieces)) ts tt (whole_of file line bytes ts t) e w
right_wrong Memory file line bytes a b ts t e w = w

pub right_refused : (f : LexFault) (file line : ℕ) (bytes : List ℕ) (ts : List Token) → AreTokens file line bytes ts
    → Refuses f file line bytes → ⊥
right_refused f file line bytes ts t r = right_wrong f file line bytes r.front r.rest ts t r.same r.wrong

-- a text has one first fault
one_front : (bytes a r b s : List ℕ) → bytes ≡ a ++ r → bytes ≡ b ++ s → length a ≡ length b → a ≡ b
one_front bytes a r b s e f long =
    let x : take (length a) bytes ≡ a = ap (λ z. take (length a) z) e ∙ take-append_seam a r in
    let y : take (length b) bytes ≡ b = ap (λ z. take (length b) z) f ∙ take-append_seam b s in
    sym x ∙ (ap (λ n. take n bytes) long ∙ y)

same_at : (f g : LexFault) (p : Pos) → number_of f ≡ number_of g → IsAt f p → IsAt g p → f ≡ g
same_at (NotAscii x) (NotAscii y) p e h k = ap (λ z. NotAscii z) (h ∙ sym k)
same_at (NotAscii x) (BadNumber y) p e h k = absurd (let f : ⊥ = absurd (omega arith) in f)
same_at (NotAscii x) (OpenComment y) p e h k = absurd (let f : ⊥ = absurd (omega arith) in f)
same_at (NotAscii x) (BadChar y) p e h k = absurd (let f : ⊥ = absurd (omega arith) in f)
same_at (NotAscii x) (TooManyTokens y) p e h k = absurd (let f : ⊥ = absurd (omega arith) in f)
same_at (NotAscii x) (OpenString y) p e h k = absurd (let f : ⊥ = absurd (omega arith) in f)
same_at (BadNumber x) (NotAscii y) p e h k = absurd (let f : ⊥ = absurd (omega arith) in f)
same_at (BadNumber x) (BadNumber y) p e h k = ap (λ z. BadNumber z) (h ∙ sym k)
same_at (BadNumber x) (OpenComment y) p e h k = absurd (let f : ⊥ = absurd (omega arith) in f)
same_at (BadNumber x) (BadChar y) p e h k = absurd (let f : ⊥ = absurd (omega arith) in f)
same_at (BadNumber x) (TooManyTokens y) p e h k = absurd (let f : ⊥ = absurd (omega arith) in f)
same_at (BadNumber x) (OpenString y) p e h k = absurd (let f : ⊥ = absurd (omega arith) in f)
same_at (OpenComment x) (NotAscii y) p e h k = absurd (let f : ⊥ = absurd (omega arith) in f)
same_at (OpenComment x) (BadNumber y) p e h k = absurd (let f : ⊥ = absurd (omega arith) in f)
same_at (OpenComment x) (OpenComment y) p e h k = ap (λ z. OpenComment z) (h ∙ sym k)
same_at (OpenComment x) (BadChar y) p e h k = absurd (let f : ⊥ = absurd (omega arith) in f)
same_at (OpenComment x) (TooManyTokens y) p e h k = absurd (let f : ⊥ = absurd (omega arith) in f)
same_at (OpenComment x) (OpenString y) p e h k = absurd (let f : ⊥ = absurd (omega arith) in f)
same_at (BadChar x) (NotAscii y) p e h k = absurd (let f : ⊥ = absurd (omega arith) in f)
same_at (BadChar x) (BadNumber y) p e h k = absurd (let f : ⊥ = absurd (omega arith) in f)
same_at (BadChar x) (OpenComment y) p e h k = absurd (let f : ⊥ = absurd (omega arith) in f)
same_at (BadChar x) (BadChar y) p e h k = ap (λ z. BadChar z) (h ∙ sym k)
same_at (BadChar x) (TooManyTokens y) p e h k = absurd (let f : ⊥ = absurd (omega arith) in f)
same_at (BadChar x) (OpenString y) p e h k = absurd (let f : ⊥ = absurd (omega arith) in f)
same_at (TooManyTokens x) (NotAscii y) p e h k = absurd (let f : ⊥ = absurd (omega arith) in f)
same_at (TooManyTokens x) (BadNumber y) p e h k = absurd (let f : ⊥ = absurd (omega arith) in f)
same_at (TooManyTokens x) (OpenComment y) p e h k = absurd (let f : ⊥ = absurd (omega arith) in f)
same_at (TooManyTokens x) (BadChar y) p e h k = absurd (let f : ⊥ = absurd (omega arith) in f)
same_at (TooManyTokens x) (TooManyTokens y) p e h k = ap (λ z. TooManyTokens z) (h ∙ sym k)
same_at (TooManyTokens x) (OpenString y) p e h k = absurd (let f : ⊥ = absurd (omega arith) in f)
same_at (OpenString x) (NotAscii y) p e h k = absurd (let f : ⊥ = absurd (omega arith) in f)
same_at (OpenString x) (BadNumber y) p e h k = absurd (let f : ⊥ = absurd (omega arith) in f)
same_at (OpenString x) (OpenComment y) p e h k = absurd (let f : ⊥ = absurd (omega arith) in f)
same_at (OpenString x) (BadChar y) p e h k = absurd (let f : ⊥ = absurd (omega arith) in f)
same_at (OpenString x) (TooManyTokens y) p e h k = absurd (let f : ⊥ = absurd (omega arith) in f)
same_at (OpenString x) (OpenString y) p e h k = ap (λ z. OpenString z) (h ∙ sym k)
same_at (NotAscii x) Memory p e h k = absurd k
same_at (BadNumber x) Memory p e h k = absurd k
same_at (OpenComment x) Memory p e h k = absurd k
same_at (BadChar x) Memory p e h k = absurd k
same_at (TooManyTokens x) Memory p e h k = absurd k
same_at (OpenString x) Memory p e h k = absurd k
same_at Memory g p e h k = absurd h

rank_length : (a b f g : ℕ) → 8 * a + f ≤ 8 * b + g → 8 * b + g ≤ 8 * a + f → f ≤ 7 → g ≤ 7 → (a ≡ b) × (f ≡ g)
rank_length a b f g h k s t = (omega arith, omega arith)

pub one_fault : (f g : LexFault) (file line : ℕ) (bytes : List ℕ) → Refuses f file line bytes
    → Refuses g file line bytes → f ≡ g
one_fault f g file line bytes r s =
    let both = rank_length (length r.front) (length s.front) (number_of f) (number_of g)
    (r.first g s.front s.rest s.same s.wrong) (s.first f r.front r.rest r.same r.wrong) (number_small f)
    (number_small g) in
    let e = one_front bytes r.front r.rest s.front s.rest r.same s.same both.0 in
    same_at f g (place_after (start_of file line) s.front) both.1
    (subst (λ z. IsAt f (place_after (start_of file line) z)) e r.place) s.place

-- the answer's clauses
pub answer_one : (r : Result (Vec Token) LexFault) (file line : ℕ) (bytes : List ℕ)
    → IfOk r (λ ts. AreTokens file line bytes ts.items)
    → IfOk r (λ ts. (us : List Token) → AreTokens file line bytes us → us ≡ ts.items)
answer_one (Ok ts) file line bytes h = λ us t. tokens_one file line bytes us ts.items t h
answer_one (Err e) file line bytes h = tt

none_by : (e : LexFault) (file line : ℕ) (bytes : List ℕ) → OnNotMemory e (Refuses e file line bytes)
    → OnNotMemory e ((us : List Token) → AreTokens file line bytes us → ⊥)
none_by (NotAscii x) file line bytes h = λ us t. right_refused (NotAscii x) file line bytes us t h
none_by (BadNumber x) file line bytes h = λ us t. right_refused (BadNumber x) file line bytes us t h
none_by (OpenComment x) file line bytes h = λ us t. right_refused (OpenComment x) file line bytes us t h
none_by (BadChar x) file line bytes h = λ us t. right_refused (BadChar x) file line bytes us t h
none_by (TooManyTokens x) file line bytes h = λ us t. right_refused (TooManyTokens x) file line bytes us t h
none_by (OpenString x) file line bytes h = λ us t. right_refused (OpenString x) file line bytes us t h
none_by Memory file line bytes h = tt

pub answer_none : (r : Result (Vec Token) LexFault) (file line : ℕ) (bytes : List ℕ)
    → IfErr r (λ e. OnNotMemory e (Refuses e file line bytes))
    → IfErr r (λ e. OnNotMemory e ((us : List Token) → AreTokens file line bytes us → ⊥))
answer_none (Ok ts) file line bytes h = tt
answer_none (Err e) file line bytes h = none_by e file line bytes h

same_by : (e f : LexFault) (file line : ℕ) (bytes : List ℕ) → OnNotMemory e (Refuses e file line bytes)
    → Refuses f file line bytes → OnNotMemory e (e ≡ f)
same_by (NotAscii x) f file line bytes h r = one_fault (NotAscii x) f file line bytes h r
same_by (BadNumber x) f file line bytes h r = one_fault (BadNumber x) f file line bytes h r
same_by (OpenComment x) f file line bytes h r = one_fault (OpenComment x) f file line bytes h r
same_by (BadChar x) f file line bytes h r = one_fault (BadChar x) f file line bytes h r
same_by (TooManyTokens x) f file line bytes h r = one_fault (TooManyTokens x) f file line bytes h r
same_by (OpenString x) f file line bytes h r = one_fault (OpenString x) f file line bytes h r
same_by Memory f file line bytes h r = tt

pub answer_same : (r : Result (Vec Token) LexFault) (file line : ℕ) (bytes : List ℕ)
    → IfOk r (λ ts. AreTokens file line bytes ts.items) → IfErr r (λ e. OnNotMemory e (Refuses e file line bytes))
    → (f : LexFault) → Refuses f file line bytes → IsAnswered f r
answer_same (Ok ts) file line bytes h g f r = right_refused f file line bytes ts.items h r
answer_same (Err e) file line bytes h g f r = same_by e f file line bytes g r
