-- The first piece of a text: what is found stands there, and what stands there is found.
use Rattle.std.proofs.Common.{◌≡◌, ℕ, Bool, true, false, cond, ◌&&◌, ◌||◌, ◌==◌, List, [], ◌∷◌, ◌++◌, Option, Some}
use Rattle.std.proofs.Common.{None, length, drop, refl, ap, sym, ◌∙◌, subst, append_assoc}
use Rattle.std.specs.List.{list_all}
use Rattle.std.proofs.Math.Seq.{drop-append_seam}
use Rattle.std.proofs.lemmas.Bool.{and_parts, and_from, eqb-true}
use Rattle.fv_text.specs.Name.{is_word, begins_word, continues_word, is_decimal_digit}
use Rattle.fv_text.specs.Symbol.{symbol_text}
use Rattle.fv_text.specs.declared.symbol.Symbol.{Symbol}
use Rattle.vl_token.specs.declared.sort.Sort.{Sort}
use Rattle.vl_token.specs.declared.sort.Sort.TheVariants as sort
use Rattle.vl_token.specs.Bytes.{is_space, is_empty, is_line_end, stays_on_line, is_quotable, first_is, ends_line}
use Rattle.vl_token.specs.Bytes.{run, behind}
use Rattle.vl_token.specs.Numeral.{Format, Numeral, plain, based, numeral_text, mark_text, IsNumeral, IsFormat}
use Rattle.vl_token.specs.Numeral.{IsPlain, is_size, is_decimal, continues_decimal}
use Rattle.vl_token.specs.Piece.{Piece, blank, line_comment, block_comment, word, number, sign, system, tick, quoted}
use Rattle.vl_token.specs.Piece.{continue, text_of, closes, begins_comment, IsLongest, Stands}
use Rattle.vl_token.specs.Fault.{HasOpenComment, HasOpenString}
use Rattle.vl_token.specs.Steps.{IsFront}
use Rattle.vl_token.specs.Cut.{Cut, ended, piece, open_comment, open_string, bad_char, sort_of, format_at}
use Rattle.vl_token.specs.Cut.{decimal_cut, based_cut, sign_at, sign_cut, close_of, more_inside, block_cut, slash_cut}
use Rattle.vl_token.specs.Cut.{system_cut, tick_cut, continue_cut, quoted_cut, cut_by, first_cut}
use Rattle.vl_token.proofs.Runs.{run-behind, run_all, behind_stops, run_is, behind_is}
use Rattle.vl_token.proofs.Bytes.{IsSort, sort_facts, blank_sort, word_sort, digit_sort}
use Rattle.vl_token.proofs.Formats.{IsRead, WasRead, read_at, no_format, format_again, size_blanks, size_stops}
use Rattle.vl_token.proofs.Signs.{sign_splits, sign_longest, sign_again, sign_first}

-- what a cut says of the text
abbrev pub Cuts : List ℕ → Cut → Type 0
Cuts bytes ended = bytes ≡ []
Cuts bytes (piece p rest) = IsFront bytes p rest
Cuts bytes open_comment = HasOpenComment bytes
Cuts bytes open_string = HasOpenString bytes
Cuts bytes bad_char = Unit {0}

-- words
word_at : (b : ℕ) (bs : List ℕ) → begins_word b ≡ true → run continues_word (b ∷ bs) ≡ b ∷ run continues_word bs
word_at b bs e = rw e refl

word_run : (b : ℕ) (bs : List ℕ) → begins_word b ≡ true → is_word (run continues_word (b ∷ bs)) ≡ true
word_run b bs e = rw (word_at b bs e) (and_from (begins_word b) (list_all continues_word (run continues_word bs)) e
    (run_all continues_word bs))

word_cuts : (b : ℕ) (bs : List ℕ) → begins_word b ≡ true
    → IsFront (b ∷ bs) (word (run continues_word (b ∷ bs))) (behind continues_word (b ∷ bs))
word_cuts b bs e = record {
  same = sym (run-behind continues_word (b ∷ bs));
  stands = (word_run b bs e, behind_stops continues_word (b ∷ bs));
}

-- numbers
plain_at : (b : ℕ) (bs : List ℕ) → is_decimal_digit b ≡ true → is_decimal (run continues_decimal (b ∷ bs)) ≡ true
plain_at b bs e = let one : run continues_decimal (b ∷ bs) ≡ b ∷ run continues_decimal bs = rw e refl in
    rw one (and_from (is_decimal_digit b) (list_all continues_decimal (run continues_decimal bs)) e
    (run_all continues_decimal bs))

size_ok : (size before : List ℕ) → is_decimal size ≡ true → list_all is_space before ≡ true → is_size size before ≡ true
size_ok [] before e h = absurd (let f : ⊥ = cc in f)
size_ok (b ∷ bs) before e h = and_from (is_decimal (b ∷ bs)) (list_all is_space before) e h

read_stands : (size before tail rest : List ℕ) (f : Format) → is_size size before ≡ true
    → IsRead size before tail f rest → IsFront (size ++ (before ++ tail)) (number (based f)) rest
read_stands size before tail rest f ok r =
    let inner : (f.before ++ mark_text f) ++ rest ≡ before ++ tail = append_assoc f.before (mark_text f) rest
    ∙ (ap (λ z. z ++ (mark_text f ++ rest)) r.before_is ∙ ap (λ z. before ++ z) (sym r.same)) in
    let whole : (f.size ++ (f.before ++ mark_text f)) ++ rest ≡ size
    ++ (before ++ tail) = append_assoc f.size (f.before ++ mark_text f) rest
    ∙ (ap (λ z. f.size ++ z) inner ∙ ap (λ z. z ++ (before ++ tail)) r.size_is) in
    record {
      same = sym whole;
      stands = record {
        size = rw (r.size_is, r.before_is) ok;
        sign = r.sign;
        base = r.base;
        blanks = r.blanks;
        digits = r.digits;
        ends = r.ends;
      };
    }

decimal_at : (bytes size rest : List ℕ) (o : Option (Format × List ℕ)) → bytes ≡ size ++ rest
    → is_decimal size ≡ true → first_is continues_decimal rest ≡ false
    → WasRead size (run is_space rest) (behind is_space rest) o → Cuts bytes (decimal_cut size rest o)
decimal_at bytes size rest None e d s w = record { same = e; stands = record { decimal = d; ends = s; no_base = w } }
decimal_at bytes size rest (Some x) e d s w =
    let front = read_stands size (run is_space rest) (behind is_space rest) x.1 x.0
    (size_ok size (run is_space rest) d (run_all is_space rest)) w in
    let same : bytes ≡ size ++ (run is_space rest ++ behind is_space rest) = e
    ∙ ap (λ z. size ++ z) (sym (run-behind is_space rest)) in
    record { same = same ∙ front.same; stands = front.stands }

decimal_cuts : (b : ℕ) (bs : List ℕ) → is_decimal_digit b ≡ true
    → Cuts (b ∷ bs) (decimal_cut (run continues_decimal (b ∷ bs)) (behind continues_decimal (b ∷ bs))
    (format_at (run continues_decimal (b ∷ bs)) (behind continues_decimal (b ∷ bs))))
decimal_cuts b bs e =
    let size = run continues_decimal (b ∷ bs) in
    let rest = behind continues_decimal (b ∷ bs) in
    decimal_at (b ∷ bs) size rest (format_at size rest) (sym (run-behind continues_decimal (b ∷ bs)))
    (plain_at b bs e) (behind_stops continues_decimal (b ∷ bs)) (read_at size rest)

unsized_at : (bs : List ℕ) (o : Option (Format × List ℕ)) → WasRead [] [] (39 ∷ bs) o → Cuts (39 ∷ bs) (based_cut o)
unsized_at bs None w = tt
unsized_at bs (Some x) w = read_stands [] [] (39 ∷ bs) x.1 x.0 refl w

unsized_cuts : (bs : List ℕ) → Cuts (39 ∷ bs) (based_cut (format_at [] (39 ∷ bs)))
unsized_cuts bs = unsized_at bs (format_at [] (39 ∷ bs)) (read_at [] (39 ∷ bs))

-- signs
sign_found : (bytes : List ℕ) (o : Option Symbol) → sign_at bytes ≡ o → begins_comment bytes ≡ false
    → Cuts bytes (sign_cut bytes o)
sign_found bytes None e n = tt
sign_found bytes (Some t) e n =
    let split = sign_splits bytes t e in
    let whole : symbol_text t ++ drop (length (symbol_text t)) bytes ≡ bytes = sym split in
    let longest : IsLongest t bytes = record { longest = λ u pass. sign_longest bytes t u e pass; no_comment = n } in
    record { same = split; stands = subst (λ z. IsLongest t z) split longest }

sign_cuts : (bytes : List ℕ) → begins_comment bytes ≡ false → Cuts bytes (sign_cut bytes (sign_at bytes))
sign_cuts bytes n = sign_found bytes (sign_at bytes) refl n

-- comments
line_stops : (rest : List ℕ) → first_is stays_on_line rest ≡ false → ends_line rest ≡ true
line_stops [] e = refl
line_stops (b ∷ bs) e = by (b == 10) e
  where
    by : (c : Bool) → cond c false true ≡ false → c ≡ true
    by true f = refl
    by false f = absurd (let g : ⊥ = cc in g)

line_cuts : (bs : List ℕ) → IsFront (47 ∷ (47 ∷ bs)) (line_comment (run stays_on_line bs)) (behind stays_on_line bs)
line_cuts bs = record {
  same = ap (λ z. 47 ∷ (47 ∷ z)) (sym (run-behind stays_on_line bs));
  stands = (run_all stays_on_line bs, line_stops (behind stays_on_line bs) (behind_stops stays_on_line bs));
}

-- what the search for `*/` says
abbrev pub Closed : List ℕ → Option (List ℕ × List ℕ) → Type 0
Closed bytes None = closes bytes ≡ false
Closed bytes (Some x) = (closes x.0 ≡ false) × (bytes ≡ x.0 ++ (42 ∷ (47 ∷ x.1)))

first_only : (b : ℕ) (xs : List ℕ) (z : List ℕ) → (b == 42 && first_is (λ c. c == 47) (xs ++ (42 ∷ z))) ≡ false
    → (b == 42 && first_is (λ c. c == 47) xs) ≡ false
first_only b [] z e = by (b == 42)
  where
    by : (c : Bool) → (c && false) ≡ false
    by true = refl
    by false = refl
first_only b (x ∷ xs) z e = e

close_more : (b : ℕ) (bs : List ℕ) (o : Option (List ℕ × List ℕ)) → (b == 42 && first_is (λ c. c == 47) bs) ≡ false
    → Closed bs o → Closed (b ∷ bs) (more_inside b o)
close_more b bs None e h = rw (e, h) refl
close_more b bs (Some x) e h =
    let f : (b == 42 && first_is (λ c. c == 47) (x.0 ++ (42 ∷ (47 ∷ x.1))))
    ≡ false = subst (λ z. (b == 42 && first_is (λ c. c == 47) z) ≡ false) h.1 e in
    (rw (first_only b x.0 (47 ∷ x.1) f, h.0) refl, ap (λ z. b ∷ z) h.1)

close_here : (b : ℕ) (bs : List ℕ) → (b == 42 && first_is (λ c. c == 47) bs) ≡ true → b ∷ bs ≡ 42 ∷ (47 ∷ drop 1 bs)
close_here b [] e = absurd (let f : false ≡ true = (and_parts (b == 42) false e).1 in let g : ⊥ = cc in g)
close_here b (x ∷ xs) e =
    let both = and_parts (b == 42) (x == 47) e in
    let one = eqb-true b 42 both.0 in
    let two = eqb-true x 47 both.1 in
    ap (λ z. z ∷ (x ∷ xs)) one ∙ ap (λ z. 42 ∷ (z ∷ xs)) two

close_at : (b : ℕ) (bs : List ℕ) (c : Bool) → (b == 42 && first_is (λ c. c == 47) bs) ≡ c → Closed bs (close_of bs)
    → Closed (b ∷ bs) (cond c (Some ([], drop 1 bs)) (more_inside b (close_of bs)))
close_at b bs true e h = (refl, close_here b bs e)
close_at b bs false e h = close_more b bs (close_of bs) e h

pub closed : (bytes : List ℕ) → Closed bytes (close_of bytes)
closed [] = refl
closed (b ∷ bs) = close_at b bs (b == 42 && first_is (λ c. c == 47) bs) refl (closed bs)

block_at : (bs : List ℕ) (o : Option (List ℕ × List ℕ)) → Closed bs o → Cuts (47 ∷ (42 ∷ bs)) (block_cut o)
block_at bs None h = record { body = bs; same = refl; open_ended = h }
block_at bs (Some x) h =
    let e : (x.0 ++ (42 ∷ (47 ∷ []))) ++ x.1 ≡ x.0 ++ (42 ∷ (47 ∷ x.1)) = append_assoc x.0 (42 ∷ (47 ∷ [])) x.1 in
    record { same = ap (λ z. 47 ∷ (42 ∷ z)) (h.1 ∙ sym e); stands = h.0 }

star_at : (b : ℕ) (bs : List ℕ) (c : Bool) → (b == 47) ≡ false → (b == 42) ≡ c
    → Cuts (47 ∷ (b ∷ bs)) (cond c (block_cut (close_of bs)) (sign_cut (47 ∷ (b ∷ bs)) (sign_at (47 ∷ (b ∷ bs)))))
star_at b bs true n e = subst (λ z. Cuts (47 ∷ (z ∷ bs)) (block_cut (close_of bs))) (sym (eqb-true b 42 e))
    (block_at bs (close_of bs) (closed bs))
star_at b bs false n e = sign_cuts (47 ∷ (b ∷ bs)) (rw (n, e) refl)

slash_at : (b : ℕ) (bs : List ℕ) (c : Bool) → (b == 47) ≡ c
    → Cuts (47 ∷ (b ∷ bs)) (cond c (piece (line_comment (run stays_on_line bs)) (behind stays_on_line bs))
    (cond (b == 42) (block_cut (close_of bs)) (sign_cut (47 ∷ (b ∷ bs)) (sign_at (47 ∷ (b ∷ bs))))))
slash_at b bs true e = subst (λ z. IsFront (47 ∷ (z ∷ bs)) (line_comment (run stays_on_line bs))
    (behind stays_on_line bs)) (sym (eqb-true b 47 e)) (line_cuts bs)
slash_at b bs false e = star_at b bs (b == 42) e refl

slash_cuts : (bs : List ℕ) → Cuts (47 ∷ bs) (slash_cut bs)
slash_cuts [] = sign_cuts (47 ∷ []) refl
slash_cuts (b ∷ bs) = slash_at b bs (b == 47) refl

-- system names, directives, strings and joined lines
system_at : (bs name rest : List ℕ) → bs ≡ name ++ rest → list_all continues_word name ≡ true
    → first_is continues_word rest ≡ false → Cuts (36 ∷ bs) (system_cut name rest)
system_at bs [] rest e a s = tt
system_at bs (b ∷ name) rest e a s = record { same = ap (λ z. 36 ∷ z) e; stands = (refl, a, s) }

tick_at : (bs : List ℕ) (c : Bool) → first_is begins_word bs ≡ c
    → Cuts (96 ∷ bs) (cond c (piece (tick (run continues_word bs)) (behind continues_word bs)) bad_char)
tick_at bs false e = tt
tick_at [] true e = absurd (let f : ⊥ = cc in f)
tick_at (b ∷ bs) true e = record {
  same = ap (λ z. 96 ∷ z) (sym (run-behind continues_word (b ∷ bs)));
  stands = (word_run b bs e, behind_stops continues_word (b ∷ bs));
}

quote_end : (b : ℕ) (bs : List ℕ) → first_is is_quotable (b ∷ bs) ≡ false → (b == 34) ≡ false → (b == 10) ≡ true
quote_end b bs e f = by (b == 34) (b == 10) e f
  where
    by : (x y : Bool) → cond x false (cond y false true) ≡ false → x ≡ false → y ≡ true
    by true y e f = absurd (let g : ⊥ = cc in g)
    by false true e f = refl
    by false false e f = absurd (let g : ⊥ = cc in g)

quoted_by : (bs body : List ℕ) (b : ℕ) (rest : List ℕ) (c : Bool) → (b == 34) ≡ c → bs ≡ body ++ (b ∷ rest)
    → list_all is_quotable body ≡ true → first_is is_quotable (b ∷ rest) ≡ false
    → Cuts (34 ∷ bs) (cond c (piece (quoted body) rest) open_string)
quoted_by bs body b rest true h e a s =
    let one = eqb-true b 34 h in
    let two : (body ++ (34 ∷ [])) ++ rest ≡ body ++ (34 ∷ rest) = append_assoc body (34 ∷ []) rest in
    record { same = ap (λ z. 34 ∷ z) (e ∙ (ap (λ z. body ++ (z ∷ rest)) one ∙ sym two)); stands = a }
quoted_by bs body b rest false h e a s =
    record { body = body; after = b ∷ rest; same = ap (λ z. 34 ∷ z) e; inside = a; ends = quote_end b rest s h }

quoted_at : (bs body close : List ℕ) → bs ≡ body ++ close → list_all is_quotable body ≡ true
    → first_is is_quotable close ≡ false → Cuts (34 ∷ bs) (quoted_cut body close)
quoted_at bs body [] e a s = record { body = body; after = []; same = ap (λ z. 34 ∷ z) e; inside = a; ends = refl }
quoted_at bs body (b ∷ rest) e a s = quoted_by bs body b rest (b == 34) refl e a s

continue_at : (bs : List ℕ) (c : Bool) → first_is is_line_end bs ≡ c
    → Cuts (92 ∷ bs) (cond c (piece continue bs) bad_char)
continue_at bs true e = record { same = refl; stands = e }
continue_at bs false e = tt

-- a byte that is no slash begins no comment
no_comment : (b : ℕ) (bs : List ℕ) → (b == 47) ≡ false → begins_comment (b ∷ bs) ≡ false
no_comment b bs e = rw e refl

cuts_by : (k : Sort) (b : ℕ) (bs : List ℕ) → IsSort k b → (k ≡ sort.Other → (b == 47) ≡ false)
    → Cuts (b ∷ bs) (cut_by k b bs)
cuts_by sort.Word b bs h o = word_cuts b bs h
cuts_by sort.Digit b bs h o = decimal_cuts b bs h
cuts_by sort.Blank b bs h o = record { same = refl; stands = h }
cuts_by sort.Slash b bs h o = subst (λ z. Cuts (z ∷ bs) (slash_cut bs)) (sym h) (slash_cuts bs)
cuts_by sort.Apostrophe b bs h o =
    subst (λ z. Cuts (z ∷ bs) (based_cut (format_at [] (z ∷ bs)))) (sym h) (unsized_cuts bs)
cuts_by sort.Dollar b bs h o =
    subst (λ z. Cuts (z ∷ bs) (system_cut (run continues_word bs) (behind continues_word bs))) (sym h)
    (system_at bs (run continues_word bs) (behind continues_word bs) (sym (run-behind continues_word bs))
    (run_all continues_word bs) (behind_stops continues_word bs))
cuts_by sort.Backquote b bs h o =
    subst (λ z. Cuts (z ∷ bs) (tick_cut bs)) (sym h) (tick_at bs (first_is begins_word bs) refl)
cuts_by sort.Quote b bs h o =
    subst (λ z. Cuts (z ∷ bs) (quoted_cut (run is_quotable bs) (behind is_quotable bs))) (sym h)
    (quoted_at bs (run is_quotable bs) (behind is_quotable bs) (sym (run-behind is_quotable bs))
    (run_all is_quotable bs) (behind_stops is_quotable bs))
cuts_by sort.Backslash b bs h o =
    subst (λ z. Cuts (z ∷ bs) (continue_cut bs)) (sym h) (continue_at bs (first_is is_line_end bs) refl)
cuts_by sort.Other b bs h o = sign_cuts (b ∷ bs) (no_comment b bs (o refl))

-- what is of no sort is no slash
other_at : (b : ℕ) (c : Bool) → (b == 47) ≡ c → sort_of b ≡ sort.Other → (b == 47) ≡ false
other_at b true e h =
    absurd (let f : sort_of 47 ≡ sort.Other = ap sort_of (sym (eqb-true b 47 e)) ∙ h in let g : ⊥ = cc in g)
other_at b false e h = e

pub cuts : (bytes : List ℕ) → Cuts bytes (first_cut bytes)
unfolding first_cut
cuts [] = refl
cuts (b ∷ bs) = cuts_by (sort_of b) b bs (sort_facts b) (other_at b (b == 47) refl)

-- the other way: each kind of piece is found where it stands
by_sort : (b : ℕ) (bs : List ℕ) (k : Sort) → sort_of b ≡ k → first_cut (b ∷ bs) ≡ cut_by k b bs
unfolding first_cut
by_sort b bs k e = ap (λ s. cut_by s b bs) e

word_again : (w rest : List ℕ) → is_word w ≡ true → first_is continues_word rest ≡ false
    → first_cut (w ++ rest) ≡ piece (word w) rest
word_again [] rest e s = absurd (let f : ⊥ = cc in f)
word_again (b ∷ bs) rest e s =
    let both = and_parts (begins_word b) (list_all continues_word bs) e in
    let all : list_all continues_word (b ∷ bs) ≡ true = rw (both.0, both.1) refl in
    let one = run_is continues_word (b ∷ bs) rest all s in
    let two = behind_is continues_word (b ∷ bs) rest all s in
    by_sort b (bs ++ rest) sort.Word (word_sort b both.0)
    ∙ (ap (λ z. piece (word z) (behind continues_word (b ∷ (bs ++ rest)))) one ∙ ap (λ z. piece (word (b ∷ bs)) z) two)

-- a size is a run of digits
decimal_all : (ds : List ℕ) → is_decimal ds ≡ true → list_all continues_decimal ds ≡ true
decimal_all [] e = refl
decimal_all (b ∷ bs) e =
    let both = and_parts (is_decimal_digit b) (list_all continues_decimal bs) e in rw (both.0, both.1) refl

decimal_first : (b : ℕ) (bs tail : List ℕ) (o : Option (Format × List ℕ)) → is_decimal (b ∷ bs) ≡ true
    → first_is continues_decimal tail ≡ false → format_at (b ∷ bs) tail ≡ o
    → first_cut (b ∷ (bs ++ tail)) ≡ decimal_cut (b ∷ bs) tail o
decimal_first b bs tail o e s f =
    let all = decimal_all (b ∷ bs) e in
    let one = run_is continues_decimal (b ∷ bs) tail all s in
    let two = behind_is continues_decimal (b ∷ bs) tail all s in
    by_sort b (bs ++ tail) sort.Digit (digit_sort b
    (and_parts (is_decimal_digit b) (list_all continues_decimal bs) e).0)
    ∙ (ap (λ z. decimal_cut z (behind continues_decimal (b ∷ (bs ++ tail)))
    (format_at z (behind continues_decimal (b ∷ (bs ++ tail))))) one
    ∙ (ap (λ z. decimal_cut (b ∷ bs) z (format_at (b ∷ bs) z)) two ∙ ap (λ z. decimal_cut (b ∷ bs) tail z) f))

plain_again : (ds rest : List ℕ) → IsPlain ds rest → first_cut (ds ++ rest) ≡ piece (number (plain ds)) rest
plain_again [] rest h = absurd (let e : false ≡ true = h.decimal in let f : ⊥ = cc in f)
plain_again (b ∷ bs) rest h = decimal_first b bs rest None h.decimal h.ends (no_format (b ∷ bs) rest h.no_base)

based_text : (f : Format) (rest : List ℕ)
    → (f.size ++ (f.before ++ mark_text f)) ++ rest ≡ f.size ++ (f.before ++ (mark_text f ++ rest))
based_text f rest = append_assoc f.size (f.before ++ mark_text f) rest
    ∙ ap (λ z. f.size ++ z) (append_assoc f.before (mark_text f) rest)

sized_again : (size : List ℕ) (f : Format) (rest : List ℕ) → f.size ≡ size → IsFormat f rest
    → first_cut (size ++ (f.before ++ (mark_text f ++ rest))) ≡ piece (number (based f)) rest
sized_again [] f rest e h =
    let none : is_size [] f.before ≡ true = subst (λ z. is_size z f.before ≡ true) e h.size in
    let empty = no_blanks f.before none in
    let found : format_at [] (mark_text f ++ rest)
    ≡ Some (f, rest) = subst (λ z. format_at z (mark_text f ++ rest) ≡ Some (f, rest)) e
    (subst (λ z. format_at f.size (z ++ (mark_text f ++ rest)) ≡ Some (f, rest)) empty
    (format_again f rest h (size_blanks f.size f.before h.size))) in
    ap (λ z. first_cut (z ++ (mark_text f ++ rest))) empty
    ∙ (by_sort 39 ((f.sign ++ (f.base ∷ (f.behind ++ f.digits))) ++ rest) sort.Apostrophe refl ∙ ap based_cut found)
  where
    no_blanks : (before : List ℕ) → is_size [] before ≡ true → before ≡ []
    no_blanks [] e = refl
    no_blanks (b ∷ bs) e = absurd (let f : ⊥ = cc in f)
sized_again (b ∷ bs) f rest e h =
    let ok : is_size (b ∷ bs) f.before ≡ true = subst (λ z. is_size z f.before ≡ true) e h.size in
    let both = and_parts (is_decimal (b ∷ bs)) (list_all is_space f.before) ok in
    let found : format_at (b ∷ bs) (f.before ++ (mark_text f ++ rest))
    ≡ Some (f, rest) = subst (λ z. format_at z (f.before ++ (mark_text f ++ rest)) ≡ Some (f, rest)) e
    (format_again f rest h both.1) in
    decimal_first b bs (f.before ++ (mark_text f ++ rest)) (Some (f, rest)) both.0
    (size_stops f.before f rest both.1) found

based_again : (f : Format) (rest : List ℕ) → IsFormat f rest
    → first_cut ((f.size ++ (f.before ++ mark_text f)) ++ rest) ≡ piece (number (based f)) rest
based_again f rest h = ap first_cut (based_text f rest) ∙ sized_again f.size f rest refl h

number_again : (m : Numeral) (rest : List ℕ) → IsNumeral m rest
    → first_cut (numeral_text m ++ rest) ≡ piece (number m) rest
number_again (plain ds) rest h = plain_again ds rest h
number_again (based f) rest h = based_again f rest h

sign_piece : (t : Symbol) (rest : List ℕ) → IsLongest t (symbol_text t ++ rest)
    → first_cut (symbol_text t ++ rest) ≡ piece (sign t) rest
sign_piece t rest h =
    let found = sign_again (symbol_text t ++ rest) t rest refl h.longest in
    let cut = drop-append_seam (symbol_text t) rest in
    sign_first t rest h.no_comment ∙ (ap (λ o. sign_cut (symbol_text t ++ rest) o) found
    ∙ ap (λ z. piece (sign t) z) cut)

line_on : (rest : List ℕ) → ends_line rest ≡ true → first_is stays_on_line rest ≡ false
line_on [] e = refl
line_on (b ∷ bs) e = rw e refl

line_again : (body rest : List ℕ) → list_all stays_on_line body ≡ true → ends_line rest ≡ true
    → first_cut (47 ∷ (47 ∷ (body ++ rest))) ≡ piece (line_comment body) rest
line_again body rest a s =
    let one = run_is stays_on_line body rest a (line_on rest s) in
    let two = behind_is stays_on_line body rest a (line_on rest s) in
    by_sort 47 (47 ∷ (body ++ rest)) sort.Slash refl
    ∙ (ap (λ z. piece (line_comment z) (behind stays_on_line (body ++ rest))) one
    ∙ ap (λ z. piece (line_comment body) z) two)

not_or : (x y : Bool) → (x || y) ≡ false → (x ≡ false) × (y ≡ false)
not_or true y e = absurd (let f : ⊥ = cc in f)
not_or false y e = (refl, e)

first_still : (b : ℕ) (xs z : List ℕ) → (b == 42 && first_is (λ c. c == 47) xs) ≡ false
    → (b == 42 && first_is (λ c. c == 47) (xs ++ (42 ∷ z))) ≡ false
first_still b [] z e = by (b == 42)
  where
    by : (c : Bool) → (c && false) ≡ false
    by true = refl
    by false = refl
first_still b (x ∷ xs) z e = e

close_again : (body rest : List ℕ) → closes body ≡ false → close_of (body ++ (42 ∷ (47 ∷ rest))) ≡ Some (body, rest)
close_again [] rest e = refl
close_again (b ∷ bs) rest e =
    let both = not_or (b == 42 && first_is (λ c. c == 47) bs) (closes bs) e in
    rw (first_still b bs (47 ∷ rest) both.0, close_again bs rest both.1) refl

block_again : (body rest : List ℕ) → closes body ≡ false
    → first_cut ((47 ∷ (42 ∷ (body ++ (42 ∷ (47 ∷ []))))) ++ rest) ≡ piece (block_comment body) rest
block_again body rest e =
    let flat : (body ++ (42 ∷ (47 ∷ []))) ++ rest ≡ body
    ++ (42 ∷ (47 ∷ rest)) = append_assoc body (42 ∷ (47 ∷ [])) rest in
    by_sort 47 (42 ∷ ((body ++ (42 ∷ (47 ∷ []))) ++ rest)) sort.Slash refl
    ∙ (ap (λ z. block_cut (close_of z)) flat ∙ ap block_cut (close_again body rest e))

system_again : (w rest : List ℕ) → is_empty w ≡ false → list_all continues_word w ≡ true
    → first_is continues_word rest ≡ false → first_cut (36 ∷ (w ++ rest)) ≡ piece (system w) rest
system_again [] rest n a s = absurd (let f : ⊥ = cc in f)
system_again (b ∷ bs) rest n a s =
    let one = run_is continues_word (b ∷ bs) rest a s in
    let two = behind_is continues_word (b ∷ bs) rest a s in
    by_sort 36 ((b ∷ bs) ++ rest) sort.Dollar refl
    ∙ (ap (λ z. system_cut z (behind continues_word (b ∷ (bs ++ rest)))) one ∙ ap (λ z. piece (system (b ∷ bs)) z) two)

tick_again : (w rest : List ℕ) → is_word w ≡ true → first_is continues_word rest ≡ false
    → first_cut (96 ∷ (w ++ rest)) ≡ piece (tick w) rest
tick_again [] rest e s = absurd (let f : ⊥ = cc in f)
tick_again (b ∷ bs) rest e s =
    let both = and_parts (begins_word b) (list_all continues_word bs) e in
    let all : list_all continues_word (b ∷ bs) ≡ true = rw (both.0, both.1) refl in
    let one = run_is continues_word (b ∷ bs) rest all s in
    let two = behind_is continues_word (b ∷ bs) rest all s in
    let here : tick_cut (b ∷ (bs ++ rest)) ≡ piece (tick (run continues_word (b ∷ (bs ++ rest))))
    (behind continues_word (b ∷ (bs ++ rest))) = rw both.0 refl in
    by_sort 96 (b ∷ (bs ++ rest)) sort.Backquote refl
    ∙ (here ∙ (ap (λ z. piece (tick z) (behind continues_word (b ∷ (bs ++ rest)))) one
    ∙ ap (λ z. piece (tick (b ∷ bs)) z) two))

quoted_again : (body rest : List ℕ) → list_all is_quotable body ≡ true
    → first_cut ((34 ∷ (body ++ (34 ∷ []))) ++ rest) ≡ piece (quoted body) rest
quoted_again body rest a =
    let flat : (body ++ (34 ∷ [])) ++ rest ≡ body ++ (34 ∷ rest) = append_assoc body (34 ∷ []) rest in
    let one = run_is is_quotable body (34 ∷ rest) a refl in
    let two = behind_is is_quotable body (34 ∷ rest) a refl in
    by_sort 34 ((body ++ (34 ∷ [])) ++ rest) sort.Quote refl
    ∙ (ap (λ z. quoted_cut (run is_quotable z) (behind is_quotable z)) flat
    ∙ (ap (λ z. quoted_cut z (behind is_quotable (body ++ (34 ∷ rest)))) one ∙ ap (λ z. quoted_cut body z) two))

continue_again : (rest : List ℕ) → first_is is_line_end rest ≡ true → first_cut (92 ∷ rest) ≡ piece continue rest
continue_again rest e =
    let here : continue_cut rest ≡ piece continue rest = rw e refl in
    by_sort 92 rest sort.Backslash refl ∙ here

pub again : (p : Piece) (rest : List ℕ) → Stands p rest → first_cut (text_of p ++ rest) ≡ piece p rest
again (blank b) rest h = by_sort b rest sort.Blank (blank_sort b h)
again (line_comment body) rest h = line_again body rest h.0 h.1
again (block_comment body) rest h = block_again body rest h
again (word w) rest h = word_again w rest h.0 h.1
again (number m) rest h = number_again m rest h
again (sign t) rest h = sign_piece t rest h
again (system w) rest h = system_again w rest h.0 h.1 h.2
again (tick w) rest h = tick_again w rest h.0 h.1
again (quoted body) rest h = quoted_again body rest h
again continue rest h = continue_again rest h

-- faults are found where they are
pub open_comment_again : (bytes : List ℕ) → HasOpenComment bytes → first_cut bytes ≡ open_comment
open_comment_again bytes h =
    ap first_cut h.same ∙ (by_sort 47 (42 ∷ h.body) sort.Slash refl ∙ ap block_cut (close_none h.body h.open_ended))
  where
    close_none : (body : List ℕ) → closes body ≡ false → close_of body ≡ None
    close_none body e = by (close_of body) (closed body)
      where
        by : (o : Option (List ℕ × List ℕ)) → Closed body o → o ≡ None
        by None c = refl
        by (Some x) c = absurd (let f : closes (x.0 ++ (42 ∷ (47 ∷ x.1)))
            ≡ false = subst (λ z. closes z ≡ false) c.1 e in let g : true ≡ false = sym (ends x.0 x.1) ∙ f
            in let k : ⊥ = cc in k)
          where
            ends : (xs ys : List ℕ) → closes (xs ++ (42 ∷ (47 ∷ ys))) ≡ true
            ends [] ys = refl
            ends (x ∷ xs) ys = or_right (x == 42 && first_is (λ c. c == 47) (xs ++ (42 ∷ (47 ∷ ys))))
                (closes (xs ++ (42 ∷ (47 ∷ ys)))) (ends xs ys)
              where
                or_right : (x y : Bool) → y ≡ true → (x || y) ≡ true
                or_right true y e = refl
                or_right false y e = e

open_quote : (body after : List ℕ) → ends_line after ≡ true → quoted_cut body after ≡ open_string
open_quote body [] e = refl
open_quote body (b ∷ bs) e = let one = eqb-true b 10 e in ap (λ z. quoted_cut body (z ∷ bs)) one

quote_stops : (after : List ℕ) → ends_line after ≡ true → first_is is_quotable after ≡ false
quote_stops [] e = refl
quote_stops (b ∷ bs) e = let one = eqb-true b 10 e in ap is_quotable one

pub open_string_again : (bytes : List ℕ) → HasOpenString bytes → first_cut bytes ≡ open_string
open_string_again bytes h =
    let one = run_is is_quotable h.body h.after h.inside (quote_stops h.after h.ends) in
    let two = behind_is is_quotable h.body h.after h.inside (quote_stops h.after h.ends) in
    ap first_cut h.same
    ∙ (by_sort 34 (h.body ++ h.after) sort.Quote refl
    ∙ (ap (λ z. quoted_cut z (behind is_quotable (h.body ++ h.after))) one
    ∙ (ap (λ z. quoted_cut h.body z) two ∙ open_quote h.body h.after h.ends)))

-- two pieces that stand at one place are the same
pub one_piece : (p q : Piece) (r s : List ℕ) → Stands p r → Stands q s → text_of p ++ r ≡ text_of q ++ s → (p ≡ q)
    × (r ≡ s)
one_piece p q r s h k e =
    let f : piece p r ≡ piece q s = sym (again p r h) ∙ (ap first_cut e ∙ again q s k) in
    (let g : p ≡ q = cc in g, let g : r ≡ s = cc in g)
