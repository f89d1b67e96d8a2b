-- Numbers with a base, read and found again.
use Rattle.std.proofs.Common.{◌≡◌, ℕ, Bool, true, false, not, cond, ◌&&◌, ◌||◌, ◌==◌, List, [], ◌∷◌, ◌++◌, Option}
use Rattle.std.proofs.Common.{Some, None, refl, ap, sym, ◌∙◌, subst, append_assoc}
use Rattle.std.specs.List.{list_all}
use Rattle.std.proofs.lemmas.Bool.{and_parts, and_from, eqb-true}
use Rattle.vl_token.specs.Bytes.{is_space, first_is, run, behind}
use Rattle.vl_token.specs.Numeral.{is_digit, is_base, is_sign, goes_on, begins_format, is_sign_part, is_digits}
use Rattle.vl_token.specs.Numeral.{ends_digits, Format, mark_text, IsFormat, is_size, is_decimal, continues_decimal}
use Rattle.vl_token.specs.Cut.{format_at, mark_at, base_at, format_of, sign_front, sign_rest, digits_front, digits_rest}
use Rattle.vl_token.proofs.Runs.{run-behind, run_all, behind_stops, run_is, behind_is, digits_join}
use Rattle.vl_token.proofs.Bytes.{digit_no_space, base_no_sign, sign_no_base, space_no_decimal}

-- a based number that was read behind its size and blanks
pub record IsRead (size before tail : List ℕ) (f : Format) (rest : List ℕ) : Type 0 where
  pub size_is : f.size ≡ size
  pub before_is : f.before ≡ before
  pub same : tail ≡ mark_text f ++ rest
  pub sign : is_sign_part f.sign ≡ true
  pub base : is_base f.base ≡ true
  pub blanks : list_all is_space f.behind ≡ true
  pub digits : is_digits f.base f.digits ≡ true
  pub ends : ends_digits f.base f.digits rest ≡ true
  pub begins : begins_format tail ≡ true

abbrev pub WasRead : List ℕ → List ℕ → List ℕ → Option (Format × List ℕ) → Type 0
WasRead size before tail None = begins_format tail ≡ false
WasRead size before tail (Some x) = IsRead size before tail x.0 x.1

digits_at : (base : ℕ) (b : ℕ) (bs : List ℕ) (c : Bool) → is_digit b ≡ c → first_is is_space (b ∷ bs) ≡ false
    → (is_digits base (cond c (b ∷ run (goes_on base) bs) []) ≡ true)
    × (ends_digits base (cond c (b ∷ run (goes_on base) bs) []) (cond c (behind (goes_on base) bs) (b ∷ bs)) ≡ true)
digits_at base b bs true e h = (
  and_from (is_digit b) (list_all (goes_on base) (run (goes_on base) bs)) e
      (run_all (goes_on base) bs),
  rw (behind_stops (goes_on base) bs) refl,
)
digits_at base b bs false e h = (refl, rw (h, e) refl)

digits_ok : (base : ℕ) (xs : List ℕ) → first_is is_space xs ≡ false
    → (is_digits base (digits_front base xs) ≡ true)
    × (ends_digits base (digits_front base xs) (digits_rest base xs) ≡ true)
digits_ok base [] h = (refl, refl)
digits_ok base (b ∷ bs) h = digits_at base b bs (is_digit b) refl h

-- from the letter of the base on
from_base : (size before sgn : List ℕ) (d : ℕ) (ds tail : List ℕ) → tail ≡ 39 ∷ (sgn ++ (d ∷ ds))
    → is_sign_part sgn ≡ true → is_base d ≡ true → begins_format tail ≡ true
    → IsRead size before tail (format_of size before sgn d ds) (digits_rest d (behind is_space ds))
from_base size before sgn d ds tail e signed base begins =
    let xs = behind is_space ds in
    let inner : run is_space ds ++ (digits_front d xs ++ digits_rest d xs)
    ≡ ds = ap (λ z. run is_space ds ++ z) (digits_join d xs) ∙ run-behind is_space ds in
    let one : (run is_space ds ++ digits_front d xs) ++ digits_rest d xs
    ≡ ds = append_assoc (run is_space ds) (digits_front d xs) (digits_rest d xs) ∙ inner in
    let two : (sgn ++ (d ∷ (run is_space ds ++ digits_front d xs))) ++ digits_rest d xs ≡ sgn ++ (d ∷ ds) =
    append_assoc sgn (d ∷ (run is_space ds ++ digits_front d xs)) (digits_rest d xs) ∙ ap (λ z. sgn ++ (d ∷ z)) one in
    let ok = digits_ok d xs (behind_stops is_space ds) in
    record {
      size_is = refl;
      before_is = refl;
      same = e ∙ ap (λ z. 39 ∷ z) (sym two);
      sign = signed;
      base = base;
      blanks = run_all is_space ds;
      digits = ok.0;
      ends = ok.1;
      begins = begins;
    }

base_read : (size before sgn : List ℕ) (d : ℕ) (ds tail : List ℕ) (c : Bool) → is_base d ≡ c
    → tail ≡ 39 ∷ (sgn ++ (d ∷ ds)) → is_sign_part sgn ≡ true → begins_format tail ≡ c
    → WasRead size before tail (cond c (Some (format_of size before sgn d ds, digits_rest d (behind is_space ds))) None)
base_read size before sgn d ds tail true h e signed begins = from_base size before sgn d ds tail e signed h begins
base_read size before sgn d ds tail false h e signed begins = begins

-- behind `'` and an `s`
after_sign : (size before : List ℕ) (s : ℕ) (bs : List ℕ) → is_sign s ≡ true
    → WasRead size before (39 ∷ (s ∷ bs)) (base_at size before (s ∷ []) bs)
after_sign size before s [] h = rw (sign_no_base s h, h) refl
after_sign size before s (d ∷ ds) h =
    base_read size before (s ∷ []) d ds (39 ∷ (s ∷ (d ∷ ds))) (is_base d) refl refl
    (and_from (is_sign s) true h refl) (rw (sign_no_base s h, h) refl)

behind_mark : (size before : List ℕ) (b : ℕ) (bs : List ℕ) (c : Bool) → is_sign b ≡ c
    → WasRead size before (39 ∷ (b ∷ bs)) (base_at size before (cond c (b ∷ []) []) (cond c bs (b ∷ bs)))
behind_mark size before b bs true h = after_sign size before b bs h
behind_mark size before b bs false h =
    base_read size before [] b bs (39 ∷ (b ∷ bs)) (is_base b) refl refl refl (rw h (or_false (is_base b)))
  where
    or_false : (x : Bool) → (x || false) ≡ x
    or_false true = refl
    or_false false = refl

after_mark : (size before bs : List ℕ) → WasRead size before (39 ∷ bs)
    (base_at size before (sign_front bs) (sign_rest bs))
after_mark size before [] = refl
after_mark size before (b ∷ bs) = behind_mark size before b bs (is_sign b) refl

at_mark : (size before : List ℕ) (b : ℕ) (bs : List ℕ) (c : Bool) → (b == 39) ≡ c
    → WasRead size before (b ∷ bs) (cond c (base_at size before (sign_front bs) (sign_rest bs)) None)
at_mark size before b bs true h = subst (λ z. WasRead size before (z ∷ bs)
    (base_at size before (sign_front bs) (sign_rest bs))) (sym (eqb-true b 39 h)) (after_mark size before bs)
at_mark size before b bs false h = rw h refl

pub was_read : (size before tail : List ℕ) → WasRead size before tail (mark_at size before tail)
was_read size before [] = refl
was_read size before (b ∷ bs) = at_mark size before b bs (b == 39) refl

-- where no base begins nothing is read
none_read : (size before tail : List ℕ) (o : Option (Format × List ℕ)) → WasRead size before tail o
    → begins_format tail ≡ false → o ≡ None
none_read size before tail None w e = refl
none_read size before tail (Some x) w e = absurd (let f : true ≡ false = sym w.begins ∙ e in let g : ⊥ = cc in g)

pub no_format : (size bytes : List ℕ) → begins_format (behind is_space bytes) ≡ false → format_at size bytes ≡ None
unfolding format_at
no_format size bytes e = none_read size (run is_space bytes) (behind is_space bytes)
    (mark_at size (run is_space bytes) (behind is_space bytes))
    (was_read size (run is_space bytes) (behind is_space bytes)) e

pub read_at : (size bytes : List ℕ) → WasRead size (run is_space bytes) (behind is_space bytes) (format_at size bytes)
unfolding format_at
read_at size bytes = was_read size (run is_space bytes) (behind is_space bytes)

-- the other way: a number that stands is read
blanks_stop : (f : Format) (rest : List ℕ) → IsFormat f rest → first_is is_space (f.digits ++ rest) ≡ false
blanks_stop f rest h = by_digits f.digits h.digits h.ends
  where
    not_first : (x y : Bool) → (not x && not y) ≡ true → x ≡ false
    not_first true y e = sym e
    not_first false y e = refl

    by_digits : (ds : List ℕ) → is_digits f.base ds ≡ true → ends_digits f.base ds rest ≡ true
        → first_is is_space (ds ++ rest) ≡ false
    by_digits [] d e = not_first (first_is is_space rest) (first_is is_digit rest) e
    by_digits (b ∷ bs) d e = digit_no_space b (and_parts (is_digit b) (list_all (goes_on f.base) bs) d).0

not_second : (x y : Bool) → (not x && not y) ≡ true → y ≡ false
not_second true y e = absurd (let f : ⊥ = cc in f)
not_second false true e = sym e
not_second false false e = refl

not_one : (x : Bool) → not x ≡ true → x ≡ false
not_one true e = sym e
not_one false e = refl

no_digits : (base : ℕ) (rest : List ℕ) → first_is is_digit rest ≡ false → (digits_front base rest ≡ [])
    × (digits_rest base rest ≡ rest)
no_digits base [] e = (refl, refl)
no_digits base (b ∷ bs) e = (rw e refl, rw e refl)

digits_again : (base : ℕ) (ds rest : List ℕ) → is_digits base ds ≡ true → ends_digits base ds rest ≡ true
    → (digits_front base (ds ++ rest) ≡ ds) × (digits_rest base (ds ++ rest) ≡ rest)
digits_again base [] rest d e = no_digits base rest (not_second (first_is is_space rest) (first_is is_digit rest) e)
digits_again base (b ∷ bs) rest d e =
    let both = and_parts (is_digit b) (list_all (goes_on base) bs) d in
    let stops = not_one (first_is (goes_on base) rest) e in (
      rw both.0 (ap (λ z. b ∷ z) (run_is (goes_on base) bs rest both.1 stops)),
      rw both.0
          (behind_is (goes_on base) bs rest both.1 stops),
    )

base_again : (f : Format) (rest : List ℕ) → IsFormat f rest
    → base_at f.size f.before f.sign (f.base ∷ (f.behind ++ (f.digits ++ rest))) ≡ Some (f, rest)
base_again f rest h =
    let stop = blanks_stop f rest h in
    let one = run_is is_space f.behind (f.digits ++ rest) h.blanks stop in
    let two = behind_is is_space f.behind (f.digits ++ rest) h.blanks stop in
    let both = digits_again f.base f.digits rest h.digits h.ends in
    rw (h.base, one, two, both.0, both.1) refl

sign_again : (sgn : List ℕ) (base : ℕ) (ys : List ℕ) → is_sign_part sgn ≡ true → is_base base ≡ true
    → (sign_front (sgn ++ (base ∷ ys)) ≡ sgn) × (sign_rest (sgn ++ (base ∷ ys)) ≡ base ∷ ys)
sign_again [] base ys s h = let e = base_no_sign base h in (rw e refl, rw e refl)
sign_again (c ∷ []) base ys s h = let e = (and_parts (is_sign c) true s).0 in (rw e refl, rw e refl)
sign_again (c ∷ (d ∷ ds)) base ys s h =
    absurd (let f : false ≡ true = (and_parts (is_sign c) false s).1 in let g : ⊥ = cc in g)

pub mark_again : (f : Format) (rest : List ℕ) → IsFormat f rest
    → mark_at f.size f.before (mark_text f ++ rest) ≡ Some (f, rest)
mark_again f rest h =
    let ys = f.behind ++ (f.digits ++ rest) in
    let flat : (f.sign ++ (f.base ∷ (f.behind ++ f.digits))) ++ rest ≡ f.sign ++ (f.base ∷ ys) =
    append_assoc f.sign (f.base ∷ (f.behind ++ f.digits)) rest
    ∙ ap (λ z. f.sign ++ (f.base ∷ z)) (append_assoc f.behind f.digits rest) in
    let both = sign_again f.sign f.base ys h.sign h.base in
    rw (flat, both.0, both.1) (base_again f rest h)

pub format_again : (f : Format) (rest : List ℕ) → IsFormat f rest → list_all is_space f.before ≡ true
    → format_at f.size (f.before ++ (mark_text f ++ rest)) ≡ Some (f, rest)
unfolding format_at
format_again f rest h blanks =
    let one = run_is is_space f.before (mark_text f ++ rest) blanks refl in
    let two = behind_is is_space f.before (mark_text f ++ rest) blanks refl in
    rw (one, two) (mark_again f rest h)

-- a size and the blanks behind it
pub size_blanks : (size before : List ℕ) → is_size size before ≡ true → list_all is_space before ≡ true
size_blanks [] [] e = refl
size_blanks [] (b ∷ bs) e = absurd (let f : ⊥ = cc in f)
size_blanks (b ∷ bs) before e = (and_parts (is_decimal (b ∷ bs)) (list_all is_space before) e).1

pub size_stops : (before : List ℕ) (f : Format) (rest : List ℕ) → list_all is_space before ≡ true
    → first_is continues_decimal (before ++ (mark_text f ++ rest)) ≡ false
size_stops [] f rest e = refl
size_stops (b ∷ bs) f rest e = space_no_decimal b (and_parts (is_space b) (list_all is_space bs) e).0
