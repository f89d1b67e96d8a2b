-- A line has exactly the words that make it up, with blanks.
use Rattle.std.proofs.Common.{◌≡◌, ℕ, ◌<◌, Bool, true, false, not, cond, ◌&&◌, ◌↔◌, List, [], ◌∷◌, ◌++◌, length}
use Rattle.std.proofs.Common.{refl, ap, sym, subst, ◌∙◌, arith}
use Rattle.std.specs.List.{list_all}
use Rattle.std.proofs.lemmas.Bool.{false≢true}
use Rattle.fv_lines.specs.Words.{joined, is_blank, begins_word, words}
use Rattle.lrat_texts.specs.Lines.{AreWords}
use Rattle.lrat_texts.proofs.Numerals.{and_parts}
use Rattle.lrat_texts.proofs.Lines.{not_true}

abbrev solid : List ℕ → Bool
solid word = list_all (λ b. not (is_blank b)) word

-- ---- the words of a line make it up, with blanks

blank_first : (b : ℕ) (bs : List ℕ) (ws : List (List ℕ)) → is_blank b ≡ true → AreWords bs ws → AreWords (b ∷ bs) ws
blank_first b bs [] h a = ap (λ t. t && list_all is_blank bs) h ∙ a
blank_first b bs (w ∷ ws) h a = (
  a.0,
  record {
    blanks = b ∷ a.1.blanks;
    line_is = ap (λ x. b ∷ x) a.1.line_is;
    are_blank = ap (λ t. t && list_all is_blank a.1.blanks) h ∙ a.1.are_blank;
    some = a.1.some;
    no_blank = a.1.no_blank;
    whole = a.1.whole;
  },
  a.2,
)

begins_otherwise : (bs : List ℕ) → begins_word bs ≡ true → list_all is_blank bs ≡ true → ⊥
begins_otherwise [] h k = false≢true h
begins_otherwise (c ∷ cs) h k =
    let p = and_parts (is_blank c) (list_all is_blank cs) k in
    false≢true (sym (not_true (is_blank c) h) ∙ p.0)

no_blanks : (bs blanks rest : List ℕ) → begins_word bs ≡ true → bs ≡ blanks ++ rest → list_all is_blank blanks ≡ true
    → blanks ≡ []
no_blanks bs [] rest h e k = refl
no_blanks bs (c ∷ cs) rest h e k =
    let p = and_parts (is_blank c) (list_all is_blank cs) k in
    absurd (false≢true (sym (not_true (is_blank c) (sym (ap begins_word e) ∙ h)) ∙ p.0))

solid_more : (b : ℕ) (word : List ℕ) → is_blank b ≡ false → solid word ≡ true → solid (b ∷ word) ≡ true
solid_more b word h k = ap (λ t. not t && solid word) h ∙ k

longer : (b : ℕ) (bs : List ℕ) (ws : List (List ℕ)) → is_blank b ≡ false → begins_word bs ≡ true → AreWords bs ws
    → AreWords (b ∷ bs) (joined b ws)
longer b bs [] h k a = absurd (begins_otherwise bs k a)
longer b bs (w ∷ ws) h k a =
    let none = no_blanks bs a.1.blanks (w ++ a.0) k a.1.line_is a.1.are_blank in (
      a.0,
      record {
        blanks = [];
        line_is = ap (λ x. b ∷ x) (a.1.line_is ∙ ap (λ x. x ++ (w ++ a.0)) none);
        are_blank = refl;
        some = omega arith;
        no_blank = solid_more b w h a.1.no_blank;
        whole = a.1.whole;
      },
      a.2,
    )

alone : (b : ℕ) (bs : List ℕ) (ws : List (List ℕ)) → is_blank b ≡ false → begins_word bs ≡ false → AreWords bs ws
    → AreWords (b ∷ bs) ((b ∷ []) ∷ ws)
alone b bs ws h k a = (
  bs,
  record {
    blanks = [];
    line_is = refl;
    are_blank = refl;
    some = omega arith;
    no_blank = solid_more b [] h refl;
    whole = k;
  },
  a,
)

made_more : (b : ℕ) (bs : List ℕ) → AreWords bs (words bs) → AreWords (b ∷ bs) (words (b ∷ bs))
made_more b bs a = by_blank (is_blank b) refl where
  by_word : (t : Bool) → is_blank b ≡ false → begins_word bs ≡ t
      → AreWords (b ∷ bs) (cond t (joined b (words bs)) ((b ∷ []) ∷ words bs))
  by_word true h k = longer b bs (words bs) h k a
  by_word false h k = alone b bs (words bs) h k a

  by_blank : (t : Bool) → is_blank b ≡ t → AreWords (b ∷ bs)
      (cond t (words bs) (cond (begins_word bs) (joined b (words bs)) ((b ∷ []) ∷ words bs)))
  by_blank true h = blank_first b bs (words bs) h a
  by_blank false h = by_word (begins_word bs) h refl

made : (line : List ℕ) → AreWords line (words line)
made [] = refl
made (b ∷ bs) = made_more b bs (made bs)

-- ---- what makes a line up, with blanks, are its words

skipped : (blanks rest : List ℕ) → list_all is_blank blanks ≡ true → words (blanks ++ rest) ≡ words rest
skipped [] rest h = refl
skipped (b ∷ bs) rest h =
    let p = and_parts (is_blank b) (list_all is_blank bs) h in
    ap (λ t. cond t (words (bs ++ rest))
    (cond (begins_word (bs ++ rest)) (joined b (words (bs ++ rest))) ((b ∷ []) ∷ words (bs ++ rest)))) p.0
    ∙ skipped bs rest p.1

all_blank : (line : List ℕ) → list_all is_blank line ≡ true → words line ≡ []
all_blank [] h = refl
all_blank (b ∷ bs) h =
    let p = and_parts (is_blank b) (list_all is_blank bs) h in
    ap (λ t. cond t (words bs) (cond (begins_word bs) (joined b (words bs)) ((b ∷ []) ∷ words bs))) p.0
    ∙ all_blank bs p.1

step : (b : ℕ) (bs : List ℕ) (t : Bool) → is_blank b ≡ false → begins_word bs ≡ t
    → words (b ∷ bs) ≡ cond t (joined b (words bs)) ((b ∷ []) ∷ words bs)
step b bs t h k =
    ap (λ x. cond x (words bs) (cond (begins_word bs) (joined b (words bs)) ((b ∷ []) ∷ words bs))) h
    ∙ ap (λ x. cond x (joined b (words bs)) ((b ∷ []) ∷ words bs)) k

word_is : (word rest : List ℕ) → 0 < length word → solid word ≡ true → begins_word rest ≡ false
    → words (word ++ rest) ≡ word ∷ words rest
word_is [] rest some h k = absurd (omega arith)
word_is (b ∷ []) rest some h k =
    let p = and_parts (not (is_blank b)) true h in step b rest false (not_true (is_blank b) p.0) k
word_is (b ∷ c ∷ cs) rest some h k =
    let p = and_parts (not (is_blank b)) (solid (c ∷ cs)) h in
    let q = and_parts (not (is_blank c)) (solid cs) p.1 in
    step b ((c ∷ cs) ++ rest) true (not_true (is_blank b) p.0) q.0
    ∙ ap (joined b) (word_is (c ∷ cs) rest (omega arith) p.1 k)

are_words : (line : List ℕ) (ws : List (List ℕ)) → AreWords line ws → words line ≡ ws
are_words line [] a = all_blank line a
are_words line (w ∷ ws) a =
    ap words a.1.line_is ∙ skipped a.1.blanks (w ++ a.0) a.1.are_blank
    ∙ word_is w a.0 a.1.some a.1.no_blank a.1.whole ∙ ap (λ x. w ∷ x) (are_words a.0 ws a.2)

pub words_law : (line : List ℕ) (ws : List (List ℕ)) → (words line ≡ ws) ↔ AreWords line ws
words_law line ws = (λ e. subst (AreWords line) e (made line), are_words line ws)
