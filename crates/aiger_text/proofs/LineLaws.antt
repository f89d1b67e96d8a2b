-- What stands before and behind a mark, as lines and words.
use Rattle.std.proofs.Common.{◌≡◌, ℕ, Bool, true, false, not, cond, ◌==◌, ◌&&◌, ◌<◌, ◌+◌, List, [], ◌∷◌, ◌++◌, length}
use Rattle.std.proofs.Common.{refl, ap, sym, ◌∙◌, length-append, arith}
use Rattle.std.proofs.Common.{inl, inr}
use Rattle.std.proofs.lemmas.Bool.{false≢true, cases_Bool}
use Rattle.std.specs.List.{list_all}
use Rattle.fv_lines.specs.Cuts.{HasNo, IsCut}
use Rattle.fv_lines.specs.Words.{joined}
use Rattle.aiger_text.specs.Lines.{lines, words}
use Rattle.aiger_text.specs.Bodies.{AreNotThree}

pub not_then : (a b : Bool) → (not a && b) ≡ true → (a ≡ false) × (b ≡ true)
not_then true b h = absurd (false≢true h)
not_then false b h = (refl, h)

pub line_first : (line rest : List ℕ) → HasNo 10 line → lines (line ++ 10 ∷ rest) ≡ line ∷ lines rest
line_first [] rest h = refl
line_first (c ∷ line) rest h =
    let p = not_then (c == 10) (list_all (λ z. not (z == 10)) line) h in
    ap (λ b. cond b ([] ∷ lines (line ++ 10 ∷ rest)) (joined c (lines (line ++ 10 ∷ rest)))) p.0
    ∙ ap (joined c) (line_first line rest p.1)

line_alone : (c : ℕ) (line : List ℕ) → HasNo 10 (c ∷ line) → lines (c ∷ line) ≡ (c ∷ line) ∷ []
line_alone c [] h =
    let p = not_then (c == 10) true h in
    ap (λ b. cond b ([] ∷ []) (joined c [])) p.0
line_alone c (d ∷ line) h =
    let p = not_then (c == 10) (list_all (λ z. not (z == 10)) (d ∷ line)) h in
    ap (λ b. cond b ([] ∷ lines (d ∷ line)) (joined c (lines (d ∷ line)))) p.0
    ∙ ap (joined c) (line_alone d line p.1)

pub line_cut : (text line rest : List ℕ) → IsCut 10 text line rest → lines text ≡ line ∷ lines rest
line_cut text line rest c = ap lines c.0 ∙ line_first line rest c.1

pub line_last : (text : List ℕ) → HasNo 10 text → 0 < length text → lines text ≡ text ∷ []
line_last [] h k = absurd (omega (arith, k))
line_last (c ∷ text) h k = line_alone c text h

pub word_first : (word rest : List ℕ) → HasNo 32 word → words (word ++ 32 ∷ rest) ≡ word ∷ words rest
word_first [] rest h = refl
word_first (c ∷ word) rest h =
    let p = not_then (c == 32) (list_all (λ z. not (z == 32)) word) h in
    ap (λ b. cond b ([] ∷ words (word ++ 32 ∷ rest)) (joined c (words (word ++ 32 ∷ rest)))) p.0
    ∙ ap (joined c) (word_first word rest p.1)

pub word_cut : (line word rest : List ℕ) → IsCut 32 line word rest → words line ≡ word ∷ words rest
word_cut line word rest c = ap words c.0 ∙ word_first word rest c.1

pub word_last : (line : List ℕ) → HasNo 32 line → words line ≡ line ∷ []
word_last [] h = refl
word_last (c ∷ line) h =
    let p = not_then (c == 32) (list_all (λ z. not (z == 32)) line) h in
    ap (λ b. cond b ([] ∷ words line) (joined c (words line))) p.0 ∙ ap (joined c) (word_last line p.1)

pub cut_shorter : (mark : ℕ) (text line rest : List ℕ) → IsCut mark text line rest → length rest < length text
cut_shorter mark text line rest c =
    let e = ap length c.0 ∙ length-append line (mark ∷ rest) in
    let l : length (mark ∷ rest) ≡ length rest + 1 = omega arith in
    omega (arith, e, l)

-- ---- lines of three words

joined_some : (b : ℕ) (ls : List (List ℕ)) → joined b ls ≡ [] → ⊥
joined_some b [] e = cc
joined_some b (l ∷ ls) e = cc

words_some : (line : List ℕ) → words line ≡ [] → ⊥
words_some [] e = cc
words_some (b ∷ bs) e = elim (cases_Bool (b == 32)) [
  | inl h ↦
      let k : [] ∷ words bs ≡ [] = sym (ap (λ t. cond t ([] ∷ words bs) (joined b (words bs))) h) ∙ e in
      cc
  | inr h ↦ joined_some b (words bs) (sym (ap (λ t. cond t ([] ∷ words bs) (joined b (words bs))) h) ∙ e)
]

pub one_word : (line : List ℕ) → HasNo 32 line → AreNotThree (words line)
one_word line h = λ a b c e. let k = word_last line h in (cc)

pub two_words : (line first rest : List ℕ) → IsCut 32 line first rest → HasNo 32 rest → AreNotThree (words line)
two_words line first rest p h = λ a b c e. let k = word_cut line first rest p in let l = word_last rest h in (cc)

pub more_words : (line first rest second third word behind : List ℕ) → IsCut 32 line first rest
    → IsCut 32 rest second third → IsCut 32 third word behind → AreNotThree (words line)
more_words line first rest second third word behind p q r = λ a b c e.
    let k = word_cut line first rest p in
    let l = word_cut rest second third q in
    let m = word_cut third word behind r in
    let n : words behind ≡ [] = cc in
    words_some behind n

pub three_words : (line first rest second third : List ℕ) → IsCut 32 line first rest → IsCut 32 rest second third
    → HasNo 32 third → words line ≡ first ∷ second ∷ third ∷ []
three_words line first rest second third p q h =
    word_cut line first rest p ∙ ap (λ ws. first ∷ ws) (word_cut rest second third q)
    ∙ ap (λ ws. first ∷ second ∷ ws) (word_last third h)
