-- Lines and words, byte by byte.
use Rattle.std.proofs.Common.{◌≡◌, ℕ, suc, ◌+◌, ◌-◌, ◌<◌, ◌≤◌, Bool, true, false, not, cond, ◌&&◌, ◌||◌, ◌==◌, List}
use Rattle.std.proofs.Common.{[], ◌∷◌, ◌++◌, length, take, drop, get_or, refl, ap, sym, subst, ◌∙◌, inl, inr, arith}
use Rattle.std.proofs.lemmas.Bool.{false≢true, cases_Bool, cases_lt}
use Rattle.std.proofs.lemmas.List.{drop_more, take_more, drop_all, take_all, length-drop, append-nil}
use Rattle.fv_lines.specs.Words.{begins_with, joined, lines, stops, behind_end, is_blank, begins_blank, begins_word}
use Rattle.fv_lines.specs.Words.{words}

-- bytes before the first of the lists
abbrev pub glue : List ℕ → List (List ℕ) → List (List ℕ)
glue [] ls = ls
glue (x ∷ xs) ls = joined x (glue xs ls)

glue_more : (xs : List ℕ) (b : ℕ) (ls : List (List ℕ)) → glue (xs ++ b ∷ []) ls ≡ glue xs (joined b ls)
glue_more [] b ls = refl
glue_more (x ∷ xs) b ls = ap (joined x) (glue_more xs b ls)

glue_line : (xs l : List ℕ) (ls : List (List ℕ)) → glue xs (l ∷ ls) ≡ (xs ++ l) ∷ ls
glue_line [] l ls = refl
glue_line (x ∷ xs) l ls = ap (joined x) (glue_line xs l ls)

glue_end : (xs : List ℕ) → 0 < length xs → glue xs [] ≡ xs ∷ []
glue_end [] h = absurd (omega arith)
glue_end (x ∷ []) h = refl
glue_end (x ∷ y ∷ ys) h = ap (joined x) (glue_end (y ∷ ys) (omega arith))

or_parts : (a b : Bool) → (a || b) ≡ false → (a ≡ false) × (b ≡ false)
or_parts true b h = absurd (false≢true (sym h))
or_parts false b h = (refl, h)

line_step : (b : ℕ) (bs : List ℕ) → stops (b ∷ bs) ≡ false → lines (b ∷ bs) ≡ joined b (lines bs)
line_step b bs h =
    let p = or_parts (b == 10) (b == 13 && begins_with 10 bs) h in
    ap (λ x. cond x ([] ∷ lines bs) (cond (b == 13 && begins_with 10 bs) (lines bs) (joined b (lines bs)))) p.0
    ∙ ap (λ x. cond x (lines bs) (joined b (lines bs))) p.1

and_parts : (a b : Bool) → (a && b) ≡ true → (a ≡ true) × (b ≡ true)
and_parts true b e = (refl, e)
and_parts false b e = absurd (false≢true e)

line_stop_cr : (b : ℕ) (bs : List ℕ) → (b == 10) ≡ false → (b == 13 && begins_with 10 bs) ≡ true
    → (lines (b ∷ bs) ≡ [] ∷ lines (behind_end (b ∷ bs))) × (length (behind_end (b ∷ bs)) ≤ length bs)
line_stop_cr b [] e h = absurd (false≢true (and_parts (b == 13) false h).1)
line_stop_cr b (c ∷ cs) e h =
    let p = (and_parts (b == 13) (c == 10) h).1 in
    let behind : behind_end (b ∷ c ∷ cs) ≡ cs = ap
    (λ x. cond x (c ∷ cs) (cond (b == 13 && c == 10) cs (b ∷ c ∷ cs))) e ∙ ap (λ x. cond x cs (b ∷ c ∷ cs)) h in
    let here : lines (b ∷ c ∷ cs) ≡ [] ∷ lines cs =
    ap (λ x. cond x ([] ∷ lines (c ∷ cs)) (cond (b == 13 && c == 10) (lines (c ∷ cs)) (joined b (lines (c ∷ cs))))) e
    ∙ ap (λ x. cond x (lines (c ∷ cs)) (joined b (lines (c ∷ cs)))) h
    ∙ ap (λ x. cond x ([] ∷ lines cs) (cond (c == 13 && begins_with 10 cs) (lines cs) (joined c (lines cs)))) p in
    (here ∙ ap (λ x. [] ∷ lines x) (sym behind), subst (λ x. length x ≤ suc (length cs)) (sym behind) (omega arith))

line_stop : (b : ℕ) (bs : List ℕ) → stops (b ∷ bs) ≡ true → (lines (b ∷ bs) ≡ [] ∷ lines (behind_end (b ∷ bs)))
    × (length (behind_end (b ∷ bs)) ≤ length bs)
line_stop b bs h = elim (cases_Bool (b == 10)) [
  | inl e ↦
      let behind : behind_end (b ∷ bs) ≡ bs = ap
      (λ x. cond x bs (cond (b == 13 && begins_with 10 bs) (drop 1 bs) (b ∷ bs))) e in (
        ap (λ x. cond x ([] ∷ lines bs) (cond (b == 13 && begins_with 10 bs) (lines bs) (joined b (lines bs)))) e
            ∙ ap (λ x. [] ∷ lines x) (sym behind),
        subst (λ x. length x ≤ length bs) (sym behind) (omega arith),
      )
  | inr e ↦ line_stop_cr b bs e (or_rest (b == 10) (b == 13 && begins_with 10 bs) e h)
] where
  or_rest : (a b : Bool) → a ≡ false → (a || b) ≡ true → b ≡ true
  or_rest true b e h = absurd (false≢true (sym e))
  or_rest false b e h = h

not_end : (bytes : List ℕ) (i : ℕ) → stops (drop i bytes) ≡ false → i < length bytes
not_end bytes i h = elim (cases_lt i (length bytes)) [
  | inl l ↦ l
  | inr g ↦ absurd
      (false≢true (sym h ∙ ap stops (drop_all i bytes g)))
]

-- one byte more of the line
pub line_more : (bytes : List ℕ) (i : ℕ) → i ≤ length bytes
    → lines bytes ≡ glue (take i bytes) (lines (drop i bytes)) → stops (drop i bytes) ≡ false
    → (i + 1 ≤ length bytes) × (lines bytes ≡ glue (take (i + 1) bytes) (lines (drop (i + 1) bytes)))
line_more bytes i n g h =
    let lt = not_end bytes i h in
    let d = drop_more bytes i 0 lt in (
      omega arith,
      g ∙ ap (λ x. glue (take i bytes) (lines x)) d
          ∙ ap (glue (take i bytes)) (line_step (get_or bytes i 0) (drop (i + 1) bytes) (ap stops (sym d) ∙ h))
          ∙ sym (glue_more (take i bytes) (get_or bytes i 0) (lines (drop (i + 1) bytes)))
          ∙ ap (λ x. glue x (lines (drop (i + 1) bytes))) (sym (take_more bytes i 0 lt)),
    )

-- the line ends
pub line_ends : (bytes : List ℕ) (i : ℕ) → 0 < length bytes → i ≤ length bytes
    → lines bytes ≡ glue (take i bytes) (lines (drop i bytes)) → stops (drop i bytes) ≡ true
    → (lines bytes ≡ take i bytes ∷ lines (behind_end (drop i bytes)))
    × (length (behind_end (drop i bytes)) < length bytes)
line_ends bytes i some n g h = elim (cases_lt i (length bytes)) [
  | inl lt ↦
      let d = drop_more bytes i 0 lt in
      let s = line_stop (get_or bytes i 0) (drop (i + 1) bytes) (ap stops (sym d) ∙ h) in
      let k : length (drop (i + 1) bytes) ≡ length bytes - (i + 1) = length-drop (i + 1) bytes in
      let short : length (behind_end (drop i bytes))
      ≤ length (drop (i + 1) bytes) = subst (λ x. length (behind_end x) ≤ length (drop (i + 1) bytes))
      (sym d) s.1 in (
        g ∙ ap (λ x. glue (take i bytes) (lines x)) d ∙ ap (glue (take i bytes)) s.0
            ∙ glue_line (take i bytes) [] (lines (behind_end (get_or bytes i 0 ∷ drop (i + 1) bytes)))
            ∙ ap (λ x. x ∷ lines (behind_end (get_or bytes i 0 ∷ drop (i + 1) bytes))) (append-nil (take i bytes))
            ∙ ap (λ x. take i bytes ∷ lines (behind_end x)) (sym d),
        omega (arith, k, short),
      )
  | inr ge ↦
      let d : drop i bytes ≡ [] = drop_all i bytes ge in
      let t : take i bytes ≡ bytes = take_all i bytes ge in (
        g ∙ ap (λ x. glue (take i bytes) (lines x)) d
            ∙ glue_end (take i bytes) (subst (λ x. 0 < length x) (sym t) some)
            ∙ ap (λ x. take i bytes ∷ lines (behind_end x)) (sym d),
        subst (λ x. length (behind_end x) < length bytes) (sym d) some,
      )
]

blank_step : (b : ℕ) (bs : List ℕ) → is_blank b ≡ true → words (b ∷ bs) ≡ words bs
blank_step b bs h = ap (λ x. cond x (words bs) (cond (begins_word bs) (joined b (words bs)) ((b ∷ []) ∷ words bs))) h

within_blank : (line : List ℕ) (i : ℕ) → begins_blank (drop i line) ≡ true → i < length line
within_blank line i h = elim (cases_lt i (length line)) [
  | inl l ↦ l
  | inr g ↦ absurd
      (false≢true (sym (ap begins_blank (drop_all i line g)) ∙ h))
]

-- a blank before the word
pub blank_more : (line : List ℕ) (i : ℕ) → words line ≡ words (drop i line) → begins_blank (drop i line) ≡ true
    → (i + 1 ≤ length line) × (words line ≡ words (drop (i + 1) line))
blank_more line i w h =
    let lt = within_blank line i h in
    let d = drop_more line i 0 lt in
    (omega arith, w ∙ ap words d ∙ blank_step (get_or line i 0) (drop (i + 1) line) (ap begins_blank (sym d) ∙ h))

pub begins : (rest : List ℕ) → 0 < length rest → begins_blank rest ≡ false → begins_word rest ≡ true
begins [] h e = absurd (omega arith)
begins (b ∷ bs) h e = ap not e

true_not : (b : Bool) → not b ≡ true → b ≡ false
true_not true h = absurd (false≢true h)
true_not false h = refl

word_step : (b : ℕ) (bs : List ℕ) → is_blank b ≡ false → begins_word bs ≡ true → words (b ∷ bs) ≡ joined b (words bs)
word_step b bs h k =
    ap (λ x. cond x (words bs) (cond (begins_word bs) (joined b (words bs)) ((b ∷ []) ∷ words bs))) h
    ∙ ap (λ x. cond x (joined b (words bs)) ((b ∷ []) ∷ words bs)) k

word_stop : (b : ℕ) (bs : List ℕ) → is_blank b ≡ false → begins_word bs ≡ false → words (b ∷ bs) ≡ (b ∷ []) ∷ words bs
word_stop b bs h k =
    ap (λ x. cond x (words bs) (cond (begins_word bs) (joined b (words bs)) ((b ∷ []) ∷ words bs))) h
    ∙ ap (λ x. cond x (joined b (words bs)) ((b ∷ []) ∷ words bs)) k

within_word : (line : List ℕ) (i : ℕ) → begins_word (drop i line) ≡ true → i < length line
within_word line i h = elim (cases_lt i (length line)) [
  | inl l ↦ l
  | inr g ↦ absurd
      (false≢true (sym (ap begins_word (drop_all i line g)) ∙ h))
]

module _ (line : List ℕ) (i : ℕ) (lt : i < length line) (w : words line ≡ glue (take i line) (words (drop i line)))
    (h : begins_word (drop i line) ≡ true) where
  no_blank : is_blank (get_or line i 0) ≡ false
  no_blank = true_not (is_blank (get_or line i 0)) (ap begins_word (sym (drop_more line i 0 lt)) ∙ h)

  -- one byte more of the word
  pub word_more : begins_word (drop (i + 1) line) ≡ true → (i + 1 < length line)
      × (words line ≡ glue (take (i + 1) line) (words (drop (i + 1) line)))
  word_more k = (
    within_word line (i + 1) k,
    w ∙ ap (λ x. glue (take i line) (words x)) (drop_more line i 0 lt)
        ∙ ap (glue (take i line)) (word_step (get_or line i 0) (drop (i + 1) line) no_blank k)
        ∙ sym (glue_more (take i line) (get_or line i 0) (words (drop (i + 1) line)))
        ∙ ap (λ x. glue x (words (drop (i + 1) line))) (sym (take_more line i 0 lt)),
  )

  -- the word ends
  pub word_ends : begins_word (drop (i + 1) line) ≡ false → words line ≡ take (i + 1) line ∷ words (drop (i + 1) line)
  word_ends k =
      w ∙ ap (λ x. glue (take i line) (words x)) (drop_more line i 0 lt)
      ∙ ap (glue (take i line)) (word_stop (get_or line i 0) (drop (i + 1) line) no_blank k)
      ∙ glue_line (take i line) (get_or line i 0 ∷ []) (words (drop (i + 1) line))
      ∙ ap (λ x. x ∷ words (drop (i + 1) line)) (sym (take_more line i 0 lt))
