-- Numbers of sources and the bits that they are read from.
use Rattle.std.specs.Prelude.{◌≡◌, refl, ℕ, zero, suc, ◌+◌, ◌-◌, ◌*◌, ◌/◌, ◌%◌, ◌<◌}
use Rattle.std.specs.Prelude.{◌≤◌, ◌^◌, ◌==◌, nat_lt, if◌then◌else◌, Bool, true, false, List, []}
use Rattle.std.specs.Prelude.{◌∷◌, ◌++◌, sum, length, map, slice_index, slice_index_or}
use Rattle.std.proofs.Common.{ap, sym, ◌∙◌, arith, append_assoc, append-nil, inl, inr}
use Rattle.std.proofs.lemmas.List.Sums.{sum_by-cons}
use Rattle.std.proofs.lemmas.Bool.{cases_lt, eq-eqb, ne_eqb, lt-ltb, le-ltb}
use Rattle.fv_bits.specs.Bits.{bit}
use Rattle.bb_aig.specs.declared.node.AigNode.{AigNode}
use Rattle.bb_aig.specs.Graph.{IsLit, lit_at}
use Rattle.bb_aig.specs.Bits.{number}
use Rattle.bb_aig.proofs.Numbers.{pow_next}
use Rattle.bb_aig.specs.Gates.{AreLits, bits}
use Rattle.bb_words.specs.Words.{AreWords, Numbers}
use Rattle.bb_words.proofs.Numbers.{halves}
use Rattle.bb_blast.specs.declared.places.Placed.{Placed}
use Rattle.bb_blast.specs.Choice.{bits_from, numbers_from, numbers_of, places_from, all_places}
use Rattle.cnf_form.specs.Cnf.{Cnf}
use Rattle.bb_clauses.specs.Models.{bits_at, numbers_at, read_at, AreOfWidths, ModelsAreNumbers}
use Rattle.bb_clauses.specs.Models.{value_in, number_in}
use Rattle.bb_clauses.proofs.Joined.{inputs_in, ModelsAreChoices}

-- ---- the places of a source

pick_append : (b x : Bool) (us vs ts : List Bool) → us ≡ vs ++ ts
    → (if b then x ∷ us else us) ≡ (if b then x ∷ vs else vs) ++ ts
pick_append true x us vs ts e = ap (λ bs. x ∷ bs) e
pick_append false x us vs ts e = e

at_append : (v : ℕ → Bool) (s : ℕ) (ps qs : List Placed)
    → bits_at v s (ps ++ qs) ≡ bits_at v s ps ++ bits_at v s qs
at_append v s [] qs = refl
at_append v s (p ∷ ps) qs =
    pick_append (p.source == s) (v p.node) (bits_at v s (ps ++ qs)) (bits_at v s ps) (bits_at v s qs)
    (at_append v s ps qs)

at_own : (v : ℕ → Bool) (s b at w : ℕ) → bits_at v s (places_from s b at w) ≡ bits_from (inputs_in v) at w
at_own v s b at zero = refl
at_own v s b at (suc w) =
    let rest = bits_at v s (places_from s (b + 1) (at + 1) w) in
    ap (λ t. if t then v (at + 1) ∷ rest else rest) (eq-eqb s s refl)
    ∙ ap (λ bs. v (at + 1) ∷ bs) (at_own v s (b + 1) (at + 1) w)

at_other : (v : ℕ → Bool) (s t b at w : ℕ) → (t ≡ s → ⊥) → bits_at v s (places_from t b at w) ≡ []
at_other v s t b at zero ne = refl
at_other v s t b at (suc w) ne =
    let rest = bits_at v s (places_from t (b + 1) (at + 1) w) in
    ap (λ u. if u then v (at + 1) ∷ rest else rest) (ne_eqb t s ne) ∙ at_other v s t (b + 1) (at + 1) w ne

at_later : (v : ℕ → Bool) (s t at : ℕ) (ws : List ℕ) → s < t → bits_at v s (all_places t at ws) ≡ []
at_later v s t at [] less = refl
at_later v s t at (w ∷ ws) less =
    at_append v s (places_from t 0 at w) (all_places (t + 1) (at + w) ws)
    ∙ ap (λ bs. bs ++ bits_at v s (all_places (t + 1) (at + w) ws)) (at_other v s t 0 at w (λ e. omega arith))
    ∙ at_later v s (t + 1) (at + w) ws (omega arith)

-- behind the places of other sources
read_from : (v : ℕ → Bool) (front : List Placed) (t at : ℕ) (ws : List ℕ)
    → ((s : ℕ) → t ≤ s → bits_at v s front ≡ [])
    → numbers_at v (front ++ all_places t at ws) t ws ≡ numbers_from (inputs_in v) at ws
read_from v front t at [] none = refl
read_from v front t at (w ∷ ws) none =
    let own = places_from t 0 at w in
    let rest = all_places (t + 1) (at + w) ws in
    let bits = bits_from (inputs_in v) at w in
    let here : bits_at v t (front ++ (own ++ rest)) ≡ bits =
    at_append v t front (own ++ rest) ∙ ap (λ bs. bs ++ bits_at v t (own ++ rest)) (none t (omega arith))
    ∙ at_append v t own rest ∙ ap (λ bs. bs ++ bits_at v t rest) (at_own v t 0 at w)
    ∙ ap (λ bs. bits ++ bs) (at_later v t (t + 1) (at + w) ws (omega arith)) ∙ append-nil bits in
    let later : (s : ℕ) → t + 1 ≤ s → bits_at v s (front ++ own) ≡ [] = λ s more.
    at_append v s front own ∙ ap (λ bs. bs ++ bits_at v s own) (none s (omega arith))
    ∙ at_other v s t 0 at w (λ e. omega arith) in
    ap (λ bs. number bs ∷ numbers_at v (front ++ (own ++ rest)) (t + 1) ws) here
    ∙ ap (λ ps. number bits ∷ numbers_at v ps (t + 1) ws) (sym (append_assoc front own rest))
    ∙ ap (λ ns. number bits ∷ ns) (read_from v (front ++ own) (t + 1) (at + w) ws later)

pub read_is : (v : ℕ → Bool) (places : List Placed) (ws : List ℕ) → places ≡ all_places 0 0 ws
    → read_at places ws v ≡ numbers_of ws (inputs_in v)
read_is v places ws e = ap (λ ps. read_at ps ws v) e ∙ read_from v [] 0 0 ws (λ s more. refl)

-- ---- numbers of the same bits

same_bits : (x y : ℕ → Bool) (at w : ℕ) → ((j : ℕ) → j < w → x (at + j) ≡ y (at + j))
    → bits_from x at w ≡ bits_from y at w
same_bits x y at zero h = refl
same_bits x y at (suc w) h =
    let z : at + 0 ≡ at = omega arith in
    let next : (j : ℕ) → j < w → x (at + 1 + j) ≡ y (at + 1 + j) = λ j less.
    let e : at + 1 + j ≡ at + suc j = omega arith in
    ap x e ∙ h (suc j) (omega arith) ∙ sym (ap y e) in
    ap (λ b. b ∷ bits_from x (at + 1) w) (sym (ap x z) ∙ h 0 (omega arith) ∙ ap y z)
    ∙ ap (λ bs. y at ∷ bs) (same_bits x y (at + 1) w next)

same_numbers : (x y : ℕ → Bool) (at : ℕ) (ws : List ℕ)
    → ((j : ℕ) → j < sum ws → x (at + j) ≡ y (at + j)) → numbers_from x at ws ≡ numbers_from y at ws
same_numbers x y at [] h = refl
same_numbers x y at (w ∷ ws) h =
    let all : sum (w ∷ ws) ≡ w + sum ws = sum_by-cons (λ n. n) w ws in
    let next : (j : ℕ) → j < sum ws → x (at + w + j) ≡ y (at + w + j) = λ j less.
    let e : at + w + j ≡ at + (w + j) = omega arith in
    ap x e ∙ h (w + j) (omega arith) ∙ sym (ap y e) in
    ap (λ bs. number bs ∷ numbers_from x (at + w) ws) (same_bits x y at w (λ j less. h j (omega arith)))
    ∙ ap (λ ns. number (bits_from y at w) ∷ ns) (same_numbers x y (at + w) ws next)

first_same : (a b : Bool) (m n : ℕ) → bit a + 2 * m ≡ bit b + 2 * n → a ≡ b
first_same true true m n e = refl
first_same true false m n e = absurd (omega arith)
first_same false true m n e = absurd (omega arith)
first_same false false m n e = refl

rest_same : (a b : Bool) (m n : ℕ) → bit a + 2 * m ≡ bit b + 2 * n → m ≡ n
rest_same true true m n e = omega arith
rest_same true false m n e = absurd (omega arith)
rest_same false true m n e = absurd (omega arith)
rest_same false false m n e = omega arith

bits_alike : (x y : ℕ → Bool) (at w : ℕ) → number (bits_from x at w) ≡ number (bits_from y at w)
    → (j : ℕ) → j < w → x (at + j) ≡ y (at + j)
bits_alike x y at zero e j less = absurd (omega arith)
bits_alike x y at (suc w) e zero less =
    let z : at + 0 ≡ at = omega arith in
    ap x z
    ∙ first_same (x at) (y at) (number (bits_from x (at + 1) w)) (number (bits_from y (at + 1) w)) e ∙ sym (ap y z)
bits_alike x y at (suc w) e (suc j) less =
    let s : at + suc j ≡ at + 1 + j = omega arith in
    ap x s
    ∙ bits_alike x y (at + 1) w
    (rest_same (x at) (y at) (number (bits_from x (at + 1) w)) (number (bits_from y (at + 1) w)) e) j (omega arith)
    ∙ sym (ap y s)

numbers_alike : (x y : ℕ → Bool) (at : ℕ) (ws : List ℕ) → numbers_from x at ws ≡ numbers_from y at ws
    → (i : ℕ) → i < sum ws → x (at + i) ≡ y (at + i)
numbers_alike x y at [] e i less = absurd (omega arith)
numbers_alike x y at (w ∷ ws) e i less =
    let all : sum (w ∷ ws) ≡ w + sum ws = sum_by-cons (λ n. n) w ws in
    let both : number (bits_from x at w) ∷ numbers_from x (at + w) ws
    ≡ number (bits_from y at w) ∷ numbers_from y (at + w) ws = e in
    let one : number (bits_from x at w) ≡ number (bits_from y at w) = cc in
    let rest : numbers_from x (at + w) ws ≡ numbers_from y (at + w) ws = cc in
    elim (cases_lt i w) [
      | inl lt ↦ bits_alike x y at w one i lt
      | inr ge ↦
          let s : at + i ≡ at + w + (i - w) = omega arith in
          ap x s ∙ numbers_alike x y (at + w) ws rest (i - w) (omega arith) ∙ sym (ap y s)
    ]

-- ---- bits of numbers

abbrev bit_of : ℕ → ℕ → Bool
bit_of n zero = n % 2 == 1
bit_of n (suc j) = bit_of (n / 2) j

abbrev choice : List ℕ → List ℕ → ℕ → Bool
choice (w ∷ ws) (n ∷ ns) i = if nat_lt i w then bit_of n i else choice ws ns (i - w)
choice ws ns i = false

number_back : (x : ℕ → Bool) (at w n : ℕ) → n < 2 ^ w → ((j : ℕ) → j < w → x (at + j) ≡ bit_of n j)
    → number (bits_from x at w) ≡ n
number_back x at zero n less h = omega arith
number_back x at (suc w) n less h =
    let z : at ≡ at + 0 = omega arith in
    let two : 2 ^ suc w ≡ 2 * 2 ^ w = pow_next w in
    let next : (j : ℕ) → j < w → x (at + 1 + j) ≡ bit_of (n / 2) j = λ j below.
    let e : at + 1 + j ≡ at + suc j = omega arith in
    ap x e ∙ h (suc j) (omega arith) in
    let first : x at ≡ (n % 2 == 1) = ap x z ∙ h 0 (omega arith) in
    let rest : number (bits_from x (at + 1) w) ≡ n / 2 = number_back x (at + 1) w (n / 2) (omega arith) next in
    ap (λ b. bit b + 2 * number (bits_from x (at + 1) w)) first
    ∙ ap (λ m. bit (n % 2 == 1) + 2 * m) rest ∙ omega (arith, halves n)

numbers_back : (x : ℕ → Bool) (at : ℕ) (ws ns : List ℕ) → AreOfWidths ws ns
    → ((j : ℕ) → x (at + j) ≡ choice ws ns j) → numbers_from x at ws ≡ ns
numbers_back x at [] [] of h = refl
numbers_back x at [] (n ∷ ns) of h = absurd of
numbers_back x at (w ∷ ws) [] of h = absurd of
numbers_back x at (w ∷ ws) (n ∷ ns) of h =
    let here : (j : ℕ) → j < w → x (at + j) ≡ bit_of n j = λ j less.
    h j ∙ ap (λ b. if b then bit_of n j else choice ws ns (j - w)) (lt-ltb j w less) in
    let next : (j : ℕ) → x (at + w + j) ≡ choice ws ns j = λ j.
    let e : at + w + j ≡ at + (w + j) = omega arith in
    let f : w + j - w ≡ j = omega arith in
    ap x e ∙ h (w + j)
    ∙ ap (λ b. if b then bit_of n (w + j) else choice ws ns (w + j - w)) (le-ltb (w + j) w (omega arith))
    ∙ ap (choice ws ns) f in
    ap (λ m. m ∷ numbers_from x (at + w) ws) (number_back x at w n of.0 here)
    ∙ ap (λ ms. n ∷ ms) (numbers_back x (at + w) ws ns of.1 next)

-- ---- words of literals

bits_in : (graph : List AigNode) (v x : ℕ → Bool) (lits : List ℕ) → AreLits graph lits
    → ((l : ℕ) → IsLit graph l → value_in v l ≡ lit_at graph x l) → map (value_in v) lits ≡ bits graph x lits
bits_in graph v x [] h same = refl
bits_in graph v x (l ∷ ls) h same =
    ap (λ b. b ∷ map (value_in v) ls) (same l h.0)
    ∙ ap (λ bs. lit_at graph x l ∷ bs) (bits_in graph v x ls h.1 same)

each_word : (v : ℕ → Bool) (table : List (List ℕ)) (ns : List ℕ) → length table ≡ length ns
    → ((i : ℕ) → i < length table → number_in v (slice_index_or table i []) ≡ slice_index ns i)
    → map (number_in v) table ≡ ns
each_word v [] [] e h = refl
each_word v [] (n ∷ ns) e h = absurd (omega (arith, e))
each_word v (t ∷ ts) [] e h = absurd (omega (arith, e))
each_word v (t ∷ ts) (n ∷ ns) e h =
    ap (λ m. m ∷ map (number_in v) ts) (h 0 (omega arith))
    ∙ ap (λ ms. n ∷ ms) (each_word v ts ns (omega (arith, e)) (λ i less. h (suc i) (omega (arith, less))))

words_are : (graph : List AigNode) (widths : List ℕ) (means : Numbers) (table : List (List ℕ)) (v x : ℕ → Bool)
    → AreWords graph widths means table → ((l : ℕ) → IsLit graph l → value_in v l ≡ lit_at graph x l)
    → length table ≡ length (means x) → map (number_in v) table ≡ means x
words_are graph widths means table v x words same e = each_word v table (means x) e
    (λ i less.
    let word = words.words i less in
    ap number (bits_in graph v x (slice_index_or table i []) word.there same) ∙ word.value x)

-- ---- models by numbers

pub by_numbers : (places : List Placed) (ws : List ℕ) (holds : List ℕ → Bool) (graph : List AigNode)
    (shown : List ℕ → List ℕ) (widths : List ℕ) (words : List (List ℕ)) (formula : Cnf)
    → places ≡ all_places 0 0 ws → AreWords graph widths (λ x. shown (numbers_of ws x)) words
    → ((ns : List ℕ) → length words ≡ length (shown ns))
    → ModelsAreChoices (sum ws) (λ x. holds (numbers_of ws x)) graph formula
    → ModelsAreNumbers ws (read_at places ws) holds shown words formula
by_numbers places ws holds graph shown widths words formula e are each m = record {
  before = m.before;
  last = m.last;
  verdict = λ v h. m.verdict v h ∙ ap holds (sym (read_is v places ws e));
  complete = λ ns of.
      let x = choice ws ns in
      let back : numbers_of ws x ≡ ns =
      numbers_back x 0 ws ns of (λ j. let z : 0 + j ≡ j = omega arith in ap x z) in
      let made = m.complete x in
      let v = made.0 in
      let same : numbers_of ws (inputs_in v) ≡ numbers_of ws x =
      same_numbers (inputs_in v) x 0 ws
      (λ j less. let z : 0 + j ≡ j = omega arith in ap (inputs_in v) z ∙ made.2 j less ∙ sym (ap x z)) in
      (v, made.1, read_is v places ws e ∙ same ∙ back);
  unique = λ v w h k alike.
      let same : numbers_of ws (inputs_in v) ≡ numbers_of ws (inputs_in w) =
      sym (read_is v places ws e) ∙ alike ∙ read_is w places ws e in
      m.unique v w h k
      (λ i less.
      let z : 0 + i ≡ i = omega arith in
      sym (ap (inputs_in v) z) ∙ numbers_alike (inputs_in v) (inputs_in w) 0 ws same i less ∙ ap (inputs_in w) z);
  shows = λ v h.
      let x = inputs_in v in
      words_are graph widths (λ y. shown (numbers_of ws y)) words v x are (m.literal v h) (each (numbers_of ws x))
      ∙ ap shown (sym (read_is v places ws e));
}
