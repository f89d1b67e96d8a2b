-- The words of nodes by those that they read.
use Rattle.std.specs.Prelude.{◌≡◌, refl, ℕ, ◌+◌, ◌<◌, ◌≤◌, ◌==◌, if◌then◌else◌, Bool}
use Rattle.std.specs.Prelude.{true, false, List, [], ◌∷◌}
use Rattle.std.specs.Prelude.{length, slice_index, slice_index_or, Result, Ok, Err, IfOk}
use Rattle.std.proofs.Common.{ap, sym, ◌∙◌, arith, subst}
use Rattle.bb_aig.specs.declared.node.AigNode.{AigNode}
use Rattle.bb_aig.specs.Graph.{lit_at}
use Rattle.fv_bits.specs.Bits as num
use Rattle.bb_aig.specs.Bits.{number}
use Rattle.bb_aig.specs.Gates.{Grows, AreLits}
use Rattle.fv_text.specs.declared.memory.Memory.{Memory}
use Rattle.fv_text.specs.declared.word.Word.{Word}
use Rattle.fv_text.specs.Word.{number as value_of_word}
use Rattle.wn_net.specs.declared.node.Node.{Node}
use Rattle.wn_net.specs.declared.node.Node.TheVariants as n
use Rattle.wn_net.specs.Width.{AreThere, AreAlike, IsFitting, width}
use Rattle.wn_net.specs.Value.{value}
use Rattle.bb_words.proofs.Lits.{lits_on, bits_on}
use Rattle.bb_words.specs.declared.operator.PairOperator.{PairOperator}
use Rattle.bb_words.specs.declared.operator.ShiftOperator.{ShiftOperator}
use Rattle.bb_words.specs.Operators.{value_of, width_of, shift_of, MeansPair, MeansShift}
use Rattle.bb_words.specs.Words.{Counts, Numbers, IsWord, AreWords, count}
use Rattle.bb_blast.specs.Walk.{sources, given_by, Reads, IsReady, AreWidths}
use Rattle.bb_blast.specs.Walk.{MeansPairAt, MeansShiftAt, MeansWord, MeansNode}

pub word_on : (old new : List AigNode) (w : ℕ) (m : Counts) (lits : List ℕ) → Grows old new
    → IsWord old w m lits
    → IsWord new w m lits
word_on old new w m lits g h = record {
  there = lits_on old new lits g h.there;
  wide = h.wide;
  value = λ x. ap number (bits_on old new x lits g h.there) ∙ h.value x;
}

pub words_on : (old new : List AigNode) (ws : List ℕ) (means : Numbers) (table : List (List ℕ)) → Grows old new
    → AreWords old ws means table → AreWords new ws means table
words_on old new ws means table g h = record {
  each = h.each;
  words = λ i below.
      word_on old new (slice_index ws i) (λ x. slice_index (means x) i) (slice_index_or table i []) g
      (h.words i below);
}

-- the word of a node, as it is handed out
pub word_is : (graph : List AigNode) (ws : List ℕ) (means : Numbers) (table : List (List ℕ)) (a : ℕ)
    (lits : List ℕ)
    → lits ≡ slice_index_or table a [] → AreWords graph ws means table → a < length ws
    → IsWord graph (slice_index ws a) (λ x. slice_index (means x) a) lits
word_is graph ws means table a lits e h below =
    let P : List ℕ → Type 0 = λ ls. IsWord graph (slice_index ws a) (λ x. slice_index (means x) a) ls in
    subst P (sym e) (h.words a (omega (arith, h.each)))

pub of_width : (graph : List AigNode) (u w : ℕ) (m : Counts) (a : List ℕ) → u ≡ w → IsWord graph u m a
    → IsWord graph w m a
of_width graph u w m a e h = let P : ℕ → Type 0 = λ k. IsWord graph k m a in subst P e h

-- what two operands of one width have
pub record Operands (graph : List AigNode) (A B : List ℕ) : Type 0 where
  pub some : 1 ≤ length A
  pub each : length B ≡ length A
  pub left : AreLits graph A
  pub right : AreLits graph B

pub operands : (graph : List AigNode) (ws : List ℕ) (means : Numbers) (table : List (List ℕ)) (a b : ℕ)
    (A B : List ℕ)
    → A ≡ slice_index_or table a [] → B ≡ slice_index_or table b [] → AreAlike ws a b → AreWidths ws
    → AreWords graph ws means table → Operands graph A B
operands graph ws means table a b A B e f fits small h =
    let p = word_is graph ws means table a A e h fits.0 in
    let q = word_is graph ws means table b B f h fits.1 in
    record {
      some = omega (arith, p.wide, (small a fits.0).0);
      each = q.wide ∙ sym fits.2 ∙ sym p.wide;
      left = p.there;
      right = q.there;
    }

pub pair_word : (old new : List AigNode) (op : PairOperator) (w u : ℕ) (m k : Counts) (A B r : List ℕ)
    → IsWord old w m A → IsWord old u k B → MeansPair old new op A B r
    → IsWord new (width_of op w) (λ x. value_of op w (m x) (k x)) r
pair_word old new op w u m k A B r p q h = record {
  there = h.there;
  wide = h.wide ∙ ap (width_of op) p.wide;
  value = λ x.
      h.value x ∙ ap (λ v. value_of op v (count old x A) (count old x B)) p.wide
      ∙ ap (λ v. value_of op w v (count old x B)) (p.value x) ∙ ap (value_of op w (m x)) (q.value x);
}

pub shift_word : (old new : List AigNode) (op : ShiftOperator) (w u : ℕ) (m k : Counts) (A B r : List ℕ)
    → IsWord old w m A → IsWord old u k B → MeansShift old new op A B r
    → IsWord new w (λ x. shift_of op w (m x) (k x)) r
shift_word old new op w u m k A B r p q h = record {
  there = h.there;
  wide = h.wide ∙ p.wide;
  value = λ x.
      h.value x ∙ ap (λ v. shift_of op v (count old x A) (count old x B)) p.wide
      ∙ ap (λ v. shift_of op w v (count old x B)) (p.value x) ∙ ap (shift_of op w (m x)) (q.value x);
}

-- a function of one word, and of its width
pub one_word : (old new : List AigNode) (f : ℕ → ℕ → ℕ) (w v u : ℕ) (m : Counts) (A r : List ℕ)
    → IsWord old w m A
    → v ≡ u → IsWord new v (λ x. f (length A) (count old x A)) r → IsWord new u (λ x. f w (m x)) r
one_word old new f w v u m A r p e h = record {
  there = h.there;
  wide = h.wide ∙ e;
  value = λ x. h.value x ∙ ap (λ k. f k (count old x A)) p.wide ∙ ap (f w) (p.value x);
}

pub joined_word : (graph : List AigNode) (w u : ℕ) (m k : Counts) (A B r : List ℕ) → IsWord graph w m A
    → IsWord graph u k B
    → IsWord graph (length A + length B) (λ x. num.joined (length B) (count graph x A) (count graph x B)) r
    → IsWord graph (w + u) (λ x. num.joined u (m x) (k x)) r
joined_word graph w u m k A B r p q h = record {
  there = h.there;
  wide = omega (arith, h.wide, p.wide, q.wide);
  value = λ x.
      h.value x ∙ ap (λ v. num.joined v (count graph x A) (count graph x B)) q.wide
      ∙ ap (λ v. num.joined u v (count graph x B)) (p.value x) ∙ ap (num.joined u (m x)) (q.value x);
}

-- the bit of a word of one bit
one_bit : (b : Bool) → b ≡ (number (b ∷ []) == 1)
one_bit true = refl
one_bit false = refl

pub test_is : (graph : List AigNode) (m : Counts) (c : List ℕ) (l d : ℕ) → l ≡ slice_index_or c 0 d
    → IsWord graph 1 m c → (x : ℕ → Bool) → lit_at graph x l ≡ (m x == 1)
test_is graph m [] l d e h x = absurd (omega (arith, h.wide))
test_is graph m (a ∷ []) l d e h x =
    ap (lit_at graph x) e ∙ one_bit (lit_at graph x a) ∙ ap (λ k. k == 1) (h.value x)
test_is graph m (a ∷ b ∷ c) l d e h x = absurd (omega (arith, h.wide))

pub choice_word : (old new : List AigNode) (w u : ℕ) (t m k : Counts) (C A B r : List ℕ) (l d : ℕ)
    → l ≡ slice_index_or C 0 d → IsWord old 1 t C → IsWord old w m A → IsWord old u k B
    → IsWord new (length A) (λ x. if lit_at old x l then count old x A else count old x B) r
    → IsWord new w (λ x. if t x == 1 then m x else k x) r
choice_word old new w u t m k C A B r l d e s p q h = record {
  there = h.there;
  wide = h.wide ∙ p.wide;
  value = λ x.
      h.value x ∙ ap (λ v. if v then count old x A else count old x B) (test_is old t C l d e s x)
      ∙ ap (λ v. if t x == 1 then v else count old x B) (p.value x)
      ∙ ap (λ v. if t x == 1 then m x else v) (q.value x);
}

-- ---- the node at hand

pub reads : (graph : List AigNode) (inputs table : List (List ℕ)) (node other : Node)
    (F : List ℕ → Type 0) → node ≡ other → ((wi ws : List ℕ) → IsFitting (sources wi) ws other → F ws)
    → IsReady graph inputs table node → Reads graph table F
reads graph inputs table node other F e fits h = record {
  node_widths = h.node_widths;
  means = h.means;
  small = h.small;
  words = h.words;
  fitting =
      let P : Node → Type 0 = λ x. IsFitting (sources h.input_widths) h.node_widths x in
      fits h.input_widths h.node_widths (subst P e h.fitting);
}

pub means_here : (old new : List AigNode) (inputs table : List (List ℕ)) (node other : Node)
    (r : Result (List ℕ) Memory) → node ≡ other → IfOk r (MeansWord old new table other)
    → IfOk r (MeansNode old new inputs table node)
means_here old new inputs table node other (Ok l) e h =
    let P : Node → Type 0 = λ x. MeansNode old new inputs table x l in
    subst P (sym e) (λ wi ws given means fits ins words. h wi ws given means fits words)
means_here old new inputs table node other (Err f) e h = tt

-- a source
pub means_input : (graph : List AigNode) (inputs table : List (List ℕ)) (node : Node) (i : ℕ)
    (r : Result (List ℕ) Memory) → node ≡ n.Input i → IfOk r (λ l. l ≡ slice_index_or inputs i [])
    → IfOk r (MeansNode graph graph inputs table node)
means_input graph inputs table node i (Ok l) e h =
    let P : Node → Type 0 = λ x. MeansNode graph graph inputs table x l in
    subst P (sym e) (λ wi ws given means fits ins words. word_is graph wi given inputs i l h ins fits)
means_input graph inputs table node i (Err f) e h = tt

-- a number
pub means_konst : (graph : List AigNode) (inputs table : List (List ℕ)) (node : Node) (word : Word)
    (r : Result (List ℕ) Memory) → node ≡ n.Konst word → IfOk r (IsWord graph word.width
    (λ x. value_of_word word))
    → IfOk r (MeansNode graph graph inputs table node)
means_konst graph inputs table node word (Ok l) e h =
    let P : Node → Type 0 = λ x. MeansNode graph graph inputs table x l in
    subst P (sym e) (λ wi ws given means fits ins words. h)
means_konst graph inputs table node word (Err f) e h = tt

-- nodes that no net without registers and memories has
pub no_reg : (graph : List AigNode) (inputs table : List (List ℕ)) (node : Node) (i : ℕ) → node ≡ n.Reg i
    → IsReady graph inputs table node → ⊥
no_reg graph inputs table node i e h =
    let P : Node → Type 0 = λ x. IsFitting (sources h.input_widths) h.node_widths x in
    let below : i < 0 = subst P e h.fitting in
    omega arith

pub no_read : (graph : List AigNode) (inputs table : List (List ℕ)) (node : Node) (m a : ℕ) → node ≡ n.Read m a
    → IsReady graph inputs table node → ⊥
no_read graph inputs table node m a e h =
    let P : Node → Type 0 = λ x. IsFitting (sources h.input_widths) h.node_widths x in
    let below = subst P e h.fitting in
    let less : m < 0 = below.0 in
    omega arith

pub means_pair : (old new : List AigNode) (inputs table : List (List ℕ)) (node other : Node) (op : PairOperator)
    (a b : ℕ)
    (r : Result (List ℕ) Memory) → node ≡ other → IfOk r (MeansPairAt old new table op a b)
    → ((wi ws : List ℕ) → IsFitting (sources wi) ws other → AreAlike ws a b)
    → ((wi ws : List ℕ) (given means : Numbers) (l : List ℕ)
    → IsWord new (width_of op (slice_index ws a))
    (λ x. value_of op (slice_index ws a) (slice_index (means x) a) (slice_index (means x) b)) l
    → IsWord new (width (sources wi) ws other) (λ x. value (given_by (given x)) ws (means x) other) l)
    → IfOk r (MeansNode old new inputs table node)
means_pair old new inputs table node other op a b (Ok l) e h fits is =
    let P : Node → Type 0 = λ x. MeansNode old new inputs table x l in
    subst P (sym e) (λ wi ws given means f ins words. is wi ws given means l (h ws means (fits wi ws f) words))
means_pair old new inputs table node other op a b (Err f) e h fits is = tt

pub means_shift : (old new : List AigNode) (inputs table : List (List ℕ)) (node other : Node) (op : ShiftOperator)
    (a b : ℕ)
    (r : Result (List ℕ) Memory) → node ≡ other → IfOk r (MeansShiftAt old new table op a b)
    → ((wi ws : List ℕ) → IsFitting (sources wi) ws other → AreThere ws a b)
    → ((wi ws : List ℕ) (given means : Numbers) (l : List ℕ)
    → IsWord new (slice_index ws a)
    (λ x. shift_of op (slice_index ws a) (slice_index (means x) a) (slice_index (means x) b)) l
    → IsWord new (width (sources wi) ws other) (λ x. value (given_by (given x)) ws (means x) other) l)
    → IfOk r (MeansNode old new inputs table node)
means_shift old new inputs table node other op a b (Ok l) e h fits is =
    let P : Node → Type 0 = λ x. MeansNode old new inputs table x l in
    subst P (sym e) (λ wi ws given means f ins words. is wi ws given means l (h ws means (fits wi ws f) words))
means_shift old new inputs table node other op a b (Err f) e h fits is = tt
