-- Words that are made bit by bit, and their numbers.
use Rattle.std.specs.Prelude.{◌≡◌, refl, ℕ, ◌≤◌, ◌==◌, if◌then◌else◌}
use Rattle.std.specs.Prelude.{nat_lt, bit_and, bit_or, bit_xor, Bool, true, false, List, []}
use Rattle.std.specs.Prelude.{◌∷◌, length, map, replicate}
use Rattle.std.proofs.Common.{ap, sym, ◌∙◌, arith, subst}
use Rattle.std.proofs.lemmas.List.{length-map}
use Rattle.bb_aig.specs.declared.node.AigNode.{AigNode}
use Rattle.bb_aig.specs.Graph.{lit_at, complement}
use Rattle.fv_bits.specs.Bits as num
use Rattle.bb_aig.specs.Bits.{number, pick, paired, add_bits, less_bits, same_bits, mul_bits, top, turned_top}
use Rattle.bb_aig.proofs.All.{bitwise, sums, ordered, shifted}
use Rattle.bb_aig.proofs.Sums.{length-add, length-mul}
use Rattle.bb_aig.proofs.Moves.{length-shl, pick_list, picked_all}
use Rattle.bb_aig.proofs.Rights.{length-shr}
use Rattle.bb_aig.proofs.Signs.{length-turned}
use Rattle.std.proofs.lemmas.List.{length-replicate}
use Rattle.bb_aig.specs.Gates.{Meaning, Meanings, IsMade, bits, AreMade}
use Rattle.bb_words.specs.declared.pairs.BitOperator.{BitOperator}
use Rattle.bb_words.specs.declared.pairs.BitOperator.TheVariants as bit_op
use Rattle.bb_words.specs.WordsOperators.{of_operator}
use Rattle.bb_words.specs.declared.shifts.Direction.TheVariants.{Up, Down}
use Rattle.bb_words.specs.Moves.{shift_bits}
use Rattle.bb_words.proofs.Copies.{wide_bits, wide_by, length-paired, bits_complement}
use Rattle.bb_words.proofs.Past.{shift_up, shift_down}
use Rattle.bb_words.specs.declared.operator.PairOperator.TheVariants as pair
use Rattle.bb_words.specs.declared.operator.ShiftOperator.TheVariants as moves
use Rattle.bb_words.specs.Words.{Counts, IsWord, count}
use Rattle.bb_words.specs.Operators.{MeansPair, MeansShift, of_bits}

pub word_made : (new : List AigNode) (F : Meanings) (w : ℕ) (m : Counts) (lits r : List ℕ) → AreMade new F lits
    → r ≡ lits → ((x : ℕ → Bool) → length (F x) ≡ w) → ((x : ℕ → Bool) → number (F x) ≡ m x)
    → IsWord new w m r
word_made new F w m lits r h e wide is =
    let P : List ℕ → Type 0 = λ ls. IsWord new w m ls in
    let made : IsWord new w m lits = record {
      there = h.there;
      wide = wide_by new F lits h ∙ wide (λ i. false);
      value = λ x. ap number (h.value x) ∙ is x;
    } in
    subst P (sym e) made

same_bit : (b : Bool) → number (b ∷ []) ≡ num.bit b
same_bit true = refl
same_bit false = refl

pub bit_made : (new : List AigNode) (f t : Meaning) (lit : ℕ) (r : List ℕ) → IsMade new f lit → r ≡ lit ∷ []
    → ((x : ℕ → Bool) → f x ≡ t x) → IsWord new 1 (λ x. num.bit (t x)) r
bit_made new f t lit r h e is =
    let P : List ℕ → Type 0 = λ ls. IsWord new 1 (λ x. num.bit (t x)) ls in
    let made : IsWord new 1 (λ x. num.bit (t x)) (lit ∷ []) = record {
      there = (h.there, tt);
      wide = refl;
      value = λ x. same_bit (lit_at new x lit) ∙ ap num.bit (h.value x ∙ is x);
    } in
    subst P (sym e) made

pub even : (old : List AigNode) (x : ℕ → Bool) (a b : List ℕ) → length b ≡ length a
    → length (bits old x b) ≡ length (bits old x a)
even old x a b e = wide_bits old x b ∙ e ∙ sym (wide_bits old x a)

-- ---- pairs

pub pair_bitwise : (old new : List AigNode) (op : BitOperator) (a b lits r : List ℕ) → length b ≡ length a
    → AreMade new (λ x. paired (of_operator op) (bits old x a) (bits old x b)) lits → r ≡ lits
    → MeansPair old new (of_bits op) a b r
pair_bitwise old new bit_op.And a b lits r e h is =
    word_made new (λ x. paired (of_operator bit_op.And) (bits old x a) (bits old x b)) (length a)
    (λ x. bit_and (count old x a) (count old x b)) lits r h is
    (λ x. length-paired (of_operator bit_op.And) (bits old x a) (bits old x b) (even old x a b e)
    ∙ wide_bits old x a)
    (λ x. bitwise.both (bits old x a) (bits old x b) (sym (even old x a b e)))
pair_bitwise old new bit_op.Or a b lits r e h is =
    word_made new (λ x. paired (of_operator bit_op.Or) (bits old x a) (bits old x b)) (length a)
    (λ x. bit_or (count old x a) (count old x b)) lits r h is
    (λ x. length-paired (of_operator bit_op.Or) (bits old x a) (bits old x b) (even old x a b e) ∙ wide_bits old x a)
    (λ x. bitwise.either (bits old x a) (bits old x b) (sym (even old x a b e)))
pair_bitwise old new bit_op.Xor a b lits r e h is =
    word_made new (λ x. paired (of_operator bit_op.Xor) (bits old x a) (bits old x b)) (length a)
    (λ x. bit_xor (count old x a) (count old x b)) lits r h is
    (λ x. length-paired (of_operator bit_op.Xor) (bits old x a) (bits old x b) (even old x a b e)
    ∙ wide_bits old x a)
    (λ x. bitwise.one (bits old x a) (bits old x b) (sym (even old x a b e)))

pub pair_sum : (old new : List AigNode) (none : ℕ) (a b lits r : List ℕ) → length b ≡ length a
    → IsMade old (λ x. false) none
    → AreMade new (λ x. add_bits (lit_at old x none) (bits old x a) (bits old x b)) lits → r ≡ lits
    → MeansPair old new pair.Add a b r
pair_sum old new none a b lits r e is_no h is =
    word_made new (λ x. add_bits (lit_at old x none) (bits old x a) (bits old x b)) (length a)
    (λ x. num.sum (length a) (count old x a) (count old x b)) lits r h is
    (λ x. length-add (lit_at old x none) (bits old x a) (bits old x b) (even old x a b e) ∙ wide_bits old x a)
    (λ x. ap (λ c. number (add_bits c (bits old x a) (bits old x b))) (is_no.value x)
    ∙ sums.added (bits old x a) (bits old x b) (even old x a b e)
    ∙ ap (λ w. num.sum w (count old x a) (count old x b)) (wide_bits old x a))

pub pair_difference : (old new : List AigNode) (one : ℕ) (a b other lits r : List ℕ) → length b ≡ length a
    → other ≡ map complement b → IsMade old (λ x. true) one
    → AreMade new (λ x. add_bits (lit_at old x one) (bits old x a) (bits old x other)) lits → r ≡ lits
    → MeansPair old new pair.Sub a b r
pair_difference old new one a b other lits r e turned is_yes h is =
    let same = λ (x : ℕ → Bool). ap (bits old x) turned ∙ bits_complement old x b in
    let wide : length other ≡ length a = ap length turned ∙ length-map b complement ∙ e in
    word_made new (λ x. add_bits (lit_at old x one) (bits old x a) (bits old x other)) (length a)
    (λ x. num.difference (length a) (count old x a) (count old x b)) lits r h is
    (λ x. length-add (lit_at old x one) (bits old x a) (bits old x other) (even old x a other wide)
    ∙ wide_bits old x a)
    (λ x. ap (λ c. number (add_bits c (bits old x a) (bits old x other))) (is_yes.value x)
    ∙ ap (λ us. number (add_bits true (bits old x a) us)) (same x)
    ∙ sums.taken (bits old x a) (bits old x b) (even old x a b e)
    ∙ ap (λ w. num.difference w (count old x a) (count old x b)) (wide_bits old x a))

pub pair_product : (old new : List AigNode) (a b lits r : List ℕ)
    → AreMade new (λ x. mul_bits (replicate (length a) false) (bits old x a) (bits old x b)) lits → r ≡ lits
    → MeansPair old new pair.Mul a b r
pair_product old new a b lits r h is =
    word_made new (λ x. mul_bits (replicate (length a) false) (bits old x a) (bits old x b)) (length a)
    (λ x. num.product (length a) (count old x a) (count old x b)) lits r h is
    (λ x. length-mul (replicate (length a) false) (bits old x a) (bits old x b)
    (length-replicate (length a) false ∙ sym (wide_bits old x a)) ∙ wide_bits old x a)
    (λ x. ap (λ n. number (mul_bits (replicate n false) (bits old x a) (bits old x b))) (sym (wide_bits old x a))
    ∙ sums.multiplied (bits old x a) (bits old x b)
    ∙ ap (λ w. num.product w (count old x a) (count old x b)) (wide_bits old x a))

pub pair_equal : (old new : List AigNode) (one lit : ℕ) (a b r : List ℕ) → length b ≡ length a
    → IsMade old (λ x. true) one
    → IsMade new (λ x. same_bits (lit_at old x one) (bits old x a) (bits old x b)) lit → r ≡ lit ∷ []
    → MeansPair old new pair.Eq a b r
pair_equal old new one lit a b r e is_yes h is =
    bit_made new (λ x. same_bits (lit_at old x one) (bits old x a) (bits old x b))
    (λ x. count old x a == count old x b)
    lit r h is
    (λ x. ap (λ t. same_bits t (bits old x a) (bits old x b)) (is_yes.value x)
    ∙ ordered.same (bits old x a) (bits old x b) (even old x a b e))

pub pair_less : (old new : List AigNode) (none lit : ℕ) (a b r : List ℕ) → length b ≡ length a
    → IsMade old (λ x. false) none
    → IsMade new (λ x. less_bits (lit_at old x none) (bits old x a) (bits old x b)) lit → r ≡ lit ∷ []
    → MeansPair old new pair.Ult a b r
pair_less old new none lit a b r e is_no h is =
    bit_made new (λ x. less_bits (lit_at old x none) (bits old x a) (bits old x b))
    (λ x. nat_lt (count old x a) (count old x b)) lit r h is
    (λ x. ap (λ t. less_bits t (bits old x a) (bits old x b)) (is_no.value x)
    ∙ ordered.less (bits old x a) (bits old x b) (even old x a b e))

pub pair_less_signed : (old new : List AigNode) (none lit : ℕ) (a b left right r : List ℕ) → 1 ≤ length a
    → length b ≡ length a → AreMade old (λ x. turned_top (bits old x a)) left
    → AreMade old (λ x. turned_top (bits old x b)) right → IsMade old (λ x. false) none
    → IsMade new (λ x. less_bits (lit_at old x none) (bits old x left) (bits old x right)) lit → r ≡ lit ∷ []
    → MeansPair old new pair.Slt a b r
pair_less_signed old new none lit a b left right r some e p q is_no h is =
    bit_made new (λ x. less_bits (lit_at old x none) (bits old x left) (bits old x right))
    (λ x. num.is_less_signed (length a) (count old x a) (count old x b)) lit r h is
    (λ x. ap (λ t. less_bits t (bits old x left) (bits old x right)) (is_no.value x)
    ∙ ap (λ us. less_bits false us (bits old x right)) (p.value x)
    ∙ ap (less_bits false (turned_top (bits old x a))) (q.value x)
    ∙ ordered.less_signed (bits old x a) (bits old x b) (omega (arith, wide_bits old x a)) (even old x a b e)
    ∙ ap (λ w. num.is_less_signed w (count old x a) (count old x b)) (wide_bits old x a))

-- words with the highest bit turned are as wide
pub turned_wide : (old : List AigNode) (a left : List ℕ) → AreMade old (λ x. turned_top (bits old x a)) left
    → length left ≡ length a
turned_wide old a left h =
    let x : ℕ → Bool = λ i. false in
    wide_by old (λ x. turned_top (bits old x a)) left h ∙ length-turned (bits old x a) ∙ wide_bits old x a

-- ---- shifts

pub shift_left_made : (old new : List AigNode) (fill : ℕ) (word by lits r : List ℕ) → IsMade old
    (λ x. false) fill
    → AreMade new (λ x. shift_bits Up (lit_at old x fill) 1 (bits old x word) (bits old x by)) lits → r ≡ lits
    → MeansShift old new moves.Shl word by r
shift_left_made old new fill word by lits r is_no h is =
    let same = λ (x : ℕ → Bool). ap (λ f. shift_bits Up f 1 (bits old x word) (bits old x by)) (is_no.value x)
    ∙ shift_up 1 (bits old x word) (bits old x by) in
    word_made new (λ x. shift_bits Up (lit_at old x fill) 1 (bits old x word) (bits old x by)) (length word)
    (λ x. num.shifted_left (length word) (count old x word) (count old x by)) lits r h is
    (λ x. ap length (same x) ∙ length-shl 1 (bits old x word) (bits old x by) ∙ wide_bits old x word)
    (λ x. ap number (same x) ∙ shifted.left (bits old x word) (bits old x by)
    ∙ ap (λ w. num.shifted_left w (count old x word) (count old x by)) (wide_bits old x word))

pub shift_right_made : (old new : List AigNode) (fill : ℕ) (word by lits r : List ℕ) → IsMade old
    (λ x. false) fill
    → AreMade new (λ x. shift_bits Down (lit_at old x fill) 1 (bits old x word) (bits old x by)) lits → r ≡ lits
    → MeansShift old new moves.Lshr word by r
shift_right_made old new fill word by lits r is_no h is =
    let same = λ (x : ℕ → Bool). ap (λ f. shift_bits Down f 1 (bits old x word) (bits old x by)) (is_no.value x)
    ∙ shift_down false 1 (bits old x word) (bits old x by) in
    word_made new (λ x. shift_bits Down (lit_at old x fill) 1 (bits old x word) (bits old x by)) (length word)
    (λ x. num.shifted_right (count old x word) (count old x by)) lits r h is
    (λ x. ap length (same x) ∙ length-shr false 1 (bits old x word) (bits old x by) ∙ wide_bits old x word)
    (λ x. ap number (same x) ∙ shifted.right (bits old x word) (bits old x by))

pub shift_sign_made : (old new : List AigNode) (fill : ℕ) (word by lits r : List ℕ) → 1 ≤ length word
    → ((x : ℕ → Bool) → lit_at old x fill ≡ top (bits old x word))
    → AreMade new (λ x. shift_bits Down (lit_at old x fill) 1 (bits old x word) (bits old x by)) lits → r ≡ lits
    → MeansShift old new moves.Ashr word by r
shift_sign_made old new fill word by lits r some high h is =
    let same = λ (x : ℕ → Bool). ap (λ f. shift_bits Down f 1 (bits old x word) (bits old x by)) (high x)
    ∙ shift_down (top (bits old x word)) 1 (bits old x word) (bits old x by) in
    word_made new (λ x. shift_bits Down (lit_at old x fill) 1 (bits old x word) (bits old x by)) (length word)
    (λ x. num.arithmetic_right (length word) (count old x word) (count old x by)) lits r h is
    (λ x. ap length (same x) ∙ length-shr (top (bits old x word)) 1 (bits old x word) (bits old x by)
    ∙ wide_bits old x word)
    (λ x. ap number (same x)
    ∙ shifted.right_by_sign (bits old x word) (bits old x by) (omega (arith, wide_bits old x word))
    ∙ ap (λ w. num.arithmetic_right w (count old x word) (count old x by)) (wide_bits old x word))

-- ---- a choice

picked : (b : Bool) (xs ys : List Bool) → number (pick_list b xs ys) ≡ (if b then number xs else number ys)
picked true xs ys = refl
picked false xs ys = refl

pub choice_made : (old new : List AigNode) (test : ℕ) (a b lits r : List ℕ) → length b ≡ length a
    → AreMade new (λ x. paired (pick (lit_at old x test)) (bits old x a) (bits old x b)) lits → r ≡ lits
    → IsWord new (length a) (λ x. if lit_at old x test then count old x a else count old x b) r
choice_made old new test a b lits r e h is =
    word_made new (λ x. paired (pick (lit_at old x test)) (bits old x a) (bits old x b)) (length a)
    (λ x. if lit_at old x test then count old x a else count old x b) lits r h is
    (λ x. length-paired (pick (lit_at old x test)) (bits old x a) (bits old x b) (even old x a b e)
    ∙ wide_bits old x a)
    (λ x. ap number (picked_all (lit_at old x test) (bits old x a) (bits old x b) (even old x a b e))
    ∙ picked (lit_at old x test) (bits old x a) (bits old x b))
