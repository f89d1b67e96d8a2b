-- Widths are from 1 to 128, and each value is below 2 to its width.
use Rattle.std.specs.Prelude.{◌≡◌, refl, ℕ, zero, suc, ◌/◌, ◌^◌, ◌<◌, ◌≤◌, ◌==◌, Bool, true, false, List, [], ◌∷◌}
use Rattle.std.specs.Prelude.{◌++◌, length, map, slice_index, if◌then◌else◌, nat_lt}
use Rattle.std.proofs.Common.{ap, sym, arith, subst, lit<, lit≤}
use Rattle.std.proofs.lemmas.Nat.{pow_pos, shr_le, and_le_l, or_lt, xor_lt, mod_below}
use Rattle.std.proofs.lemmas.List.{get_or_append_left, length_push, get_or_push}
use Rattle.wn_net.specs.declared.node.Node.{Node}
use Rattle.wn_net.specs.declared.node.Node.TheVariants as n
use Rattle.wn_net.specs.declared.parts.Mem.{Mem}
use Rattle.fv_bits.specs.Bits.{low, complement, is_negative, bit}
use Rattle.wn_net.specs.Width.{Shape, IsWidth, width, widths, IsFitting, AreFitting}
use Rattle.wn_net.specs.Value.{Given, value, values, word_at, words_at, words_of}
use Rattle.wn_net.specs.Net.{Netlist, shape_of}
use Rattle.wn_net.specs.Given.{AreNumbersOf, AreMemsOf, IsGiven}
use Rattle.fv_bits.proofs.Limits.{joined_fits, wider_le}

-- each width is from 1 to 128; past the end stands 0
abbrev pub AreWidths : List ℕ → Type 0
AreWidths ws = (i : ℕ) → i < length ws → IsWidth (slice_index ws i)

-- numbers have the widths of a shape
pub record HasWidths (s : Shape) (g : Given) : Type 0 where
  pub inputs : AreNumbersOf s.inputs g.inputs
  pub regs : AreNumbersOf s.regs g.state.regs
  pub words : (m i : ℕ) → word_at (words_of g m) i < 2 ^ slice_index s.mems m

-- the words of memories, by their numbers
pub words_below : (ms : List Mem) (ns : List (List ℕ)) → AreMemsOf ms ns
    → (m i : ℕ) → word_at (words_at ns m) i < 2 ^ slice_index (map (λ m. m.width) ms) m
words_below [] [] h m i = lit< tt
words_below (x ∷ ms) (n ∷ ns) h zero i = h.0.below i
words_below (x ∷ ms) (n ∷ ns) h (suc m) i = words_below ms ns h.1 m i
words_below [] (n ∷ ns) h m i = absurd h
words_below (x ∷ ms) [] h m i = absurd h

pub mems_alike : (ms : List Mem) (ns : List (List ℕ)) → AreMemsOf ms ns → length ns ≡ length ms
mems_alike [] [] h = refl
mems_alike (x ∷ ms) (n ∷ ns) h = ap suc (mems_alike ms ns h.1)
mems_alike [] (n ∷ ns) h = absurd h
mems_alike (x ∷ ms) [] h = absurd h

pub has_widths : (net : Netlist) (g : Given) → IsGiven net g → HasWidths (shape_of net) g
has_widths net g h =
    record { inputs = h.inputs; regs = h.state.regs; words = words_below net.mems g.state.mems h.state.mems }

pub record AreSmall (s : Shape) : Type 0 where
  pub inputs : AreWidths s.inputs
  pub regs : AreWidths s.regs
  pub mems : AreWidths s.mems

pub width_small : (s : Shape) (ws : List ℕ) (x : Node) → AreSmall s → AreWidths ws → IsFitting s ws x
    → IsWidth (width s ws x)
width_small s ws (n.Konst word) small h fits = (word.some_bits, word.few_bits)
width_small s ws (n.Input i) small h fits = small.inputs i fits
width_small s ws (n.Reg i) small h fits = small.regs i fits
width_small s ws (n.Read m a) small h fits = small.mems m fits.0
width_small s ws (n.Not a) small h fits = h a fits
width_small s ws (n.And a b) small h fits = h a fits.0
width_small s ws (n.Or a b) small h fits = h a fits.0
width_small s ws (n.Xor a b) small h fits = h a fits.0
width_small s ws (n.Add a b) small h fits = h a fits.0
width_small s ws (n.Sub a b) small h fits = h a fits.0
width_small s ws (n.Mul a b) small h fits = h a fits.0
width_small s ws (n.Eq a b) small h fits = (lit≤ tt, lit≤ tt)
width_small s ws (n.Ult a b) small h fits = (lit≤ tt, lit≤ tt)
width_small s ws (n.Slt a b) small h fits = (lit≤ tt, lit≤ tt)
width_small s ws (n.Shl a b) small h fits = h a fits.0
width_small s ws (n.Lshr a b) small h fits = h a fits.0
width_small s ws (n.Ashr a b) small h fits = h a fits.0
width_small s ws (n.Concat a b) small h fits = let p = h a fits.0 in (omega (arith, p.0), fits.2)
width_small s ws (n.Mux c a b) small h fits = h a fits.2.0
width_small s ws (n.Slice a at w) small h fits = let p = h a fits.0 in (fits.1, omega (arith, p.1, fits.2))
width_small s ws (n.Zext a w) small h fits = let p = h a fits.0 in (omega (arith, p.0, fits.1), fits.2)
width_small s ws (n.Sext a w) small h fits = let p = h a fits.0 in (omega (arith, p.0, fits.1), fits.2)

-- one more
pub widths_push : (ws : List ℕ) (w : ℕ) → AreWidths ws → IsWidth w → AreWidths (ws ++ w ∷ [])
widths_push ws w h k i below = by (nat_lt i (length ws)) refl
  where
    by : (b : Bool) → nat_lt i (length ws) ≡ b → IsWidth (slice_index (ws ++ w ∷ []) i)
    by true e =
        let P : ℕ → Type 0 = λ m. IsWidth m in
        let less : i < length ws = grind (arith, e) in
        subst P (sym (get_or_append_left ws (w ∷ []) 0 i less)) (h i less)
    by false e =
        let P : ℕ → Type 0 = λ m. IsWidth m in
        let same : length ws ≡ i = grind (arith, e, below, length_push ws w) in
        subst P (sym (get_or_push ws w 0 i same)) k

pub widths_small : (s : Shape) (ws : List ℕ) (xs : List Node) → AreSmall s → AreWidths ws → AreFitting s ws xs
    → AreWidths (widths s ws xs)
widths_small s ws [] small h fits = h
widths_small s ws (x ∷ xs) small h fits =
    widths_small s (ws ++ width s ws x ∷ []) xs small
    (widths_push ws (width s ws x) h (width_small s ws x small h fits.0)) fits.1

-- numbers of w bits
low_fits : (w n : ℕ) → low w n < 2 ^ w
low_fits w n = mod_below n (2 ^ w) (pow_pos w)

complement_fits : (w n : ℕ) → complement w n < 2 ^ w
complement_fits w n = omega (arith, pow_pos w)

bit_fits : (b : Bool) → bit b < 2 ^ 1
bit_fits true = lit< tt
bit_fits false = lit< tt

either_fits : (b : Bool) (m n w : ℕ) → m < 2 ^ w → n < 2 ^ w → (if b then m else n) < 2 ^ w
either_fits true m n w h k = h
either_fits false m n w h k = k

shifted_fits : (w n k : ℕ) → n < 2 ^ w → n / 2 ^ k < 2 ^ w
shifted_fits w n k h = omega (arith, shr_le n k)

pub value_fits : (s : Shape) (g : Given) (ws vs : List ℕ) (x : Node) → HasWidths s g
    → ((i : ℕ) → slice_index vs i < 2 ^ slice_index ws i) → IsFitting s ws x → value g ws vs x < 2 ^ width s ws x
value_fits s g ws vs (n.Konst word) given h fits = word.value_fits
value_fits s g ws vs (n.Input i) given h fits = given.inputs.below i
value_fits s g ws vs (n.Reg i) given h fits = given.regs.below i
value_fits s g ws vs (n.Read m a) given h fits = given.words m (slice_index vs a)
value_fits s g ws vs (n.Not a) given h fits = complement_fits (slice_index ws a) (slice_index vs a)
value_fits s g ws vs (n.And a b) given h fits = omega (arith, and_le_l (slice_index vs a) (slice_index vs b), h a)
value_fits s g ws vs (n.Or a b) given h fits =
    or_lt (slice_index ws a) (slice_index vs a) (slice_index vs b) (h a) (rw fits.2 (h b))
value_fits s g ws vs (n.Xor a b) given h fits =
    xor_lt (slice_index ws a) (slice_index vs a) (slice_index vs b) (h a) (rw fits.2 (h b))
value_fits s g ws vs (n.Add a b) given h fits = low_fits (slice_index ws a) _
value_fits s g ws vs (n.Sub a b) given h fits = low_fits (slice_index ws a) _
value_fits s g ws vs (n.Mul a b) given h fits = low_fits (slice_index ws a) _
value_fits s g ws vs (n.Eq a b) given h fits = bit_fits _
value_fits s g ws vs (n.Ult a b) given h fits = bit_fits _
value_fits s g ws vs (n.Slt a b) given h fits = bit_fits _
value_fits s g ws vs (n.Shl a b) given h fits = low_fits (slice_index ws a) _
value_fits s g ws vs (n.Lshr a b) given h fits =
    shifted_fits (slice_index ws a) (slice_index vs a) (slice_index vs b) (h a)
value_fits s g ws vs (n.Ashr a b) given h fits =
    either_fits (is_negative (slice_index ws a) (slice_index vs a)) _ _ (slice_index ws a)
    (complement_fits (slice_index ws a) _) (shifted_fits (slice_index ws a) (slice_index vs a) (slice_index vs b) (h a))
value_fits s g ws vs (n.Concat a b) given h fits =
    joined_fits (slice_index ws a) (slice_index ws b) (slice_index vs a) (slice_index vs b) (h a) (h b)
value_fits s g ws vs (n.Mux c a b) given h fits =
    either_fits (slice_index vs c == 1) (slice_index vs a) (slice_index vs b) (slice_index ws a) (h a)
    (rw fits.2.2 (h b))
value_fits s g ws vs (n.Slice a at w) given h fits = low_fits w _
value_fits s g ws vs (n.Zext a w) given h fits = omega (arith, h a, wider_le (slice_index ws a) w fits.1)
value_fits s g ws vs (n.Sext a w) given h fits =
    let few = wider_le (slice_index ws a) w fits.1 in
    either_fits (is_negative (slice_index ws a) (slice_index vs a)) _ _ w (omega (arith, h a, few))
    (omega (arith, h a, few))

-- one more number, below 2 to one more width
pub numbers_push : (ws vs : List ℕ) (w v : ℕ) → length ws ≡ length vs
    → ((i : ℕ) → slice_index vs i < 2 ^ slice_index ws i) → v < 2 ^ w
    → (i : ℕ) → slice_index (vs ++ v ∷ []) i < 2 ^ slice_index (ws ++ w ∷ []) i
numbers_push [] [] w v e h k zero = k
numbers_push [] [] w v e h k (suc i) = lit< tt
numbers_push (x ∷ ws) (y ∷ vs) w v e h k zero = h 0
numbers_push (x ∷ ws) (y ∷ vs) w v e h k (suc i) = numbers_push ws vs w v (omega arith) (λ i. h (suc i)) k i
numbers_push [] (y ∷ vs) w v e h k i = absurd (omega arith)
numbers_push (x ∷ ws) [] w v e h k i = absurd (omega arith)

pub values_fit : (s : Shape) (g : Given) (ws vs : List ℕ) (xs : List Node) → HasWidths s g → length ws ≡ length vs
    → ((i : ℕ) → slice_index vs i < 2 ^ slice_index ws i) → AreFitting s ws xs
    → (i : ℕ) → slice_index (values s g ws vs xs) i < 2 ^ slice_index (widths s ws xs) i
values_fit s g ws vs [] given e h fits i = h i
values_fit s g ws vs (x ∷ xs) given e h fits i =
    values_fit s g (ws ++ width s ws x ∷ []) (vs ++ value g ws vs x ∷ []) xs given
    (omega (arith, length_push ws (width s ws x), length_push vs (value g ws vs x), e))
    (numbers_push ws vs (width s ws x) (value g ws vs x) e h (value_fits s g ws vs x given h fits.0)) fits.1 i

-- numbers that are below a bound up to their end are so everywhere
pub within_below : (ns : List ℕ) (w count : ℕ) → ((i : ℕ) → i < count → slice_index ns i < 2 ^ w) → length ns ≤ count
    → (i : ℕ) → slice_index ns i < 2 ^ w
within_below [] w count h long i = pow_pos w
within_below (n ∷ ns) w zero h long i = absurd (omega arith)
within_below (n ∷ ns) w (suc count) h long zero = h 0 (omega arith)
within_below (n ∷ ns) w (suc count) h long (suc i) =
    within_below ns w count (λ i b. h (suc i) (omega arith)) (omega arith) i
