-- The width, the value and the fit of a node whose numbers became higher.
use Rattle.std.specs.Prelude.{◌≡◌, refl, ℕ, zero, suc, ◌+◌, ◌<◌, ◌≤◌, ◌==◌, nat_lt, bit_and, bit_or, bit_xor}
use Rattle.std.specs.Prelude.{if◌then◌else◌, Bool, true, false, List, [], ◌∷◌, ◌++◌, length}
use Rattle.std.specs.Prelude.{Option, Some, None, slice_get, slice_index}
use Rattle.std.specs.Int.Bits.{xor_self}
use Rattle.std.proofs.Common.{sym, ◌∙◌, arith}
use Rattle.std.proofs.lemmas.List.{length-append, length-map}
use Rattle.fv_bits.specs.Bits as bits
use Rattle.wn_net.specs.declared.node.Node.{Node}
use Rattle.wn_net.specs.declared.node.Node.TheVariants as n
use Rattle.wn_net.specs.declared.parts.Input.{Input}
use Rattle.wn_net.specs.declared.parts.Reg.{Reg}
use Rattle.wn_net.specs.Width.{width, IsThere, AreAlike, IsFitting}
use Rattle.wn_net.specs.Value.{Given, value, word_at, words_of}
use Rattle.wn_net.specs.Net.{Netlist, shape_of}
use Rattle.bm_induct.specs.declared.how.Rebuild.{Rebuild}
use Rattle.bm_induct.specs.Rebuilt.{held_inputs, is_held, offset, moved_id, seen}
use Rattle.bm_induct.specs.Stages.{moved, moved_input, IsPlain}
use Rattle.bm_induct.proofs.Items.{before, behind}

-- ---- the numbers of inputs as nodes see them

abbrev by_held : Rebuild → Option Input → ℕ → ℕ
by_held how None number = number
by_held how (Some x) number = if is_held how x.kind then 0 else number

none_held : (how : Rebuild) (o : Option Input) → 0 ≡ by_held how o 0
none_held how None = refl
none_held how (Some x) = by (is_held how x.kind)
  where
    by : (b : Bool) → ◌≡◌ {A = ℕ} 0 (if b then 0 else 0)
    by true = refl
    by false = refl

pub held_at : (how : Rebuild) (xs : List Input) (ns : List ℕ) (i : ℕ)
    → slice_index (held_inputs how xs ns) i ≡ by_held how (slice_get xs i) (slice_index ns i)
held_at how [] ns zero = refl
held_at how [] ns (suc i) = refl
held_at how (x ∷ xs) [] i = none_held how (slice_get (x ∷ xs) i)
held_at how (x ∷ xs) (m ∷ ns) zero = refl
held_at how (x ∷ xs) (m ∷ ns) (suc i) = held_at how xs ns i

module _ (how : Rebuild) (net : Netlist) where
  -- ---- widths

  input_width : (us : List ℕ) (i : ℕ) (o : Option Input)
      → slice_index us i ≡ slice_index (shape_of net).inputs i
      → width (shape_of net) us (moved_input how net i o) ≡ slice_index (shape_of net).inputs i
  input_width us i None lead = refl
  input_width us i (Some x) lead = by (is_held how x.kind)
    where
      by : (b : Bool)
          → width (shape_of net) us (if b then n.Xor i i else n.Zext i (slice_index (shape_of net).inputs i))
          ≡ slice_index (shape_of net).inputs i
      by true = lead
      by false = refl

  -- the first numbers of a list are the widths of the inputs and of the registers
  pub record AreLeads (lw : List ℕ) : Type 0 where
    pub long : length lw ≡ offset net
    pub inputs : (i : ℕ) → i < length net.inputs → slice_index lw i ≡ slice_index (shape_of net).inputs i
    pub regs : (i : ℕ) → i < length net.regs
        → slice_index lw (length net.inputs + i) ≡ slice_index (shape_of net).regs i

  lead_input : (lw ws : List ℕ) (i : ℕ) → AreLeads lw → i < length net.inputs
      → slice_index (lw ++ ws) i ≡ slice_index (shape_of net).inputs i
  lead_input lw ws i lead below = before lw ws i (omega (arith, lead.long, below)) ∙ lead.inputs i below

  lead_reg : (lw ws : List ℕ) (i : ℕ) → AreLeads lw → i < length net.regs
      → slice_index (lw ++ ws) (length net.inputs + i) ≡ slice_index (shape_of net).regs i
  lead_reg lw ws i lead below =
      before lw ws (length net.inputs + i) (omega (arith, lead.long, below)) ∙ lead.regs i below

  an_input : (i : ℕ) → i < length (shape_of net).inputs → i < length net.inputs
  an_input i below = omega (arith, below, length-map net.inputs (λ (x : Input). x.width))

  a_reg : (i : ℕ) → i < length (shape_of net).regs → i < length net.regs
  a_reg i below = omega (arith, below, length-map net.regs (λ (r : Reg). r.width))

  pub width_moved : (lw ws : List ℕ) (x : Node) → AreLeads lw → IsFitting (shape_of net) ws x
      → width (shape_of net) (lw ++ ws) (moved how net x) ≡ width (shape_of net) ws x
  width_moved lw ws (n.Konst word) lead fits = refl
  width_moved lw ws (n.Input i) lead fits =
      input_width (lw ++ ws) i (slice_get net.inputs i) (lead_input lw ws i lead (an_input i fits))
  width_moved lw ws (n.Reg i) lead fits = refl
  width_moved lw ws (n.Read m a) lead fits = refl
  width_moved lw ws (n.Not a) lead fits = behind lw ws (offset net) a lead.long
  width_moved lw ws (n.And a b) lead fits = behind lw ws (offset net) a lead.long
  width_moved lw ws (n.Or a b) lead fits = behind lw ws (offset net) a lead.long
  width_moved lw ws (n.Xor a b) lead fits = behind lw ws (offset net) a lead.long
  width_moved lw ws (n.Add a b) lead fits = behind lw ws (offset net) a lead.long
  width_moved lw ws (n.Sub a b) lead fits = behind lw ws (offset net) a lead.long
  width_moved lw ws (n.Mul a b) lead fits = behind lw ws (offset net) a lead.long
  width_moved lw ws (n.Eq a b) lead fits = refl
  width_moved lw ws (n.Ult a b) lead fits = refl
  width_moved lw ws (n.Slt a b) lead fits = refl
  width_moved lw ws (n.Shl a b) lead fits = behind lw ws (offset net) a lead.long
  width_moved lw ws (n.Lshr a b) lead fits = behind lw ws (offset net) a lead.long
  width_moved lw ws (n.Ashr a b) lead fits = behind lw ws (offset net) a lead.long
  width_moved lw ws (n.Concat a b) lead fits =
      λ j. behind lw ws (offset net) a lead.long j + behind lw ws (offset net) b lead.long j
  width_moved lw ws (n.Mux c a b) lead fits = behind lw ws (offset net) a lead.long
  width_moved lw ws (n.Slice a at w) lead fits = refl
  width_moved lw ws (n.Zext a w) lead fits = refl
  width_moved lw ws (n.Sext a w) lead fits = refl

  -- ---- fits

  there : (lw ws : List ℕ) (a : ℕ) → AreLeads lw → IsThere ws a → IsThere (lw ++ ws) (moved_id net a)
  there lw ws a lead own = omega (arith, own, lead.long, length-append lw ws)

  alike : (lw ws : List ℕ) (a b : ℕ) → AreLeads lw → AreAlike ws a b
      → AreAlike (lw ++ ws) (moved_id net a) (moved_id net b)
  alike lw ws a b lead own = (
    there lw ws a lead own.0,
    there lw ws b lead own.1,
    behind lw ws (offset net) a lead.long ∙ own.2 ∙ sym (behind lw ws (offset net) b lead.long),
  )

  zext_fits : (us : List ℕ) (i w : ℕ) → i < length us → slice_index us i ≡ w → w ≤ 128
      → IsFitting (shape_of net) us (n.Zext i w)
  zext_fits us i w below is few = (below, omega (arith, is), few)

  input_fits : (us : List ℕ) (i : ℕ) (o : Option Input) → i < length us
      → slice_index us i ≡ slice_index (shape_of net).inputs i → slice_index (shape_of net).inputs i ≤ 128
      → IsFitting (shape_of net) us (moved_input how net i o)
  input_fits us i None below lead few = zext_fits us i (slice_index (shape_of net).inputs i) below lead few
  input_fits us i (Some x) below lead few = by (is_held how x.kind)
    where
      by : (b : Bool)
          → IsFitting (shape_of net) us (if b then n.Xor i i else n.Zext i (slice_index (shape_of net).inputs i))
      by true = (below, below, refl)
      by false = zext_fits us i (slice_index (shape_of net).inputs i) below lead few

  -- inputs and registers have at most 128 bits
  pub record AreSmall : Type 0 where
    pub inputs : (i : ℕ) → slice_index (shape_of net).inputs i ≤ 128
    pub regs : (i : ℕ) → slice_index (shape_of net).regs i ≤ 128

  pub fits_moved : (lw ws : List ℕ) (x : Node) → AreSmall → AreLeads lw → IsFitting (shape_of net) ws x
      → IsFitting (shape_of net) (lw ++ ws) (moved how net x)
  fits_moved lw ws (n.Konst word) small lead fits = tt
  fits_moved lw ws (n.Input i) small lead fits =
      let below = an_input i fits in
      input_fits (lw ++ ws) i (slice_get net.inputs i) (omega (arith, below, lead.long, length-append lw ws))
      (lead_input lw ws i lead below) (small.inputs i)
  fits_moved lw ws (n.Reg i) small lead fits =
      let below = a_reg i fits in
      zext_fits (lw ++ ws) (length net.inputs + i) (slice_index (shape_of net).regs i)
      (omega (arith, below, lead.long, length-append lw ws)) (lead_reg lw ws i lead below) (small.regs i)
  fits_moved lw ws (n.Read m a) small lead fits = (fits.0, there lw ws a lead fits.1)
  fits_moved lw ws (n.Not a) small lead fits = there lw ws a lead fits
  fits_moved lw ws (n.And a b) small lead fits = alike lw ws a b lead fits
  fits_moved lw ws (n.Or a b) small lead fits = alike lw ws a b lead fits
  fits_moved lw ws (n.Xor a b) small lead fits = alike lw ws a b lead fits
  fits_moved lw ws (n.Add a b) small lead fits = alike lw ws a b lead fits
  fits_moved lw ws (n.Sub a b) small lead fits = alike lw ws a b lead fits
  fits_moved lw ws (n.Mul a b) small lead fits = alike lw ws a b lead fits
  fits_moved lw ws (n.Eq a b) small lead fits = alike lw ws a b lead fits
  fits_moved lw ws (n.Ult a b) small lead fits = alike lw ws a b lead fits
  fits_moved lw ws (n.Slt a b) small lead fits = alike lw ws a b lead fits
  fits_moved lw ws (n.Shl a b) small lead fits = (there lw ws a lead fits.0, there lw ws b lead fits.1)
  fits_moved lw ws (n.Lshr a b) small lead fits = (there lw ws a lead fits.0, there lw ws b lead fits.1)
  fits_moved lw ws (n.Ashr a b) small lead fits = (there lw ws a lead fits.0, there lw ws b lead fits.1)
  fits_moved lw ws (n.Concat a b) small lead fits =
      let wide_a = behind lw ws (offset net) a lead.long in
      let wide_b = behind lw ws (offset net) b lead.long in (
        there lw ws a lead fits.0,
        there lw ws b lead fits.1,
        omega (arith, wide_a, wide_b, fits.2),
      )
  fits_moved lw ws (n.Mux c a b) small lead fits = (
    there lw ws c lead fits.0,
    behind lw ws (offset net) c lead.long ∙ fits.1,
    alike lw ws a b lead fits.2,
  )
  fits_moved lw ws (n.Slice a at w) small lead fits =
      let wide = behind lw ws (offset net) a lead.long in
      (there lw ws a lead fits.0, fits.1, omega (arith, wide, fits.2))
  fits_moved lw ws (n.Zext a w) small lead fits =
      let wide = behind lw ws (offset net) a lead.long in
      (there lw ws a lead fits.0, omega (arith, wide, fits.1), fits.2)
  fits_moved lw ws (n.Sext a w) small lead fits =
      let wide = behind lw ws (offset net) a lead.long in
      (there lw ws a lead fits.0, omega (arith, wide, fits.1), fits.2)

  input_plain : (i : ℕ) (o : Option Input) → IsPlain (moved_input how net i o)
  input_plain i None = tt
  input_plain i (Some x) = by (is_held how x.kind)
    where
      by : (b : Bool) → IsPlain (if b then n.Xor i i else n.Zext i (slice_index (shape_of net).inputs i))
      by true = tt
      by false = tt

  pub plain_moved : (x : Node) → IsPlain (moved how net x)
  plain_moved (n.Konst word) = tt
  plain_moved (n.Input i) = input_plain i (slice_get net.inputs i)
  plain_moved (n.Reg i) = tt
  plain_moved (n.Read m a) = tt
  plain_moved (n.Not a) = tt
  plain_moved (n.And a b) = tt
  plain_moved (n.Or a b) = tt
  plain_moved (n.Xor a b) = tt
  plain_moved (n.Add a b) = tt
  plain_moved (n.Sub a b) = tt
  plain_moved (n.Mul a b) = tt
  plain_moved (n.Eq a b) = tt
  plain_moved (n.Ult a b) = tt
  plain_moved (n.Slt a b) = tt
  plain_moved (n.Shl a b) = tt
  plain_moved (n.Lshr a b) = tt
  plain_moved (n.Ashr a b) = tt
  plain_moved (n.Concat a b) = tt
  plain_moved (n.Mux c a b) = tt
  plain_moved (n.Slice a at w) = tt
  plain_moved (n.Zext a w) = tt
  plain_moved (n.Sext a w) = tt

  -- ---- values

  input_value : (g : Given) (us ns : List ℕ) (i : ℕ) (o : Option Input)
      → slice_index ns i ≡ slice_index g.inputs i
      → value g us ns (moved_input how net i o) ≡ by_held how o (slice_index g.inputs i)
  input_value g us ns i None lead = lead
  input_value g us ns i (Some x) lead = by (is_held how x.kind)
    where
      by : (b : Bool)
          → value g us ns (if b then n.Xor i i else n.Zext i (slice_index (shape_of net).inputs i))
          ≡ (if b then 0 else slice_index g.inputs i)
      by true = xor_self (slice_index ns i)
      by false = lead

  -- the first numbers of a list are those of the inputs and of the registers in a cycle
  pub record AreValues (g : Given) (lv : List ℕ) : Type 0 where
    pub long : length lv ≡ offset net
    pub inputs : (i : ℕ) → i < length net.inputs → slice_index lv i ≡ slice_index g.inputs i
    pub regs : (i : ℕ) → i < length net.regs
        → slice_index lv (length net.inputs + i) ≡ slice_index g.state.regs i

  pub value_moved : (g : Given) (lw ws lv vs : List ℕ) (x : Node) → AreLeads lw → AreValues g lv
      → IsFitting (shape_of net) ws x
      → value g (lw ++ ws) (lv ++ vs) (moved how net x) ≡ value (seen how net g) ws vs x
  value_moved g lw ws lv vs (n.Konst word) lead own fits = refl
  value_moved g lw ws lv vs (n.Input i) lead own fits =
      let below = an_input i fits in
      input_value g (lw ++ ws) (lv ++ vs) i (slice_get net.inputs i)
      (before lv vs i (omega (arith, own.long, below)) ∙ own.inputs i below)
      ∙ sym (held_at how net.inputs g.inputs i)
  value_moved g lw ws lv vs (n.Reg i) lead own fits =
      let below = a_reg i fits in
      before lv vs (length net.inputs + i) (omega (arith, own.long, below)) ∙ own.regs i below
  value_moved g lw ws lv vs (n.Read m a) lead own fits =
      λ j. word_at (words_of g m) (behind lv vs (offset net) a own.long j)
  value_moved g lw ws lv vs (n.Not a) lead own fits = λ j.
      bits.complement (behind lw ws (offset net) a lead.long j) (behind lv vs (offset net) a own.long j)
  value_moved g lw ws lv vs (n.And a b) lead own fits = λ j.
      bit_and (behind lv vs (offset net) a own.long j) (behind lv vs (offset net) b own.long j)
  value_moved g lw ws lv vs (n.Or a b) lead own fits = λ j.
      bit_or (behind lv vs (offset net) a own.long j) (behind lv vs (offset net) b own.long j)
  value_moved g lw ws lv vs (n.Xor a b) lead own fits = λ j.
      bit_xor (behind lv vs (offset net) a own.long j) (behind lv vs (offset net) b own.long j)
  value_moved g lw ws lv vs (n.Add a b) lead own fits = λ j.
      bits.sum (behind lw ws (offset net) a lead.long j) (behind lv vs (offset net) a own.long j)
      (behind lv vs (offset net) b own.long j)
  value_moved g lw ws lv vs (n.Sub a b) lead own fits = λ j.
      bits.difference (behind lw ws (offset net) a lead.long j) (behind lv vs (offset net) a own.long j)
      (behind lv vs (offset net) b own.long j)
  value_moved g lw ws lv vs (n.Mul a b) lead own fits = λ j.
      bits.product (behind lw ws (offset net) a lead.long j) (behind lv vs (offset net) a own.long j)
      (behind lv vs (offset net) b own.long j)
  value_moved g lw ws lv vs (n.Eq a b) lead own fits = λ j.
      bits.bit (behind lv vs (offset net) a own.long j == behind lv vs (offset net) b own.long j)
  value_moved g lw ws lv vs (n.Ult a b) lead own fits = λ j.
      bits.bit (nat_lt (behind lv vs (offset net) a own.long j) (behind lv vs (offset net) b own.long j))
  value_moved g lw ws lv vs (n.Slt a b) lead own fits = λ j.
      bits.bit (bits.is_less_signed (behind lw ws (offset net) a lead.long j)
      (behind lv vs (offset net) a own.long j) (behind lv vs (offset net) b own.long j))
  value_moved g lw ws lv vs (n.Shl a b) lead own fits = λ j.
      bits.shifted_left (behind lw ws (offset net) a lead.long j) (behind lv vs (offset net) a own.long j)
      (behind lv vs (offset net) b own.long j)
  value_moved g lw ws lv vs (n.Lshr a b) lead own fits = λ j.
      bits.shifted_right (behind lv vs (offset net) a own.long j) (behind lv vs (offset net) b own.long j)
  value_moved g lw ws lv vs (n.Ashr a b) lead own fits = λ j.
      bits.arithmetic_right (behind lw ws (offset net) a lead.long j) (behind lv vs (offset net) a own.long j)
      (behind lv vs (offset net) b own.long j)
  value_moved g lw ws lv vs (n.Concat a b) lead own fits = λ j.
      bits.joined (behind lw ws (offset net) b lead.long j) (behind lv vs (offset net) a own.long j)
      (behind lv vs (offset net) b own.long j)
  value_moved g lw ws lv vs (n.Mux c a b) lead own fits = λ j.
      if behind lv vs (offset net) c own.long j == 1 then behind lv vs (offset net) a own.long j
      else behind lv vs (offset net) b own.long j
  value_moved g lw ws lv vs (n.Slice a at w) lead own fits = λ j.
      bits.part at w (behind lv vs (offset net) a own.long j)
  value_moved g lw ws lv vs (n.Zext a w) lead own fits = behind lv vs (offset net) a own.long
  value_moved g lw ws lv vs (n.Sext a w) lead own fits = λ j.
      bits.sign_extended (behind lw ws (offset net) a lead.long j) w (behind lv vs (offset net) a own.long j)
