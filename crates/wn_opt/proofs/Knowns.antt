-- The numbers of constants, and of operators that read them.
use Rattle.std.specs.Prelude.{◌≡◌, refl, ℕ, ◌+◌, ◌<◌, ◌≤◌, ◌==◌, ◌&&◌, Bool, true, false, List, [], ◌∷◌}
use Rattle.std.specs.Prelude.{length, Some, slice_get, slice_index, slice_index_or, if◌then◌else◌}
use Rattle.std.proofs.Common.{ap, sym, ◌∙◌, arith, subst, true≢false}
use Rattle.std.proofs.lemmas.Option.{slice_get-get_or}
use Rattle.fv_text.specs.declared.word.Word.{Word}
use Rattle.fv_text.specs.Word.{number}
use Rattle.wn_net.specs.declared.node.Node.{Node}
use Rattle.wn_net.specs.declared.node.Node.TheVariants as n
use Rattle.wn_net.specs.Width.{IsFitting}
use Rattle.wn_net.specs.Net.{Netlist, IsNet, shape_of, widths_of, values_of, width_at, value_at}
use Rattle.wn_net.specs.Changes.{value_in}
use Rattle.wn_net.proofs.Kept.{widths_of_small}
use Rattle.wn_net.proofs.Stays.{length-widths_of}
use Rattle.wn_opt.specs.Folding.{is_constant, is_known, are_known, reads_constants, nothing}
use Rattle.wn_opt.specs.Needed.{IsIn, operands}
use Rattle.wn_opt.specs.Sound.{IsNumberOf, one_value, two_value}
use Rattle.wn_opt.proofs.Before.{operands_there}
use Rattle.wn_opt.proofs.Folds.{konst_value, konst_width}

-- ---- one constant

pub konst_read : (nodes : List Node) (id : ℕ) (x : Node) (w : Word) → id < length nodes
    → x ≡ slice_index_or nodes id x → x ≡ n.Konst w → slice_get nodes id ≡ Some (n.Konst w)
konst_read nodes id x w less read e = slice_get-get_or nodes id x less ∙ ap Some (sym read ∙ e)

no_constant : (x : Node) → ((w : Word) → x ≡ n.Konst w → ⊥) → is_constant (Some x) ≡ false
no_constant (n.Konst w) not = absurd (not w refl)
no_constant x not = refl

pub other_read : (nodes : List Node) (id : ℕ) (x : Node) → id < length nodes → x ≡ slice_index_or nodes id x
    → ((w : Word) → x ≡ n.Konst w → ⊥) → is_constant (slice_get nodes id) ≡ false
other_read nodes id x less read not =
    ap is_constant (slice_get-get_or nodes id x less ∙ ap Some (sym read)) ∙ no_constant x not

module _ (net : Netlist) (whole : IsNet net) (a : ℕ) (x : Word) (e : slice_get net.nodes a ≡ Some (n.Konst x)) where
  is_so : is_known net a ≡ true
  is_so = ap is_constant e

  wide : slice_index (widths_of net) a ≡ x.width
  unfolding width_at
  wide = konst_width net a x whole e

  num : slice_index (values_of net nothing) a ≡ number x
  unfolding value_at
  num = konst_value net nothing a x whole e

-- ---- what a fitting node reads is there

pub first_there : (net : Netlist) (y : Node) (a : ℕ) (rest : List ℕ) → IsFitting (shape_of net) (widths_of net) y
    → operands y ≡ a ∷ rest → a < length net.nodes
first_there net y a rest fits e =
    let i : IsIn (operands y) a = (0, ap (λ xs. slice_get xs 0) e) in
    omega (arith, operands_there (shape_of net) (widths_of net) y fits a i, length-widths_of net)

pub second_there : (net : Netlist) (y : Node) (a b : ℕ) (rest : List ℕ)
    → IsFitting (shape_of net) (widths_of net) y → operands y ≡ a ∷ b ∷ rest → b < length net.nodes
second_there net y a b rest fits e =
    let i : IsIn (operands y) b = (1, ap (λ xs. slice_get xs 1) e) in
    omega (arith, operands_there (shape_of net) (widths_of net) y fits b i, length-widths_of net)

pub third_there : (net : Netlist) (y : Node) (a b c : ℕ) (rest : List ℕ)
    → IsFitting (shape_of net) (widths_of net) y → operands y ≡ a ∷ b ∷ c ∷ rest → c < length net.nodes
third_there net y a b c rest fits e =
    let i : IsIn (operands y) c = (2, ap (λ xs. slice_get xs 2) e) in
    omega (arith, operands_there (shape_of net) (widths_of net) y fits c i, length-widths_of net)

-- ---- which operators read how many nodes

pub none_read : (net : Netlist) (y : Node) → operands y ≡ [] → reads_constants net y ≡ false
none_read net (n.Konst w) e = refl
none_read net (n.Input i) e = refl
none_read net (n.Reg i) e = refl
none_read net (n.Read m p) e = cc
none_read net (n.Not p) e = cc
none_read net (n.And p q) e = cc
none_read net (n.Or p q) e = cc
none_read net (n.Xor p q) e = cc
none_read net (n.Add p q) e = cc
none_read net (n.Sub p q) e = cc
none_read net (n.Mul p q) e = cc
none_read net (n.Eq p q) e = cc
none_read net (n.Ult p q) e = cc
none_read net (n.Slt p q) e = cc
none_read net (n.Shl p q) e = cc
none_read net (n.Lshr p q) e = cc
none_read net (n.Ashr p q) e = cc
none_read net (n.Concat p q) e = cc
none_read net (n.Mux t p q) e = cc
none_read net (n.Slice p at w) e = cc
none_read net (n.Zext p w) e = cc
none_read net (n.Sext p w) e = cc

pub one_unknown : (net : Netlist) (y : Node) (a : ℕ) → operands y ≡ a ∷ [] → is_known net a ≡ false
    → reads_constants net y ≡ false
one_unknown net (n.Konst w) a e off = refl
one_unknown net (n.Input i) a e off = refl
one_unknown net (n.Reg i) a e off = refl
one_unknown net (n.Read m p) a e off = refl
one_unknown net (n.Not p) a e off = let s : p ≡ a = cc in ap (is_known net) s ∙ off
one_unknown net (n.And p q) a e off = cc
one_unknown net (n.Or p q) a e off = cc
one_unknown net (n.Xor p q) a e off = cc
one_unknown net (n.Add p q) a e off = cc
one_unknown net (n.Sub p q) a e off = cc
one_unknown net (n.Mul p q) a e off = cc
one_unknown net (n.Eq p q) a e off = cc
one_unknown net (n.Ult p q) a e off = cc
one_unknown net (n.Slt p q) a e off = cc
one_unknown net (n.Shl p q) a e off = cc
one_unknown net (n.Lshr p q) a e off = cc
one_unknown net (n.Ashr p q) a e off = cc
one_unknown net (n.Concat p q) a e off = cc
one_unknown net (n.Mux t p q) a e off = cc
one_unknown net (n.Slice p at w) a e off = let s : p ≡ a = cc in ap (is_known net) s ∙ off
one_unknown net (n.Zext p w) a e off = let s : p ≡ a = cc in ap (is_known net) s ∙ off
one_unknown net (n.Sext p w) a e off = let s : p ≡ a = cc in ap (is_known net) s ∙ off

pub one_number : (net : Netlist) (y : Node) (a : ℕ) (x : Word) → IsNet net → operands y ≡ a ∷ []
    → slice_get net.nodes a ≡ Some (n.Konst x) → IsNumberOf net y (one_value y x)
one_number net (n.Konst w) a x whole e k = cc
one_number net (n.Input i) a x whole e k = cc
one_number net (n.Reg i) a x whole e k = cc
one_number net (n.Read m p) a x whole e k = refl
one_number net (n.Not p) a x whole e k =
    let s : p ≡ a = cc in
    let P : ℕ → Type 0 = λ q. IsNumberOf net (n.Not q) (one_value (n.Not q) x) in
    subst P (sym s) (is_so net whole a x k, rw (wide net whole a x k, num net whole a x k) refl)
one_number net (n.And p q) a x whole e k = cc
one_number net (n.Or p q) a x whole e k = cc
one_number net (n.Xor p q) a x whole e k = cc
one_number net (n.Add p q) a x whole e k = cc
one_number net (n.Sub p q) a x whole e k = cc
one_number net (n.Mul p q) a x whole e k = cc
one_number net (n.Eq p q) a x whole e k = cc
one_number net (n.Ult p q) a x whole e k = cc
one_number net (n.Slt p q) a x whole e k = cc
one_number net (n.Shl p q) a x whole e k = cc
one_number net (n.Lshr p q) a x whole e k = cc
one_number net (n.Ashr p q) a x whole e k = cc
one_number net (n.Concat p q) a x whole e k = cc
one_number net (n.Mux t p q) a x whole e k = cc
one_number net (n.Slice p at w) a x whole e k =
    let s : p ≡ a = cc in
    let P : ℕ → Type 0 = λ q. IsNumberOf net (n.Slice q at w) (one_value (n.Slice q at w) x) in
    subst P (sym s) (is_so net whole a x k, rw (num net whole a x k) refl)
one_number net (n.Zext p w) a x whole e k =
    let s : p ≡ a = cc in
    let P : ℕ → Type 0 = λ q. IsNumberOf net (n.Zext q w) (one_value (n.Zext q w) x) in
    subst P (sym s) (is_so net whole a x k, sym (num net whole a x k))
one_number net (n.Sext p w) a x whole e k =
    let s : p ≡ a = cc in
    let P : ℕ → Type 0 = λ q. IsNumberOf net (n.Sext q w) (one_value (n.Sext q w) x) in
    subst P (sym s) (is_so net whole a x k, rw (wide net whole a x k, num net whole a x k) refl)

-- ---- two

both : (a b c d : Bool) → a ≡ c → b ≡ d → (a && b) ≡ (c && d)
both a b c d e f = λ i. e i && f i

pub two_reads : (net : Netlist) (y : Node) (a b : ℕ) → operands y ≡ a ∷ b ∷ []
    → reads_constants net y ≡ are_known net a b
two_reads net (n.Konst w) a b e = cc
two_reads net (n.Input i) a b e = cc
two_reads net (n.Reg i) a b e = cc
two_reads net (n.Read m p) a b e = cc
two_reads net (n.Not p) a b e = cc
two_reads net (n.And p q) a b e = let s : p ≡ a = cc in let t : q ≡ b = cc in λ i. are_known net (s i) (t i)
two_reads net (n.Or p q) a b e = let s : p ≡ a = cc in let t : q ≡ b = cc in λ i. are_known net (s i) (t i)
two_reads net (n.Xor p q) a b e = let s : p ≡ a = cc in let t : q ≡ b = cc in λ i. are_known net (s i) (t i)
two_reads net (n.Add p q) a b e = let s : p ≡ a = cc in let t : q ≡ b = cc in λ i. are_known net (s i) (t i)
two_reads net (n.Sub p q) a b e = let s : p ≡ a = cc in let t : q ≡ b = cc in λ i. are_known net (s i) (t i)
two_reads net (n.Mul p q) a b e = let s : p ≡ a = cc in let t : q ≡ b = cc in λ i. are_known net (s i) (t i)
two_reads net (n.Eq p q) a b e = let s : p ≡ a = cc in let t : q ≡ b = cc in λ i. are_known net (s i) (t i)
two_reads net (n.Ult p q) a b e = let s : p ≡ a = cc in let t : q ≡ b = cc in λ i. are_known net (s i) (t i)
two_reads net (n.Slt p q) a b e = let s : p ≡ a = cc in let t : q ≡ b = cc in λ i. are_known net (s i) (t i)
two_reads net (n.Shl p q) a b e = let s : p ≡ a = cc in let t : q ≡ b = cc in λ i. are_known net (s i) (t i)
two_reads net (n.Lshr p q) a b e = let s : p ≡ a = cc in let t : q ≡ b = cc in λ i. are_known net (s i) (t i)
two_reads net (n.Ashr p q) a b e = let s : p ≡ a = cc in let t : q ≡ b = cc in λ i. are_known net (s i) (t i)
two_reads net (n.Concat p q) a b e = let s : p ≡ a = cc in let t : q ≡ b = cc in λ i. are_known net (s i) (t i)
two_reads net (n.Mux t p q) a b e = cc
two_reads net (n.Slice p at w) a b e = cc
two_reads net (n.Zext p w) a b e = cc
two_reads net (n.Sext p w) a b e = cc

-- the value where operands are in the list in their order
module _ (net : Netlist) (whole : IsNet net) (a b : ℕ) (x y : Word) (k : slice_get net.nodes a ≡ Some (n.Konst x))
    (l : slice_get net.nodes b ≡ Some (n.Konst y)) where
  abbrev IsValue : Node → Type 0
  IsValue z = two_value z x y ≡ value_in net nothing z

  w1 : slice_index (widths_of net) a ≡ x.width
  w1 = wide net whole a x k

  w2 : slice_index (widths_of net) b ≡ y.width
  w2 = wide net whole b y l

  v1 : slice_index (values_of net nothing) a ≡ number x
  v1 = num net whole a x k

  v2 : slice_index (values_of net nothing) b ≡ number y
  v2 = num net whole b y l

  pub two_number : (z : Node) → operands z ≡ a ∷ b ∷ [] → IsValue z
  two_number (n.Konst w) e = cc
  two_number (n.Input i) e = cc
  two_number (n.Reg i) e = cc
  two_number (n.Read m p) e = cc
  two_number (n.Not p) e = cc
  two_number (n.And p q) e =
      let s : p ≡ a = cc in
      let t : q ≡ b = cc in
      let here : IsValue (n.And a b) = rw (v1, v2) refl in
      subst (λ r. IsValue (n.And r q)) (sym s) (subst (λ r. IsValue (n.And a r)) (sym t) here)
  two_number (n.Or p q) e =
      let s : p ≡ a = cc in
      let t : q ≡ b = cc in
      let here : IsValue (n.Or a b) = rw (v1, v2) refl in
      subst (λ r. IsValue (n.Or r q)) (sym s) (subst (λ r. IsValue (n.Or a r)) (sym t) here)
  two_number (n.Xor p q) e =
      let s : p ≡ a = cc in
      let t : q ≡ b = cc in
      let here : IsValue (n.Xor a b) = rw (v1, v2) refl in
      subst (λ r. IsValue (n.Xor r q)) (sym s) (subst (λ r. IsValue (n.Xor a r)) (sym t) here)
  two_number (n.Add p q) e =
      let s : p ≡ a = cc in
      let t : q ≡ b = cc in
      let here : IsValue (n.Add a b) = rw (w1, v1, v2) refl in
      subst (λ r. IsValue (n.Add r q)) (sym s) (subst (λ r. IsValue (n.Add a r)) (sym t) here)
  two_number (n.Sub p q) e =
      let s : p ≡ a = cc in
      let t : q ≡ b = cc in
      let here : IsValue (n.Sub a b) = rw (w1, v1, v2) refl in
      subst (λ r. IsValue (n.Sub r q)) (sym s) (subst (λ r. IsValue (n.Sub a r)) (sym t) here)
  two_number (n.Mul p q) e =
      let s : p ≡ a = cc in
      let t : q ≡ b = cc in
      let here : IsValue (n.Mul a b) = rw (w1, v1, v2) refl in
      subst (λ r. IsValue (n.Mul r q)) (sym s) (subst (λ r. IsValue (n.Mul a r)) (sym t) here)
  two_number (n.Eq p q) e =
      let s : p ≡ a = cc in
      let t : q ≡ b = cc in
      let here : IsValue (n.Eq a b) = rw (v1, v2) refl in
      subst (λ r. IsValue (n.Eq r q)) (sym s) (subst (λ r. IsValue (n.Eq a r)) (sym t) here)
  two_number (n.Ult p q) e =
      let s : p ≡ a = cc in
      let t : q ≡ b = cc in
      let here : IsValue (n.Ult a b) = rw (v1, v2) refl in
      subst (λ r. IsValue (n.Ult r q)) (sym s) (subst (λ r. IsValue (n.Ult a r)) (sym t) here)
  two_number (n.Slt p q) e =
      let s : p ≡ a = cc in
      let t : q ≡ b = cc in
      let here : IsValue (n.Slt a b) = rw (w1, v1, v2) refl in
      subst (λ r. IsValue (n.Slt r q)) (sym s) (subst (λ r. IsValue (n.Slt a r)) (sym t) here)
  two_number (n.Shl p q) e =
      let s : p ≡ a = cc in
      let t : q ≡ b = cc in
      let here : IsValue (n.Shl a b) = rw (w1, v1, v2) refl in
      subst (λ r. IsValue (n.Shl r q)) (sym s) (subst (λ r. IsValue (n.Shl a r)) (sym t) here)
  two_number (n.Lshr p q) e =
      let s : p ≡ a = cc in
      let t : q ≡ b = cc in
      let here : IsValue (n.Lshr a b) = rw (v1, v2) refl in
      subst (λ r. IsValue (n.Lshr r q)) (sym s) (subst (λ r. IsValue (n.Lshr a r)) (sym t) here)
  two_number (n.Ashr p q) e =
      let s : p ≡ a = cc in
      let t : q ≡ b = cc in
      let here : IsValue (n.Ashr a b) = rw (w1, v1, v2) refl in
      subst (λ r. IsValue (n.Ashr r q)) (sym s) (subst (λ r. IsValue (n.Ashr a r)) (sym t) here)
  two_number (n.Concat p q) e =
      let s : p ≡ a = cc in
      let t : q ≡ b = cc in
      let here : IsValue (n.Concat a b) = rw (w2, v1, v2) refl in
      subst (λ r. IsValue (n.Concat r q)) (sym s) (subst (λ r. IsValue (n.Concat a r)) (sym t) here)
  two_number (n.Mux t p q) e = cc
  two_number (n.Slice p at w) e = cc
  two_number (n.Zext p w) e = cc
  two_number (n.Sext p w) e = cc

-- ---- widths of two constants

abbrev pub has_alike : Node → Bool
has_alike (n.Sub a b) = true
has_alike (n.Slt a b) = true
has_alike x = false

abbrev pub is_joined : Node → Bool
is_joined (n.Concat a b) = true
is_joined x = false

module _ (net : Netlist) (whole : IsNet net) (a b : ℕ) (x y : Word) (k : slice_get net.nodes a ≡ Some (n.Konst x))
    (l : slice_get net.nodes b ≡ Some (n.Konst y)) where
  pub alike_width : (z : Node) → has_alike z ≡ true → operands z ≡ a ∷ b ∷ []
      → IsFitting (shape_of net) (widths_of net) z → y.width ≡ x.width
  alike_width (n.Sub p q) h e fits =
      let s : p ≡ a = cc in
      let t : q ≡ b = cc in
      sym (wide net whole b y l) ∙ ap (slice_index (widths_of net)) (sym t) ∙ sym fits.2
      ∙ ap (slice_index (widths_of net)) s ∙ wide net whole a x k
  alike_width (n.Slt p q) h e fits =
      let s : p ≡ a = cc in
      let t : q ≡ b = cc in
      sym (wide net whole b y l) ∙ ap (slice_index (widths_of net)) (sym t) ∙ sym fits.2
      ∙ ap (slice_index (widths_of net)) s ∙ wide net whole a x k
  alike_width z h e fits = absurd (true≢false (sym h))

  pub joined_width : (z : Node) → is_joined z ≡ true → operands z ≡ a ∷ b ∷ []
      → IsFitting (shape_of net) (widths_of net) z → x.width + y.width ≤ 128
  joined_width (n.Concat p q) h e fits =
      let s : p ≡ a = cc in
      let t : q ≡ b = cc in
      let first : slice_index (widths_of net) p ≡ x.width =
      ap (slice_index (widths_of net)) s ∙ wide net whole a x k in
      let second : slice_index (widths_of net) q ≡ y.width =
      ap (slice_index (widths_of net)) t ∙ wide net whole b y l in
      omega (arith, first, second, fits.2)
  joined_width z h e fits = absurd (true≢false (sym h))

-- ---- a choice of constants

pub three_reads : (net : Netlist) (z : Node) (c a b : ℕ) → operands z ≡ c ∷ a ∷ b ∷ []
    → reads_constants net z ≡ (is_known net c && are_known net a b)
three_reads net (n.Konst w) c a b e = cc
three_reads net (n.Input i) c a b e = cc
three_reads net (n.Reg i) c a b e = cc
three_reads net (n.Read m p) c a b e = cc
three_reads net (n.Not p) c a b e = cc
three_reads net (n.And p q) c a b e = cc
three_reads net (n.Or p q) c a b e = cc
three_reads net (n.Xor p q) c a b e = cc
three_reads net (n.Add p q) c a b e = cc
three_reads net (n.Sub p q) c a b e = cc
three_reads net (n.Mul p q) c a b e = cc
three_reads net (n.Eq p q) c a b e = cc
three_reads net (n.Ult p q) c a b e = cc
three_reads net (n.Slt p q) c a b e = cc
three_reads net (n.Shl p q) c a b e = cc
three_reads net (n.Lshr p q) c a b e = cc
three_reads net (n.Ashr p q) c a b e = cc
three_reads net (n.Concat p q) c a b e = cc
three_reads net (n.Mux t p q) c a b e =
    let s : t ≡ c = cc in
    let u : p ≡ a = cc in
    let v : q ≡ b = cc in
    λ i. is_known net (s i) && are_known net (u i) (v i)
three_reads net (n.Slice p at w) c a b e = cc
three_reads net (n.Zext p w) c a b e = cc
three_reads net (n.Sext p w) c a b e = cc

module _ (net : Netlist) (whole : IsNet net) (c a b : ℕ) (t x y : Word)
    (j : slice_get net.nodes c ≡ Some (n.Konst t)) (k : slice_get net.nodes a ≡ Some (n.Konst x))
    (l : slice_get net.nodes b ≡ Some (n.Konst y)) where
  abbrev IsChoice : Node → Type 0
  IsChoice z = (if number t == 1 then number x else number y) ≡ value_in net nothing z

  v0 : slice_index (values_of net nothing) c ≡ number t
  v0 = num net whole c t j

  vx : slice_index (values_of net nothing) a ≡ number x
  vx = num net whole a x k

  vy : slice_index (values_of net nothing) b ≡ number y
  vy = num net whole b y l

  pub three_number : (z : Node) → operands z ≡ c ∷ a ∷ b ∷ [] → IsChoice z
  three_number (n.Konst w) e = cc
  three_number (n.Input i) e = cc
  three_number (n.Reg i) e = cc
  three_number (n.Read m p) e = cc
  three_number (n.Not p) e = cc
  three_number (n.And p q) e = cc
  three_number (n.Or p q) e = cc
  three_number (n.Xor p q) e = cc
  three_number (n.Add p q) e = cc
  three_number (n.Sub p q) e = cc
  three_number (n.Mul p q) e = cc
  three_number (n.Eq p q) e = cc
  three_number (n.Ult p q) e = cc
  three_number (n.Slt p q) e = cc
  three_number (n.Shl p q) e = cc
  three_number (n.Lshr p q) e = cc
  three_number (n.Ashr p q) e = cc
  three_number (n.Concat p q) e = cc
  three_number (n.Mux r p q) e =
      let s : r ≡ c = cc in
      let u : p ≡ a = cc in
      let v : q ≡ b = cc in
      let here : IsChoice (n.Mux c a b) = rw (v0, vx, vy) refl in
      subst (λ d. IsChoice (n.Mux d p q)) (sym s)
      (subst (λ d. IsChoice (n.Mux c d q)) (sym u) (subst (λ d. IsChoice (n.Mux c a d)) (sym v) here))
  three_number (n.Slice p at w) e = cc
  three_number (n.Zext p w) e = cc
  three_number (n.Sext p w) e = cc

pub not_all : (a b : Bool) → a ≡ false → (a && b) ≡ false
not_all a b e = ap (λ c. c && b) e

pub not_last : (a b : Bool) → b ≡ false → (a && b) ≡ false
not_last true b e = e
not_last false b e = refl

pub all_true : (a b : Bool) → a ≡ true → b ≡ true → (a && b) ≡ true
all_true a b e f = ap (λ c. c && b) e ∙ f

-- ---- what the operators on numbers want

pub few_bits_at : (net : Netlist) (a : ℕ) → IsNet net → a < length net.nodes → slice_index (widths_of net) a ≤ 128
few_bits_at net a whole less = (widths_of_small net whole a (omega (arith, less, length-widths_of net))).1

pub slice_few : (net : Netlist) (z : Node) (p low w a : ℕ) → IsNet net → z ≡ n.Slice p low w → operands z ≡ a ∷ []
    → IsFitting (shape_of net) (widths_of net) z → w ≤ 128
slice_few net z p low w a whole is e fits =
    let own = subst (IsFitting (shape_of net) (widths_of net)) is fits in
    let less = first_there net z a [] fits e in
    let few = (widths_of_small net whole p own.0).1 in
    omega (arith, own.2, few)

pub sext_wider : (net : Netlist) (z : Node) (p w a : ℕ) (x : Word) → IsNet net → z ≡ n.Sext p w → operands z ≡ a ∷ []
    → IsFitting (shape_of net) (widths_of net) z → slice_get net.nodes a ≡ Some (n.Konst x) → x.width ≤ w
sext_wider net z p w a x whole is e fits k =
    let own = subst (IsFitting (shape_of net) (widths_of net)) is fits in
    let s : p ≡ a = one_operand net z p w a is e in
    let same : slice_index (widths_of net) p ≡ x.width = ap (slice_index (widths_of net)) s ∙ wide net whole a x k in
    omega (arith, own.1, same)
  where
    one_operand : (net : Netlist) (z : Node) (p w a : ℕ) → z ≡ n.Sext p w → operands z ≡ a ∷ [] → p ≡ a
    one_operand net z p w a is e =
        let f : (p ∷ []) ≡ (a ∷ []) = sym (ap operands is) ∙ e in
        cc

pub sext_few : (net : Netlist) (z : Node) (p w : ℕ) → z ≡ n.Sext p w → IsFitting (shape_of net) (widths_of net) z
    → w ≤ 128
sext_few net z p w is fits = (subst (IsFitting (shape_of net) (widths_of net)) is fits).2
