-- A node of each kind that is built as a copy.
use Rattle.std.specs.Prelude.{◌≡◌, refl, ℕ, ◌+◌, ◌<◌, ◌==◌, nat_lt, bit_and, bit_or, bit_xor}
use Rattle.std.specs.Prelude.{if◌then◌else◌, List}
use Rattle.std.specs.Prelude.{length, slice_index, slice_index_or, map}
use Rattle.std.proofs.Common.{ap, sym, ◌∙◌, arith, subst}
use Rattle.std.proofs.lemmas.List.{length-map, length_push}
use Rattle.fv_text.specs.Word.{number}
use Rattle.fv_text.specs.declared.word.Word.{Word}
use Rattle.fv_bits.specs.Bits as bits
use Rattle.wn_net.specs.declared.node.Node.{Node}
use Rattle.wn_net.specs.declared.node.Node.TheVariants as n
use Rattle.wn_net.specs.Width.{IsFitting}
use Rattle.wn_net.specs.Value.{Given, word_at, words_at}
use Rattle.wn_net.specs.Given.{IsGiven}
use Rattle.wn_net.specs.Net.{Netlist, IsNodeOf, width_at, value_at}
use Rattle.wn_net.specs.Changes.{Builds}
use Rattle.bm_unroll.specs.declared.state.StateNodes.{StateNodes}
use Rattle.bm_unroll.specs.Memories.{memory_numbers, memory_width}
use Rattle.bm_unroll.specs.Cycle.{Copies, IsCopyable, shape_by, widths_at}
use Rattle.bm_unroll.proofs.Copying.{copies_one, copies_two, node_in, number_here, width_here}

pub copies_not : (old new : Netlist) (inputs : List ℕ) (state : StateNodes) (table : List ℕ) (x : Node) (a d id :
    ℕ)
    → x ≡ n.Not a → IsCopyable old inputs state table x
    → Builds old new (n.Not (slice_index_or table a d)) (width_at old (slice_index_or table a d))
    (λ g. bits.complement (width_at old (slice_index_or table a d)) (value_at old g (slice_index_or table a d))) id
    → Copies old new inputs state table x id
copies_not old new inputs state table x a d id is own h =
    let P : Node → Type 0 = λ y. IsFitting (shape_by old inputs state) (widths_at old table) y in
    let Q : Node → Type 0 = λ y. Copies old new inputs state table y id in
    let fits : IsFitting (shape_by old inputs state) (widths_at old table) (n.Not a) = subst P is own.fits in
    subst Q (sym is)
    (copies_one old new inputs state table a d id (n.Not a) (n.Not (slice_index_or table a d)) (λ v. v) (λ v s.
    bits.complement v s) fits h refl (λ g. refl))

pub copies_slice : (old new : Netlist) (inputs : List ℕ) (state : StateNodes) (table : List ℕ) (x : Node) (a low w
    d id : ℕ)
    → x ≡ n.Slice a low w → IsCopyable old inputs state table x
    → Builds old new (n.Slice (slice_index_or table a d) low w) (w)
    (λ g. bits.part low w (value_at old g (slice_index_or table a d))) id
    → Copies old new inputs state table x id
copies_slice old new inputs state table x a low w d id is own h =
    let P : Node → Type 0 = λ y. IsFitting (shape_by old inputs state) (widths_at old table) y in
    let Q : Node → Type 0 = λ y. Copies old new inputs state table y id in
    let fits : IsFitting (shape_by old inputs state) (widths_at old table) (n.Slice a low w) = subst P is own.fits in
    subst Q (sym is)
    (copies_one old new inputs state table a d id (n.Slice a low w) (n.Slice (slice_index_or table a d) low w) (λ v.
    w) (λ v s. bits.part low w s) fits.0 h refl (λ g. refl))

pub copies_zext : (old new : Netlist) (inputs : List ℕ) (state : StateNodes) (table : List ℕ) (x : Node) (a w d id
    : ℕ)
    → x ≡ n.Zext a w → IsCopyable old inputs state table x
    → Builds old new (n.Zext (slice_index_or table a d) w) (w)
    (λ g. value_at old g (slice_index_or table a d)) id
    → Copies old new inputs state table x id
copies_zext old new inputs state table x a w d id is own h =
    let P : Node → Type 0 = λ y. IsFitting (shape_by old inputs state) (widths_at old table) y in
    let Q : Node → Type 0 = λ y. Copies old new inputs state table y id in
    let fits : IsFitting (shape_by old inputs state) (widths_at old table) (n.Zext a w) = subst P is own.fits in
    subst Q (sym is)
    (copies_one old new inputs state table a d id (n.Zext a w) (n.Zext (slice_index_or table a d) w) (λ v. w) (λ v
    s. s) fits.0 h refl (λ g. refl))

pub copies_sext : (old new : Netlist) (inputs : List ℕ) (state : StateNodes) (table : List ℕ) (x : Node) (a w d id
    : ℕ)
    → x ≡ n.Sext a w → IsCopyable old inputs state table x
    → Builds old new (n.Sext (slice_index_or table a d) w) (w)
    (λ g. bits.sign_extended (width_at old (slice_index_or table a d)) w (value_at old g (slice_index_or table a d)))
    id
    → Copies old new inputs state table x id
copies_sext old new inputs state table x a w d id is own h =
    let P : Node → Type 0 = λ y. IsFitting (shape_by old inputs state) (widths_at old table) y in
    let Q : Node → Type 0 = λ y. Copies old new inputs state table y id in
    let fits : IsFitting (shape_by old inputs state) (widths_at old table) (n.Sext a w) = subst P is own.fits in
    subst Q (sym is)
    (copies_one old new inputs state table a d id (n.Sext a w) (n.Sext (slice_index_or table a d) w) (λ v. w) (λ v
    s. bits.sign_extended v w s) fits.0 h refl (λ g. refl))

pub copies_and : (old new : Netlist) (inputs : List ℕ) (state : StateNodes) (table : List ℕ) (x : Node) (a b d e
    id : ℕ)
    → x ≡ n.And a b → IsCopyable old inputs state table x
    → Builds old new (n.And (slice_index_or table a d) (slice_index_or table b e)) (width_at old (slice_index_or
    table a d))
    (λ g. bit_and (value_at old g (slice_index_or table a d)) (value_at old g (slice_index_or table b e))) id
    → Copies old new inputs state table x id
copies_and old new inputs state table x a b d e id is own h =
    let P : Node → Type 0 = λ y. IsFitting (shape_by old inputs state) (widths_at old table) y in
    let Q : Node → Type 0 = λ y. Copies old new inputs state table y id in
    let fits : IsFitting (shape_by old inputs state) (widths_at old table) (n.And a b) = subst P is own.fits in
    subst Q (sym is)
    (copies_two old new inputs state table a b d e id (n.And a b) (n.And (slice_index_or table a d) (slice_index_or
    table b e)) (λ v w. v)
    (λ v w s t. bit_and s t) fits.0 fits.1 h refl (λ g. refl))

pub copies_or : (old new : Netlist) (inputs : List ℕ) (state : StateNodes) (table : List ℕ) (x : Node) (a b d e id
    : ℕ)
    → x ≡ n.Or a b → IsCopyable old inputs state table x
    → Builds old new (n.Or (slice_index_or table a d) (slice_index_or table b e)) (width_at old (slice_index_or
    table a d))
    (λ g. bit_or (value_at old g (slice_index_or table a d)) (value_at old g (slice_index_or table b e))) id
    → Copies old new inputs state table x id
copies_or old new inputs state table x a b d e id is own h =
    let P : Node → Type 0 = λ y. IsFitting (shape_by old inputs state) (widths_at old table) y in
    let Q : Node → Type 0 = λ y. Copies old new inputs state table y id in
    let fits : IsFitting (shape_by old inputs state) (widths_at old table) (n.Or a b) = subst P is own.fits in
    subst Q (sym is)
    (copies_two old new inputs state table a b d e id (n.Or a b) (n.Or (slice_index_or table a d) (slice_index_or
    table b e)) (λ v w. v)
    (λ v w s t. bit_or s t) fits.0 fits.1 h refl (λ g. refl))

pub copies_xor : (old new : Netlist) (inputs : List ℕ) (state : StateNodes) (table : List ℕ) (x : Node) (a b d e
    id : ℕ)
    → x ≡ n.Xor a b → IsCopyable old inputs state table x
    → Builds old new (n.Xor (slice_index_or table a d) (slice_index_or table b e)) (width_at old (slice_index_or
    table a d))
    (λ g. bit_xor (value_at old g (slice_index_or table a d)) (value_at old g (slice_index_or table b e))) id
    → Copies old new inputs state table x id
copies_xor old new inputs state table x a b d e id is own h =
    let P : Node → Type 0 = λ y. IsFitting (shape_by old inputs state) (widths_at old table) y in
    let Q : Node → Type 0 = λ y. Copies old new inputs state table y id in
    let fits : IsFitting (shape_by old inputs state) (widths_at old table) (n.Xor a b) = subst P is own.fits in
    subst Q (sym is)
    (copies_two old new inputs state table a b d e id (n.Xor a b) (n.Xor (slice_index_or table a d) (slice_index_or
    table b e)) (λ v w. v)
    (λ v w s t. bit_xor s t) fits.0 fits.1 h refl (λ g. refl))

pub copies_add : (old new : Netlist) (inputs : List ℕ) (state : StateNodes) (table : List ℕ) (x : Node) (a b d e
    id : ℕ)
    → x ≡ n.Add a b → IsCopyable old inputs state table x
    → Builds old new (n.Add (slice_index_or table a d) (slice_index_or table b e)) (width_at old (slice_index_or
    table a d))
    (λ g. bits.sum (width_at old (slice_index_or table a d)) (value_at old g (slice_index_or table a d)) (value_at
    old g (slice_index_or table b e))) id
    → Copies old new inputs state table x id
copies_add old new inputs state table x a b d e id is own h =
    let P : Node → Type 0 = λ y. IsFitting (shape_by old inputs state) (widths_at old table) y in
    let Q : Node → Type 0 = λ y. Copies old new inputs state table y id in
    let fits : IsFitting (shape_by old inputs state) (widths_at old table) (n.Add a b) = subst P is own.fits in
    subst Q (sym is)
    (copies_two old new inputs state table a b d e id (n.Add a b) (n.Add (slice_index_or table a d) (slice_index_or
    table b e)) (λ v w. v)
    (λ v w s t. bits.sum v s t) fits.0 fits.1 h refl (λ g. refl))

pub copies_sub : (old new : Netlist) (inputs : List ℕ) (state : StateNodes) (table : List ℕ) (x : Node) (a b d e
    id : ℕ)
    → x ≡ n.Sub a b → IsCopyable old inputs state table x
    → Builds old new (n.Sub (slice_index_or table a d) (slice_index_or table b e)) (width_at old (slice_index_or
    table a d))
    (λ g. bits.difference (width_at old (slice_index_or table a d)) (value_at old g (slice_index_or table a d))
    (value_at old g (slice_index_or table b e))) id
    → Copies old new inputs state table x id
copies_sub old new inputs state table x a b d e id is own h =
    let P : Node → Type 0 = λ y. IsFitting (shape_by old inputs state) (widths_at old table) y in
    let Q : Node → Type 0 = λ y. Copies old new inputs state table y id in
    let fits : IsFitting (shape_by old inputs state) (widths_at old table) (n.Sub a b) = subst P is own.fits in
    subst Q (sym is)
    (copies_two old new inputs state table a b d e id (n.Sub a b) (n.Sub (slice_index_or table a d) (slice_index_or
    table b e)) (λ v w. v)
    (λ v w s t. bits.difference v s t) fits.0 fits.1 h refl (λ g. refl))

pub copies_mul : (old new : Netlist) (inputs : List ℕ) (state : StateNodes) (table : List ℕ) (x : Node) (a b d e
    id : ℕ)
    → x ≡ n.Mul a b → IsCopyable old inputs state table x
    → Builds old new (n.Mul (slice_index_or table a d) (slice_index_or table b e)) (width_at old (slice_index_or
    table a d))
    (λ g. bits.product (width_at old (slice_index_or table a d)) (value_at old g (slice_index_or table a d))
    (value_at old g (slice_index_or table b e))) id
    → Copies old new inputs state table x id
copies_mul old new inputs state table x a b d e id is own h =
    let P : Node → Type 0 = λ y. IsFitting (shape_by old inputs state) (widths_at old table) y in
    let Q : Node → Type 0 = λ y. Copies old new inputs state table y id in
    let fits : IsFitting (shape_by old inputs state) (widths_at old table) (n.Mul a b) = subst P is own.fits in
    subst Q (sym is)
    (copies_two old new inputs state table a b d e id (n.Mul a b) (n.Mul (slice_index_or table a d) (slice_index_or
    table b e)) (λ v w. v)
    (λ v w s t. bits.product v s t) fits.0 fits.1 h refl (λ g. refl))

pub copies_eq : (old new : Netlist) (inputs : List ℕ) (state : StateNodes) (table : List ℕ) (x : Node) (a b d e id
    : ℕ)
    → x ≡ n.Eq a b → IsCopyable old inputs state table x
    → Builds old new (n.Eq (slice_index_or table a d) (slice_index_or table b e)) (1)
    (λ g. bits.bit (value_at old g (slice_index_or table a d) == value_at old g (slice_index_or table b e))) id
    → Copies old new inputs state table x id
copies_eq old new inputs state table x a b d e id is own h =
    let P : Node → Type 0 = λ y. IsFitting (shape_by old inputs state) (widths_at old table) y in
    let Q : Node → Type 0 = λ y. Copies old new inputs state table y id in
    let fits : IsFitting (shape_by old inputs state) (widths_at old table) (n.Eq a b) = subst P is own.fits in
    subst Q (sym is)
    (copies_two old new inputs state table a b d e id (n.Eq a b) (n.Eq (slice_index_or table a d) (slice_index_or
    table b e)) (λ v w. 1)
    (λ v w s t. bits.bit (s == t)) fits.0 fits.1 h refl (λ g. refl))

pub copies_ult : (old new : Netlist) (inputs : List ℕ) (state : StateNodes) (table : List ℕ) (x : Node) (a b d e
    id : ℕ)
    → x ≡ n.Ult a b → IsCopyable old inputs state table x
    → Builds old new (n.Ult (slice_index_or table a d) (slice_index_or table b e)) (1)
    (λ g. bits.bit (nat_lt (value_at old g (slice_index_or table a d)) (value_at old g (slice_index_or table b e)))) id
    → Copies old new inputs state table x id
copies_ult old new inputs state table x a b d e id is own h =
    let P : Node → Type 0 = λ y. IsFitting (shape_by old inputs state) (widths_at old table) y in
    let Q : Node → Type 0 = λ y. Copies old new inputs state table y id in
    let fits : IsFitting (shape_by old inputs state) (widths_at old table) (n.Ult a b) = subst P is own.fits in
    subst Q (sym is)
    (copies_two old new inputs state table a b d e id (n.Ult a b) (n.Ult (slice_index_or table a d) (slice_index_or
    table b e)) (λ v w. 1)
    (λ v w s t. bits.bit (nat_lt s t)) fits.0 fits.1 h refl (λ g. refl))

pub copies_slt : (old new : Netlist) (inputs : List ℕ) (state : StateNodes) (table : List ℕ) (x : Node) (a b d e
    id : ℕ)
    → x ≡ n.Slt a b → IsCopyable old inputs state table x
    → Builds old new (n.Slt (slice_index_or table a d) (slice_index_or table b e)) (1)
    (λ g. bits.bit (bits.is_less_signed (width_at old (slice_index_or table a d)) (value_at old g (slice_index_or
    table a d)) (value_at old g (slice_index_or table b e)))) id
    → Copies old new inputs state table x id
copies_slt old new inputs state table x a b d e id is own h =
    let P : Node → Type 0 = λ y. IsFitting (shape_by old inputs state) (widths_at old table) y in
    let Q : Node → Type 0 = λ y. Copies old new inputs state table y id in
    let fits : IsFitting (shape_by old inputs state) (widths_at old table) (n.Slt a b) = subst P is own.fits in
    subst Q (sym is)
    (copies_two old new inputs state table a b d e id (n.Slt a b) (n.Slt (slice_index_or table a d) (slice_index_or
    table b e)) (λ v w. 1)
    (λ v w s t. bits.bit (bits.is_less_signed v s t)) fits.0 fits.1 h refl (λ g. refl))

pub copies_shl : (old new : Netlist) (inputs : List ℕ) (state : StateNodes) (table : List ℕ) (x : Node) (a b d e
    id : ℕ)
    → x ≡ n.Shl a b → IsCopyable old inputs state table x
    → Builds old new (n.Shl (slice_index_or table a d) (slice_index_or table b e)) (width_at old (slice_index_or
    table a d))
    (λ g. bits.shifted_left (width_at old (slice_index_or table a d)) (value_at old g (slice_index_or table a d))
    (value_at old g (slice_index_or table b e))) id
    → Copies old new inputs state table x id
copies_shl old new inputs state table x a b d e id is own h =
    let P : Node → Type 0 = λ y. IsFitting (shape_by old inputs state) (widths_at old table) y in
    let Q : Node → Type 0 = λ y. Copies old new inputs state table y id in
    let fits : IsFitting (shape_by old inputs state) (widths_at old table) (n.Shl a b) = subst P is own.fits in
    subst Q (sym is)
    (copies_two old new inputs state table a b d e id (n.Shl a b) (n.Shl (slice_index_or table a d) (slice_index_or
    table b e)) (λ v w. v)
    (λ v w s t. bits.shifted_left v s t) fits.0 fits.1 h refl (λ g. refl))

pub copies_lshr : (old new : Netlist) (inputs : List ℕ) (state : StateNodes) (table : List ℕ) (x : Node) (a b d e
    id : ℕ)
    → x ≡ n.Lshr a b → IsCopyable old inputs state table x
    → Builds old new (n.Lshr (slice_index_or table a d) (slice_index_or table b e)) (width_at old (slice_index_or
    table a d))
    (λ g. bits.shifted_right (value_at old g (slice_index_or table a d)) (value_at old g (slice_index_or table b e)))
    id
    → Copies old new inputs state table x id
copies_lshr old new inputs state table x a b d e id is own h =
    let P : Node → Type 0 = λ y. IsFitting (shape_by old inputs state) (widths_at old table) y in
    let Q : Node → Type 0 = λ y. Copies old new inputs state table y id in
    let fits : IsFitting (shape_by old inputs state) (widths_at old table) (n.Lshr a b) = subst P is own.fits in
    subst Q (sym is)
    (copies_two old new inputs state table a b d e id (n.Lshr a b) (n.Lshr (slice_index_or table a d) (slice_index_or
    table b e)) (λ v w. v)
    (λ v w s t. bits.shifted_right s t) fits.0 fits.1 h refl (λ g. refl))

pub copies_ashr : (old new : Netlist) (inputs : List ℕ) (state : StateNodes) (table : List ℕ) (x : Node) (a b d e
    id : ℕ)
    → x ≡ n.Ashr a b → IsCopyable old inputs state table x
    → Builds old new (n.Ashr (slice_index_or table a d) (slice_index_or table b e)) (width_at old (slice_index_or
    table a d))
    (λ g. bits.arithmetic_right (width_at old (slice_index_or table a d)) (value_at old g (slice_index_or table a d))
    (value_at old g (slice_index_or table b e))) id
    → Copies old new inputs state table x id
copies_ashr old new inputs state table x a b d e id is own h =
    let P : Node → Type 0 = λ y. IsFitting (shape_by old inputs state) (widths_at old table) y in
    let Q : Node → Type 0 = λ y. Copies old new inputs state table y id in
    let fits : IsFitting (shape_by old inputs state) (widths_at old table) (n.Ashr a b) = subst P is own.fits in
    subst Q (sym is)
    (copies_two old new inputs state table a b d e id (n.Ashr a b) (n.Ashr (slice_index_or table a d) (slice_index_or
    table b e)) (λ v w. v)
    (λ v w s t. bits.arithmetic_right v s t) fits.0 fits.1 h refl (λ g. refl))

pub copies_concat : (old new : Netlist) (inputs : List ℕ) (state : StateNodes) (table : List ℕ) (x : Node) (a b d
    e id : ℕ)
    → x ≡ n.Concat a b → IsCopyable old inputs state table x
    → Builds old new (n.Concat (slice_index_or table a d) (slice_index_or table b e)) (width_at old (slice_index_or
    table a d) + width_at old (slice_index_or table b e))
    (λ g. bits.joined (width_at old (slice_index_or table b e)) (value_at old g (slice_index_or table a d)) (value_at
    old g (slice_index_or table b e))) id
    → Copies old new inputs state table x id
copies_concat old new inputs state table x a b d e id is own h =
    let P : Node → Type 0 = λ y. IsFitting (shape_by old inputs state) (widths_at old table) y in
    let Q : Node → Type 0 = λ y. Copies old new inputs state table y id in
    let fits : IsFitting (shape_by old inputs state) (widths_at old table) (n.Concat a b) = subst P is own.fits in
    subst Q (sym is)
    (copies_two old new inputs state table a b d e id (n.Concat a b) (n.Concat (slice_index_or table a d)
    (slice_index_or table b e)) (λ v w. v + w)
    (λ v w s t. bits.joined w s t) fits.0 fits.1 h refl (λ g. refl))

pub copies_konst : (old new : Netlist) (inputs : List ℕ) (state : StateNodes) (table : List ℕ) (x : Node) (word :
    Word) (id : ℕ)
    → x ≡ n.Konst word → Builds old new (n.Konst word) word.width (λ g. number word) id
    → Copies old new inputs state table x id
copies_konst old new inputs state table x word id is h =
    let Q : Node → Type 0 = λ y. Copies old new inputs state table y id in
    subst Q (sym is) (record {
      there = omega (arith, ap length h.nodes, length_push old.nodes (n.Konst word), h.last);
      bits = h.width;
      number = λ g given. h.value g;
    })

pub copies_input : (net : Netlist) (inputs : List ℕ) (state : StateNodes) (table : List ℕ) (x : Node) (i d : ℕ)
    → x ≡ n.Input i → IsCopyable net inputs state table x
    → Copies net net inputs state table x (slice_index_or inputs i d)
copies_input net inputs state table x i d is own =
    let P : Node → Type 0 = λ y. IsFitting (shape_by net inputs state) (widths_at net table) y in
    let Q : Node → Type 0 = λ y. Copies net net inputs state table y (slice_index_or inputs i d) in
    let fits : i < length (widths_at net inputs) = subst P is own.fits in
    subst Q (sym is) (record {
      there = node_in net inputs i d own.inputs_there (omega (arith, length-map inputs (width_at net), fits));
      bits = sym (width_here net inputs i d fits);
      number = λ g given. sym (number_here net g inputs i d fits);
    })

pub copies_reg : (net : Netlist) (inputs : List ℕ) (state : StateNodes) (table regs : List ℕ) (x : Node) (i d : ℕ)
    → x ≡ n.Reg i → IsCopyable net inputs state table x → regs ≡ state.regs
    → Copies net net inputs state table x (slice_index_or regs i d)
copies_reg net inputs state table regs x i d is own same =
    let P : Node → Type 0 = λ y. IsFitting (shape_by net inputs state) (widths_at net table) y in
    let Q : Node → Type 0 = λ y. Copies net net inputs state table y (slice_index_or state.regs i d) in
    let R : List ℕ → Type 0 = λ rs. Copies net net inputs state table x (slice_index_or rs i d) in
    let fits : i < length (widths_at net state.regs) = subst P is own.fits in
    subst R (sym same) (subst Q (sym is) (record {
      there = node_in net state.regs i d own.state_there.regs (omega (
        arith,
        length-map state.regs (width_at net),
        fits,
      ));
      bits = sym (width_here net state.regs i d fits);
      number = λ g given. sym (number_here net g state.regs i d fits);
    }))

pub copies_read : (old new : Netlist) (inputs : List ℕ) (state : StateNodes) (table : List ℕ) (x : Node) (m a d id
    : ℕ)
    → x ≡ n.Read m a → IsCopyable old inputs state table x
    → IsNodeOf new (slice_index (map (memory_width old) state.mems) m) id
    → ((g : Given) → IsGiven old g → value_at new g id
    ≡ word_at (words_at (map (memory_numbers old g) state.mems) m) (value_at old g (slice_index_or table a d)))
    → Copies old new inputs state table x id
copies_read old new inputs state table x m a d id is own there value =
    let P : Node → Type 0 = λ y. IsFitting (shape_by old inputs state) (widths_at old table) y in
    let Q : Node → Type 0 = λ y. Copies old new inputs state table y id in
    let fits : IsFitting (shape_by old inputs state) (widths_at old table) (n.Read m a) = subst P is own.fits in
    subst Q (sym is) (record {
      there = there.0;
      bits = there.1;
      number = λ g given.
          value g given
          ∙ ap (word_at (words_at (map (memory_numbers old g) state.mems) m))
          (sym (number_here old g table a d fits.1));
    })

pub copies_mux : (old new : Netlist) (inputs : List ℕ) (state : StateNodes) (table : List ℕ) (x : Node) (c a b d e
    f id : ℕ)
    → x ≡ n.Mux c a b → IsCopyable old inputs state table x
    → Builds old new (n.Mux (slice_index_or table c f) (slice_index_or table a d) (slice_index_or table b e))
    (width_at old (slice_index_or table a d))
    (λ g. if value_at old g (slice_index_or table c f) == 1 then value_at old g (slice_index_or table a d) else
    value_at old g (slice_index_or table b e)) id
    → Copies old new inputs state table x id
copies_mux old new inputs state table x c a b d e f id is own h =
    let P : Node → Type 0 = λ y. IsFitting (shape_by old inputs state) (widths_at old table) y in
    let Q : Node → Type 0 = λ y. Copies old new inputs state table y id in
    let fits : IsFitting (shape_by old inputs state) (widths_at old table) (n.Mux c a b) = subst P is own.fits in
    subst Q (sym is) (record {
      there = omega (
        arith,
        ap length h.nodes,
        length_push old.nodes (n.Mux (slice_index_or table c f) (slice_index_or
            table a d) (slice_index_or table b e)),
        h.last,
      );
      bits = h.width ∙ sym (width_here old table a d fits.2.0);
      number = λ g given.
          h.value g
          ∙ (λ i. if sym (number_here old g table c f fits.0) i == 1 then sym (number_here old g table a d
          fits.2.0) i
          else sym (number_here old g table b e fits.2.1) i);
    })
