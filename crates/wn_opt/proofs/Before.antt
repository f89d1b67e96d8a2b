-- What a node reads stands before it, with its width.
use Rattle.std.specs.Prelude.{◌≡◌, ℕ, zero, suc, ◌<◌, ◌≤◌, List, [], ◌∷◌, ◌++◌, length, take, drop}
use Rattle.std.specs.Prelude.{Some, is_none, slice_get, slice_index}
use Rattle.std.specs.List.{AllByRecursion}
use Rattle.std.proofs.Common.{ap, sym, ◌∙◌, arith, subst, true≢false}
use Rattle.std.proofs.lemmas.List.{take-append-drop, length-take-le}
use Rattle.std.proofs.lemmas.Option.{same_Some}
use Rattle.fv_graph.proofs.Lists.{get_less}
use Rattle.wn_net.specs.declared.node.Node.{Node}
use Rattle.wn_net.specs.declared.node.Node.TheVariants as n
use Rattle.wn_net.specs.declared.parts.MemWrite.{MemWrite}
use Rattle.wn_net.specs.Width.{Shape, width, widths, IsFitting, AreFitting}
use Rattle.wn_net.specs.Net.{Netlist, IsNet, AreNodes, IsRegOf, IsMemOf, IsWriteOf, shape_of, width_at}
use Rattle.wn_net.proofs.Sweep.{length-widths, widths_begin, widths-append}
use Rattle.wn_opt.specs.Needed.{IsIn, IsNeeded, operands, write_nodes}
use Rattle.wn_opt.specs.Needed.{root, operand, next, write}
use Rattle.wn_opt.proofs.In.{in_none, in_one, in_two, in_three, in_rest}

-- the node at a place fits behind those before it
fits_at : (s : Shape) (ws : List ℕ) (xs : List Node) (i : ℕ) (x : Node) → AreFitting s ws xs
    → slice_get xs i ≡ Some x → IsFitting s (widths s ws (take i xs)) x
fits_at s ws [] i x fits e = absurd (true≢false (ap is_none e))
fits_at s ws (y ∷ ys) zero x fits e = subst (λ z. IsFitting s ws z) (same_Some y x e) fits.0
fits_at s ws (y ∷ ys) (suc i) x fits e = fits_at s (ws ++ width s ws y ∷ []) ys i x fits.1 e

-- the widths before a node
abbrev pub before : Netlist → ℕ → List ℕ
before net id = widths (shape_of net) [] (take id net.nodes)

pub fits_in : (net : Netlist) (id : ℕ) (x : Node) → IsNet net → slice_get net.nodes id ≡ Some x
    → IsFitting (shape_of net) (before net id) x
fits_in net id x whole e = fits_at (shape_of net) [] net.nodes id x whole.nodes e

pub length-before : (net : Netlist) (id : ℕ) → id ≤ length net.nodes → length (before net id) ≡ id
length-before net id h =
    omega (arith, length-widths (shape_of net) [] (take id net.nodes), length-take-le id net.nodes h)

pub width_before : (net : Netlist) (id a : ℕ) → id ≤ length net.nodes → a < id
    → slice_index (before net id) a ≡ width_at net a
unfolding width_at
width_before net id a h less =
    let s = shape_of net in
    let there : a < length (before net id) = omega (arith, length-before net id h, less) in
    sym (ap (λ ns. slice_index (widths s [] ns) a) (sym (take-append-drop id net.nodes))
    ∙ ap (λ ws. slice_index ws a) (widths-append s [] (take id net.nodes) (drop id net.nodes))
    ∙ widths_begin s (before net id) (drop id net.nodes) a there)

-- what a fitting node reads is there
pub operands_there : (s : Shape) (ws : List ℕ) (x : Node) → IsFitting s ws x → (a : ℕ) → IsIn (operands x) a
    → a < length ws
operands_there s ws (n.Konst word) fits a h = in_none (λ b. b < length ws) a h
operands_there s ws (n.Input i) fits a h = in_none (λ b. b < length ws) a h
operands_there s ws (n.Reg i) fits a h = in_none (λ b. b < length ws) a h
operands_there s ws (n.Read m p) fits a h = in_one (λ b. b < length ws) p a fits.1 h
operands_there s ws (n.Not p) fits a h = in_one (λ b. b < length ws) p a fits h
operands_there s ws (n.And p q) fits a h = in_two (λ b. b < length ws) p q a fits.0 fits.1 h
operands_there s ws (n.Or p q) fits a h = in_two (λ b. b < length ws) p q a fits.0 fits.1 h
operands_there s ws (n.Xor p q) fits a h = in_two (λ b. b < length ws) p q a fits.0 fits.1 h
operands_there s ws (n.Add p q) fits a h = in_two (λ b. b < length ws) p q a fits.0 fits.1 h
operands_there s ws (n.Sub p q) fits a h = in_two (λ b. b < length ws) p q a fits.0 fits.1 h
operands_there s ws (n.Mul p q) fits a h = in_two (λ b. b < length ws) p q a fits.0 fits.1 h
operands_there s ws (n.Eq p q) fits a h = in_two (λ b. b < length ws) p q a fits.0 fits.1 h
operands_there s ws (n.Ult p q) fits a h = in_two (λ b. b < length ws) p q a fits.0 fits.1 h
operands_there s ws (n.Slt p q) fits a h = in_two (λ b. b < length ws) p q a fits.0 fits.1 h
operands_there s ws (n.Shl p q) fits a h = in_two (λ b. b < length ws) p q a fits.0 fits.1 h
operands_there s ws (n.Lshr p q) fits a h = in_two (λ b. b < length ws) p q a fits.0 fits.1 h
operands_there s ws (n.Ashr p q) fits a h = in_two (λ b. b < length ws) p q a fits.0 fits.1 h
operands_there s ws (n.Concat p q) fits a h = in_two (λ b. b < length ws) p q a fits.0 fits.1 h
operands_there s ws (n.Mux c p q) fits a h =
    in_three (λ b. b < length ws) c p q a fits.0 fits.2.0 fits.2.1 h
operands_there s ws (n.Slice p at w) fits a h = in_one (λ b. b < length ws) p a fits.0 h
operands_there s ws (n.Zext p w) fits a h = in_one (λ b. b < length ws) p a fits.0 h
operands_there s ws (n.Sext p w) fits a h = in_one (λ b. b < length ws) p a fits.0 h

-- and stands before it
pub operands_before : (net : Netlist) (id : ℕ) (x : Node) → IsNet net → slice_get net.nodes id ≡ Some x → (a : ℕ)
    → IsIn (operands x) a → a < id
operands_before net id x whole e a h =
    let less = get_less net.nodes id x e in
    let there = operands_there (shape_of net) (before net id) x (fits_in net id x whole e) a h in
    let long : id ≤ length net.nodes = omega (arith, less) in
    omega (arith, there, length-before net id long)

-- ---- needed nodes are there

all_at : {A : Type 0} (P : A → Type 0) (xs : List A) (k : ℕ) (x : A) → AllByRecursion P xs
    → slice_get xs k ≡ Some x → P x
all_at P [] k x all e = absurd (true≢false (ap is_none e))
all_at P (y ∷ ys) zero x all e = subst P (same_Some y x e) all.0
all_at P (y ∷ ys) (suc k) x all e = all_at P ys k x all.1 e

pub all_in : {A : Type 0} (P : A → Type 0) (xs : List A) (x : A) → AllByRecursion P xs → IsIn xs x → P x
all_in P xs x all h = all_at P xs h.0 x all h.1

pub write_there : (net : Netlist) (width : ℕ) (w : MemWrite) (id : ℕ) → IsWriteOf net width w → IsIn (write_nodes w) id
    → id < length net.nodes
write_there net width w id own h =
    let P : ℕ → Type 0 = λ b. b < length net.nodes in
    in_rest P w.enable (w.addr ∷ w.mask ∷ w.value ∷ []) id own.enable.0
    (λ z i. in_three P w.addr w.mask w.value z own.addr own.mask.0 own.value.0 i) h

pub needed_there : (net : Netlist) (roots : List ℕ) (id : ℕ) → IsNet net → AreNodes net roots
    → IsNeeded net roots id → id < length net.nodes
needed_there net roots k whole own (root id h) = all_in (λ b. b < length net.nodes) roots id own h
needed_there net roots k whole own (operand user id x up e h) =
    let less = get_less net.nodes user x e in
    let low = operands_before net user x whole e id h in
    omega (arith, less, low)
needed_there net roots k whole own (next user i r up e f) =
    (all_at (λ q. IsRegOf net q) net.regs i r whole.regs f).next.0
needed_there net roots k whole own (write user m a id mem w up e f h i) =
    write_there net mem.width w id
    (all_in (λ v. IsWriteOf net mem.width v) mem.writes w
    (all_at (λ q. IsMemOf net q) net.mems m mem whole.mems f).writes h) i
