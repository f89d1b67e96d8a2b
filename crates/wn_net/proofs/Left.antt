-- What the builders of inputs, registers and memories leave, by equations for what is there before and after.
use Rattle.std.specs.Prelude.{◌≡◌, refl, ℕ, zero, suc, ◌-◌, ◌<◌, ◌≤◌, ◌^◌, List, [], ◌∷◌, ◌++◌, length}
use Rattle.std.specs.Prelude.{slice_index_or, slice_set}
use Rattle.std.specs.List.{AllByRecursion}
use Rattle.std.proofs.Common.{ap, sym, ◌∙◌, arith, subst}
use Rattle.wn_net.specs.declared.node.Node.{Node}
use Rattle.wn_net.specs.declared.node.Node.TheVariants as n
use Rattle.wn_net.specs.declared.parts.Reg.{Reg}
use Rattle.wn_net.specs.declared.parts.Init.{Init}
use Rattle.wn_net.specs.declared.parts.Mem.{Mem}
use Rattle.wn_net.specs.declared.parts.MemWrite.{MemWrite}
use Rattle.wn_net.specs.declared.parts.Input.{Input}
use Rattle.wn_net.specs.Width.{IsWidth}
use Rattle.wn_net.specs.Net.{Netlist, IsNet, IsKept, IsNode, IsNodeOf, IsInitOf, IsWriteOf, widths_of}
use Rattle.wn_net.specs.Changes.{Keeps, Grows, BuildsInput, BuildsReg, with_mem, with_next, with_write, reg_width}
use Rattle.wn_net.specs.Changes.{mem_width}
use Rattle.wn_net.proofs.Stays.{widths_of-with_node}
use Rattle.wn_net.proofs.Widened.{widened_widths, more_inputs, with_input, inputs_widened, with_input_whole}
use Rattle.wn_net.proofs.Widened.{with_input_builds, more_regs, with_reg, regs_widened, with_reg_whole}
use Rattle.wn_net.proofs.Widened.{with_reg_builds, mems_widened, with_mem_whole, with_mem_grows, next_set}
use Rattle.wn_net.proofs.Widened.{next_widened, next_set_whole, next_set_keeps, next_set_grows, write_added}
use Rattle.wn_net.proofs.Widened.{write_widened, write_added_whole, write_added_keeps, write_added_grows}
use Rattle.wn_net.proofs.Widened.{assumed_whole, assumed_keeps, assumed_grows, assumed, last_mapped}

whole_by : (shown net : Netlist) → shown ≡ net → IsNet shown → IsNet net
whole_by shown net e h = subst IsNet e h

-- an input
input_is : (shown : Netlist) (i : Input) (count : ℕ) (ns : List Node) (is : List Input) → count ≡ length shown.inputs
    → ns ≡ shown.nodes ++ n.Input count ∷ [] → is ≡ shown.inputs ++ i ∷ []
    → record shown { nodes = ns; inputs = is } ≡ with_input shown i
input_is shown i count ns is counted nodes_are inputs_are =
    (λ j. record shown { nodes = nodes_are j; inputs = inputs_are j })
    ∙ ap (λ k. record shown { nodes = shown.nodes ++ n.Input k ∷ []; inputs = shown.inputs ++ i ∷ [] }) counted

pub input_kept : (shown net : Netlist) (i : Input) (count : ℕ) (ns : List Node) (is : List Input)
    (ws stored : List ℕ) → IsKept shown stored
    → shown ≡ net → IsWidth i.width → length net.inputs < 2 ^ 32 - 1 → count ≡ length shown.inputs
    → ns ≡ shown.nodes ++ n.Input count ∷ [] → is ≡ shown.inputs ++ i ∷ [] → ws ≡ stored ++ i.width ∷ []
    → IsKept (record shown { nodes = ns; inputs = is }) ws
input_kept shown net i count ns is ws stored h e wide few counted nodes_are inputs_are widths_are =
    let P : Netlist → Type 0 = λ net. IsKept net ws in
    let mid = more_inputs shown i in
    subst P (sym (input_is shown i count ns is counted nodes_are inputs_are)) (record {
      whole = with_input_whole shown i h.whole wide (omega (arith, ap (λ net. length net.inputs) e, few));
      widths =
          widths_are ∙ ap (λ us. us ++ i.width ∷ [])
          (h.widths ∙ sym (widened_widths shown mid (inputs_widened shown i) h.whole))
          ∙ ap (λ w. widths_of mid ++ w ∷ []) (sym (last_mapped (λ (i : Input). i.width) shown.inputs i))
          ∙ sym (widths_of-with_node mid (n.Input (length shown.inputs)));
    })

pub input_built : (shown net : Netlist) (i : Input) (count id : ℕ) (ns : List Node) (is : List Input) → IsNet shown
    → shown ≡ net → count ≡ length shown.inputs → ns ≡ shown.nodes ++ n.Input count ∷ [] → is ≡ shown.inputs ++ i ∷ []
    → id ≡ length shown.nodes → BuildsInput net (record shown { nodes = ns; inputs = is }) i id
input_built shown net i count id ns is h e counted nodes_are inputs_are last =
    let P : Netlist → Type 0 = λ new. BuildsInput net new i id in
    let Q : ℕ → Type 0 = λ k. BuildsInput net (with_input net i) i k in
    subst P (sym (input_is shown i count ns is counted nodes_are inputs_are ∙ ap (λ m. with_input m i) e))
    (subst Q (sym (last ∙ ap (λ m. length m.nodes) e)) (with_input_builds net i (whole_by shown net e h)))

-- a register
reg_is : (shown : Netlist) (r : Reg) (count : ℕ) (ns : List Node) (rs : List Reg) → count ≡ length shown.regs
    → ns ≡ shown.nodes ++ n.Reg count ∷ [] → rs ≡ shown.regs ++ r ∷ []
    → record shown { nodes = ns; regs = rs } ≡ with_reg shown r
reg_is shown r count ns rs counted nodes_are regs_are =
    (λ j. record shown { nodes = nodes_are j; regs = regs_are j })
    ∙ ap (λ k. record shown { nodes = shown.nodes ++ n.Reg k ∷ []; regs = shown.regs ++ r ∷ [] }) counted

pub reg_kept : (shown net : Netlist) (r : Reg) (count : ℕ) (ns : List Node) (rs : List Reg) (ws stored : List ℕ)
    → IsKept shown stored
    → shown ≡ net → IsWidth r.width → IsInitOf r.width r.init → r.next ≡ length shown.nodes
    → length net.regs < 2 ^ 32 - 1
    → count ≡ length shown.regs → ns ≡ shown.nodes ++ n.Reg count ∷ [] → rs ≡ shown.regs ++ r ∷ []
    → ws ≡ stored ++ r.width ∷ []
    → IsKept (record shown { nodes = ns; regs = rs }) ws
reg_kept shown net r count ns rs ws stored h e wide init next few counted nodes_are regs_are widths_are =
    let P : Netlist → Type 0 = λ net. IsKept net ws in
    let mid = more_regs shown r in
    subst P (sym (reg_is shown r count ns rs counted nodes_are regs_are)) (record {
      whole = with_reg_whole shown r h.whole wide init next (omega (arith, ap (λ net. length net.regs) e, few));
      widths =
          widths_are ∙ ap (λ us. us ++ r.width ∷ [])
          (h.widths ∙ sym (widened_widths shown mid (regs_widened shown r) h.whole))
          ∙ ap (λ w. widths_of mid ++ w ∷ []) (sym (last_mapped (λ (r : Reg). r.width) shown.regs r))
          ∙ sym (widths_of-with_node mid (n.Reg (length shown.regs)));
    })

abbrev new_reg : ℕ → Init → ℕ → Reg
new_reg width init next = record { width = width; init = init; next = next }

pub reg_built : (shown net : Netlist) (width : ℕ) (init : Init) (next count id : ℕ) (ns : List Node) (rs : List Reg)
    → IsNet shown
    → shown ≡ net → count ≡ length shown.regs → ns ≡ shown.nodes ++ n.Reg count ∷ []
    → rs ≡ shown.regs ++ new_reg width init next ∷ [] → id ≡ length shown.nodes → next ≡ length shown.nodes
    → BuildsReg net (record shown { nodes = ns; regs = rs }) (new_reg width init (length net.nodes)) id
reg_built shown net width init next count id ns rs h e counted nodes_are regs_are last own =
    let r = new_reg width init (length net.nodes) in
    let P : Netlist → Type 0 = λ new. BuildsReg net new r id in
    let Q : ℕ → Type 0 = λ k. BuildsReg net (with_reg net r) r k in
    let R : rs ≡ shown.regs ++ r ∷ [] =
    regs_are ∙ ap (λ k. shown.regs ++ new_reg width init k ∷ []) (own ∙ ap (λ m. length m.nodes) e) in
    subst P (sym (reg_is shown r count ns rs counted nodes_are R ∙ ap (λ m. with_reg m r) e))
    (subst Q (sym (last ∙ ap (λ m. length m.nodes) e)) (with_reg_builds net r (whole_by shown net e h)))

-- a memory
pub mem_kept : (shown net : Netlist) (m : Mem) (ms : List Mem) (stored : List ℕ) → IsKept shown stored → shown ≡ net
    → IsWidth m.width
    → 1 ≤ m.words → length m.init ≡ m.words → AllByRecursion (IsInitOf m.width) m.init → m.writes ≡ []
    → length net.mems < 2 ^ 32 - 1
    → ms ≡ shown.mems ++ m ∷ [] → IsKept (record shown { mems = ms }) stored
mem_kept shown net m ms stored h e wide words each init none few mems_are =
    let P : List Mem → Type 0 = λ ms. IsKept (record shown { mems = ms }) stored in
    let W : List MemWrite → Type 0 = λ ws. AllByRecursion (IsWriteOf (with_mem shown m) m.width) ws in
    subst P (sym mems_are) (record {
      whole =
          with_mem_whole shown m h.whole
          (record { width = wide; words = words; each = each; init = init; writes = subst W (sym none) tt })
          (omega (arith, ap (λ net. length net.mems) e, few));
      widths = h.widths ∙ sym (widened_widths shown (with_mem shown m) (mems_widened shown m) h.whole);
    })

pub mem_grows : (shown net : Netlist) (m : Mem) (ms : List Mem) → IsNet shown → shown ≡ net → ms ≡ shown.mems ++ m ∷ []
    → Grows net (record shown { mems = ms })
mem_grows shown net m ms h e mems_are =
    let P : List Mem → Type 0 = λ ms. Grows net (record shown { mems = ms }) in
    let Q : Netlist → Type 0 = λ net. Grows net (with_mem shown m) in
    subst P (sym mems_are) (subst Q e (with_mem_grows shown m h))

-- the next value of a register
abbrev renexted : Reg → ℕ → Reg
renexted r next = record r { next = next }

pub set-with_next : (i next : ℕ) (rs : List Reg) (r : Reg) → r ≡ slice_index_or rs i r
    → slice_set rs i (record r { next = next }) ≡ with_next i next rs
set-with_next i next [] r read = refl
set-with_next zero next (x ∷ rs) r read = ap (λ (y : Reg). renexted y next ∷ rs) read
set-with_next (suc i) next (x ∷ rs) r read = ap (λ ys. x ∷ ys) (set-with_next i next rs r read)

pub next_kept : (shown net : Netlist) (i next : ℕ) (rs : List Reg) (stored : List ℕ) → IsKept shown stored → shown ≡ net
    → IsNodeOf net (reg_width net i) next → rs ≡ with_next i next shown.regs
    → IsKept (record shown { regs = rs }) stored
next_kept shown net i next rs stored h e own regs_are =
    let P : List Reg → Type 0 = λ rs. IsKept (record shown { regs = rs }) stored in
    let Q : Netlist → Type 0 = λ net. IsNodeOf net (reg_width net i) next in
    subst P (sym regs_are) (record {
      whole = next_set_whole shown i next h.whole (subst Q (sym e) own);
      widths = h.widths ∙ sym (widened_widths shown (next_set shown i next) (next_widened shown i next) h.whole);
    })

pub next_is : (shown net : Netlist) (i next : ℕ) (rs : List Reg) → shown ≡ net → rs ≡ with_next i next shown.regs
    → record shown { regs = rs } ≡ next_set net i next
next_is shown net i next rs e regs_are =
    ap (λ rs. record shown { regs = rs }) regs_are ∙ ap (λ net. next_set net i next) e

pub next_keeps : (shown net : Netlist) (i next : ℕ) (rs : List Reg) → IsNet shown → shown ≡ net
    → rs ≡ with_next i next shown.regs
    → Keeps net (record shown { regs = rs })
next_keeps shown net i next rs h e regs_are =
    let P : Netlist → Type 0 = λ new. Keeps net new in
    subst P (sym (next_is shown net i next rs e regs_are)) (next_set_keeps net i next (whole_by shown net e h))

-- one more write
abbrev rewritten : Mem → List MemWrite → Mem
rewritten m ws = record m { writes = ws }

pub set-with_write : (i : ℕ) (w : MemWrite) (ms : List Mem) (m : Mem) (ws : List MemWrite)
    → m ≡ slice_index_or ms i m → ws ≡ m.writes ++ w ∷ []
    → slice_set ms i (record m { writes = ws }) ≡ with_write i w ms
set-with_write i w [] m ws read writes_are = refl
set-with_write zero w (x ∷ ms) m ws read writes_are =
    ap (λ us. rewritten m us ∷ ms) writes_are ∙ ap (λ (y : Mem). rewritten y (y.writes ++ w ∷ []) ∷ ms) read
set-with_write (suc i) w (x ∷ ms) m ws read writes_are = ap (λ ys. x ∷ ys) (set-with_write i w ms m ws read writes_are)

pub set_same_writes : (i : ℕ) (ms : List Mem) (m : Mem) (ws : List MemWrite) → m ≡ slice_index_or ms i m → ws ≡ m.writes
    → slice_set ms i (record m { writes = ws }) ≡ ms
set_same_writes i [] m ws read writes_are = refl
set_same_writes zero (x ∷ ms) m ws read writes_are =
    ap (λ us. rewritten m us ∷ ms) writes_are ∙ ap (λ y. y ∷ ms) read
set_same_writes (suc i) (x ∷ ms) m ws read writes_are = ap (λ ys. x ∷ ys) (set_same_writes i ms m ws read writes_are)

pub write_kept : (shown net : Netlist) (i : ℕ) (w : MemWrite) (ms : List Mem) (stored : List ℕ) → IsKept shown stored
    → shown ≡ net
    → IsWriteOf net (mem_width net i) w → ms ≡ with_write i w shown.mems → IsKept (record shown { mems = ms }) stored
write_kept shown net i w ms stored h e own mems_are =
    let P : List Mem → Type 0 = λ ms. IsKept (record shown { mems = ms }) stored in
    let Q : Netlist → Type 0 = λ net. IsWriteOf net (mem_width net i) w in
    subst P (sym mems_are) (record {
      whole = write_added_whole shown i w h.whole (subst Q (sym e) own);
      widths = h.widths ∙ sym (widened_widths shown (write_added shown i w) (write_widened shown i w) h.whole);
    })

pub write_is : (shown net : Netlist) (i : ℕ) (w : MemWrite) (ms : List Mem) → shown ≡ net
    → ms ≡ with_write i w shown.mems
    → record shown { mems = ms } ≡ write_added net i w
write_is shown net i w ms e mems_are =
    ap (λ ms. record shown { mems = ms }) mems_are ∙ ap (λ net. write_added net i w) e

pub write_keeps : (shown net : Netlist) (i : ℕ) (w : MemWrite) (ms : List Mem) → IsNet shown → shown ≡ net
    → ms ≡ with_write i w shown.mems
    → Keeps net (record shown { mems = ms })
write_keeps shown net i w ms h e mems_are =
    let P : Netlist → Type 0 = λ new. Keeps net new in
    subst P (sym (write_is shown net i w ms e mems_are)) (write_added_keeps net i w (whole_by shown net e h))

-- one more assumption
pub assumed_kept : (shown net : Netlist) (id : ℕ) (ids stored : List ℕ) → IsKept shown stored → shown ≡ net
    → IsNode net id
    → ids ≡ shown.assumes ++ id ∷ [] → IsKept (record shown { assumes = ids }) stored
assumed_kept shown net id ids stored h e own ids_are =
    let P : List ℕ → Type 0 = λ ids. IsKept (record shown { assumes = ids }) stored in
    subst P (sym ids_are) (record {
      whole = assumed_whole shown id h.whole (omega (arith, ap (λ net. length net.nodes) e, own));
      widths = h.widths;
    })

-- no call but those of inputs and registers takes a node's number, and nothing goes
pub next_grows : (shown net : Netlist) (i next : ℕ) (rs : List Reg) → IsNet shown → shown ≡ net
    → rs ≡ with_next i next shown.regs
    → Grows net (record shown { regs = rs })
next_grows shown net i next rs h e regs_are =
    let P : Netlist → Type 0 = λ new. Grows net new in
    subst P (sym (next_is shown net i next rs e regs_are)) (next_set_grows net i next (whole_by shown net e h))

pub write_grows : (shown net : Netlist) (i : ℕ) (w : MemWrite) (ms : List Mem) → IsNet shown → shown ≡ net
    → ms ≡ with_write i w shown.mems
    → Grows net (record shown { mems = ms })
write_grows shown net i w ms h e mems_are =
    let P : Netlist → Type 0 = λ new. Grows net new in
    subst P (sym (write_is shown net i w ms e mems_are)) (write_added_grows net i w (whole_by shown net e h))

assumed_is : (shown net : Netlist) (id : ℕ) (ids : List ℕ) → shown ≡ net → ids ≡ shown.assumes ++ id ∷ []
    → record shown { assumes = ids } ≡ assumed net id
assumed_is shown net id ids e ids_are = ap (λ us. record shown { assumes = us }) ids_are ∙ ap (λ n. assumed n id) e

pub assume_keeps : (shown net : Netlist) (id : ℕ) (ids : List ℕ) → shown ≡ net → ids ≡ shown.assumes ++ id ∷ []
    → Keeps net (record shown { assumes = ids })
assume_keeps shown net id ids e ids_are =
    let P : Netlist → Type 0 = λ new. Keeps net new
    in subst P (sym (assumed_is shown net id ids e ids_are)) (assumed_keeps net id)

pub assume_grows : (shown net : Netlist) (id : ℕ) (ids : List ℕ) → shown ≡ net → ids ≡ shown.assumes ++ id ∷ []
    → Grows net (record shown { assumes = ids })
assume_grows shown net id ids e ids_are =
    let P : Netlist → Type 0 = λ new. Grows net new
    in subst P (sym (assumed_is shown net id ids e ids_are)) (assumed_grows net id)
