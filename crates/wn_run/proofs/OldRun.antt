-- After more nodes and registers the old part of a run is the old run.
use Rattle.std.specs.Prelude.{◌≡◌, refl, ℕ, zero, suc, ◌<◌, List, [], ◌∷◌, length, map, take, slice_index, ◌↔◌}
use Rattle.std.specs.List.{AllByRecursion}
use Rattle.std.proofs.Common.{ap, sym, ◌∙◌, arith, subst}
use Rattle.std.proofs.lemmas.List.{take-map}
use Rattle.wn_net.specs.declared.parts.Reg.{Reg}
use Rattle.wn_net.specs.declared.parts.Mem.{Mem}
use Rattle.wn_net.specs.declared.parts.MemWrite.{MemWrite}
use Rattle.wn_net.specs.declared.parts.State.{State}
use Rattle.wn_net.specs.Value.{Given, word_at, words_at}
use Rattle.wn_net.specs.Net.{Netlist, IsNet, IsNode, IsRegOf, IsMemOf, IsWriteOf, AreNodes, values_of, value_at}
use Rattle.wn_net.specs.Next.{written, write_each, next_mems, next_state}
use Rattle.wn_net.specs.Changes.{AddsRegs}
use Rattle.wn_run.specs.Runs.{state_at, cycle_at, IsMet, first_regs}
use Rattle.wn_run.specs.Laws.{AreAlike, OldPartsAreOldRuns}
use Rattle.wn_run.proofs.Alike.{values_alike}

-- values of the nodes of a net, in two lists
abbrev AreSame : Netlist → List ℕ → List ℕ → Type 0
AreSame net us vs = (id : ℕ) → id < length net.nodes → slice_index us id ≡ slice_index vs id

nexts_same : (net : Netlist) (us vs : List ℕ) (rs : List Reg) → AreSame net us vs → AllByRecursion (IsRegOf net) rs
    → map (λ r. slice_index us r.next) rs ≡ map (λ r. slice_index vs r.next) rs
nexts_same net us vs [] same own = refl
nexts_same net us vs (r ∷ rs) same own = λ i. same r.next own.0.next.0 i ∷ nexts_same net us vs rs same own.1 i

writes_same : (net : Netlist) (us vs : List ℕ) (w : ℕ) (ws : List MemWrite) (words : List ℕ) → AreSame net us vs
    → AllByRecursion (IsWriteOf net w) ws → write_each us w words ws ≡ write_each vs w words ws
writes_same net us vs w [] words same own = refl
writes_same net us vs w (x ∷ xs) words same own =
    ap (λ ns. write_each us w ns xs)
    (λ i. written w words (same x.enable own.0.enable.0 i) (same x.addr own.0.addr i) (same x.mask own.0.mask.0 i)
    (same x.value own.0.value.0 i))
    ∙ writes_same net us vs w xs _ same own.1

mems_same : (net : Netlist) (us vs : List ℕ) (ms : List Mem) (ns : List (List ℕ)) → AreSame net us vs
    → AllByRecursion (IsMemOf net) ms
    → next_mems us ms ns ≡ next_mems vs ms ns
mems_same net us vs [] ns same own = refl
mems_same net us vs (m ∷ ms) [] same own = refl
mems_same net us vs (m ∷ ms) (words ∷ rest) same own =
    λ i. writes_same net us vs m.width m.writes words same own.0.writes i ∷ mems_same net us vs ms rest same own.1 i

first_at : (n i : ℕ) (xs : List ℕ) → i < n → slice_index (take n xs) i ≡ slice_index xs i
first_at zero i xs h = absurd (omega arith)
first_at (suc n) i [] h = refl
first_at (suc n) zero (x ∷ xs) h = refl
first_at (suc n) (suc i) (x ∷ xs) h = first_at n i xs (omega arith)

-- cycles whose states have the same first registers and the same memories
alike : (old : Netlist) (inputs : List ℕ) (s t : State) → first_regs (length old.regs) s ≡ t
    → AreAlike old (record { inputs = inputs; state = s }) (record { inputs = inputs; state = t })
alike old inputs s t e = record {
  inputs = λ i below. refl;
  regs = λ i below. sym (first_at (length old.regs) i s.regs below) ∙ ap (λ (u : State). slice_index u.regs i) e;
  words = λ m below a. ap (λ (u : State). word_at (words_at u.mems m) a) e;
}

values_same : (old new : Netlist) (inputs : List ℕ) (s t : State) → IsNet old → AddsRegs old new
    → first_regs (length old.regs) s ≡ t
    → AreSame old (values_of new (record { inputs = inputs; state = s }))
    (values_of old (record { inputs = inputs; state = t }))
unfolding value_at
values_same old new inputs s t whole adds e id below =
    adds.values (record { inputs = inputs; state = s }) id below
    ∙ ap (λ vs. slice_index vs id)
    (values_alike old (record { inputs = inputs; state = s }) (record { inputs = inputs; state = t }) whole
    (alike old inputs s t e))

next_same : (old new : Netlist) (inputs : List ℕ) (s t : State) → IsNet old → AddsRegs old new
    → first_regs (length old.regs) s ≡ t
    → first_regs (length old.regs) (next_state new (record { inputs = inputs; state = s }))
    ≡ next_state old (record { inputs = inputs; state = t })
next_same old new inputs s t whole adds e =
    let us = values_of new (record { inputs = inputs; state = s }) in
    let vs = values_of old (record { inputs = inputs; state = t }) in
    let same : AreSame old us vs = values_same old new inputs s t whole adds e in
    let regs : take (length old.regs) (map (λ r. slice_index us r.next) new.regs)
    ≡ map (λ r. slice_index vs r.next) old.regs =
    take-map (λ r. slice_index us r.next) (length old.regs) new.regs
    ∙ ap (map (λ r. slice_index us r.next)) adds.regs ∙ nexts_same old us vs old.regs same whole.regs in
    let mems : next_mems us new.mems s.mems ≡ next_mems vs old.mems t.mems =
    ap (λ ms. next_mems us ms s.mems) adds.mems ∙ ap (λ (u : State). next_mems us old.mems u.mems) e
    ∙ mems_same old us vs old.mems t.mems same whole.mems in
    λ i. record { regs = regs i; mems = mems i }

state_same : (old new : Netlist) (inputs : ℕ → List ℕ) (start : State) (k : ℕ) → IsNet old → AddsRegs old new
    → first_regs (length old.regs) (state_at new inputs start k)
    ≡ state_at old inputs (first_regs (length old.regs) start) k
state_same old new inputs start zero whole adds = refl
state_same old new inputs start (suc k) whole adds =
    next_same old new (inputs k) (state_at new inputs start k)
    (state_at old inputs (first_regs (length old.regs) start) k) whole adds
    (state_same old new inputs start k whole adds)

value_same : (old new : Netlist) (inputs : ℕ → List ℕ) (start : State) (k id : ℕ) → IsNet old → AddsRegs old new
    → IsNode old id
    → value_at new (cycle_at new inputs start k) id
    ≡ value_at old (cycle_at old inputs (first_regs (length old.regs) start) k) id
unfolding value_at
value_same old new inputs start k id whole adds below =
    values_same old new (inputs k) (state_at new inputs start k)
    (state_at old inputs (first_regs (length old.regs) start) k) whole adds
    (state_same old new inputs start k whole adds) id below

met_same : (old new : Netlist) (g h : Given) (ids : List ℕ)
    → ((id : ℕ) → IsNode old id → value_at new g id ≡ value_at old h id)
    → AreNodes old ids
    → AllByRecursion (λ id. value_at new g id ≡ 0 → ⊥) ids ↔ AllByRecursion (λ id. value_at old h id ≡ 0 → ⊥) ids
met_same old new g h [] same own = (λ m. tt, λ m. tt)
met_same old new g h (id ∷ ids) same own =
    let rest = met_same old new g h ids same own.1 in (
      λ m. (λ e. m.0 (same id own.0 ∙ e), rest.0 m.1),
      λ m. (λ e. m.0 (sym (same id own.0) ∙ e), rest.1 m.1),
    )

pub old_run : OldPartsAreOldRuns
old_run old new inputs start k whole adds =
    let g = cycle_at new inputs start k in
    let h = cycle_at old inputs (first_regs (length old.regs) start) k in
    let P : List ℕ → Type 0 = λ ids. AllByRecursion (λ id. value_at new g id ≡ 0 → ⊥) ids ↔ IsMet old h in
    let same = value_same old new inputs start k in
    record {
      state = state_same old new inputs start k whole adds;
      value = λ id below. same id whole adds below;
      met = subst P (sym adds.assumes) (met_same old new g h old.assumes
          (λ id below. same id whole adds below) whole.assumes);
    }
