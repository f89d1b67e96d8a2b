-- What a line of registers shows.
use Rattle.std.specs.Prelude.{◌≡◌, refl, ℕ, zero, suc, ◌+◌, ◌*◌, ◌<◌, ◌≤◌, Bool}
use Rattle.std.specs.Prelude.{true, false, nat_lt, List, [], ◌∷◌, ◌++◌}
use Rattle.std.specs.Prelude.{length, take, drop, map, slice_index}
use Rattle.std.specs.List.{AllByRecursion}
use Rattle.std.proofs.Common.{ap, sym, ◌∙◌, arith, subst}
use Rattle.std.proofs.lemmas.Bool.Decides.{nat_tests}
use Rattle.std.proofs.lemmas.List.{length_push, get_or_append_left, get_or_push}
use Rattle.wn_net.specs.declared.parts.Reg.{Reg}
use Rattle.wn_net.specs.declared.parts.State.{State}
use Rattle.wn_net.specs.Net.{Netlist, IsNet, IsNode, IsNodeOf, AreNodesOf, value_at}
use Rattle.wn_net.specs.Changes.{IsBegun, Keeps, AddsRegs, BuildsReg, with_next}
use Rattle.wn_net.proofs.Laws.{regs_on, regs_none, regs_node_on, built_reg, built_reg_node, next_on}
use Rattle.wn_run.specs.Runs.{cycle_at, first_regs}
use Rattle.wn_run.proofs.OldRun.{old_run}
use Rattle.ck_history.specs.Lines.{IsBehind, IsHistory, IsKnown, AddsKnown}

-- ---- one register

last_next : (next : ℕ) (rs : List Reg) (r : Reg)
    → with_next (length rs) next (rs ++ r ∷ []) ≡ rs ++ record r { next = next } ∷ []
last_next next [] r = refl
last_next next (x ∷ xs) r = ap (λ rs. x ∷ rs) (last_next next xs r)

last_mapped : (f : Reg → ℕ) (rs : List Reg) (r : Reg) → slice_index (map f (rs ++ r ∷ [])) (length rs) ≡ f r
last_mapped f [] r = refl
last_mapped f (x ∷ xs) r = last_mapped f xs r

last_known : (rs : List Reg) (r : Reg) → IsKnown r.init
    → AllByRecursion (λ r. IsKnown r.init) (drop (length rs) (rs ++ r ∷ []))
last_known [] r known = (known, tt)
last_known (x ∷ xs) r known = last_known xs r known

-- the registers behind a delay
delayed_regs : (a b c : Netlist) (r : Reg) (id node : ℕ) → BuildsReg a b r id
    → c ≡ record b { regs = with_next (length a.regs) node b.regs }
    → c.regs ≡ a.regs ++ record r { next = node } ∷ []
delayed_regs a b c r id node built e =
    ap (λ m. m.regs) e ∙ ap (with_next (length a.regs) node) built.regs ∙ last_next node a.regs r

pub delay_adds : (a b c : Netlist) (r : Reg) (id node : ℕ) → BuildsReg a b r id → IsKnown r.init
    → c ≡ record b { regs = with_next (length a.regs) node b.regs } → Keeps b c → AddsKnown a c 1
delay_adds a b c r id node built known e keeps =
    let now : Reg = record r { next = node } in
    let regs : c.regs ≡ a.regs ++ now ∷ [] = delayed_regs a b c r id node built e in
    let P : List Reg → Type 0 = λ rs. AllByRecursion (λ r. IsKnown r.init) (drop (length a.regs) rs) in
    record {
      adds = next_on a b c (length a.regs) node (built_reg a b r id built) (omega arith) e keeps;
      count = ap length regs ∙ length_push a.regs now;
      known = subst P (sym regs) (last_known a.regs now known);
    }

pub delay_node : (a b c : Netlist) (r : Reg) (id : ℕ) → BuildsReg a b r id → Keeps b c → IsNodeOf c r.width id
delay_node a b c r id built keeps =
    let own = built_reg_node a b r id built in
    (omega (arith, keeps.longer, own.0), keeps.widths id own.0 ∙ own.1)

pub delay_behind : (a b c : Netlist) (r : Reg) (id node : ℕ) → BuildsReg a b r id
    → c ≡ record b { regs = with_next (length a.regs) node b.regs } → Keeps b c → IsBehind c node id
unfolding value_at
delay_behind a b c r id node built e keeps = λ inputs start k.
    let h = cycle_at c inputs start (suc k) in
    let regs = delayed_regs a b c r id node built e in
    keeps.values h id (built_reg_node a b r id built).0
    ∙ built.value h
    ∙ ap (λ rs. slice_index (map (λ (r : Reg). value_at c (cycle_at c inputs start k) r.next) rs) (length a.regs)) regs
    ∙ last_mapped (λ (r : Reg). value_at c (cycle_at c inputs start k) r.next) a.regs (record r { next = node })

-- ---- more of them

pub known_none : (net : Netlist) → AddsKnown net net 0
known_none net = record {
  adds = regs_none net;
  count = omega arith;
  known = none net.regs;
}
  where
    none : (rs : List Reg) → AllByRecursion (λ r. IsKnown r.init) (drop (length rs) rs)
    none [] = tt
    none (r ∷ rs) = none rs

first_of : (x y : Reg) (xs ys : List Reg) → (x ∷ xs) ≡ (y ∷ ys) → x ≡ y
first_of x y xs ys e = cc

rest_of : (x y : Reg) (xs ys : List Reg) → (x ∷ xs) ≡ (y ∷ ys) → xs ≡ ys
rest_of x y xs ys e = cc

none_longer : (y : Reg) (ys : List Reg) → [] ≡ (y ∷ ys) → ⊥
none_longer y ys e = omega (arith, ap length e)

all_known : (ys zs : List Reg) → IsBegun ys zs → AllByRecursion (λ r. IsKnown r.init) ys
    → AllByRecursion (λ r. IsKnown r.init) (drop (length ys) zs) → AllByRecursion (λ r. IsKnown r.init) zs
all_known [] zs e own more = more
all_known (y ∷ ys) [] e own more = tt
all_known (y ∷ ys) (z ∷ zs) e own more =
    let P : Reg → Type 0 = λ r. IsKnown r.init in
    (subst P (sym (first_of z y _ ys e)) own.0, all_known ys zs (rest_of z y _ ys e) own.1 more)

known_behind : (xs ys zs : List Reg) → IsBegun xs ys → IsBegun ys zs
    → AllByRecursion (λ r. IsKnown r.init) (drop (length xs) ys)
    → AllByRecursion (λ r. IsKnown r.init) (drop (length ys) zs)
    → AllByRecursion (λ r. IsKnown r.init) (drop (length xs) zs)
known_behind [] ys zs d e own more = all_known ys zs e own more
known_behind (x ∷ xs) [] zs d e own more = absurd (none_longer x xs d)
known_behind (x ∷ xs) (y ∷ ys) [] d e own more = absurd (none_longer y ys e)
known_behind (x ∷ xs) (y ∷ ys) (z ∷ zs) d e own more =
    known_behind xs ys zs (rest_of y x _ xs d) (rest_of z y _ ys e) own more

pub known_on : (a b c : Netlist) (m n : ℕ) → AddsKnown a b m → AddsKnown b c n → AddsKnown a c (m + n)
known_on a b c m n h k = record {
  adds = regs_on a b c h.adds k.adds;
  count = omega (arith, h.count, k.count);
  known = known_behind a.regs b.regs c.regs h.adds.regs k.adds.regs h.known k.known;
}

pub behind_on : (old new : Netlist) (node id : ℕ) → IsNet old → AddsRegs old new → IsNode old node → IsNode old id
    → IsBehind old node id → IsBehind new node id
behind_on old new node id whole adds own there behind = λ inputs start k.
    (old_run old new inputs start (suc k) whole adds).value id there
    ∙ behind inputs (first_regs (length old.regs) start) k
    ∙ sym ((old_run old new inputs start k whole adds).value node own)

pub nodes_with : (old new : Netlist) (w : ℕ) (ids : List ℕ) → AddsRegs old new → AreNodesOf old w ids
    → AreNodesOf new w ids
nodes_with old new w [] adds own = tt
nodes_with old new w (id ∷ ids) adds own =
    (regs_node_on old new w id adds own.0, nodes_with old new w ids adds own.1)

pub nodes_push : (net : Netlist) (w : ℕ) (ids : List ℕ) (id : ℕ) → AreNodesOf net w ids → IsNodeOf net w id
    → AreNodesOf net w (ids ++ id ∷ [])
nodes_push net w [] id own there = (there, tt)
nodes_push net w (x ∷ xs) id own there = (own.0, nodes_push net w xs id own.1 there)

pub node_here : (net : Netlist) (w : ℕ) (ids : List ℕ) (i : ℕ) → AreNodesOf net w ids → i < length ids
    → IsNodeOf net w (slice_index ids i)
node_here net w [] i own below = absurd (omega arith)
node_here net w (x ∷ xs) zero own below = own.0
node_here net w (x ∷ xs) (suc i) own below = node_here net w xs i own.1 (omega arith)

-- ---- a history

pub history_none : (net : Netlist) (ids : List ℕ) → IsHistory net (length ids) ids
history_none net ids = λ i below. absurd (omega (arith, below))

pub history_on : (old new : Netlist) (w each : ℕ) (ids : List ℕ) → IsNet old → AddsRegs old new
    → AreNodesOf old w ids → IsHistory old each ids → IsHistory new each ids
history_on old new w each ids whole adds own h = λ i below.
    behind_on old new (slice_index ids i) (slice_index ids (i + each)) whole adds
    (node_here old w ids i own (omega (arith, below))).0 (node_here old w ids (i + each) own below).0 (h i below)

pub history_push : (net : Netlist) (each place : ℕ) (ids : List ℕ) (id : ℕ) → IsHistory net each ids
    → length ids ≡ each + place → IsBehind net (slice_index ids place) id → 0 < each
    → IsHistory net each (ids ++ id ∷ [])
history_push net each place ids id h long behind some i below = by (nat_lt (i + each) (length ids)) refl
  where
    by : (b : Bool) → nat_lt (i + each) (length ids) ≡ b
        → IsBehind net (slice_index (ids ++ id ∷ []) i) (slice_index (ids ++ id ∷ []) (i + each))
    by true t =
        let less : i + each < length ids = grind (arith, nat_tests, t) in
        let P : ℕ → Type 0 = λ n. IsBehind net n (slice_index (ids ++ id ∷ []) (i + each)) in
        let Q : ℕ → Type 0 = λ n. IsBehind net (slice_index ids i) n in
        subst P (sym (get_or_append_left ids (id ∷ []) 0 i (omega (arith, less))))
        (subst Q (sym (get_or_append_left ids (id ∷ []) 0 (i + each) less)) (h i less))
    by false t =
        let last : length ids ≡ i + each = grind (arith, nat_tests, t, below, length_push ids id) in
        let same : i ≡ place = omega (arith, last, long) in
        let P : ℕ → Type 0 = λ n. IsBehind net n (slice_index (ids ++ id ∷ []) (i + each)) in
        let Q : ℕ → Type 0 = λ n. IsBehind net (slice_index ids i) n in
        let R : ℕ → Type 0 = λ n. IsBehind net (slice_index ids n) id in
        subst P (sym (get_or_append_left ids (id ∷ []) 0 i (omega (arith, last, some))))
        (subst Q (sym (get_or_push ids id 0 (i + each) last)) (subst R (sym same) behind))

-- there are nodes where there is a place among their product, and not many places
pub some_words : (n m p : ℕ) → p < n * m → 0 < n
some_words zero m p below = absurd (omega (arith, below))
some_words (suc n) m p below = omega arith

pub few_places : (n m p : ℕ) → n ≤ 2 → m ≤ 100 → p < n * m → p < 200
few_places zero m p few most below = absurd (omega (arith, below))
few_places (suc zero) m p few most below = omega (arith, most, below)
few_places (suc (suc zero)) m p few most below = omega (arith, most, below)
few_places (suc (suc (suc n))) m p few most below = absurd (omega (arith, few))
