-- What stands for registers and memories in the first cycle.
use Rattle.std.specs.Prelude.{◌≡◌, refl, ℕ, zero, suc, ◌+◌, ◌*◌, ◌<◌, ◌≤◌, ◌^◌, sum, List, [], ◌∷◌, ◌++◌}
use Rattle.std.specs.Prelude.{length, map, take, Some, slice_get}
use Rattle.std.proofs.Common.{ap, sym, ◌∙◌, arith, subst}
use Rattle.std.proofs.lemmas.List.{length-map, take_all}
use Rattle.wn_net.specs.declared.parts.Reg.{Reg}
use Rattle.wn_net.specs.declared.parts.Mem.{Mem}
use Rattle.wn_net.specs.declared.parts.State.{State}
use Rattle.wn_net.specs.declared.parts.Init.{Init}
use Rattle.wn_net.specs.declared.parts.Init.TheVariants as init
use Rattle.wn_net.specs.Net.{Netlist, IsMemOf, IsNet, shape_of}
use Rattle.wn_run.specs.Runs.{start_number, regs_from, words_from, mems_from}
use Rattle.bm_unroll.specs.declared.state.StartNodes.{StartNodes}
use Rattle.bm_unroll.specs.declared.draft.Draft.{Draft}
use Rattle.bm_unroll.specs.declared.frames.Source.TheVariants as s
use Rattle.bm_unroll.specs.Frames.{IsChoice, source_width}
use Rattle.bm_unroll.specs.Draft.{Extends, HasStart, IsDraft, Means, MeansAll, MeansMems, rank}
use Rattle.bm_unroll.proofs.Items.{get_mapped, get_within, index_mapped, list_mapped, mapped_next, sum_first}
use Rattle.bm_unroll.proofs.Items.{sum_next, sum_within}
use Rattle.bm_unroll.proofs.Drafting.{draft_more, extends_more, extends_none, extends_on}
use Rattle.bm_unroll.proofs.Meaning.{meant_as, meant_next, meant_none, mems_as, mems_next, mems_none, mems_on, meant_on}

-- ---- numbers

regs_next : (choices : ℕ → ℕ) (i n j : ℕ) (rs : List Reg) (r : Reg) → slice_get rs n ≡ Some r → j ≡ i + n
    → take (suc n) (regs_from choices i rs) ≡ take n (regs_from choices i rs) ++ start_number (choices j) r.init ∷ []
regs_next choices i n j [] r at is = cc
regs_next choices i zero j (y ∷ ys) r at is =
    let p : y ≡ r = cc in
    let e : i ≡ j = omega arith in
    λ k. start_number (choices (e k)) (p k).init ∷ []
regs_next choices i (suc n) j (y ∷ ys) r at is =
    ap (λ us. start_number (choices i) y.init ∷ us) (regs_next choices (i + 1) n j ys r at (omega arith))

regs_all : (choices : ℕ → ℕ) (i : ℕ) (rs : List Reg) → length (regs_from choices i rs) ≡ length rs
regs_all choices i [] = refl
regs_all choices i (r ∷ rs) = ap suc (regs_all choices (i + 1) rs)

words_next : (choices : ℕ → ℕ) (i n j : ℕ) (xs : List Init) (x : Init) → slice_get xs n ≡ Some x → j ≡ i + n
    → take (suc n) (words_from choices i xs) ≡ take n (words_from choices i xs) ++ start_number (choices j) x ∷ []
words_next choices i n j [] x at is = cc
words_next choices i zero j (y ∷ ys) x at is =
    let p : y ≡ x = cc in
    let e : i ≡ j = omega arith in
    λ k. start_number (choices (e k)) (p k) ∷ []
words_next choices i (suc n) j (y ∷ ys) x at is =
    ap (λ us. start_number (choices i) y ∷ us) (words_next choices (i + 1) n j ys x at (omega arith))

words_all : (choices : ℕ → ℕ) (i : ℕ) (xs : List Init) → length (words_from choices i xs) ≡ length xs
words_all choices i [] = refl
words_all choices i (x ∷ xs) = ap suc (words_all choices (i + 1) xs)

mems_from_next : (choices : ℕ → ℕ → ℕ) (i n j : ℕ) (ms : List Mem) (m : Mem) → slice_get ms n ≡ Some m → j ≡ i + n
    → take (suc n) (mems_from choices i ms) ≡ take n (mems_from choices i ms) ++ words_from (choices j) 0 m.init ∷ []
mems_from_next choices i n j [] m at is = cc
mems_from_next choices i zero j (y ∷ ys) m at is =
    let p : y ≡ m = cc in
    let e : i ≡ j = omega arith in
    λ k. words_from (choices (e k)) 0 (p k).init ∷ []
mems_from_next choices i (suc n) j (y ∷ ys) m at is =
    ap (λ us. words_from (choices i) 0 y.init ∷ us) (mems_from_next choices (i + 1) n j ys m at (omega arith))

mems_all : (choices : ℕ → ℕ → ℕ) (i : ℕ) (ms : List Mem) → length (mems_from choices i ms) ≡ length ms
mems_all choices i [] = refl
mems_all choices i (m ∷ ms) = ap suc (mems_all choices (i + 1) ms)

-- ---- registers

-- What stands for the first registers.
pub record Holding (net : Netlist) (old now : Draft) (n : ℕ) (made : List ℕ) : Type 0 where
  pub low : n ≤ length net.regs
  pub extends : Extends old now n
  pub means : MeansAll now (take n (shape_of net).regs) (λ ch. take n (regs_from ch.regs 0 net.regs)) made
  pub draft : (cycle : ℕ) → IsDraft net cycle 0 old → IsDraft net cycle n now

pub holding_none : (net : Netlist) (d : Draft) (made : List ℕ) → made ≡ []
    → length d.net.inputs ≡ length d.sources.items → Holding net d d 0 made
holding_none net d made is each =
    let P : List ℕ → Type 0 = λ ids. Holding net d d 0 ids in
    let none : Holding net d d 0 [] = record {
      low = omega arith;
      extends = extends_none d 0 each;
      means = meant_none d;
      draft = λ cycle h. h;
    } in
    subst P (sym is) none

pub holding_next : (net : Netlist) (old now new : Draft) (n : ℕ) (made longer : List ℕ) (r : Reg) (id : ℕ)
    → slice_get net.regs n ≡ Some r → Holding net old now n made → Extends now new 1
    → Means new r.width (λ ch. start_number (ch.regs n) r.init) id
    → ((any : Netlist) (cycle bound : ℕ) → IsDraft any cycle bound now
    → (r.init ≡ init.Free → IsChoice any cycle (s.RegStart n)) → r.width ≡ source_width any (s.RegStart n)
    → bound ≤ rank (s.RegStart n) → IsDraft any cycle (rank (s.RegStart n) + 1) new)
    → longer ≡ made ++ id ∷ [] → Holding net old new (n + 1) longer
holding_next net old now new n made longer r id at h more means draft pushed =
    let one_more : suc n ≡ n + 1 = omega arith in
    let P : ℕ → Type 0 = λ m. Holding net old new m longer in
    let made_is : Holding net old new (suc n) longer = record {
      low = let below = get_within net.regs n r at in omega arith;
      extends = extends_on old now new n 1 (suc n) (omega arith) h.extends more;
      means =
          meant_next now new 1 (take n (shape_of net).regs) (take (suc n) (shape_of net).regs)
          (λ ch. take n (regs_from ch.regs 0 net.regs)) (λ ch. take (suc n) (regs_from ch.regs 0 net.regs)) made longer
          r.width (λ ch. start_number (ch.regs n) r.init) id more h.means means
          (mapped_next (λ (x : Reg). x.width) net.regs n r at)
          (λ ch. regs_next ch.regs 0 n n net.regs r at (omega arith)) pushed;
      draft = λ cycle d.
          let D : ℕ → Type 0 = λ b. IsDraft net cycle b new in
          subst D (sym one_more) (draft net cycle n (h.draft cycle d)
          (λ free. get_mapped (λ (x : Reg). x.init) net.regs n r at ∙ ap Some free)
          (sym (index_mapped (λ (x : Reg). x.width) net.regs n r at)) (omega arith));
    } in
    subst P one_more made_is

pub holding_all : (net : Netlist) (old now : Draft) (n : ℕ) (made ids : List ℕ) → ids ≡ made → length net.regs ≤ n
    → Holding net old now n made
    → MeansAll now (shape_of net).regs (λ ch. regs_from ch.regs 0 net.regs) ids
holding_all net old now n made ids is past h =
    let P : List ℕ → Type 0 = λ xs. MeansAll now (shape_of net).regs (λ ch. regs_from ch.regs 0 net.regs) xs in
    subst P (sym is) (meant_as now (take n (shape_of net).regs) (shape_of net).regs (λ ch. take n (regs_from ch.regs 0 net.regs))
    (λ ch. regs_from ch.regs 0 net.regs) made
    (take_all n (shape_of net).regs (omega (arith, length-map net.regs (λ (x : Reg). x.width), past)))
    (λ ch. take_all n (regs_from ch.regs 0 net.regs) (omega (arith, regs_all ch.regs 0 net.regs, past))) h.means)

-- ---- the words of a memory

-- What stands for the first words.
pub record Wording (mem : Mem) (number : ℕ) (old now : Draft) (n : ℕ) (made : List ℕ) : Type 0 where
  pub low : n ≤ length mem.init
  pub extends : Extends old now n
  pub means : MeansAll now (take n (map (λ x. mem.width) mem.init))
      (λ ch. take n (words_from (ch.words number) 0 mem.init)) made
  pub draft : (net : Netlist) (cycle : ℕ) → slice_get net.mems number ≡ Some mem
      → IsDraft net cycle (2 ^ 32 + number * 2 ^ 32) old → IsDraft net cycle (2 ^ 32 + number * 2 ^ 32 + n) now

pub wording_none : (mem : Mem) (number : ℕ) (d : Draft) (made : List ℕ) → made ≡ []
    → length d.net.inputs ≡ length d.sources.items → Wording mem number d d 0 made
wording_none mem number d made is each =
    let P : List ℕ → Type 0 = λ ids. Wording mem number d d 0 ids in
    let none : Wording mem number d d 0 [] = record {
      low = omega arith;
      extends = extends_none d 0 each;
      means = meant_none d;
      draft = λ net cycle at h.
          draft_more net cycle (2 ^ 32 + number * 2 ^ 32) (2 ^ 32 + number * 2 ^ 32 + 0) d (omega arith) h;
    } in
    subst P (sym is) none

pub wording_next : (mem : Mem) (number : ℕ) (old now new : Draft) (n : ℕ) (made longer : List ℕ) (x : Init) (id : ℕ)
    → slice_get mem.init n ≡ Some x → Wording mem number old now n made → Extends now new 1
    → Means new mem.width (λ ch. start_number (ch.words number n) x) id
    → ((any : Netlist) (cycle bound : ℕ) → IsDraft any cycle bound now
    → (x ≡ init.Free → IsChoice any cycle (s.WordStart number n))
    → mem.width ≡ source_width any (s.WordStart number n)
    → bound ≤ rank (s.WordStart number n) → IsDraft any cycle (rank (s.WordStart number n) + 1) new)
    → longer ≡ made ++ id ∷ [] → Wording mem number old new (n + 1) longer
wording_next mem number old now new n made longer x id at h more means draft pushed =
    let one_more : suc n ≡ n + 1 = omega arith in
    let P : ℕ → Type 0 = λ m. Wording mem number old new m longer in
    let made_is : Wording mem number old new (suc n) longer = record {
      low = let below = get_within mem.init n x at in omega arith;
      extends = extends_on old now new n 1 (suc n) (omega arith) h.extends more;
      means =
          meant_next now new 1 (take n (map (λ x. mem.width) mem.init)) (take (suc n) (map (λ x. mem.width) mem.init))
          (λ ch. take n (words_from (ch.words number) 0 mem.init))
          (λ ch. take (suc n) (words_from (ch.words number) 0 mem.init)) made longer mem.width
          (λ ch. start_number (ch.words number n) x) id more h.means means
          (mapped_next (λ (y : Init). mem.width) mem.init n x at)
          (λ ch. words_next (ch.words number) 0 n n mem.init x at (omega arith)) pushed;
      draft = λ net cycle here d.
          let e : 2 ^ 32 + number * 2 ^ 32 + n + 1 ≡ 2 ^ 32 + number * 2 ^ 32 + suc n = omega arith in
          let D : ℕ → Type 0 = λ b. IsDraft net cycle b new in
          let W : List Init → Type 0 = λ xs. slice_get xs n ≡ Some init.Free in
          subst D e (draft net cycle (2 ^ 32 + number * 2 ^ 32 + n) (h.draft net cycle here d)
          (λ free. subst W (sym (list_mapped (λ (m : Mem). m.init) net.mems number mem here)) (at ∙ ap Some free))
          (sym (index_mapped (λ (m : Mem). m.width) net.mems number mem here)) (omega arith));
    } in
    subst P one_more made_is

pub wording_all : (mem : Mem) (number : ℕ) (old now : Draft) (n : ℕ) (made ids : List ℕ) → ids ≡ made
    → length mem.init ≤ n → Wording mem number old now n made
    → MeansAll now (map (λ x. mem.width) mem.init) (λ ch. words_from (ch.words number) 0 mem.init) ids
wording_all mem number old now n made ids is past h =
    let P : List ℕ → Type 0 = λ xs. MeansAll now (map (λ x. mem.width) mem.init)
    (λ ch. words_from (ch.words number) 0 mem.init) xs in
    subst P (sym is) (meant_as now (take n (map (λ x. mem.width) mem.init)) (map (λ x. mem.width) mem.init)
    (λ ch. take n (words_from (ch.words number) 0 mem.init)) (λ ch. words_from (ch.words number) 0 mem.init) made
    (take_all n (map (λ (x : Init). mem.width) mem.init)
    (omega (arith, length-map mem.init (λ (x : Init). mem.width), past)))
    (λ ch. take_all n (words_from (ch.words number) 0 mem.init)
    (omega (arith, words_all (ch.words number) 0 mem.init, past))) h.means)

-- ---- all memories

-- What stands for the words of the first memories.
pub record Storing (net : Netlist) (old now : Draft) (n : ℕ) (made : List (List ℕ)) : Type 0 where
  pub low : n ≤ length net.mems
  pub extends : Extends old now (sum (take n (map (λ m. m.words) net.mems)))
  pub means : MeansMems now (take n (shape_of net).mems) (λ ch. take n (mems_from ch.words 0 net.mems)) made
  pub draft : (cycle : ℕ) → IsDraft net cycle (2 ^ 32) old → IsDraft net cycle (2 ^ 32 + n * 2 ^ 32) now

pub storing_none : (net : Netlist) (d : Draft) (made : List (List ℕ)) → made ≡ []
    → length d.net.inputs ≡ length d.sources.items → Storing net d d 0 made
storing_none net d made is each =
    let P : List (List ℕ) → Type 0 = λ mems. Storing net d d 0 mems in
    let none : Storing net d d 0 [] = record {
      low = omega arith;
      extends = extends_none d 0 each;
      means = mems_none d;
      draft = λ cycle h. draft_more net cycle (2 ^ 32) (2 ^ 32 + 0 * 2 ^ 32) d (omega arith) h;
    } in
    subst P (sym is) none

-- the words of one memory are few
pub words_few : (net : Netlist) (n : ℕ) (mem : Mem) → slice_get net.mems n ≡ Some mem → IsMemOf net mem
    → sum (take n (map (λ m. m.words) net.mems)) + length mem.init ≤ sum (map (λ m. m.words) net.mems)
words_few net n mem at own =
    let us = map (λ (m : Mem). m.words) net.mems in
    omega (
      arith,
      sum_within us n (omega (arith, get_within net.mems n mem at, length-map net.mems (λ (m : Mem). m.words))),
      index_mapped (λ (m : Mem). m.words) net.mems n mem at,
      own.each,
    )

pub storing_next : (net : Netlist) (old now new : Draft) (n : ℕ) (made longer : List (List ℕ)) (mem : Mem)
    (words : List ℕ) → slice_get net.mems n ≡ Some mem → IsMemOf net mem → Storing net old now n made
    → Extends now new (length mem.init)
    → MeansAll new (map (λ x. mem.width) mem.init) (λ ch. words_from (ch.words n) 0 mem.init) words
    → ((any : Netlist) (cycle : ℕ) → slice_get any.mems n ≡ Some mem → IsDraft any cycle (2 ^ 32 + n * 2 ^ 32) now
    → IsDraft any cycle (2 ^ 32 + (n + 1) * 2 ^ 32) new)
    → longer ≡ made ++ words ∷ [] → Storing net old new (n + 1) longer
storing_next net old now new n made longer mem words at own h more means draft pushed =
    let one_more : suc n ≡ n + 1 = omega arith in
    let us = map (λ (m : Mem). m.words) net.mems in
    let below : n < length us = omega
    (arith, get_within net.mems n mem at, length-map net.mems (λ (m : Mem). m.words)) in
    let P : ℕ → Type 0 = λ m. Storing net old new m longer in
    let made_is : Storing net old new (suc n) longer = record {
      low = let here = get_within net.mems n mem at in omega arith;
      extends =
          extends_on old now new (sum (take n us)) (length mem.init) (sum (take (suc n) us))
          (omega (
            arith,
            sum_next us n below,
            index_mapped (λ (m : Mem). m.words) net.mems n mem at,
            own.each,
          )) h.extends more;
      means =
          mems_next now new (length mem.init) (take n (shape_of net).mems) (take (suc n) (shape_of net).mems)
          (λ ch. take n (mems_from ch.words 0 net.mems)) (λ ch. take (suc n) (mems_from ch.words 0 net.mems)) made
          longer mem.init mem.width (λ ch. words_from (ch.words n) 0 mem.init) words more h.means
          (omega (arith, own.each, own.words)) means (mapped_next (λ (m : Mem). m.width) net.mems n mem at)
          (λ ch. mems_from_next ch.words 0 n n net.mems mem at (omega arith)) pushed;
      draft = λ cycle d.
          let D : ℕ → Type 0 = λ b. IsDraft net cycle (2 ^ 32 + b * 2 ^ 32) new in
          subst D (sym one_more) (draft net cycle at (h.draft cycle d));
    } in
    subst P one_more made_is

pub storing_all : (net : Netlist) (old now : Draft) (n : ℕ) (made mems : List (List ℕ)) → mems ≡ made
    → length net.mems ≤ n → Storing net old now n made
    → MeansMems now (shape_of net).mems (λ ch. mems_from ch.words 0 net.mems) mems
storing_all net old now n made mems is past h =
    let P : List (List ℕ) → Type 0 = λ xs. MeansMems now (shape_of net).mems (λ ch. mems_from ch.words 0 net.mems) xs
    in
    subst P (sym is) (mems_as now (take n (shape_of net).mems) (shape_of net).mems (λ ch. take n (mems_from ch.words 0 net.mems))
    (λ ch. mems_from ch.words 0 net.mems) made
    (take_all n (shape_of net).mems (omega (arith, length-map net.mems (λ (m : Mem). m.width), past)))
    (λ ch. take_all n (mems_from ch.words 0 net.mems) (omega (arith, mems_all ch.words 0 net.mems, past))) h.means)

pub storing_few : (net : Netlist) (old now : Draft) (n : ℕ) (made : List (List ℕ)) → Storing net old now n made
    → Extends old now (sum (map (λ m. m.words) net.mems))
storing_few net old now n made h =
    let us = map (λ (m : Mem). m.words) net.mems in
    extends_more old now (sum (take n us)) (sum us) (sum_first us n) h.extends

pub storing_draft : (net : Netlist) (old now : Draft) (n : ℕ) (made : List (List ℕ)) → IsNet net
    → Storing net old now n made
    → (cycle : ℕ) → IsDraft net cycle (2 ^ 32) old → IsDraft net cycle (2 ^ 66) now
storing_draft net old now n made whole h = λ cycle d.
    draft_more net cycle (2 ^ 32 + n * 2 ^ 32) (2 ^ 66) now (omega (arith, h.low, whole.few_mems)) (h.draft cycle d)

-- ---- the state

pub start_made : (net : Netlist) (old new : Draft) (count : ℕ) (state : StartNodes) (regs : List ℕ)
    (mems : List (List ℕ)) → Extends old new count
    → MeansAll old (shape_of net).regs (λ ch. regs_from ch.regs 0 net.regs) regs
    → MeansMems new (shape_of net).mems (λ ch. mems_from ch.words 0 net.mems) mems
    → state.regs ≡ regs → state.mems ≡ mems → HasStart net new state
start_made net old new count state regs mems h r m regs_are mems_are =
    let k = meant_on old new count (shape_of net).regs (λ ch. regs_from ch.regs 0 net.regs) regs h r in
    let P : StartNodes → Type 0 = λ s. HasStart net new s in
    let e : record { regs = regs; mems = mems } ≡ state =
    λ i. record { regs = sym regs_are i; mems = sym mems_are i } in
    let made : HasStart net new (record { regs = regs; mems = mems }) = record {
      regs_there = k.there;
      mems_there = m.there;
      regs = k.wide;
      mems = m.wide;
      values = λ ch g a. λ i. record { regs = k.values ch g a i; mems = m.values ch g a i };
    } in
    subst P e made

-- in a draft with more sources
pub start_on : (net : Netlist) (old new : Draft) (count : ℕ) (state : StartNodes) → Extends old new count
    → HasStart net old state → HasStart net new state
start_on net old new count state h own =
    let regs : MeansAll old (shape_of net).regs (λ ch. regs_from ch.regs 0 net.regs) state.regs = record {
      there = own.regs_there;
      wide = own.regs;
      values = λ ch g a. ap (λ (st : State). st.regs) (own.values ch g a);
    } in
    let mems : MeansMems old (shape_of net).mems (λ ch. mems_from ch.words 0 net.mems) state.mems = record {
      there = own.mems_there;
      wide = own.mems;
      values = λ ch g a. ap (λ (st : State). st.mems) (own.values ch g a);
    } in
    start_made net old new count state state.regs state.mems h regs
    (mems_on old new count (shape_of net).mems (λ ch. mems_from ch.words 0 net.mems) state.mems h mems) refl refl
