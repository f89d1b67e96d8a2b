-- A search among retirements as one among the entries that are kept of them.
use Rattle.std.specs.Prelude.{◌≡◌, refl, ℕ, zero, suc, ◌+◌, ◌<◌, ◌≤◌, ◌==◌, Bool, true, false, ◌&&◌, if◌then◌else◌}
use Rattle.std.specs.Prelude.{List, [], ◌∷◌, ◌++◌, length, map, reverse}
use Rattle.std.proofs.Common.{ap, sym, ◌∙◌, arith}
use Rattle.std.proofs.lemmas.List.{reverse-append, append_assoc}
use Rattle.rv_table.specs.declared.retire.Retire.{Retire}
use Rattle.wn_net.specs.Value.{Given}
use Rattle.wn_net.specs.Net.{Netlist, value_at}
use Rattle.rvfi_port.specs.declared.port.Channel.{Channel}
use Rattle.rvfi_port.specs.Channels.{retire_at}
use Rattle.ck_cfg.specs.declared.kind.CheckKind.{CheckKind}
use Rattle.ck_cfg.specs.declared.kind.CheckKind.TheVariants as kinds
use Rattle.ck_spec.specs.declared.retired.Retired.{Retired}
use Rattle.ck_history.specs.Entries.{Entry}
use Rattle.ck_history.specs.Lines.{past}
use Rattle.ck_history.specs.declared.sought.Sought.{Sought}
use Rattle.ck_history.specs.Searches.{key_meets, small_meets, agrees}
use Rattle.ck_gen.specs.Retirements.{retired_in, retired_from, retirements}
use Rattle.ck_gen.specs.Kept.{kept, kept_in}
use Rattle.ck_gen.proofs.Says.{first_says, says_append, agrees_or, or_append}

abbrev pub told : ℕ → ℕ → Retire → Retired
told cycle channel r = record { cycle = cycle; channel = channel; retire = r }

-- the numbers of what is kept are those that are sought
abbrev pub meets : CheckKind → Sought → Entry → ℕ → Retire → Bool
meets kind s own there r =
    key_meets s.key own.key (kept kind there r).key && small_meets s.small own (kept kind there r)

-- it is kept as what it is
pub kept_there : (kind : CheckKind) (there : ℕ) (r : Retire) → (kept kind there r).there ≡ there
kept_there kinds.Insn there r = refl
kept_there kinds.Ill there r = refl
kept_there kinds.Reg there r = refl
kept_there kinds.PcFwd there r = refl
kept_there kinds.PcBwd there r = refl
kept_there kinds.Causal there r = refl
kept_there kinds.Unique there r = refl
kept_there kinds.Liveness there r = refl
kept_there kinds.Imem there r = refl
kept_there kinds.Dmem there r = refl

-- the channels of a cycle in two parts
pub split_from : (net : Netlist) (g : Given) (k j : ℕ) (xs ys : List Channel)
    → retired_from net g k j (xs ++ ys) ≡ retired_from net g k j xs ++ retired_from net g k (j + length xs) ys
split_from net g k j [] ys = let e : j ≡ j + 0 = omega arith in ap (λ n. retired_from net g k n ys) e
split_from net g k j (x ∷ xs) ys =
    let e : j + 1 + length xs ≡ j + suc (length xs) = omega arith in
    let here = retired_in net g k j x in
    ap (λ us. here ++ us) (split_from net g k (j + 1) xs ys)
    ∙ ap (λ n. here ++ (retired_from net g k (j + 1) xs ++ retired_from net g k n ys)) e
    ∙ sym (append_assoc here (retired_from net g k (j + 1) xs) (retired_from net g k (j + suc (length xs)) ys))

module _ (net : Netlist) (kind : CheckKind) (s : Sought) (own : Entry) (p t : Retired → Bool) where
  -- what is sought in a cycle among the channels from `low` to below `high` is what is sought of the entries
  pub record AreAlike (cycle low high : ℕ) : Type 0 where
    pub sought : (j : ℕ) (there : ℕ) (r : Retire) → low ≤ j → j < high
        → p (told cycle j r) ≡ meets kind s own there r
    pub says : (j : ℕ) (there : ℕ) (r : Retire) → low ≤ j → j < high
        → t (told cycle j r) ≡ agrees s.word own (kept kind there r)

  -- nothing is sought in it
  abbrev pub IsPassedOver : ℕ → ℕ → ℕ → Type 0
  IsPassedOver cycle low high = (j : ℕ) (r : Retire) → low ≤ j → j < high → p (told cycle j r) ≡ false

  one_channel : (g : Given) (cycle j high : ℕ) (c : Channel) (rest : Bool) → AreAlike cycle j high → j < high
      → first_says p t rest (reverse (retired_in net g cycle j c))
      ≡ agrees_or s own rest (kept kind (value_at net g c.valid) (retire_at net g c) ∷ [])
  one_channel g cycle j high c rest alike below = by (value_at net g c.valid == 1) refl
    where
      r : Retire
      r = retire_at net g c

      v : ℕ
      v = value_at net g c.valid

      e : Entry
      e = kept kind v r

      by : (b : Bool) → (v == 1) ≡ b
          → first_says p t rest (reverse (if b then told cycle j r ∷ [] else []))
          ≡ (if e.there == 1 && meets kind s own v r then agrees s.word own e else rest)
      by true is =
          (λ i. if alike.sought j v r (omega arith) below i then alike.says j v r (omega arith) below i else rest)
          ∙ sym (ap (λ b. if b && meets kind s own v r then agrees s.word own e else rest)
          (ap (λ n. n == 1) (kept_there kind v r) ∙ is))
      by false is =
          sym (ap (λ b. if b && meets kind s own v r then agrees s.word own e else rest)
          (ap (λ n. n == 1) (kept_there kind v r) ∙ is))

  more : (cycle low low' high high' : ℕ) → low ≤ low' → high' ≤ high → AreAlike cycle low high → AreAlike cycle low'
      high'
  more cycle low low' high high' l h alike = record {
    sought = λ j there r a b. alike.sought j there r (omega (arith, a, l)) (omega (arith, b, h));
    says = λ j there r a b. alike.says j there r (omega (arith, a, l)) (omega (arith, b, h));
  }

  -- the channels of a cycle
  pub cycle_says : (g : Given) (cycle j high : ℕ) (cs : List Channel) (rest : Bool) → AreAlike cycle j high
      → j + length cs ≤ high
      → first_says p t rest (reverse (retired_from net g cycle j cs)) ≡ agrees_or s own rest (kept_in kind net g cs)
  cycle_says g cycle j high [] rest alike within = refl
  cycle_says g cycle j high (c ∷ cs) rest alike within =
      let here = retired_in net g cycle j c in
      let behind = retired_from net g cycle (j + 1) cs in
      let f : Channel → Entry = λ c. kept kind (value_at net g c.valid) (retire_at net g c) in
      let first = first_says p t rest (reverse here) in
      ap (first_says p t rest) (reverse-append here behind)
      ∙ says_append p t rest (reverse behind) (reverse here)
      ∙ cycle_says g cycle (j + 1) high cs first (more cycle j (j + 1) high high (omega arith) (omega arith) alike)
      (omega (arith, within))
      ∙ ap (λ b. agrees_or s own b (kept_in kind net g cs))
      (one_channel g cycle j high c rest alike (omega (arith, within)))
      ∙ sym (ap (agrees_or s own rest) (reverse-append (f c ∷ []) (map f cs))
      ∙ or_append s own rest (reverse (map f cs)) (f c ∷ []))

  -- channels in which nothing is sought, from the last to the first and from the first to the last
  pub passed_back : (g : Given) (cycle j high : ℕ) (cs : List Channel) (rest : Bool) → IsPassedOver cycle j high
      → j + length cs ≤ high
      → first_says p t rest (reverse (retired_from net g cycle j cs)) ≡ rest
  passed_back g cycle j high [] rest none within = refl
  passed_back g cycle j high (c ∷ cs) rest none within =
      let here = retired_in net g cycle j c in
      let behind = retired_from net g cycle (j + 1) cs in
      ap (first_says p t rest) (reverse-append here behind)
      ∙ says_append p t rest (reverse behind) (reverse here)
      ∙ passed_back g cycle (j + 1) high cs (first_says p t rest (reverse here))
      (λ i r h b. none i r (omega (arith, h)) b)
      (omega (arith, within))
      ∙ by (value_at net g c.valid == 1)
    where
      by : (b : Bool) → first_says p t rest (reverse (if b then told cycle j (retire_at net g c) ∷ [] else [])) ≡ rest
      by true = ap (λ b. if b then t (told cycle j (retire_at net g c)) else rest)
          (none j (retire_at net g c) (omega arith) (omega (arith, within)))
      by false = refl

  pub passed : (g : Given) (cycle j high : ℕ) (cs : List Channel) (rest : Bool) → IsPassedOver cycle j high
      → j + length cs ≤ high
      → first_says p t rest (retired_from net g cycle j cs) ≡ rest
  passed g cycle j high [] rest none within = refl
  passed g cycle j high (c ∷ cs) rest none within =
      let here = retired_in net g cycle j c in
      let behind = retired_from net g cycle (j + 1) cs in
      says_append p t rest here behind
      ∙ ap (λ b. first_says p t b here) (passed g cycle (j + 1) high cs rest
      (λ i r h b. none i r (omega (arith, h)) b) (omega (arith, within)))
      ∙ by (value_at net g c.valid == 1)
    where
      by : (b : Bool) → first_says p t rest (if b then told cycle j (retire_at net g c) ∷ [] else []) ≡ rest
      by true = ap (λ b. if b then t (told cycle j (retire_at net g c)) else rest)
          (none j (retire_at net g c) (omega arith) (omega (arith, within)))
      by false = refl

  -- whole cycles
  pub cycles_say : (run : ℕ → Given) (cs : List Channel) (first count : ℕ) (rest : Bool)
      → ((k : ℕ) → first ≤ k → k < first + count → AreAlike k 0 (length cs))
      → first_says p t rest (reverse (retirements net run cs first count))
      ≡ agrees_or s own rest (past (λ k. kept_in kind net (run k) cs) first count)
  cycles_say run cs first zero rest alike = refl
  cycles_say run cs first (suc count) rest alike =
      let before = retirements net run cs first count in
      let here = retired_from net (run (first + count)) (first + count) 0 cs in
      let es = past (λ k. kept_in kind net (run k) cs) first count in
      ap (first_says p t rest) (reverse-append before here)
      ∙ says_append p t rest (reverse here) (reverse before)
      ∙ ap (λ b. first_says p t b (reverse here))
      (cycles_say run cs first count rest (λ k l h. alike k l (omega (arith, h))))
      ∙ cycle_says (run (first + count)) (first + count) 0 (length cs) cs (agrees_or s own rest es)
      (alike (first + count) (omega arith) (omega arith)) (omega arith)
      ∙ sym (or_append s own rest (kept_in kind net (run (first + count)) cs) es)

  -- and the channels below one in the last cycle, where nothing is sought from that one on
  pub earlier_says : (run : ℕ → Given) (before behind : List Channel) (first count : ℕ)
      → ((k : ℕ) → first ≤ k → k < first + count → AreAlike k 0 (length (before ++ behind)))
      → AreAlike (first + count) 0 (length before)
      → IsPassedOver (first + count) (length before) (length before + length behind)
      → first_says p t true (reverse (retirements net run (before ++ behind) first (suc count)))
      ≡ agrees_or s own true (kept_in kind net (run (first + count)) before
      ++ past (λ k. kept_in kind net (run k) (before ++ behind)) first count)
  earlier_says run before behind first count alike last none =
      let cs = before ++ behind in
      let g = run (first + count) in
      let k = first + count in
      let rs = retirements net run cs first count in
      let es = past (λ k. kept_in kind net (run k) cs) first count in
      let low = retired_from net g k 0 before in
      let high = retired_from net g k (0 + length before) behind in
      let e : 0 + length before ≡ length before = omega arith in
      let rest = first_says p t true (reverse rs) in
      ap (first_says p t true) (reverse-append rs (retired_from net g k 0 cs))
      ∙ says_append p t true (reverse (retired_from net g k 0 cs)) (reverse rs)
      ∙ ap (λ xs. first_says p t rest (reverse xs)) (split_from net g k 0 before behind)
      ∙ ap (first_says p t rest) (reverse-append low high)
      ∙ says_append p t rest (reverse high) (reverse low)
      ∙ passed_back g k (0 + length before) (length before + length behind) behind (first_says p t rest (reverse low))
      (λ j r h b. none j r (omega (arith, h)) b) (omega arith)
      ∙ cycle_says g k 0 (length before) before rest last (omega arith)
      ∙ ap (λ b. agrees_or s own b (kept_in kind net g before)) (cycles_say run cs first count true alike)
      ∙ sym (or_append s own true (kept_in kind net g before) es)

  -- the channels of a cycle but one, in which nothing is sought
  pub others_of : (g : Given) (k : ℕ) (before behind : List Channel) (c : Channel) (rest : Bool)
      → AreAlike k 0 (length before)
      → IsPassedOver k (0 + length before) (0 + length before + 1)
      → AreAlike k (0 + length before + 1) (0 + length before + 1 + length behind)
      → first_says p t rest (reverse (retired_from net g k 0 (before ++ c ∷ behind)))
      ≡ agrees_or s own rest (kept_in kind net g behind ++ kept_in kind net g before)
  others_of g k before behind c rest alike_low passed_own alike_high =
      let n = length before in
      let low = retired_from net g k 0 before in
      let mid = retired_from net g k (0 + n) (c ∷ []) in
      let high = retired_from net g k (0 + n + 1) behind in
      let says : Bool → List Retired → Bool = λ x xs. first_says p t x xs in
      let whole : retired_from net g k 0 (before ++ c ∷ behind) ≡ low ++ (mid ++ high) =
      split_from net g k 0 before (c ∷ behind)
      ∙ ap (λ xs. low ++ xs) (split_from net g k (0 + n) (c ∷ []) behind) in
      let x : Bool = agrees_or s own rest (kept_in kind net g before) in
      ap (λ xs. says rest (reverse xs)) whole
      ∙ ap (says rest) (reverse-append low (mid ++ high) ∙ ap (λ xs. xs ++ reverse low) (reverse-append mid high))
      ∙ says_append p t rest (reverse high ++ reverse mid) (reverse low)
      ∙ says_append p t (says rest (reverse low)) (reverse high) (reverse mid)
      ∙ ap (λ y. says (says y (reverse mid)) (reverse high)) (cycle_says g k 0 n before rest alike_low (omega arith))
      ∙ ap (λ y. says y (reverse high))
      (passed_back g k (0 + n) (0 + n + 1) (c ∷ []) x passed_own (omega arith))
      ∙ cycle_says g k (0 + n + 1) (0 + n + 1 + length behind) behind x alike_high (omega arith)
      ∙ sym (or_append s own rest (kept_in kind net g behind) (kept_in kind net g before))

  -- whole cycles, and behind them one in which one channel is passed over
  pub others_say : (run : ℕ → Given) (before behind : List Channel) (c : Channel) (first count : ℕ)
      → ((k : ℕ) → first ≤ k → k < first + count → AreAlike k 0 (length (before ++ c ∷ behind)))
      → AreAlike (first + count) 0 (length before)
      → IsPassedOver (first + count) (0 + length before) (0 + length before + 1)
      → AreAlike (first + count) (0 + length before + 1) (0 + length before + 1 + length behind)
      → first_says p t true (reverse (retirements net run (before ++ c ∷ behind) first (suc count)))
      ≡ agrees_or s own true (kept_in kind net (run (first + count)) behind
      ++ (kept_in kind net (run (first + count)) before
      ++ past (λ k. kept_in kind net (run k) (before ++ c ∷ behind)) first count))
  others_say run before behind c first count alike low passed_own high =
      let cs = before ++ c ∷ behind in
      let k = first + count in
      let g = run k in
      let rs = retirements net run cs first count in
      let here = retired_from net g k 0 cs in
      let es = past (λ k. kept_in kind net (run k) cs) first count in
      let front = kept_in kind net g behind in
      let back = kept_in kind net g before in
      ap (first_says p t true) (reverse-append rs here)
      ∙ says_append p t true (reverse here) (reverse rs)
      ∙ ap (λ b. first_says p t b (reverse here)) (cycles_say run cs first count true alike)
      ∙ others_of g k before behind c (agrees_or s own true es) low passed_own high
      ∙ sym (or_append s own true (front ++ back) es)
      ∙ ap (agrees_or s own true) (append_assoc front back es)
